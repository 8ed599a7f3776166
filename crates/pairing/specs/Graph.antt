-- Numbered rows with three ports each, for cells and ends alike, and their renumberings. Assumes nothing.
use Rattle.std.specs.Prelude.{◌≡◌, ℕ, ◌<◌, ◌≢◌}

-- the kind of each row, 0 if nothing is there, and the row and the port that each of its ports is linked with
-- a port that is not there is linked with itself
pub record Graph : Type 0 where
  pub kind : ℕ → ℕ
  pub row : ℕ → ℕ → ℕ
  pub slot : ℕ → ℕ → ℕ

-- links are mutual among what is there
pub record Sound (A : Graph) : Type 0 where
  pub there : (p j : ℕ) → A.kind p ≢ 0 → j < 3 → A.kind (A.row p j) ≢ 0
  pub slots : (p j : ℕ) → A.kind p ≢ 0 → j < 3 → A.slot p j < 3
  pub back_row : (p j : ℕ) → A.kind p ≢ 0 → j < 3 → A.row (A.row p j) (A.slot p j) ≡ p
  pub back_slot : (p j : ℕ) → A.kind p ≢ 0 → j < 3 → A.slot (A.row p j) (A.slot p j) ≡ j

-- f, and g back, renumber A into B: every kind and every link, port by port
pub record Iso (A B : Graph) (f g : ℕ → ℕ) : Type 0 where
  pub to : (p : ℕ) → A.kind p ≢ 0 → (B.kind (f p) ≡ A.kind p) × (g (f p) ≡ p)
  pub fro : (q : ℕ) → B.kind q ≢ 0 → (A.kind (g q) ≡ B.kind q) × (f (g q) ≡ q)
  pub links : (p j : ℕ) → A.kind p ≢ 0 → j < 3 → (B.row (f p) j ≡ f (A.row p j)) × (B.slot (f p) j ≡ A.slot p j)

-- some renumbering takes A into B
abbrev pub Isomorphic : Graph → Graph → Type 0
Isomorphic A B = (f : ℕ → ℕ) × (g : ℕ → ℕ) × Iso A B f g
