-- Whole pieces of a graph, and what exchanging two of them does to a renumbering. Assumes nothing.
use Rattle.std.specs.Prelude.{◌≡◌, ℕ, ◌<◌, Bool, true, cond, ◌≢◌}
use Rattle.pairing.specs.Graph.{Graph, Sound, Iso}

-- a set that no link leaves or enters
abbrev pub Stable : Graph → (ℕ → Bool) → Type 0
Stable A C = (x j : ℕ) → A.kind x ≢ 0 → j < 3 → C (A.row x j) ≡ C x

-- x and y are in one piece: no stable set tells them apart
abbrev pub OnePiece : Graph → ℕ → ℕ → Type 0
OnePiece A x y = (C : ℕ → Bool) → Stable A C → C x ≡ C y

-- a whole piece P of A matched with a whole piece Q of B by h, and k back
pub record Piece (A B : Graph) (P Q : ℕ → Bool) (h k : ℕ → ℕ) : Type 0 where
  pub to : (x : ℕ) → P x ≡ true → (Q (h x) ≡ true) × (k (h x) ≡ x) × (A.kind x ≢ 0) × (B.kind (h x) ≡ A.kind x)
  pub fro : (y : ℕ) → Q y ≡ true → (P (k y) ≡ true) × (h (k y) ≡ y)
  pub links : (x j : ℕ) → P x ≡ true → j < 3 → (P (A.row x j) ≡ true) × (B.row (h x) j ≡ h (A.row x j)) × (B.slot (h x) j ≡ A.slot x j)
  pub one : (x y : ℕ) → P x ≡ true → P y ≡ true → OnePiece A x y
  pub other : (x y : ℕ) → Q x ≡ true → Q y ≡ true → OnePiece B x y

-- f with P sent to Q by h, and what f sent to Q sent where f sent P
abbrev pub exchanged : (P Q : ℕ → Bool) (h k f : ℕ → ℕ) → ℕ → ℕ
exchanged P Q h k f x = cond (P x) (h x) (cond (Q (f x)) (f (k (f x))) (f x))

-- whatever renumbers still does so once a matched piece is exchanged
abbrev pub Exchange : Type 0
Exchange =
    (A B : Graph) (P Q : ℕ → Bool) (h k f g : ℕ → ℕ) → Sound A → Sound B → Piece A B P Q h k → Iso A B f g →
    Iso A B (exchanged P Q h k f) (exchanged Q P k h g)
