-- What follows of a pairing's type, and of two pairings of the same nets. Assumes nothing.
use Rattle.std.proofs.Common.{◌≡◌, ℕ, ◌∙◌, ap, sym, subst, arith}
use Rattle.pairing.specs.Graph.{Graph}
use Rattle.pairing.proofs.Pairs.{Ok}
use Rattle.alike.specs.declared.Pairing.{Pairing}
use Rattle.alike.specs.Pairings.{pairs, SameNets}
use Rattle.alike.specs.Sides.{graph_of}

-- its pairs are matched
pub matched : (m : Pairing) → Ok (graph_of m.ours) (graph_of m.theirs) (pairs m)
matched m = record {
  places = λ k h. (m.ours.seated k h, m.theirs.seated k (let e = m.even in omega arith));
  kinds = λ k h. (m.live k h, m.kinds k h);
}

-- a fact about two graphs is one about equal ones
pub over : (P : Graph → Graph → Type 0) (A A' B B' : Graph) → A' ≡ A → B' ≡ B → P A' B' → P A B
over P A A' B B' d e h = subst (λ (X : Graph). P X B) d (subst (P A') e h)

-- a fact about the nets of n is one about those of m
module _ (m n : Pairing) (s : SameNets m n) where
  pub along : (P : Graph → Graph → Type 0) → P (graph_of n.ours) (graph_of n.theirs) → P (graph_of m.ours) (graph_of m.theirs)
  along P = over P _ _ _ _ s.0 s.1

  pub along_back : (P : Graph → Graph → Type 0) → P (graph_of m.ours) (graph_of m.theirs) → P (graph_of n.ours) (graph_of n.theirs)
  along_back P = over P _ _ _ _ (sym s.0) (sym s.1)

  pub matched_too : Ok (graph_of m.ours) (graph_of m.theirs) (pairs n)
  matched_too = along (λ A B. Ok A B (pairs n)) (matched n)

pub same_trans : (m n o : Pairing) → SameNets m n → SameNets n o → SameNets m o
same_trans m n o s t = (t.0 ∙ s.0, t.1 ∙ s.1)

-- a link in one graph is one in an equal graph
module _ (A B : Graph) (e : B ≡ A) (x p q : ℕ) where
  pub row_then : {j : ℕ} → x ≡ B.row p j → p ≡ q → x ≡ A.row q j
  row_then {j} h d = h ∙ ap (λ (G : Graph). G.row p j) e ∙ ap (λ (r : ℕ). A.row r j) d

  pub slot_then : {j : ℕ} → x ≡ B.slot p j → p ≡ q → x ≡ A.slot q j
  slot_then {j} h d = h ∙ ap (λ (G : Graph). G.slot p j) e ∙ ap (λ (r : ℕ). A.slot r j) d
