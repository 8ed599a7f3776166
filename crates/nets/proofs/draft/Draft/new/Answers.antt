use Rattle.std.proofs.Common.{◌≡◌, ℕ, ◌<◌, ◌≤◌, ◌⊎◌, List, get_or, replicate, vec_items, ap, ◌∙◌, inl, inr, arith}
use lib.ListN.{length-replicate, get_or-replicate}
use Rattle.std.proofs.lemmas.List.{get_or_past}
use Rattle.books.specs.declared.table.Cell.{Cell}
use Rattle.nets.specs.Layout.{blank}
use Rattle.nets.proofs.draft.Draft.new.Goals as goal

blanks : (n r : ℕ) → get_or (replicate n blank) r blank ≡ blank
blanks n r = go (cases r)
  where
    cases : (r : ℕ) → (r < n) ⊎ (n ≤ r)
    cases r = grind (arith)

    go : (r < n) ⊎ (n ≤ r) → get_or (replicate n blank) r blank ≡ blank
    go (inl h) = get_or-replicate n r blank blank h
    go (inr h) = get_or_past (replicate n blank) r blank (let z = length-replicate n blank in omega arith)

pub invariant_of-result-clause-ports : goal.invariant_of-result-clause-ports
invariant_of-result-clause-ports c = λ r.
    let a : vec_items c.in_ok-places.places ≡ replicate 1024 blank = c.in_ok-places.ensures.items_if_clones_equal (λ y e. e) in
    let z = ap (λ (cs : List Cell). (get_or cs r blank).arity) a ∙ ap (λ (x : Cell). x.arity) (blanks 1024 r) in
    omega arith
