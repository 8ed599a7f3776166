-- Splices at distinct spots, made in any order. Assumes nothing.
use Rattle.std.proofs.Common.{◌≡◌, ◌+◌, List, [], ◌∷◌, ◌++◌, sym, refl, ap, ◌∙◌, arith}
use Rattle.calculus.specs.Spots.{Spot}
use Rattle.calculus.specs.Splicing.{SplicesCommute}
use Rattle.calculus.proofs.Wires.{Out, Ready, through, run, tally}
use Rattle.calculus.proofs.Splice.{Mutual, keeps_mutual, commute, count, ready_through, spliced_mate, spliced_loops, spliced_kind, spliced_ends}
use Rattle.calculus.proofs.Neighbours.{order_keeps}

out_swap : (z : Spot) (xs ys : List (Spot × Spot)) (a b : Spot × Spot) → Out z (xs ++ a ∷ b ∷ ys) → Out z (xs ++ b ∷ a ∷ ys)
out_swap z [] ys a b o = (o.2.0, o.2.1, (o.0, o.1, o.2.2))
out_swap z (x ∷ xs) ys a b o = (o.0, o.1, out_swap z xs ys a b o.2)

ready_swap : (m : Spot → Spot) (xs ys : List (Spot × Spot)) (a b : Spot × Spot) → Ready (xs ++ a ∷ b ∷ ys) m → Ready (xs ++ b ∷ a ∷ ys) m
ready_swap m [] ys a b r =
    let s = r.5 in
    let o = r.3 in
    let q = r.4 in (
      s.0,
      s.1,
      s.2,
      ((λ z. o.0 (sym z)), (λ z. q.0 (sym z)), s.3),
      ((λ z. o.1 (sym z)), (λ z. q.1 (sym z)), s.4),
      (r.0, r.1, r.2, o.2, q.2, s.5),
    )
ready_swap m (x ∷ xs) ys a b r =
    (r.0, r.1, r.2, out_swap x.0 xs ys a b r.3, out_swap x.1 xs ys a b r.4, ready_swap m xs ys a b r.5)

-- two neighbours exchanged
neighbours : (xs ys : List (Spot × Spot)) (a b : Spot × Spot) (m : Spot → Spot) → Mutual m → Ready (xs ++ a ∷ b ∷ ys) m →
    (run (xs ++ a ∷ b ∷ ys) m ≡ run (xs ++ b ∷ a ∷ ys) m) × (tally (xs ++ a ∷ b ∷ ys) m ≡ tally (xs ++ b ∷ a ∷ ys) m)
neighbours [] ys a b m im r =
    let s = r.5 in
    let o = r.3 in
    let q = r.4 in
    let e = commute m im a.0 a.1 b.0 b.1 r.0 o.0 o.1 q.0 q.1 s.0 r.1 r.2 s.1 s.2 in
    let n = count m im a.0 a.1 b.0 b.1 r.0 o.0 o.1 q.0 q.1 s.0 r.1 r.2 s.1 s.2 in
    let t = ap (tally ys) e in
    (ap (run ys) e, omega (arith, n, t))
neighbours (x ∷ xs) ys a b m im r =
    let ih = neighbours xs ys a b (through x.0 x.1 m) (keeps_mutual x.0 x.1 m im r.0 r.1 r.2)
    (ready_through x.0 x.1 m im r.0 r.1 r.2 (xs ++ a ∷ b ∷ ys) r.3 r.4 r.5) in
    (ih.0, omega (arith, ih.1))

pub splices_commute_lem : SplicesCommute
splices_commute_lem A xs ys im r h =
    let q = order_keeps (λ l. Ready l A.mate × (run xs A.mate ≡ run l A.mate) × (tally xs A.mate ≡ tally l A.mate)) (
    λ us vs a b s.
    let t = neighbours us vs a b A.mate im s.0 in
    (ready_swap A.mate us vs a b s.0, s.1 ∙ t.0, s.2 ∙ t.1)
    ) xs ys h (r, refl, refl) in
    λ i. record {
      ends = (spliced_ends xs A ∙ sym (spliced_ends ys A)) i;
      kind = (spliced_kind xs A ∙ sym (spliced_kind ys A)) i;
      mate = (spliced_mate xs A ∙ q.1 ∙ sym (spliced_mate ys A)) i;
      loops = (spliced_loops xs A ∙ ap (λ n. A.loops + n) q.2 ∙ sym (spliced_loops ys A)) i;
    }
