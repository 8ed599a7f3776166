-- Splices one after the other. Assumes nothing.
use Rattle.std.proofs.Common.{◌≡◌, ℕ, suc, ◌+◌, ◌-◌, ◌*◌, ◌≤◌, List, sym, refl, subst, ap₂, arith}
use Rattle.nets.specs.declared.link.Link.{Link}
use Rattle.nets.specs.Rewiring.{Spliced, Strung}
use Rattle.calculus.specs.Spots.{port}
use Rattle.calculus.proofs.Wires.{through}
use Rattle.calculus.proofs.Plugs.{wires}
use Rattle.calculus.proofs.Splice.{keeps_mutual, ready_through}

more : (xs ys zs : List Link) (p g n h k : ℕ) → Spliced xs (p * 4 + suc n) (g * 4 + suc n) ys h → Strung ys p g n zs k → Strung xs p g (suc n) zs (h + k)
more xs ys zs p g n h k s t = record {
  few = omega (arith, s.few, t.few);
  shows = λ m inv r S.
      let a = port p (suc n) in
      let b = port g (suc n) in
      let one = s.shows m a b inv refl refl r.0 r.1 r.2 S in
      let rest = t.shows (through a b m) (keeps_mutual a b m inv r.0 r.1 r.2) (ready_through a b m inv r.0 r.1 r.2 (wires p g n) r.3 r.4 r.5) one.0 in
      (rest.0, ap₂ ◌+◌ one.1 rest.1);
}

pub strung_none : (xs : List Link) (p g : ℕ) → Strung xs p g 0 xs 0
strung_none xs p g = record { few = omega arith; shows = λ m inv r S. (S, refl) }

-- one splice less to do: what strings the ports below n strings all of them
pub strung_down : (xs ys zs : List Link) (p g n N h j : ℕ) → 1 ≤ n → Spliced ys (p * 4 + n) (g * 4 + n) zs h →
    ((us : List Link) (k : ℕ) → Strung ys p g n us k → Strung xs p g N us (j + k)) →
    (us : List Link) (k : ℕ) → Strung zs p g (n - 1) us k → Strung xs p g N us (j + h + k)
strung_down xs ys zs p g n N h j l s f us k t =
    let e : n ≡ suc (n - 1) = omega arith in
    let d : j + (h + k) ≡ j + h + k = omega arith in
    subst (Strung xs p g N us) d
    (f us (h + k)
    (subst (λ (i : ℕ). Strung ys p g i us (h + k)) (sym e)
    (more ys zs us p g (n - 1) h k (subst (λ (i : ℕ). Spliced ys (p * 4 + i) (g * 4 + i) zs h) e s) t)))
