use Rattle.std.proofs.Common.{◌≡◌, ℕ, ◌+◌, ◌-◌, ◌*◌, ◌<◌, ◌≢◌, List, [], ◌∷◌, ◌++◌, length, get_or, ap, ◌∙◌, sym, subst, Some, arith}
use lib.Count.{count_leading_zeros}
use Rattle.nets.specs.Seating.{Highest}
use Rattle.nets.proofs.Vacancy.{Rest, full_above, found, rest_all, last_low, last_byte, full_past, rest_less}
use Rattle.nets.proofs.seats.highest_vacant.Goals as goal

pub loop-i-init : goal.loop-i-init
loop-i-init c =
    rw (c.into_iter-i-iterator.ensures.into_iter_gives, c.rev-i-items.ensures.source, c.enumerate.ensures.source, c.enumerate.ensures.count, c.iter.ensures.rest)
    (rest_all c.args.map.now c.told-map)

full_byte : (x b : ℕ) → x < 256 → x ≡ b → 255 - b ≡ 0 → b ≡ 255
full_byte x b h e f = omega arith

pub loop-i-preserved : goal.loop-i-preserved
loop-i-preserved c =
    let s = c.in-Some.ensures.steps in
    let ms = c.args.map.now in
    let rest = c.loop-i.i-iterator.iter.iter.rest.now in
    let more = c.next.new.self.iter.iter.rest.now in
    let n = c.loop-i.i-iterator.iter.count in
    let b = c.in-Some.byte.now in
    rest_less ms rest more n b c.loop-i.invariant s.1.0
    (full_byte (get_or ms (length more) 0) b (c.fits-map (length more)) (last_byte ms rest more n b c.loop-i.invariant s.1.0) c.if-free-ne0.false) c.next.new.self.iter.count s.0

-- what is found in the last byte
found_last : (ms rest more : List ℕ) (n b i : ℕ) → length ms ≡ 128 → ((k : ℕ) → get_or ms k 0 < 256) → Rest ms rest n → rest ≡ more ++ b ∷ [] → i ≡ n + length more → 255 - b ≢ 0 →
    Highest ms (Some (i * 8 + (7 - count_leading_zeros 8 (255 - b))))
found_last ms rest more n b i l f R e c o =
    let at : i ≡ length more = omega (arith, R.counted) in
    let byte = last_byte ms rest more n b R e in
    subst (λ (i : ℕ). Highest ms (Some (i * 8 + (7 - count_leading_zeros 8 (255 - b))))) (sym at)
    (subst (λ (b : ℕ). Highest ms (Some (length more * 8 + (7 - count_leading_zeros 8 (255 - b))))) byte
    (found ms (length more) (let h = last_low ms rest more n b R e in omega arith) (f (length more)) (λ z. o (ap (λ (x : ℕ). 255 - x) (sym byte) ∙ z)) (full_past ms rest more n b R e)))

pub returns-then-free-ne0 : goal.returns-then-free-ne0
returns-then-free-ne0 c =
    let s = c.in-Some.ensures.steps in
    found_last c.args.map.now c.loop-i.i-iterator.iter.iter.rest.now c.next.new.self.iter.iter.rest.now c.loop-i.i-iterator.iter.count c.in-Some.byte.now c.in-Some.i
    c.told-map c.fits-map c.loop-i.invariant s.1.0 s.1.1 c.if-free-ne0.true

pub returns : goal.returns
returns c = λ k h.
    let e = c.in-None.ensures.steps.1.0 in
    full_above c.args.map.now 0 (λ j a b. c.loop-i.invariant.full j (omega arith) b) k (omega arith) h
