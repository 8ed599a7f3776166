-- Drafts: what a link at fault is by slots. Assumes nothing.
use Rattle.std.proofs.Common.{◌≡◌, ℕ, ◌<◌, ◌≤◌, true, false, ◌≢◌, Err, vec_items, sym, ap, ◌∙◌, subst, inl, inr, arith}
use Rattle.calculus.specs.Spots.{Spot, end, port}
use Rattle.nets.specs.declared.draft.Draft.{Draft}
use Rattle.nets.specs.declared.spot.Spot.{Spot as Seen}
use Rattle.nets.specs.Layout.{code, decode, goal}
use Rattle.nets.specs.Drafts.{plan, planned, Faulty, Before}
use Rattle.nets.specs.Inner.{Checked, CheckedCell}
use Rattle.nets.proofs.Standing.{Drawn, decode_code, code_decode}

module _ (d : Draft) where
  abbrev goals : ℕ → ℕ
  goals = goal (vec_items d.links.targets)

  pub planned_port : (r j : ℕ) → planned (plan d) (port r j) ≡ true → (r < d.cells) × (j ≤ (plan d).arity r)
  planned_port r j e = (grind (arith), grind (arith))

  pub planned_drawn : (x : Spot) → planned (plan d) x ≡ true → Drawn x
  planned_drawn (end e) h = let a : e < d.ends = grind (arith) in omega (arith, d.few)
  planned_drawn (port r j) h =
      let a = planned_port r j h in
      (omega (arith, a.0, d.room), omega (arith, a.1, d.ports r))

  -- the slot of a spot that is there
  module _ (x : Spot) (h : planned (plan d) x ≡ true) where
    pub names_self : goals (code x) ≡ code x → Faulty (plan d) x
    names_self e = (h, inl (ap decode e ∙ decode_code x (planned_drawn x h)))

    pub names_absent : planned (plan d) (decode (goals (code x))) ≡ false → Faulty (plan d) x
    names_absent e = (h, inr (inl e))

    twice : (plan d).link ((plan d).link x) ≡ decode (goals (goals (code x)))
    twice = ap (λ (k : ℕ). decode (goals k)) (code_decode (goals (code x)))

    pub not_back : goals (goals (code x)) ≢ code x → Faulty (plan d) x
    not_back n = (h, inr (inr (λ e. n (sym (code_decode (goals (goals (code x)))) ∙ ap code (sym twice ∙ e)))))

  -- no port above a cell's arity is there
  pub none_above : (r n : ℕ) → (plan d).arity r < n → ((j : ℕ) → j < n → Faulty (plan d) (port r j) → ⊥) → (j : ℕ) → Faulty (plan d) (port r j) → ⊥
  none_above r n h f j F = f j (let a = planned_port r j F.0 in omega (arith, a.1)) F

  -- the first fault of a cell, where no end and no cell before it is at fault
  pub first_port : (r : ℕ) (x : Seen) → CheckedCell (plan d) r (Err x) → ((e : ℕ) → e < d.ends → Faulty (plan d) (end e) → ⊥) →
      ((s : ℕ) → s < r → (j : ℕ) → Faulty (plan d) (port s j) → ⊥) → Checked (plan d) (Err x)
  first_port r x (j, e, F, k) f g = (F, λ y b. before y (subst (Before y) e b))
    where
      before : (y : Spot) → Before y (port r j) → Faulty (plan d) y → ⊥
      before (end i) b h = f i (let p = h.0 in grind (arith)) h
      before (port s i) (inl b) h = g s b i h
      before (port s i) (inr (q, b)) h = k i b (subst (λ (s : ℕ). Faulty (plan d) (port s i)) q h)
