use Rattle.std.proofs.Common.{◌≡◌, ℕ, ◌+◌, true, ◌≢◌, List, Some, Option, sym, ◌∙◌, refl, subst, inl, inr, arith}
use Rattle.std.specs.List.{slice_get}
use Rattle.calculus.specs.Books.{RulePort, Wired}
use Rattle.books.specs.declared.table.RuleTable.{RuleTable}
use Rattle.books.specs.Tables.{wires_of}
use Rattle.books.proofs.Depicted.{wire_at}
use Rattle.nets.specs.Noting.{Noted, Agrees}
use Rattle.nets.proofs.Notings.{tied_wired, marked_more, agrees, agrees_back, other_note}
use Rattle.nets.proofs.fitting.Trial.note_all.Goals as goal
use Rattle.nets.proofs.fitting.Trial.note_all.Goals.{then-not-is_paired-via-then-not-is_paired, then-not-is_paired-via-else-not-is_paired+then-not-is_paired-2}

-- wire i joins its ports both ways
wired : (r : RuleTable) (i : ℕ) (u v : RulePort) → slice_get (wires_of r) i ≡ Some (u, v) → Wired (wires_of r) u v
wired r i u v e = tied_wired (wires_of r) (i + 1) u v (i, (u, v), omega arith, e, inl (refl, refl))

wired_back : (r : RuleTable) (i : ℕ) (u v : RulePort) → slice_get (wires_of r) i ≡ Some (u, v) → Wired (wires_of r) v u
wired_back r i u v e = tied_wired (wires_of r) (i + 1) v u (i, (u, v), omega arith, e, inr (refl, refl))

pub returns-then-not-is_paired : goal.returns-then-not-is_paired
returns-then-not-is_paired c = λ F.
    let r = c.args.self.now.rule.now in
    let at = wire_at r c.loop-from.from-index _ c.loop-from-test.true in
    elim c.then-not-is_paired.branch [
      | then-not-is_paired-via-then-not-is_paired w ↦ w.if-not-is_paired.ensures (F.pairs_only _ _ (wired r c.loop-from.from-index _ _ at))
      | then-not-is_paired-via-else-not-is_paired+then-not-is_paired-2 w ↦ w.if-not-is_paired-2.ensures (F.pairs_only _ _ (wired_back r c.loop-from.from-index _ _ at))
    ]

pub returns-then-not-note : goal.returns-then-not-note
returns-then-not-note c = λ F.
    let s = c.args.self.now in
    let r = c.args.self.now.rule.now in
    let at = wire_at r c.loop-from.from-index _ c.loop-from-test.true in
    let pu = c.if-not-is_paired.ensures in
    let pv = c.if-not-is_paired-2.ensures in
    let a = agrees s.left s.right r s.few s.small s.ports.0 s.ports.1 (wires_of r) c.loop-from.from-index c.loop-from.notes.mates c.loop-from.invariant _ _ at pu pv F refl in
    let b = agrees_back s.left s.right r s.few s.small s.ports.0 s.ports.1 (wires_of r) c.loop-from.from-index c.loop-from.notes.mates c.loop-from.invariant _ _ at pu pv F refl in
    let o = other_note s.left s.right r s.few s.small s.ports.0 s.ports.1 (wires_of r) c.loop-from.from-index c.loop-from.notes.mates c.loop-from.invariant _ _ at pu pv F refl in
    refused c.loop-from.notes.mates _ _ (sym c.index.ensures) (sym c.index-in-loop-from.ensures) c.if-not-note.ensures o a b
  where
    refused : (mates : List (Option ℕ)) {u v : ℕ} (x y : ℕ) → u ≡ x → v ≡ y → (x ≢ y → Agrees mates x y → Agrees mates y x → ⊥) → u ≢ v → Agrees mates u v → Agrees mates v u → ⊥
    refused mates {u} {v} x y e f n o a b =
        n (λ z. o (e ∙ z ∙ sym f))
        (subst (λ (t : ℕ). Agrees mates x t) f (subst (λ (s : ℕ). Agrees mates s v) e a))
        (subst (λ (t : ℕ). Agrees mates y t) e (subst (λ (s : ℕ). Agrees mates s u) f b))

pub loop-from-preserved : goal.loop-from-preserved
loop-from-preserved c =
    let s = c.args.self.now in
    let r = c.args.self.now.rule.now in
    let at = wire_at r c.loop-from.from-index _ c.loop-from-test.true in
    marked_more s.left s.right r s.few s.small s.ports.0 s.ports.1 (wires_of r) c.loop-from.from-index c.loop-from.notes.mates c.loop-from.invariant _ _ at
    c.if-not-is_paired.ensures c.if-not-is_paired-2.ensures c.note.new.self.mates
    (taken c.loop-from.notes.mates c.note.new.self.mates c.index.ensures c.index-in-loop-from.ensures c.if-not-note.ensures)
  where
    taken : (ms ns : List (Option ℕ)) {x y u v : ℕ} → x ≡ u → y ≡ v → Noted ms x y ns true → Noted ms u v ns true
    taken ms ns {x} {y} {u} {v} e f h = subst (λ (t : ℕ). Noted ms u t ns true) f (subst (λ (t : ℕ). Noted ms t y ns true) e h)
