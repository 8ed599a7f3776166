-- Slots written one by one. Assumes nothing.
use Rattle.std.proofs.Common.{◌≡◌, ℕ, ◌<◌, ◌≢◌, List, length, get_or, set, vec_items, sym, ap, ◌∙◌, arith, get_or-set_other, get_or-set_same}
use Rattle.std.proofs.lemmas.List.{get_or_read}
use Rattle.calculus.specs.Spots.{Spot, port}
use Rattle.nets.specs.declared.link.Link.{Link}
use Rattle.nets.specs.Layout.{code, decode, slots, slot_of, goal, nil}
use Rattle.nets.specs.declared.links.Links.{Links}
use Rattle.nets.specs.Rewiring.{HasSlot, Shows}
use Rattle.nets.proofs.Standing.{decode_code, code_small}

-- every slot names a slot
pub record Whole (xs : List Link) : Type 0 where
  pub long : length xs ≡ slots
  pub inside : (k : ℕ) → k < slots → goal xs k < slots

pub whole : (l : Links) → Whole (vec_items l.targets)
whole l = record { long = l.long; inside = l.inside }

-- the link read at a slot
pub read : (l : Links) (s k : ℕ) (x : Link) → s ≡ k → k < slots → x ≡ get_or (vec_items l.targets) s x → x ≡ get_or (vec_items l.targets) k nil
read l s k x e h f = get_or_read (vec_items l.targets) k x (omega (arith, l.long)) (f ∙ ap (λ (i : ℕ). get_or (vec_items l.targets) i x) e) nil

pub code_inj : (x y : Spot) → HasSlot x → HasSlot y → code x ≡ code y → x ≡ y
code_inj x y h k e = sym h.0 ∙ ap decode e ∙ k.0

pub port_slot : (r j : ℕ) → r < 1030 → j < 4 → HasSlot (port r j)
port_slot r j h k = (decode_code (port r j) (h, k), code_small (port r j) (h, k))

module _ (xs : List Link) (k : ℕ) (l : Link) where
  pub goal_same : k < length xs → goal (set xs k l) k ≡ slot_of l
  goal_same h = ap slot_of (get_or-set_same xs k l nil h)

  pub goal_other : (i : ℕ) → i ≢ k → goal (set xs k l) i ≡ goal xs i
  goal_other i n = ap slot_of (get_or-set_other xs k i l nil n)

-- links that show a wiring show any that agrees with it where something is linked
pub same_live : (xs : List Link) (m n : Spot → Spot) → ((y : Spot) → n y ≢ y → m y ≡ n y) → Shows xs m → Shows xs n
same_live xs m n e S y l =
    let q = e y l in
    let t = S y (λ z. l (sym q ∙ z)) in
    (t.0, t.1 ∙ ap code q)
