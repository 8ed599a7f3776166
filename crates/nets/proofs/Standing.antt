-- Slots and spots, and what a table's links are by spots. Assumes nothing.
use Rattle.std.proofs.Common.{◌≡◌, ℕ, ◌+◌, ◌-◌, ◌*◌, ◌/◌, ◌%◌, ◌<◌, ◌≤◌, Bool, true, false, cond, ◌&&◌, eqb, ltb, leb, ◌≢◌, ◌⊎◌, get_or, Some, None, Option, is_some, IfSome, vec_items, sym, refl, ap, ◌∙◌, ap₂, inl, inr, arith}
use Rattle.calculus.specs.Spots.{Spot, end, port}
use Rattle.calculus.specs.Books.{RuleBook}
use Rattle.calculus.specs.Nets.{Stands, Good}
use Rattle.nets.specs.declared.spot.Spot.{Spot as Seen}
use Rattle.nets.specs.declared.table.Table.{Table}
use Rattle.nets.specs.Layout.{kinds, arities, slots, code, decode, is_of_end, goal, bit, is_used}
use Rattle.nets.specs.Meaning.{Content, content, kind_at, arity_at, mate_of, net, OfBook}
use Rattle.nets.specs.Views.{at, Mated}
use Rattle.nets.specs.Inner.{there}
use Rattle.nets.proofs.Places.{bit_low}

pub either : (b : Bool) → (b ≡ true) ⊎ (b ≡ false)
either true = inl refl
either false = inr refl

-- the table has a slot for the spot
abbrev pub Drawn : Spot → Type 0
Drawn (end e) = e < 64
Drawn (port r j) = (r < 1030) × (j < 4)

pub decode_code : (x : Spot) → Drawn x → decode (code x) ≡ x
decode_code (end e) d =
    let a : (1030 + e) * 4 % 4 ≡ 0 = omega arith in
    let b : 4120 ≤ (1030 + e) * 4 = omega arith in
    let c : (1030 + e) * 4 / 4 - 1030 ≡ e = omega arith in
    let q : is_of_end ((1030 + e) * 4) ≡ true = grind (arith) in
    ap (λ (t : Bool). cond t (end ((1030 + e) * 4 / 4 - 1030)) (port ((1030 + e) * 4 / 4) ((1030 + e) * 4 % 4))) q ∙ ap end c
decode_code (port r j) d =
    let k = r * 4 + j in
    let b : r * 4 + j < 4120 = omega arith in
    let u : (r * 4 + j) / 4 ≡ r = omega arith in
    let v : (r * 4 + j) % 4 ≡ j = omega arith in
    let q : is_of_end (r * 4 + j) ≡ false = grind (arith) in
    ap (λ (t : Bool). cond t (end (k / 4 - 1030)) (port (k / 4) (k % 4))) q ∙ ap₂ port u v

pub code_decode : (k : ℕ) → code (decode k) ≡ k
code_decode k = go (either (is_of_end k))
  where
    go : (is_of_end k ≡ true) ⊎ (is_of_end k ≡ false) → code (decode k) ≡ k
    go (inl e) =
        let a : k % 4 ≡ 0 = grind (arith) in
        let b : 4120 ≤ k = grind (arith) in
        ap (λ (t : Bool). code (cond t (end (k / 4 - 1030)) (port (k / 4) (k % 4)))) e ∙ (omega arith)
    go (inr e) = ap (λ (t : Bool). code (cond t (end (k / 4 - 1030)) (port (k / 4) (k % 4)))) e ∙ (omega arith)

pub code_small : (x : Spot) → Drawn x → code x < slots
code_small (end e) d = omega arith
code_small (port p i) d = omega arith

module _ (c : Content) where
  pub at_slot : (k : ℕ) → there c (decode k) ≡ is_used c.arities c.occupied c.ends k
  at_slot k = go (either (is_of_end k))
    where
      go : (is_of_end k ≡ true) ⊎ (is_of_end k ≡ false) → there c (decode k) ≡ is_used c.arities c.occupied c.ends k
      go (inl e) =
          ap (λ (t : Bool). there c (cond t (end (k / 4 - 1030)) (port (k / 4) (k % 4)))) e
          ∙ sym (ap (λ (t : Bool). cond t (ltb (k / 4 - 1030) c.ends) (eqb (bit c.occupied (k / 4)) 1 && leb (k % 4) (get_or c.arities (k / 4) 0))) e)
      go (inr e) =
          ap (λ (t : Bool). there c (cond t (end (k / 4 - 1030)) (port (k / 4) (k % 4)))) e
          ∙ sym (ap (λ (t : Bool). cond t (ltb (k / 4 - 1030) c.ends) (eqb (bit c.occupied (k / 4)) 1 && leb (k % 4) (get_or c.arities (k / 4) 0))) e)

  pub mate_there : (x : Spot) → there c x ≡ true → mate_of c x ≡ decode (goal c.links (code x))
  mate_there x e = ap (λ (t : Bool). cond t (decode (goal c.links (code x))) x) e

  pub mate_absent : (x : Spot) → there c x ≡ false → mate_of c x ≡ x
  mate_absent x e = ap (λ (t : Bool). cond t (decode (goal c.links (code x))) x) e

  pub is_there : (x : Spot) → mate_of c x ≢ x → there c x ≡ true
  is_there x l = elim (either (there c x)) [ inl e ↦ e | inr e ↦ absurd (l (mate_absent x e)) ]

  pub port_there : (r j : ℕ) → there c (port r j) ≡ true → (bit c.occupied r ≡ 1) × (j ≤ get_or c.arities r 0)
  port_there r j e = (grind (arith), grind (arith))

  pub there_port : (r j : ℕ) → bit c.occupied r ≡ 1 → j ≤ get_or c.arities r 0 → there c (port r j) ≡ true
  there_port r j e h = grind (arith)

  pub end_there : (e : ℕ) → there c (end e) ≡ true → e < c.ends
  end_there e h = grind (arith)

  pub there_end : (e : ℕ) → e < c.ends → there c (end e) ≡ true
  there_end e h = grind (arith)

  pub kind_some : (r k : ℕ) → kind_at c r ≡ Some k → (bit c.occupied r ≡ 1) × (get_or c.kinds r 0 ≡ k)
  kind_some r k e = go (either (eqb (bit c.occupied r) 1))
    where
      go : (eqb (bit c.occupied r) 1 ≡ true) ⊎ (eqb (bit c.occupied r) 1 ≡ false) → (bit c.occupied r ≡ 1) × (get_or c.kinds r 0 ≡ k)
      go (inl b) =
          let z : kind_at c r ≡ Some (get_or c.kinds r 0) = ap (λ (t : Bool). cond t (Some (get_or c.kinds r 0)) None) b in
          let y : Some (get_or c.kinds r 0) ≡ Some k = sym z ∙ e in
          (grind (arith), cc)
      go (inr b) =
          let z : kind_at c r ≡ None = ap (λ (t : Bool). cond t (Some (get_or c.kinds r 0)) None) b in
          let y : None ≡ Some k = sym z ∙ e in
          let x : ◌≡◌ {A = ℕ} 0 1 = cc in
          absurd (omega arith)

  pub some_kind : (r : ℕ) → bit c.occupied r ≡ 1 → kind_at c r ≡ Some (get_or c.kinds r 0)
  some_kind r h = let b : eqb (bit c.occupied r) 1 ≡ true = grind (arith) in ap (λ (t : Bool). cond t (Some (get_or c.kinds r 0)) None) b

  pub some_arity : (r : ℕ) → bit c.occupied r ≡ 1 → arity_at c r ≡ Some (get_or c.arities r 0)
  some_arity r h = let b : eqb (bit c.occupied r) 1 ≡ true = grind (arith) in ap (λ (t : Bool). cond t (Some (get_or c.arities r 0)) None) b

module _ (t : Table) where
  abbrev C : Content
  C = content t

  -- what stands has a slot
  pub drawn : (x : Spot) → there (content t) x ≡ true → Drawn x
  drawn (end e) h = let a = end_there C e h in omega (arith, t.few)
  drawn (port r j) h =
      let a = port_there C r j h in
      let b = bit_low t.occupied r t.wide a.0 in
      (omega arith, omega (arith, a.1, t.ports r))

  slot_in_use : (x : Spot) → there (content t) x ≡ true → is_used (arities (vec_items t.places)) t.occupied t.ends (code x) ≡ true
  slot_in_use x h = sym (at_slot C (code x)) ∙ ap (there C) (decode_code x (drawn x h)) ∙ h

  pub mate_stands : (x : Spot) → there (content t) x ≡ true → there (content t) (mate_of (content t) x) ≡ true
  mate_stands x h =
      ap (there C) (mate_there C x h) ∙ at_slot C (goal (vec_items t.links.targets) (code x)) ∙ t.standing (code x) (slot_in_use x h)

  -- links are mutual
  pub twice : (x : Spot) → (net t).mate ((net t).mate x) ≡ x
  twice x = elim (either (there C x)) as (λ _. mate_of C (mate_of C x) ≡ x) [
    | inl h ↦
        (let g = goal (vec_items t.links.targets) (code x) in
        let al : there C (decode g) ≡ true = at_slot C g ∙ t.standing (code x) (slot_in_use x h) in
        ap (mate_of C) (mate_there C x h) ∙ mate_there C (decode g) al ∙ ap (λ (k : ℕ). decode (goal (vec_items t.links.targets) k)) (code_decode g)
        ∙ ap decode (t.back (code x) (slot_in_use x h)) ∙ decode_code x (drawn x h))
    | inr h ↦ ap (mate_of C) (mate_absent C x h) ∙ mate_absent C x h
  ]

  -- no spot that stands is linked with itself
  pub apart : (x : Spot) → there (content t) x ≡ true → (net t).mate x ≢ x
  apart x h e =
      t.other (code x) (slot_in_use x h) (sym (code_decode (goal (vec_items t.links.targets) (code x))) ∙ ap code (sym (mate_there C x h) ∙ e))

  module _ (K : RuleBook) (B : OfBook K t) where
    arity_is : (r k : ℕ) → (net t).kind r ≡ Some k → K.arity k ≡ Some (get_or (arities (vec_items t.places)) r 0)
    arity_is r k e = B r k e ∙ some_arity C r (kind_some C r k e).0

    stands_there : (x : Spot) → Stands K (net t) x → there (content t) x ≡ true
    stands_there (end e) h = there_end C e h
    stands_there (port r j) (k, e, (a, f, h)) =
        let z : Some a ≡ Some (get_or (arities (vec_items t.places)) r 0) = sym f ∙ arity_is r k e in
        let y : a ≡ get_or (arities (vec_items t.places)) r 0 = cc in
        there_port C r j (kind_some C r k e).0 (omega arith)

    there_stands : (x : Spot) → there (content t) x ≡ true → Stands K (net t) x
    there_stands (end e) h = end_there C e h
    there_stands (port r j) h =
        let a = port_there C r j h in
        let e = some_kind C r a.0 in
        (get_or (kinds (vec_items t.places)) r 0, e, (get_or (arities (vec_items t.places)) r 0, arity_is r (get_or (kinds (vec_items t.places)) r 0) e, a.1))

    -- a table of the book holds a net of the book
    pub good : Good K (net t)
    good = record {
      finite = (1024, λ r k e. bit_low t.occupied r t.wide (kind_some C r k e).0);
      known = λ r k e. (get_or (arities (vec_items t.places)) r 0, arity_is r k e, omega arith);
      twice = twice;
      linked = λ x h. apart x (stands_there x h);
      there = λ x h. there_stands x (is_there C x h);
    }

-- what a spot's slot names is its mate
module _ (t : Table) (x : Spot) where
  read_mate : (y : Spot) → there (content t) x ≡ true → y ≡ decode (goal (vec_items t.links.targets) (code x)) → ((net t).mate x ≡ y) × (y ≢ x) × ((net t).mate y ≡ x)
  read_mate y h d =
      let m : (net t).mate x ≡ y = mate_there (content t) x h ∙ sym d in
      (m, λ z. apart t x h (m ∙ z), ap (net t).mate (sym m) ∙ twice t x)

  pub mated : (r : Option Seen) (b : Bool) → b ≡ there (content t) x → is_some r ≡ b → IfSome r (λ y. at y ≡ decode (goal (vec_items t.links.targets) (code x))) → Mated (net t) x r
  mated None b e f g = mate_absent (content t) x (sym e ∙ sym f)
  mated (Some y) b e f g = read_mate (at y) (sym e ∙ sym f) g
