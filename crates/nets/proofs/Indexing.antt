-- That a place of a cell is an index of what a table keeps of its cells. Assumes nothing.
use Rattle.std.proofs.Common.{◌≡◌, ℕ, ◌<◌, ◌≤◌, get_or, vec_items, vec_len, sym, ap, ◌∙◌, arith}
use Rattle.std.proofs.Math.ListN.{get_or-map}
use Rattle.std.proofs.lemmas.List.{get_or_read}
use Rattle.books.specs.declared.table.Cell.{Cell}
use Rattle.nets.specs.declared.table.Table.{Table}
use Rattle.nets.specs.Layout.{blank, kinds, arities}
use Rattle.nets.specs.Meaning.{net}
use Rattle.nets.specs.Rewrites.{Face}
use Rattle.nets.proofs.Finishing.{p_low, q_low}

module _ (t : Table) where
  -- what is read in a place
  module _ (r : ℕ) (h : r < 1024) (x : Cell) (e : x ≡ get_or (vec_items t.places) r x) where
    here : x ≡ get_or (vec_items t.places) r blank
    here = get_or_read (vec_items t.places) r x (omega (arith, t.every)) e blank

    pub kind_read : x.kind ≡ get_or (kinds (vec_items t.places)) r 0
    kind_read = ap (λ (c : Cell). c.kind) here ∙ sym (get_or-map (λ (c : Cell). c.kind) (vec_items t.places) r blank)

    pub arity_read : x.arity ≡ get_or (arities (vec_items t.places)) r 0
    arity_read = ap (λ (c : Cell). c.arity) here ∙ sym (get_or-map (λ (c : Cell). c.arity) (vec_items t.places) r blank)

  module _ (p q : ℕ) (F : Face (net t) p q) where
    pub p_place : p < vec_len t.places
    p_place = let h = p_low t p q F in omega (arith, t.every, t.places.ok.0)

    pub q_place : q < vec_len t.places
    q_place = let h = q_low t p q F in omega (arith, t.every, t.places.ok.0)

    pub p_kind : (x : Cell) → x ≡ get_or (vec_items t.places) p x → x.kind ≡ get_or (kinds (vec_items t.places)) p 0
    p_kind = kind_read p (p_low t p q F)

    pub q_kind : (x : Cell) → x ≡ get_or (vec_items t.places) q x → x.kind ≡ get_or (kinds (vec_items t.places)) q 0
    q_kind = kind_read q (q_low t p q F)

    pub p_arity : (x : Cell) → x ≡ get_or (vec_items t.places) p x → x.arity ≡ get_or (arities (vec_items t.places)) p 0
    p_arity = arity_read p (p_low t p q F)

    pub q_arity : (x : Cell) → x ≡ get_or (vec_items t.places) q x → x.arity ≡ get_or (arities (vec_items t.places)) q 0
    q_arity = arity_read q (q_low t p q F)

    pub p_few : (x : Cell) → x ≡ get_or (vec_items t.places) p x → x.arity ≤ 2
    p_few x e = let f = p_arity x e in let h = t.ports p in omega arith

    pub q_few : (x : Cell) → x ≡ get_or (vec_items t.places) q x → x.arity ≤ 2
    q_few x e = let f = q_arity x e in let h = t.ports q in omega arith
