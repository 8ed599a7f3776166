-- Renumberings of rows and alikeness of the nets that they draw are one thing. Assumes nothing.
use Rattle.std.proofs.Common.{◌≡◌, ℕ, ◌+◌, ◌-◌, ◌<◌, ◌≤◌, cond, ltb, ◌≢◌, ◌⊎◌, Some, sym, refl, ap, ◌∙◌, subst, inl, inr, arith}
use Rattle.std.proofs.lemmas.Bool.{cases_lt, cases_eq, cond-true, cond-false, lt-ltb, le-ltb}
use Rattle.calculus.specs.Spots.{Spot, end, port, carry}
use Rattle.calculus.specs.Nets.{Net}
use Rattle.calculus.specs.Alike.{AlikeBy, Alike}
use Rattle.pairing.specs.Graph.{Graph, Sound, Iso, Isomorphic}
use Rattle.pairing.specs.Rows.{spot, graph, AlikeByRows}
use Rattle.pairing.proofs.Rows.{spot_low, spot_high, Draws, sound, draws}
use Rattle.pairing.proofs.Exchange.{iso_sym}

port_place : {p q i j : ℕ} → port p i ≡ port q j → p ≡ q
port_place e = cc

port_slot : {p q i j : ℕ} → port p i ≡ port q j → i ≡ j
port_slot e = cc

end_number : {d e : ℕ} → end d ≡ end e → d ≡ e
end_number e = cc

port≢end : {p i e : ℕ} → port p i ≡ end e → ⊥
port≢end e = let z : ◌≡◌ {A = ℕ} 0 1 = cc in omega arith

-- a spot that is a port, or an end
of_port : (r s p j : ℕ) → spot r s ≡ port p j → (r < 1030) × (r ≡ p) × (s ≡ j)
of_port r s p j e = elim (cases_lt r 1030) [
  | inl h ↦ let d = sym (spot_low r s h) ∙ e in (h, port_place d, port_slot d)
  | inr h ↦ absurd (port≢end (sym e ∙ spot_high r s h))
]

of_end : (r s e : ℕ) → spot r s ≡ end e → (1030 ≤ r) × (r ≡ 1030 + e)
of_end r s e d = elim (cases_lt r 1030) [
  | inl h ↦ absurd (port≢end (sym (spot_low r s h) ∙ d))
  | inr h ↦ let z = end_number (sym (spot_high r s h) ∙ d) in (h, omega arith)
]

-- a row from 1,030 on that is there is an end's
module _ (A : Graph) (M : Net) (d : Draws A M) where
  end_of : (p : ℕ) → 1030 ≤ p → A.kind p ≢ 0 → (1030 + (p - 1030) ≡ p) × (p - 1030 < M.ends)
  end_of p h l =
      let e : 1030 + (p - 1030) ≡ p = omega arith in
      (e, d.end_back (p - 1030) (λ z. l (ap A.kind (sym e) ∙ z)))

  end_there : (e : ℕ) → e < M.ends → A.kind (1030 + e) ≢ 0
  end_there e h z = let k = d.end_kind e h in omega arith

  end_kind : (p : ℕ) → 1030 ≤ p → A.kind p ≢ 0 → (A.kind p + 1029 ≡ p) × (A.kind p ≤ 64)
  end_kind p h l =
      let u = end_of p h l in
      let k = ap A.kind (sym u.0) ∙ d.end_kind (p - 1030) u.1 in
      (omega arith, let w = u.1 in let f = d.few in omega arith)

  end_port : (p j : ℕ) → 1030 ≤ p → A.kind p ≢ 0 → 1 ≤ j → j < 3 → (A.row p j ≡ p) × (A.slot p j ≡ j)
  end_port p j h l a b =
      let u = end_of p h l in
      let v = d.end_port (p - 1030) j a in
      (ap (λ (z : ℕ). A.row z j) (sym u.0) ∙ v.0 ∙ u.0, ap (λ (z : ℕ). A.slot z j) (sym u.0) ∙ v.1)

  -- a link to an end is to its port 0
  end_slot : Sound A → (p j : ℕ) → A.kind p ≢ 0 → j < 3 → (p < 1030) ⊎ (j ≡ 0) → 1030 ≤ A.row p j → A.slot p j ≡ 0
  end_slot s p j l t c o = elim (cases_eq (A.slot p j) 0) [
    | inl e ↦ e
    | inr e ↦ absurd (
        let u = end_port (A.row p j) (A.slot p j) o (s.there p j l t) (omega arith) (s.slots p j l t) in
        let v = s.back_row p j l t in
        let w = s.back_slot p j l t in
        let x : A.row p j ≡ p = sym u.0 ∙ v in
        let y : A.slot p j ≡ j = sym u.1 ∙ w in
        let z : ⊥ = elim c [ inl q ↦ omega arith | inr q ↦ omega arith ] in z)
  ]

module _ (A B : Graph) (M N : Net) (f g : ℕ → ℕ) (sa : Sound A) (da : Draws A M) (db : Draws B N) (i : Iso A B f g) where
  low : (p : ℕ) → p < 1030 → A.kind p ≢ 0 → f p < 1030
  low p h l = elim (cases_lt (f p) 1030) [
    | inl t ↦ t
    | inr t ↦
        let u = (i.to p l).0 in
        let v = end_kind B N db (f p) t (λ e. l (sym u ∙ e)) in
        let w = da.cell_kind p h l in
        omega arith
  ]

  high : (p : ℕ) → 1030 ≤ p → A.kind p ≢ 0 → f p ≡ p
  high p h l =
      let u = (i.to p l).0 in
      let w = end_kind A M da p h l in
      elim (cases_lt (f p) 1030) [
        | inl t ↦ absurd (let v = db.cell_kind (f p) t (λ e. l (sym u ∙ e)) in omega arith)
        | inr t ↦ let v = end_kind B N db (f p) t (λ e. l (sym u ∙ e)) in omega arith
      ]

  -- every end of M is an end of N
  end_kept : (e : ℕ) → e < M.ends → (f (1030 + e) ≡ 1030 + e) × (e < N.ends)
  end_kept e h =
      let l = end_there A M da e h in
      let t = high (1030 + e) (omega arith) l in
      let k : B.kind (1030 + e) ≡ A.kind (1030 + e) = ap B.kind (sym t) ∙ (i.to (1030 + e) l).0 in
      (t, db.end_back e (λ z. l (sym k ∙ z)))

  ends_kept : M.ends ≤ N.ends
  ends_kept = elim (cases_lt N.ends M.ends) [
    | inl h ↦ let z = (end_kept N.ends h).1 in omega arith
    | inr h ↦ h
  ]

  carried : (r s : ℕ) → A.kind r ≢ 0 → spot (f r) s ≡ carry f (spot r s)
  carried r s l = elim (cases_lt r 1030) [
    | inl h ↦ spot_low (f r) s (low r h l) ∙ ap (carry f) (sym (spot_low r s h))
    | inr h ↦ ap (λ (z : ℕ). spot z s) (high r h l) ∙ spot_high r s h ∙ ap (carry f) (sym (spot_high r s h))
  ]

  links_there : (x : Spot) → M.mate x ≢ x → (N.mate (carry f x) ≡ carry f (M.mate x)) × (carry g (carry f x) ≡ x)
  links_there (end e) n =
      let h = da.end_there e n in
      let t = end_kept e h in
      let p = 1030 + e in
      let l = end_there A M da e h in
      let u = i.links p 0 l (omega arith) in
      let r : B.row p 0 ≡ f (A.row p 0) = ap (λ (z : ℕ). B.row z 0) (sym t.0) ∙ u.0 in
      let s : B.slot p 0 ≡ A.slot p 0 = ap (λ (z : ℕ). B.slot z 0) (sym t.0) ∙ u.1 in (
        db.end_mate e ∙ ap (λ (z : ℕ). spot z (B.slot p 0)) r ∙ ap (λ (z : ℕ). spot (f (A.row p 0)) z) s
            ∙ carried (A.row p 0) (A.slot p 0) (sa.there p 0 l (omega arith)) ∙ ap (carry f) (sym (da.end_mate e)),
        refl,
      )
  links_there (port p j) n =
      let w = da.port_there p j n in
      let l = w.2 in
      let u = i.links p j l w.1 in
      let k = i.to p l in (
        db.port_mate (f p) j (low p w.0 l) ∙ ap (λ (z : ℕ). spot z (B.slot (f p) j)) u.0
            ∙ ap (λ (z : ℕ). spot (f (A.row p j)) z) u.1 ∙ carried (A.row p j) (A.slot p j) (sa.there p j l w.1)
            ∙ ap (carry f) (sym (da.port_mate p j w.0)),
        ap (λ (z : ℕ). port z j) k.1,
      )

  kinds_there : (r c : ℕ) → M.kind r ≡ Some c → (N.kind (f r) ≡ Some c) × (g (f r) ≡ r)
  kinds_there r c e =
      let u = da.cell r c e in
      let l : A.kind r ≢ 0 = λ z. (let y = u.1 in omega arith) in
      let k = i.to r l in
      (db.cell_back (f r) c (low r u.0 l) (k.0 ∙ u.1), k.1)

pub to_alike : (A B : Graph) (M N : Net) → Sound A → Sound B → Draws A M → Draws B N → M.loops ≡ N.loops → Isomorphic A B → Alike M N
to_alike A B M N sa sb da db e (f, g, i) =
    let j = iso_sym sa i in (
      f,
      g,
      record {
        ends = let u = ends_kept A B M N f g sa da db i in let v = ends_kept B A N M g f sb db da j in omega arith;
        loops = e;
        kinds = record { there = kinds_there A B M N f g sa da db i; back = kinds_there B A N M g f sb db da j };
        links = record { there = links_there A B M N f g sa da db i; back = links_there B A N M g f sb db da j };
      },
    )

-- the row map of a place map
abbrev wide : (ℕ → ℕ) → ℕ → ℕ
wide F r = cond (ltb r 1030) (F r) r

wide_low : (F : ℕ → ℕ) (r : ℕ) → r < 1030 → wide F r ≡ F r
wide_low F r h = cond-true (ltb r 1030) (F r) r (lt-ltb r 1030 h)

wide_high : (F : ℕ → ℕ) (r : ℕ) → 1030 ≤ r → wide F r ≡ r
wide_high F r h = cond-false (ltb r 1030) (F r) r (le-ltb r 1030 h)

alike_sym : {F G : ℕ → ℕ} {M N : Net} → AlikeBy F G M N → AlikeBy G F N M
alike_sym a = record {
  ends = sym a.ends;
  loops = sym a.loops;
  kinds = record { there = a.kinds.back; back = a.kinds.there };
  links = record { there = a.links.back; back = a.links.there };
}

module _ (A B : Graph) (M N : Net) (F G : ℕ → ℕ) (sa : Sound A) (sb : Sound B) (da : Draws A M) (db : Draws B N) (a : AlikeBy F G M N) where
  placed : (p : ℕ) → p < 1030 → A.kind p ≢ 0 → (F p < 1030) × (B.kind (F p) ≡ A.kind p) × (G (F p) ≡ p)
  placed p h l =
      let q = da.cell_kind p h l in
      let e : A.kind p ≡ 65 + (A.kind p - 65) = omega arith in
      let u = a.kinds.there p (A.kind p - 65) (da.cell_back p (A.kind p - 65) h e) in
      let v = db.cell (F p) (A.kind p - 65) u.0 in
      (v.0, v.1 ∙ sym e, u.1)

  -- an end of A is an end of B, with its mate carried along
  end_live : (e : ℕ) → e < M.ends → (e < N.ends) × (B.kind (1030 + e) ≡ A.kind (1030 + e)) × (N.mate (end e) ≡ carry F (M.mate (end e)))
  end_live e h =
      let k : e < N.ends = (let z = a.ends in omega arith) in
      (k, db.end_kind e k ∙ sym (da.end_kind e h), (a.links.there (end e) (da.end_linked e h)).0)

  goes : (p : ℕ) → A.kind p ≢ 0 → (B.kind (wide F p) ≡ A.kind p) × (wide G (wide F p) ≡ p)
  goes p l = elim (cases_lt p 1030) [
    | inl h ↦
        let u = placed p h l in
        let e = wide_low F p h in
        (ap B.kind e ∙ u.1, ap (wide G) e ∙ wide_low G (F p) u.0 ∙ u.2)
    | inr h ↦
        let e = wide_high F p h in
        let d = end_of A M da p h l in
        let u = (end_live (p - 1030) d.1).1 in
        (ap B.kind (e ∙ sym d.0) ∙ u ∙ ap A.kind d.0, ap (wide G) e ∙ wide_high G p h)
  ]

  -- the mate of one spot of B, told from that of the spot of A
  read : (r s r' s' : ℕ) → spot r' s' ≡ carry F (spot r s) → (1030 ≤ r → s ≡ 0) → (1030 ≤ r' → s' ≡ 0) → (r' ≡ wide F r) × (s' ≡ s)
  read r s r' s' e c d = elim (cases_lt r 1030) [
    | inl h ↦
        let u = of_port r' s' (F r) s (e ∙ ap (carry F) (spot_low r s h)) in
        (u.1 ∙ sym (wide_low F r h), u.2)
    | inr h ↦
        let u = of_end r' s' (r - 1030) (e ∙ ap (carry F) (spot_high r s h)) in
        let v = wide_high F r h in
        let w = u.1 in
        (omega arith, d u.0 ∙ sym (c h))
  ]

  follows_low : (p j : ℕ) → p < 1030 → A.kind p ≢ 0 → j < 3 → (B.row (F p) j ≡ wide F (A.row p j)) × (B.slot (F p) j ≡ A.slot p j)
  follows_low p j h l t = go (cases_eq (A.row p j) p) (cases_eq (A.slot p j) j)
    where
      u : (F p < 1030) × (B.kind (F p) ≡ A.kind p) × (G (F p) ≡ p)
      u = placed p h l

      lb : B.kind (F p) ≢ 0
      lb z = l (sym u.1 ∙ z)

      mb : N.mate (port (F p) j) ≡ spot (B.row (F p) j) (B.slot (F p) j)
      mb = db.port_mate (F p) j u.0

      ma : M.mate (port p j) ≡ spot (A.row p j) (A.slot p j)
      ma = da.port_mate p j h

      moves : M.mate (port p j) ≢ port p j → (B.row (F p) j ≡ wide F (A.row p j)) × (B.slot (F p) j ≡ A.slot p j)
      moves n = read (A.row p j) (A.slot p j) (B.row (F p) j) (B.slot (F p) j) (sym mb ∙ (a.links.there (port p j) n).0 ∙ ap (carry F) ma)
          (end_slot A M da sa p j l t (inl h)) (end_slot B N db sb (F p) j lb t (inl u.0))

      -- a port that is linked with itself
      stays : A.row p j ≡ p → A.slot p j ≡ j → (B.row (F p) j ≡ F p) × (B.slot (F p) j ≡ j)
      stays x y = elim (cases_eq (B.row (F p) j) (F p)) [
        | inl c ↦ elim (cases_eq (B.slot (F p) j) j) [ inl d ↦ (c, d) | inr d ↦ un (λ z. d (of_port _ _ _ _ (sym mb ∙ z)).2) ]
        | inr c ↦ un (λ z. c (of_port _ _ _ _ (sym mb ∙ z)).1)
      ]
        where
          un : N.mate (port (F p) j) ≢ port (F p) j → (B.row (F p) j ≡ F p) × (B.slot (F p) j ≡ j)
          un n =
              let b = (a.links.back (port (F p) j) n).0 in
              let q : carry G (spot (B.row (F p) j) (B.slot (F p) j)) ≡ port p j =
              ap (carry G) (sym mb) ∙ sym b ∙ ap (λ (z : ℕ). M.mate (port z j)) u.2 ∙ ma ∙ ap (λ (z : ℕ). spot z (A.slot p j)) x ∙ ap (λ (z : ℕ). spot p z) y ∙ spot_low p j h in
              elim (cases_lt (B.row (F p) j) 1030) [
                | inl o ↦
                    let w : port (G (B.row (F p) j)) (B.slot (F p) j) ≡ port p j = ap (carry G) (sym (spot_low (B.row (F p) j) (B.slot (F p) j) o)) ∙ q in
                    let lr = sb.there (F p) j lb t in
                    let y = db.cell_kind (B.row (F p) j) o lr in
                    let e : B.kind (B.row (F p) j) ≡ 65 + (B.kind (B.row (F p) j) - 65) = omega arith in
                    let v = (a.kinds.back (B.row (F p) j) (B.kind (B.row (F p) j) - 65) (db.cell_back (B.row (F p) j) (B.kind (B.row (F p) j) - 65) o e)).1 in
                    (sym v ∙ ap F (port_place w), port_slot w)
                | inr o ↦ absurd (port≢end (sym q ∙ ap (carry G) (spot_high (B.row (F p) j) (B.slot (F p) j) o)))
              ]

      go : (A.row p j ≡ p) ⊎ (A.row p j ≡ p → ⊥) → (A.slot p j ≡ j) ⊎ (A.slot p j ≡ j → ⊥) → (B.row (F p) j ≡ wide F (A.row p j)) × (B.slot (F p) j ≡ A.slot p j)
      go (inl x) (inl y) = let s = stays x y in (s.0 ∙ sym (wide_low F p h) ∙ ap (wide F) (sym x), s.1 ∙ sym y)
      go (inl x) (inr y) = moves (λ z. y (of_port _ _ _ _ (sym ma ∙ z)).2)
      go (inr x) q = moves (λ z. x (of_port _ _ _ _ (sym ma ∙ z)).1)

  follows_end : (e j : ℕ) → e < M.ends → j < 3 → (B.row (1030 + e) j ≡ wide F (A.row (1030 + e) j)) × (B.slot (1030 + e) j ≡ A.slot (1030 + e) j)
  follows_end e j h t =
      let u = end_live e h in
      let p = 1030 + e in
      let l = end_there A M da e h in
      let lb = end_there B N db e u.0 in
      elim (cases_eq j 0) [
        | inl q ↦
            let w = read (A.row p 0) (A.slot p 0) (B.row p 0) (B.slot p 0) (sym (db.end_mate e) ∙ u.2 ∙ ap (carry F) (da.end_mate e))
            (end_slot A M da sa p 0 l (omega arith) (inr refl)) (end_slot B N db sb p 0 lb (omega arith) (inr refl)) in
            subst (λ (z : ℕ). (B.row p z ≡ wide F (A.row p z)) × (B.slot p z ≡ A.slot p z)) (sym q) w
        | inr q ↦
            let x = da.end_port e j (omega arith) in
            let y = db.end_port e j (omega arith) in
            (y.0 ∙ sym (wide_high F p (omega arith)) ∙ ap (wide F) (sym x.0), y.1 ∙ sym x.1)
      ]

  follows : (p j : ℕ) → A.kind p ≢ 0 → j < 3 → (B.row (wide F p) j ≡ wide F (A.row p j)) × (B.slot (wide F p) j ≡ A.slot p j)
  follows p j l t = elim (cases_lt p 1030) [
    | inl h ↦ subst (λ (z : ℕ). (B.row z j ≡ wide F (A.row p j)) × (B.slot z j ≡ A.slot p j)) (sym (wide_low F p h)) (follows_low p j h l t)
    | inr h ↦
        let d = end_of A M da p h l in
        subst (λ (z : ℕ). (B.row z j ≡ wide F (A.row p j)) × (B.slot z j ≡ A.slot p j)) (sym (wide_high F p h))
        (subst (λ (z : ℕ). (B.row z j ≡ wide F (A.row z j)) × (B.slot z j ≡ A.slot z j)) d.0 (follows_end (p - 1030) j d.1 t))
  ]

pub from_alike : (A B : Graph) (M N : Net) → Sound A → Sound B → Draws A M → Draws B N → Alike M N → (M.loops ≡ N.loops) × Isomorphic A B
from_alike A B M N sa sb da db (F, G, a) = (
  a.loops,
  (
    wide F,
    wide G,
    record {
      to = goes A B M N F G sa sb da db a;
      fro = goes B A N M G F sb sa db da (alike_sym a);
      links = follows A B M N F G sa sb da db a;
    },
  ),
)

pub alike_by_rows_lem : AlikeByRows
alike_by_rows_lem M N fa fb =
    let sa = sound M fa in
    let sb = sound N fb in
    let da = draws M fa in
    let db = draws N fb in
    record { to = to_alike (graph M) (graph N) M N sa sb da db; fro = from_alike (graph M) (graph N) M N sa sb da db }
