-- The wires of a rule laid into the links one after the other. Assumes nothing.
use Rattle.std.proofs.Common.{◌≡◌, ℕ, ◌+◌, ◌<◌, ◌≤◌, ◌≢◌, ◌⊎◌, List, length, set, Some, sym, refl, ap, ◌∙◌, subst, inl, inr, arith, length-set}
use Rattle.std.specs.List.{slice_get}
use Rattle.std.proofs.lemmas.Bool.{cases_eq}
use Rattle.calculus.specs.Books.{RulePort, Wired}
use Rattle.nets.specs.declared.link.Link.{Link}
use Rattle.nets.specs.Layout.{slots, slot_of, goal}
use Rattle.nets.specs.Noting.{Tied}
use Rattle.nets.specs.Rewiring.{Known, seat_of, Room, Laying, Laid}
use Rattle.nets.proofs.Notings.{tied_wired, wired_tied}
use Rattle.nets.proofs.Slots.{Whole, goal_same, goal_other}

-- both ports of a wire are the rule's
pub known_both : (ws : List (RulePort × RulePort)) (ps : List ℕ) → Room ws ps → (n : ℕ) (u v : RulePort) → slice_get ws n ≡ Some (u, v) → Known ps u × Known ps v
known_both ws ps G n u v e = (
  G.known u v (tied_wired ws (n + 1) u v (n, (u, v), omega arith, e, inl (refl, refl))),
  G.known v u (tied_wired ws (n + 1) v u (n, (u, v), omega arith, e, inr (refl, refl))),
)

pub laid_none : (xs : List Link) (ws : List (RulePort × RulePort)) (ps : List ℕ) → Laying xs ws ps 0 xs
laid_none xs ws ps = record {
  here = λ x y t. absurd (let h = t.2 in omega arith);
  other = λ k h. refl;
}

pub laid_all : (xs ys : List Link) (ws : List (RulePort × RulePort)) (ps : List ℕ) (n : ℕ) → length ws ≤ n → Laying xs ws ps n ys → Laid xs ws ps ys
laid_all xs ys ws ps n h A = record {
  here = λ x y w. A.here x y (wired_tied ws n x y h w);
  other = λ k f. A.other k (λ x y t. f x y (tied_wired ws n x y t));
}

module _ (ws : List (RulePort × RulePort)) (ps : List ℕ) (G : Room ws ps) where
  pub seat_small : (x y : RulePort) → Wired ws x y → seat_of ps x < slots
  seat_small x y w = let t = G.rows x y w in omega (arith, t.0, t.1)

  module _ (xs ys : List Link) (n : ℕ) (A : Laying xs ws ps n ys) (u v : RulePort) (at : slice_get ws n ≡ Some (u, v)) where
    uv : Wired ws u v
    uv = tied_wired ws (n + 1) u v (n, (u, v), omega arith, at, inl (refl, refl))

    vu : Wired ws v u
    vu = tied_wired ws (n + 1) v u (n, (u, v), omega arith, at, inr (refl, refl))

    pub from_small : seat_of ps u < slots
    from_small = seat_small u v uv

    pub to_small : seat_of ps v < slots
    to_small = seat_small v u vu

    pub laid_more : (a b : Link) → Whole ys → slot_of a ≡ seat_of ps u → slot_of b ≡ seat_of ps v → Laying xs ws ps (n + 1) (set (set ys (slot_of a) b) (slot_of b) a)
    laid_more a b W ea eb = record {
      here = here;
      other = λ k h.
          goal_other mid (slot_of b) a k (λ z. h v u (n, (u, v), omega arith, at, inr (refl, refl)) (z ∙ eb))
          ∙ goal_other ys (slot_of a) b k (λ z. h u v (n, (u, v), omega arith, at, inl (refl, refl)) (z ∙ ea))
          ∙ A.other k (λ x y t. h x y (t.0, t.1, (let l = t.2 in omega arith), t.3, t.4));
    }
      where
        mid : List Link
        mid = set ys (slot_of a) b

        zs : List Link
        zs = set (set ys (slot_of a) b) (slot_of b) a

        la : slot_of a < length ys
        la = let z = from_small in let l = W.long in omega arith

        lb : slot_of b < length (set ys (slot_of a) b)
        lb = simp length-set (let z = to_small in let l = W.long in omega arith)

        at_v : goal (set (set ys (slot_of a) b) (slot_of b) a) (seat_of ps v) ≡ seat_of ps u
        at_v = ap (goal zs) (sym eb) ∙ goal_same mid (slot_of b) a lb ∙ ea

        -- the slot of u, also where u and v have one slot
        at_u : goal (set (set ys (slot_of a) b) (slot_of b) a) (seat_of ps u) ≡ seat_of ps v
        at_u = go (cases_eq (slot_of a) (slot_of b))
          where
            go : (slot_of a ≡ slot_of b) ⊎ (slot_of a ≢ slot_of b) → goal zs (seat_of ps u) ≡ seat_of ps v
            go (inl e) = ap (goal zs) (sym ea ∙ e) ∙ goal_same mid (slot_of b) a lb ∙ e ∙ eb
            go (inr o) = ap (goal zs) (sym ea) ∙ goal_other mid (slot_of b) a (slot_of a) o ∙ goal_same ys (slot_of a) b la ∙ eb

        old : (x y : RulePort) → Tied ws n x y → (seat_of ps x ≡ seat_of ps u) ⊎ (seat_of ps x ≢ seat_of ps u) → (seat_of ps x ≡ seat_of ps v) ⊎ (seat_of ps x ≢ seat_of ps v) →
            goal (set (set ys (slot_of a) b) (slot_of b) a) (seat_of ps x) ≡ seat_of ps y
        old x y t (inl e) q =
            let w = tied_wired ws n x y t in
            let xu = G.apart x y u v w uv e in
            ap (goal zs) e ∙ at_u ∙ ap (seat_of ps) (G.with_one x v y (subst (λ (x : RulePort). Wired ws x v) (sym xu) uv) w)
        old x y t (inr o) (inl e) =
            let w = tied_wired ws n x y t in
            let xv = G.apart x y v u w vu e in
            ap (goal zs) e ∙ at_v ∙ ap (seat_of ps) (G.with_one x u y (subst (λ (x : RulePort). Wired ws x u) (sym xv) vu) w)
        old x y t (inr o) (inr k) =
            goal_other mid (slot_of b) a (seat_of ps x) (λ z. k (z ∙ eb)) ∙ goal_other ys (slot_of a) b (seat_of ps x) (λ z. o (z ∙ ea)) ∙ A.here x y t

        here : (x y : RulePort) → Tied ws (n + 1) x y → goal (set (set ys (slot_of a) b) (slot_of b) a) (seat_of ps x) ≡ seat_of ps y
        here x y (k, p, h, e, t) = go (cases_eq k n)
          where
            go : (k ≡ n) ⊎ (k ≢ n) → goal zs (seat_of ps x) ≡ seat_of ps y
            go (inl z) =
                let q : Some p ≡ Some (u, v) = sym e ∙ ap (slice_get ws) z ∙ at in
                let pp : p ≡ (u, v) = cc in
                let p0 : p.0 ≡ u = ap (λ (o : RulePort × RulePort). o.0) pp in
                let p1 : p.1 ≡ v = ap (λ (o : RulePort × RulePort). o.1) pp in
                elim t [
                  | inl s ↦ ap (λ (x : RulePort). goal zs (seat_of ps x)) (s.0 ∙ p0) ∙ at_u ∙ ap (seat_of ps) (sym (s.1 ∙ p1))
                  | inr s ↦ ap (λ (x : RulePort). goal zs (seat_of ps x)) (s.0 ∙ p1) ∙ at_v ∙ ap (seat_of ps) (sym (s.1 ∙ p0))
                ]
            go (inr o) = old x y (k, p, omega arith, e, t) (cases_eq (seat_of ps x) (seat_of ps u)) (cases_eq (seat_of ps x) (seat_of ps v))
