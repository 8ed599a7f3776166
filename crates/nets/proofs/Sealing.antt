-- A draft without faults, with just its first places occupied, is a table. Assumes nothing.
use Rattle.std.proofs.Common.{◌≡◌, ℕ, ◌≤◌, Bool, true, false, cond, ◌&&◌, eqb, ltb, leb, ◌≢◌, ◌⊎◌, List, get_or, Some, None, vec_items, sym, refl, ap, ◌∙◌, inl, inr, arith}
use Rattle.std.proofs.Math.ListN.{get_or-map}
use Rattle.std.proofs.lemmas.Bool.{cases_eq}
use Rattle.books.specs.declared.table.Cell.{Cell}
use Rattle.calculus.specs.Spots.{Spot, end, port}
use Rattle.nets.specs.declared.draft.Draft.{Draft}
use Rattle.nets.specs.declared.link.Link.{Link}
use Rattle.nets.specs.Layout.{blank, kinds, arities, code, decode, goal, bit, is_used, NamesStanding, NamesBack, NamesOther}
use Rattle.nets.specs.Meaning.{Content, kind_at, arity_at, mate_of}
use Rattle.nets.specs.Drafts.{plan, planned, Faulty}
use Rattle.nets.specs.Inner.{Front, there}
use Rattle.nets.proofs.Standing.{either, code_decode, at_slot}
use Rattle.nets.proofs.Plans.{names_self, names_absent, not_back}

module _ (d : Draft) (map : List ℕ) (F : Front d.cells map) where
  -- what the table will hold
  abbrev pub held : Content
  held = record {
    links = vec_items d.links.targets;
    kinds = kinds (vec_items d.places);
    arities = arities (vec_items d.places);
    occupied = map;
    ends = d.ends;
    loops = d.loops;
  }

  occupied_is : (r : ℕ) → eqb (bit map r) 1 ≡ ltb r d.cells
  occupied_is r = let e = F.1 r in go (either (ltb r d.cells))
    where
      go : (ltb r d.cells ≡ true) ⊎ (ltb r d.cells ≡ false) → eqb (bit map r) 1 ≡ ltb r d.cells
      go (inl h) = ap (λ (n : ℕ). eqb n 1) (F.1 r ∙ ap (λ (t : Bool). cond t 1 0) h) ∙ sym h
      go (inr h) = ap (λ (n : ℕ). eqb n 1) (F.1 r ∙ ap (λ (t : Bool). cond t 1 0) h) ∙ sym h

  kind_of : (r : ℕ) → get_or (kinds (vec_items d.places)) r 0 ≡ (plan d).kind r
  kind_of r = get_or-map (λ (c : Cell). c.kind) (vec_items d.places) r blank

  arity_of : (r : ℕ) → get_or (arities (vec_items d.places)) r 0 ≡ (plan d).arity r
  arity_of r = get_or-map (λ (c : Cell). c.arity) (vec_items d.places) r blank

  pub ports_few : (r : ℕ) → get_or (arities (vec_items d.places)) r 0 ≤ 2
  ports_few r = omega (arith, arity_of r, d.ports r)

  there_is : (x : Spot) → there held x ≡ planned (plan d) x
  there_is (end e) = refl
  there_is (port r j) = ap (λ (t : Bool). t && leb j (get_or (arities (vec_items d.places)) r 0)) (occupied_is r) ∙ ap (λ (a : ℕ). ltb r d.cells && leb j a) (arity_of r)

  slot_is : (k : ℕ) → is_used (arities (vec_items d.places)) map d.ends k ≡ planned (plan d) (decode k)
  slot_is k = sym (at_slot held k) ∙ there_is (decode k)

  pub kinds_are : (r : ℕ) → kind_at held r ≡ cond (ltb r d.cells) (Some ((plan d).kind r)) None
  kinds_are r =
      ap (λ (t : Bool). cond t (Some (get_or (kinds (vec_items d.places)) r 0)) None) (occupied_is r) ∙ ap (λ (k : ℕ). cond (ltb r d.cells) (Some k) None) (kind_of r)

  pub arities_are : (r : ℕ) → arity_at held r ≡ cond (ltb r d.cells) (Some ((plan d).arity r)) None
  arities_are r =
      ap (λ (t : Bool). cond t (Some (get_or (arities (vec_items d.places)) r 0)) None) (occupied_is r) ∙ ap (λ (a : ℕ). cond (ltb r d.cells) (Some a) None) (arity_of r)

  pub links_are : (x : Spot) → mate_of held x ≡ cond (planned (plan d) x) ((plan d).link x) x
  links_are x = ap (λ (t : Bool). cond t ((plan d).link x) x) (there_is x)

  module _ (sound : (x : Spot) → Faulty (plan d) x → ⊥) where
    abbrev links : List Link
    links = vec_items d.links.targets

    goal_of : (k : ℕ) → goal (vec_items d.links.targets) (code (decode k)) ≡ goal (vec_items d.links.targets) k
    goal_of k = ap (goal (vec_items d.links.targets)) (code_decode k)

    pub names_standing : NamesStanding (vec_items d.links.targets) (arities (vec_items d.places)) map d.ends
    names_standing k h = slot_is (goal (vec_items d.links.targets) k) ∙ go (either (planned (plan d) (decode (goal (vec_items d.links.targets) k))))
      where
        p : planned (plan d) (decode k) ≡ true
        p = sym (slot_is k) ∙ h

        go : (planned (plan d) (decode (goal (vec_items d.links.targets) k)) ≡ true) ⊎ (planned (plan d) (decode (goal (vec_items d.links.targets) k)) ≡ false) →
            planned (plan d) (decode (goal (vec_items d.links.targets) k)) ≡ true
        go (inl e) = e
        go (inr e) = absurd (sound (decode k) (names_absent d (decode k) p (ap (λ (g : ℕ). planned (plan d) (decode g)) (goal_of k) ∙ e)))

    pub names_back : NamesBack (vec_items d.links.targets) (arities (vec_items d.places)) map d.ends
    names_back k h = go (cases_eq (goal links (goal links k)) k)
      where
        go : (goal links (goal links k) ≡ k) ⊎ (goal links (goal links k) ≢ k) → goal links (goal links k) ≡ k
        go (inl e) = e
        go (inr n) =
            absurd (sound (decode k) (not_back d (decode k) (sym (slot_is k) ∙ h) (λ e. n (ap (goal links) (sym (goal_of k)) ∙ e ∙ code_decode k))))

    pub names_other : NamesOther (vec_items d.links.targets) (arities (vec_items d.places)) map d.ends
    names_other k h e = sound (decode k) (names_self d (decode k) (sym (slot_is k) ∙ h) (goal_of k ∙ e ∙ sym (code_decode k)))
