-- A rule's right side as a wiring: the new cells in rows 0 to 3, gates for the auxiliary ports of L in row 4, of R in row 5. Assumes nothing.
use Rattle.std.proofs.Common.{◌≡◌, ℕ, ◌<◌, ◌≤◌, Bool, true, false, eqb, ◌≢◌, ◌⊎◌, List, [], ◌∷◌, length, Some, None, sym, refl, ap, ◌∙◌, subst, ap₂, inl, inr, arith}
use Rattle.std.specs.List.{slice_get}
use Rattle.std.specs.Option.{unwrap_or}
use Rattle.std.proofs.lemmas.Option.{slice_get_past}
use Rattle.std.proofs.lemmas.Bool.{cases_lt}
use Rattle.calculus.specs.Spots.{Spot, end, port}
use Rattle.calculus.specs.Books.{RulePort, L, R, N, Rule, RuleBook, HasPort, Wired, Leaving, Entering, RuleLaws}
use Rattle.calculus.proofs.Lawful.{same?, same_port, same_self, wired_back}
use Rattle.calculus.proofs.Splice.{spot, Mutual}
use Rattle.calculus.proofs.Beside.{Left, Ports, Bounded}

pub number : (m n : ℕ) → (m ≡ n) ⊎ (m ≢ n)
number m n = elim (cases_lt m n) [ inl h ↦ inr (omega arith) | inr h ↦ elim (cases_lt n m) [ inl i ↦ inr (omega arith) | inr i ↦ inl (omega arith) ] ]

-- numbers that tell the ports of a rule apart
abbrev sort : RulePort → ℕ
sort (L j) = 0
sort (R j) = 1
sort (N i j) = 2

abbrev row : RulePort → ℕ
row (L j) = 0
row (R j) = 0
row (N i j) = i

abbrev slot : RulePort → ℕ
slot (L j) = j
slot (R j) = j
slot (N i j) = j

pub other_sort : (x y : RulePort) → sort x ≢ sort y → x ≢ y
other_sort x y n e = n (ap sort e)

pub rule_port : (x y : RulePort) → (x ≡ y) ⊎ (x ≢ y)
rule_port (L i) (L j) = elim (number i j) [ inl e ↦ inl (ap L e) | inr n ↦ inr (λ e. n (ap slot e)) ]
rule_port (L i) (R j) = inr (other_sort (L i) (R j) (omega arith))
rule_port (L i) (N k j) = inr (other_sort (L i) (N k j) (omega arith))
rule_port (R i) (L j) = inr (other_sort (R i) (L j) (omega arith))
rule_port (R i) (R j) = elim (number i j) [ inl e ↦ inl (ap R e) | inr n ↦ inr (λ e. n (ap slot e)) ]
rule_port (R i) (N k j) = inr (other_sort (R i) (N k j) (omega arith))
rule_port (N l i) (L j) = inr (other_sort (N l i) (L j) (omega arith))
rule_port (N l i) (R j) = inr (other_sort (N l i) (R j) (omega arith))
rule_port (N l i) (N k j) = elim (number l k) [
  | inl e ↦ elim (number i j) [ inl f ↦ inl (ap₂ N e f) | inr n ↦ inr (λ f. n (ap slot f)) ]
  | inr n ↦ inr (λ f. n (ap row f))
]

-- the ports in rows, and back
abbrev pub code : RulePort → Spot
code (L j) = port 4 j
code (R j) = port 5 j
code (N i j) = port i j

abbrev pub decode : ℕ → ℕ → RulePort
decode i j = elim (eqb i 4) [ true ↦ L j | false ↦ elim (eqb i 5) [ true ↦ R j | false ↦ N i j ] ]

-- the port that the list joins with x, or x itself
abbrev pub partner : List (RulePort × RulePort) → RulePort → RulePort
partner [] x = x
partner (p ∷ ps) x = elim (same? x p.0) [ true ↦ p.1 | false ↦ elim (same? x p.1) [ true ↦ p.0 | false ↦ partner ps x ] ]

unfoldable pub wiring : Rule → Spot → Spot
wiring w (end e) = end e
wiring w (port i j) = code (partner w.wires (decode i j))

port_no : (x y : RulePort) → x ≢ y → same? x y ≡ false
port_no x y n = go (same? x y) refl
  where
    go : (b : Bool) → same? x y ≡ b → b ≡ false
    go true e = absurd (n (same_port x y e))
    go false e = refl

port_yes : (x y : RulePort) → x ≡ y → same? x y ≡ true
port_yes x y e = subst (λ z. same? x z ≡ true) e (same_self x)

partner_first : (p : RulePort × RulePort) (ps : List (RulePort × RulePort)) (x : RulePort) → x ≡ p.0 → partner (p ∷ ps) x ≡ p.1
partner_first p ps x e = let f = port_yes x p.0 e in cc

partner_second : (p : RulePort × RulePort) (ps : List (RulePort × RulePort)) (x : RulePort) → x ≢ p.0 → x ≡ p.1 → partner (p ∷ ps) x ≡ p.0
partner_second p ps x n e = let f = port_no x p.0 n in let g = port_yes x p.1 e in cc

partner_rest : (p : RulePort × RulePort) (ps : List (RulePort × RulePort)) (x : RulePort) → x ≢ p.0 → x ≢ p.1 → partner (p ∷ ps) x ≡ partner ps x
partner_rest p ps x n m = let f = port_no x p.0 n in let g = port_no x p.1 m in cc

-- what the list joins with x, or that it joins nothing with x
pub partner_is : (ws : List (RulePort × RulePort)) (x : RulePort) → Wired ws x (partner ws x) ⊎ ((partner ws x ≡ x) × ((y : RulePort) → Wired ws x y → ⊥))
partner_is [] x = inr (refl, λ y h. h)
partner_is (p ∷ ps) x = go (rule_port x p.0) (rule_port x p.1) (partner_is ps x)
  where
    nothing : x ≢ p.0 → x ≢ p.1 → ((y : RulePort) → Wired ps x y → ⊥) → (y : RulePort) → Wired (p ∷ ps) x y → ⊥
    nothing n m o y (inl h) = n h.0
    nothing n m o y (inr (inl h)) = m h.0
    nothing n m o y (inr (inr h)) = o y h

    go : (x ≡ p.0) ⊎ (x ≢ p.0) → (x ≡ p.1) ⊎ (x ≢ p.1) → Wired ps x (partner ps x) ⊎ ((partner ps x ≡ x) × ((y : RulePort) → Wired ps x y → ⊥)) →
        Wired (p ∷ ps) x (partner (p ∷ ps) x) ⊎ ((partner (p ∷ ps) x ≡ x) × ((y : RulePort) → Wired (p ∷ ps) x y → ⊥))
    go (inl e) s r = inl (inl (e, partner_first p ps x e))
    go (inr n) (inl e) r = inl (inr (inl (e, partner_second p ps x n e)))
    go (inr n) (inr m) (inl h) = inl (inr (inr (subst (Wired ps x) (sym (partner_rest p ps x n m)) h)))
    go (inr n) (inr m) (inr e) = inr (partner_rest p ps x n m ∙ e.0, nothing n m e.1)

pub code_decode : (i j : ℕ) → code (decode i j) ≡ port i j
code_decode i j = grind (arith)

pub decode_low : (i j : ℕ) → i < 4 → decode i j ≡ N i j
decode_low i j h = grind (arith)

pub some_none : (k : ℕ) → Some k ≡ None → ⊥
some_none k e = let z : ◌≡◌ {A = ℕ} 0 1 = cc in omega arith

-- a kind's highest port
abbrev pub ports : RuleBook → ℕ → ℕ
ports K k = unwrap_or (K.arity k) 0

pub port_low : (K : RuleBook) (k j : ℕ) → HasPort K k j → j ≤ ports K k
port_low K k j h = let e : ports K k ≡ h.0 = ap (λ o. unwrap_or o 0) h.1 in let g = h.2 in omega arith

pub has_port : (K : RuleBook) (k j : ℕ) → HasPort K k 0 → j ≤ ports K k → HasPort K k j
has_port K k j h l = let e : ports K k ≡ h.0 = ap (λ o. unwrap_or o 0) h.1 in (h.0, h.1, omega arith)

module _ (K : RuleBook) (w : Rule) where
  -- the rule speaks of it
  abbrev pub Spoken : RulePort → Type 0
  Spoken x = Leaving K w x ⊎ Entering K w x

  module _ (rl : RuleLaws K w) where
    pub cell_row : (i k : ℕ) → slice_get w.cells i ≡ Some k → i < 4
    cell_row i k e = elim (cases_lt i (length w.cells)) [
      | inl h ↦ (let f = rl.few in omega arith)
      | inr h ↦ (let f = slice_get_past w.cells i h in absurd (some_none k (sym e ∙ f)))
    ]

    pub new_row : (i j : ℕ) → Spoken (N i j) → i < 4
    new_row i j (inl h) = absurd h
    new_row i j (inr h) = cell_row i h.0 h.1

    pub decode_code : (x : RulePort) → Spoken x → (i j : ℕ) → code x ≡ port i j → decode i j ≡ x
    decode_code (L n) h i j e = let a : i ≡ 4 = cc in let b : j ≡ n = cc in ap₂ decode a b
    decode_code (R n) h i j e = let a : i ≡ 5 = cc in let b : j ≡ n = cc in ap₂ decode a b
    decode_code (N m n) h i j e =
        let a : i ≡ m = cc in
        let b : j ≡ n = cc in
        ap₂ decode a b ∙ decode_low m n (new_row m n h)

    -- two ports in one row and slot are one
    pub code_one : (x y : RulePort) → Spoken x → Spoken y → code x ≡ code y → x ≡ y
    code_one (L m) y h k e = sym (decode_code (L m) h 4 m refl) ∙ decode_code y k 4 m (sym e)
    code_one (R m) y h k e = sym (decode_code (R m) h 5 m refl) ∙ decode_code y k 5 m (sym e)
    code_one (N i m) y h k e = sym (decode_code (N i m) h i m refl) ∙ decode_code y k i m (sym e)

    partner_of : (x y : RulePort) → Wired w.wires x y → partner w.wires x ≡ y
    partner_of x y h = elim (partner_is w.wires x) [ inl k ↦ rl.with_one x (partner w.wires x) y k h | inr e ↦ absurd (e.1 y h) ]

    -- a pair of the rule is a wire
    pub wire_at : (x y : RulePort) → Wired w.wires x y → wiring w (code x) ≡ code y
    unfolding wiring
    wire_at (L n) y h = ap code (partner_of (L n) y h)
    wire_at (R n) y h = ap code (partner_of (R n) y h)
    wire_at (N i n) y h = ap (λ x. code (partner w.wires x)) (decode_low i n (new_row i n (rl.pairs_only (N i n) y h))) ∙ ap code (partner_of (N i n) y h)

    -- and every wire is a pair of the rule
    pub wire_from : (x : Spot) → wiring w x ≢ x → (g : RulePort) × (h : RulePort) × (x ≡ code g) × (wiring w x ≡ code h) × Wired w.wires g h
    unfolding wiring
    wire_from (end e) n = absurd (n refl)
    wire_from (port i j) n = go (partner_is w.wires (decode i j))
      where
        go : Wired w.wires (decode i j) (partner w.wires (decode i j))
            ⊎ ((partner w.wires (decode i j) ≡ decode i j) × ((y : RulePort) → Wired w.wires (decode i j) y → ⊥)) →
            (g : RulePort) × (h : RulePort) × (port i j ≡ code g) × (wiring w (port i j) ≡ code h) × Wired w.wires g h
        go (inl h) = (decode i j, partner w.wires (decode i j), sym (code_decode i j), refl, h)
        go (inr e) = absurd (n (ap code e.0 ∙ code_decode i j))

    pub wiring_mutual : Mutual (wiring w)
    wiring_mutual x = go (spot (wiring w x) x)
      where
        go : (wiring w x ≡ x) ⊎ (wiring w x ≢ x) → wiring w (wiring w x) ≡ x
        go (inl e) = ap (wiring w) e ∙ e
        go (inr n) =
            let t = wire_from x n in
            ap (wiring w) t.3 ∙ wire_at t.1 t.0 (wired_back w.wires t.0 t.1 t.4) ∙ sym t.2

    pub wiring_ports : Ports (wiring w)
    unfolding wiring
    wiring_ports e = refl

    pub spoken_wired : (x y : RulePort) → Wired w.wires x y → Spoken y
    spoken_wired x y h = rl.pairs_only y x (wired_back w.wires x y h)

    pub wiring_live : (x : RulePort) → Spoken x → wiring w (code x) ≢ code x
    wiring_live x h e =
        let t = rl.pairs_all x h in
        rl.with_other x t.0 t.1 (sym (code_one t.0 x (spoken_wired x t.0 t.1) h (sym (wire_at x t.0 t.1) ∙ e)))

    pub wiring_dead : (x : Spot) → wiring w x ≢ x → (g : RulePort) × (x ≡ code g) × Spoken g
    wiring_dead x n = let t = wire_from x n in (t.0, t.2, rl.pairs_only t.0 t.1 t.4)

    pub wiring_bounded : Bounded 6 (wiring w)
    wiring_bounded x n = let t = wiring_dead x n in subst (Left 6) (sym t.1) (low t.0 t.2)
      where
        low : (g : RulePort) → Spoken g → Left 6 (code g)
        low (L j) h = omega arith
        low (R j) h = omega arith
        low (N i j) h = let z = new_row i j h in omega arith
