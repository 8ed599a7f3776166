-- What the exchange of two neighbours keeps, every change of a list's order keeps. Assumes nothing.
use Rattle.std.proofs.Common.{◌≡◌, ℕ, suc, ◌+◌, ◌-◌, ◌<◌, List, [], ◌∷◌, ◌++◌, length, get_or, take, drop, set, sym, ap, ◌∙◌, subst, ap₂, inl, inr, arith}
use Rattle.std.specs.List.{swap as exchanged}
use Rattle.std.specs.List.Sorted.{IsPermutation}
use Rattle.std.proofs.lemmas.List.{append_assoc, length-append, length-take-le, get_or_at, set_at, set-set, set_comm, set-get_or, set_split}
use Rattle.std.proofs.lemmas.List.Sorted.{IsPermutation-keeps}
use Rattle.std.proofs.lemmas.Bool.{cases_lt}

-- a list in two parts around its entry i
record Around {X : Type 0} (l : List X) (i : ℕ) : Type 0 where
  before : List X
  entry : X
  after : List X
  whole : l ≡ before ++ entry ∷ after
  long : length before ≡ i

around : {X : Type 0} (l : List X) (i : ℕ) (d : X) → i < length l → Around l i
around l i d h = record {
  before = take i l;
  entry = get_or l i d;
  after = drop (suc i) l;
  whole = sym (set-get_or l i d) ∙ set_split l i (get_or l i d) h;
  long = length-take-le i l (omega arith);
}

-- the exchange of two entries, written out
exchange_at : {X : Type 0} (xs ys zs : List X) (a b d : X) (i j : ℕ) → length xs ≡ i → suc (i + length ys) ≡ j →
    set (set (xs ++ a ∷ (ys ++ b ∷ zs)) i (get_or (xs ++ a ∷ (ys ++ b ∷ zs)) j d)) j (get_or (xs ++ a ∷ (ys ++ b ∷ zs)) i d) ≡ xs ++ b ∷ (ys ++ a ∷ zs)
exchange_at {X} xs ys zs a b d i j n m = ap₂ (λ x y. set (set l i x) j y) read_j read_i ∙ ap (λ t. set t j a) (set_at xs a (ys ++ b ∷ zs) b i n ∙ split b) ∙ write
  where
    l : List X
    l = xs ++ a ∷ (ys ++ b ∷ zs)

    split : (c : X) → xs ++ c ∷ (ys ++ b ∷ zs) ≡ xs ++ c ∷ ys ++ b ∷ zs
    split c = sym (append_assoc xs (c ∷ ys) (b ∷ zs))

    long : (c : X) → length (xs ++ c ∷ ys) ≡ j
    long c = length-append xs (c ∷ ys) ∙ omega arith

    read_i : get_or l i d ≡ a
    read_i = get_or_at xs a (ys ++ b ∷ zs) d i n

    read_j : get_or l j d ≡ b
    read_j = ap (λ l. get_or l j d) (split a) ∙ get_or_at (xs ++ a ∷ ys) b zs d j (long a)

    write : set (xs ++ b ∷ ys ++ b ∷ zs) j a ≡ xs ++ b ∷ (ys ++ a ∷ zs)
    write = set_at (xs ++ b ∷ ys) b zs a j (long b) ∙ append_assoc xs (b ∷ ys) (a ∷ zs)

module _ {X : Type 0} (Q : List X → Type 0) (swap : (xs ys : List X) (a b : X) → Q (xs ++ a ∷ b ∷ ys) → Q (xs ++ b ∷ a ∷ ys)) where
  -- an entry moved to the left, and to the right
  leftward : (ys xs zs : List X) (b : X) → Q (xs ++ (ys ++ b ∷ zs)) → Q (xs ++ b ∷ (ys ++ zs))
  leftward [] xs zs b q = q
  leftward (y ∷ ys) xs zs b q =
      swap xs (ys ++ zs) y b (subst Q (append_assoc xs (y ∷ []) (b ∷ (ys ++ zs)))
      (leftward ys (xs ++ y ∷ []) zs b (subst Q (sym (append_assoc xs (y ∷ []) (ys ++ b ∷ zs))) q)))

  rightward : (ys xs zs : List X) (a : X) → Q (xs ++ a ∷ (ys ++ zs)) → Q (xs ++ (ys ++ a ∷ zs))
  rightward [] xs zs a q = q
  rightward (y ∷ ys) xs zs a q =
      subst Q (append_assoc xs (y ∷ []) (ys ++ a ∷ zs))
      (rightward ys (xs ++ y ∷ []) zs a (subst Q (sym (append_assoc xs (y ∷ []) (a ∷ (ys ++ zs)))) (swap xs (ys ++ zs) a y q)))

  trade : (xs ys zs : List X) (a b : X) → Q (xs ++ a ∷ (ys ++ b ∷ zs)) → Q (xs ++ b ∷ (ys ++ a ∷ zs))
  trade xs ys zs a b q =
      subst Q (append_assoc xs (b ∷ []) (ys ++ a ∷ zs))
      (rightward ys (xs ++ b ∷ []) zs a (subst Q (sym (append_assoc xs (b ∷ []) (a ∷ (ys ++ zs)))) (leftward (a ∷ ys) xs zs b q)))

  -- the entries i and j, i first, exchanged
  set_both : (l : List X) (i j : ℕ) (d : X) → i < j → j < length l → Q l → Q (set (set l i (get_or l j d)) j (get_or l i d))
  set_both l i j d h k q = first (around l i d (omega arith))
    where
      second : (xs rest : List X) (a : X) → l ≡ xs ++ a ∷ rest → length xs ≡ i → Around rest (j - suc i) → Q (set (set l i (get_or l j d)) j (get_or l i d))
      second xs rest a e n r =
          let m = r.long in
          let f : l ≡ xs ++ a ∷ (r.before ++ r.entry ∷ r.after) = e ∙ ap (λ t. xs ++ a ∷ t) r.whole in
          subst (λ l. Q (set (set l i (get_or l j d)) j (get_or l i d))) (sym f)
          (subst Q (sym (exchange_at xs r.before r.after a r.entry d i j n (omega arith))) (trade xs r.before r.after a r.entry (subst Q f q)))

      first : Around l i → Q (set (set l i (get_or l j d)) j (get_or l i d))
      first p =
          let n = p.long in
          let ll : length l ≡ length p.before + suc (length p.after) = ap length p.whole ∙ length-append p.before (p.entry ∷ p.after) in
          second p.before p.after p.entry p.whole n (around p.after (j - suc i) d (omega arith))

  exchange_keeps : (l : List X) (i j : ℕ) → i < length l → j < length l → Q l → Q (exchanged l i j)
  exchange_keeps [] i j h k q = q
  exchange_keeps (d ∷ t) i j h k q = elim (cases_lt i j) [
    | inl o ↦ set_both (d ∷ t) i j d o k q
    | inr o ↦ elim (cases_lt j i) [
      | inl u ↦ subst Q (set_comm (d ∷ t) j i (get_or (d ∷ t) i d) (get_or (d ∷ t) j d) (omega arith)) (set_both (d ∷ t) j i d u h q)
      | inr u ↦ (
          let e : j ≡ i = omega arith in
          subst (λ j. Q (set (set (d ∷ t) i (get_or (d ∷ t) j d)) j (get_or (d ∷ t) i d))) (sym e)
          (subst Q (sym (set-set (d ∷ t) i (get_or (d ∷ t) i d) (get_or (d ∷ t) i d) ∙ set-get_or (d ∷ t) i d)) q))
    ]
  ]

  pub order_keeps : (xs ys : List X) → IsPermutation xs ys → Q xs → Q ys
  order_keeps xs ys h q = IsPermutation-keeps xs Q q exchange_keeps ys h
