-- Words put into a buffer, one after the other.
use Rattle.std.proofs.Common.{◌≡◌, ℕ, ◌+◌, ◌*◌, ◌%◌, ◌^◌, ◌≤◌, List, [], ◌∷◌, ◌++◌, length, take, drop, refl, sym, ap, ◌∙◌, subst, append_assoc, arith, length-append, length-drop}
use Rattle.std.proofs.lemmas.List.{take-append-drop, take_at, drop_at, drop-drop, length-take-le}
use Rattle.netfile.specs.Words.{bytes_of, each}
use Rattle.netfile.specs.Writing.{Put, Puts}
use Rattle.netfile.specs.declared.writer.Writer.{Writer}
use Rattle.netfile.proofs.Words.{length_bytes_of, bytes_of-append, bytes_wrapped, each_more}

-- a buffer keeps its length
pub put_length : {old new ws : List ℕ} {s n : ℕ} → s + 4 * length ws ≤ length old → Put old s ws new n → length new ≡ length old
put_length {old} {new} {ws} {s} {n} h p =
    let front : s ≤ length old = omega arith in
    ap length p.bytes ∙ simp (length-append, length-take-le, length-drop, length_bytes_of) (omega (arith, p.long))

pub put_none : (old : List ℕ) (s : ℕ) → Put old s [] old s
put_none old s = record { long = omega arith; bytes = sym (take-append-drop s old) }

pub put_then : {old mid new : List ℕ} {s m n : ℕ} {vs ws : List ℕ} → s ≤ length old → Put old s vs mid m → Put mid m ws new n → Put old s (vs ++ ws) new n
put_then {old} {mid} {new} {s} {m} {n} {vs} {ws} h p q =
    let front = take s old ++ bytes_of vs in
    let is : mid ≡ front ++ drop m old = p.bytes ∙ sym (append_assoc (take s old) (bytes_of vs) (drop m old)) in
    let long : length front ≡ m = simp (length-append, length-take-le, length_bytes_of) (omega (arith, p.long)) in
    let kept : take m mid ≡ front = ap (take m) is ∙ take_at front (drop m old) m long in
    let after : drop m mid ≡ drop m old = ap (drop m) is ∙ drop_at front (drop m old) m long in
    let further : drop n mid ≡ drop n old =
    ap (λ (k : ℕ). drop k mid) q.long
    ∙ sym (drop-drop (4 * length ws) m mid)
    ∙ ap (drop (4 * length ws)) after
    ∙ drop-drop (4 * length ws) m old
    ∙ ap (λ (k : ℕ). drop k old) (sym q.long) in
    record {
      long = simp length-append (omega (arith, p.long, q.long));
      bytes =
          q.bytes
          ∙ ap (λ xs. xs ++ (bytes_of ws ++ drop n mid)) kept
          ∙ ap (λ xs. front ++ (bytes_of ws ++ xs)) further
          ∙ append_assoc (take s old) (bytes_of vs) (bytes_of ws ++ drop n old)
          ∙ ap (λ xs. take s old ++ xs) (sym (append_assoc (bytes_of vs) (bytes_of ws) (drop n old)))
          ∙ ap (λ xs. take s old ++ (xs ++ drop n old)) (sym (bytes_of-append vs ws));
    }

pub put_no_pieces : (old : List ℕ) (s : ℕ) (f : ℕ → List ℕ) → Put old s (each 0 f) old s
unfolding each
put_no_pieces old s f = put_none old s

pub put_same : {old new ws : List ℕ} {s n : ℕ} → Put old s ws new n → (vs : List ℕ) → ws ≡ vs → Put old s vs new n
put_same {old} {new} {s = s} {n = n} p vs e = subst (λ ws. Put old s ws new n) e p

pub put_wrapped : {old new : List ℕ} {s n : ℕ} (w : ℕ) → Put old s (w % 2 ^ 32 ∷ []) new n → Put old s (w ∷ []) new n
put_wrapped {old} {s = s} {n = n} w p =
    record { long = p.long; bytes = p.bytes ∙ ap (λ bs. take s old ++ (bs ++ drop n old)) (bytes_wrapped w) }

-- the same of a writer
pub puts_length : {old new : Writer} {ws : List ℕ} → old.next + 4 * length ws ≤ length old.out.now → Puts old ws new → length new.out.now ≡ length old.out.now
puts_length fits p = put_length fits p.put

pub puts_wrapped : {old new : Writer} (w : ℕ) → Puts old (w % 2 ^ 32 ∷ []) new → Puts old (w ∷ []) new
puts_wrapped w p = record { same_reference = p.same_reference; put = put_wrapped w p.put }

pub puts_no_pieces : (w : Writer) (f : ℕ → List ℕ) → Puts w (each 0 f) w
puts_no_pieces w f = record { same_reference = refl; put = put_no_pieces w.out.now w.next f }

pub puts_same : {old new : Writer} {ws : List ℕ} → Puts old ws new → (vs : List ℕ) → ws ≡ vs → Puts old vs new
puts_same p vs e = record { same_reference = p.same_reference; put = put_same p.put vs e }

pub puts_then : {old mid new : Writer} {vs ws : List ℕ} → old.next ≤ length old.out.now → Puts old vs mid → Puts mid ws new → Puts old (vs ++ ws) new
puts_then fits p q = record { same_reference = q.same_reference ∙ p.same_reference; put = put_then fits p.put q.put }

pub puts_more : {old mid new : Writer} (f : ℕ → List ℕ) (i : ℕ) → old.next ≤ length old.out.now → Puts old (each i f) mid → Puts mid (f i) new → Puts old (each (i + 1) f) new
puts_more f i fits p q = puts_same (puts_then fits p q) (each (i + 1) f) (sym (each_more i f))

-- what stands at the front of the buffer
module _ {old ws new : List ℕ} {n : ℕ} (p : Put old 0 ws new n) where
  pub front_length : n ≡ length (bytes_of ws)
  front_length = p.long ∙ omega (arith, length_bytes_of ws)

  pub front_bytes : new ≡ bytes_of ws ++ drop (length (bytes_of ws)) old
  front_bytes = p.bytes ∙ ap (λ (m : ℕ). bytes_of ws ++ drop m old) front_length
