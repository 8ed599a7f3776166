-- Laws of words, of their bytes, and of lists made piece by piece.
use Rattle.std.proofs.Common.{◌≡◌, ℕ, zero, suc, ◌+◌, ◌*◌, ◌/◌, ◌%◌, ◌^◌, ◌<◌, ◌≤◌, ◌≢◌, List, [], ◌∷◌, ◌++◌, length, get_or, take, drop, sym, refl, ap, ◌∙◌, inl, inr, append_assoc, add-zero, add-suc, suc-mul, zero-mul, add-one, arith, length-append}
use Rattle.std.proofs.lemmas.Nat.{shr-shr, shr_split, field_of}
use Rattle.std.specs.Simd.{first_chunks}
use Rattle.std.proofs.lemmas.List.{drop-drop, get_or-take, get_or-drop, append-nil, get_or_append_left, get_or-append-add, ext_get_or}
use Rattle.std.proofs.lemmas.Bool.{cases_eq}
use Rattle.calculus.specs.Spots.{Spot, end, port}
pub use Rattle.netfile.specs.Decoding.{Fits}
use Rattle.netfile.specs.Faults.{size}
use Rattle.netfile.specs.Words.{header, loops_word, cell_word, link_word, word, bytes_of, each}

-- each entry is below n
abbrev pub Below : ℕ → List ℕ → Type 0
Below n xs = (i : ℕ) → get_or xs i 0 < n

-- Lists made piece by piece.

pub each_none : (f : ℕ → List ℕ) → each 0 f ≡ []
unfolding each
each_none f = refl

pub each_same : (n : ℕ) (f g : ℕ → List ℕ) → ((i : ℕ) → i < n → f i ≡ g i) → each n f ≡ each n g
unfolding each
each_same zero f g h = refl
each_same (suc n) f g h =
    let p = each_same n f g (λ i l. h i (omega arith)) in let q = h n (omega arith) in cc

pub each_more : (n : ℕ) (f : ℕ → List ℕ) → each (n + 1) f ≡ each n f ++ f n
unfolding each
each_more n f = rw add-one

pub each_add : (m n : ℕ) (f : ℕ → List ℕ) → each (m + n) f ≡ each m f ++ each n (λ i. f (m + i))
unfolding each
each_add m zero f = rw add-zero (sym (append-nil (each m f)))
each_add m (suc n) f =
    rw add-suc (ap (λ xs. xs ++ f (m + n)) (each_add m n f) ∙ append_assoc (each m f) (each n (λ i. f (m + i))) (f (m + n)))

-- piece r begins where the pieces before it end
pub each_split : (n r : ℕ) (f : ℕ → List ℕ) → r < n → (rest : List ℕ) × (each n f ≡ each r f ++ (f r ++ rest))
unfolding each
each_split zero r f h = absurd (omega arith)
each_split (suc n) r f h =
    elim (cases_eq r n) [
      | inl e ↦ ([], ap (λ k. each k f ++ f k) (sym e) ∙ ap (λ xs. each r f ++ xs) (sym (append-nil (f r))))
      | inr ne ↦
          let (rest, e) = each_split n r f (omega arith) in
          (rest ++ f n, ap (λ xs. xs ++ f n) e ∙ simp append_assoc)
    ]

pub get_d_each : (n r j : ℕ) (f : ℕ → List ℕ) → r < n → j < length (f r) → get_or (each n f) (length (each r f) + j) 0 ≡ get_or (f r) j 0
get_d_each n r j f h k =
    let (rest, e) = each_split n r f h in
    ap (λ xs. get_or xs (length (each r f) + j) 0) e
    ∙ get_or-append-add (each r f) (f r ++ rest) j 0
    ∙ get_or_append_left (f r) rest 0 j k

pub length_each_one : (n : ℕ) (f : ℕ → ℕ) → length (each n (λ i. f i ∷ [])) ≡ n
unfolding each
length_each_one zero f = refl
length_each_one (suc n) f = let e = length_each_one n f in simp length-append (omega arith)

pub get_d_each_one : (n : ℕ) (f : ℕ → ℕ) (i : ℕ) → i < n → get_or (each n (λ i. f i ∷ [])) i 0 ≡ f i
get_d_each_one n f i h =
    let e : length (each i (λ i. f i ∷ [])) + 0 ≡ i = omega (arith, length_each_one i f) in
    ap (λ k. get_or (each n (λ i. f i ∷ [])) k 0) (sym e) ∙ get_d_each n i 0 (λ i. f i ∷ []) h (omega arith)

-- how long the pieces are together: at most c for each
pub length_each_le : (n c : ℕ) (f : ℕ → List ℕ) → ((i : ℕ) → i < n → length (f i) ≤ c) → length (each n f) ≤ n * c
unfolding each
length_each_le zero c f h = omega arith
length_each_le (suc n) c f h =
    let p = length_each_le n c f (λ i l. h i (omega arith)) in
    let q = h n (omega arith) in
    let e = suc-mul n c in
    simp length-append (omega arith)

pub each_first : (n : ℕ) (f : ℕ → List ℕ) → each (suc n) f ≡ f 0 ++ each n (λ i. f (suc i))
unfolding each
each_first zero f = sym (append-nil (f 0))
each_first (suc n) f = ap (λ xs. xs ++ f (suc n)) (each_first n f) ∙ append_assoc (f 0) (each n (λ i. f (suc i))) (f (suc n))

pub append_apart : (xs ys us vs : List ℕ) → length xs ≡ length ys → xs ++ us ≡ ys ++ vs → (xs ≡ ys) × (us ≡ vs)
append_apart [] [] us vs l e = (refl, e)
append_apart [] (y ∷ ys) us vs l e = absurd (omega arith)
append_apart (x ∷ xs) [] us vs l e = absurd (omega arith)
append_apart (x ∷ xs) (y ∷ ys) us vs l e =
    let whole : x ∷ (xs ++ us) ≡ y ∷ (ys ++ vs) = e in
    let first : x ≡ y = cc in
    let rest : xs ++ us ≡ ys ++ vs = cc in
    let (same, after) = append_apart xs ys us vs (omega arith) rest in
    (cc, after)

-- pieces of which none begins another are told from the whole
pub each_pieces : (n : ℕ) (f g : ℕ → List ℕ) → ((i : ℕ) → i < n → (xs ys : List ℕ) → f i ++ xs ≡ g i ++ ys → f i ≡ g i) → each n f ≡ each n g → (i : ℕ) → i < n → f i ≡ g i
each_pieces zero f g h e i l = absurd (omega arith)
each_pieces (suc n) f g h e i l =
    let both = sym (each_first n f) ∙ e ∙ each_first n g in
    let first : f 0 ≡ g 0 = h 0 (omega arith) _ _ both in
    let rest : each n (λ j. f (suc j)) ≡ each n (λ j. g (suc j)) = (append_apart (f 0) (g 0) _ _ (ap length first) both).1 in
    piece_at first (each_pieces n (λ j. f (suc j)) (λ j. g (suc j)) (λ j m. h (suc j) (omega arith)) rest) i l
  where
    piece_at : f 0 ≡ g 0 → ((j : ℕ) → j < n → f (suc j) ≡ g (suc j)) → (i : ℕ) → i < suc n → f i ≡ g i
    piece_at first rest zero l = first
    piece_at first rest (suc j) l = rest j (omega arith)

pub below-cons : (m x : ℕ) (xs : List ℕ) → x < m → Below m xs → Below m (x ∷ xs)
below-cons m x xs h p zero = h
below-cons m x xs h p (suc i) = p i

pub below-append : (m : ℕ) (xs ys : List ℕ) → Below m xs → Below m ys → Below m (xs ++ ys)
below-append m [] ys p q i = q i
below-append m (x ∷ xs) ys p q zero = p 0
below-append m (x ∷ xs) ys p q (suc i) = below-append m xs ys (λ j. p (suc j)) q i

pub below_each : (m n : ℕ) (f : ℕ → List ℕ) → 0 < m → ((i : ℕ) → i < n → Below m (f i)) → Below m (each n f)
unfolding each
below_each m zero f z h i = z
below_each m (suc n) f z h i = below-append m (each n f) (f n) (below_each m n f z (λ i l. h i (omega arith))) (h n (omega arith)) i

-- Bytes and words.

pub length_bytes_of : (ws : List ℕ) → length (bytes_of ws) ≡ 4 * length ws
length_bytes_of [] = refl
length_bytes_of (w ∷ ws) = let e = length_bytes_of ws in omega arith

pub bytes_of-append : (vs ws : List ℕ) → bytes_of (vs ++ ws) ≡ bytes_of vs ++ bytes_of ws
bytes_of-append [] ws = refl
bytes_of-append (v ∷ vs) ws = ap (λ bs. v / 2 ^ 24 % 256 ∷ v / 2 ^ 16 % 256 ∷ v / 2 ^ 8 % 256 ∷ v % 256 ∷ bs) (bytes_of-append vs ws)

pub bytes_below : (ws : List ℕ) → Below 256 (bytes_of ws)
bytes_below [] i = omega arith
bytes_below (w ∷ ws) zero = omega arith
bytes_below (w ∷ ws) (suc zero) = omega arith
bytes_below (w ∷ ws) (suc (suc zero)) = omega arith
bytes_below (w ∷ ws) (suc (suc (suc zero))) = omega arith
bytes_below (w ∷ ws) (suc (suc (suc (suc i)))) = bytes_below ws i

past_four : (a b c d : ℕ) (bs : List ℕ) (n m : ℕ) → n ≡ 4 + m → get_or (a ∷ b ∷ c ∷ d ∷ bs) n 0 ≡ get_or bs m 0
past_four a b c d bs n m e =
    let e' : n ≡ suc (suc (suc (suc m))) = omega arith in ap (λ k. get_or (a ∷ b ∷ c ∷ d ∷ bs) k 0) e'

pub word_past : (a b c d : ℕ) (bs : List ℕ) (i : ℕ) → word (a ∷ b ∷ c ∷ d ∷ bs) (suc i) ≡ word bs i
word_past a b c d bs i =
    let p = past_four a b c d bs (4 * suc i) (4 * i) (omega arith) in
    let q = past_four a b c d bs (4 * suc i + 1) (4 * i + 1) (omega arith) in
    let r = past_four a b c d bs (4 * suc i + 2) (4 * i + 2) (omega arith) in
    let s = past_four a b c d bs (4 * suc i + 3) (4 * i + 3) (omega arith) in
    cc

joins : (w x y z a b c d : ℕ) → x * 256 + d ≡ w → y * 256 + c ≡ x → z * 256 + b ≡ y → z ≡ a → a * 2 ^ 24 + b * 2 ^ 16 + c * 2 ^ 8 + d ≡ w
joins w x y z a b c d p q r s = omega arith

split : (w : ℕ) → w < 2 ^ 32 → w / 2 ^ 24 % 256 * 2 ^ 24 + w / 2 ^ 16 % 256 * 2 ^ 16 + w / 2 ^ 8 % 256 * 2 ^ 8 + w % 256 ≡ w
split w h =
    joins w (w / 2 ^ 8) (w / 2 ^ 16) (w / 2 ^ 24) (w / 2 ^ 24 % 256) (w / 2 ^ 16 % 256) (w / 2 ^ 8 % 256) (w % 256)
    (shr_split w 8) (ap (λ n. n * 256 + w / 2 ^ 8 % 256) (sym (shr-shr w 8 8)) ∙ shr_split (w / 2 ^ 8) 8)
    (ap (λ n. n * 256 + w / 2 ^ 16 % 256) (sym (shr-shr w 16 8)) ∙ shr_split (w / 2 ^ 16) 8) (omega arith)

pub word_bytes_of : (ws : List ℕ) → Below (2 ^ 32) ws → (i : ℕ) → word (bytes_of ws) i ≡ get_or ws i 0
word_bytes_of [] h i = refl
word_bytes_of (w ∷ ws) h zero = split w (h 0)
word_bytes_of (w ∷ ws) h (suc i) = word_past _ _ _ _ (bytes_of ws) i ∙ word_bytes_of ws (λ j. h (suc j)) i

module _ (a b c d : ℕ) (p : a < 256) (q : b < 256) (r : c < 256) (s : d < 256) (w : ℕ) (e : w ≡ a * 2 ^ 24 + b * 2 ^ 16 + c * 2 ^ 8 + d) where
  byte_0 : w / 2 ^ 24 % 256 ≡ a
  byte_0 = omega arith

  byte_1 : w / 2 ^ 16 % 256 ≡ b
  byte_1 = omega arith

  byte_2 : w / 2 ^ 8 % 256 ≡ c
  byte_2 = omega arith

  byte_3 : w % 256 ≡ d
  byte_3 = omega arith

-- bits past 31 have no byte
pub bytes_wrapped : (w : ℕ) → bytes_of (w % 2 ^ 32 ∷ []) ≡ bytes_of (w ∷ [])
bytes_wrapped w =
    let p : w % 2 ^ 32 / 2 ^ 24 % 256 ≡ w / 2 ^ 24 % 256 = ap (λ (n : ℕ). n % 256) (field_of w 8 24) ∙ omega arith in
    let q : w % 2 ^ 32 / 2 ^ 16 % 256 ≡ w / 2 ^ 16 % 256 = ap (λ (n : ℕ). n % 256) (field_of w 16 16) ∙ omega arith in
    let r : w % 2 ^ 32 / 2 ^ 8 % 256 ≡ w / 2 ^ 8 % 256 = ap (λ (n : ℕ). n % 256) (field_of w 24 8) ∙ omega arith in
    let s : w % 2 ^ 32 % 256 ≡ w % 256 = omega arith in
    cc

-- words that are those of some bytes have these bytes
pub bytes_of_words : (ws bs : List ℕ) → Below 256 bs → length bs ≡ 4 * length ws → ((i : ℕ) → i < length ws → get_or ws i 0 ≡ word bs i) → bytes_of ws ≡ bs
bytes_of_words [] [] h l e = refl
bytes_of_words [] (b ∷ bs) h l e = absurd (omega arith)
bytes_of_words (w ∷ ws) [] h l e = absurd (omega arith)
bytes_of_words (w ∷ ws) (a ∷ []) h l e = absurd (omega arith)
bytes_of_words (w ∷ ws) (a ∷ b ∷ []) h l e = absurd (omega arith)
bytes_of_words (w ∷ ws) (a ∷ b ∷ c ∷ []) h l e = absurd (omega arith)
bytes_of_words (w ∷ ws) (a ∷ b ∷ c ∷ d ∷ bs) h l e =
    let is : w ≡ a * 2 ^ 24 + b * 2 ^ 16 + c * 2 ^ 8 + d = e 0 (omega arith) in
    let b0 = byte_0 a b c d (h 0) (h 1) (h 2) (h 3) w is in
    let b1 = byte_1 a b c d (h 0) (h 1) (h 2) (h 3) w is in
    let b2 = byte_2 a b c d (h 0) (h 1) (h 2) (h 3) w is in
    let b3 = byte_3 a b c d (h 0) (h 1) (h 2) (h 3) w is in
    let rest = bytes_of_words ws bs (λ i. h (suc (suc (suc (suc i))))) (omega arith) (λ i m. e (suc i) (omega arith) ∙ word_past a b c d bs i) in
    cc

pub bytes_of_injective : (vs ws : List ℕ) → Below (2 ^ 32) vs → Below (2 ^ 32) ws → bytes_of vs ≡ bytes_of ws → vs ≡ ws
bytes_of_injective vs ws p q e =
    let long : length vs ≡ length ws = omega (arith, length_bytes_of vs, length_bytes_of ws, ap length e) in
    ext_get_or 0 vs ws long (λ i _. sym (word_bytes_of vs p i) ∙ ap (λ bs. word bs i) e ∙ word_bytes_of ws q i)

-- The fields of a word.

pub link_word_injective : (x y : Spot) → Fits x → Fits y → link_word x ≡ link_word y → x ≡ y
link_word_injective (end e) (end f) p q h = ap end (omega arith)
link_word_injective (end e) (port r j) p q h = absurd (omega arith)
link_word_injective (port r j) (end f) p q h = absurd (omega arith)
link_word_injective (port r j) (port s k) p q h = let a : r ≡ s = omega arith in let b : j ≡ k = omega arith in cc

pub cell_word_injective : (k l : ℕ) → cell_word k ≡ cell_word l → k ≡ l
cell_word_injective k l h = omega arith

pub loops_word_injective : (k l : ℕ) → loops_word k ≡ loops_word l → k ≡ l
loops_word_injective k l h = omega arith

pub header_injective : (b c e f m n : ℕ) → e < 256 → f < 256 → m < 2 ^ 16 → n < 2 ^ 16 → header b e m ≡ header c f n → (b ≡ c) × (e ≡ f) × (m ≡ n)
header_injective b c e f m n p q r s h = (omega arith, omega arith, omega arith)

-- The kind of a word, bits 31 and 30, tells the four apart; no word needs more than 32 bits.

pub header_kind : (b e c : ℕ) → b < 64 → e < 256 → c < 2 ^ 16 → header b e c < 2 ^ 30
header_kind b e c p q r = omega arith

pub loops_word_kind : (l : ℕ) → l < 2 ^ 30 → (2 ^ 30 ≤ loops_word l) × (loops_word l < 2 * 2 ^ 30)
loops_word_kind l h = omega arith

pub cell_word_kind : (k : ℕ) → k < 64 → (2 * 2 ^ 30 ≤ cell_word k) × (cell_word k < 3 * 2 ^ 30)
cell_word_kind k h = omega arith

pub link_word_kind : (x : Spot) → Fits x → (3 * 2 ^ 30 ≤ link_word x) × (link_word x < 2 ^ 32)
link_word_kind (end e) h = omega arith
link_word_kind (port r j) h = omega arith

pub cell_not_link : (k : ℕ) (x : Spot) → k < 64 → Fits x → cell_word k ≢ link_word x
cell_not_link k x h f = let a = cell_word_kind k h in let b = link_word_kind x f in omega arith

-- Words as chunks of four bytes.

pub first_chunks_at : (n k i : ℕ) (xs d : List ℕ) → i < k → get_or (first_chunks n k xs) i d ≡ take n (drop (i * n) xs)
first_chunks_at n zero i xs d h = absurd (omega arith)
first_chunks_at n (suc k) zero xs d h = ap (λ (m : ℕ). take n (drop m xs)) (sym (zero-mul n))
first_chunks_at n (suc k) (suc i) xs d h =
    first_chunks_at n k i (drop n xs) d (omega arith)
    ∙ ap (take n) (drop-drop (i * n) n xs ∙ ap (λ (m : ℕ). drop m xs) (omega (arith, suc-mul i n)))

pub word_of_chunk : (bs w : List ℕ) (i : ℕ) → i < size bs → w ≡ get_or (first_chunks 4 (size bs) bs) i w →
    get_or w 0 0 * 2 ^ 24 + get_or w 1 0 * 2 ^ 16 + get_or w 2 0 * 2 ^ 8 + get_or w 3 0 ≡ word bs i
word_of_chunk bs w i h e =
    let at : (j n : ℕ) → j < 4 → i * 4 + j ≡ n → get_or w j 0 ≡ get_or bs n 0 = λ j n l s.
    ap (λ v. get_or v j 0) (e ∙ first_chunks_at 4 (size bs) i bs w h)
    ∙ get_or-take 4 (drop (i * 4) bs) j 0 l
    ∙ get_or-drop (i * 4) bs j 0
    ∙ ap (λ (m : ℕ). get_or bs m 0) s in
    let p = at 0 (4 * i) (omega arith) (omega arith) in
    let q = at 1 (4 * i + 1) (omega arith) (omega arith) in
    let r = at 2 (4 * i + 2) (omega arith) (omega arith) in
    let s = at 3 (4 * i + 3) (omega arith) (omega arith) in
    cc
