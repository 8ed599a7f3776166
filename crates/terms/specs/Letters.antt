-- Letters, names and items as bytes. Assumes nothing.
use Rattle.std.specs.Prelude.{◌≡◌, ℕ, ◌+◌, ◌<◌, ◌≤◌, Bool, true, false, ◌&&◌, List, [], ◌++◌, length, take, drop, nat_le, slice_index}

-- one of the 26 letters from the first one on
abbrev pub letter : ℕ → ℕ → Bool
letter first b = nat_le first b && nat_le b (first + 25)

-- a to z
abbrev pub small : ℕ
small = 97

-- A to Z
abbrev pub capital : ℕ
capital = 65

-- one to eight letters
pub record Word (first : ℕ) (w : List ℕ) : Type 0 where
  pub some : 1 ≤ length w
  pub few : length w ≤ 8
  pub letters : (k : ℕ) → k < length w → letter first (slice_index w k) ≡ true

-- the bytes w are outside the grammar G from place p on: p is the length of the longest front of w with which some text of G begins
pub record Outside (G : List ℕ → Type 0) (w : List ℕ) (p : ℕ) : Type 0 where
  pub wrong : G w → ⊥
  pub inside : p ≤ length w
  pub begun : (v : List ℕ) × G (take p w ++ v)
  pub longest : (q : ℕ) → p < q → q ≤ length w → (v : List ℕ) → G (take q w ++ v) → ⊥

-- from place p on there are just n letters, or eight or more where n is 8
pub record Run (text : List ℕ) (p first n : ℕ) : Type 0 where
  pub few : n ≤ 8
  pub inside : p + n ≤ length text
  pub letters : (k : ℕ) → k < n → letter first (slice_index text (p + k)) ≡ true
  pub ends : n < 8 → p + n < length text → letter first (slice_index text (p + n)) ≡ false

-- the word w stands at place p of the text, and the letters end there
pub record WordAt (text : List ℕ) (p first : ℕ) (w : List ℕ) : Type 0 where
  pub word : Word first w
  pub inside : p + length w ≤ length text
  pub here : take (length w) (drop p text) ≡ w
  pub ends : p + length w < length text → letter first (slice_index text (p + length w)) ≡ false

-- w is what stands at place p of letters from the first one on, of more than eight the first eight; nothing past the end of the text
pub record ReadAt (text : List ℕ) (p first : ℕ) (w : List ℕ) : Type 0 where
  pub past : length text < p → w ≡ []
  pub run : p ≤ length text → Run text p first (length w)
  pub here : p ≤ length text → w ≡ take (length w) (drop p text)
