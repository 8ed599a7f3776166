-- What follows of a side's rows and seats. Assumes nothing.
use Rattle.std.proofs.Common.{ℕ, ◌<◌, Bool, true, false, ◌≢◌, slice_index, sym}
use Rattle.std.proofs.lemmas.Bool.{true≢false}
use Rattle.std.specs.Bool.{MatchBool}
use Rattle.pairing.specs.Graph.{Graph}
use Rattle.pairing.proofs.Pairs.{Listed, Free, Within, Loose, Covers}
use Rattle.pairing.proofs.Growth.{once}
use Rattle.pairing.proofs.Room.{room_more}
use Rattle.alike.specs.declared.side.Side.{Side}
use Rattle.alike.specs.Sides.{size, row_at}

-- there is room for a row that is in no pair: each row has a seat of its own
pub one_more : (s : Side) (x : ℕ) → x < 1094 → Free (size s) (row_at s) x → size s < 1094
one_more s x = room_more 1094 (size s) (row_at s) x (λ k _. s.small k) (once (size s) (row_at s) (λ r. slice_index s.seats r) s.seated)

-- each of the rows is in a pair, or some is not
pub covers : (A : Graph) (n : ℕ) (l : ℕ → ℕ) (r : Bool) → Within 1094 A → MatchBool r ((p : ℕ) → p < 1094 → A.kind p ≢ 0 → Listed n l p) ((p : ℕ) × Loose A n l p) → Covers A n l r
covers A n l true w h = record { yes = λ _ p k. h p (w p k) k; no = λ e. absurd (true≢false e) }
covers A n l false w h = record { yes = λ e. absurd (true≢false (sym e)); no = λ _. h }
