use Rattle.std.proofs.Common.{◌≡◌, ℕ, ◌<◌, length, get_or}
use Rattle.nets.specs.Meaning.{net, cells_below}
use Rattle.netfile.proofs.numbering.Numbering.new.Given as goal

-- the places so far are numbered, and the count is the next place's number
abbrev pub invariant-loop-place : goal.invariant-loop-place
invariant-loop-place l = record {
  count : l.count ≡ cells_below (net l.table) l.place;
  numbered : (r : ℕ) → r < l.place → get_or l.number-items r 0 ≡ cells_below (net l.table) r;
  all : length l.number-items ≡ 1024;
}
