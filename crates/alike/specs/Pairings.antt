-- The pairs that a pairing lists; the contracts of private functions alone cite these. Assumes nothing.
use Rattle.std.specs.Prelude.{◌≡◌, slice_index}
use Rattle.pairing.proofs.Pairs.{Pairs}
use Rattle.alike.specs.declared.Pairing.{Pairing}
use Rattle.alike.specs.Sides.{graph_of, size, row_at}

-- its pairs, and which of them each row is in
abbrev pub pairs : Pairing → Pairs
pairs m = record {
  count = size m.ours;
  ours = row_at m.ours;
  theirs = row_at m.theirs;
  our_seat = λ r. slice_index m.ours.seats r;
  their_seat = λ r. slice_index m.theirs.seats r;
}

-- n is of the same two nets as m
abbrev pub SameNets : Pairing → Pairing → Type 0
SameNets m n = (graph_of n.ours ≡ graph_of m.ours) × (graph_of n.theirs ≡ graph_of m.theirs)
