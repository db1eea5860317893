use Rattle.std.proofs.Common.{length}
use Rattle.ngd_log.specs.Pieces.{kept, FeedsFront, IsSound}
use Rattle.ngd_log.proofs.body.take_piece.Given as goal

-- the piece before the rest was taken
abbrev pub invariant-loop-line : goal.invariant-loop-line
invariant-loop-line l = record {
  taken : FeedsFront (kept l.fn.body) (kept l.body) l.piece l.rest l.fn.into l.into;
  sound : IsSound (kept l.body);
}

abbrev pub decreases-loop-line : goal.decreases-loop-line
decreases-loop-line l = length l.rest
