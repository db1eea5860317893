use Rattle.std.proofs.Common.{take}
use Rattle.ngd_log.specs.Pieces.{joined}
use Rattle.ngd_log.proofs.Fed.{HasRead}
use Rattle.ngd_log.proofs.pieces.read_pieces.Given as goal

-- the pieces so far were read
abbrev pub invariant-loop-piece : goal.invariant-loop-piece
invariant-loop-piece l = HasRead l.reader l.entries (joined (take l.piece-index l.pieces))
