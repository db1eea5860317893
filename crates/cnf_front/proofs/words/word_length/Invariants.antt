use Rattle.std.proofs.Common.{◌≡◌, ◌+◌, length}
use Rattle.cnf_front.specs.Dimacs.{word_length}
use Rattle.cnf_front.proofs.words.word_length.Given as goal

abbrev pub invariant-loop-rest : goal.invariant-loop-rest
invariant-loop-rest l = record {
  same : word_length l.bytes ≡ l.count + word_length l.rest;
  counted : l.count + length l.rest ≡ length l.bytes;
}

abbrev pub decreases-loop-rest : goal.decreases-loop-rest
decreases-loop-rest l = length l.rest
