use Rattle.std.proofs.Common.{refl, arith}
use Rattle.std.proofs.lemmas.List.{take_all}
use Rattle.std.proofs.lemmas.List.Elements.{All-more}
use Rattle.dcsp_defs.specs.Pairs.{no_pair}
use Rattle.dcsp_defs.specs.Derivation.{IsKnownPair}
use Rattle.dcsp_rule.specs.Problems.{csp_of}
use Rattle.ngd_check.proofs.step.are_known.Goals as goal

pub loop-pair-preserved : goal.loop-pair-preserved
loop-pair-preserved c =
    All-more (IsKnownPair (csp_of c.args.problem.now)) c.args.pairs.now c.loop-pair.pair-index no_pair (omega arith) c.loop-pair.invariant (c.if-not-is_known.ensures.0 refl)

pub returns : goal.returns
returns c = (λ _. rw (take_all c.loop-pair.pair-index c.args.pairs.now (omega arith)) at c.loop-pair.invariant, λ _. refl)
