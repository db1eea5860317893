use Rattle.std.proofs.Common.{refl, arith}
use Rattle.std.specs.Prelude.{All}
use Rattle.std.proofs.lemmas.List.{take_all}
use Rattle.std.proofs.lemmas.List.Elements.{All-more, All-contains}
use Rattle.dcsp_defs.specs.declared.nogood.Pair.{Pair}
use Rattle.dcsp_defs.specs.Pairs.{no_pair}
use Rattle.dcsp_defs.specs.Words.{In}
use Rattle.dcsp_defs.specs.Csp.{domain}
use Rattle.dcsp_problem.proofs.RisingNumbers.{Contains-In}
use Rattle.dcsp_rule.specs.Problems.{csp_of}
use Rattle.network_trials.proofs.seats.are_values.Goals as goal

pub loop-pair-preserved : goal.loop-pair-preserved
loop-pair-preserved c =
    All-more (λ (pair : Pair). In pair.value (domain (csp_of c.args.problem.now) pair.var)) c.args.pairs.now c.loop-pair.pair-index no_pair (omega arith) c.loop-pair.invariant (c.if-not-is_value.ensures refl)

pub returns : goal.returns
returns c = λ _ pair i.
    let all : All (λ (pair : Pair). In pair.value (domain (csp_of c.args.problem.now) pair.var)) c.args.pairs.now = rw (take_all c.loop-pair.pair-index c.args.pairs.now (omega arith)) at c.loop-pair.invariant in
    All-contains (λ (pair : Pair). In pair.value (domain (csp_of c.args.problem.now) pair.var)) c.args.pairs.now pair all (Contains-In c.args.pairs.now pair i)
