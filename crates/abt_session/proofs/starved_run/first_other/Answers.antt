use Rattle.std.proofs.Common.{◌≤◌, length, sym, subst}
use Rattle.dcsp_rule.specs.Problems.{csp_of}
use Rattle.abt_defs.specs.Network.{ready}
use Rattle.abt_session.proofs.Links.{found_first, found_none, tested}
use Rattle.abt_session.proofs.starved_run.first_other.Goals as goal

pub returns-then-ne : goal.returns-then-ne
returns-then-ne c = λ net st.
    sym (found_first c.args.from c.args.to (ready (csp_of c.args.network.now.problem) net) c.loop-number.number (c.loop-number.invariant net st) c.ready_pair.result
    (c.ready_pair.ensures.machine net st c.requires) (tested c.args.from c.args.to c.ready_pair.result c.ne.result c.if-ne.true c.ne.ensures))

pub returns : goal.returns
returns c = λ net st.
    let all : length (ready (csp_of c.args.network.now.problem) net) ≤ c.loop-number.number = subst (λ n. n ≤ c.loop-number.number) (c.ready-number-end.ensures.machine net st c.requires) c.loop-number-test.false in
    sym (found_none c.args.from c.args.to (ready (csp_of c.args.network.now.problem) net) c.loop-number.number (c.loop-number.invariant net st) all)
