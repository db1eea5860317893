use Rattle.std.proofs.Common.{◌∙◌, ap, sym, subst}
use Rattle.dcsp_rule.specs.Problems.{Contents, csp_of}
use Rattle.abt_defs.specs.Network.{start}
use Rattle.abt_network.specs.Standing.{steps_of}
use Rattle.line_cnf.specs.CnfOutcomes.{IsFormula}
use Rattle.line_cnf.specs.ClauseRows.{steps_row}
use Rattle.line_cnf.specs.ClauseRuns.{IsRunAt}
use Rattle.line_cnf.proofs.Steps.{all_binary}
use Rattle.line_cnf.proofs.clause_run.started.Goals as goal

pub clauses_of-requires : goal.clauses_of-requires
clauses_of-requires c =
    let same = c.in_ok-network.ensures.problem in
    let p = c.in_ok-network.network.problem in
    all_binary p (subst IsFormula (sym same) c.requires) (steps_of c.in_ok-begun.begun) c.in_ok-begun.ensures.starts.right

pub returns : goal.returns
returns c =
    let p = c.in_ok-network.network.problem in
    let same = c.in_ok-network.ensures.problem in
    let h : IsRunAt p (start (csp_of p)) (record { network = c.start.new.self; room = c.new-room.result; clauses = c.in_ok-clauses.clauses }) = record {
      problem = c.in_ok-begun.ensures.problem;
      stands = c.in_ok-begun.ensures.starts.stands;
      sound = c.in_ok-begun.ensures.sound;
      begun = c.in_ok-begun.ensures.begun;
      clauses = c.in_ok-clauses.ensures ∙ ap steps_row (sym c.in_ok-begun.ensures.starts.steps);
    } in
    subst (λ (q : Contents). IsRunAt q (start (csp_of q)) (record { network = c.start.new.self; room = c.new-room.result; clauses = c.in_ok-clauses.clauses })) same h
