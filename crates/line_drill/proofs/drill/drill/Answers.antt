use Rattle.std.proofs.Common.{sym, subst}
use Rattle.ngd_check.specs.declared.Finding.TheVariants.{Verified}
use Rattle.ngd_log.specs.Logs.{log_text}
use Rattle.dcsp_gen.specs.Problems.{sparse_text, queens_text, pigeons_text}
use Rattle.abt_schedule.specs.Answers.{word_at, generator_of}
use Rattle.line_drill.specs.Drills.{run_from}
use Rattle.line_drill.proofs.Generated.{its_queens, its_pigeons, its_sparse, has_problem}
use Rattle.line_drill.proofs.Ends.{pigeons_verified}
use Rattle.line_drill.proofs.Telling.{IsTrial, drilled, model_made}
use Rattle.line_drill.proofs.drill.drill.Goals as goal

pub try_text-requires : goal.try_text-requires
try_text-requires c = has_problem (sparse_text 500 (word_at (generator_of c.args.seed))) c.sparse.result (_, its_sparse (word_at (generator_of c.args.seed))) c.sparse.ensures

pub try_text-requires-2 : goal.try_text-requires-2
try_text-requires-2 c = has_problem (queens_text 6) c.queens.result (_, its_queens) c.queens.ensures

pub try_text-requires-3 : goal.try_text-requires-3
try_text-requires-3 c = has_problem (pigeons_text 5) c.pigeons.result (_, its_pigeons) c.pigeons.ensures

pub check-requires : goal.check-requires
check-requires c =
    let p = c.in_ok-pigeons.pigeons.problem in
    let model = model_made c.pigeons.result p (pigeons_text 5) c.in_ok-pigeons.ensures.made c.in_ok-pigeons.ensures.model c.pigeons.ensures in
    (log_text (run_from p c.args.seed).net.steps, c.in_ok-pigeons.ensures.log, Verified, pigeons_verified p model c.args.seed)

pub returns : goal.returns
returns c =
    let seed = c.args.seed in
    let a = c.in_ok-sparse.sparse in
    let b = c.in_ok-queens.queens in
    let p = c.in_ok-pigeons.pigeons in
    let model = model_made c.pigeons.result p.problem (pigeons_text 5) c.in_ok-pigeons.ensures.made c.in_ok-pigeons.ensures.model c.pigeons.ensures in
    drilled seed a.problem b.problem p.problem a.outcome b.outcome c.check.new.self.outcome c.in_ok-finding.finding
    (model_made c.sparse.result a.problem (sparse_text 500 (word_at (generator_of seed))) c.in_ok-sparse.ensures.made c.in_ok-sparse.ensures.model c.sparse.ensures)
    (model_made c.queens.result b.problem (queens_text 6) c.in_ok-queens.ensures.made c.in_ok-queens.ensures.model c.queens.ensures) model
    (c.in_ok-finding.ensures.found (log_text (run_from p.problem seed).net.steps) c.in_ok-pigeons.ensures.log) c.in_ok-sparse.ensures.gives c.in_ok-queens.ensures.gives
    (subst (λ o. IsTrial seed p.problem o) (sym c.in_ok-finding.ensures.same.1) c.in_ok-pigeons.ensures.gives) _ _ c.status_of-status.ensures c.in_ok-text.ensures
