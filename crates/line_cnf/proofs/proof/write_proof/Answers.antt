use Rattle.std.proofs.Common.{Some, ap, sym, ◌∙◌}
use Rattle.dcsp_script.proofs.Lines.{first_wrote, first_stopped}
use Rattle.abt_session.proofs.Pieces.{wrote_as}
use Rattle.abt_session.proofs.Whole.{created_here}
use Rattle.line_cnf.proofs.RowLines.{writes_none, writes_row}
use Rattle.line_cnf.proofs.proof.write_proof.Goals as goal

pub returns-in_default : goal.returns-in_default
returns-in_default g c = λ out steps e. writes_none c.args.name.now steps _ _ (sym e ∙ c.in_default.is)

pub returns-in_err-create : goal.returns-in_err-create
returns-in_err-create g c = λ out steps e.
    wrote_as (writes_row c.args.name.now steps _ (sym e ∙ c.in-Some.is)) (first_stopped c.from_residual.ensures (c.in_err-create.ensures.wrote out))

pub append_clauses-requires : goal.append_clauses-requires
append_clauses-requires g c = created_here _ c.args.name.now c.in_ok-create.ensures.created

pub returns : goal.returns
returns g c = λ out steps e.
    wrote_as (writes_row c.args.name.now steps c.items.result.now (sym e ∙ c.in-Some.is ∙ ap Some (sym c.items.ensures))) (first_wrote (c.in_ok-create.ensures.wrote out) (c.append_clauses.ensures out))
