use Rattle.std.proofs.Common.{◌∙◌}
use Rattle.abt_session.proofs.Pieces.{memory_told, stopped_so}
use Rattle.line_cnf.proofs.proof.append_line.Goals as goal

pub returns-in_err-extend_from_slice-clause-wrote : goal.returns-in_err-extend_from_slice-clause-wrote
returns-in_err-extend_from_slice-clause-wrote g c = λ out. memory_told _ _ _ c.from_residual.ensures

pub returns-in_err-append-clause-wrote : goal.returns-in_err-append-clause-wrote
returns-in_err-append-clause-wrote g c = λ out.
    stopped_so _ c.from_residual-in_err-append.ensures (rw (c.deref.ensures.value ∙ c.in_ok-extend_from_slice.ensures.items) at (c.in_err-append.ensures.wrote out))

pub returns-clause-wrote : goal.returns-clause-wrote
returns-clause-wrote g c = λ out. rw (c.deref.ensures.value ∙ c.in_ok-extend_from_slice.ensures.items) at (c.in_ok-append.ensures.wrote out)
