use Rattle.ngd_check.proofs.Alike.{found_alike}
use Rattle.ngd_check.proofs.Forms.{one_form}
use Rattle.ngd_check.proofs.one_form.Goals as goal

pub returns-clause-right : goal.returns-clause-right
returns-clause-right c = one_form

pub returns-clause-found : goal.returns-clause-found
returns-clause-found c = found_alike
