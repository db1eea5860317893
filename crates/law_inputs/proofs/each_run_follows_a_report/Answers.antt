use Rattle.law_inputs.proofs.Following.{runs_follow}
use Rattle.law_inputs.proofs.each_run_follows_a_report.Goals as goal

pub returns : goal.returns
returns c = runs_follow c.each_line_has_one_report.ensures
