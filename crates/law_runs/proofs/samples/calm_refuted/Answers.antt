use Rattle.law_runs.proofs.CalmEnd.{ten, eleven, words, steps}
use Rattle.law_runs.proofs.samples.calm_refuted.Goals as goal

pub returns : goal.returns
returns c = record { ten = ten; eleven = eleven; words = words; steps = steps }
