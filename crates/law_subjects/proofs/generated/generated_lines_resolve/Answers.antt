use Rattle.law_subjects.proofs.Generators.{generated_lines_resolve}
use Rattle.law_subjects.proofs.generated.generated_lines_resolve.Goals as goal

pub returns : goal.returns
returns c = generated_lines_resolve
