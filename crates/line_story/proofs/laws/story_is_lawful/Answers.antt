use Rattle.line_story.proofs.Lawful.{story_lawful}
use Rattle.line_story.proofs.laws.story_is_lawful.Goals as goal

pub returns : goal.returns
returns c = λ model schedule file order_file. story_lawful model order_file schedule file
