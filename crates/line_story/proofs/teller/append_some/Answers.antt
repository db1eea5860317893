use Rattle.std.proofs.Common.{ap, length, sym}
use Rattle.std.proofs.lemmas.Bool.{eqb-false, eqb-true}
use Rattle.std.proofs.lemmas.List.{nil_from_length}
use Rattle.line_story.proofs.Runs.{none_appended, some_appended}
use Rattle.line_story.proofs.teller.append_some.Goals as goal

pub returns-then-is_empty-clause-wrote : goal.returns-then-is_empty-clause-wrote
returns-then-is_empty-clause-wrote g c = λ out. none_appended c.args.file.now c.args.text.now _ _ (nil_from_length c.args.text.now (eqb-true _ _ (sym c.if-is_empty.ensures)))

pub returns-clause-wrote : goal.returns-clause-wrote
returns-clause-wrote g c = λ out. some_appended c.args.file.now c.args.text.now (λ e. eqb-false _ _ (sym c.if-is_empty.ensures) (ap length e)) (c.append.ensures.wrote out)
