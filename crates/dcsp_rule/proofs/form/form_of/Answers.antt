use Rattle.std.proofs.Common.{◌≡◌, true, false}
use Rattle.dcsp_rule.proofs.FormLaws.{looking_result, paired_result}
use Rattle.dcsp_rule.specs.Lent.{lent_rule}
use Rattle.dcsp_rule.proofs.form.form_of.Goals as goal

pub returns-in-None : goal.returns-in-None
returns-in-None c =
    looking_result c.form_without_pair.result (lent_rule c.args.rule) (λ t. let clash : false ≡ true = c.in-None.ensures.compared t in cc) (λ v w t. let clash : false ≡ true = c.in-None.ensures.summed v w t in cc)
    c.form_without_pair.ensures

pub returns-in-Some : goal.returns-in-Some
returns-in-Some c = paired_result c.form_of_pair.result (lent_rule c.args.rule) c.in-Some.pair c.in-Some.ensures.pair c.form_of_pair.ensures
