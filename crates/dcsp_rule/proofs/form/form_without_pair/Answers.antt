use Rattle.std.proofs.Common.{◌∙◌, ap, sym}
use Rattle.dcsp_domain.specs.Sets.{set_of}
use Rattle.dcsp_rule.specs.Members.{values_of}
use Rattle.dcsp_rule.specs.Rules.{listed_of}
use Rattle.dcsp_rule.specs.Lent.{lent_members, lent_rule}
use Rattle.dcsp_rule.proofs.FormLaws.{looks_listed}
use Rattle.dcsp_rule.proofs.form.form_without_pair.Goals as goal

pub returns : goal.returns
returns c =
    looks_listed (lent_rule c.args.rule) c.in_ok-set.set
    (c.in_ok-set.ensures ∙ ap set_of (sym (ap (λ z. listed_of (lent_rule z)) c.in-Plain.is ∙ ap (λ z. values_of (lent_members z)) c.in-Listed.is)))
