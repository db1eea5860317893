use Rattle.std.proofs.Common.{◌≡◌, ◌+◌, ◌<◌, ℕ, List, [], ◌∷◌, ◌++◌, ap, arith, get_or, length, length-append, rules, subst, sym}
use Rattle.std.proofs.lemmas.Option.{get_or_from_slice_get}
use Rattle.dcsp_rule.specs.declared.form.Form.{Form}
use Rattle.dcsp_rule.specs.declared.form.Form.TheVariants as form
use Rattle.dcsp_rule.specs.Rules.{no_rule}
use Rattle.dcsp_rule.specs.Lent.{lent_rule}
use Rattle.dcsp_rule.specs.Forms.{IsFormOf}
use Rattle.dcsp_rule.proofs.FormLaws.{forms_more}
use Rattle.dcsp_rule.proofs.form.forms_of.Goals as goal

pub form_of-requires : goal.form_of-requires
form_of-requires c =
    let given = c.args.rules.now in
    let k = c.loop-place.place in
    let is : lent_rule c.rule.result ≡ get_or given k no_rule = sym (get_or_from_slice_get given k (lent_rule c.rule.result) no_rule c.rule.ensures) in
    rw is (c.requires k no_rule (omega (arith, c.loop-place-test.true)))

pub loop-place-preserved : goal.loop-place-preserved
loop-place-preserved c =
    let forms = c.loop-place.forms.items in
    let given = c.args.rules.now in
    let made = c.in_ok-form.form in
    let k = c.loop-place.place in
    let pushed : c.push.new.self.items ≡ forms ++ made ∷ [] = search rules in
    let is : lent_rule c.rule.result ≡ get_or given k no_rule = sym (get_or_from_slice_get given k (lent_rule c.rule.result) no_rule c.rule.ensures) in
    record {
      many = omega (arith, ap length pushed, length-append forms (made ∷ []), c.loop-place.invariant.many);
      each = subst (λ (z : List Form). (j : ℕ) → j < k + 1 → IsFormOf (get_or z j form.Plain) (get_or given j no_rule)) (sym pushed)
          (forms_more forms given k made (lent_rule c.rule.result) c.loop-place.invariant.many is c.in_ok-form.ensures c.loop-place.invariant.each);
    }
