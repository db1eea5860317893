-- A constraint's rule holds where the constraint of its name holds of the values of its arguments.
use Rattle.std.proofs.Common.{◌≡◌, ℕ, Bool, true, false, not, List, [], length, Option, Some, None, Ok, refl, sym, ap, ◌∙◌}
use Rattle.std.specs.Prelude.{map, ℤ, ◌==◌}
use Rattle.std.proofs.lemmas.Bool.{eqb-true}
use Rattle.fzn_item.specs.declared.item.Expr.{Expr}
use Rattle.dcsp_meaning.specs.declared.linear.Rel.{Rel}
use Rattle.dcsp_defs.specs.Csp.{Assignment}
use Rattle.dcsp_rule.specs.declared.rule.Rule.{Rule}
use Rattle.dcsp_rule.specs.Rules.{rule_truth}
use Rattle.fzn_scope.specs.declared.form.Form.{Form}
use Rattle.fzn_scope.specs.declared.form.Form.TheVariants.{Sum}
use Rattle.fzn_token.specs.declared.refusal.Refusal.TheVariants as refusal
use Rattle.fzn_scope.specs.Names.{Scope}
use Rattle.fzn_scope.specs.Forms.{places_of, form_named}
use Rattle.fzn_scope.specs.Rules.{no_arguments, arguments_after, rule_of, lengths_agree, known_form, form_at, constraint_rule}
use Rattle.fzn_scope.proofs.PlacesInOrder.{are_constant, in_order}
use Rattle.law_subjects.specs.Environments.{Environment, expr_value}
use Rattle.law_subjects.specs.Holding.{constraint_truth}
use Rattle.law_subjects.proofs.Checks.{bind_ok, not_refused}
use Rattle.law_subjects.proofs.MeantNames.{Agrees}
use Rattle.law_subjects.proofs.Sorts.{AreFixed, Sorted}
use Rattle.law_subjects.proofs.Arguments.{Reads, reads_all, first_fixed, rule_row}

constant_sum : (form : Form) (count : ℕ) (rel : Rel) (boolean reified : Bool) → form ≡ Sum rel boolean reified → are_constant (places_of form count) ≡ true
constant_sum form count rel boolean true e = ap (λ (f : Form). are_constant (places_of f count)) e
constant_sum form count rel boolean false e = ap (λ (f : Form). are_constant (places_of f count)) e

known : (at : ℕ) (o : Option Form) (form : Form) → known_form at o ≡ Ok form → o ≡ Some form
known at None form e = absurd cc
known at (Some f) form e = let is : f ≡ form = cc in ap Some is

not_false : (b : Bool) → not b ≡ false → b ≡ true
not_false true e = refl
not_false false e = absurd cc

nothing_read : (values : Assignment) → Reads values 0 0 [] no_arguments
nothing_read values = record { numbers_are = refl; first_is = refl; second_is = refl; set_is = refl; arrays_read = refl; sets_read = refl }

pub constraint_row : (text : List ℕ) (values : Assignment) (env : Environment) (domains : List (List ℤ)) (scope : Scope) → Agrees values env scope → Sorted domains scope
    → (at : ℕ) (name : List ℕ) (exprs : List Expr) (rule : Rule) → constraint_rule text scope at name exprs ≡ Ok rule
    → rule_truth rule values ≡ constraint_truth (form_named name) (map (expr_value text env) exprs)
unfolding constraint_rule
constraint_row text values env domains scope agrees sorted at name exprs rule e =
    let f = bind_ok (form_at at name) _ rule e in
    let n = not_refused (not (length exprs == length (places_of f.0 (length exprs)))) (refusal.IllTyped at) _ rule f.2 in
    let a = bind_ok (arguments_after text scope no_arguments (places_of f.0 (length exprs)) exprs) _ rule n.1 in
    let l = not_refused (not (lengths_agree f.0 a.0)) (refusal.IllTyped at) _ rule a.2 in
    let is : rule_of f.0 a.0 ≡ rule = cc in
    let long = eqb-true (length exprs) (length (places_of f.0 (length exprs))) (not_false _ n.0) in
    let r = reads_all text values env scope agrees 0 0 [] no_arguments (places_of f.0 (length exprs)) exprs a.0 (nothing_read values) (in_order f.0 (length exprs)).ordered long a.1 in
    let fixed : (rel : Rel) (boolean reified : Bool) → f.0 ≡ Sum rel boolean reified → AreFixed (a.0).first = λ rel boolean reified is_sum. first_fixed text domains scope sorted no_arguments (places_of f.0 (length exprs)) exprs a.0 (λ vs. refl) (constant_sum f.0 (length exprs) rel boolean reified is_sum) a.1 in
    let vs = map (expr_value text env) exprs in
    ap (λ (q : Rule). rule_truth q values) (sym is)
    ∙ rule_row values f.0 vs r.n r.m a.0 r.reads fixed
    ∙ ap (λ (o : Option Form). constraint_truth o vs) (sym (known at (form_named name) f.0 f.1))
