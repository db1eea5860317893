use Rattle.std.proofs.Common.{◌≡◌, ◌∙◌, ℕ, Bool, true, ◌&&◌, get_or, is_some, ap, sym, rules}
use Rattle.std.specs.List.{list_all}
use Rattle.std.proofs.lemmas.List.{take_all}
use Rattle.std.proofs.lemmas.List.Folds.{list_all_more}
use Rattle.dcsp_defs.specs.Csp.{with_value}
use Rattle.abt_defs.specs.Agents.{values_in}
use Rattle.abt_parts.specs.Views.{view_of}
use Rattle.abt_parts.proofs.view.View.knows_all.Goals as goal

both : (a b : Bool) → a ≡ true → b ≡ true → (a && b) ≡ true
both a b e f = ap (λ x. x && b) e ∙ f

pub loop-place-preserved : goal.loop-place-preserved
loop-place-preserved c = λ v.
    let q = λ (k : ℕ). is_some (with_value c.args.me v (values_in (view_of c.args.self.now)) k) in
    let here : q (get_or c.args.variables.now c.loop-place.place 0) ≡ true = search rules in
    list_all_more q c.args.variables.now c.loop-place.place 0 c.loop-place-test.true ∙ both _ _ (c.loop-place.invariant v) here

pub returns : goal.returns
returns c = λ v.
    let q = λ (k : ℕ). is_some (with_value c.args.me v (values_in (view_of c.args.self.now)) k) in
    sym (c.loop-place.invariant v) ∙ ap (list_all q) (take_all c.loop-place.place c.args.variables.now c.loop-place-test.false)
