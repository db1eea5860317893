use Rattle.std.proofs.Common.{◌≡◌, ◌<◌, ℕ, List, length, get_or, sym, ap, ◌∙◌, arith}
use Rattle.std.proofs.lemmas.List.{length-map}
use Rattle.dcsp_defs.specs.declared.Reason.{Reason}
use Rattle.dcsp_defs.specs.declared.Step.{Step}
use Rattle.ngd_check.specs.Places.{no_step}
use Rattle.ngd_rewrite.specs.Needed.{cites_rule}
use Rattle.ngd_rewrite.specs.Marks.{number_in, renumbered_at}
use Rattle.ngd_rewrite.proofs.Choosing.{step_shown, rules_same}
use Rattle.ngd_rewrite.proofs.trim.Trimmed.old_reasons.Goals as goal

pub returns : goal.returns
returns c rule =
    let steps = c.self.inside.steps.now in
    let places = c.self.inside.places in
    let numbers = c.self.inside.numbers.items in
    let place = c.args.place in
    let l : place < length places = (let n = length-map places (renumbered_at steps numbers) in let m = ap length c.self.view_is in let r = c.requires in omega (arith, n, m, r)) in
    let shown : get_or c.args.self.now place no_step ≡ renumbered_at steps numbers (get_or places place 0) = ap (λ (xs : List Step). get_or xs place no_step) (sym c.self.view_is) ∙ step_shown steps places numbers place l in
    ap (λ (rs : List Reason). cites_rule rs rule) c.reasons.ensures
    ∙ (ap (λ (xs : List ℕ). cites_rule (get_or steps (get_or xs place 0) no_step).reasons rule) c.items.ensures
    ∙ (sym (rules_same (number_in numbers) (get_or steps (get_or places place 0) no_step).reasons rule)
    ∙ ap (λ (s : Step). cites_rule s.reasons rule) (sym shown)))
