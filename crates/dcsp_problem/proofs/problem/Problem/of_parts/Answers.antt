use Rattle.std.proofs.Common.{◌≡◌, ℕ, map, arith, ap, length, ◌∙◌}
use Rattle.dcsp_defs.specs.Words.{below}
use Rattle.dcsp_rule.specs.Problems.{Contents}
use Rattle.dcsp_problem.specs.Owners.{owned_among}
use Rattle.dcsp_problem.specs.Lower.{lower_among}
use Rattle.dcsp_problem.proofs.OwnerLists.{owned_lists_are}
use Rattle.dcsp_problem.proofs.LowerLists.{lower_lists_are}
use Rattle.dcsp_problem.proofs.Reading.{scopes_few, scopes_inside}
use Rattle.dcsp_problem.proofs.problem.Problem.of_parts.Goals as goal

pub forms_of-requires : goal.forms_of-requires
forms_of-requires c = λ k d l. (c.requires.rules k d l).shape

pub owned_lists-requires-clause-few : goal.owned_lists-requires-clause-few
owned_lists-requires-clause-few c =
    let p : Contents = record { domains = c.args.domains.items; rules = c.args.rules; outputs = c.args.outputs.items; aim = c.args.aim } in
    let is = c.in_ok-scopes.ensures (length p.domains) c.requires.rules in
    rw is (scopes_few p c.requires)

pub owned_lists-requires-clause-inside : goal.owned_lists-requires-clause-inside
owned_lists-requires-clause-inside c =
    let p : Contents = record { domains = c.args.domains.items; rules = c.args.rules; outputs = c.args.outputs.items; aim = c.args.aim } in
    let is = c.in_ok-scopes.ensures (length p.domains) c.requires.rules in
    let many : c.len.result ≡ length p.domains = omega arith in
    rw (is, many) (scopes_inside (length p.domains) p.rules)

pub lower_table-requires : goal.lower_table-requires
lower_table-requires c =
    let p : Contents = record { domains = c.args.domains.items; rules = c.args.rules; outputs = c.args.outputs.items; aim = c.args.aim } in
    let is = c.in_ok-scopes.ensures (length p.domains) c.requires.rules in
    let many : c.len-2.result ≡ length p.domains = omega arith in
    rw (is, many) (scopes_inside (length p.domains) p.rules)

pub from_parts-requires : goal.from_parts-requires
from_parts-requires c =
    let p : Contents = record { domains = c.args.domains.items; rules = c.args.rules; outputs = c.args.outputs.items; aim = c.args.aim } in
    let is = c.in_ok-scopes.ensures (length p.domains) c.requires.rules in
    let many : c.len.result ≡ length p.domains = omega arith in
    let many_lower : c.len-2.result ≡ length p.domains = omega arith in
    let made : c.in_ok-owned.owned ≡ map (owned_among c.in_ok-scopes.scopes) (below (length p.domains)) =
    c.in_ok-owned.ensures ∙ c.deref.ensures.value ∙ c.in_ok-owners.ensures ∙ ap (λ (z : ℕ). map (owned_among c.in_ok-scopes.scopes) (below z)) many in
    let made_lower : c.in_ok-lower.lower ≡ map (lower_among c.in_ok-scopes.scopes (length p.domains)) (below (length p.domains)) =
    c.in_ok-lower.ensures ∙ ap (λ (z : ℕ). map (lower_among c.in_ok-scopes.scopes z) (below z)) many_lower in
    record { problem = c.requires; each_scope = is; each_form = c.in_ok-forms.ensures; each_owned = owned_lists_are p c.in_ok-scopes.scopes c.in_ok-owned.owned is made; each_lower = lower_lists_are p c.in_ok-scopes.scopes c.in_ok-lower.lower is made_lower }
