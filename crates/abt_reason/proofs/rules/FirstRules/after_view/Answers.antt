use Rattle.std.proofs.Common.{◌≡◌, ◌<◌, ◌∙◌, subst, get_or, true, false, refl}
use Rattle.abt_defs.specs.Agents.{values_in, is_among}
use Rattle.abt_parts.specs.Views.{view_of}
use Rattle.dcsp_rule.specs.Problems.{constraint_at}
use Rattle.dcsp_problem.specs.Index.{owned_rules}
use Rattle.abt_reason.specs.declared.named.Naming.{Naming}
use Rattle.abt_reason.specs.Named.{naming}
use Rattle.abt_reason.specs.Cached.{IsRightAt, rules_of, size_of}
use Rattle.abt_reason.specs.Grids.{rows_of}
use Rattle.abt_reason.proofs.ChangedLaws.{same_without}
use Rattle.std.proofs.lemmas.List.{get_or_default}
use Rattle.abt_reason.proofs.rules.FirstRules.after_view.Goals as goal

pub refresh_each-requires-clause-within : goal.refresh_each-requires-clause-within
refresh_each-requires-clause-within c = λ k d inside.
    let found = c.of-namings.ensures.part k d inside in
    let listed = c.requires.lists.listed.within found.0 d found.1 in
    let same = get_or_default c.args.self.now.named found.0 d (get_or c.of-namings.result.now k d) found.1 ∙ found.2 in
    subst (λ (n : Naming). n.place < rules_of c.args.owner.now.problem.now c.args.owner.now.agent) same listed

pub returns-clause-kept : goal.returns-clause-kept
returns-clause-kept c = λ place within.
    let p = c.args.owner.now.problem.now in
    let agent = c.args.owner.now.agent in
    let var = c.args.var in
    let s = c.requires.stood in
    let known = values_in (view_of c.args.owner.now.view.now) in
    let listed = c.requires.lists.listed in
    let now = rows_of (size_of p agent) c.refresh_each.new.ruled_out.rows.items in
    let without : is_among var (constraint_at p (get_or (owned_rules p agent) place 0)).scope ≡ false → IsRightAt p agent known now place =
    λ free. c.refresh_each.ensures.kept place (λ k l. s.stood place within k l ∙ same_without p agent var s.known_before known k place (listed.constraints place within) free s.others) in
    let with_it : is_among var (constraint_at p (get_or (owned_rules p agent) place 0)).scope ≡ true → IsRightAt p agent known now place =
    λ named.
    let found = c.of-namings.ensures.complete place (listed.complete place var within named) in
    subst (λ (n : Naming). IsRightAt p agent known now n.place) found.2 (c.refresh_each.ensures.right found.0 (naming place var) found.1) in
    (elim (is_among var (constraint_at p (get_or (owned_rules p agent) place 0)).scope) as (λ b. is_among var (constraint_at p (get_or (owned_rules p agent) place 0)).scope ≡ b → IsRightAt p agent known now place) [ true ↦ with_it | false ↦ without ]) refl
