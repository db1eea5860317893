use Rattle.std.proofs.Common.{◌≡◌, ◌<◌, ◌∙◌, ap, sym, subst, length, get_or, arith, rules, None, Some, ℕ, List}
use Rattle.dcsp_problem.specs.Index.{owned_rules}
use Rattle.std.specs.Option.{option_map}
use Rattle.dcsp_defs.specs.declared.Reason.TheVariants.{Rule, Earlier}
use Rattle.abt_reason.specs.Firsts.{IsFirst}
use Rattle.abt_reason.specs.Causes.{is_false, known_at, value_at}
use Rattle.abt_reason.specs.Cached.{Cached, owned_at, rules_of}
use Rattle.abt_reason.proofs.CauseLaws.{reason_rule, reason_step}
use Rattle.abt_reason.proofs.FoundRules.{place_in_range, first_rule}
use Rattle.abt_reason.proofs.reasons.Reasons.first_in.Goals as goal

pub bounds-self-inside-at : goal.bounds-self-inside-at
bounds-self-inside-at c = place_in_range _ c.args.self.now c.self.inside.owned.now c.args.place c.args.run.first c.args.run.end c.in-Some.at c.self.invariant.owner c.self.view_is c.requires.run c.requires.within c.in-Some.is

pub offset_bounds-self-inside-at : goal.offset_bounds-self-inside-at
offset_bounds-self-inside-at c =
    let below : c.in-Some.at < length c.self.inside.owned.now = place_in_range _ c.args.self.now c.self.inside.owned.now c.args.place c.args.run.first c.args.run.end c.in-Some.at c.self.invariant.owner c.self.view_is c.requires.run c.requires.within c.in-Some.is in
    search rules

pub returns-in-Some-clause-rule : goal.returns-in-Some-clause-rule
returns-in-Some-clause-rule c = λ at first.
    let same : c.in-Some.at ≡ at = cc in
    ap (λ (rules : List ℕ). Some (Rule (get_or rules c.in-Some.at 0))) (c.self.invariant.owner.rules_are ∙ ap (λ (x : Cached). owned_rules x.problem x.agent) c.self.view_is)
    ∙ ap (λ n. Some (Rule (owned_at c.args.self.now n))) same

pub returns-in-Some-clause-reason : goal.returns-in-Some-clause-reason
returns-in-Some-clause-reason c = λ known items stands.
    let r = c.args.self.now in
    let k = c.args.place in
    let found = first_rule r known items stands k c.args.run.first c.args.run.end c.requires.run k (omega arith) c.requires.within c.requires.place in
    let first = subst (IsFirst (is_false r.problem r.agent (known_at r.problem r.agent known k)) (rules_of r.problem r.agent)) c.in-Some.is found in
    ap (λ (rules : List ℕ). Some (Rule (get_or rules c.in-Some.at 0))) (c.self.invariant.owner.rules_are ∙ ap (λ (x : Cached). owned_rules x.problem x.agent) c.self.view_is)
    ∙ sym (reason_rule r.problem r.agent known items (value_at r.problem r.agent k) c.in-Some.at first)

pub returns-in-None-clause-reason : goal.returns-in-None-clause-reason
returns-in-None-clause-reason c = λ known items stands.
    let r = c.args.self.now in
    let k = c.args.place in
    let found = first_rule r known items stands k c.args.run.first c.args.run.end c.requires.run k (omega arith) c.requires.within c.requires.place in
    let none = subst (IsFirst (is_false r.problem r.agent (known_at r.problem r.agent known k)) (rules_of r.problem r.agent)) c.in-None.is found in
    c.earlier.ensures ∙ ap (option_map Earlier) (c.step.ensures ∙ ap (λ (x : Cached). get_or x.steps k None) c.self.view_is ∙ stands.kept.first k c.requires.place)
    ∙ sym (reason_step r.problem r.agent known items (value_at r.problem r.agent k) none)
