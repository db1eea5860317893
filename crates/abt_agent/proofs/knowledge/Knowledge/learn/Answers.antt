use Rattle.std.proofs.Common.{◌≡◌, ap, false, true, sym, subst, ◌∙◌, Some, ℤ, filter, length, arith, rules, w64, SFits}
use Rattle.std.proofs.lemmas.Int.{to_z-of_z}
use Rattle.abt_defs.specs.Agents.{View, value_in, values_in}
use Rattle.abt_reason.specs.Cached.{StandsFor}
use Rattle.dcsp_rule.specs.Problems.{Contents, csp_of, AreInDomains}
use Rattle.abt_parts.specs.Views.{stamped_in, view_of}
use Rattle.abt_parts.specs.Stores.{fits}
use Rattle.abt_parts.specs.Outgoing.{IsStampedView}
use Rattle.abt_agent.proofs.Tracks.{heard, new_domains, new_stamps, stands_still, stood_before}
use Rattle.abt_agent.proofs.knowledge.Knowledge.learn.Goals as goal

pub after_view-requires-clause-domains : goal.after_view-requires-clause-domains
after_view-requires-clause-domains c =
    let seen = heard c.args.self.now.view c.args.from c.args.told.stamp c.in_ok-before.before true _ _ (view_of c.tell.new.self) c.in_ok-before.ensures.before c.if-not-is_news.ensures c.in_ok-before.ensures.view in
    subst (λ (p : Contents). AreInDomains (csp_of p) (values_in (view_of c.tell.new.self))) (sym c.requires.in_step.problem)
    (new_domains (view_of c.args.self.now.view) (view_of c.tell.new.self) c.args.from (record { value = c.args.told.value; stamp = c.args.told.stamp }) seen (csp_of c.args.self.now.problem.now) c.requires.value c.requires.in_step.domains)

pub after_view-requires-clause-stood : goal.after_view-requires-clause-stood
after_view-requires-clause-stood c =
    let in_range : SFits w64 c.args.told.value = search rules in
    let same = to_z-of_z w64 c.args.told.value in_range in
    let seen = heard c.args.self.now.view c.args.from c.args.told.stamp c.in_ok-before.before true _ _ (view_of c.tell.new.self) c.in_ok-before.ensures.before c.if-not-is_news.ensures c.in_ok-before.ensures.view in
    let left = subst (λ (z : ℤ). c.forget.new.self ≡ filter (fits c.args.from z) c.args.self.now.store) same c.forget.ensures.items in
    stood_before (view_of c.args.self.now.view) (view_of c.tell.new.self) c.args.from (record { value = c.args.told.value; stamp = c.args.told.stamp }) seen c.args.self.now.reasons c.args.self.now.store c.forget.new.self c.requires.in_step.stands left

pub returns-then-not-is_news-clause-in_step : goal.returns-then-not-is_news-clause-in_step
returns-then-not-is_news-clause-in_step c =
    let in_step = c.requires.in_step in
    let same : view_of c.tell.new.self ≡ view_of c.args.self.now.view = (heard c.args.self.now.view c.args.from c.args.told.stamp c.in_ok-before.before false _ _ (view_of c.tell.new.self) c.in_ok-before.ensures.before c.if-not-is_news.ensures c.in_ok-before.ensures.view) in
    record {
      me_exists = in_step.me_exists;
      view = c.tell.ensures.slots ∙ in_step.view;
      domains = subst (λ (w : View). AreInDomains (csp_of c.args.self.now.problem.now) (values_in w)) (sym same) in_step.domains;
      stamps = subst IsStampedView (sym same) in_step.stamps;
      problem = in_step.problem;
      agent = in_step.agent;
      stands = subst (λ (w : View). StandsFor c.args.self.now.reasons (values_in w) c.args.self.now.store) (sym same) in_step.stands;
    }

pub returns-clause-in_step : goal.returns-clause-in_step
returns-clause-in_step c =
    let in_step = c.requires.in_step in
    let seen = heard c.args.self.now.view c.args.from c.args.told.stamp c.in_ok-before.before true _ _ (view_of c.tell.new.self) c.in_ok-before.ensures.before c.if-not-is_news.ensures c.in_ok-before.ensures.view in
    record {
      me_exists = in_step.me_exists;
      view = c.tell.ensures.slots ∙ in_step.view;
      domains = new_domains (view_of c.args.self.now.view) (view_of c.tell.new.self) c.args.from (record { value = c.args.told.value; stamp = c.args.told.stamp }) seen (csp_of c.args.self.now.problem.now) c.requires.value in_step.domains;
      stamps = new_stamps (view_of c.args.self.now.view) (view_of c.tell.new.self) c.args.from (record { value = c.args.told.value; stamp = c.args.told.stamp }) seen c.requires.stamped in_step.stamps;
      problem = c.after_view.ensures.problem ∙ in_step.problem;
      agent = c.after_view.ensures.agent ∙ in_step.agent;
      stands = c.after_view.ensures.stands;
    }

pub returns-then-len-kept-clause-in_step : goal.returns-then-len-kept-clause-in_step
returns-then-len-kept-clause-in_step c =
    let in_step = c.requires.in_step in
    let in_range : SFits w64 c.args.told.value = search rules in
    let same = to_z-of_z w64 c.args.told.value in_range in
    let old = view_of c.args.self.now.view in
    let new = view_of c.tell.new.self in
    let store = c.args.self.now.store in
    let seen = heard c.args.self.now.view c.args.from c.args.told.stamp c.in_ok-before.before true _ _ (view_of c.tell.new.self) c.in_ok-before.ensures.before c.if-not-is_news.ensures c.in_ok-before.ensures.view in
    let left = subst (λ (z : ℤ). c.forget.new.self ≡ filter (fits c.args.from z) store) same c.forget.ensures.items in
    let was = subst (λ (z : ℤ). values_in old c.args.from ≡ Some z) same (ap (λ o. value_in (stamped_in o)) (sym c.in_ok-before.ensures.before) ∙ c.has_value-was_known.ensures c.if-was_known.true) in
    let size : length c.forget.new.self ≡ length store = omega (arith, c.len.ensures, c.len-kept.ensures, c.if-len-kept.true) in
    record {
      me_exists = in_step.me_exists;
      view = c.tell.ensures.slots ∙ in_step.view;
      domains = new_domains old new c.args.from (record { value = c.args.told.value; stamp = c.args.told.stamp }) seen (csp_of c.args.self.now.problem.now) c.requires.value in_step.domains;
      stamps = new_stamps old new c.args.from (record { value = c.args.told.value; stamp = c.args.told.stamp }) seen c.requires.stamped in_step.stamps;
      problem = in_step.problem;
      agent = in_step.agent;
      stands = stands_still old new c.args.from (record { value = c.args.told.value; stamp = c.args.told.stamp }) seen c.args.self.now.reasons store c.forget.new.self in_step.stands left was size;
    }
