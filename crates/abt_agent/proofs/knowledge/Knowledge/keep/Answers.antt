use Rattle.std.proofs.Common.{ℕ, sym, subst, ◌∙◌}
use Rattle.abt_defs.specs.Agents.{values_in}
use Rattle.abt_parts.specs.Views.{view_of}
use Rattle.abt_reason.specs.Kept.{IsFitting}
use Rattle.abt_reason.proofs.Standing.{stood_before_fitting}
use Rattle.abt_agent.proofs.knowledge.Knowledge.keep.Goals as goal

pub returns-clause-in_step : goal.returns-clause-in_step
returns-clause-in_step c =
    let k = c.args.self.now in
    let known = values_in (view_of k.view) in
    let in_step = c.requires.in_step in
    let fitting = subst (λ (agent : ℕ). IsFitting agent known c.args.recorded) (sym (c.make_room.ensures.agent ∙ in_step.agent)) c.requires.fits in
    let before = stood_before_fitting c.make_room.new.self known k.store c.keep.new.self _ (c.make_room.ensures.stands known k.store in_step.stands) c.in-Ok.ensures.ok fitting in
    record {
      me_exists = in_step.me_exists;
      view = in_step.view;
      domains = in_step.domains;
      stamps = in_step.stamps;
      problem = c.after_fitting_record.ensures.problem ∙ c.make_room.ensures.problem ∙ in_step.problem;
      agent = c.after_fitting_record.ensures.agent ∙ c.make_room.ensures.agent ∙ in_step.agent;
      stands = c.after_fitting_record.ensures.stands known before;
    }
