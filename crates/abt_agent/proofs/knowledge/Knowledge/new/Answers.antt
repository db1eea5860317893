use Rattle.std.proofs.Common.{List, [], Some, ◌≡◌, sym, subst, ap, ◌∙◌, length, None}
use Rattle.std.proofs.lemmas.List.{length-replicate}
use Rattle.dcsp_defs.specs.Csp.{PartialAssignment}
use Rattle.abt_defs.specs.Agents.{View, values_in}
use Rattle.abt_parts.specs.Views.{view_of}
use Rattle.abt_parts.specs.declared.recorded.Recorded.{Recorded}
use Rattle.abt_reason.specs.Cached.{StandsFor}
use Rattle.abt_agent.proofs.knowledge.Knowledge.new.Goals as goal

pub returns-clause-in_step : goal.returns-clause-in_step
returns-clause-in_step c = record {
  me_exists = c.requires;
  view = ap length c.without_places.ensures.slots ∙ length-replicate c.args.me None;
  domains = λ var v l e. let none : values_in (view_of c.without_places.result) ≡ (λ k. None) = ap values_in c.without_places.ensures.empty in let at : None ≡ Some v = sym (ap (λ (f : PartialAssignment). f var) none) ∙ e in cc;
  stamps = λ k s e. let none : None ≡ Some s = sym (ap (λ (w : View). w k) c.without_places.ensures.empty) ∙ e in cc;
  problem = c.in_ok-reasons.ensures.problem;
  agent = c.in_ok-reasons.ensures.agent;
  stands = subst (λ (items : List Recorded). StandsFor c.in_ok-reasons.reasons (values_in (view_of c.without_places.result)) items) (sym c.new-2.ensures)
      (subst (λ (w : View). StandsFor c.in_ok-reasons.reasons (values_in w) []) (sym c.without_places.ensures.empty) c.in_ok-reasons.ensures.stands);
}
