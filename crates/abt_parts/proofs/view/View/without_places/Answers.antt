use Rattle.std.proofs.Common.{◌∙◌, ap}
use Rattle.abt_parts.specs.Views.{slots_of, view_of}
use Rattle.abt_parts.proofs.Slots.{no_places, view_placeless}
use Rattle.abt_parts.proofs.view.View.without_places.Goals as goal

pub returns-clause-slots : goal.returns-clause-slots
returns-clause-slots c = ap (slots_of c.args.agent) c.new.ensures.items ∙ no_places c.args.agent

pub returns-clause-empty : goal.returns-clause-empty
returns-clause-empty c = ap view_of (returns-clause-slots c) ∙ view_placeless c.args.agent
