use Rattle.std.proofs.Common.{ap, ◌∙◌}
use Rattle.fzn_scope.specs.Names.{declared_as}
use Rattle.fzn_scope.proofs.NameTable.{looked_up}
use Rattle.fzn_scope.proofs.names.Names.looked_up.Goals as goal

pub returns : goal.returns
returns c = c.get.ensures.value ∙ looked_up (λ k. k.now) c.args.name.now c.self.inside.table.entries ∙ ap (λ d. declared_as d c.args.name.now) c.self.view_is
