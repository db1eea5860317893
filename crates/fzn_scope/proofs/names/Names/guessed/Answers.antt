use Rattle.std.proofs.Common.{ap, rules, sym, ◌∙◌}
use Rattle.fzn_scope.specs.Names.{declared_as}
use Rattle.fzn_scope.proofs.NameTable.{guessed_is}
use Rattle.fzn_scope.proofs.names.Names.guessed.Goals as goal

pub returns-then-is_same : goal.returns-then-is_same
returns-then-is_same c =
    let same = c.is_same.ensures (search rules) in
    sym (ap (λ d. declared_as d c.args.name.now) c.self.view_is) ∙ guessed_is (λ k. k.now) c.in_ok-known.known.now c.args.name.now c.self.inside.table.entries c.in_ok-known.declared.now c.in_ok-known.ensures.value same
