use Rattle.std.proofs.Common.{map, ◌≡◌, All, Some, ap, ◌∙◌, ◌++◌, ◌∷◌, []}
use Rattle.std.proofs.lemmas.List.{map_push}
use Rattle.std.specs.Str.{bytes_eq}
use Rattle.indexmap.proofs.CallerLemmas.{insert_entry-new}
use Rattle.fzn_scope.specs.Names.{declared_as}
use Rattle.fzn_scope.specs.Variables.{StandsFor}
use Rattle.fzn_scope.proofs.Declaring.{declared-last}
use Rattle.fzn_scope.proofs.NameTable.{looked_up}
use Rattle.fzn_scope.proofs.VariableLaws.{found_in, stand_on_after}
use Rattle.fzn_scope.proofs.names.Names.add.Goals as goal

pub returns-clause-ok : goal.returns-clause-ok
returns-clause-ok c =
    let none = looked_up (λ k. k.now) c.args.name.now c.self.inside.table.entries ∙ ap (λ d. declared_as d c.args.name.now) c.self.view_is ∙ c.requires in
    let entries = c.in_ok-insert.ensures.entries ∙ insert_entry-new (λ k l. bytes_eq k.now l.now) c.self.inside.table c.args.name c.args.declared none in
    ap (map (λ e. (e.0.now, e.1))) entries ∙ map_push _ c.self.inside.table.entries (c.args.name, c.args.declared) ∙ ap (λ d. d ++ (c.args.name.now, c.args.declared) ∷ []) c.self.view_is

pub invariant_of-self-2 : goal.invariant_of-self-2
invariant_of-self-2 c =
    let old = map (λ e. (e.0.now, e.1)) c.self.inside.table.entries in
    let new = map (λ e. (e.0.now, e.1)) c.insert.new.self.entries in
    let fresh = ap (λ d. declared_as d c.args.name.now) c.self.view_is ∙ c.requires in
    let none = looked_up (λ k. k.now) c.args.name.now c.self.inside.table.entries ∙ fresh in
    let entries = c.in_ok-insert.ensures.entries ∙ insert_entry-new (λ k l. bytes_eq k.now l.now) c.self.inside.table c.args.name c.args.declared none in
    let grown = ap (map (λ e. (e.0.now, e.1))) entries ∙ map_push _ c.self.inside.table.entries (c.args.name, c.args.declared) in
    let known : All (StandsFor new) c.reserve.new.self.known.items = rw (c.in_ok-reserve.ensures.known) (stand_on_after old new c.args.name.now c.args.declared c.self.inside.variables.known.items grown c.self.invariant) in
    let stands : declared_as new c.args.name.now ≡ Some c.args.declared = rw (grown) (declared-last old c.args.name.now c.args.declared fresh) in
    c.add.ensures new known (found_in _ new c.args.name.now c.args.declared c.variable_in-variable.ensures stands)
