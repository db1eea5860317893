use Rattle.std.proofs.Common.{[]}
use Rattle.fzn_scope.specs.Arguments.{arguments_in}
use Rattle.fzn_scope.specs.Places.{terms_after}
use Rattle.fzn_scope.proofs.LentSteps.{leaves_in_at}
use Rattle.fzn_scope.proofs.place.Context.add_list.Goals as goal

pub returns-in-First : goal.returns-in-First
returns-in-First c = λ atoms rest list.
    rw c.in-First.is (leaves_in_at rest (λ terms. record (arguments_in c.args.done.now) { first = terms }) c.put_atoms.new.terms.items c.put_atoms.result (terms_after c.args.self.text.now c.args.self.names.now c.in-First.wanted [] atoms) (c.put_atoms.ensures atoms rest list))

pub returns-in-Second : goal.returns-in-Second
returns-in-Second c = λ atoms rest list.
    rw c.in-Second.is (leaves_in_at rest (λ terms. record (arguments_in c.args.done.now) { second = terms }) c.put_atoms-in-Second.new.terms.items c.put_atoms-in-Second.result (terms_after c.args.self.text.now c.args.self.names.now c.in-Second.wanted [] atoms) (c.put_atoms-in-Second.ensures atoms rest list))
