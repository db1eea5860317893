use Rattle.std.proofs.Common.{sym, subst, ℕ, ◌≤◌}
use Rattle.cnf_front.specs.Dimacs.{word_at}
use Rattle.cnf_front.proofs.HeaderLaws.{variables_some}
use Rattle.cnf_front.proofs.header.read_variables.Goals as goal

pub returns-clause-given : goal.returns-clause-given
returns-clause-given c =
    variables_some _ _ (word_at c.next_word.result.0.bytes.now c.next_word.result.0.at) c.in-Some.number c.next_word.ensures.next (sym c.in-Some.ensures) (subst (λ (m : ℕ). c.in-Some.number ≤ m) c.most.ensures c.if-number-most.false)
