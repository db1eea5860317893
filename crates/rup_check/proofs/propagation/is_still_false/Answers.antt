use Rattle.std.proofs.Common.{rules, arith, ◌≡◌, ◌<◌, ◌≤◌, length, subst}
use Rattle.std.specs.List.{All}
use Rattle.rup_check.specs.Kept.{clauses_of}
use Rattle.rup_check.specs.Propagation.{IsFalsified}
use Rattle.rup_check.specs.Assignments.{flipped, Has}
use Rattle.rup_check.proofs.propagation.is_still_false.Goals as goal

pub returns-in-None : goal.returns-in-None
returns-in-None c = λ e.
    let in_pairs : c.args.watches.now.last < length c.args.watches.now.pairs.items = search rules in
    let counted : length c.args.watches.now.pairs.items ≡ length (clauses_of c.args.known.now) = c.requires.counted in
    record {
      number = c.args.watches.now.last;
      in_range = omega arith;
      small = subst (λ z. All (λ x. x ≤ 8191) z) c.clause.ensures.value c.clause.ensures.small;
      is_false = subst (λ z. IsFalsified flipped (Has c.args.assignment.now.marks.items) z) c.clause.ensures.value (subst (λ z. IsFalsified flipped (Has z) c.clause.result.now) c.deref.ensures.value c.in-None.ensures);
    }
