use Rattle.std.proofs.Common.{◌≡◌, ◌+◌, length}
use Rattle.std.specs.Prelude.{All}
use Rattle.dcsp_rule.specs.Rules.{IsTermOf}
use Rattle.cnf_front.specs.Dimacs.{words}
use Rattle.cnf_front.specs.Formulas.{clauses_from, terms_so_far, no_literals}
use Rattle.cnf_front.proofs.clauses.read_clauses.Given as goal

-- what is left gives what the whole gives
abbrev pub invariant-loop-word : goal.invariant-loop-word
invariant-loop-word l = record {
  same : clauses_from l.variables l.fn.builder no_literals (words l.fn.from.stand l.fn.from.at l.fn.from.bytes.now) ≡ clauses_from l.variables l.builder (terms_so_far l.clause.positive.items l.clause.negative.items) (words l.here.stand l.here.at l.here.bytes.now);
  end : l.here.at + length l.here.bytes.now ≡ l.fn.from.at + length l.fn.from.bytes.now;
  domains : length l.builder.domains ≡ l.variables;
  positive : All (IsTermOf (length l.builder.domains)) l.clause.positive.items;
  negative : All (IsTermOf (length l.builder.domains)) l.clause.negative.items;
}

abbrev pub decreases-loop-word : goal.decreases-loop-word
decreases-loop-word l = length l.here.bytes.now
