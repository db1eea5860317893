use Rattle.std.proofs.Common.{◌≡◌, drop}
use Rattle.line_export.specs.Clauses.{clauses_at, with_clauses}
use Rattle.line_export.proofs.formula.add_reasons.Given as goal

-- with what the reasons from here on say these are all
abbrev pub invariant-loop-place : goal.invariant-loop-place
invariant-loop-place l = with_clauses l.clauses (clauses_at l.atoms.problem.now l.step.nogood l.var (drop l.place l.domain) (drop l.place l.reason-items)) ≡ with_clauses l.initial.clauses (clauses_at l.atoms.problem.now l.step.nogood l.var l.domain l.reason-items)
