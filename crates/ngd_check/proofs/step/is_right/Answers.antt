use Rattle.std.proofs.Common.{List, sym, subst}
use Rattle.std.specs.Prelude.{All}
use Rattle.dcsp_defs.specs.declared.nogood.Pair.{Pair}
use Rattle.dcsp_defs.specs.Derivation.{IsKnownPair}
use Rattle.dcsp_rule.specs.Problems.{csp_of}
use Rattle.ngd_check.proofs.Zips.{in_all}
use Rattle.ngd_check.proofs.Citing.{right_known}
use Rattle.ngd_check.proofs.step.is_right.Goals as goal

pub returns-then-not-are_known : goal.returns-then-not-are_known
returns-then-not-are_known g c =
    (λ t. absurd cc, λ h. c.if-not-are_known.ensures.1 (subst (λ (ps : List Pair). All (IsKnownPair (csp_of c.args.problem.now)) ps) (sym c.pairs.ensures.pairs) (in_all _ _ (right_known (csp_of c.args.problem.now) (g.C.Cites.cited c.args.nogoods.now) c.args.step.now h))))
