use Rattle.std.proofs.Common.{◌≡◌, ◌==◌, ◌+◌, ◌<◌, ◌≤◌, ◌+ℤ◌, ℕ, drop, take, filter_map, sum_by}
use Rattle.std.specs.Prelude.{◌^◌, IsTrue, unsigned_abs}
use Rattle.std.specs.List.{list_all, list_any}
use Rattle.dcsp_meaning.specs.Sums.{size_of, sum_of}
use Rattle.dcsp_defs.specs.Csp.{Assignment}
use Rattle.dcsp_rule.specs.Rules.{variable_of, weighted_values}
use Rattle.dcsp_rule.specs.Pairs.{is_over}
use Rattle.dcsp_rule.specs.Parts.{at_zero, coefs_size, is_of_parts, parts_at, AreOver}
use Rattle.dcsp_rule.proofs.parts.parts_of.Given as goal

abbrev pub invariant-loop-place : goal.invariant-loop-place
invariant-loop-place l = record {
  summed : (values : Assignment) → parts_at l.parts values +ℤ sum_of (drop l.place (weighted_values values l.coefs l.terms)) ≡ sum_of (weighted_values values l.coefs l.terms);
  coefs_fit : coefs_size l.parts + sum_by unsigned_abs (drop l.place l.coefs) ≤ sum_by unsigned_abs l.coefs;
  constants_fit : unsigned_abs l.parts.total + sum_by size_of (drop l.place (weighted_values at_zero l.coefs l.terms)) ≤ sum_by size_of (weighted_values at_zero l.coefs l.terms);
  over : (v w : ℕ) → IsTrue (list_all (is_over v w) l.terms) → sum_by unsigned_abs l.coefs < 2 ^ 62 → sum_by size_of (weighted_values at_zero l.coefs l.terms) ≤ 2 ^ 65 → AreOver v w l.parts;
  variables : (var : ℕ) → is_of_parts l.parts var ≡ list_any (λ v. v == var) (filter_map variable_of (take l.place l.terms));
}
