-- What limits of a formula leave.
use Rattle.std.proofs.Common.{◌≡◌, ℕ, ◌<◌, ◌≤◌, Bool, true, false, List, length, Some, None, refl, arith}
use Rattle.std.specs.Prelude.{nat_lt, sum_by, if◌then◌else◌}
use Rattle.std.proofs.lemmas.Bool.Decides.{nat_tests}
use Rattle.dcsp_rule.specs.Problems.{Contents, value_count}
use Rattle.dcsp_common.specs.declared.limits.Which.{Which}
use Rattle.dcsp_common.specs.declared.limits.Which.TheVariants.{Variables, Rules, Terms}
use Rattle.line_export.specs.Clauses.{Clause}
use Rattle.line_export.specs.Limits.{limit_past}

-- no limit is passed
pub record IsSmall (p : Contents) (clauses : List Clause) : Type 0 where
  pub atoms : value_count p ≤ 4096
  pub clauses_few : length clauses ≤ 262144
  pub literals : sum_by length clauses ≤ 1048576

abbrev named : Which → ℕ → Which × ℕ
named which count = (which, count)

-- a count that is not above its limit
not_past : (most count : ℕ) → count ≤ most → nat_lt most count ≡ false
not_past most count l = grind (arith, nat_tests, l)

past : (most count : ℕ) → most < count → nat_lt most count ≡ true
past most count l = grind (arith, nat_tests, l)

at_most : (most count : ℕ) → nat_lt most count ≡ false → count ≤ most
at_most most count e = grind (arith, nat_tests, e)

pub small_of : (p : Contents) (clauses : List Clause) → limit_past p clauses ≡ None → IsSmall p clauses
small_of p clauses none = of (nat_lt 4096 (value_count p)) refl (nat_lt 262144 (length clauses)) refl (nat_lt 1048576 (sum_by length clauses)) refl none
  where
    of : (a : Bool) → nat_lt 4096 (value_count p) ≡ a → (b : Bool) → nat_lt 262144 (length clauses) ≡ b → (c : Bool) → nat_lt 1048576 (sum_by length clauses) ≡ c
        → (if a then Some (named Variables (value_count p)) else (if b then Some (named Rules (length clauses)) else (if c then Some (named Terms (sum_by length clauses)) else None))) ≡ None → IsSmall p clauses
    of true d b e c f h = cc
    of false d true e c f h = cc
    of false d false e true f h = cc
    of false d false e false f h = record { atoms = at_most 4096 (value_count p) d; clauses_few = at_most 262144 (length clauses) e; literals = at_most 1048576 (sum_by length clauses) f }

pub none_past : (p : Contents) (clauses : List Clause) → value_count p ≤ 4096 → length clauses ≤ 262144 → sum_by length clauses ≤ 1048576 → limit_past p clauses ≡ None
none_past p clauses a b c = rw (not_past 4096 (value_count p) a, not_past 262144 (length clauses) b, not_past 1048576 (sum_by length clauses) c) refl

pub variables_past : (p : Contents) (clauses : List Clause) → 4096 < value_count p → limit_past p clauses ≡ Some (Variables, value_count p)
variables_past p clauses a = rw (past 4096 (value_count p) a) refl

pub rules_past : (p : Contents) (clauses : List Clause) → value_count p ≤ 4096 → 262144 < length clauses → limit_past p clauses ≡ Some (Rules, length clauses)
rules_past p clauses a b = rw (not_past 4096 (value_count p) a, past 262144 (length clauses) b) refl

pub terms_past : (p : Contents) (clauses : List Clause) → value_count p ≤ 4096 → length clauses ≤ 262144 → 1048576 < sum_by length clauses → limit_past p clauses ≡ Some (Terms, sum_by length clauses)
terms_past p clauses a b c = rw (not_past 4096 (value_count p) a, not_past 262144 (length clauses) b, past 1048576 (sum_by length clauses) c) refl
