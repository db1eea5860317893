-- A line has a report of any bytes of its files where its plan says something of each.
use Rattle.std.proofs.Common.{◌≡◌, ℕ, ◌≤◌, List, [], ◌∷◌, length, Option, Some, None, inl, inr, refl, arith}
use Rattle.dcsp_rule.specs.Problems.{Contents}
use Rattle.dcsp_common.specs.declared.limits.Which.TheVariants.{Variables}
use Rattle.dcsp_common.specs.Limits.{most}
use Rattle.dcsp_script.specs.Promises.{Report, answered, refused}
use Rattle.abt_input.specs.Errors.{error_status, error_text}
use Rattle.abt_input.specs.Kinds.{IsTotal, an_order}
use Rattle.abt_input.specs.Plans.{Plan, Answer, Read, Find, PlanReports, promise_by, order_then, under_order, IsAnswered}

-- the plan reads no more files than these, each of a total kind where what came before was read, and what it is to find is there
abbrev pub HasReport : List (List ℕ) → Plan → Type 0
HasReport names (Answer status script) = Unit {0}
HasReport [] (Read kind next) = ⊥
HasReport (name ∷ names) (Read kind next) = IsTotal kind × ((bytes : List ℕ) (value : kind.Value) → kind.Is bytes value → HasReport names (next value))
HasReport names (Find Value Is next) = (value : Value) × Is value × HasReport names (next value)

report : (names : List (List ℕ)) (plan : Plan) → HasReport names plan → (inputs : List (List ℕ)) → length inputs ≡ length names → (r : Report) × PlanReports plan inputs r
report names (Answer status script) has inputs same = (answered status script, refl)
report [] (Read kind next) has inputs same = absurd has
report (name ∷ names) (Read kind next) has [] same = absurd (omega (arith, same))
report (name ∷ names) (Read kind next) has (bytes ∷ more) same = elim (has.0 bytes) [
  | inl read ↦ let later = report names (next read.0) (has.1 bytes read.0 read.1) more (omega (arith, same)) in (later.0, inr (read.0, read.1, later.1))
  | inr failed ↦ (refused (error_status failed.0) (error_text failed.0), inl (failed.0, failed.1, refl))
]
report [] (Find Value Is next) has inputs same = let later = report [] (next has.0) has.2 inputs same in (later.0, (has.0, has.1, later.1))
report (name ∷ names) (Find Value Is next) has inputs same = let later = report (name ∷ names) (next has.0) has.2 inputs same in (later.0, (has.0, has.1, later.1))

-- the promise by such a plan has a report
pub has_answer : (names created : List (List ℕ)) (plan : Plan) → HasReport names plan → IsAnswered (promise_by names created plan)
has_answer names created plan has = report names plan has

-- orders of no more variables than a model has are total
abbrev pub AreOrdersTotal : Type 0
AreOrdersTotal = (variables : ℕ) → variables ≤ most Variables → IsTotal (an_order variables)

-- a plan under an order has a report where what follows has one, under any order
pub ordered_report : AreOrdersTotal → (names : List (List ℕ)) (next : Option (List ℕ) → Plan) (order_file : Option (List ℕ)) (problem : Contents) → length problem.domains ≤ most Variables
    → ((order : Option (List ℕ)) → HasReport names (next order)) → HasReport (order_then order_file names) (under_order order_file problem next)
ordered_report total names next None problem few has = has None
ordered_report total names next (Some name) problem few has = (total (length problem.domains) few, λ bytes order is. has (Some order))
