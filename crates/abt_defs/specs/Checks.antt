-- Constraint checks: what an agent looks at as it settles (Meisels, Kaplansky, Razgon and Zivan, 2002).
use Rattle.std.specs.Prelude.{ℕ, ◌+◌, Bool, true, false, not, ◌&&◌, cond, List, [], ◌∷◌, ◌++◌, map, filter, length, sum_by, Option, Some, None, ℤ, is_some, option_to_list}
use Rattle.std.specs.List.{list_all}
use Rattle.std.specs.Option.{option_map}
use Rattle.dcsp_defs.specs.declared.Reason.{Reason}
use Rattle.dcsp_defs.specs.declared.Reason.TheVariants.{Rule, Earlier}
use Rattle.dcsp_defs.specs.Words.{is_value}
use Rattle.dcsp_defs.specs.Csp.{Csp, Constraint, PartialAssignment, with_value, is_violated, domain, owned}
use Rattle.abt_defs.specs.Agents.{Agent, Message, Tell, Refuse, AddLink, Record, known}
use Rattle.abt_defs.specs.Reasons.{Item, cause, ruled_out}
use Rattle.abt_defs.specs.Steps.{is_newer, is_news}
use Rattle.abt_defs.specs.Events.{Act}

-- ---- one value

-- those up to the first that passes, that one included; all of them where none does
abbrev pub up_to : {X : Type 0} → (X → Bool) → List X → List X
up_to q [] = []
up_to q (x ∷ xs) = x ∷ cond (q x) [] (up_to q xs)

-- each variable of the constraint has a value
abbrev pub is_decided : PartialAssignment → Constraint → Bool
is_decided values c = list_all (λ k. is_some (values k)) c.scope

-- the constraints that are checked under these values: the decided ones that i owns, in order up to the first that is violated
abbrev pub checked : Csp → ℕ → PartialAssignment → List Constraint
checked p i values = filter (is_decided values) (up_to (is_violated values) (map (λ (x : ℕ × Constraint). x.1) (owned p i)))

-- how many are checked for a value of i
abbrev pub constraint_checks : Csp → ℕ → PartialAssignment → ℤ → ℕ
constraint_checks p i known v = length (checked p i (with_value i v known))

-- 1 where the reason is a recorded nogood
abbrev pub nogood_found : Option Reason → ℕ
nogood_found None = 0
nogood_found (Some (Rule number)) = 0
nogood_found (Some (Earlier step)) = 1

-- how many recorded nogoods against a value of i are looked at: recorded nogoods never share a value of i, so it is one where that is the reason
abbrev pub nogood_checks : Csp → ℕ → PartialAssignment → List Record → ℤ → ℕ
nogood_checks p i known recorded v = nogood_found (option_map (λ (x : Item). x.reason) (cause p i known recorded v))

-- ---- the values

-- the values of i in the order in which they are tried: its own, then the others of its domain
abbrev pub candidates : Csp → ℕ → Option ℤ → List ℤ
candidates p i own = option_to_list own ++ filter (λ v. not (is_value own v)) (domain p i)

-- how many constraints and how many nogoods are looked at
pub record Checks : Type 0 where
  pub constraints : ℕ
  pub nogoods : ℕ

abbrev pub no_checks : Checks
no_checks = record { constraints = 0; nogoods = 0 }

-- those of the values that are examined: up to the first that is not ruled out
abbrev pub examined : Csp → ℕ → PartialAssignment → List Record → List ℤ → List ℤ
examined p i known recorded values = up_to (λ v. not (ruled_out p i known recorded v)) values

-- the checks of agent i when it tries these values in order
abbrev pub checks_of_values : Csp → ℕ → PartialAssignment → List Record → List ℤ → Checks
checks_of_values p i known recorded values = record {
  constraints = sum_by (constraint_checks p i known) (examined p i known recorded values);
  nogoods = sum_by (nogood_checks p i known recorded) (examined p i known recorded values);
}

-- the checks of agent i as it settles with this value of its own
abbrev pub checks : Csp → ℕ → PartialAssignment → List Record → Option ℤ → Checks
checks p i known recorded own = checks_of_values p i known recorded (candidates p i own)

-- ---- acts

-- whether agent i settles when it receives a message from k: a newer value makes it, a nogood does unless it goes on waiting, a link request does not
abbrev pub settles_on : ℕ → Agent → ℕ → Message → Bool
settles_on i a k (Tell s) = is_newer (a.view k) s.stamp
settles_on i a k (Refuse step pairs) = not (a.waits && not (is_news i pairs a))
settles_on i a k AddLink = false

-- whether an agent settles; in the start it does
abbrev pub is_settling : ℕ → Agent → Option (ℕ × Message) → Bool
is_settling i a None = true
is_settling i a (Some x) = settles_on i a x.0 x.1

-- The checks of an act. Settling changes neither view nor records, so they are as the act leaves them; the value is the one before it.
abbrev pub checks_of : Csp → Act → Checks
checks_of p a = cond (is_settling a.agent a.before a.came) (checks p a.agent (known a.after) a.after.recorded a.before.value) no_checks
