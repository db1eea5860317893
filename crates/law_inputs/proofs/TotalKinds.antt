-- The kinds of files are total: any bytes say something or are refused.
use Rattle.std.proofs.Common.{◌≡◌, ℕ, zero, suc, ◌<◌, ◌≤◌, Bool, true, false, List, [], ◌∷◌, ◌++◌, length, Option, Some, None, Result, Ok, Err, ◌⊎◌, inl, inr, refl, sym, subst}
use Rattle.std.specs.Prelude.{ℤ, IsSome, pos, negsuc, nat_le, ◌==◌, ◌&&◌, if◌then◌else◌}
use Rattle.std.specs.Option.{option_map}
use Rattle.std.proofs.lemmas.Bool.Decides.{leb_tells}
use Rattle.dcsp_rule.specs.Problems.{Contents}
use Rattle.dcsp_common.specs.declared.limits.Which.{Which}
use Rattle.dcsp_common.specs.declared.limits.Which.TheVariants.{Variables}
use Rattle.dcsp_common.specs.Limits.{most}
use Rattle.dcsp_problem.specs.Limits.{limit_of, first_past, rule_counts}
use Rattle.dcsp_problem.specs.WellFormed.{IsProblem}
use Rattle.cnf_front.specs.declared.header.CnfError.{CnfError}
use Rattle.cnf_front.specs.declared.header.CnfError.TheVariants as cnf
use Rattle.cnf_front.specs.declared.header.Mark.TheVariants.{P, Cnf, Clauses as The_clauses}
use Rattle.cnf_front.specs.declared.words.Stand.TheVariants.{Start}
use Rattle.cnf_front.specs.Dimacs.{TextWord, words}
use Rattle.cnf_front.specs.Formulas.{◌>>=◌, Clause, no_literals, clause_rule, refused_at, with_clause, with_word, clauses_from, header, passes, expect, within_limit, variables_at, number_of, literal_in, is_end, only_variables, problem_of}
use Rattle.fzn_token.specs.declared.refusal.Refusal.{Refusal}
use Rattle.fzn_model.specs.Models.{Answers}
use Rattle.ngd_log.proofs.LogLaws.{log_or_bad_line}
use Rattle.rup_check.proofs.TotalLaws.{proof_or_bad_line}
use Rattle.abt_schedule.proofs.ScheduleLaws.{schedule_or_bad_line}
use Rattle.law_inputs.proofs.Problems.{texts_have_answers}
use Rattle.law_subjects.proofs.Accepting.{accepted_are_problems}
use Rattle.abt_input.specs.declared.error.CommandError.{CommandError}
use Rattle.abt_input.specs.declared.error.CommandError.TheVariants.{ModelLong, ModelRefused, NoAim, LogLong, LogLine, ScheduleLong, ScheduleLine, OrderRefused, Clauses}
use Rattle.abt_input.specs.declared.order_error.OrderRefusal.TheVariants as orders
use Rattle.law_inputs.proofs.Orders.{order_or_bad_line}
use Rattle.abt_input.specs.declared.clauses_error.ClausesError.TheVariants.{CnfLong, CnfRefused, ProofLong, ProofLine}
use Rattle.abt_input.specs.Inputs.{IsModelOf, most_model, most_log, most_schedule, most_cnf, most_order}
use Rattle.dcsp_rule.specs.Aims.{aimed_at, narrowed}
use Rattle.line_check.specs.Taking.{taking_of, narrowing, model_by, IsNarrowedOf, IsErrorOfAim}
use Rattle.abt_input.specs.Kinds.{IsTotal, a_model, a_log, a_schedule, a_formula, a_proof, an_order}

-- a text is too long, or it is not
length_known : (text : List ℕ) (m : ℕ) → (m < length text) ⊎ (length text ≤ m)
length_known text m = elim (leb_tells (length text) m) [ inl short ↦ inr short.1 | inr long ↦ inl long.1 ]

-- ---- models

pub model_total : IsTotal a_model
model_total text = elim (length_known text most_model) [ inl long ↦ inr (ModelLong, long) | inr short ↦ told short ((texts_have_answers text).answer) (texts_have_answers text).answers ] where
  told : length text ≤ most_model → (answer : Result Contents Refusal) → Answers text answer → ((p : Contents) × IsModelOf text p) ⊎ ((error : CommandError) × a_model.Refuses text error)
  told short (Ok p) reads = inl (p, record { short = short; reads = reads })
  told short (Err error) reads = inr (ModelRefused error, record { short = short; reads = reads })

-- the problem of a model keeps the limits
pub model_problem : (text : List ℕ) (p : Contents) → IsModelOf text p → IsProblem p
model_problem text p is = (accepted_are_problems text).within_limits p is.short is.reads

-- ---- problems for a check

better_total : (bound : ℤ) → IsTotal (model_by (narrowing bound))
better_total bound text = elim (length_known text most_model) [ inl long ↦ inr (ModelLong, long) | inr short ↦ told short ((texts_have_answers text).answer) (texts_have_answers text).answers ] where
  taken : (p : Contents) → IsModelOf text p → (place : Option ℕ) → aimed_at p.aim ≡ place → ((q : Contents) × IsNarrowedOf bound text q) ⊎ ((error : CommandError) × IsErrorOfAim text error)
  taken p is None aimless = inr (NoAim, record { whole = p; model_is = is; aimless = aimless })
  taken p is (Some place) aimed = inl (narrowed p bound, record { whole = p; model_is = is; known = (model_problem text p is).aim; aimed = subst IsSome (sym aimed) refl; narrowed_is = refl })

  told : length text ≤ most_model → (answer : Result Contents Refusal) → Answers text answer → ((q : Contents) × IsNarrowedOf bound text q) ⊎ ((error : CommandError) × IsErrorOfAim text error)
  told short (Ok p) reads = taken p (record { short = short; reads = reads }) (aimed_at p.aim) refl
  told short (Err error) reads = inr (ModelRefused error, record { short = short; reads = reads })

-- the problem that a check takes of a model
pub taking_total : (better : Option ℤ) → IsTotal (model_by (taking_of better))
taking_total None = model_total
taking_total (Some bound) = better_total bound

-- ---- lists of lines

pub log_total : IsTotal a_log
log_total text = elim (length_known text most_log) [
  | inl long ↦ inr (LogLong, long)
  | inr short ↦ elim (log_or_bad_line text).some [ inl good ↦ inl (good.0, record { short = short; reads = good.1 }) | inr bad ↦ inr (LogLine bad.0, record { short = short; line = bad.1 }) ]
]

pub schedule_total : IsTotal a_schedule
schedule_total text = elim (length_known text most_schedule) [
  | inl long ↦ inr (ScheduleLong, long)
  | inr short ↦ elim (schedule_or_bad_line text).some [ inl good ↦ inl (good.0, record { short = short; reads = good.1 }) | inr bad ↦ inr (ScheduleLine bad.0, record { short = short; line = bad.1 }) ]
]

-- orders of no more variables than a model has
pub orders_total : (variables : ℕ) → variables ≤ most Variables → IsTotal (an_order variables)
orders_total variables few text = elim (length_known text most_order) [
  | inl long ↦ inr (OrderRefused orders.Long, long)
  | inr short ↦ elim (order_or_bad_line variables few text) [ inl good ↦ inl (good.0, record { few = few; short = short; reads = good.1 }) | inr bad ↦ inr (OrderRefused (orders.Line bad.0), record { few = few; short = short; line = bad.1 }) ]
]

pub proof_total : IsTotal a_proof
proof_total text = elim (length_known text most_log) [
  | inl long ↦ inr (Clauses ProofLong, long)
  | inr short ↦ elim (proof_or_bad_line text).some [ inl good ↦ inl (good.0, record { short = short; reads = good.1 }) | inr bad ↦ inr (Clauses (ProofLine bad.0), record { short = short; line = bad.1 }) ]
]

-- ---- formulas

-- the result is no want of memory
abbrev Settled : {A : Type 0} → Result A CnfError → Type 0
Settled (Ok value) = Unit {0}
Settled (Err (cnf.Syntax at)) = Unit {0}
Settled (Err (cnf.Limit which count at)) = Unit {0}
Settled (Err cnf.Memory) = ⊥

then_settled : {A B : Type 0} (r : Result A CnfError) (f : A → Result B CnfError) → Settled r → ((x : A) → Settled (f x)) → Settled (r >>= f)
then_settled (Ok x) f h k = k x
then_settled (Err (cnf.Syntax at)) f h k = tt
then_settled (Err (cnf.Limit which count at)) f h k = tt
then_settled (Err cnf.Memory) f h k = h

either_settled : {A : Type 0} (b : Bool) (r s : Result A CnfError) → Settled r → Settled s → Settled (if b then r else s)
either_settled true r s h k = h
either_settled false r s h k = k

expect_settled : (test : List ℕ → Bool) (ws : List TextWord) → Settled (expect test ws)
expect_settled test [] = tt
expect_settled test (w ∷ ws) = either_settled (test w.bytes) (Ok ws) (Err (cnf.Syntax w.at)) tt tt

variables_settled : (ws : List TextWord) → Settled (variables_at ws)
variables_settled [] = tt
variables_settled (w ∷ ws) = by (number_of w.bytes) where
  by : (o : Option ℕ) → Settled (within_limit w.at o ws)
  by None = tt
  by (Some n) = either_settled (nat_le n (most Variables)) (Ok (n, ws)) (Err (cnf.Limit Variables n w.at)) tt tt

header_settled : (ws : List TextWord) → Settled (header ws)
unfolding header
header_settled ws =
    then_settled (expect (passes P) ws) _ (expect_settled (passes P) ws) (λ a.
    then_settled (expect (passes Cnf) a) _ (expect_settled (passes Cnf) a) (λ b.
    then_settled (variables_at b) _ (variables_settled b) (λ v.
    then_settled (expect (passes The_clauses) v.1) _ (expect_settled (passes The_clauses) v.1) (λ c. tt))))

clause_settled : (at : ℕ) (p : Contents) (c : Clause) → Settled (with_clause at p c)
clause_settled at p c = by (first_past (rule_counts p (clause_rule c))) where
  by : (past : Option (Which × ℕ)) → Settled (refused_at at (option_map limit_of past) (record p { rules = p.rules ++ clause_rule c ∷ [] }))
  by None = tt
  by (Some x) = tt

word_settled : (at : ℕ) (p : Contents) (c : Clause) (literal : Option ℤ) → Settled (with_word at p c literal)
word_settled at p c None = tt
word_settled at p c (Some (pos zero)) = then_settled (with_clause at p c) _ (clause_settled at p c) (λ q. tt)
word_settled at p c (Some (pos (suc n))) = tt
word_settled at p c (Some (negsuc n)) = tt

clauses_settled : (variables : ℕ) (p : Contents) (c : Clause) (ws : List TextWord) → Settled (clauses_from variables p c ws)
unfolding clauses_from
clauses_settled variables p c [] = tt
clauses_settled variables p c (w ∷ ws) =
    either_settled (is_end w.bytes) _ _
    (either_settled (length c.positive == 0 && length c.negative == 0) _ _ tt (clause_settled w.at p c))
    (then_settled (with_word w.at p c (literal_in variables w.bytes)) _ (word_settled w.at p c (literal_in variables w.bytes)) (λ s. clauses_settled variables s.0 s.1 ws))

settled : (text : List ℕ) → Settled (problem_of text)
unfolding problem_of
settled text = then_settled (header (words Start 0 text)) _ (header_settled (words Start 0 text)) (λ h. clauses_settled h.0 (only_variables h.0) no_literals h.1)

-- no text is refused as a formula for want of memory
pub formula_memory : (text : List ℕ) → problem_of text ≡ Err cnf.Memory → ⊥
formula_memory text e = subst Settled e (settled text)

pub formula_total : IsTotal a_formula
formula_total text = elim (length_known text most_cnf) [
  | inl long ↦ inr (Clauses CnfLong, long)
  | inr short ↦ told short (problem_of text) refl
] where
  told : length text ≤ most_cnf → (r : Result Contents CnfError) → problem_of text ≡ r → ((p : Contents) × a_formula.Is text p) ⊎ ((error : CommandError) × a_formula.Refuses text error)
  told short (Ok p) reads = inl (p, record { short = short; reads = reads })
  told short (Err error) reads = inr (Clauses (CnfRefused error), record { short = short; reads = reads })
