-- A model has at most one problem for a check, or one refusal, and not both.
use Rattle.std.proofs.Common.{◌≡◌, ◌⊎◌, ℕ, ℤ, List, Option, Some, None, Result, Ok, Err, refl, sym, ap, subst, ◌∙◌, inl, inr}
use Rattle.std.specs.Prelude.{IsSome, ⊤}
use Rattle.dcsp_problem.specs.declared.problem.Problem.{Problem}
use Rattle.dcsp_rule.specs.Problems.{Contents}
use Rattle.dcsp_rule.specs.Aims.{aimed_at, narrowed}
use Rattle.dcsp_script.specs.Statuses.{IsFinal}
use Rattle.abt_input.specs.Inputs.{IsModelOf}
use Rattle.abt_input.specs.Errors.{IsErrorOfModel, error_status}
use Rattle.abt_input.specs.declared.error.CommandError.{CommandError}
use Rattle.abt_input.specs.declared.error.CommandError.TheVariants.{ModelLong, ModelRefused, NoAim, LogLong, LogLine, ScheduleLong, ScheduleLine, OrderRefused, Clauses, Fault, Memory}
use Rattle.abt_input.proofs.Once.{one_problem, no_error_of_model, one_error_of_model}
use Rattle.abt_input.specs.Kinds.{ReadsAs, a_model}
use Rattle.line_check.specs.Taking.{Taking, plain, narrowing, taking_of, IsNarrowedOf, LacksAim, IsErrorOfAim, LeavesBounded, model_by}

-- an error that may be a model's
abbrev pub IsOfModel : CommandError → Type 0
IsOfModel ModelLong = ⊤
IsOfModel (ModelRefused error) = ⊤
IsOfModel NoAim = ⊤
IsOfModel LogLong = ⊥
IsOfModel (LogLine number) = ⊥
IsOfModel ScheduleLong = ⊥
IsOfModel (ScheduleLine number) = ⊥
IsOfModel (OrderRefused error) = ⊥
IsOfModel (Clauses error) = ⊥
IsOfModel Fault = ⊥
IsOfModel Memory = ⊥

-- what is taken of a model is settled
pub record IsSettled (t : Taking) : Type 0 where
  pub one : (model : List ℕ) (p q : Contents) → t.Is model p → t.Is model q → p ≡ q
  pub none : (model : List ℕ) (p : Contents) (e : CommandError) → t.Is model p → t.Refuses model e → ⊥
  pub one_error : (model : List ℕ) (e d : CommandError) → t.Refuses model e → t.Refuses model d → e ≡ d
  pub of_model : (model : List ℕ) (e : CommandError) → t.Refuses model e → IsOfModel e

of_plain : (model : List ℕ) (e : CommandError) → IsErrorOfModel model e → IsOfModel e
of_plain model ModelLong h = tt
of_plain model (ModelRefused error) h = tt
of_plain model NoAim h = absurd h
of_plain model LogLong h = h
of_plain model (LogLine number) h = h
of_plain model ScheduleLong h = h
of_plain model (ScheduleLine number) h = h
of_plain model (OrderRefused error) h = h
of_plain model (Clauses error) h = h
of_plain model Fault h = h
of_plain model Memory h = h

-- the two reasons that there is no problem to narrow
of_aim : (model : List ℕ) (e : CommandError) → IsErrorOfAim model e → ((e ≡ NoAim) × LacksAim model) ⊎ IsErrorOfModel model e
of_aim model ModelLong h = inr h
of_aim model (ModelRefused error) h = inr h
of_aim model NoAim h = inl (refl, h)
of_aim model LogLong h = inr h
of_aim model (LogLine number) h = inr h
of_aim model ScheduleLong h = inr h
of_aim model (ScheduleLine number) h = inr h
of_aim model (OrderRefused error) h = inr h
of_aim model (Clauses error) h = inr h
of_aim model Fault h = inr h
of_aim model Memory h = inr h

of_narrowing : (model : List ℕ) (e : CommandError) → IsErrorOfAim model e → IsOfModel e
of_narrowing model ModelLong h = tt
of_narrowing model (ModelRefused error) h = tt
of_narrowing model NoAim h = tt
of_narrowing model LogLong h = h
of_narrowing model (LogLine number) h = h
of_narrowing model ScheduleLong h = h
of_narrowing model (ScheduleLine number) h = h
of_narrowing model (OrderRefused error) h = h
of_narrowing model (Clauses error) h = h
of_narrowing model Fault h = h
of_narrowing model Memory h = h

no_aim : (o : Option ℕ) → IsSome o → o ≡ None → ⊥
no_aim None some none = absurd (let no = some in cc)
no_aim (Some var) some none = absurd (cc)

one_narrowed : (bound : ℤ) (model : List ℕ) (p q : Contents) → IsNarrowedOf bound model p → IsNarrowedOf bound model q → p ≡ q
one_narrowed bound model p q h k =
    h.narrowed_is ∙ ap (λ (w : Contents). narrowed w bound) (one_problem model h.whole k.whole h.model_is k.model_is) ∙ sym k.narrowed_is

none_narrowed : (bound : ℤ) (model : List ℕ) (p : Contents) (e : CommandError) → IsNarrowedOf bound model p → IsErrorOfAim model e → ⊥
none_narrowed bound model p e h k = elim (of_aim model e k) [
  | inl lacks ↦ no_aim (aimed_at h.whole.aim) h.aimed (ap (λ (w : Contents). aimed_at w.aim) (one_problem model h.whole lacks.1.whole h.model_is lacks.1.model_is) ∙ lacks.1.aimless)
  | inr error ↦ no_error_of_model model h.whole e h.model_is error
]

one_error_narrowed : (model : List ℕ) (e d : CommandError) → IsErrorOfAim model e → IsErrorOfAim model d → e ≡ d
one_error_narrowed model e d h k = by (of_aim model e h) (of_aim model d k)
  where
    by : ((e ≡ NoAim) × LacksAim model) ⊎ IsErrorOfModel model e → ((d ≡ NoAim) × LacksAim model) ⊎ IsErrorOfModel model d → e ≡ d
    by (inl x) (inl y) = x.0 ∙ sym y.0
    by (inl x) (inr y) = absurd (no_error_of_model model x.1.whole d x.1.model_is y)
    by (inr x) (inl y) = absurd (no_error_of_model model y.1.whole e y.1.model_is x)
    by (inr x) (inr y) = one_error_of_model model e d x y

plain_settled : IsSettled plain
plain_settled = record { one = one_problem; none = no_error_of_model; one_error = one_error_of_model; of_model = of_plain }

narrowing_settled : (bound : ℤ) → IsSettled (narrowing bound)
narrowing_settled bound = record { one = one_narrowed bound; none = none_narrowed bound; one_error = one_error_narrowed; of_model = of_narrowing }

pub settled : (better : Option ℤ) → IsSettled (taking_of better)
settled None = plain_settled
settled (Some bound) = narrowing_settled bound

-- an error of a model is final
pub final_of_model : (e : CommandError) → IsOfModel e → IsFinal (error_status e)
final_of_model ModelLong h = tt
final_of_model (ModelRefused error) h = tt
final_of_model NoAim h = tt
final_of_model LogLong h = absurd h
final_of_model (LogLine number) h = absurd h
final_of_model ScheduleLong h = absurd h
final_of_model (ScheduleLine number) h = absurd h
final_of_model (OrderRefused error) h = absurd h
final_of_model (Clauses error) h = absurd h
final_of_model Fault h = absurd h
final_of_model Memory h = absurd h

-- what is left of a model's problem by the bound is taken of the model
pub left_taken : (better : Option ℤ) (model : List ℕ) (whole : Contents) (r : Result Problem CommandError) → IsModelOf model whole → LeavesBounded better whole r → ReadsAs (model_by (taking_of better)) model r
left_taken None model whole (Ok p) is h = subst (λ x. IsModelOf model x) (sym h) is
left_taken None model whole (Err NoAim) is h = absurd h
left_taken (Some bound) model whole (Ok p) is h = record { whole = whole; model_is = is; known = h.known; aimed = h.aimed; narrowed_is = h.narrowed_is }
left_taken (Some bound) model whole (Err NoAim) is h = record { whole = whole; model_is = is; aimless = h }
left_taken better model whole (Err Fault) is h = tt
left_taken better model whole (Err Memory) is h = tt
left_taken None model whole (Err ModelLong) is h = absurd h
left_taken (Some bound) model whole (Err ModelLong) is h = absurd h
left_taken None model whole (Err (ModelRefused error)) is h = absurd h
left_taken (Some bound) model whole (Err (ModelRefused error)) is h = absurd h
left_taken None model whole (Err LogLong) is h = absurd h
left_taken (Some bound) model whole (Err LogLong) is h = absurd h
left_taken None model whole (Err (LogLine number)) is h = absurd h
left_taken (Some bound) model whole (Err (LogLine number)) is h = absurd h
left_taken None model whole (Err ScheduleLong) is h = absurd h
left_taken (Some bound) model whole (Err ScheduleLong) is h = absurd h
left_taken None model whole (Err (ScheduleLine number)) is h = absurd h
left_taken None model whole (Err (OrderRefused error)) is h = absurd h
left_taken (Some bound) model whole (Err (ScheduleLine number)) is h = absurd h
left_taken (Some bound) model whole (Err (OrderRefused error)) is h = absurd h
left_taken None model whole (Err (Clauses error)) is h = absurd h
left_taken (Some bound) model whole (Err (Clauses error)) is h = absurd h

-- a refused model is refused for the check
pub refused_taken : (better : Option ℤ) (model : List ℕ) (e : CommandError) → ReadsAs a_model model (Err e) → ReadsAs (model_by (taking_of better)) model (Err e)
refused_taken None model e h = h
refused_taken (Some bound) model ModelLong h = h
refused_taken (Some bound) model (ModelRefused error) h = h
refused_taken (Some bound) model NoAim h = absurd h
refused_taken (Some bound) model LogLong h = h
refused_taken (Some bound) model (LogLine number) h = h
refused_taken (Some bound) model ScheduleLong h = h
refused_taken (Some bound) model (ScheduleLine number) h = h
refused_taken (Some bound) model (OrderRefused error) h = h
refused_taken (Some bound) model (Clauses error) h = h
refused_taken (Some bound) model Fault h = tt
refused_taken (Some bound) model Memory h = tt
