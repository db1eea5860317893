-- The promise of a sound plan is lawful, and the line answers whatever its files are where the plan is total.
use Rattle.std.proofs.Common.{◌≡◌, ℕ, List, [], ◌∷◌, map, Option, Some, None, length, sym, ap, subst, ◌∙◌, inl, inr, refl, arith}
use Rattle.std.specs.Prelude.{Contains}
use Rattle.std.proofs.lemmas.List.Elements.{Contains-append_left, Contains-append_right, Contains-push}
use Rattle.dcsp_rule.specs.Problems.{Contents}
use Rattle.dcsp_script.specs.Scripts.{Write}
use Rattle.dcsp_script.specs.Texts.{Touches}
use Rattle.dcsp_script.specs.Statuses.{IsFinal, IsRefusal}
use Rattle.dcsp_script.specs.Promises.{Report, answered, refused}
use Rattle.dcsp_script.specs.Clauses.{IsLawful}
use Rattle.dcsp_outside.specs.Outside.{bytes_of}
use Rattle.abt_input.specs.Errors.{error_status, error_text}
use Rattle.abt_input.specs.Inputs.{IsOrderIn}
use Rattle.abt_input.specs.Plans.{Plan, Answer, Read, Find, PlanReports, PlanFetches, promise_by, order_then, under_order, IsSoundPlan, IsTotalPlan, IsAnswered}
use Rattle.abt_input.proofs.ExactKinds.{order_exact}

never : {A : Type 0} {x : A} → Contains [] x → ⊥
never (i, below, is) = omega arith

one : (f c : List (List ℕ)) (p : Plan) → IsSoundPlan f c p → (inputs : List (List ℕ)) (r s : Report) → PlanReports p inputs r → PlanReports p inputs s → r ≡ s
one f c (Answer status script) o inputs r s h k = h ∙ sym k
one [] c (Read kind next) o inputs r s h k = absurd o
one (n ∷ f) c (Read kind next) o [] r s h k = absurd h
one (n ∷ f) c (Read kind next) o (b ∷ more) r s (inl h) (inl k) = h.2 ∙ ap (λ e. refused (error_status e) (error_text e)) (o.0.one_error b h.0 k.0 h.1 k.1) ∙ sym k.2
one (n ∷ f) c (Read kind next) o (b ∷ more) r s (inl h) (inr k) = absurd (o.0.apart b k.0 h.0 k.1 h.1)
one (n ∷ f) c (Read kind next) o (b ∷ more) r s (inr h) (inl k) = absurd (o.0.apart b h.0 k.0 h.1 k.1)
one (n ∷ f) c (Read kind next) o (b ∷ more) r s (inr h) (inr k) =
    one f c (next h.0) (o.1 h.0) more r s h.2 (subst (λ v. PlanReports (next v) more s) (sym (o.0.one b h.0 k.0 h.1 k.1)) k.2)
one [] c (Find Value Is next) o inputs r s h k =
    one [] c (next h.0) (o.1 h.0) inputs r s h.2 (subst (λ v. PlanReports (next v) inputs s) (sym (o.0 h.0 k.0 h.1 k.1)) k.2)
one (n ∷ f) c (Find Value Is next) o inputs r s h k =
    one (n ∷ f) c (next h.0) (o.1 h.0) inputs r s h.2 (subst (λ v. PlanReports (next v) inputs s) (sym (o.0 h.0 k.0 h.1 k.1)) k.2)

final : (f c : List (List ℕ)) (p : Plan) → IsSoundPlan f c p → (inputs : List (List ℕ)) (r : Report) → PlanReports p inputs r → IsFinal r.status
final f c (Answer status script) o inputs r h = subst (λ y. IsFinal y.status) (sym h) o.final
final [] c (Read kind next) o inputs r h = absurd o
final (n ∷ f) c (Read kind next) o [] r h = absurd h
final (n ∷ f) c (Read kind next) o (b ∷ more) r (inl h) = subst (λ y. IsFinal y.status) (sym h.2) (o.0.final b h.0 h.1)
final (n ∷ f) c (Read kind next) o (b ∷ more) r (inr h) = final f c (next h.0) (o.1 h.0) more r h.2
final [] c (Find Value Is next) o inputs r h = final [] c (next h.0) (o.1 h.0) inputs r h.2
final (n ∷ f) c (Find Value Is next) o inputs r h = final (n ∷ f) c (next h.0) (o.1 h.0) inputs r h.2

quiet : (f c : List (List ℕ)) (p : Plan) → IsSoundPlan f c p → (inputs : List (List ℕ)) (r : Report) → PlanReports p inputs r → IsRefusal r.status → r.script ≡ []
quiet f c (Answer status script) o inputs r h bad = absurd (o.no_refusal (subst (λ y. IsRefusal y.status) h bad))
quiet [] c (Read kind next) o inputs r h bad = absurd o
quiet (n ∷ f) c (Read kind next) o [] r h bad = absurd h
quiet (n ∷ f) c (Read kind next) o (b ∷ more) r (inl h) bad = ap (λ y. y.script) h.2
quiet (n ∷ f) c (Read kind next) o (b ∷ more) r (inr h) bad = quiet f c (next h.0) (o.1 h.0) more r h.2 bad
quiet [] c (Find Value Is next) o inputs r h bad = quiet [] c (next h.0) (o.1 h.0) inputs r h.2 bad
quiet (n ∷ f) c (Find Value Is next) o inputs r h bad = quiet (n ∷ f) c (next h.0) (o.1 h.0) inputs r h.2 bad

names : (f c : List (List ℕ)) (p : Plan) → IsSoundPlan f c p → (inputs : List (List ℕ)) (r : Report) → PlanReports p inputs r → (w : Write) → Contains r.script w → (name : List ℕ) → Touches w name → Contains c name
names f c (Answer status script) o inputs r h w i = o.names.only w (subst (λ l. Contains l w) (ap (λ y. y.script) h) i)
names [] c (Read kind next) o inputs r h w i = absurd o
names (n ∷ f) c (Read kind next) o [] r h w i = absurd h
names (n ∷ f) c (Read kind next) o (b ∷ more) r (inl h) w i = absurd (never (subst (λ l. Contains l w) (ap (λ y. y.script) h.2) i))
names (n ∷ f) c (Read kind next) o (b ∷ more) r (inr h) w i = names f c (next h.0) (o.1 h.0) more r h.2 w i
names [] c (Find Value Is next) o inputs r h w i = names [] c (next h.0) (o.1 h.0) inputs r h.2 w i
names (n ∷ f) c (Find Value Is next) o inputs r h w i = names (n ∷ f) c (next h.0) (o.1 h.0) inputs r h.2 w i

reads : (f : List (List ℕ)) (p : Plan) → (before : List (List ℕ)) (name : List ℕ) → PlanFetches p f before name → Contains f name
reads f (Answer status script) before name h = absurd h
reads [] (Read kind next) before name h = absurd h
reads (n ∷ f) (Read kind next) [] name h = subst (λ m. Contains (n ∷ f) m) (sym h) (Contains-append_left (n ∷ []) f n (Contains-push [] n))
reads (n ∷ f) (Read kind next) (b ∷ more) name h = Contains-append_right (n ∷ []) f name (reads f (next h.0) more name h.2)
reads f (Find Value Is next) before name h = reads f (next h.0) before name h.2

pub plan_lawful : {fetched created : List (List ℕ)} (plan : Plan) → IsSoundPlan fetched created plan → IsLawful (promise_by fetched created plan)
plan_lawful {fetched = f} {created = c} plan sound = record { one = one f c plan sound; final = final f c plan sound; quiet = quiet f c plan sound; names = names f c plan sound; reads = reads f plan }

some : (f c : List (List ℕ)) (p : Plan) → IsSoundPlan f c p → IsTotalPlan p → (inputs : List (List ℕ)) → length inputs ≡ length f → (r : Report) × PlanReports p inputs r
some f c (Answer status script) o t inputs e = (answered status script, refl)
some [] c (Read kind next) o t inputs e = absurd o
some (n ∷ f) c (Read kind next) o t [] e = absurd (omega (arith, e))
some (n ∷ f) c (Read kind next) o t (b ∷ more) e = elim (t.0 b) [
  | inl x ↦ let r = some f c (next x.0) (o.1 x.0) (t.1 x.0) more (omega (arith, e)) in (r.0, inr (x.0, x.1, r.1))
  | inr x ↦ (refused (error_status x.0) (error_text x.0), inl (x.0, x.1, refl))
]
some [] c (Find Value Is next) o t inputs e = let x = t.0 in let r = some [] c (next x.0) (o.1 x.0) (t.1 x.0) inputs e in (r.0, (x.0, x.1, r.1))
some (n ∷ f) c (Find Value Is next) o t inputs e = let x = t.0 in let r = some (n ∷ f) c (next x.0) (o.1 x.0) (t.1 x.0) inputs e in (r.0, (x.0, x.1, r.1))

pub plan_answers : (fetched created : List (List ℕ)) (plan : Plan) → IsSoundPlan fetched created plan → IsTotalPlan plan → IsAnswered (promise_by fetched created plan)
plan_answers f c plan sound total = some f c plan sound total

-- a plan under an order is sound where what follows is, under any order
pub ordered_sound : (fetched created : List (List ℕ)) (next : Option (List ℕ) → Plan) (order_file : Option (List ℕ)) (problem : Contents) → ((order : Option (List ℕ)) → IsSoundPlan fetched created (next order))
    → IsSoundPlan (order_then order_file fetched) created (under_order order_file problem next)
ordered_sound fetched created next None problem sound = sound None
ordered_sound fetched created next (Some name) problem sound = (order_exact (length problem.domains), λ order. sound (Some order))

-- and reports what follows under the order that the folder's files have
pub ordered_reports : (files : List ℕ → Option (List ℕ)) (next : Option (List ℕ) → Plan) (problem : Contents) (order_file order : Option (List ℕ)) (names : List (List ℕ)) (report : Report) → IsOrderIn files order_file problem order
    → PlanReports (next order) (map (λ name. bytes_of (files name)) names) report → PlanReports (under_order order_file problem next) (map (λ name. bytes_of (files name)) (order_then order_file names)) report
ordered_reports files next problem None None names report is h = h
ordered_reports files next problem None (Some order) names report is h = absurd is
ordered_reports files next problem (Some name) None names report is h = absurd is
ordered_reports files next problem (Some name) (Some order) names report is h = inr (order, is, h)
