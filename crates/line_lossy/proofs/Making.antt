-- What one event makes, and the start.
use Rattle.std.proofs.Common.{◌≡◌, ℕ, ◌+◌, ◌<◌, ◌≤◌, ◌^◌, Bool, true, false, cond, ◌||◌, List, [], ◌∷◌, ◌++◌, length, length-append, Option, Some, None, IfSome, option_to_list, refl, sym, ap, ◌∙◌, arith}
use Rattle.std.specs.Prelude.{Result, Ok, Err, OnOk}
use Rattle.dcsp_script.specs.declared.stop.Stop.{Stop}
use Rattle.dcsp_defs.specs.Csp.{Csp}
use Rattle.dcsp_defs.specs.declared.Step.{Step}
use Rattle.dcsp_rule.specs.Problems.{Contents, csp_of}
use Rattle.ngd_log.specs.StepText.{IsStepNumber}
use Rattle.abt_network.specs.declared.Begun.{Begun}
use Rattle.abt_network.specs.declared.Begun.TheVariants as begun
use Rattle.abt_network.specs.declared.Standing.TheVariants.{Open, Quiet, Refuted}
use Rattle.abt_network.specs.Standing.{steps_of}
use Rattle.law_runs.specs.Worlds.{World, begin, after}
use Rattle.law_runs.specs.Deliveries.{numbers}
use Rattle.law_runs.specs.LossyEnds.{is_quiet, has_verdict}
use Rattle.abt_lossy.specs.declared.parts.Happened.{Happened}
use Rattle.abt_lossy.specs.InWorld.{LossyState, reached, standing_of, IsAfter, Begins, Happens}
use Rattle.dcsp_order.specs.Told.{steps_told}
use Rattle.dcsp_order.proofs.Telling.{length-told, told-append}
use Rattle.abt_session.specs.Sessions.{step_writes}
use Rattle.abt_session.specs.Running.{kept}
use Rattle.line_lossy.specs.Runners.{new_writes, numbers_after, HasMade}
use Rattle.line_lossy.specs.declared.runner.LossyRunner.{LossyRunner}
use Rattle.line_lossy.proofs.Worlds.{new_of}

-- ---- counts

pub at_most_one : {X : Type 0} (o : Option X) → length (option_to_list o) ≤ 1
at_most_one None = omega arith
at_most_one (Some x) = omega arith

pub few_begun : (told : Begun) → length (steps_of told) ≤ 1
few_begun begun.Running = omega arith
few_begun (begun.Refuted s) = omega arith

pub kept_both : (keep : Bool) (xs ys : List ℕ) → kept keep (xs ++ ys) ≡ kept keep xs ++ kept keep ys
kept_both true xs ys = refl
kept_both false xs ys = refl

none_kept : (keep : Bool) → [] ≡ kept keep []
none_kept true = refl
none_kept false = refl

-- ---- the line of a step

pub made_writes : (log : List ℕ) (s t : List Step) (step : Option Step) (number counted : ℕ) → t ≡ s ++ option_to_list step → counted ≡ length s → number ≡ counted + length (option_to_list step) → step_writes log number (option_to_list step) ≡ new_writes log s t
made_writes log s t None number counted e f g = sym (new_of log s t [] e)
made_writes log s t (Some x) number counted e f g =
    let same : number ≡ length s + 1 = omega (arith, f, g) in
    ap (λ n. step_writes log n (x ∷ [])) same ∙ sym (new_of log s t (x ∷ []) e)

-- the same, where the step is told in own numbers
pub told_writes : (order : Option (List ℕ)) (log : List ℕ) (s t : List Step) (step told : Option Step) (number counted : ℕ) → t ≡ s ++ option_to_list step → option_to_list told ≡ steps_told order (option_to_list step) → counted ≡ length s
    → number ≡ counted + length (option_to_list step) → step_writes log number (option_to_list told) ≡ new_writes log (steps_told order s) (steps_told order t)
told_writes order log s t step told number counted e d f g =
    made_writes log (steps_told order s) (steps_told order t) told number counted (ap (steps_told order) e ∙ told-append order s (option_to_list step) ∙ ap (λ l. steps_told order s ++ l) (sym d)) (f ∙ sym (length-told order s))
    (g ∙ ap (λ n. counted + n) (sym (ap length d ∙ length-told order (option_to_list step))))

pub numbered : (step : Option Step) (number counted : ℕ) → number ≡ counted + length (option_to_list step) → counted < 2 ^ 60 → IfSome step (λ s. IsStepNumber number)
numbered None number counted e few = tt
numbered (Some s) number counted e few = record { positive = omega (arith, e); bounded = omega (arith, e, few) }

-- ---- one event

module _ (words : List ℕ) (x : ℕ) (old new : LossyState) (happened : Happened) (h : Happens old new words x happened) where
  -- the steps after it
  pub steps_after : (reached old (words ++ x ∷ [])).network.steps ≡ (reached old words).network.steps ++ option_to_list happened.step
  steps_after = ap (λ (w : World). w.network.steps) h.world ∙ h.steps

pub made_more : (words : List ℕ) (x : ℕ) (old new : LossyRunner) (happened : Happened) → HasMade words old → Happens old.medium new.medium words x happened → new.medium.begun ≡ true → new.medium.spent ≡ false → new.medium.problem ≡ old.medium.problem
    → new.medium.events ≡ old.medium.events + 1 → new.steps ≡ old.steps + length (option_to_list happened.step) → new.deliveries ≡ old.deliveries + length (option_to_list happened.delivered)
    → new.taken ≡ old.taken ++ kept old.keep (option_to_list happened.delivered) → new.keep ≡ old.keep → HasMade (words ++ x ∷ []) new
made_more words x old new happened m h begun sound problem events steps deliveries taken keep =
    let next = words ++ x ∷ [] in
    let step = happened.step in
    let number = happened.delivered in
    let long_steps : length (reached old.medium next).network.steps ≡ length (reached old.medium words).network.steps + length (option_to_list step) =
    ap length (steps_after words x old.medium new.medium happened h) ∙ length-append (reached old.medium words).network.steps (option_to_list step) in
    let long_numbers : length (numbers_after old.medium next) ≡ length (numbers_after old.medium words) + length (option_to_list number) = ap length h.numbers ∙ length-append (numbers_after old.medium words) (option_to_list number) in
    let same_steps : length (reached new.medium next).network.steps ≡ length (reached old.medium next).network.steps = ap (λ (P : Contents). length (after (csp_of P) next (begin (csp_of P))).network.steps) problem in
    let same_numbers : numbers_after new.medium next ≡ numbers_after old.medium next = ap (λ (P : Contents). numbers (csp_of P) next (begin (csp_of P))) problem in
    let one_step = at_most_one step in
    let one_number = at_most_one number in
    record {
      after = h.after;
      begun = begun;
      sound = sound;
      steps = steps ∙ ap (λ n. n + length (option_to_list step)) m.steps ∙ sym long_steps ∙ sym same_steps;
      deliveries = deliveries ∙ ap (λ n. n + length (option_to_list number)) m.deliveries ∙ sym long_numbers ∙ sym (ap length same_numbers);
      taken = taken ∙ ap (λ (l : List ℕ). l ++ kept old.keep (option_to_list number)) m.taken ∙ sym (kept_both old.keep (numbers_after old.medium words) (option_to_list number)) ∙ ap (kept old.keep) (sym h.numbers ∙ sym same_numbers)
          ∙ ap (λ b. kept b (numbers_after new.medium next)) (sym keep);
      few_steps = let l = m.few_steps in omega (arith, l, events, steps, one_step);
      few_deliveries = let l = m.few_deliveries in omega (arith, l, events, deliveries, one_number);
    }

-- ---- the start

pub made_none : (old : LossyState) (new : LossyRunner) (told : Begun) → Begins old new.medium told → IsAfter new.medium [] → new.medium.begun ≡ true → new.medium.spent ≡ false → new.medium.problem ≡ old.problem
    → new.steps ≡ length (steps_of told) → new.deliveries ≡ 0 → new.taken ≡ [] → HasMade [] new
made_none old new told h a begun sound problem steps deliveries taken =
    let same : (reached new.medium []).network.steps ≡ (begin (csp_of old.problem)).network.steps = ap (λ (P : Contents). (begin (csp_of P)).network.steps) problem in
    let few = few_begun told in
    record {
      after = a;
      begun = begun;
      sound = sound;
      steps = steps ∙ ap length (sym h.starts.steps ∙ sym same);
      deliveries = deliveries;
      taken = taken ∙ none_kept new.keep;
      few_steps = omega (arith, steps, few);
      few_deliveries = omega (arith, deliveries);
    }

-- ---- how the world stands

refuted_by : (a b : Bool) → Refuted ≡ cond a Refuted (cond b Quiet Open) → a ≡ true
refuted_by true b h = refl
refuted_by false true h = cc
refuted_by false false h = cc

quiet_by : (a b : Bool) → Quiet ≡ cond a Refuted (cond b Quiet Open) → (a ≡ false) × (b ≡ true)
quiet_by true b h = cc
quiet_by false true h = (refl, refl)
quiet_by false false h = cc

open_by : (a b : Bool) → Open ≡ cond a Refuted (cond b Quiet Open) → (a ≡ false) × (b ≡ false)
open_by true b h = cc
open_by false true h = cc
open_by false false h = (refl, refl)

module _ (p : Csp) (w : World) where
  pub is_refuted : Refuted ≡ standing_of p w → w.network.refuted ≡ true
  is_refuted h = refuted_by w.network.refuted (is_quiet p w) h

  pub is_at_rest : Quiet ≡ standing_of p w → (w.network.refuted ≡ false) × (is_quiet p w ≡ true)
  is_at_rest h = quiet_by w.network.refuted (is_quiet p w) h

  pub is_going_on : Open ≡ standing_of p w → (w.network.refuted ≡ false) × (is_quiet p w ≡ false)
  is_going_on h = open_by w.network.refuted (is_quiet p w) h

  pub over_refuted : Refuted ≡ standing_of p w → true ≡ has_verdict p w
  over_refuted h = sym (ap (λ b. b || is_quiet p w) (is_refuted h))

  pub over_quiet : Quiet ≡ standing_of p w → true ≡ has_verdict p w
  over_quiet h = let t = is_at_rest h in sym (ap (λ b. b || is_quiet p w) t.0 ∙ t.1)

  pub not_over : Open ≡ standing_of p w → false ≡ has_verdict p w
  not_over h = let t = is_going_on h in sym (ap (λ b. b || is_quiet p w) t.0 ∙ t.1)

-- what holds where it went well
pub where_ok : {T : Type 0} {P Q : Type 0} (r : Result T Stop) → (P → Q) → OnOk r P → OnOk r Q
where_ok (Ok x) f p = f p
where_ok (Err e) f p = tt
