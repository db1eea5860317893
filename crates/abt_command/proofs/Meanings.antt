-- What the answers of lines mean.
use Rattle.std.proofs.Common.{◌≡◌, ℕ, ℤ, List, Option, Some, None, Result, Ok, Err, sym, ap, subst}
use Rattle.std.specs.Prelude.{IfOk, OnOk}
use Rattle.dcsp_script.specs.Scripts.{World}
use Rattle.dcsp_script.specs.declared.status.Status.{Status}
use Rattle.dcsp_script.specs.declared.status.Status.TheVariants.{Good, No}
use Rattle.dcsp_script.specs.Statuses.{IsFinal, IsRefusal}
use Rattle.abt_input.specs.declared.error.CommandError.{CommandError}
use Rattle.dcsp_outside.specs.Outside.{bytes_of}
use Rattle.dcsp_defs.specs.Csp.{HasNoSolution}
use Rattle.dcsp_rule.specs.Problems.{Contents, csp_of}
use Rattle.abt_optimum.specs.Best.{HasNoBetter}
use Rattle.abt_optimum.proofs.Narrowing.{decides}
use Rattle.abt_input.proofs.Once.{one_problem}
use Rattle.line_check.specs.Taking.{narrowing, taking_of}
use Rattle.line_check.specs.Checks.{IsRefuted, IsRefutedBy}
use Rattle.abt_command.specs.Lines.{Line, Check, Means}
use Rattle.abt_command.specs.Meanings.{HoldsNoBetter}

-- the same of the same line
pub means_of : {line other : Line} (old now : World) (status : Status) → line ≡ other → Means line old now status → Means other old now status
means_of old now status e h = subst (λ l. Means l old now status) e h

verified_by : {line : Line} {model log : List ℕ} {better : Option ℤ} (old now : World) (status : Status) → line ≡ Check model log better → status ≡ Good
    → (IsFinal status → (IsRefusal status → ⊥) → Means line old now status) → IsRefutedBy (taking_of better) old.folder.held model
verified_by old now status e good h = means_of old now status e (h (subst IsFinal (sym good) tt) (λ r. subst IsRefusal good r)) good

-- a log that is verified
pub refuted_by : {line : Line} {model log : List ℕ} (old now : World) (status : Status) → line ≡ Check model log None → status ≡ Good
    → (IsFinal status → (IsRefusal status → ⊥) → Means line old now status) → IsRefuted old.folder.held model
refuted_by old now status e good h = verified_by old now status e good h

none_better : (files : Option (List ℕ → Option (List ℕ))) (model : List ℕ) (bound : ℤ) → IsRefutedBy (narrowing bound) files model → HoldsNoBetter files model bound
none_better None model bound h = tt
none_better (Some f) model bound h = λ p is.
    let q = h.taken in
    let same : q.1.whole ≡ p = one_problem (bytes_of (f model)) q.1.whole p q.1.model_is is in
    let none = subst (λ (x : Contents). HasNoSolution (csp_of x)) q.1.narrowed_is (h.none q.0 q.1) in
    subst (λ (x : Contents). HasNoBetter x bound) same ((decides q.1.whole q.1.known q.1.aimed bound).0 none)

-- the same against a better value
pub no_better_by : {line : Line} {model log : List ℕ} {bound : ℤ} (old now : World) (status : Status) → line ≡ Check model log (Some bound) → status ≡ Good
    → (IsFinal status → (IsRefusal status → ⊥) → Means line old now status) → HoldsNoBetter old.folder.held model bound
no_better_by {model = model} {bound = bound} old now status e good h = none_better old.folder.held model bound (verified_by old now status e good h)

-- status 0 alone is asked of
pub good_alone : {P : Type 0} (r : Result Status CommandError) → (r ≡ Ok Good → P) → IfOk r (λ status. status ≡ Good → P)
good_alone (Ok x) h = λ e. h (ap Ok e)
good_alone (Err e) h = tt

-- one fact of status 0, and one of status 1
pub good_or_no : {P Q : Type 0} (R : Status → Type 0) (r : Result Status CommandError) → ((s : Status) → (s ≡ Good → P) → (s ≡ No → Q) → R s) → (r ≡ Ok Good → P) → (r ≡ Ok No → Q) → IfOk r R
good_or_no R (Ok x) f p q = f x (λ e. p (ap Ok e)) (λ e. q (ap Ok e))
good_or_no R (Err e) f p q = tt

-- two facts of an answer
pub both_facts : {P Q : Status → Type 0} (R : Status → Type 0) (r : Result Status CommandError) → ((s : Status) → P s → Q s → R s) → IfOk r P → IfOk r Q → IfOk r R
both_facts R (Ok x) f p q = f x p q
both_facts R (Err e) f p q = tt

-- two facts that hold of each answer alike
pub always_both : {P Q : Type 0} (R : Type 0) (r : Result Status CommandError) → (P → Q → R) → OnOk r P → OnOk r Q → IfOk r (λ status. R)
always_both R (Ok x) f p q = f p q
always_both R (Err e) f p q = tt

-- what holds of each answer alike
pub always : (P : Type 0) (r : Result Status CommandError) → OnOk r P → IfOk r (λ status. P)
always P (Ok x) h = h
always P (Err e) h = tt
