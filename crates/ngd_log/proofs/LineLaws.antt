-- A step that is read is the one whose line it is, and a step's line is read again.
use Rattle.std.proofs.Common.{◌≡◌, ℕ, ◌+◌, ◌<◌, true, cond, eqb, length, List, [], ◌∷◌, ◌++◌, Option, Some, None, Result, Ok, Err, FitsSigned, inl, inr, refl, sym, ap, subst, ◌∙◌, append_assoc, arith}
use Rattle.std.specs.Prelude.{codes, decimal, IsErrOf}
use Rattle.std.specs.Int.{w64}
use Rattle.std.specs.List.{AllByRecursion}
use Rattle.std.proofs.lemmas.List.{append-nil}
use Rattle.std.proofs.lemmas.Bool.{eqb-true, eq-eqb}
use Rattle.dcsp_defs.specs.declared.nogood.Pair.{Pair}
use Rattle.dcsp_defs.specs.declared.Reason.{Reason}
use Rattle.dcsp_defs.specs.declared.Reason.TheVariants.{Rule}
use Rattle.dcsp_defs.specs.declared.Step.{Step}
use Rattle.ngd_log.specs.StepText.{pairs_text, reasons_text, variable_text, step_line, IsVariable, IsStepNumber, IsReasonInRange, IsWritable, IsStepLine}
use Rattle.ngd_log.specs.declared.reader.LineError.{LineError}
use Rattle.ngd_log.specs.declared.reader.LineError.TheVariants.{Bad, Memory}
use Rattle.dcsp_common.specs.Reading.{◌>>=◌}
use Rattle.ngd_log.specs.Reading.{Fails, after, counted_at, step_number_at, reasons_at, nogood_at, alone, variable_front, rule_front, form_front, step_front, step_of}
use Rattle.dcsp_common.proofs.Chosen.{chosen, bind_then, some_is}
use Rattle.ngd_log.proofs.AfterPrefix.{after_takes, after_again}
use Rattle.ngd_log.proofs.Each.{each_gives, each_both}
use Rattle.ngd_log.proofs.Fields.{Took, IsPair, counted_takes, counted_again, step_number_takes, step_number_again}
use Rattle.ngd_log.proofs.ItemLaws.{reasons_takes, reasons_again, nogood_takes, nogood_again}

-- the line of a step after its number and a space
abbrev pub rest_text : Option ℕ → List Pair → List Reason → List ℕ
rest_text variable nogood reasons = variable_text variable ++ (codes " " ++ (pairs_text nogood ++ (codes " <-" ++ (reasons_text reasons ++ codes "\n"))))

-- eight texts, joined from the right
regroup : (a b c d e f g h : List ℕ) → a ++ b ++ c ++ d ++ e ++ f ++ g ++ h ≡ a ++ (b ++ (c ++ (d ++ (e ++ (f ++ (g ++ h))))))
regroup a b c d e f g h = simp append_assoc

-- a step's line, in these parts
pub step_line_is : (number : ℕ) (step : Step) → step_line number step ≡ decimal number ++ (codes " " ++ rest_text step.variable step.nogood step.reasons)
step_line_is number step = regroup (decimal number) (codes " ") (variable_text step.variable) (codes " ") (pairs_text step.nogood) (codes " <-") (reasons_text step.reasons) (codes "\n")

-- what nothing stands after
pub alone_is : {X : Type 0} (x : X × List ℕ) (y : X) → alone x ≡ Some y → (x.0 ≡ y) × (x.1 ≡ [])
alone_is (x, []) y h = (some_is x y h, refl)
alone_is (x, b ∷ bytes) y h = absurd cc

-- what reading the rest of a line took, where this stands after its line feed
abbrev pub TookRest : List ℕ → Step × List ℕ → Type 0
TookRest bytes x = Took bytes (rest_text x.0.variable x.0.nogood x.0.reasons) x.1 (IsWritable x.0)

-- the rest of a line, by its parts
joined : (bytes a : List ℕ) (x : ℕ) (b c : List ℕ) (ys : List Pair) (d e : List ℕ) (rs : List Reason) (f rest : List ℕ)
    → bytes ≡ codes "v" ++ a → a ≡ decimal (x + 1) ++ b → b ≡ codes " " ++ c → c ≡ pairs_text ys ++ d → d ≡ codes " <-" ++ e → e ≡ reasons_text rs ++ f → f ≡ codes "\n" ++ rest
    → bytes ≡ rest_text (Some x) ys rs ++ rest
joined bytes a x b c ys d e rs f rest h1 h2 h3 h4 h5 h6 h7 = rw (h1, h2, h3, h4, h5, h6, h7) (simp append_assoc)

-- a step with a variable that was read
variable_takes : (bytes : List ℕ) (s : Step × List ℕ) → variable_front bytes ≡ Some s → TookRest bytes s
unfolding variable_front
variable_takes bytes s h =
    bind_then (after (codes "v") bytes) (λ a. counted_at 4096 a >>= λ x. after (codes " ") x.1 >>= λ b. nogood_at b >>= λ ys. after (codes " <-") ys.1 >>= λ c. reasons_at c >>= λ rs. after (codes "\n") rs.1 >>= λ rest. Some (record { variable = Some x.0; nogood = ys.0; reasons = rs.0 }, rest)) s h (λ a ra h1.
    bind_then (counted_at 4096 a) (λ x. after (codes " ") x.1 >>= λ b. nogood_at b >>= λ ys. after (codes " <-") ys.1 >>= λ c. reasons_at c >>= λ rs. after (codes "\n") rs.1 >>= λ rest. Some (record { variable = Some x.0; nogood = ys.0; reasons = rs.0 }, rest)) s h1 (λ x rx h2.
    bind_then (after (codes " ") x.1) (λ b. nogood_at b >>= λ ys. after (codes " <-") ys.1 >>= λ c. reasons_at c >>= λ rs. after (codes "\n") rs.1 >>= λ rest. Some (record { variable = Some x.0; nogood = ys.0; reasons = rs.0 }, rest)) s h2 (λ b rb h3.
    bind_then (nogood_at b) (λ ys. after (codes " <-") ys.1 >>= λ c. reasons_at c >>= λ rs. after (codes "\n") rs.1 >>= λ rest. Some (record { variable = Some x.0; nogood = ys.0; reasons = rs.0 }, rest)) s h3 (λ ys ry h4.
    bind_then (after (codes " <-") ys.1) (λ c. reasons_at c >>= λ rs. after (codes "\n") rs.1 >>= λ rest. Some (record { variable = Some x.0; nogood = ys.0; reasons = rs.0 }, rest)) s h4 (λ c rc h5.
    bind_then (reasons_at c) (λ rs. after (codes "\n") rs.1 >>= λ rest. Some (record { variable = Some x.0; nogood = ys.0; reasons = rs.0 }, rest)) s h5 (λ rs rr h6.
    bind_then (after (codes "\n") rs.1) (λ rest. Some (record { variable = Some x.0; nogood = ys.0; reasons = rs.0 }, rest)) s h6 (λ rest re h7.
    let made : Step = record { variable = Some x.0; nogood = ys.0; reasons = rs.0 } in
    let t = counted_takes 4096 a x.0 x.1 rx in
    let u = nogood_takes b ys.0 ys.1 ry in
    let w = reasons_takes c rs.0 rs.1 rr in
    let parts : bytes ≡ rest_text (Some x.0) ys.0 rs.0 ++ rest = joined bytes a x.0 x.1 b ys.0 ys.1 c rs.0 rs.1 rest (after_takes (codes "v") bytes a ra) t.parts (after_takes (codes " ") x.1 b rb) u.parts (after_takes (codes " <-") ys.1 c rc) w.parts (after_takes (codes "\n") rs.1 rest re) in
    let fits : IsWritable made = record {
      in_range = record { variable = t.holds; nowhere = tt; pairs = each_gives IsPair (λ (y : Pair). IsVariable y.var) ys.0 (λ y i. i.variable) u.holds.pairs; reasons = w.holds };
      rising = u.holds.rising;
      values = each_gives IsPair (λ (y : Pair). FitsSigned w64 y.value) ys.0 (λ y i. i.value) u.holds.pairs;
    } in
    let first : TookRest bytes (made, rest) = record { parts = parts; holds = fits } in
    subst (λ (x : Step × List ℕ). TookRest bytes x) (some_is (made, rest) s h7) first)))))))

-- the line of a step with a variable is read again
variable_again : (x : ℕ) (nogood : List Pair) (reasons : List Reason) → IsWritable (record { variable = Some x; nogood = nogood; reasons = reasons })
    → variable_front (rest_text (Some x) nogood reasons) ≡ Some (record { variable = Some x; nogood = nogood; reasons = reasons }, [])
unfolding variable_front after
variable_again x nogood reasons w =
    let pairs : AllByRecursion IsPair nogood = each_both (λ (y : Pair). IsVariable y.var) (λ (y : Pair). FitsSigned w64 y.value) IsPair nogood (λ y v f. record { variable = v; value = f }) w.in_range.pairs w.values in
    let d = reasons_text reasons ++ codes "\n" in
    let c = codes " <-" ++ d in
    let b = pairs_text nogood ++ c in
    let a = codes " " ++ b in
    rw (counted_again 4096 x a w.in_range.variable (omega arith) refl, nogood_again nogood c pairs w.rising, reasons_again reasons (codes "\n") w.in_range.reasons refl refl) refl

-- the second form's line
rule_text : (rule : ℕ) → rest_text None [] (Rule rule ∷ []) ≡ codes "- [] <- c" ++ (decimal (rule + 1) ++ codes "\n")
rule_text rule = ap (λ (x : List ℕ). codes "- [] <- c" ++ (x ++ codes "\n")) (append-nil (decimal (rule + 1)))

-- a step without a variable that was read
rule_takes : (bytes : List ℕ) (s : Step × List ℕ) → rule_front bytes ≡ Some s → TookRest (codes "- [] <- c" ++ bytes) s
unfolding rule_front
rule_takes bytes s h =
    bind_then (counted_at 262144 bytes) (λ n. after (codes "\n") n.1 >>= λ rest. Some (record { variable = None; nogood = []; reasons = Rule n.0 ∷ [] }, rest)) s h (λ n rn h1.
    bind_then (after (codes "\n") n.1) (λ rest. Some (record { variable = None; nogood = []; reasons = Rule n.0 ∷ [] }, rest)) s h1 (λ rest re h2.
    let made : Step = record { variable = None; nogood = []; reasons = Rule n.0 ∷ [] } in
    let t = counted_takes 262144 bytes n.0 n.1 rn in
    let parts : codes "- [] <- c" ++ bytes ≡ rest_text None [] (Rule n.0 ∷ []) ++ rest = rw (t.parts, after_takes (codes "\n") n.1 rest re) (ap (λ (x : List ℕ). codes "- [] <- c" ++ x) (sym (append_assoc (decimal (n.0 + 1)) (codes "\n") rest)) ∙ ap (λ (x : List ℕ). x ++ rest) (sym (rule_text n.0))) in
    let fits : IsWritable made = record {
      in_range = record { variable = tt; nowhere = record { nogood = refl; rule = n.0; reasons = refl }; pairs = tt; reasons = (t.holds, tt) };
      rising = λ k lt. absurd (omega arith);
      values = tt;
    } in
    let first : TookRest (codes "- [] <- c" ++ bytes) (made, rest) = record { parts = parts; holds = fits } in
    subst (λ (x : Step × List ℕ). TookRest (codes "- [] <- c" ++ bytes) x) (some_is (made, rest) s h2) first))

-- the line of a step without a variable is read again
rule_again : (rule : ℕ) → rule < 262144 → rule_front (decimal (rule + 1) ++ codes "\n") ≡ Some (record { variable = None; nogood = []; reasons = Rule rule ∷ [] }, [])
unfolding rule_front after
rule_again rule h = rw (counted_again 262144 rule (codes "\n") h (omega arith) refl) refl

-- a step of either form that was read
form_takes : (a : List ℕ) (o : Option (List ℕ)) (s : Step × List ℕ) → after (codes "- [] <- c") a ≡ o → form_front a o ≡ Some s → TookRest a s
form_takes a None s r h = variable_takes a s h
form_takes a (Some bytes) s r h = rw (after_takes (codes "- [] <- c") a bytes r) (rule_takes bytes s h)

-- a line with a variable has not the second form
variable_form : (x : ℕ) (nogood : List Pair) (reasons : List Reason) → after (codes "- [] <- c") (rest_text (Some x) nogood reasons) ≡ None
unfolding after
variable_form x nogood reasons = refl

-- the rest of the line of either form is read again
form_again : (variable : Option ℕ) (nogood : List Pair) (reasons : List Reason) → IsWritable (record { variable = variable; nogood = nogood; reasons = reasons })
    → form_front (rest_text variable nogood reasons) (after (codes "- [] <- c") (rest_text variable nogood reasons)) ≡ Some (record { variable = variable; nogood = nogood; reasons = reasons }, [])
form_again (Some x) nogood reasons w = rw (variable_form x nogood reasons) (variable_again x nogood reasons w)
form_again None nogood reasons w =
    let only = w.in_range.nowhere in
    let within : AllByRecursion IsReasonInRange (Rule only.rule ∷ []) = rw only.reasons at w.in_range.reasons in
    let bytes = decimal (only.rule + 1) ++ codes "\n" in
    let one : form_front (rest_text None [] (Rule only.rule ∷ [])) (after (codes "- [] <- c") (rest_text None [] (Rule only.rule ∷ []))) ≡ Some (record { variable = None; nogood = []; reasons = Rule only.rule ∷ [] }, [])
    = ap (λ (t : List ℕ). form_front t (after (codes "- [] <- c") t)) (rule_text only.rule) ∙ ap (form_front (codes "- [] <- c" ++ bytes)) (after_again (codes "- [] <- c") bytes) ∙ rule_again only.rule within.0 in
    rw (only.nogood, only.reasons) one

-- a step whose line is in front, with this number
pub record IsStepFront (number : ℕ) (bytes : List ℕ) (s : Step × List ℕ) : Type 0 where
  pub parts : bytes ≡ step_line number s.0 ++ s.1
  pub writable : IsWritable s.0
  pub numbered : IsStepNumber number

-- bytes that give a step begin with its line
pub front_takes : (number : ℕ) (bytes : List ℕ) (s : Step × List ℕ) → step_front number bytes ≡ Some s → IsStepFront number bytes s
unfolding step_front
front_takes number bytes s h =
    bind_then (step_number_at bytes) (λ n. after (codes " ") n.1 >>= λ a. cond (eqb n.0 number) (form_front a (after (codes "- [] <- c") a)) None) s h (λ n rn h1.
    bind_then (after (codes " ") n.1) (λ a. cond (eqb n.0 number) (form_front a (after (codes "- [] <- c") a)) None) s h1 (λ a ra h2.
    elim (chosen (eqb n.0 number) (form_front a (after (codes "- [] <- c") a)) None (Some s) h2) [
      | inl e ↦
          let step = s.0 in
          let t = step_number_takes bytes n.0 n.1 rn in
          let same : n.0 ≡ number = eqb-true _ _ e.0 in
          let u = form_takes a (after (codes "- [] <- c") a) s refl e.1 in
          let parts : bytes ≡ (decimal n.0 ++ (codes " " ++ rest_text step.variable step.nogood step.reasons)) ++ s.1 = rw (t.parts, after_takes (codes " ") n.1 a ra, u.parts) (simp append_assoc) in
          record { parts = parts ∙ ap (λ (k : ℕ). (decimal k ++ (codes " " ++ rest_text step.variable step.nogood step.reasons)) ++ s.1) same ∙ sym (ap (λ (x : List ℕ). x ++ s.1) (step_line_is number step)); writable = u.holds; numbered = subst IsStepNumber same t.holds }
      | inr e ↦ absurd (let g = e.1 in cc)
    ]))

-- a line that gives a step is its line
pub step_takes : (number : ℕ) (line : List ℕ) (step : Step) → step_of number line ≡ Some step → IsStepLine number line step
unfolding step_of
step_takes number line step h =
    bind_then (step_front number line) alone step h (λ s rs e.
    let t = front_takes number line s rs in
    let is = alone_is s step e in
    subst (λ (x : Step). IsStepLine number line x) is.0 (record { same = t.parts ∙ ap (λ (x : List ℕ). step_line number s.0 ++ x) is.1 ∙ append-nil (step_line number s.0); writable = t.writable; numbered = t.numbered }))

-- a step could not be read
abbrev pub error : LineError → Result Step LineError
error e = Err e

-- a whole line that is read is a step's
pub whole_takes : (number : ℕ) (line : List ℕ) (step : Step) (rest : List ℕ) → step_front number line ≡ Some (step, rest) → rest ≡ [] → IsStepLine number line step
unfolding step_of
whole_takes number line step rest h none = step_takes number line step (rw h (ap (λ (x : List ℕ). alone (step, x)) none))

-- a step's line gives it again, and nothing stands after it
pub front_again : (number : ℕ) (step : Step) → IsStepNumber number → IsWritable step → step_front number (step_line number step) ≡ Some (step, [])
unfolding step_front
front_again number step numbered w =
    let rest = rest_text step.variable step.nogood step.reasons in
    let e : eqb number number ≡ true = eq-eqb number number refl in
    ap (step_front number) (step_line_is number step) ∙ rw (step_number_again number (codes " " ++ rest) numbered refl, after_again (codes " ") rest, e) (form_again step.variable step.nogood step.reasons w)

pub step_again : (number : ℕ) (step : Step) → IsStepNumber number → IsWritable step → step_of number (step_line number step) ≡ Some step
unfolding step_of
step_again number step numbered w = ap (λ (o : Option (Step × List ℕ)). o >>= alone) (front_again number step numbered w)

-- a line that gives no step is no step's
pub step_none : (number : ℕ) (line : List ℕ) (step : Step) → step_of number line ≡ None → IsStepLine number line step → ⊥
step_none number line step none is =
    let again : step_of number line ≡ Some step = ap (step_of number) is.same ∙ step_again number step is.numbered is.writable in
    cc

-- nor is one that gives a step and has more behind it
pub some_left : (number : ℕ) (line : List ℕ) (read : Step) (rest : List ℕ) → step_front number line ≡ Some (read, rest) → 0 < length rest → (step : Step) → IsStepLine number line step → ⊥
unfolding step_of
some_left number line read [] h some step is = omega (arith, some)
some_left number line read (b ∷ rest) h some step is = step_none number line step (rw h refl) is

-- nor one of which reading fails
pub failed : (number : ℕ) (line : List ℕ) (e : LineError) → Fails e (step_front number line) → IsErrOf (error e) Bad → (step : Step) → IsStepLine number line step → ⊥
unfolding step_of
failed number line Bad h is step there = step_none number line step (rw h refl) there
failed number line Memory h is step there = absurd cc

-- one line is of one step
pub one_step : (number : ℕ) (a b : Step) → IsStepNumber number → IsWritable a → IsWritable b → step_line number a ≡ step_line number b → a ≡ b
one_step number a b numbered wa wb e =
    some_is a b (sym (step_again number a numbered wa) ∙ ap (step_of number) e ∙ step_again number b numbered wb)
