-- Right steps by what numbers cite, and right steps after a list of steps.
use Rattle.std.proofs.Common.{◌≡◌, ℕ, List, [], ◌∷◌, ◌-◌, ◌<◌, ◌↔◌, zero, suc, slice_get, Bool, Option, Some, None, ℤ, refl, sym, ap, ◌∙◌, subst, arith, true, MatchOption}
use Rattle.std.specs.List.{AllZip}
use Rattle.std.specs.Option.{option_map}
use Rattle.dcsp_defs.specs.declared.nogood.Pair.{Pair}
use Rattle.dcsp_defs.specs.Words.{In}
use Rattle.dcsp_defs.specs.declared.Reason.{Reason}
use Rattle.dcsp_defs.specs.declared.Reason.TheVariants.{Rule, Earlier}
use Rattle.dcsp_defs.specs.declared.Step.{Step}
use Rattle.dcsp_defs.specs.Csp.{Csp, Nogood, PartialAssignment, agrees, given_with, domain}
use Rattle.dcsp_defs.specs.Derivation.{IsReason, IsKnownPair, IsRightAt, IsRightNowhere, IsRight}
use Rattle.ngd_check.specs.Citing.{Cited, AgreesWith, IsReasonCiting, IsRightAtCiting, IsRightCiting, nogood_at}

module _ {A B : Type 0} (R S : A → B → Type 0) (f : (a : A) (b : B) → R a b → S a b) where
  zip_each : (xs : List A) (ys : List B) → AllZip R xs ys → AllZip S xs ys
  zip_each [] [] h = tt
  zip_each [] (y ∷ ys) h = absurd h
  zip_each (x ∷ xs) [] h = absurd h
  zip_each (x ∷ xs) (y ∷ ys) h = (f x y h.0, zip_each xs ys h.1)

-- what one cites, the other cites alike
abbrev pub CitesAll : Cited → Cited → Type 0
CitesAll cited more = (number : ℕ) (nogood : Nogood) → cited number ≡ Some nogood → more number ≡ Some nogood

reason_more : (p : Csp) (cited more : Cited) → CitesAll cited more → (pairs : Nogood) (x : ℕ) (v : ℤ) (r : Reason) → IsReasonCiting p cited pairs x v r → IsReasonCiting p more pairs x v r
reason_more p cited more w pairs x v (Rule n) h = h
reason_more p cited more w pairs x v (Earlier n) h = (h.0, w n h.0 h.1, h.2)

-- a right step stays right where numbers cite more
pub right_more : (p : Csp) (cited more : Cited) → CitesAll cited more → (s : Step) → IsRightCiting p cited s → IsRightCiting p more s
right_more p cited more w s h = by_variable s.variable h
  where
    by_variable : (o : Option ℕ) → MatchOption o (IsRightNowhere p s) (λ x. IsRightAtCiting p cited x s) → MatchOption o (IsRightNowhere p s) (λ x. IsRightAtCiting p more x s)
    by_variable None h = h
    by_variable (Some x) h = record {
      variable = h.variable;
      rising = h.rising;
      pairs = h.pairs;
      other = h.other;
      reasons = zip_each (IsReasonCiting p cited s.nogood x) (IsReasonCiting p more s.nogood x) (reason_more p cited more w s.nogood x) (domain p x) s.reasons h.reasons;
    }

pub step_with : (o : Option Step) (nogood : Nogood) → option_map (λ (s : Step). s.nogood) o ≡ Some nogood → (s : Step) × (o ≡ Some s) × (s.nogood ≡ nogood)
step_with None nogood h = cc
step_with (Some s) nogood h = (s, refl, cc)

reason_to : (p : Csp) (earlier : List Step) (pairs : Nogood) (x : ℕ) (v : ℤ) (r : Reason) → IsReason p earlier pairs x v r → IsReasonCiting p (nogood_at earlier) pairs x v r
reason_to p earlier pairs x v (Rule n) h = h
reason_to p earlier pairs x v (Earlier n) h = (h.0.nogood, ap (option_map (λ (s : Step). s.nogood)) h.1, h.2)

reason_from : (p : Csp) (earlier : List Step) (pairs : Nogood) (x : ℕ) (v : ℤ) (r : Reason) → IsReasonCiting p (nogood_at earlier) pairs x v r → IsReason p earlier pairs x v r
reason_from p earlier pairs x v (Rule n) h = h
reason_from p earlier pairs x v (Earlier n) h =
    let s = step_with _ h.0 h.1 in
    (s.0, s.1, subst (λ (g : Nogood). agrees (given_with x v pairs) g ≡ true) (sym s.2) h.2)

-- a step that is right after earlier ones is right where numbers cite their nogoods
pub right_to : (p : Csp) (earlier : List Step) (s : Step) → IsRight p earlier s → IsRightCiting p (nogood_at earlier) s
right_to p earlier s h = by_variable s.variable h
  where
    by_variable : (o : Option ℕ) → MatchOption o (IsRightNowhere p s) (λ x. IsRightAt p earlier x s) → MatchOption o (IsRightNowhere p s) (λ x. IsRightAtCiting p (nogood_at earlier) x s)
    by_variable None h = h
    by_variable (Some x) h = record {
      variable = h.variable;
      rising = h.rising;
      pairs = h.pairs;
      other = h.other;
      reasons = zip_each (IsReason p earlier s.nogood x) (IsReasonCiting p (nogood_at earlier) s.nogood x) (reason_to p earlier s.nogood x) (domain p x) s.reasons h.reasons;
    }

pub right_from : (p : Csp) (earlier : List Step) (s : Step) → IsRightCiting p (nogood_at earlier) s → IsRight p earlier s
right_from p earlier s h = by_variable s.variable h
  where
    by_variable : (o : Option ℕ) → MatchOption o (IsRightNowhere p s) (λ x. IsRightAtCiting p (nogood_at earlier) x s) → MatchOption o (IsRightNowhere p s) (λ x. IsRightAt p earlier x s)
    by_variable None h = h
    by_variable (Some x) h = record {
      variable = h.variable;
      rising = h.rising;
      pairs = h.pairs;
      other = h.other;
      reasons = zip_each (IsReasonCiting p (nogood_at earlier) s.nogood x) (IsReason p earlier s.nogood x) (reason_from p earlier s.nogood x) (domain p x) s.reasons h.reasons;
    }

-- what a number cites agrees exactly if this is so of its nogood
pub agrees_with : (cited : Cited) (values : PartialAssignment) (number : ℕ) (nogood : Nogood) (b : Bool) → cited number ≡ Some nogood → b ≡ agrees values nogood → (b ≡ true) ↔ AgreesWith cited values number
agrees_with cited values number nogood b there same = (
  λ t. (nogood, there, sym same ∙ t),
  λ h.
      let both : Some nogood ≡ Some h.0 = sym there ∙ h.1 in
      let e : h.0 ≡ nogood = cc in
      same ∙ subst (λ (g : Nogood). agrees values g ≡ true) e h.2,
)

-- the nogood of a step of a list
pub nogood_of : (steps : List Step) (number : ℕ) (s : Step) → 0 < number → slice_get steps (number - 1) ≡ Some s → nogood_at steps number ≡ Some s.nogood
nogood_of steps zero s l h = absurd (omega arith)
nogood_of steps (suc k) s l h =
    let place : suc k - 1 ≡ k = omega arith in
    ap (option_map (λ (t : Step). t.nogood)) (subst (λ (n : ℕ). slice_get steps n ≡ Some s) place h)

-- the pairs of a right step are known
pub right_known : (p : Csp) (cited : Cited) (s : Step) → IsRightCiting p cited s → (y : Pair) → In y s.nogood → IsKnownPair p y
right_known p cited s h = by_variable s.variable h
  where
    by_variable : (o : Option ℕ) → MatchOption o (IsRightNowhere p s) (λ x. IsRightAtCiting p cited x s) → (y : Pair) → In y s.nogood → IsKnownPair p y
    by_variable None h y u = absurd (subst (λ (ps : Nogood). In y ps) h.nogood u)
    by_variable (Some x) h y u = h.pairs y u
