-- A right step can stand in a log.
use Rattle.std.proofs.Common.{◌≡◌, ℕ, zero, suc, ◌<◌, ◌≤◌, ◌^◌, List, [], ◌∷◌, length, Option, Some, None, ℤ, slice_get, refl, sym, subst, inl, inr, arith}
use Rattle.std.specs.Prelude.{IfSome, IfNone, MatchOption}
use Rattle.std.specs.List.{AllByRecursion, AllZip}
use Rattle.std.proofs.lemmas.List.{length-map}
use Rattle.dcsp_defs.specs.declared.nogood.Pair.{Pair}
use Rattle.dcsp_defs.specs.Words.{In}
use Rattle.dcsp_defs.specs.Csp.{Constraint, Nogood}
use Rattle.dcsp_defs.specs.declared.Reason.{Reason}
use Rattle.dcsp_defs.specs.declared.Reason.TheVariants.{Rule, Earlier}
use Rattle.dcsp_defs.specs.declared.Step.{Step}
use Rattle.dcsp_defs.specs.Derivation.{step_at, IsReason, IsRight, IsRightAt, IsRightNowhere, IsKnownPair}
use Rattle.dcsp_rule.specs.Problems.{Contents, csp_of, constraint_of}
use Rattle.dcsp_problem.specs.WellFormed.{IsProblem}
use Rattle.ngd_log.specs.StepText.{IsVariable, IsReasonInRange, IsInRange, IsRuleAlone}

within : {X : Type 0} → (xs : List X) (k : ℕ) (x : X) → slice_get xs k ≡ Some x → k < length xs
within [] zero x h = cc
within [] (suc k) x h = cc
within (y ∷ ys) zero x h = omega arith
within (y ∷ ys) (suc k) x h = let ih = within ys k x h in omega arith

-- the numbers of steps that were made
made : (steps : List Step) (k : ℕ) (s : Step) → step_at steps k ≡ Some s → (0 < k) × (k ≤ length steps)
made steps zero s h = cc
made steps (suc k) s h = let l = within steps k s h in (omega arith, omega arith)

module _ (p : Contents) (ok : IsProblem p) (steps : List Step) (few : length steps ≤ 2 ^ 62) where
  rule_in : (n : ℕ) (c : Constraint) → slice_get (csp_of p).constraints n ≡ Some c → n < 262144
  rule_in n c h =
      let l = within (csp_of p).constraints n c h in
      let e = length-map p.rules (constraint_of (length p.domains)) in
      let most = ok.few_rules in
      omega (arith, l, e, most)

  reason_in : (pairs : Nogood) (x : ℕ) (v : ℤ) (r : Reason) → IsReason (csp_of p) steps pairs x v r → IsReasonInRange r
  reason_in pairs x v (Rule n) h = rule_in n h.0 h.1
  reason_in pairs x v (Earlier n) h = let m = made steps n h.0 h.1 in record { positive = m.0; bounded = (let l = m.1 in omega arith) }

  reasons_in : (pairs : Nogood) (x : ℕ) (vs : List ℤ) (rs : List Reason) → AllZip (IsReason (csp_of p) steps pairs x) vs rs → AllByRecursion IsReasonInRange rs
  reasons_in pairs x [] [] h = tt
  reasons_in pairs x [] (r ∷ rs) h = absurd h
  reasons_in pairs x (v ∷ vs) [] h = absurd h
  reasons_in pairs x (v ∷ vs) (r ∷ rs) h = (reason_in pairs x v r h.0, reasons_in pairs x vs rs h.1)

  variable_in : (x : ℕ) → x < length p.domains → IsVariable x
  variable_in x l = let most = ok.few_variables in omega (arith, l, most)

  pairs_in : (pairs : Nogood) → ((y : Pair) → In y pairs → IsKnownPair (csp_of p) y) → AllByRecursion (λ (y : Pair). IsVariable y.var) pairs
  pairs_in [] h = tt
  pairs_in (y ∷ ys) h = (variable_in y.var (h y (inl refl)).variable, pairs_in ys (λ z u. h z (inr u)))

  nowhere_in : (s : Step) → s.variable ≡ None → IsRightNowhere (csp_of p) s → IsInRange s
  nowhere_in s e h =
      let alone : IsRuleAlone s = record { nogood = h.nogood; rule = h.number; reasons = h.reasons } in
      record {
        variable = subst (λ (o : Option ℕ). IfSome o IsVariable) (sym e) tt;
        nowhere = subst (λ (o : Option ℕ). IfNone o (IsRuleAlone s)) (sym e) alone;
        pairs = subst (AllByRecursion (λ (y : Pair). IsVariable y.var)) (sym h.nogood) tt;
        reasons = subst (AllByRecursion IsReasonInRange) (sym h.reasons) (rule_in h.number h.alone.constraint h.alone.there, tt);
      }

  at_in : (s : Step) (x : ℕ) → s.variable ≡ Some x → IsRightAt (csp_of p) steps x s → IsInRange s
  at_in s x e h = record {
    variable = subst (λ (o : Option ℕ). IfSome o IsVariable) (sym e) (variable_in x h.variable);
    nowhere = subst (λ (o : Option ℕ). IfNone o (IsRuleAlone s)) (sym e) tt;
    pairs = pairs_in s.nogood h.pairs;
    reasons = reasons_in s.nogood x _ s.reasons h.reasons;
  }

  pub right_in : (s : Step) → IsRight (csp_of p) steps s → IsInRange s
  right_in s h = by s.variable refl h
    where
      by : (o : Option ℕ) → s.variable ≡ o → MatchOption o (IsRightNowhere (csp_of p) s) (λ x. IsRightAt (csp_of p) steps x s) → IsInRange s
      by None e g = nowhere_in s e g
      by (Some x) e g = at_in s x e g
