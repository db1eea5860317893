-- A right step names variables and rules of the problem alone.
use Rattle.std.proofs.Common.{◌≡◌, ℕ, suc, ◌<◌, List, [], ◌∷◌, length, take, get_or, Option, Some, None, slice_get, refl, sym, ap, subst, inl, inr, arith, MatchOption}
use Rattle.std.specs.Prelude.{ℤ, All}
use Rattle.std.specs.List.{AllZip}
use Rattle.std.proofs.lemmas.List.{length-map}
use Rattle.std.proofs.lemmas.Option.{slice_get_within, get_or_from_slice_get}
use Rattle.dcsp_defs.specs.declared.nogood.Pair.{Pair}
use Rattle.dcsp_defs.specs.Words.{In}
use Rattle.dcsp_defs.specs.Csp.{Constraint, Nogood, domain}
use Rattle.dcsp_defs.specs.declared.Reason.{Reason}
use Rattle.dcsp_defs.specs.declared.Reason.TheVariants.{Rule, Earlier}
use Rattle.dcsp_defs.specs.declared.Step.{Step}
use Rattle.dcsp_defs.specs.Derivation.{IsReason, IsRight, IsRightAt, IsRightNowhere, IsDerivation}
use Rattle.dcsp_problem.proofs.RisingNumbers.{In-get_or}
use Rattle.dcsp_rule.specs.Problems.{Contents, csp_of, constraint_of}
use Rattle.line_cnf.proofs.Accepting.{some_at}
use Rattle.line_export.specs.Clauses.{IsReasonIn, IsAt, IsStepIn}

all_in : {X : Type 0} (P : X → Type 0) (xs : List X) → ((x : X) → In x xs → P x) → All P xs
all_in P xs h = λ k d l. h (get_or xs k d) (In-get_or xs k d l)

as_many : {X Y : Type 0} (P : X → Y → Type 0) (xs : List X) (ys : List Y) → AllZip P xs ys → length ys ≡ length xs
as_many P [] [] z = refl
as_many P [] (y ∷ ys) z = absurd z
as_many P (x ∷ xs) [] z = absurd z
as_many P (x ∷ xs) (y ∷ ys) z = ap suc (as_many P xs ys z.1)

module _ (p : Contents) where
  rule_in : (number : ℕ) (c : Constraint) → slice_get (csp_of p).constraints number ≡ Some c → number < length p.rules
  rule_in number c there = let l = slice_get_within (csp_of p).constraints number c there in let m = length-map p.rules (constraint_of (length p.domains)) in omega (arith, l, m)

  reason_in : (earlier : List Step) (pairs : Nogood) (x : ℕ) (vs : List ℤ) (rs : List Reason) → AllZip (IsReason (csp_of p) earlier pairs x) vs rs → (r : Reason) → In r rs → IsReasonIn p r
  reason_in earlier pairs x vs [] z r i = absurd i
  reason_in earlier pairs x [] (s ∷ rs) z r i = absurd z
  reason_in earlier pairs x (v ∷ vs) (s ∷ rs) z r (inr i) = reason_in earlier pairs x vs rs z.1 r i
  reason_in earlier pairs x (v ∷ vs) (Rule number ∷ rs) z r (inl e) = subst (IsReasonIn p) (sym e) (rule_in number z.0.0 z.0.1)
  reason_in earlier pairs x (v ∷ vs) (Earlier number ∷ rs) z r (inl e) = subst (IsReasonIn p) (sym e) tt

  right_in : (earlier : List Step) (s : Step) → IsRight (csp_of p) earlier s → IsStepIn p s
  right_in earlier s r = of s.variable refl r
    where
      of : (o : Option ℕ) → s.variable ≡ o → MatchOption o (IsRightNowhere (csp_of p) s) (λ x. IsRightAt (csp_of p) earlier x s) → IsStepIn p s
      of None e k = record {
        at = subst (IsAt p s) (sym e) tt;
        pairs = subst (λ (n : Nogood). All (λ (y : Pair). y.var < length p.domains) n) (sym k.nogood) (all_in (λ (y : Pair). y.var < length p.domains) [] (λ y i. absurd i));
        reasons = subst (λ (rs : List Reason). All (IsReasonIn p) rs) (sym k.reasons) (all_in (IsReasonIn p) (Rule k.number ∷ []) (λ r i. elim i [ inl same ↦ subst (IsReasonIn p) (sym same) (rule_in k.number k.alone.constraint k.alone.there) | inr none ↦ absurd none ]));
      }
      of (Some x) e k = record {
        at = subst (IsAt p s) (sym e) (k.variable, as_many (IsReason (csp_of p) earlier s.nogood x) (domain (csp_of p) x) s.reasons k.reasons);
        pairs = all_in (λ (y : Pair). y.var < length p.domains) s.nogood (λ y i. (k.pairs y i).variable);
        reasons = all_in (IsReasonIn p) s.reasons (reason_in earlier s.nogood x (domain (csp_of p) x) s.reasons k.reasons);
      }

  -- so do the steps of a derivation
  pub steps_in : (steps : List Step) → IsDerivation (csp_of p) steps → All (IsStepIn p) steps
  steps_in steps right = λ k d l. (let r = some_at steps k l in subst (IsStepIn p) (sym (get_or_from_slice_get steps k r.0 d r.1)) (right_in (take k steps) r.0 (right k r.0 r.1)))
