-- Right steps can be written.
use Rattle.std.proofs.Common.{◌≡◌, ℕ, zero, suc, ◌+◌, ◌^◌, ◌<◌, ◌≤◌, ℤ, List, [], ◌∷◌, length, take, Option, Some, None, slice_get, refl, ap, inl, inr, arith}
use Rattle.std.specs.Prelude.{FitsSigned}
use Rattle.std.specs.Int.{w64}
use Rattle.std.specs.List.{AllByRecursion, AllZip}
use Rattle.dcsp_defs.specs.declared.nogood.Pair.{Pair}
use Rattle.dcsp_defs.specs.Words.{In}
use Rattle.dcsp_defs.specs.Csp.{Csp, domain}
use Rattle.dcsp_defs.specs.declared.Reason.{Reason}
use Rattle.dcsp_defs.specs.declared.Reason.TheVariants.{Rule, Earlier}
use Rattle.dcsp_defs.specs.declared.Step.{Step}
use Rattle.dcsp_defs.specs.Derivation.{IsReason, IsRightAt, IsRightNowhere, IsRight}
use Rattle.ngd_log.specs.StepText.{IsVariable, IsReasonInRange, IsWritable}
use Rattle.ngd_check.specs.Logged.{IsSmall, DerivationsHaveLogs}
use Rattle.ngd_check.proofs.Lengths.{short_log}

-- a place of a list that holds something is within it
place_within : {X : Type 0} (xs : List X) (k : ℕ) (x : X) → slice_get xs k ≡ Some x → k < length xs
place_within [] k x e = absurd cc
place_within (y ∷ ys) zero x e = omega arith
place_within (y ∷ ys) (suc k) x e = let l = place_within ys k x e in omega arith

-- what holds at each place holds of each item
all_at : {X : Type 0} (P : X → Type 0) (xs : List X) → ((k : ℕ) (x : X) → slice_get xs k ≡ Some x → P x) → AllByRecursion P xs
all_at P [] each = tt
all_at P (x ∷ xs) each = (each 0 x refl, all_at P xs (λ k y e. each (suc k) y e))

all_in : {X : Type 0} (P : X → Type 0) (xs : List X) → ((x : X) → In x xs → P x) → AllByRecursion P xs
all_in P [] each = tt
all_in P (x ∷ xs) each = (each x (inl refl), all_in P xs (λ y h. each y (inr h)))

-- lists side by side are as long, and what follows for each item of the second
zip_length : {A B : Type 0} (R : A → B → Type 0) (xs : List A) (ys : List B) → AllZip R xs ys → length ys ≡ length xs
zip_length R [] [] h = refl
zip_length R [] (y ∷ ys) h = absurd h
zip_length R (x ∷ xs) [] h = absurd h
zip_length R (x ∷ xs) (y ∷ ys) h = ap suc (zip_length R xs ys h.1)

zip_each : {A B : Type 0} (R : A → B → Type 0) (P : B → Type 0) → ((x : A) (y : B) → R x y → P y) → (xs : List A) (ys : List B) → AllZip R xs ys → AllByRecursion P ys
zip_each R P each [] [] h = tt
zip_each R P each [] (y ∷ ys) h = absurd h
zip_each R P each (x ∷ xs) [] h = absurd h
zip_each R P each (x ∷ xs) (y ∷ ys) h = (each x y h.0, zip_each R P each xs ys h.1)

module _ (p : Csp) (small : IsSmall p) (earlier : List Step) (few : length earlier ≤ 2 ^ 40 + 2 ^ 32) where
  in_range : (pairs : List Pair) (x : ℕ) (v : ℤ) (r : Reason) → IsReason p earlier pairs x v r → IsReasonInRange r
  in_range pairs x v (Rule r) h = let l = place_within p.constraints r h.0 h.1 in let m = small.rules in omega arith
  in_range pairs x v (Earlier zero) h = absurd (let no = h.1 in cc)
  in_range pairs x v (Earlier (suc k)) h = let l = place_within earlier k h.0 h.1 in record { positive = omega arith; bounded = omega arith }

  at_variable : (x : ℕ) (nogood : List Pair) (reasons : List Reason) → let s : Step = record { variable = Some x; nogood = nogood; reasons = reasons } in IsRightAt p earlier x s → IsWritable s × (length reasons ≤ 65536)
  at_variable x nogood reasons right =
      let known : (y : Pair) → In y nogood → IsVariable y.var = λ y h. let l = (right.pairs y h).variable in let m = small.variables in omega arith in
      let fits : (y : Pair) → In y nogood → FitsSigned w64 y.value = λ y h. small.values y.var y.value (right.pairs y h).variable (right.pairs y h).value in (
        record {
          in_range = record {
            variable = let l = right.variable in let m = small.variables in omega arith;
            nowhere = tt;
            pairs = all_in (λ (y : Pair). IsVariable y.var) nogood known;
            reasons = zip_each (IsReason p earlier nogood x) IsReasonInRange (in_range nogood x) (domain p x) reasons right.reasons;
          };
          rising = right.rising;
          values = all_in (λ (y : Pair). FitsSigned w64 y.value) nogood fits;
        },
        let e = zip_length (IsReason p earlier nogood x) (domain p x) reasons right.reasons in let d = small.domains x right.variable in omega arith,
      )

  at_none : (nogood : List Pair) (reasons : List Reason) → let s : Step = record { variable = None; nogood = nogood; reasons = reasons } in IsRightNowhere p s → IsWritable s × (length reasons ≤ 65536)
  at_none nogood reasons right =
      let l = place_within p.constraints right.number right.alone.constraint right.alone.there in
      rw (right.nogood, right.reasons) (
        record {
          in_range = record {
            variable = tt;
            nowhere = record { nogood = refl; rule = right.number; reasons = refl };
            pairs = tt;
            reasons = (let m = small.rules in omega arith, tt);
          };
          rising = λ k lt. absurd (omega arith);
          values = tt;
        },
        omega arith,
      )

  by_form : (variable : Option ℕ) (nogood : List Pair) (reasons : List Reason) → let s : Step = record { variable = variable; nogood = nogood; reasons = reasons } in IsRight p earlier s → IsWritable s × (length reasons ≤ 65536)
  by_form None nogood reasons right = at_none nogood reasons right
  by_form (Some x) nogood reasons right = at_variable x nogood reasons right

  writable : (s : Step) → IsRight p earlier s → IsWritable s × (length s.reasons ≤ 65536)
  writable s right = let record { variable = variable; nogood = nogood; reasons = reasons } = s in by_form variable nogood reasons right

take_few : {X : Type 0} (k : ℕ) (xs : List X) → length (take k xs) ≤ length xs
take_few zero xs = omega arith
take_few (suc k) [] = omega arith
take_few (suc k) (x ∷ xs) = let l = take_few k xs in omega arith

split : (P Q : Step → Type 0) (steps : List Step) → AllByRecursion (λ s. P s × Q s) steps → AllByRecursion P steps
split P Q [] all = tt
split P Q (s ∷ steps) all = (all.0.0, split P Q steps all.1)

pub have_logs : (p : Csp) → DerivationsHaveLogs p
have_logs p small steps right few =
    let each : (k : ℕ) (s : Step) → slice_get steps k ≡ Some s → IsWritable s × (length s.reasons ≤ 65536) = λ k s e. writable p small (take k steps) (let l = take_few k steps in omega arith) s (right k s e) in
    let all = all_at (λ s. IsWritable s × (length s.reasons ≤ 65536)) steps each in
    record {
      log = record { writable = record { count = omega arith; each = split IsWritable (λ s. length s.reasons ≤ 65536) steps all }; same = refl };
      short = short_log steps few all;
    }
