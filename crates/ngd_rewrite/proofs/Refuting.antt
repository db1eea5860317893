-- The trimmed steps are a refutation.
use Rattle.std.proofs.Common.{◌≡◌, ℕ, zero, suc, ◌+◌, ◌-◌, ◌<◌, ◌≤◌, ◌==◌, Bool, true, false, cond, List, [], ◌∷◌, ◌++◌, length, map, take, slice_get, Option, Some, None, MatchOption, ℤ, inl, inr, refl, sym, ap, ◌∙◌, subst, arith, ◌↔◌}
use Rattle.std.specs.Prelude.{IsSomeAnd}
use Rattle.std.specs.List.{AllZip}
use Rattle.std.proofs.lemmas.Bool.{eqb-true, eq-eqb}
use Rattle.std.proofs.lemmas.List.{length-map, take_all}
use Rattle.dcsp_common.proofs.Items.{get_front}
use Rattle.dcsp_defs.specs.declared.Reason.{Reason}
use Rattle.dcsp_defs.specs.declared.Reason.TheVariants.{Rule, Earlier}
use Rattle.dcsp_defs.specs.declared.Step.{Step}
use Rattle.dcsp_defs.specs.Csp.{Csp, Nogood, given_with, domain}
use Rattle.dcsp_defs.specs.Derivation.{step_at, IsReason, IsAgreeingStep, IsRightAt, IsRightNowhere, IsRight, IsDerivation, EndsEmpty, IsRefutation}
use Rattle.dcsp_defs.proofs.Lists.{get-take, get-last, or_cases, or_left, or_right}
use Rattle.dcsp_defs.proofs.Derivations.{no_steps, derivation_push}
use Rattle.ngd_check.proofs.Parts.{within}
use Rattle.ngd_check.proofs.Once.{compared}
use Rattle.ngd_rewrite.specs.Needed.{cites, IsNeeded, is_last, is_cited_by, renumbered_reason, renumbered, chosen, count_to, IsTrimmed}
use Rattle.ngd_rewrite.specs.Marks.{is_marked, IsNumber, CiteBack}
use Rattle.ngd_rewrite.proofs.Marking.{numbered_at}
use Rattle.ngd_rewrite.proofs.Trimming.{length_take, chosen_count, trimmed_next, no_more}

-- a step that reasons cite agrees with the values for one of the values
zip_cites : (p : Csp) (earlier : List Step) (pairs : Nogood) (x : ℕ) (vs : List ℤ) (rs : List Reason) (n : ℕ) → AllZip (IsReason p earlier pairs x) vs rs → cites rs n ≡ true → (v : ℤ) × IsAgreeingStep earlier (given_with x v pairs) n
zip_cites p earlier pairs x [] [] n h c = cc
zip_cites p earlier pairs x [] (r ∷ rs) n h c = absurd h
zip_cites p earlier pairs x (v ∷ vs) [] n h c = absurd h
zip_cites p earlier pairs x (v ∷ vs) (Rule r ∷ rs) n h c = zip_cites p earlier pairs x vs rs n h.1 c
zip_cites p earlier pairs x (v ∷ vs) (Earlier m ∷ rs) n h c = elim (or_cases (n == m) (cites rs n) c) [
  | inl e ↦ (v, subst (λ (k : ℕ). IsAgreeingStep earlier (given_with x v pairs) k) (sym (eqb-true n m e)) h.0)
  | inr more ↦ zip_cites p earlier pairs x vs rs n h.1 more
]

number_before : (steps : List Step) (place n : ℕ) (s : Step) → step_at (take place steps) n ≡ Some s → IsNumber place n
number_before steps place zero s h = cc
number_before steps place (suc k) s h = let r = get-take steps place k s h in record { from_one = omega arith; within = omega (arith, r.0) }

whole_before : (steps : List Step) (place n : ℕ) (s : Step) → step_at (take place steps) n ≡ Some s → step_at steps n ≡ Some s
whole_before steps place zero s h = cc
whole_before steps place (suc k) s h = (get-take steps place k s h).1

-- the steps of a derivation cite steps before them
pub cites_back : (p : Csp) (steps : List Step) → IsDerivation p steps → CiteBack steps
cites_back p steps h = λ place s there n c. by_variable place s n c s.variable (h place s there)
  where
    by_variable : (place : ℕ) (s : Step) (n : ℕ) → cites s.reasons n ≡ true → (o : Option ℕ) → MatchOption o (IsRightNowhere p s) (λ x. IsRightAt p (take place steps) x s) → IsNumber place n
    by_variable place s n c None r = absurd (let t : cites (Rule r.number ∷ []) n ≡ true = subst (λ (rs : List Reason). cites rs n ≡ true) r.reasons c in cc)
    by_variable place s n c (Some x) r =
        let z = zip_cites p (take place steps) s.nogood x (domain p x) s.reasons n r.reasons c in
        number_before steps place n z.1.0 z.1.1

module _ (p : Csp) (f : ℕ → ℕ) (earlier trimmed : List Step) where
  zip_renumbered : (pairs : Nogood) (x : ℕ) (vs : List ℤ) (rs : List Reason) → ((n : ℕ) (t : Step) → cites rs n ≡ true → step_at earlier n ≡ Some t → step_at trimmed (f n) ≡ Some (renumbered f t)) → AllZip (IsReason p earlier pairs x) vs rs → AllZip (IsReason p trimmed pairs x) vs (map (renumbered_reason f) rs)
  zip_renumbered pairs x [] [] kept h = tt
  zip_renumbered pairs x [] (r ∷ rs) kept h = absurd h
  zip_renumbered pairs x (v ∷ vs) [] kept h = absurd h
  zip_renumbered pairs x (v ∷ vs) (Rule r ∷ rs) kept h = (h.0, zip_renumbered pairs x vs rs kept h.1)
  zip_renumbered pairs x (v ∷ vs) (Earlier n ∷ rs) kept h = (
    (renumbered f h.0.0, kept n h.0.0 (or_left (n == n) (cites rs n) (equal n)) h.0.1, h.0.2),
    zip_renumbered pairs x vs rs (λ k t c. kept k t (or_right (k == n) (cites rs k) c)) h.1,
  )
    where
      equal : (n : ℕ) → (n == n) ≡ true
      equal n = eq-eqb n n refl

  -- a right step stays right where its citations are renumbered
  right_renumbered : (s : Step) → ((n : ℕ) (t : Step) → cites s.reasons n ≡ true → step_at earlier n ≡ Some t → step_at trimmed (f n) ≡ Some (renumbered f t)) → IsRight p earlier s → IsRight p trimmed (renumbered f s)
  right_renumbered s kept h = by_variable s.variable h
    where
      by_variable : (o : Option ℕ) → MatchOption o (IsRightNowhere p s) (λ x. IsRightAt p earlier x s) → MatchOption o (IsRightNowhere p (renumbered f s)) (λ x. IsRightAt p trimmed x (renumbered f s))
      by_variable None r = record { nogood = r.nogood; number = r.number; reasons = ap (map (renumbered_reason f)) r.reasons; alone = r.alone }
      by_variable (Some x) r = record {
        variable = r.variable;
        rising = r.rising;
        pairs = r.pairs;
        other = r.other;
        reasons = zip_renumbered s.nogood x (domain p x) s.reasons kept r.reasons;
      }

-- each place below the length has an item
pub at_place : {X : Type 0} (xs : List X) (k : ℕ) → k < length xs → (x : X) × (slice_get xs k ≡ Some x)
at_place [] k l = absurd (omega arith)
at_place (x ∷ xs) zero l = (x, refl)
at_place (x ∷ xs) (suc k) l = at_place xs k (omega arith)

at_left : (xs ys : List Step) (n : ℕ) (s : Step) → step_at xs n ≡ Some s → step_at (xs ++ ys) n ≡ Some s
at_left xs ys zero s h = cc
at_left xs ys (suc k) s h = get_front xs ys k s h

some_and : {X : Type 0} → (P : X → Type 0) (o : Option X) → IsSomeAnd o P → (x : X) × (o ≡ Some x) × P x
some_and P None h = absurd h
some_and P (Some x) h = (x, refl, h)

last_place : (xs : List Step) (n : ℕ) (s : Step) → step_at xs n ≡ Some s → slice_get xs (n - 1) ≡ Some s
last_place xs zero s h = cc
last_place xs (suc k) s h = let e : suc k - 1 ≡ k = omega arith in subst (λ (n : ℕ). slice_get xs n ≡ Some s) (sym e) h

module _ (p : Csp) (steps : List Step) (derivation : IsDerivation p steps) (needed : ℕ → Bool) (closed : (by n : ℕ) (s : Step) → needed by ≡ true → step_at steps by ≡ Some s → cites s.reasons n ≡ true → needed n ≡ true) where
  abbrev new : ℕ → ℕ
  new = count_to needed

  -- the trimmed ones of the first steps
  abbrev first : ℕ → List Step
  first j = map (renumbered new) (chosen needed 1 (take j steps))

  first_next : (j : ℕ) (s : Step) → slice_get steps j ≡ Some s → first (suc j) ≡ first j ++ cond (needed (suc j)) (renumbered new s ∷ []) []
  first_next j s there = sym (trimmed_next new needed steps j s (first j) (first j ++ cond (needed (suc j)) (renumbered new s ∷ []) []) (let l = within steps j s there in omega (arith, l)) there refl refl)

  first_length : (j : ℕ) → j ≤ length steps → length (first j) ≡ new j
  first_length j l = length-map (chosen needed 1 (take j steps)) (renumbered new) ∙ (chosen_count needed (take j steps) ∙ ap new (length_take steps j l))

  -- where a needed step stands among the trimmed ones
  first_has : (j : ℕ) → j ≤ length steps → (n : ℕ) (s : Step) → n ≤ j → needed n ≡ true → step_at steps n ≡ Some s → step_at (first j) (new n) ≡ Some (renumbered new s)
  first_has j l zero s m t at = cc
  first_has zero l (suc k) s m t at = absurd (omega arith)
  first_has (suc j) l (suc k) s m t at =
      let some = at_place steps j (omega arith) in
      let next = first_next j some.0 some.1 in
      elim (compared (suc k) (suc j)) [
        | inl less ↦ subst (λ (xs : List Step). step_at xs (new (suc k)) ≡ Some (renumbered new s)) (sym next) (at_left (first j) (cond (needed (suc j)) (renumbered new some.0 ∷ []) []) (new (suc k)) (renumbered new s) (first_has j (omega arith) (suc k) s (omega (arith, less)) t at))
        | inr r ↦ elim r [
          | inl e ↦
              let same : k ≡ j = omega (arith, e) in
              let both : Some some.0 ≡ Some s = sym some.1 ∙ (ap (slice_get steps) (sym same) ∙ at) in
              let step : some.0 ≡ s = cc in
              last_has j s (omega arith) (subst (λ (n : ℕ). needed (suc n) ≡ true) same t) (subst (λ (q : Step). first (suc j) ≡ first j ++ cond (needed (suc j)) (renumbered new q ∷ []) []) step next) (suc k) e
          | inr more ↦ absurd (omega (arith, more, m))
        ]
      ]
    where
      last_has : (j : ℕ) (s : Step) → j ≤ length steps → needed (suc j) ≡ true → first (suc j) ≡ first j ++ cond (needed (suc j)) (renumbered new s ∷ []) [] → (n : ℕ) → n ≡ suc j → step_at (first (suc j)) (new n) ≡ Some (renumbered new s)
      last_has j s l t next n e =
          let whole : first (suc j) ≡ first j ++ renumbered new s ∷ [] = next ∙ ap (λ b. first j ++ cond b (renumbered new s ∷ []) []) t in
          let count : new n ≡ suc (length (first j)) = ap new e ∙ (ap (λ b. new j + cond b 1 0) t ∙ omega (arith, first_length j l)) in
          ap (step_at (first (suc j))) count ∙ (ap (λ (xs : List Step). slice_get xs (length (first j))) whole ∙ get-last (first j) (renumbered new s))

  next_right : (j : ℕ) → j ≤ length steps → IsDerivation p (first j) → (s : Step) → slice_get steps j ≡ Some s → (b : Bool) → needed (suc j) ≡ b → IsDerivation p (first j ++ cond b (renumbered new s ∷ []) [])
  next_right j l h s there false e = subst (IsDerivation p) (sym (no_more (first j))) h
  next_right j l h s there true e = derivation_push p (first j) (renumbered new s) h (right_renumbered p new (take j steps) (first j) s (λ n t c at. first_has j l n t (number_before steps j n t at).within (closed (suc j) n s e there c) (whole_before steps j n t at)) (derivation j s there))

  first_right : (j : ℕ) → j ≤ length steps → IsDerivation p (first j)
  first_right zero l = no_steps p
  first_right (suc j) l =
      let some = at_place steps j (omega arith) in
      subst (IsDerivation p) (sym (first_next j some.0 some.1)) (next_right j (omega arith) (first_right j (omega arith)) some.0 some.1 (needed (suc j)) refl)

  -- all of the steps
  all_first : first (length steps) ≡ map (renumbered new) (chosen needed 1 steps)
  all_first = ap (λ (xs : List Step). map (renumbered new) (chosen needed 1 xs)) (take_all (length steps) steps (omega arith))

  pub trimmed_right : IsDerivation p (map (renumbered new) (chosen needed 1 steps))
  trimmed_right = subst (IsDerivation p) all_first (first_right (length steps) (omega arith))

  pub trimmed_ends : needed (length steps) ≡ true → EndsEmpty steps → EndsEmpty (map (renumbered new) (chosen needed 1 steps))
  trimmed_ends last ends =
      let end = some_and (λ (s : Step). s.nogood ≡ []) (slice_get steps (length steps - 1)) ends in
      let l = within steps (length steps - 1) end.0 end.1 in
      let at : step_at steps (length steps) ≡ Some end.0 = numbered_at steps (length steps) end.0 (omega (arith, l)) end.1 in
      let there = first_has (length steps) (omega arith) (length steps) end.0 (omega arith) last at in
      let count : new (length steps) ≡ length (first (length steps)) = sym (first_length (length steps) (omega arith)) in
      let here : slice_get (first (length steps)) (length (first (length steps)) - 1) ≡ Some (renumbered new end.0) = last_place (first (length steps)) (length (first (length steps))) (renumbered new end.0) (sym (ap (step_at (first (length steps))) count) ∙ there) in
      subst EndsEmpty all_first (subst (λ (o : Option Step). IsSomeAnd o (λ (s : Step). s.nogood ≡ [])) (sym here) end.2)

-- what the trimmed steps of a refutation are
pub trimmed_refutes : (p : Csp) (steps trimmed : List Step) → IsRefutation p steps → IsTrimmed steps trimmed → IsRefutation p trimmed
trimmed_refutes p steps trimmed h t =
    let closed : (by n : ℕ) (s : Step) → t.needed by ≡ true → step_at steps by ≡ Some s → cites s.reasons n ≡ true → t.needed n ≡ true = λ by n s marked at c. (t.exactly n).1 (is_cited_by by n s ((t.exactly by).0 marked) at c) in
    let last : t.needed (length steps) ≡ true = (t.exactly (length steps)).1 (is_last (length steps) refl) in
    subst (IsRefutation p) (sym t.same) (record {
      right = trimmed_right p steps h.right t.needed closed;
      ends = trimmed_ends p steps h.right t.needed closed last h.ends;
    })

pub is_trimmed : (d a b : List Step) (m n : List Bool) (t : List Step) → a ≡ d → b ≡ d → n ≡ m → ((k : ℕ) → (is_marked m k ≡ true) ↔ IsNeeded a k) → t ≡ map (renumbered (count_to (is_marked n))) (chosen (is_marked n) 1 b) → IsTrimmed d t
is_trimmed d a b m n t first second marks exactly same = record {
  needed = is_marked m;
  exactly = λ k. subst (λ (xs : List Step). (is_marked m k ≡ true) ↔ IsNeeded xs k) first (exactly k);
  same = same ∙ (ap (λ (xs : List Step). map (renumbered (count_to (is_marked n))) (chosen (is_marked n) 1 xs)) second ∙ ap (λ (bs : List Bool). map (renumbered (count_to (is_marked bs))) (chosen (is_marked bs) 1 d)) marks);
}
