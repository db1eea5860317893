-- Verdicts on places are verdicts on numbers.
use Rattle.std.proofs.Common.{◌≡◌, ℕ, List, [], ◌∷◌, ◌++◌, ◌⊎◌, inl, inr, ◌<◌, ◌≤◌, ◌+◌, ◌-◌, Bool, true, false, not, length, map, take, get_or, arith, sym, subst, ap, ◌∙◌, refl, zero, suc}
use Rattle.std.specs.Prelude.{ℤ, pos, negsuc, neg_ℤ}
use Rattle.std.specs.List.{Contains}
use Rattle.std.proofs.lemmas.List.{map-append, take-map, get_or-map, length-map}
use Rattle.std.proofs.lemmas.List.Elements.{Contains-append_cases, Contains-get_or}
use Rattle.rup_check.specs.Propagation.{Conflicts, IsGood, EndsEmpty, known_before, IsConsistent, IsTotalOn}
use Rattle.rup_check.specs.Literals.{is_true, IsUnsatisfiable}
use Rattle.rup_check.specs.Stored.{number_at, ArePlaces}
use Rattle.rup_check.specs.Assignments.{flipped}
use Rattle.rup_check.specs.Verdicts.{IsVerdict, IsFirstBad}
use Rattle.rup_check.specs.declared.check.Rup.{Rup}
use Rattle.rup_check.specs.declared.check.Rup.TheVariants as rup
use Rattle.rup_check.proofs.PropagationLaws.{accepted_refutes, contains_map, contains_nil, contains_cons, contains_head}
use Rattle.rup_check.proofs.NumberLaws.{number_flipped, number_apart, number_sign}
use Rattle.rup_check.proofs.TransferLaws.{renamed_conflict, original_conflict}

pub bad_verdict : (formula proof : List (List ℕ)) (n : ℕ) → IsFirstBad flipped formula proof n → IsVerdict flipped formula proof (rup.BadClause (n + 1))
bad_verdict formula proof n f = (omega arith, (let e : n ≡ n + 1 - 1 = omega arith in subst (λ m. IsFirstBad flipped formula proof m) e f))

-- the clauses in numbers
abbrev pub numbered : List (List ℕ) → List (List ℤ)
numbered clauses = map (map number_at) clauses

-- negating goes along with numbering
along : (clause : List ℕ) → ((x : ℕ) → Contains clause x → x ≤ 8191) → map number_at (map flipped clause) ≡ map neg_ℤ (map number_at clause)
along [] small = refl
along (x ∷ clause) small = ap (λ z. z ∷ map number_at (map flipped clause)) (number_flipped x (small x (contains_head x clause))) ∙ ap (λ z. neg_ℤ (number_at x) ∷ z) (along clause (λ y h. small y (contains_cons x clause y h)))

taken_places : (proof : List (List ℕ)) (n : ℕ) (clause : List ℕ) → Contains (take n proof) clause → Contains proof clause
taken_places [] n clause h = absurd (contains_nil clause (subst (λ w. Contains w clause) (take_nil n [] refl) h)) where
  take_nil : (n : ℕ) (xs : List (List ℕ)) → xs ≡ [] → take n xs ≡ []
  take_nil zero xs e = refl
  take_nil (suc n) [] e = refl
  take_nil (suc n) (x ∷ xs) e = absurd cc
taken_places (c ∷ proof) zero clause h = absurd (contains_nil clause h)
taken_places (c ∷ proof) (suc n) clause (zero, l, e) = (zero, omega arith, e)
taken_places (c ∷ proof) (suc n) clause (suc k, l, e) =
    let r = taken_places proof n clause (k, omega arith, e) in contains_cons c proof clause r

known_places : (formula proof : List (List ℕ)) (n : ℕ) → ArePlaces formula → ArePlaces proof → ArePlaces (known_before formula proof n)
known_places formula proof n f p clause x c m = (elim (Contains-append_cases formula (take n proof) clause c) [
  | inl h ↦ f clause x h m
  | inr h ↦ p clause x (taken_places proof n clause h) m
])

known_numbered : (formula proof : List (List ℕ)) (n : ℕ) → numbered (known_before formula proof n) ≡ known_before (numbered formula) (numbered proof) n
known_numbered formula proof n = map-append (map number_at) formula (take n proof) ∙ ap (λ z. numbered formula ++ z) (sym (take-map (map number_at) n proof))

module _ (formula proof : List (List ℕ)) (f : ArePlaces formula) (p : ArePlaces proof) (n : ℕ) (l : n < length proof) where
  clause_at : List ℕ
  clause_at = get_or proof n []

  clause_places : (x : ℕ) → Contains (get_or proof n []) x → x ≤ 8191
  clause_places x h = p (get_or proof n []) x (Contains-get_or proof n [] l) h

  start_places : (x : ℕ) → Contains (map flipped (get_or proof n [])) x → x ≤ 8191
  start_places x h = let r = contains_map flipped (get_or proof n []) x h in let e : flipped r.0 ≡ x = r.2 in omega arith

  start_numbered : map number_at (map flipped (get_or proof n [])) ≡ map neg_ℤ (get_or (numbered proof) n [])
  start_numbered = along (get_or proof n []) clause_places ∙ ap (map neg_ℤ) (sym (get_or-map (map number_at) proof n [] [] l))

  pub good_numbered : IsGood flipped formula proof n → IsGood neg_ℤ (numbered formula) (numbered proof) n
  good_numbered g = subst (λ z. Conflicts neg_ℤ z (map neg_ℤ (get_or (numbered proof) n []))) (known_numbered formula proof n)
      (subst (λ z. Conflicts neg_ℤ (numbered (known_before formula proof n)) z) start_numbered
      (renamed_conflict number_at (λ x. x ≤ 8191) flipped neg_ℤ number_apart number_flipped (λ x h. omega arith) (known_before formula proof n) (map flipped (get_or proof n [])) (known_places formula proof n f p) start_places g))

  pub good_of_numbers : IsGood neg_ℤ (numbered formula) (numbered proof) n → IsGood flipped formula proof n
  good_of_numbers g = original_conflict number_at (λ x. x ≤ 8191) flipped neg_ℤ number_apart number_flipped (λ x h. omega arith) (known_before formula proof n) (map flipped (get_or proof n [])) (known_places formula proof n f p) start_places
      (subst (λ z. Conflicts neg_ℤ (numbered (known_before formula proof n)) z) (sym start_numbered)
      (subst (λ z. Conflicts neg_ℤ z (map neg_ℤ (get_or (numbered proof) n []))) (sym (known_numbered formula proof n)) g))

nil_of_map : (clause : List ℕ) → map number_at clause ≡ [] → clause ≡ []
nil_of_map [] e = refl
nil_of_map (x ∷ clause) e = absurd cc

module _ (proof : List (List ℕ)) where
  count : length (numbered proof) ≡ length proof
  count = length-map proof (map number_at)

  last_numbered : 0 < length proof → get_or (numbered proof) (length (numbered proof) - 1) [] ≡ map number_at (get_or proof (length proof - 1) [])
  last_numbered l = ap (λ k. get_or (numbered proof) (k - 1) []) count ∙ get_or-map (map number_at) proof (length proof - 1) [] [] (omega arith)

  ends_numbered : EndsEmpty proof → EndsEmpty (numbered proof)
  ends_numbered (l, e) = (omega (arith, count), last_numbered l ∙ ap (map number_at) e)

  ends_of_numbers : EndsEmpty (numbered proof) → EndsEmpty proof
  ends_of_numbers (l, e) = let m : 0 < length proof = omega (arith, count) in (m, nil_of_map (get_or proof (length proof - 1) []) (sym (last_numbered m) ∙ e))

module _ (formula proof : List (List ℕ)) (f : ArePlaces formula) (p : ArePlaces proof) where
  all_numbered : ((k : ℕ) → k < length proof → IsGood flipped formula proof k) → (k : ℕ) → k < length (numbered proof) → IsGood neg_ℤ (numbered formula) (numbered proof) k
  all_numbered good k l = let m : k < length proof = omega (arith, count proof) in good_numbered formula proof f p k m (good k m)

  -- the answer on places says the same of the numbers
  pub verdict_numbered : (r : Rup) → IsVerdict flipped formula proof r → IsVerdict neg_ℤ (numbered formula) (numbered proof) r
  verdict_numbered rup.Verified (good, ends) = (all_numbered good, ends_numbered proof ends)
  verdict_numbered (rup.BadClause number) (some, first) = (
    some,
    (let l : number - 1 < length proof = first.in_range in record {
      in_range = omega (arith, count proof);
      bad = λ g. first.bad (good_of_numbers formula proof f p (number - 1) l g);
      before = λ k m. (let i : k < length proof = omega arith in good_numbered formula proof f p k i (first.before k m));
    }),
  )
  verdict_numbered rup.NotEmpty (good, ends) = (all_numbered good, λ e. ends (ends_of_numbers proof e))

-- a literal is not true beside its negation
pub true_alone : (truth : ℕ → Bool) → IsConsistent neg_ℤ (is_true truth)
true_alone truth (pos zero) h n = cc
true_alone truth (pos (suc n)) h k = not_both (truth (suc n)) h k where
  not_both : (b : Bool) → b ≡ true → not b ≡ true → ⊥
  not_both true h k = cc
  not_both false h k = cc
true_alone truth (negsuc n) h k = not_both (truth (suc n)) k h where
  not_both : (b : Bool) → b ≡ true → not b ≡ true → ⊥
  not_both true h k = cc
  not_both false h k = cc

pub one_true : (b : Bool) → (b ≡ true) ⊎ (not b ≡ true)
one_true true = inl refl
one_true false = inr refl

-- of a literal and its negation one is true
pub one_of : (truth : ℕ → Bool) (z : ℤ) → (z ≡ pos 0 → ⊥) → (is_true truth z ≡ true) ⊎ (is_true truth (neg_ℤ z) ≡ true)
one_of truth (pos zero) n = absurd (n refl)
one_of truth (pos (suc n)) k = one_true (truth (suc n))
one_of truth (negsuc n) k = (elim (one_true (truth (suc n))) [ inl t ↦ inr t | inr t ↦ inl t ])

total : (truth : ℕ → Bool) (proof : List (List ℕ)) → IsTotalOn neg_ℤ (is_true truth) (numbered proof)
total truth proof clause x c m =
    let q = contains_map (map number_at) proof clause c in
    let r = contains_map number_at q.0 x (subst (λ w. Contains w x) (sym q.2) m) in
    one_of truth x (λ e. number_sign r.0 (r.2 ∙ e))

-- the formula of an accepted proof has no model
pub verified_unsatisfiable : (formula proof : List (List ℕ)) → ArePlaces formula → ArePlaces proof → (r : Rup) → IsVerdict flipped formula proof r → r ≡ rup.Verified → IsUnsatisfiable (numbered formula)
verified_unsatisfiable formula proof f p r v e truth sat =
    let w = verdict_numbered formula proof f p r v in
    accepted_refutes neg_ℤ (numbered formula) (numbered proof) (subst (λ z. IsVerdict neg_ℤ (numbered formula) (numbered proof) z) e w) (is_true truth) (true_alone truth) (total truth proof) sat
