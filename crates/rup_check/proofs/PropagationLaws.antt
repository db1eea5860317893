-- Laws of propagation.
use Rattle.std.proofs.Common.{◌≡◌, ℕ, ◌<◌, ◌≤◌, List, [], ◌∷◌, ◌⊎◌, inl, inr, Bool, true, false, length, map, take, get_or, ◌-◌, sym, refl, ap, ◌∙◌, subst, arith, zero, suc}
use Rattle.std.specs.List.{Contains}
use Rattle.std.proofs.lemmas.List.Elements.{Contains-append_cases, Contains-append_right, Contains-push_cases, Contains-get_or}
use Rattle.std.proofs.Math.Seq.{take-suc}
use Rattle.rup_check.specs.Propagation.{Forced, given, unit, IsClosed, IsConflict, Conflicts, HasProperty, IsGood, IsAccepted, known_before, Satisfies, SatisfiesAll, IsConsistent, IsTotalOn}

module _ {L : Type 0} (negate : L → L) (formula : List (List L)) (start : List L) where
  -- the least set lies in each closed set that holds the start
  pub least : (In : L → Type 0) → IsClosed negate formula In → ((x : L) → Contains start x → In x) → (x : L) → Forced negate formula start x → In x
  least In closed begins x (given h) = begins x h
  least In closed begins x (unit clause c m f) = closed clause x c m (λ y h n. least In closed begins (negate y) (f y h n))

  -- so its conflict is one of that set
  pub conflict_of_closed : (In : L → Type 0) → IsClosed negate formula In → ((x : L) → Contains start x → In x) → Conflicts negate formula start → IsConflict negate formula In
  conflict_of_closed In closed begins (inl (clause, c, f)) = inl (clause, c, λ y h. least In closed begins (negate y) (f y h))
  conflict_of_closed In closed begins (inr (x, h, n)) = inr (x, least In closed begins x h, least In closed begins (negate x) n)

  -- a set within the least set has its conflicts
  pub conflict_of_within : (In : L → Type 0) → ((x : L) → In x → Forced negate formula start x) → IsConflict negate formula In → Conflicts negate formula start
  conflict_of_within In within (inl (clause, c, f)) = inl (clause, c, λ y h. within (negate y) (f y h))
  conflict_of_within In within (inr (x, h, n)) = inr (x, within x h, within (negate x) n)

-- more clauses and a longer start force no less
module _ {L : Type 0} (negate : L → L) (formula formula' : List (List L)) (start start' : List L) (more : (c : List L) → Contains formula c → Contains formula' c) (longer : (x : L) → Contains start x → Contains start' x) where
  pub forced_grow : (x : L) → Forced negate formula start x → Forced negate formula' start' x
  forced_grow = least negate formula start (Forced negate formula' start') (λ clause x c m f. unit clause (more clause c) m f) (λ x h. given (longer x h))

  pub conflicts_grow : Conflicts negate formula start → Conflicts negate formula' start'
  conflicts_grow (inl (clause, c, f)) = inl (clause, more clause c, λ y h. forced_grow (negate y) (f y h))
  conflicts_grow (inr (x, h, n)) = inr (x, forced_grow x h, forced_grow (negate x) n)

-- in this list, or an end of it
pub contains_cons : {X : Type 0} (x : X) (xs : List X) (y : X) → Contains xs y → Contains (x ∷ xs) y
contains_cons x xs y (k, l, e) = (suc k, omega arith, e)

pub contains_head : {X : Type 0} (x : X) (xs : List X) → Contains (x ∷ xs) x
contains_head x xs = (0, omega arith, refl)

pub contains_nil : {X : Type 0} (x : X) → Contains [] x → ⊥
contains_nil x (k, l, e) = omega arith

pub contains_cases : {X : Type 0} (x : X) (xs : List X) (y : X) → Contains (x ∷ xs) y → (x ≡ y) ⊎ Contains xs y
contains_cases x xs y (zero, l, e) = inl e
contains_cases x xs y (suc k, l, e) = inr (k, omega arith, e)

-- what a map of a list contains
pub contains_map : {X Y : Type 0} (f : X → Y) (xs : List X) (y : Y) → Contains (map f xs) y → (x : X) × Contains xs x × (f x ≡ y)
contains_map f [] y h = absurd (contains_nil y h)
contains_map f (x ∷ xs) y h =
    (elim (contains_cases (f x) (map f xs) y h) [
      | inl e ↦ (x, contains_head x xs, e)
      | inr t ↦ let r = contains_map f xs y t in (r.0, contains_cons x xs r.0 r.1, r.2)
    ])

pub contains_mapped : {X Y : Type 0} (f : X → Y) (xs : List X) (x : X) → Contains xs x → Contains (map f xs) (f x)
contains_mapped f [] x h = absurd (contains_nil x h)
contains_mapped f (z ∷ xs) x h =
    (elim (contains_cases z xs x h) [
      | inl e ↦ subst (λ w. Contains (map f (z ∷ xs)) (f w)) e (contains_head (f z) (map f xs))
      | inr t ↦ contains_cons (f z) (map f xs) (f x) (contains_mapped f xs x t)
    ])

pub true_or_not : (b : Bool) → (b ≡ true) ⊎ (b ≡ true → ⊥)
true_or_not true = inl refl
true_or_not false = inr (λ h. cc)

satisfied_or_not : {L : Type 0} (holds : L → Bool) (clause : List L) → Satisfies holds clause ⊎ ((x : L) → Contains clause x → holds x ≡ true → ⊥)
satisfied_or_not holds [] = inr (λ x h t. contains_nil x h)
satisfied_or_not holds (z ∷ clause) =
    (elim (true_or_not (holds z)) [
      | inl t ↦ inl (z, contains_head z clause, t)
      | inr n ↦ (elim (satisfied_or_not holds clause) [
        | inl s ↦ inl (s.0, contains_cons z clause s.0 s.1, s.2)
        | inr none ↦ inr (λ x h t. (elim (contains_cases z clause x h) [
          | inl e ↦ n (ap holds e ∙ t)
          | inr later ↦ none x later t
        ]))
      ])
    ])

module _ {L : Type 0} (negate : L → L) (holds : L → Bool) (consistent : IsConsistent negate holds) where
  -- the true literals are closed under propagation
  true_closed : (formula : List (List L)) → SatisfiesAll holds formula → IsClosed negate formula (λ y. holds y ≡ true)
  true_closed formula sat clause x c m f =
      (elim (true_or_not (holds x)) [
        | inl t ↦ t
        | inr n ↦ let s = sat clause c in absurd (consistent s.0 s.2 (f s.0 s.1 (λ e. n (ap holds (sym e) ∙ s.2))))
      ])

  -- and have no conflict
  true_unconflicting : (formula : List (List L)) → SatisfiesAll holds formula → IsConflict negate formula (λ y. holds y ≡ true) → ⊥
  true_unconflicting formula sat (inl (clause, c, f)) = let s = sat clause c in consistent s.0 s.2 (f s.0 s.1)
  true_unconflicting formula sat (inr (x, h, n)) = consistent x h n

  -- a clause with the property follows
  pub property_follows : (formula : List (List L)) (clause : List L) → SatisfiesAll holds formula → ((x : L) → Contains clause x → (holds x ≡ true) ⊎ (holds (negate x) ≡ true)) → HasProperty negate formula clause → Satisfies holds clause
  property_follows formula clause sat total property =
      (elim (satisfied_or_not holds clause) [
        | inl s ↦ s
        | inr none ↦ absurd (true_unconflicting formula sat (conflict_of_closed negate formula (map negate clause) (λ y. holds y ≡ true) (true_closed formula sat) (λ y h. let r = contains_map negate clause y h in subst (λ w. holds w ≡ true) r.2 (elim (total r.0 r.1) [ inl t ↦ absurd (none r.0 r.1 t) | inr t ↦ t ])) property))
      ])

  -- so the formula and each front of a good proof hold
  pub front_follows : (formula proof : List (List L)) → IsTotalOn negate holds proof → SatisfiesAll holds formula → (n : ℕ) → n ≤ length proof → ((k : ℕ) → k < n → IsGood negate formula proof k) → SatisfiesAll holds (known_before formula proof n)
  front_follows formula proof total sat zero l good clause c =
      (elim (Contains-append_cases formula (take 0 proof) clause c) [ inl h ↦ sat clause h | inr h ↦ absurd (contains_nil clause h) ])
  front_follows formula proof total sat (suc n) l good clause c =
      let before = front_follows formula proof total sat n (omega arith) (λ k h. good k (omega arith)) in
      let in' : n < length proof = omega arith in
      let last = property_follows (known_before formula proof n) (get_or proof n []) before (λ x h. total (get_or proof n []) x (Contains-get_or proof n [] in') h) (good n (omega arith)) in
      let e = take-suc proof n [] in' in
      (elim (Contains-append_cases formula (take (suc n) proof) clause c) [
        | inl h ↦ sat clause h
        | inr h ↦ (elim (Contains-push_cases (take n proof) (get_or proof n []) clause (subst (λ w. Contains w clause) e h)) [
          | inl t ↦ before clause (Contains-append_right formula (take n proof) clause t)
          | inr t ↦ subst (λ w. Satisfies holds w) t last
        ])
      ])

-- an accepted proof's formula has no satisfying assignment
pub accepted_refutes : {L : Type 0} (negate : L → L) (formula proof : List (List L)) → IsAccepted negate formula proof → (holds : L → Bool) → IsConsistent negate holds → IsTotalOn negate holds proof → SatisfiesAll holds formula → ⊥
accepted_refutes negate formula proof (good, ends) holds consistent total sat =
    let positive : 0 < length proof = ends.0 in
    let n = length proof - 1 in
    let in' : n < length proof = omega arith in
    let before = front_follows negate holds consistent formula proof total sat n (omega arith) (λ k h. good k (omega arith)) in
    let last = property_follows negate holds consistent (known_before formula proof n) (get_or proof n []) before (λ x h. total (get_or proof n []) x (Contains-get_or proof n [] in') h) (good n in') in
    contains_nil last.0 (subst (λ w. Contains w last.0) ends.1 last.1)
