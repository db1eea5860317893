-- A proof of a formula has a verdict: propagation ends at a finite set, by which the property of each clause is decided.
use Rattle.std.proofs.Common.{◌≡◌, ◌≢◌, ℕ, zero, suc, ◌<◌, ◌+◌, ◌-◌, List, [], ◌∷◌, ◌++◌, ◌⊎◌, inl, inr, Bool, true, false, length, map, get_or, refl, sym, ◌∙◌, subst, arith}
use Rattle.std.specs.Prelude.{ℤ, neg_ℤ}
use Rattle.std.specs.List.{Contains}
use Rattle.std.specs.Ordering.{int_eq}
use Rattle.std.proofs.lemmas.Bool.{cases_eq, cases_lt}
use Rattle.std.proofs.lemmas.Bool.Decides.{Decides-int_eq}
use Rattle.std.proofs.lemmas.List.Elements.{Contains-append_left, Contains-append_right}
use Rattle.rup_check.specs.Propagation.{Forced, given, unit, IsClosed, IsFalsified, IsConflict, Conflicts, IsGood, EndsEmpty, known_before}
use Rattle.rup_check.specs.Verdicts.{IsVerdict, IsFirstBad}
use Rattle.rup_check.specs.declared.check.Rup.{Rup}
use Rattle.rup_check.specs.declared.check.Rup.TheVariants as rup
use Rattle.rup_check.proofs.PropagationLaws.{conflict_of_closed, conflict_of_within, contains_nil, contains_head, contains_cons, contains_cases}

-- it holds, or it does not
abbrev IsDecided : Type 0 → Type 0
IsDecided P = P ⊎ (P → ⊥)

-- ---- lists are searched

-- an item has the property, or none has it
some_or_none : {X : Type 0} (P : X → Type 0) → ((x : X) → IsDecided (P x)) → (xs : List X) → ((x : X) × Contains xs x × P x) ⊎ ((x : X) → Contains xs x → P x → ⊥)
some_or_none P decide [] = inr (λ x m p. contains_nil x m)
some_or_none {X} P decide (z ∷ xs) =
    (elim (decide z) [
      | inl p ↦ inl (z, contains_head z xs, p)
      | inr n ↦ (elim (some_or_none P decide xs) [
        | inl s ↦ inl (s.0, contains_cons z xs s.0 s.1, s.2)
        | inr none ↦ inr (λ x m p. (elim (contains_cases z xs x m) [
          | inl e ↦ n (subst (λ (w : X). P w) (sym e) p)
          | inr later ↦ none x later p
        ]))
      ])
    ])

-- whether an item has it is decided
some_decided : {X : Type 0} (P : X → Type 0) → ((x : X) → IsDecided (P x)) → (xs : List X) → IsDecided ((x : X) × Contains xs x × P x)
some_decided P decide xs = (elim (some_or_none P decide xs) [ inl s ↦ inl s | inr none ↦ inr (λ s. none s.0 s.1 s.2) ])

-- what is decided has a decided negation
not_decided : (P : Type 0) → IsDecided P → IsDecided (P → ⊥)
not_decided P (inl p) = inr (λ n. n p)
not_decided P (inr n) = inl n

-- whether each item has it is decided
all_decided : {X : Type 0} (P : X → Type 0) → ((x : X) → IsDecided (P x)) → (xs : List X) → IsDecided ((x : X) → Contains xs x → P x)
all_decided P decide xs =
    (elim (some_or_none (λ x. P x → ⊥) (λ x. not_decided (P x) (decide x)) xs) [
      | inl s ↦ inr (λ all. s.2 (all s.0 s.1))
      | inr none ↦ inl (λ x m. (elim (decide x) [ inl p ↦ p | inr n ↦ absurd (none x m n) ]))
    ])

-- a list without an item that it has: one shorter, with each other item
without : {X : Type 0} (xs : List X) (x : X) → Contains xs x → (ys : List X) × (length xs ≡ length ys + 1) × ((y : X) → Contains xs y → (x ≡ y) ⊎ Contains ys y)
without [] x m = absurd (contains_nil x m)
without {X} (z ∷ xs) x m =
    (elim (contains_cases z xs x m) [
      | inl e ↦ (xs, omega arith, λ y h. (elim (contains_cases z xs y h) [ inl f ↦ inl (sym e ∙ f) | inr later ↦ inr later ]))
      | inr t ↦ (let r = without xs x t in let count : length xs ≡ length r.0 + 1 = r.1 in (
        z ∷ r.0,
        omega (arith, count),
        λ y h. (elim (contains_cases z xs y h) [
          | inl f ↦ inr (subst (λ (w : X). Contains (z ∷ r.0) w) f (contains_head z r.0))
          | inr later ↦ (elim (r.2 y later) [ inl e ↦ inl e | inr other ↦ inr (contains_cons z r.0 y other) ])
        ]),
      ))
    ])

-- one list has each literal of the clauses
literals_of : {X : Type 0} (clauses : List (List X)) → (all : List X) × ((clause : List X) (x : X) → Contains clauses clause → Contains clause x → Contains all x)
literals_of [] = ([], λ clause x c m. absurd (contains_nil clause c))
literals_of {X} (first ∷ clauses) =
    let r = literals_of clauses in (
      first ++ r.0,
      λ clause x c m. (elim (contains_cases first clauses clause c) [
        | inl e ↦ Contains-append_left first r.0 x (subst (λ (w : List X). Contains w x) (sym e) m)
        | inr later ↦ Contains-append_right first r.0 x (r.1 clause x later m)
      ]),
    )

-- ---- propagation is decided

module _ {L : Type 0} (same : (x y : L) → IsDecided (x ≡ y)) where
  -- whether a list has a literal is decided
  contains_decided : (xs : List L) (x : L) → IsDecided (Contains xs x)
  contains_decided xs x =
      (elim (some_or_none (λ y. y ≡ x) (λ y. same y x) xs) [
        | inl s ↦ inl (subst (λ (w : L). Contains xs w) s.2 s.1)
        | inr none ↦ inr (λ m. none x m refl)
      ])

  module _ (negate : L → L) (formula : List (List L)) where
    -- each other literal of the clause has its negation among these
    abbrev AreOthersFalse : List L → List L → L → Type 0
    AreOthersFalse held clause x = (y : L) → Contains clause y → y ≢ x → Contains held (negate y)

    -- the literal is not held, and each other one of the clause is false
    abbrev IsNew : List L → List L → L → Type 0
    IsNew held clause x = (Contains held x → ⊥) × AreOthersFalse held clause x

    -- the clause forces a literal that is not held
    abbrev Adds : List L → List L → Type 0
    Adds held clause = (x : L) × Contains clause x × IsNew held clause x

    -- whether a literal is this one or false is decided
    other_decided : (held : List L) (x y : L) → IsDecided (y ≢ x → Contains held (negate y))
    other_decided held x y =
        (elim (contains_decided held (negate y)) [
          | inl h ↦ inl (λ n. h)
          | inr absent ↦ (elim (same y x) [ inl e ↦ inl (λ n. absurd (n e)) | inr n ↦ inr (λ h. absent (h n)) ])
        ])

    -- whether a literal is new is decided
    new_decided : (held clause : List L) (x : L) → IsDecided (IsNew held clause x)
    new_decided held clause x =
        (elim (contains_decided held x) [
          | inl h ↦ inr (λ p. p.0 h)
          | inr n ↦ (elim (all_decided (λ y. y ≢ x → Contains held (negate y)) (other_decided held x) clause) [
            | inl others ↦ inl (n, others)
            | inr m ↦ inr (λ p. m p.1)
          ])
        ])

    -- whether the clause adds a literal is decided
    adds_decided : (held clause : List L) → IsDecided (Adds held clause)
    adds_decided held clause = some_decided (IsNew held clause) (new_decided held clause) clause

    -- where no clause adds a literal the literals are closed
    nothing_added : (held : List L) → ((clause : List L) → Contains formula clause → Adds held clause → ⊥) → IsClosed negate formula (Contains held)
    nothing_added held none clause x c m others =
        (elim (contains_decided held x) [ inl h ↦ h | inr n ↦ absurd (none clause c (x, m, (n, others))) ])

    -- whether finitely many literals have a conflict is decided
    conflict_decided : (held : List L) → IsDecided (IsConflict negate formula (Contains held))
    conflict_decided held =
        (elim (some_or_none (IsFalsified negate (Contains held)) (all_decided (λ y. Contains held (negate y)) (λ y. contains_decided held (negate y))) formula) [
          | inl false_clause ↦ inl (inl false_clause)
          | inr no_clause ↦ (elim (some_or_none (λ x. Contains held (negate x)) (λ x. contains_decided held (negate x)) held) [
            | inl both ↦ inl (inr both)
            | inr no_literal ↦ inr (λ conflict. (elim conflict [ inl f ↦ no_clause f.0 f.1 f.2 | inr b ↦ no_literal b.0 b.1 b.2 ]))
          ])
        ])

    -- literals that are forced from the start, with the start among them
    record AreForced (start held : List L) : Type 0 where
      begins : (x : L) → Contains start x → Contains held x
      within : (x : L) → Contains held x → Forced negate formula start x

    -- each literal of the clauses is held or among what is left
    abbrev Covers : List L → List L → Type 0
    Covers held left = (clause : List L) (x : L) → Contains formula clause → Contains clause x → Contains held x ⊎ Contains left x

    -- such literals that are closed under propagation
    record HasReached (start : List L) : Type 0 where
      held : List L
      forced : AreForced start held
      closed : IsClosed negate formula (Contains held)

    -- a literal that the clause forces may be added
    forced_more : (start held clause : List L) (x : L) → Contains formula clause → Contains clause x → AreOthersFalse held clause x → AreForced start held → AreForced start (x ∷ held)
    forced_more start held clause x c m others f = record {
      begins = λ y h. contains_cons x held y (f.begins y h);
      within = λ y h. (elim (contains_cases x held y h) [
        | inl e ↦ subst (λ (w : L). Forced negate formula start w) e (unit clause c m (λ z k n. f.within (negate z) (others z k n)))
        | inr old ↦ f.within y old
      ]);
    }

    -- what is added need not be left
    covers_more : (held left rest : List L) (x : L) → ((y : L) → Contains left y → (x ≡ y) ⊎ Contains rest y) → Covers held left → Covers (x ∷ held) rest
    covers_more held left rest x others covers clause y c m =
        (elim (covers clause y c m) [
          | inl h ↦ inl (contains_cons x held y h)
          | inr l ↦ (elim (others y l) [
            | inl e ↦ inl (subst (λ (w : L). Contains (x ∷ held) w) e (contains_head x held))
            | inr later ↦ inr later
          ])
        ])

    -- literals are added until none is new: each was one of those that are left
    reached : (fuel : ℕ) (start held left : List L) → length left < fuel → AreForced start held → Covers held left → HasReached start
    reached zero start held left few f covers = absurd (omega arith)
    reached (suc fuel) start held left few f covers =
        (elim (some_or_none (Adds held) (adds_decided held) formula) [
          | inl (clause, c, (x, m, new)) ↦ (elim (covers clause x c m) [
            | inl h ↦ absurd (new.0 h)
            | inr l ↦ (let w = without left x l in let count : length left ≡ length w.0 + 1 = w.1 in reached fuel start (x ∷ held) w.0 (omega (arith, few, count)) (forced_more start held clause x c m new.1 f) (covers_more held left w.0 x w.2 covers))
          ])
          | inr none ↦ record { held = held; forced = f; closed = nothing_added held none }
        ])

    -- from each start such a set is reached
    reached_from : (start : List L) → HasReached start
    reached_from start =
        let all = literals_of formula in
        reached (suc (length all.0)) start start all.0 (omega arith) (record { begins = λ x h. h; within = λ x h. given h }) (λ clause x c m. inr (all.1 clause x c m))

    -- whether propagation has a conflict is decided
    conflicts_decided : (start : List L) → IsDecided (Conflicts negate formula start)
    conflicts_decided start =
        let r = reached_from start in
        (elim (conflict_decided r.held) [
          | inl conflict ↦ inl (conflict_of_within negate formula start (Contains r.held) r.forced.within conflict)
          | inr none ↦ inr (λ conflicts. none (conflict_of_closed negate formula start (Contains r.held) r.closed r.forced.begins conflicts))
        ])

-- ---- clauses of a proof

-- whether a clause of the proof has the property is decided
good_decided : {L : Type 0} → ((x y : L) → IsDecided (x ≡ y)) → (negate : L → L) (formula proof : List (List L)) (n : ℕ) → IsDecided (IsGood negate formula proof n)
good_decided same negate formula proof n = conflicts_decided same negate (known_before formula proof n) (map negate (get_or proof n []))

-- the first number that lacks the property, which is below the bound
record HasFirst (P : ℕ → Type 0) (bound : ℕ) : Type 0 where
  first : ℕ
  in_range : first < bound
  lacks : P first → ⊥
  before : (k : ℕ) → k < first → P k

-- a number below the bound is the first that lacks it, or none lacks it
first_or_none : (P : ℕ → Type 0) → ((n : ℕ) → IsDecided (P n)) → (bound : ℕ) → HasFirst P bound ⊎ ((k : ℕ) → k < bound → P k)
first_or_none P decide zero = inr (λ k l. absurd (omega arith))
first_or_none P decide (suc bound) =
    (elim (first_or_none P decide bound) [
      | inl f ↦ inl (record { first = f.first; in_range = let l = f.in_range in omega (arith, l); lacks = f.lacks; before = f.before })
      | inr all ↦ (elim (decide bound) [
        | inl p ↦ inr (λ k l. (elim (cases_eq k bound) [
          | inl e ↦ subst P (sym e) p
          | inr n ↦ all k (omega (arith, l, n))
        ]))
        | inr n ↦ inl (record { first = bound; in_range = omega arith; lacks = n; before = all })
      ])
    ])

-- whether a list is empty is decided
is_empty_decided : {X : Type 0} (xs : List X) → IsDecided (xs ≡ [])
is_empty_decided [] = inl refl
is_empty_decided (x ∷ xs) = inr (λ e. cc)

-- whether the proof ends with the empty clause is decided
ends_decided : {L : Type 0} (proof : List (List L)) → IsDecided (EndsEmpty proof)
ends_decided proof =
    (elim (cases_lt 0 (length proof)) [
      | inl some ↦ (elim (is_empty_decided (get_or proof (length proof - 1) [])) [
        | inl e ↦ inl (some, e)
        | inr n ↦ inr (λ ends. n ends.1)
      ])
      | inr none ↦ inr (λ ends. let some : 0 < length proof = ends.0 in omega (arith, none, some))
    ])

-- ---- verdicts

-- the first clause without the property, counted from 1
bad_verdict : {L : Type 0} (negate : L → L) (formula proof : List (List L)) (n : ℕ) → IsFirstBad negate formula proof n → IsVerdict negate formula proof (rup.BadClause (n + 1))
bad_verdict negate formula proof n f = (omega arith, (let e : n ≡ n + 1 - 1 = omega arith in subst (λ (m : ℕ). IsFirstBad negate formula proof m) e f))

-- a proof has a verdict where equality of literals is decided
verdict_from : {L : Type 0} → ((x y : L) → IsDecided (x ≡ y)) → (negate : L → L) (formula proof : List (List L)) → (verdict : Rup) × IsVerdict negate formula proof verdict
verdict_from same negate formula proof =
    (elim (first_or_none (IsGood negate formula proof) (good_decided same negate formula proof) (length proof)) [
      | inl f ↦ (rup.BadClause (f.first + 1), bad_verdict negate formula proof f.first (record { in_range = f.in_range; bad = f.lacks; before = f.before }))
      | inr good ↦ (elim (ends_decided proof) [
        | inl ends ↦ (rup.Verified, (good, ends))
        | inr n ↦ (rup.NotEmpty, (good, n))
      ])
    ])

-- equality of integers is decided
int_decided : (x y : ℤ) → IsDecided (x ≡ y)
int_decided x y = cases (int_eq x y) refl where
  cases : (b : Bool) → int_eq x y ≡ b → IsDecided (x ≡ y)
  cases true e = inl ((Decides-int_eq x y).0 e)
  cases false e = inr (λ same. let t : int_eq x y ≡ true = (Decides-int_eq x y).1 same in cc)

-- each proof of a formula has a verdict
pub verdict_exists : (formula proof : List (List ℤ)) → (verdict : Rup) × IsVerdict neg_ℤ formula proof verdict
verdict_exists = verdict_from int_decided neg_ℤ
