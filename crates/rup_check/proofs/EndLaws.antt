-- What the end of propagation shows.
use Rattle.std.proofs.Common.{◌≡◌, ℕ, ◌<◌, ◌≤◌, ◌+◌, List, [], ◌∷◌, ◌++◌, ◌⊎◌, inl, inr, take, Bool, true, false, not, cond, length, map, get_or, set, replicate, sym, refl, ap, ◌∙◌, subst, arith, zero, suc}
use Rattle.std.specs.List.{Contains, All, count_by, sum_by}
use Rattle.std.proofs.lemmas.List.Sums.{sum_by-cons}
use Rattle.std.proofs.Math.Numerals.{one-add}
use Rattle.std.proofs.lemmas.List.Elements.{Contains-get_or}
use Rattle.std.proofs.lemmas.Bool.{cases_eq}
use Rattle.rup_check.specs.Propagation.{Forced, given, Conflicts, IsClosed, IsConflict, HasProperty, IsGood, known_before}
use Rattle.rup_check.specs.Assignments.{flipped, Has, IsAssignment, IsSound}
use Rattle.rup_check.specs.Sets.{KeepsSound, Grows, IsFinished, IsEnd, IsBegun, IsBeginning, IsAnswer, IsPut}
use Rattle.std.proofs.lemmas.List.{get_or_default, get_or-set_same, length-replicate}
use Rattle.std.proofs.Math.Seq.{take-append-add, take-append_seam}
use Rattle.rup_check.specs.Watches.{IsClean}
use Rattle.rup_check.proofs.MarkLaws.{has_set, has_kept, has_small}
use Rattle.rup_check.proofs.PropagationLaws.{forced_grow, conflicts_grow, conflict_of_closed, contains_nil, contains_map, contains_mapped}

module _ (formula : List (List ℕ)) (marks : List Bool) (consistent : (x : ℕ) → Has marks x → Has marks (flipped x) → ⊥) (finished : IsFinished formula marks) where
  -- where each clause is quiet the marks are closed
  pub closed_of_finished : IsClosed flipped formula (Has marks)
  closed_of_finished clause x c m others =
      (elim (finished clause c) [
        | inl (z, among, t) ↦ (elim (cases_eq z x) [
          | inl e ↦ subst (λ w. Has marks w) e t
          | inr n ↦ absurd (consistent z t (others z among n))
        ])
        | inr (y, z, oy, oz, n) ↦ (elim (cases_eq y x) [
          | inl e ↦ absurd (oz.open_ (others z oz.among (λ f. n (e ∙ sym f))))
          | inr d ↦ absurd (oy.open_ (others y oy.among d))
        ])
      ])

  -- and have no conflict
  pub no_conflict : IsConflict flipped formula (Has marks) → ⊥
  no_conflict (inl (clause, c, f)) =
      (elim (finished clause c) [
        | inl (z, among, t) ↦ consistent z t (f z among)
        | inr (y, z, oy, oz, n) ↦ oy.open_ (f y oy.among)
      ])
  no_conflict (inr (x, h, n)) = consistent x h n

-- what is forced by the clauses alone is forced from a start
pub from_nothing : (formula : List (List ℕ)) (start : List ℕ) (x : ℕ) → Forced flipped formula [] x → Forced flipped formula start x
from_nothing formula start = forced_grow flipped formula formula [] start (λ c h. h) (λ x h. absurd (contains_nil x h))

-- clauses that have a conflict by themselves give the property to each clause
pub answer_refuted : (formula : List (List ℕ)) (clause : List ℕ) → Conflicts flipped formula [] → HasProperty flipped formula clause
answer_refuted formula clause = conflicts_grow flipped formula formula [] (map flipped clause) (λ c h. h) (λ x h. absurd (contains_nil x h))

-- what was begun is sound
pub begun_sound : (formula : List (List ℕ)) (before : List Bool) (clause : List ℕ) (marks : List Bool) → IsSound formula [] before → IsBegun before clause marks → IsSound formula (map flipped clause) marks
begun_sound formula before clause marks s b = record {
  within = λ x h. (elim (b.only x h) [ inl m ↦ given m | inr old ↦ from_nothing formula (map flipped clause) x (s.within x old) ]);
  consistent = b.consistent;
}

-- a start with a literal that is false by the clauses alone, or beside its negation, has a conflict
pub answer_clash : (formula : List (List ℕ)) (before : List Bool) (clause : List ℕ) (marks : List Bool) → IsSound formula [] before → IsBeginning before clause marks true → HasProperty flipped formula clause
answer_clash formula before clause marks s (x, m, inl h) = inr (x, given h, given (contains_mapped flipped clause x m))
answer_clash formula before clause marks s (x, m, inr h) = inr (x, from_nothing formula (map flipped clause) x (s.within x h), given (contains_mapped flipped clause x m))

-- the answer at the end of propagation
pub answer_of : (formula : List (List ℕ)) (before : List Bool) (clause : List ℕ) (begun marks : List Bool) (b : Bool) → IsSound formula [] before → IsBegun before clause begun → Grows begun marks → KeepsSound formula begun marks → IsEnd formula marks b → IsAnswer formula clause b
answer_of formula before clause begun marks true r start grows keeps (f, c, h) =
    let s = keeps (map flipped clause) (begun_sound formula before clause begun r start) in
    inl (f, c, λ y m. s.within (flipped y) (h y m))
answer_of formula before clause begun marks false r start grows keeps finished =
    let s = keeps (map flipped clause) (begun_sound formula before clause begun r start) in
    λ property. no_conflict formula marks s.consistent finished (conflict_of_closed flipped formula (map flipped clause) (Has marks) (closed_of_finished formula marks s.consistent finished) (λ x h. grows x (start.all x h)) property)

false_of : (b : Bool) → (b ≡ true → ⊥) → b ≡ false
false_of true n = absurd (n refl)
false_of false n = refl

-- where nothing is marked, each place counts
count_none : (marks : List Bool) → ((x : ℕ) → Has marks x → ⊥) → sum_by (λ x. cond (not x) 1 0) marks ≡ length marks
count_none [] n = refl
count_none (true ∷ marks) n = absurd (n 0 refl)
count_none (false ∷ marks) n = sum_by-cons (λ x. cond (not x) 1 0) false marks ∙ ap (λ m. 1 + m) (count_none marks (λ x h. n (suc x) h)) ∙ one-add (length marks)

pub cleared : (marks : List Bool) (trail : List ℕ) → length marks ≡ 8192 → trail ≡ [] → ((x : ℕ) → Has marks x → Contains trail x) → IsAssignment marks trail
cleared marks trail size e listed =
    let none : (x : ℕ) → Has marks x → ⊥ = λ x h. contains_nil x (subst (λ w. Contains w x) e (listed x h)) in
    let n : count_by not marks ≡ length marks = count_none marks none in
    let z : length trail ≡ 0 = ap length e in
    record { size = size; small = subst (λ w. All (λ x. x ≤ 8191) w) (sym e) (λ k d l. absurd (omega arith)); listed = listed; marked = λ x h. absurd (contains_nil x (subst (λ w. Contains w x) e h)); counted = omega (arith, n, z, size); apart = λ i j l m. absurd (omega (arith, z)) }

pub put_of_set : (marks after : List Bool) (x : ℕ) → length marks ≡ 8192 → x ≤ 8191 → after ≡ set marks x true → IsPut marks after x
put_of_set marks after x size small e =
    let l : x < length marks = omega arith in
    subst (λ w. IsPut marks w x) (sym e) record { here = get_or-set_same marks x true false l; grows = λ y h. has_kept marks x y l h; only = λ y h. has_set marks x y l h }

pub put_there : (marks : List Bool) (x : ℕ) → Has marks x → IsPut marks marks x
put_there marks x h = record { here = h; grows = λ y g. g; only = λ y g. inr g }

-- ---- the start, literal by literal

pub record IsBeginningSoFar (before : List Bool) (clause : List ℕ) (marks : List Bool) (i : ℕ) : Type 0 where
  pub all : (k : ℕ) → k < i → Has marks (flipped (get_or clause k 0))
  pub only : (x : ℕ) → Has marks x → Contains (map flipped clause) x ⊎ Has before x
  pub consistent : (x : ℕ) → Has marks x → Has marks (flipped x) → ⊥
  pub grows : Grows before marks

pub begin_none : (before : List Bool) (clause : List ℕ) → IsClean before → IsBeginningSoFar before clause before 0
begin_none before clause clean = record { all = λ k l. absurd (omega arith); only = λ x h. inr h; consistent = clean; grows = λ x h. h }

pub begin_more : (before : List Bool) (clause : List ℕ) (marks after : List Bool) (i : ℕ) → length marks ≡ 8192 → i < length clause → get_or clause i 0 ≤ 8191 → IsBeginningSoFar before clause marks i → (Has marks (get_or clause i 0) → ⊥) → IsPut marks after (flipped (get_or clause i 0)) → IsBeginningSoFar before clause after (i + 1)
begin_more before clause marks after i size l small s absent p =
    let x : ℕ = get_or clause i 0 in
    record {
      all = λ k m. (elim (cases_eq k i) [
        | inl e ↦ subst (λ w. Has after (flipped (get_or clause w 0))) (sym e) p.here
        | inr n ↦ p.grows (flipped (get_or clause k 0)) (s.all k (omega arith))
      ]);
      only = λ y h. (elim (p.only y h) [
        | inl e ↦ inl (subst (λ w. Contains (map flipped clause) w) (sym e) (contains_mapped flipped clause x (Contains-get_or clause i 0 l)))
        | inr old ↦ s.only y old
      ]);
      consistent = λ y h g. (elim (p.only y h) [
        | inl e ↦ (elim (p.only (flipped y) g) [
          | inl f ↦ absurd (omega arith)
          | inr old ↦ let back : flipped y ≡ x = omega arith in absent (subst (λ w. Has marks w) back old)
        ])
        | inr held ↦ (elim (p.only (flipped y) g) [
          | inl f ↦ (let yl : y < length marks = has_small marks y held in let back : y ≡ x = omega arith in absent (subst (λ w. Has marks w) back held))
          | inr old ↦ s.consistent y held old
        ])
      ]);
      grows = λ y h. p.grows y (s.grows y h);
    }

pub begin_all : (before : List Bool) (clause : List ℕ) (marks : List Bool) (i : ℕ) → i ≡ length clause → IsBeginningSoFar before clause marks i → IsBegun before clause marks
begin_all before clause marks i e s = record {
  all = λ x h. (let r = contains_map flipped clause x h in subst (λ w. Has marks w) r.2 (at r.0 r.1));
  only = s.only;
  consistent = s.consistent;
  grows = s.grows;
} where
  at : (y : ℕ) → Contains clause y → Has marks (flipped y)
  at y (k, l, f) = subst (λ w. Has marks (flipped w)) (get_or_default clause k 0 y l ∙ f) (s.all k (omega arith))

pub begin_clash : (before : List Bool) (clause : List ℕ) (marks : List Bool) (i : ℕ) → i < length clause → IsBeginningSoFar before clause marks i → Has marks (get_or clause i 0) → IsBeginning before clause marks true
begin_clash before clause marks i l s h = (get_or clause i 0, Contains-get_or clause i 0 l, s.only (get_or clause i 0) h)

has_fresh : (n x : ℕ) → Has (replicate n false) x → ⊥
has_fresh zero x h = cc
has_fresh (suc n) zero h = cc
has_fresh (suc n) (suc x) h = has_fresh n x h

pub fresh : (marks : List Bool) (trail : List ℕ) → marks ≡ replicate 8192 false → trail ≡ [] → IsAssignment marks trail
fresh marks trail m e = cleared marks trail (ap length m ∙ length-replicate 8192 false) e (λ x h. absurd (has_fresh 8192 x (subst (λ w. Has w x) m h)))

-- the first clauses of a formula and its proof
known_is : (formula proof : List (List ℕ)) (n count : ℕ) → count ≡ length formula + n → take count (formula ++ proof) ≡ known_before formula proof n
known_is formula proof n count c = ap (λ z. take z (formula ++ proof)) c ∙ take-append-add formula proof n

-- a good clause more
pub answer_good : (formula proof : List (List ℕ)) (n count : ℕ) (clause : List ℕ) → count ≡ length formula + n → clause ≡ get_or proof n [] → IsAnswer (take count (formula ++ proof)) clause true → IsGood flipped formula proof n
answer_good formula proof n count clause c e a = subst (λ w. HasProperty flipped (known_before formula proof n) w) e (subst (λ w. HasProperty flipped w clause) (known_is formula proof n count c) a)

pub answer_bad : (formula proof : List (List ℕ)) (n count : ℕ) (clause : List ℕ) → count ≡ length formula + n → clause ≡ get_or proof n [] → IsAnswer (take count (formula ++ proof)) clause false → IsGood flipped formula proof n → ⊥
answer_bad formula proof n count clause c e a good = a (subst (λ w. HasProperty flipped w clause) (sym (known_is formula proof n count c)) (subst (λ w. HasProperty flipped (known_before formula proof n) w) (sym e) good))

pub ready_front : (formula proof : List (List ℕ)) → formula ≡ take (length formula + 0) (formula ++ proof)
ready_front formula proof =
    let same : length formula ≡ length formula + 0 = omega arith in
    sym (ap (λ z. take z (formula ++ proof)) (sym same) ∙ take-append_seam formula proof)

pub one_on : (first count n : ℕ) → first ≡ count → first + n + 1 ≡ count + (n + 1)
one_on first count n e = omega arith
