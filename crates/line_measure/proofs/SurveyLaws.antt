-- The loop of a survey: what is left to be put, and how the worst of the runs so far ended.
use Rattle.std.proofs.Common.{◌≡◌, ◌∙◌, ℕ, zero, suc, ◌+◌, ◌-◌, ◌<◌, ◌≤◌, List, [], ◌∷◌, ◌++◌, map, Result, Ok, Err, refl, sym, ap, arith}
use Rattle.std.specs.Prelude.{IsErr, IsErrAnd}
use Rattle.std.specs.List.{range_with_len}
use Rattle.dcsp_rule.specs.Problems.{Contents, csp_of}
use Rattle.dcsp_script.specs.declared.stop.Stop.{Stop}
use Rattle.dcsp_script.specs.Scripts.{Put, World, Write}
use Rattle.dcsp_script.specs.Ways.{Wrote}
use Rattle.dcsp_script.specs.Left.{HasLeft}
use Rattle.dcsp_script.proofs.Ways.{did_nothing}
use Rattle.dcsp_script.proofs.Left.{left_all, left_ends, left_more, left_stopped}
use Rattle.abt_network.specs.declared.Standing.{Standing}
use Rattle.abt_network.specs.declared.Standing.TheVariants.{Quiet}
use Rattle.abt_session.proofs.Pieces.{line_put as put_as}
use Rattle.line_measure.specs.declared.numbers.Numbers.{Numbers}
use Rattle.line_measure.specs.Numbers.{numbers_of, seeded}
use Rattle.line_measure.specs.Texts.{survey_head, survey_line}
use Rattle.line_measure.specs.MeasurePromise.{end_of_seed, seed_write, seeds, survey_script, worse, worst}

-- the line of a seed, made in an empty text, is what was put
pub seed_put : {T : Type 0} {a b : World} {r : Result T Stop} {piece cleared : List ℕ} (p : Contents) (seed : ℕ) (n : Numbers) (made : List ℕ) → piece ≡ made → made ≡ cleared ++ survey_line seed n → cleared ≡ [] → n ≡ numbers_of (csp_of p) (seeded seed)
    → Wrote (Put piece ∷ []) a b r → Wrote (seed_write p seed ∷ []) a b r
seed_put {cleared = cleared} p seed n made e f g is h = put_as made (survey_line seed (numbers_of (csp_of p) (seeded seed))) e (f ∙ ap (λ m. cleared ++ survey_line seed m) is) g h

range_last : (a n : ℕ) → range_with_len a (suc n) ≡ range_with_len a n ++ (a + n) ∷ []
range_last a zero = let e : a ≡ a + 0 = omega arith in ap (λ k. k ∷ []) e
range_last a (suc n) = let e : a + 1 + n ≡ a + suc n = omega arith in ap (λ l. a ∷ l) (range_last (a + 1) n ∙ ap (λ k. range_with_len (a + 1) n ++ k ∷ []) e)

module _ (P : Contents) (from count : ℕ) where
  -- the lines from this seed on
  abbrev pub left_from : ℕ → List Write
  left_from k = map (seed_write P) (range_with_len (from + k) (count - k))

  first_left : (k : ℕ) → k < count → left_from k ≡ (seed_write P (from + k) ∷ []) ++ left_from (k + 1)
  first_left k l =
      let more : count - k ≡ suc (count - (k + 1)) = omega arith in
      let next : from + k + 1 ≡ from + (k + 1) = omega arith in
      ap (λ n. map (seed_write P) (range_with_len (from + k) n)) more ∙ ap (λ a. seed_write P (from + k) ∷ map (seed_write P) (range_with_len a (count - (k + 1)))) next

  -- the head was put
  pub head_put : {T : Type 0} {x : T} {a b : World} → Wrote {T = T} (Put survey_head ∷ []) a b (Ok x) → HasLeft (survey_script P from count) (left_from 0) a b
  head_put {a = a} w =
      let first : from ≡ from + 0 = omega arith in
      let all : count ≡ count - 0 = omega arith in
      left_more (survey_script P from count) (ap (λ s. Put survey_head ∷ map (seed_write P) (range_with_len s count)) first ∙ ap (λ n. Put survey_head ∷ map (seed_write P) (range_with_len (from + 0) n)) all) (left_all (survey_script P from count) a) w

  -- the line of a seed was put
  pub line_put : {T : Type 0} {x : T} {a b c : World} (k : ℕ) → k < count → HasLeft (survey_script P from count) (left_from k) a b → Wrote {T = T} (seed_write P (from + k) ∷ []) b c (Ok x) → HasLeft (survey_script P from count) (left_from (k + 1)) a c
  line_put k l h w = left_more (left_from k) (first_left k l) h w

  -- it was not
  pub line_stopped : {T U : Type 0} {e : Stop} {a b c : World} (k : ℕ) (r : Result U Stop) → IsErr r × IsErrAnd r (λ y. y ≡ e) → k < count → HasLeft (survey_script P from count) (left_from k) a b → Wrote {T = T} (seed_write P (from + k) ∷ []) b c (Err e)
      → Wrote (survey_script P from count) a c r
  line_stopped {T = T} k r is l h w = left_stopped {T = T} (left_from (k + 1)) (left_from k) r (first_left k l) is h w

  -- all were put
  pub all_put : {T : Type 0} {a b : World} (x : T) (k : ℕ) → count ≤ k → HasLeft (survey_script P from count) (left_from k) a b → Wrote (survey_script P from count) a b (Ok x)
  all_put {b = b} x k l h =
      let none : count - k ≡ 0 = omega arith in
      left_ends (left_from k) (ap (λ n. map (seed_write P) (range_with_len (from + k) n)) none) h (record { ended = did_nothing b; handed = refl })

  worst_last : (so_far : Standing) (xs : List ℕ) (x : ℕ) → worst P so_far (xs ++ x ∷ []) ≡ worse (worst P so_far xs) (end_of_seed P x)
  worst_last so_far [] x = refl
  worst_last so_far (y ∷ ys) x = worst_last (worse so_far (end_of_seed P y)) ys x

  -- one seed more
  pub worst_more : (k : ℕ) (now end new : Standing) → now ≡ worst P Quiet (seeds from k) → end ≡ end_of_seed P (from + k) → new ≡ worse now end → new ≡ worst P Quiet (seeds from (k + 1))
  worst_more k now end new h e f =
      let n : k + 1 ≡ suc k = omega arith in
      f ∙ ap (λ x. worse x end) h ∙ ap (worse (worst P Quiet (seeds from k))) e ∙ sym (ap (λ j. worst P Quiet (seeds from j)) n ∙ ap (worst P Quiet) (range_last from k) ∙ worst_last Quiet (seeds from k) (from + k))
