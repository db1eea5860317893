-- A deletion's line has one line feed; a deletion that is read is the one that was written, and one that was written is read again.
use Rattle.std.proofs.Common.{◌≡◌, ℕ, ◌<◌, true, cond, ◌&&◌, ltb, List, [], ◌∷◌, ◌++◌, length, Some, None, inl, inr, refl, subst, append_assoc, arith}
use Rattle.std.specs.Prelude.{codes, decimal}
use Rattle.std.specs.List.{AllByRecursion}
use Rattle.std.proofs.lemmas.Bool.{ltb-true, lt-ltb}
use Rattle.dcsp_defs.proofs.Lists.{and_left, and_right, and_both}
use Rattle.dcsp_defs.specs.Words.{In, IsRising}
use Rattle.ngd_log.specs.StepText.{IsStepNumber}
use Rattle.ngd_log.specs.Entries.{IsDeletion}
use Rattle.ngd_log.specs.EntryTexts.{deletion_line}
use Rattle.ngd_log.specs.EntryReading.{numbers_at, rises_after, has_number, deletion_front}
use Rattle.ngd_log.specs.Reading.{after, step_number_at}
use Rattle.ngd_log.specs.Lines.{IsLine}
use Rattle.dcsp_common.specs.Reading.{◌>>=◌}
use Rattle.dcsp_common.proofs.Chosen.{chosen, passed, bind_then, some_is}
use Rattle.ngd_log.proofs.AfterPrefix.{after_other, after_takes}
use Rattle.ngd_log.proofs.Fields.{Took, step_number_takes, step_number_again}
use Rattle.ngd_log.proofs.ItemLaws.{items_text, items_takes, items_again, fewer}
use Rattle.ngd_log.proofs.LineFeeds.{no_feed_in_decimal, no_feed_in_items}

-- ---- rising numbers

-- what passes the test is above `last`
rises_above : (last : ℕ) (ns : List ℕ) → rises_after last ns ≡ true → (y : ℕ) → In y ns → last < y
rises_above last [] h y i = absurd i
rises_above last (k ∷ ns) h y (inl e) = let lt = ltb-true last k (and_left (ltb last k) (rises_after k ns) h) in rw e lt
rises_above last (k ∷ ns) h y (inr i) =
    let first : last < k = ltb-true last k (and_left (ltb last k) (rises_after k ns) h) in
    let more : k < y = rises_above k ns (and_right (ltb last k) (rises_after k ns) h) y i in
    omega (arith, first, more)

-- and rises
rises-IsRising : (last : ℕ) (ns : List ℕ) → rises_after last ns ≡ true → IsRising ns
rises-IsRising last [] h = tt
rises-IsRising last (k ∷ ns) h = (rises_above k ns (and_right _ _ h), rises-IsRising k ns (and_right _ _ h))

-- what rises above `last` passes the test
IsRising-rises : (last : ℕ) (ns : List ℕ) → IsRising ns → ((y : ℕ) → In y ns → last < y) → rises_after last ns ≡ true
IsRising-rises last [] h above = refl
IsRising-rises last (k ∷ ns) h above = and_both _ _ (lt-ltb last k (above k (inl refl))) (IsRising-rises k ns h.1 h.0)

-- the numbers of steps are above 0
above_zero : (ns : List ℕ) → AllByRecursion IsStepNumber ns → (y : ℕ) → In y ns → 0 < y
above_zero [] h y i = absurd i
above_zero (k ∷ ns) h y (inl e) = let p = h.0.positive in rw e p
above_zero (k ∷ ns) h y (inr i) = above_zero ns h.1 y i

-- there is a number
has_some : (ns : List ℕ) → has_number ns ≡ true → 0 < length ns
has_some [] h = absurd cc
has_some (k ∷ ns) h = omega arith

some_has : (ns : List ℕ) → 0 < length ns → has_number ns ≡ true
some_has [] h = absurd (omega arith)
some_has (k ∷ ns) h = refl

-- ---- lines

-- a deletion's line has one line feed, at its end
pub deletion_line-IsLine : (ns : List ℕ) → IsDeletion ns → IsLine (deletion_line ns)
deletion_line-IsLine ns d = record {
  body = codes "d" ++ items_text 32 decimal ns;
  plain = (refl, no_feed_in_items 32 decimal IsStepNumber ns refl (λ k h. let b = h.bounded in no_feed_in_decimal k (omega arith)) d.each);
  same = refl;
}

-- numbers that were read, and a line feed
parts : (bytes : List ℕ) (ns after_numbers rest : List ℕ) → bytes ≡ items_text 32 decimal ns ++ after_numbers → after_numbers ≡ codes "\n" ++ rest → codes "d" ++ bytes ≡ deletion_line ns ++ rest
parts bytes ns after_numbers rest e f = rw (e, f) (simp append_assoc)

-- what is in front of these bytes, behind a `d`: a deletion's line
pub record IsDeletionFront (bytes : List ℕ) (x : List ℕ × List ℕ) : Type 0 where
  pub deletion : IsDeletion x.0
  pub parts : codes "d" ++ bytes ≡ deletion_line x.0 ++ x.1

-- a deletion that was read
pub deletion_takes : (bytes : List ℕ) (x : List ℕ × List ℕ) → deletion_front bytes ≡ Some x → IsDeletionFront bytes x
unfolding deletion_front
deletion_takes bytes x h =
    bind_then (numbers_at bytes >>= λ ns. cond (rises_after 0 ns.0) (Some ns) None) (λ ns. cond (has_number ns.0) (after (codes "\n") ns.1) None >>= λ rest. Some (ns.0, rest)) x h (λ ns rn h1.
    bind_then (numbers_at bytes) (λ ns. cond (rises_after 0 ns.0) (Some ns) None) ns rn (λ xs rx e.
    bind_then (cond (has_number ns.0) (after (codes "\n") ns.1) None) (λ rest. Some (ns.0, rest)) x h1 (λ rest re h2.
    let p = passed (rises_after 0 xs.0) xs ns e in
    let q = chosen (has_number ns.0) (after (codes "\n") ns.1) None (Some rest) re in
    let t = items_takes 32 step_number_at decimal IsStepNumber step_number_takes (length bytes) bytes xs.0 xs.1 rx in
    let u : Took bytes (items_text 32 decimal ns.0) ns.1 (AllByRecursion IsStepNumber ns.0) = subst (λ (y : List ℕ × List ℕ). Took bytes (items_text 32 decimal y.0) y.1 (AllByRecursion IsStepNumber y.0)) p.1 t in
    let rising : rises_after 0 ns.0 ≡ true = subst (λ (y : List ℕ × List ℕ). rises_after 0 y.0 ≡ true) p.1 p.0 in
    elim q [
      | inl f ↦
          let made : IsDeletionFront bytes (ns.0, rest) = record {
            deletion = record { some = has_some ns.0 f.0; rising = rises-IsRising 0 ns.0 rising; each = u.holds };
            parts = parts bytes ns.0 ns.1 rest u.parts (after_takes (codes "\n") ns.1 rest f.1);
          } in
          subst (λ (y : List ℕ × List ℕ). IsDeletionFront bytes y) (some_is (ns.0, rest) x h2) made
      | inr f ↦ absurd (let g = f.1 in cc)
    ])))

-- a deletion's line without its `d` is read again, and nothing stands after it
pub deletion_again : (ns : List ℕ) → IsDeletion ns → deletion_front (items_text 32 decimal ns ++ codes "\n") ≡ Some (ns, [])
unfolding deletion_front after
deletion_again ns d =
    let bytes = items_text 32 decimal ns ++ codes "\n" in
    let read : numbers_at bytes ≡ Some (ns, codes "\n") = items_again 32 step_number_at decimal IsStepNumber step_number_again refl (length bytes) ns (codes "\n") (fewer 32 decimal ns (codes "\n")) d.each refl none in
    rw (read, IsRising-rises 0 ns d.rising (above_zero ns d.each), some_has ns d.some) refl
  where
    none : after (codes " ") (codes "\n") ≡ None
    none = after_other 32 10 [] [] (λ e. omega arith)
