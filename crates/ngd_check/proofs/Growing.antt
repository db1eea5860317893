-- Entries with one more.
use Rattle.std.proofs.Common.{◌≡◌, ◌≤◌, ◌<◌, ◌-◌, ◌==◌, ◌↔◌, ℕ, zero, suc, Bool, true, false, cond, ◌||◌, List, [], ◌∷◌, ◌++◌, length, take, slice_get, Option, Some, None, inl, inr, refl, sym, ap, ◌∙◌, subst, arith, IsSomeAnd}
use Rattle.std.specs.Prelude.{slice_index_or}
use Rattle.std.specs.List.{list_any}
use Rattle.std.specs.Option.{option_map}
use Rattle.dcsp_defs.specs.declared.Step.{Step}
use Rattle.dcsp_defs.specs.Csp.{Csp, Nogood}
use Rattle.dcsp_defs.specs.Derivation.{EndsEmpty}
use Rattle.dcsp_defs.proofs.Lists.{get-more, get-last}
use Rattle.dcsp_defs.specs.declared.entry.Entry.{Entry}
use Rattle.dcsp_defs.specs.declared.entry.Entry.TheVariants.{Step as A_step, Delete}
use Rattle.ngd_check.specs.Citing.{nogood_at}
use Rattle.ngd_check.specs.Entries.{steps_of, is_deleted, cited_after, IsRightEntry, AreRight}
use Rattle.ngd_check.specs.Progress.{kept_at}
use Rattle.ngd_check.proofs.Once.{compared}
pub use Rattle.ngd_store.proofs.Growing.{index_before, index_last, length_more}

pub steps_more : (es : List Entry) (s : Step) → steps_of (es ++ A_step s ∷ []) ≡ steps_of es ++ s ∷ []
steps_more [] s = refl
steps_more (A_step t ∷ es) s = ap (λ (xs : List Step). t ∷ xs) (steps_more es s)
steps_more (Delete ns ∷ es) s = steps_more es s

pub steps_same : (es : List Entry) (ns : List ℕ) → steps_of (es ++ Delete ns ∷ []) ≡ steps_of es
steps_same [] ns = refl
steps_same (A_step t ∷ es) ns = ap (λ (xs : List Step). t ∷ xs) (steps_same es ns)
steps_same (Delete ms ∷ es) ns = steps_same es ns

pub deleted_same : (es : List Entry) (s : Step) (n : ℕ) → is_deleted (es ++ A_step s ∷ []) n ≡ is_deleted es n
deleted_same [] s n = refl
deleted_same (A_step t ∷ es) s n = deleted_same es s n
deleted_same (Delete ms ∷ es) s n = ap (λ b. list_any (λ deleted. n == deleted) ms || b) (deleted_same es s n)

or_false : (b : Bool) → (b || false) ≡ b
or_false true = refl
or_false false = refl

or_later : (a b c : Bool) → (a || (b || c)) ≡ ((a || b) || c)
or_later true b c = refl
or_later false b c = refl

pub deleted_more : (es : List Entry) (ns : List ℕ) (n : ℕ) → is_deleted (es ++ Delete ns ∷ []) n ≡ (is_deleted es n || list_any (λ deleted. n == deleted) ns)
deleted_more [] ns n = or_false (list_any (λ deleted. n == deleted) ns)
deleted_more (A_step t ∷ es) ns n = deleted_more es ns n
deleted_more (Delete ms ∷ es) ns n =
    ap (λ b. list_any (λ deleted. n == deleted) ms || b) (deleted_more es ns n)
    ∙ or_later (list_any (λ deleted. n == deleted) ms) (is_deleted es n) (list_any (λ deleted. n == deleted) ns)

-- a look-up in a list with one more
pub get_before : {X : Type 0} (xs : List X) (x : X) (k : ℕ) → k < length xs → slice_get (xs ++ x ∷ []) k ≡ slice_get xs k
get_before [] x k l = absurd (omega arith)
get_before (y ∷ ys) x zero l = refl
get_before (y ∷ ys) x (suc k) l = get_before ys x k (omega arith)

pub get_past : {X : Type 0} (xs : List X) (k : ℕ) → length xs ≤ k → slice_get xs k ≡ None
get_past [] k l = refl
get_past (y ∷ ys) zero l = absurd (omega arith)
get_past (y ∷ ys) (suc k) l = get_past ys k (omega arith)

index_past : {X : Type 0} (xs : List X) (d : X) (k : ℕ) → length xs ≤ k → slice_index_or xs k d ≡ d
index_past [] d k l = refl
index_past (y ∷ ys) d zero l = absurd (omega arith)
index_past (y ∷ ys) d (suc k) l = index_past ys d k (omega arith)

pub take_length : {X : Type 0} (xs ys : List X) → take (length xs) (xs ++ ys) ≡ xs
take_length [] ys = refl
take_length (x ∷ xs) ys = ap (λ (zs : List _). x ∷ zs) (take_length xs ys)

kept_before : (kept : List (Option Nogood)) (g : Nogood) (n : ℕ) → n ≤ length kept → kept_at (kept ++ Some g ∷ []) n ≡ kept_at kept n
kept_before kept g zero l = refl
kept_before kept g (suc k) l = index_before kept (Some g) None k (omega arith)

pub kept_past : (kept : List (Option Nogood)) (n : ℕ) → length kept < n → kept_at kept n ≡ None
kept_past kept zero l = absurd (omega arith)
kept_past kept (suc k) l = index_past kept None k (omega arith)

nogood_before : (steps : List Step) (s : Step) (n : ℕ) → n ≤ length steps → nogood_at (steps ++ s ∷ []) n ≡ nogood_at steps n
nogood_before steps s zero l = refl
nogood_before steps s (suc k) l = ap (option_map (λ (t : Step). t.nogood)) (get_before steps s k (omega arith))

nogood_past : (steps : List Step) (n : ℕ) → length steps < n → nogood_at steps n ≡ None
nogood_past steps zero l = absurd (omega arith)
nogood_past steps (suc k) l = ap (option_map (λ (t : Step). t.nogood)) (get_past steps k (omega arith))

nogood_last : (steps : List Step) (s : Step) → nogood_at (steps ++ s ∷ []) (suc (length steps)) ≡ Some s.nogood
nogood_last steps s = ap (option_map (λ (t : Step). t.nogood)) (get-last steps s)

module _ (kept : List (Option Nogood)) (es : List Entry) (same : length kept ≡ length (steps_of es)) (cited : (n : ℕ) → kept_at kept n ≡ cited_after es n) (named : (n : ℕ) → is_deleted es n ≡ true → n ≤ length (steps_of es)) where
  not_named : (n : ℕ) → length (steps_of es) < n → is_deleted es n ≡ false
  not_named n l = by_test (is_deleted es n) refl
    where
      by_test : (b : Bool) → is_deleted es n ≡ b → is_deleted es n ≡ false
      by_test true e = absurd (let m = named n e in omega arith)
      by_test false e = e

  -- after one step more a number cites what is kept with its nogood
  pub cited_step : (s : Step) (n : ℕ) → kept_at (kept ++ Some s.nogood ∷ []) n ≡ cited_after (es ++ A_step s ∷ []) n
  cited_step s n = rw (deleted_same es s n, steps_more es s) (elim (compared n (suc (length kept))) [
    | inl l ↦ kept_before kept s.nogood n (omega arith) ∙ (cited n ∙ ap (cond (is_deleted es n) None) (sym (nogood_before (steps_of es) s n (omega (arith, same)))))
    | inr r ↦ elim r [
      | inl e ↦ rw e (index_last kept (Some s.nogood) None ∙ sym (rw (not_named (suc (length kept)) (omega (arith, same))) (ap (nogood_at (steps_of es ++ s ∷ [])) (ap suc same) ∙ nogood_last (steps_of es) s)))
      | inr l ↦ kept_past (kept ++ Some s.nogood ∷ []) n (rw (length_more kept (Some s.nogood)) l) ∙ sym (rw (not_named n (omega (arith, same))) (nogood_past (steps_of es ++ s ∷ []) n (rw (length_more (steps_of es) s) (omega (arith, same)))))
    ]
  ])

  -- after a deletion its numbers cite nothing
  pub cited_deletion : (ns : List ℕ) (n : ℕ) → cond (list_any (λ deleted. n == deleted) ns) None (kept_at kept n) ≡ cited_after (es ++ Delete ns ∷ []) n
  cited_deletion ns n = rw (deleted_more es ns n, steps_same es ns, cited n) (by_tests (list_any (λ deleted. n == deleted) ns) (is_deleted es n))
    where
      by_tests : (a b : Bool) → cond a None (cond b None (nogood_at (steps_of es) n)) ≡ cond (b || a) None (nogood_at (steps_of es) n)
      by_tests true true = refl
      by_tests true false = refl
      by_tests false true = refl
      by_tests false false = refl

-- right entries and one right entry more
pub right_push : (p : Csp) (es : List Entry) (e : Entry) → AreRight p es → IsRightEntry p es e → AreRight p (es ++ e ∷ [])
right_push p es e h r = λ k x there. elim (get-more es e x k there) [
  | inl old ↦ subst (λ (before : List Entry). IsRightEntry p before x) (sym old.1) (h k x old.0)
  | inr new ↦ subst (λ (before : List Entry). IsRightEntry p before x) (sym new.1) (subst (IsRightEntry p es) (sym new.0) r)
]

-- whether the last of one step more has the empty nogood
pub ends_more : (steps : List Step) (s : Step) → EndsEmpty (steps ++ s ∷ []) ↔ (s.nogood ≡ [])
ends_more steps s =
    let place : length (steps ++ s ∷ []) - 1 ≡ length steps = omega (arith, length_more steps s) in
    let last : slice_get (steps ++ s ∷ []) (length (steps ++ s ∷ []) - 1) ≡ Some s = ap (slice_get (steps ++ s ∷ [])) place ∙ get-last steps s in (
      λ h. subst (λ (o : Option Step). IsSomeAnd o (λ (t : Step). t.nogood ≡ [])) last h,
      λ h. subst (λ (o : Option Step). IsSomeAnd o (λ (t : Step). t.nogood ≡ [])) (sym last) h,
    )
