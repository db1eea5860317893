-- A derivation has one finding, and so have entries.
use Rattle.std.proofs.Common.{◌≡◌, ℕ, zero, suc, ◌-◌, ◌+◌, ◌<◌, List, [], ◌∷◌, length, slice_get, take, Option, Some, inl, inr, refl, sym, ap, ◌∙◌, subst, arith}
use Rattle.dcsp_defs.specs.declared.Step.{Step}
use Rattle.dcsp_defs.specs.Csp.{Csp}
use Rattle.dcsp_defs.specs.Derivation.{IsRight, IsDerivation}
use Rattle.ngd_check.specs.declared.Finding.{Finding}
use Rattle.ngd_check.specs.declared.Finding.TheVariants.{Verified, BadStep, BadDeletion, NotEmpty}
use Rattle.dcsp_defs.specs.declared.entry.Entry.{Entry}
use Rattle.dcsp_defs.specs.declared.entry.Entry.TheVariants.{Step as A_step, Delete}
use Rattle.ngd_check.specs.Entries.{steps_of, IsRightEntry, AreRight}
use Rattle.ngd_check.specs.Findings.{IsFirstWrong, IsFinding, IsFirstWrongEntry, IsFirstWrongStep, IsFirstWrongDeletion, IsFindingOf}
pub use Rattle.ngd_store.proofs.Growing.{compared}

-- an item at a place below m is an item of the first m
pub get_below : {X : Type 0} (xs : List X) (n m : ℕ) (x : X) → n < m → slice_get xs n ≡ Some x → slice_get (take m xs) n ≡ Some x
get_below xs n zero x l h = absurd (omega arith)
get_below [] n (suc m) x l h = h
get_below (y ∷ ys) zero (suc m) x l h = h
get_below (y ∷ ys) (suc n) (suc m) x l h = get_below ys n m x (omega arith) h

-- the first n of the first m are the first n
pub take_below : {X : Type 0} (xs : List X) (n m : ℕ) → n < m → take n (take m xs) ≡ take n xs
take_below xs n zero l = absurd (omega arith)
take_below xs zero (suc m) l = refl
take_below [] (suc n) (suc m) l = refl
take_below (y ∷ ys) (suc n) (suc m) l = ap (λ (zs : List _). y ∷ zs) (take_below ys n m (omega arith))

-- a derivation has no wrong step
none_wrong : (p : Csp) (steps : List Step) (number : ℕ) → IsDerivation p steps → IsFirstWrong p steps number → ⊥
none_wrong p steps zero right w = let t = w.there in cc
none_wrong p steps (suc k) right w =
    let before : suc k - 1 ≡ k = omega arith in
    w.wrong (subst (λ (n : ℕ). IsRight p (take n steps) w.step) (sym before) (right k w.step w.there))

-- no step before the first wrong one is wrong
not_before : (p : Csp) (steps : List Step) (n m : ℕ) → n < m → IsFirstWrong p steps n → IsFirstWrong p steps m → ⊥
not_before p steps zero m l v w = let t = v.there in cc
not_before p steps (suc n) zero l v w = absurd (omega arith)
not_before p steps (suc n) (suc m) l v w =
    let first : suc n - 1 ≡ n = omega arith in
    let second : suc m - 1 ≡ m = omega arith in
    let right : IsDerivation p (take m steps) = subst (λ (k : ℕ). IsDerivation p (take k steps)) second w.right_before in
    let there : slice_get (take m steps) n ≡ Some v.step = get_below steps n m v.step (omega arith) v.there in
    let at : IsRight p (take n (take m steps)) v.step = right n v.step there in
    let same : take n (take m steps) ≡ take (suc n - 1) steps = take_below steps n m (omega arith) ∙ ap (λ (k : ℕ). take k steps) (sym first) in
    v.wrong (subst (λ (earlier : List Step). IsRight p earlier v.step) same at)

-- two first wrong steps are one
one_first : (p : Csp) (steps : List Step) (n m : ℕ) → IsFirstWrong p steps n → IsFirstWrong p steps m → n ≡ m
one_first p steps n m v w = elim (compared n m) [
  | inl l ↦ absurd (not_before p steps n m l v w)
  | inr r ↦ elim r [
    | inl e ↦ e
    | inr l ↦ absurd (not_before p steps m n l w v)
  ]
]

-- a derivation has one finding
pub one_finding : (p : Csp) (steps : List Step) (f g : Finding) → IsFinding p steps f → IsFinding p steps g → f ≡ g
one_finding p steps Verified Verified h k = refl
one_finding p steps Verified (BadStep n) h k = absurd (none_wrong p steps n h.right k)
one_finding p steps Verified (BadDeletion n) h k = absurd k
one_finding p steps Verified NotEmpty h k = absurd (k.not_empty h.ends)
one_finding p steps (BadStep n) Verified h k = absurd (none_wrong p steps n k.right h)
one_finding p steps (BadStep n) (BadStep m) h k = ap BadStep (one_first p steps n m h k)
one_finding p steps (BadStep n) (BadDeletion m) h k = absurd k
one_finding p steps (BadStep n) NotEmpty h k = absurd (none_wrong p steps n k.right h)
one_finding p steps (BadDeletion n) g h k = absurd h
one_finding p steps NotEmpty Verified h k = absurd (h.not_empty k.ends)
one_finding p steps NotEmpty (BadStep n) h k = absurd (none_wrong p steps n h.right k)
one_finding p steps NotEmpty (BadDeletion n) h k = absurd k
one_finding p steps NotEmpty NotEmpty h k = refl

-- right entries have no wrong one
right_none_wrong : (p : Csp) (es : List Entry) (place : ℕ) (e : Entry) → AreRight p es → IsFirstWrongEntry p es place e → ⊥
right_none_wrong p es place e right w = w.wrong (right place e w.there)

-- no entry before the first wrong one is wrong
not_wrong_before : (p : Csp) (es : List Entry) (n m : ℕ) (d e : Entry) → n < m → IsFirstWrongEntry p es n d → IsFirstWrongEntry p es m e → ⊥
not_wrong_before p es n m d e l v w =
    let at : IsRightEntry p (take n (take m es)) d = w.right_before n d (get_below es n m d l v.there) in
    v.wrong (subst (λ (before : List Entry). IsRightEntry p before d) (take_below es n m l) at)

-- two first wrong entries are one
one_place : (p : Csp) (es : List Entry) (n m : ℕ) (d e : Entry) → IsFirstWrongEntry p es n d → IsFirstWrongEntry p es m e → n ≡ m
one_place p es n m d e v w = elim (compared n m) [
  | inl l ↦ absurd (not_wrong_before p es n m d e l v w)
  | inr r ↦ elim r [
    | inl same ↦ same
    | inr l ↦ absurd (not_wrong_before p es m n e d l w v)
  ]
]

same_entry : (o : Option Entry) (d e : Entry) → o ≡ Some d → o ≡ Some e → d ≡ e
same_entry o d e h k = let t : Some d ≡ Some e = sym h ∙ k in cc

-- a wrong step is no wrong deletion
not_both : (p : Csp) (es : List Entry) (n m : ℕ) → IsFirstWrongStep p es n → IsFirstWrongDeletion p es m → ⊥
not_both p es n m v w =
    let place = one_place p es v.place w.place (A_step v.step) (Delete w.numbers) v.first w.first in
    let same = same_entry (slice_get es w.place) (A_step v.step) (Delete w.numbers) (subst (λ (k : ℕ). slice_get es k ≡ Some (A_step v.step)) place v.first.there) w.first.there in
    cc

one_step : (p : Csp) (es : List Entry) (n m : ℕ) → IsFirstWrongStep p es n → IsFirstWrongStep p es m → n ≡ m
one_step p es n m v w =
    let place = one_place p es v.place w.place (A_step v.step) (A_step w.step) v.first w.first in
    v.numbered ∙ (ap (λ k. length (steps_of (take k es)) + 1) place ∙ sym w.numbered)

one_deletion : (p : Csp) (es : List Entry) (n m : ℕ) → IsFirstWrongDeletion p es n → IsFirstWrongDeletion p es m → n ≡ m
one_deletion p es n m v w =
    let place = one_place p es v.place w.place (Delete v.numbers) (Delete w.numbers) v.first w.first in
    v.counted ∙ (ap (λ k. length (steps_of (take k es))) place ∙ sym w.counted)

-- entries have one finding
pub one_finding_of : (p : Csp) (es : List Entry) (f g : Finding) → IsFindingOf p es f → IsFindingOf p es g → f ≡ g
one_finding_of p es Verified Verified h k = refl
one_finding_of p es Verified (BadStep n) h k = absurd (right_none_wrong p es k.place (A_step k.step) h.right k.first)
one_finding_of p es Verified (BadDeletion n) h k = absurd (right_none_wrong p es k.place (Delete k.numbers) h.right k.first)
one_finding_of p es Verified NotEmpty h k = absurd (k.not_empty h.ends)
one_finding_of p es (BadStep n) Verified h k = absurd (right_none_wrong p es h.place (A_step h.step) k.right h.first)
one_finding_of p es (BadStep n) (BadStep m) h k = ap BadStep (one_step p es n m h k)
one_finding_of p es (BadStep n) (BadDeletion m) h k = absurd (not_both p es n m h k)
one_finding_of p es (BadStep n) NotEmpty h k = absurd (right_none_wrong p es h.place (A_step h.step) k.right h.first)
one_finding_of p es (BadDeletion n) Verified h k = absurd (right_none_wrong p es h.place (Delete h.numbers) k.right h.first)
one_finding_of p es (BadDeletion n) (BadStep m) h k = absurd (not_both p es m n k h)
one_finding_of p es (BadDeletion n) (BadDeletion m) h k = ap BadDeletion (one_deletion p es n m h k)
one_finding_of p es (BadDeletion n) NotEmpty h k = absurd (right_none_wrong p es h.place (Delete h.numbers) k.right h.first)
one_finding_of p es NotEmpty Verified h k = absurd (h.not_empty k.ends)
one_finding_of p es NotEmpty (BadStep n) h k = absurd (right_none_wrong p es k.place (A_step k.step) h.right k.first)
one_finding_of p es NotEmpty (BadDeletion n) h k = absurd (right_none_wrong p es k.place (Delete k.numbers) h.right k.first)
one_finding_of p es NotEmpty NotEmpty h k = refl
