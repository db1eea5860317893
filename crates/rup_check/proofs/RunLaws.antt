-- The queue.
use Rattle.std.proofs.Common.{◌≡◌, ℕ, ◌<◌, ◌≤◌, ◌+◌, List, [], ◌∷◌, ◌++◌, Bool, false, length, take, get_or, sym, ap, ◌∙◌, subst, arith, append_assoc, length-append}
use Rattle.std.proofs.lemmas.List.{append-nil}
use Rattle.std.proofs.lemmas.List.Elements.{Contains-get_or, Contains-append_left}
use Rattle.std.specs.List.{Contains}
use Rattle.std.proofs.lemmas.List.{take-append-le, take_more, take_all}
use Rattle.rup_check.specs.Assignments.{flipped, Has}
use Rattle.rup_check.specs.Watches.{IsState, IsVisited, Extends}
use Rattle.rup_check.specs.declared.watches.WatchedPair.{WatchedPair}

pub extends_same : (xs : List ℕ) → Extends xs xs
extends_same xs = ([], sym (append-nil xs))

pub extends_on : (xs ys zs : List ℕ) → Extends xs ys → Extends ys zs → Extends xs zs
extends_on xs ys zs (m, e) (n, f) = (m ++ n, f ∙ ap (λ w. w ++ n) e ∙ append_assoc xs m n)

pub done_more : (before after : List ℕ) (head : ℕ) → Extends before after → head < length before → get_or before head 0 ≤ 8191 → take head before ++ flipped (flipped (get_or before head 0)) ∷ [] ≡ take (head + 1) after
done_more before after head (more, e) l small =
    let back : flipped (flipped (get_or before head 0)) ≡ get_or before head 0 = omega arith in
    let n : head + 1 ≤ length before = omega arith in
    ap (λ x. take head before ++ x ∷ []) back ∙ sym (take_more before head 0 l) ∙ sym (ap (take (head + 1)) e ∙ take-append-le (head + 1) before more n)

pub run_more : (formula : List (List ℕ)) (literal q : ℕ) (pairs pairs' : List WatchedPair) (lists lists' : List (List ℕ)) (marks marks' : List Bool) (before after : List ℕ) (head : ℕ) → Extends before after → head < length before → literal ≡ get_or before head 0 → literal ≤ 8191 → q ≡ flipped literal → IsVisited formula q pairs lists marks pairs' lists' marks' false → (units base : List ℕ) → IsState formula pairs lists units base marks (take head before) → IsState formula pairs' lists' units base marks' (take (head + 1) after)
run_more formula literal q pairs pairs' lists lists' marks marks' before after head x l is small f v units base s =
    let d : take head before ++ flipped q ∷ [] ≡ take (head + 1) after = ap (λ z. take head before ++ flipped z ∷ []) (f ∙ ap flipped is) ∙ done_more before after head x l (subst (λ z. z ≤ 8191) is small) in
    subst (λ z. IsState formula pairs' lists' units base marks' z) d (v units base (take head before) s)

-- what was run to its end
pub run_over : (formula : List (List ℕ)) (pairs : List WatchedPair) (lists : List (List ℕ)) (units base : List ℕ) (marks : List Bool) (trail : List ℕ) (head : ℕ) → length trail ≤ head → IsState formula pairs lists units base marks (take head trail) → IsState formula pairs lists units base marks trail
run_over formula pairs lists units base marks trail head l s = subst (λ z. IsState formula pairs lists units base marks z) (take_all head trail l) s

pub extends_length : (xs ys : List ℕ) → Extends xs ys → length xs ≤ length ys
extends_length xs ys (m, e) = let f : length ys ≡ length (xs ++ m) = ap length e in omega (arith, f, length-append xs m)

pub trail_false : (marks : List Bool) (trail : List ℕ) (head literal negation : ℕ) → ((x : ℕ) → Contains trail x → Has marks x) → head < length trail → literal ≡ get_or trail head 0 → literal ≤ 8191 → negation ≡ flipped literal → Has marks (flipped negation)
trail_false marks trail head literal negation marked l e small f =
    let back : literal ≡ flipped negation = omega arith in
    subst (λ x. Has marks x) back (subst (λ x. Has marks x) (sym e) (marked (get_or trail head 0) (Contains-get_or trail head 0 l)))

pub take_front : (before after : List ℕ) (n : ℕ) → n ≡ length before → Extends before after → take n after ≡ before
take_front before after n e (more, f) =
    ap (λ z. take z after) e ∙ ap (take (length before)) f ∙ take-append-le (length before) before more (omega arith) ∙ take_all (length before) before (omega arith)

pub contains_front : (before after : List ℕ) (x : ℕ) → Extends before after → Contains before x → Contains after x
contains_front before after x (more, e) h = subst (λ z. Contains z x) (sym e) (Contains-append_left before more x h)
