-- The loop over one list.
use Rattle.std.proofs.Common.{◌≡◌, ℕ, ◌<◌, ◌≤◌, ◌+◌, ◌-◌, List, [], ◌∷◌, ◌++◌, inl, inr, Bool, length, take, get_or, set, sym, ap, ◌∙◌, subst, arith}
use Rattle.std.specs.List.{Contains, swap_remove}
use Rattle.std.proofs.lemmas.List.{take-set-le, take_more, take_all, get_or_default, get_or-set_same, take-take}
use Rattle.std.proofs.lemmas.List.Sorted.{IsPermutation-swap_remove, IsPermutation-sym, Contains-permutation}
use Rattle.rup_check.specs.Assignments.{flipped, Has}
use Rattle.rup_check.specs.Sets.{HasFalse, Grows}
use Rattle.rup_check.specs.Watches.{IsWatch, IsState, IsTaken, IsWithout}
use Rattle.rup_check.specs.declared.watches.WatchedPair.{WatchedPair}
use Rattle.rup_check.specs.declared.turns.Look.TheVariants as look
use Rattle.rup_check.proofs.PropagationLaws.{contains_cons, contains_cases}
use Rattle.rup_check.proofs.StateLaws.{opened, closed, restored}

-- a list without an item, whose place the last one took
pub without_of_swap : (before after : List ℕ) (i x : ℕ) → i < length before → x ≡ get_or before i x → after ≡ swap_remove before i x → IsWithout before after x
without_of_swap before after i x l v e =
    let p = IsPermutation-swap_remove before i x l v in
    record {
      others = λ k n h. (elim (contains_cases x (swap_remove before i x) k (Contains-permutation before (x ∷ swap_remove before i x) k p h)) [
        | inl f ↦ absurd (n (sym f))
        | inr r ↦ subst (λ z. Contains z k) (sym e) r
      ]);
      only = λ k h. Contains-permutation (x ∷ swap_remove before i x) before k (IsPermutation-sym before (x ∷ swap_remove before i x) p) (contains_cons x (swap_remove before i x) k (subst (λ z. Contains z k) e h));
    }

-- what was not looked at stays in place
pub take_of_swap : (before after : List ℕ) (i x : ℕ) → i < length before → after ≡ swap_remove before i x → take i after ≡ take i before
take_of_swap before after i x l e =
    ap (take i) e ∙ take-take i (length before - 1) (set before i (get_or before (length before - 1) x)) (omega arith) ∙ take-set-le i before i (get_or before (length before - 1) x) (omega arith)

module _ (formula : List (List ℕ)) (number q : ℕ) (pairs pairs' : List WatchedPair) (lists lists' : List (List ℕ)) (marks marks' : List Bool) (held : List ℕ) (left : ℕ) (within : left < length held) (number_is : number ≡ get_or held left 0) where
  popped : take (left + 1) held ≡ take left held ++ number ∷ []
  popped = take_more held left 0 within ∙ ap (λ z. take left held ++ z ∷ []) (sym number_is)

  given_as : (units base done : List ℕ) → IsWatch formula pairs lists units base held (take (left + 1) held) q marks done → IsWatch formula pairs lists units base held (take left held ++ number ∷ []) q marks done
  given_as units base done w = subst (λ z. IsWatch formula pairs lists units base held z q marks done) popped w

  pub turn_stays : IsTaken formula number q pairs lists marks pairs' lists' marks' look.Stays → (units base done : List ℕ) → IsWatch formula pairs lists units base held (take (left + 1) held) q marks done → IsWatch formula pairs' lists' units base held (take left held) q marks' done
  turn_stays t units base done w = t units base held (take left held) done (given_as units base done w)

  pub turn_leaves : (held' : List ℕ) (x : ℕ) → x ≡ get_or held left x → held' ≡ swap_remove held left x → IsTaken formula number q pairs lists marks pairs' lists' marks' look.Leaves → (units base done : List ℕ) → IsWatch formula pairs lists units base held (take (left + 1) held) q marks done → IsWatch formula pairs' lists' units base held' (take left held') q marks' done
  turn_leaves held' x v s t units base done w =
      let same : x ≡ number = v ∙ get_or_default held left x 0 (omega arith) ∙ sym number_is in
      let without : IsWithout held held' number = subst (λ z. IsWithout held held' z) same (without_of_swap held held' left x within v s) in
      subst (λ z. IsWatch formula pairs' lists' units base held' z q marks' done) (sym (take_of_swap held held' left x within s)) (t units base held held' (take left held) done without (given_as units base done w))

  pub turn_false : (after : List (List ℕ)) → q ≤ 8191 → get_or lists q [] ≡ [] → after ≡ set lists' q held → Grows marks marks' → IsTaken formula number q pairs lists marks pairs' lists' marks' look.IsFalse → (units base done : List ℕ) → IsWatch formula pairs lists units base held (take (left + 1) held) q marks done → IsState formula pairs' after units base marks' [] × HasFalse formula marks'
  turn_false after small out d grows t units base done w =
      let s : IsState formula pairs (set lists q held) units base marks' [] = restored formula pairs lists units base held (take (left + 1) held) q marks done small out w marks' grows in
      let same : set lists q held ≡ after = ap (λ z. set z q held) (sym t.1) ∙ sym d in
      (subst (λ z. IsState formula z after units base marks' []) (sym t.0) (subst (λ z. IsState formula pairs z units base marks' []) same s), t.2)

pub below : (left count : ℕ) → 0 < left → left ≤ count → left - 1 < count
below left count some l = omega arith

pub in_lists : (q : ℕ) (lists : List (List ℕ)) → q ≤ 8191 → length lists ≡ 8192 → q < length lists
in_lists q lists small sized = omega arith

pub out_of : (lists after : List (List ℕ)) (q : ℕ) → q ≤ 8191 → length lists ≡ 8192 → after ≡ set lists q [] → get_or after q [] ≡ []
out_of lists after q small sized a = ap (λ z. get_or z q []) a ∙ get_or-set_same lists q [] [] (in_lists q lists small sized)

pub watch_at : (formula : List (List ℕ)) (pairs : List WatchedPair) (lists : List (List ℕ)) (units base : List ℕ) (held : List ℕ) (left q : ℕ) (marks : List Bool) (done : List ℕ) → 0 < left → IsWatch formula pairs lists units base held (take left held) q marks done → IsWatch formula pairs lists units base held (take (left - 1 + 1) held) q marks done
watch_at formula pairs lists units base held left q marks done some w =
    let back : left ≡ left - 1 + 1 = omega arith in
    subst (λ z. IsWatch formula pairs lists units base held (take z held) q marks done) back w

pub opened_by : (formula : List (List ℕ)) (pairs : List WatchedPair) (lists after : List (List ℕ)) (held : List ℕ) (left q : ℕ) (marks : List Bool) → q ≤ 8191 → held ≡ get_or lists q [] → left ≡ length held → after ≡ set lists q [] → (units base done : List ℕ) → IsState formula pairs lists units base marks done → IsWatch formula pairs after units base held (take left held) q marks done
opened_by formula pairs lists after held left q marks small p l a units base done s =
    let all : take left held ≡ held = take_all left held (omega arith) in
    subst (λ z. IsWatch formula pairs after units base held z q marks done) (sym all) (subst (λ z. IsWatch formula pairs z units base held held q marks done) (sym a) (subst (λ z. IsWatch formula pairs (set lists q []) units base z z q marks done) (sym p) (opened formula pairs lists units base q marks done small s)))

pub closed_by : (formula : List (List ℕ)) (pairs : List WatchedPair) (lists after : List (List ℕ)) (units base : List ℕ) (held : List ℕ) (left q : ℕ) (marks : List Bool) (done : List ℕ) → q ≤ 8191 → get_or lists q [] ≡ [] → after ≡ set lists q held → Has marks (flipped q) → left ≡ 0 → IsWatch formula pairs lists units base held (take left held) q marks done → IsState formula pairs after units base marks (done ++ flipped q ∷ [])
closed_by formula pairs lists after units base held left q marks done small out a h l w =
    subst (λ z. IsState formula pairs z units base marks (done ++ flipped q ∷ [])) (sym a) (closed formula pairs lists units base held (take left held) q marks done small out w h (ap (λ z. take z held) l))
