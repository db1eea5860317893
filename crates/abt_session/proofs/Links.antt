-- Runs that starve a link.
use Rattle.std.proofs.Common.{◌≡◌, ◌≢◌, ℕ, zero, suc, ◌-◌, ◌<◌, ◌≤◌, ◌%◌, Bool, true, false, cond, not, ◌&&◌, List, [], ◌∷◌, length, nat_lt, Option, Some, None, is_some, unwrap_or, slice_get, get_or, ◌==◌, refl, sym, ap, ◌∙◌, arith, mod-eq_of_lt, inl, inr}
use Rattle.std.specs.List.{position, position_or_len}
use Rattle.std.proofs.lemmas.Bool.Decides.{nat_tests, eqb_tells}
use Rattle.std.proofs.lemmas.List.Sums.{position_or_len_is}
use Rattle.dcsp_defs.specs.Csp.{Csp}
use Rattle.abt_defs.specs.Network.{Network, ready, deliver, is_empty}
use Rattle.abt_defs.specs.Runs.{End, Refuted, Solved, Capped, Spent, Run, stop, stopped, go, delivery, with_delivery, starved_choice, starved_choices}
use Rattle.law_runs.proofs.Again.{Goes, goes, stop_none, not_empty}

-- a starved choice is the number of a nonempty list
position_below : {X : Type 0} → (f : X → Bool) (xs : List X) → 0 < length xs → unwrap_or (position f xs) 0 < length xs
position_below f xs some = by_test (nat_lt (position_or_len f xs) (length xs)) refl
  where
    by_test : (b : Bool) → nat_lt (position_or_len f xs) (length xs) ≡ b → unwrap_or (cond b (Some (position_or_len f xs)) None) 0 < length xs
    by_test true e = grind (arith, nat_tests)
    by_test false e = some

pub choice_below : (p : Csp) (a b : ℕ) (net : Network) → is_empty (ready p net) ≡ false → starved_choice p a b net < length (ready p net)
choice_below p a b net h = position_below (λ (x : ℕ × ℕ). not (a == x.0 && b == x.1)) (ready p net) (not_empty (ready p net) h)

-- so it is the number of its list itself
own_number : (p : Csp) (a b : ℕ) (net : Network) → is_empty (ready p net) ≡ false → starved_choice p a b net % length (ready p net) ≡ starved_choice p a b net
own_number p a b net h = mod-eq_of_lt (choice_below p a b net h)

module _ (p : Csp) (a b : ℕ) where
  -- the choices where the run goes on
  pub goes_on : (most : ℕ) (net : Network) → Goes p (suc most) net → starved_choices p a b (suc most) net ≡ starved_choice p a b net ∷ starved_choices p a b most (deliver p (starved_choice p a b net) net)
  goes_on most net g = rw (stop_none p (suc most) net g) refl

  go_once : (most : ℕ) (c : ℕ) (cs : List ℕ) (net : Network) → Goes p (suc most) net → go p (suc most) (c ∷ cs) net ≡ with_delivery (c % length (ready p net)) (delivery p c net) (go p most cs (deliver p c net))
  go_once most c cs net g =
      let e : suc most - 1 ≡ most = omega arith in
      ap (λ s. cond (is_some s) (stopped p (suc most) (c ∷ cs) net) (with_delivery (c % length (ready p net)) (delivery p c net) (go p (suc most - 1) cs (deliver p c net)))) (stop_none p (suc most) net g)
      ∙ ap (λ k. with_delivery (c % length (ready p net)) (delivery p c net) (go p k cs (deliver p c net))) e

  -- and its run
  pub one_turn : (most : ℕ) (net : Network) → Goes p (suc most) net
      → go p (suc most) (starved_choices p a b (suc most) net) net
      ≡ with_delivery (starved_choice p a b net % length (ready p net)) (delivery p (starved_choice p a b net) net) (go p most (starved_choices p a b most (deliver p (starved_choice p a b net) net)) (deliver p (starved_choice p a b net) net))
  one_turn most net g =
      let c = starved_choice p a b net in
      ap (λ cs. go p (suc most) cs net) (goes_on most net g) ∙ go_once most c (starved_choices p a b most (deliver p c net)) net g

  -- where it is stopped
  pub stays : (most : ℕ) (net : Network) → is_some (stop p most net) ≡ true → starved_choices p a b most net ≡ []
  stays zero net h = refl
  stays (suc most) net h = rw h refl

  pub own_numbers : (most : ℕ) (net : Network) → (go p most (starved_choices p a b most net) net).numbers ≡ starved_choices p a b most net
  own_numbers zero net = refl
  own_numbers (suc most) net = by_test (own_numbers most (deliver p (starved_choice p a b net) net)) (is_some (stop p (suc most) net)) refl
    where
      by_test : (go p most (starved_choices p a b most (deliver p (starved_choice p a b net) net)) (deliver p (starved_choice p a b net) net)).numbers ≡ starved_choices p a b most (deliver p (starved_choice p a b net) net)
          → (s : Bool) → is_some (stop p (suc most) net) ≡ s → (go p (suc most) (starved_choices p a b (suc most) net) net).numbers ≡ starved_choices p a b (suc most) net
      by_test ih true e = rw (stays (suc most) net e) refl
      by_test ih false e =
          let g = goes p (suc most) net e in
          let c = starved_choice p a b net in
          ap (λ (r : Run). r.numbers) (one_turn most net g)
          ∙ ap (λ n. n ∷ (go p most (starved_choices p a b most (deliver p c net)) (deliver p c net)).numbers) (own_number p a b net g.transit)
          ∙ ap (λ l. c ∷ l) ih ∙ sym (goes_on most net g)

  -- its choices are never used up before it is stopped
  pub not_spent : (most : ℕ) (net : Network) → (go p most (starved_choices p a b most net) net).end ≢ Spent
  not_spent zero net h = by_tests net.refuted (is_empty (ready p net)) h
    where
      by_tests : (x y : Bool) → unwrap_or (cond x (Some Refuted) (cond y (Some Solved) (Some Capped))) Spent ≢ Spent
      by_tests true y e = cc
      by_tests false true e = cc
      by_tests false false e = cc
  not_spent (suc most) net h = by_test (not_spent most (deliver p (starved_choice p a b net) net)) (is_some (stop p (suc most) net)) refl
    where
      some_end : (o : Option End) → is_some o ≡ true → o ≢ Some Spent → unwrap_or o Spent ≢ Spent
      some_end None e f k = cc
      some_end (Some x) e f k = f (ap Some k)

      none_spent : stop p (suc most) net ≢ Some Spent
      none_spent = by_tests net.refuted (is_empty (ready p net)) (suc most == 0)
        where
          by_tests : (x y z : Bool) → cond x (Some Refuted) (cond y (Some Solved) (cond z (Some Capped) None)) ≢ Some Spent
          by_tests true y z e = cc
          by_tests false true z e = cc
          by_tests false false true e = cc
          by_tests false false false e = cc

      by_test : (go p most (starved_choices p a b most (deliver p (starved_choice p a b net) net)) (deliver p (starved_choice p a b net) net)).end ≢ Spent → (s : Bool) → is_some (stop p (suc most) net) ≡ s → ⊥
      by_test ih true e = some_end (stop p (suc most) net) e none_spent (sym (ap (λ cs. (go p (suc most) cs net).end) (stays (suc most) net e)) ∙ h)
      by_test ih false e = ih (sym (ap (λ (r : Run). r.end) (one_turn most net (goes p (suc most) net e))) ∙ h)

-- ---- the first list of another pair

module _ (a b : ℕ) where
  abbrev pub is_other : ℕ × ℕ → Bool
  is_other x = not (a == x.0 && b == x.1)

  -- the pair is no other
  same_pair : is_other (a, b) ≡ false
  same_pair = elim (eqb_tells a a) [ inl t ↦ elim (eqb_tells b b) [ inl u ↦ rw (t.0, u.0) refl | inr u ↦ absurd (u.1 refl) ] | inr t ↦ absurd (t.1 refl) ]

  -- a test tells
  pub tested : (x : ℕ × ℕ) (t : Bool) → t ≡ true → t ≡ not (x.0 == a && x.1 == b) → x ≢ (a, b)
  tested x t passes is e =
      let same : not (x.0 == a && x.1 == b) ≡ false = rw e same_pair in
      let clash : true ≡ false = sym passes ∙ is ∙ same in
      cc

  pub unlike_pair : (x : ℕ × ℕ) → x ≢ (a, b) → is_other x ≡ true
  unlike_pair x n = elim (eqb_tells a x.0) [
    | inl t ↦ elim (eqb_tells b x.1) [ inl u ↦ absurd (n (rw (t.1, u.1) refl)) | inr u ↦ rw (t.0, u.0) refl ]
    | inr t ↦ rw t.0 refl
  ]

  at_place : (xs : List (ℕ × ℕ)) (k : ℕ) (x : ℕ × ℕ) → slice_get xs k ≡ Some x → get_or xs k (0, 0) ≡ x
  at_place [] k x h = cc
  at_place (y ∷ ys) zero x h = cc
  at_place (y ∷ ys) (suc k) x h = at_place ys k x h

  within : (xs : List (ℕ × ℕ)) (k : ℕ) (x : ℕ × ℕ) → slice_get xs k ≡ Some x → k < length xs
  within [] k x h = cc
  within (y ∷ ys) zero x h = omega arith
  within (y ∷ ys) (suc k) x h = let l = within ys k x h in omega arith

  module _ (xs : List (ℕ × ℕ)) (n : ℕ) (before : (k : ℕ) → k < n → slice_get xs k ≡ Some (a, b)) where
    are_same : (k : ℕ) → k < n → is_other (get_or xs k (0, 0)) ≡ false
    are_same k l = rw (at_place xs k (a, b) (before k l)) same_pair

    -- the first that is another
    pub found_first : (x : ℕ × ℕ) → slice_get xs n ≡ Some x → x ≢ (a, b) → unwrap_or (position is_other xs) 0 ≡ n
    found_first x h u =
        let l = within xs n x h in
        let e : position_or_len is_other xs ≡ n = position_or_len_is is_other xs n (0, 0) (omega arith) are_same (λ m. rw (at_place xs n x h) (unlike_pair x u)) in
        let t : nat_lt n (length xs) ≡ true = grind (arith, nat_tests) in
        rw (e, t) refl

    -- there is no other
    pub found_none : length xs ≤ n → unwrap_or (position is_other xs) 0 ≡ 0
    found_none l =
        let e : position_or_len is_other xs ≡ length xs = position_or_len_is is_other xs (length xs) (0, 0) (omega arith) (λ k m. are_same k (omega arith)) (λ m. absurd (omega arith)) in
        let t : nat_lt (length xs) (length xs) ≡ false = grind (arith, nat_tests) in
        rw (e, t) refl
