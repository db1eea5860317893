-- A starved link delivers only where no other list has a message.
use Rattle.std.proofs.Common.{◌≡◌, ℕ, zero, suc, ◌+◌, ◌≤◌, ◌%◌, ◌==◌, ◌&&◌, Bool, true, false, cond, not, ◌⊎◌, inl, inr, List, [], ◌∷◌, ◌++◌, map, flat_map, filter, length, slice_get, Option, Some, None, is_some, unwrap_or, refl, sym, ap, ◌∙◌, subst, arith}
use Rattle.std.specs.Prelude.{position, nat_lt}
use Rattle.std.specs.List.{prefix_len}
use Rattle.std.proofs.Math.ListN.{get_or}
use Rattle.std.proofs.Math.Nat.{mod-eq_of_lt}
use Rattle.std.proofs.lemmas.Bool.Decides.{eqb_tells, nat_tests}
use Rattle.std.proofs.lemmas.List.Quantifiers.{position-Some}
use Rattle.dcsp_defs.specs.Words.{In, below}
use Rattle.dcsp_defs.specs.Csp.{Csp, count}
use Rattle.dcsp_defs.proofs.Lists.{In-split, In-below, filter-from}
use Rattle.abt_defs.specs.Network.{Network, ready, deliver, run, start, is_empty, pairs}
use Rattle.abt_defs.specs.Runs.{Refuted, Solved, Capped, stop, starved_choice, starved_choices}
use Rattle.law_subjects.specs.Starving.{StarvedComeLast}

-- ---- no pair stands twice

abbrev NoTwice : {X : Type 0} → List X → Type 0
NoTwice [] = Unit {0}
NoTwice (x ∷ xs) = (In x xs → ⊥) × NoTwice xs

append_once : {X : Type 0} (xs ys : List X) → NoTwice xs → NoTwice ys → ((x : X) → In x xs → In x ys → ⊥) → NoTwice (xs ++ ys)
append_once [] ys h k apart = k
append_once (x ∷ xs) ys h k apart = (
  (λ i. elim (In-split x xs ys i) [ inl l ↦ h.0 l | inr r ↦ apart x (inl refl) r ]),
  append_once xs ys h.1 k (λ y i. apart y (inr i)),
)

filter_once : {X : Type 0} (q : X → Bool) (xs : List X) → NoTwice xs → NoTwice (filter q xs)
filter_once q [] h = tt
filter_once q (x ∷ xs) h =
    elim (q x) as (λ b. NoTwice (cond b (x ∷ filter q xs) (filter q xs))) [ true ↦ ((λ i. h.0 (filter-from q x xs i).0), filter_once q xs h.1) | false ↦ filter_once q xs h.1 ]

In-map_pair : (k : ℕ) (xs : List ℕ) (y : ℕ × ℕ) → In y (map (λ i. (k, i)) xs) → (y.0 ≡ k) × In y.1 xs
In-map_pair k [] y i = absurd i
In-map_pair k (x ∷ xs) y (inl e) = (ap (λ (z : ℕ × ℕ). z.0) e, inl (ap (λ (z : ℕ × ℕ). z.1) e))
In-map_pair k (x ∷ xs) y (inr i) = let r = In-map_pair k xs y i in (r.0, inr r.1)

row_once : (k : ℕ) (xs : List ℕ) → NoTwice xs → NoTwice {X = ℕ × ℕ} (map (λ (i : ℕ). (k, i)) xs)
row_once k [] h = tt
row_once k (x ∷ xs) h = ((λ i. h.0 (In-map_pair k xs (k, x) i).1), row_once k xs h.1)

below_once : (n : ℕ) → NoTwice (below n)
below_once zero = tt
below_once (suc n) = append_once (below n) (n ∷ []) (below_once n) ((λ i. i), tt) (λ x i j. elim j [ inl e ↦ let l = In-below n x i in omega (arith, l, e) | inr none ↦ none ])

rows : ℕ → List ℕ → List (ℕ × ℕ)
rows n ks = flat_map (λ k. map (λ i. (k, i)) (below n)) ks

In-rows : (n : ℕ) (ks : List ℕ) (y : ℕ × ℕ) → In y (rows n ks) → In y.0 ks
unfolding rows
In-rows n [] y i = absurd i
In-rows n (k ∷ ks) y i = elim (In-split y (map (λ j. (k, j)) (below n)) (rows n ks) i) [ inl l ↦ inl (In-map_pair k (below n) y l).0 | inr r ↦ inr (In-rows n ks y r) ]

rows_once : (n : ℕ) (ks : List ℕ) → NoTwice ks → NoTwice (rows n ks)
unfolding rows
rows_once n [] h = tt
rows_once n (k ∷ ks) h =
    append_once (map (λ (i : ℕ). (k, i)) (below n)) (rows n ks) (row_once k (below n) (below_once n)) (rows_once n ks h.1)
    (λ y i j. h.0 (subst (λ z. In z ks) (In-map_pair k (below n) y i).0 (In-rows n ks y j)))

ready_once : (p : Csp) (net : Network) → NoTwice (ready p net)
unfolding rows
ready_once p net = filter_once (λ (x : ℕ × ℕ). not (is_empty (net.links x.0 x.1))) (pairs (count p)) (rows_once (count p) (below (count p)) (below_once (count p)))

-- a list of one thing alone, which does not stand twice
one_alone : {X : Type 0} (x : X) (xs : List X) → NoTwice xs → ((y : X) → In y xs → y ≡ x) → is_empty xs ≡ false → xs ≡ x ∷ []
one_alone x [] h all some = cc
one_alone x (y ∷ []) h all some = ap (λ z. z ∷ []) (all y (inl refl))
one_alone {X = X} x (y ∷ z ∷ zs) h all some = absurd (h.0 (inl (all y (inl refl) ∙ sym (all z (inr (inl refl))))))

-- ---- the choice of a starved link

-- whether the pair is another than this link
abbrev is_other : ℕ → ℕ → ℕ × ℕ → Bool
is_other a b x = not (a == x.0 && b == x.1)

other_tells : (a b : ℕ) (x : ℕ × ℕ) → is_other a b x ≡ false → x ≡ (a, b)
other_tells a b (k, i) h = elim (eqb_tells a k) [
  | inl first ↦ elim (eqb_tells b i) [
    | inl second ↦ let P : ℕ × ℕ = (k, i) in rw (first.1, second.1) refl
    | inr other ↦ let passes : is_other a b (k, i) ≡ true = rw (first.0, other.0) refl in cc
  ]
  | inr other ↦ let passes : is_other a b (k, i) ≡ true = rw other.0 refl in cc
]

-- the link itself does not pass
itself_fails : (a b : ℕ) → is_other a b (a, b) ≡ false
itself_fails a b = elim (eqb_tells a a) [
  | inl first ↦ elim (eqb_tells b b) [ inl second ↦ rw (first.0, second.0) refl | inr other ↦ absurd (other.1 refl) ]
  | inr other ↦ absurd (other.1 refl)
]

none_from : {X : Type 0} (q : X → Bool) (xs : List X) → length xs ≤ prefix_len (λ x. not (q x)) xs → (x : X) → In x xs → q x ≡ false
none_from q [] h x i = absurd i
none_from q (y ∷ xs) h x i =
    (elim (q y) as (λ b. q y ≡ b → length (y ∷ xs) ≤ cond (not b) (1 + prefix_len (λ x. not (q x)) xs) 0 → In x (y ∷ xs) → q x ≡ false) [
      | true ↦ λ is g j. absurd (omega (arith, g))
      | false ↦ λ is g j. elim j [ inl e ↦ ap q e ∙ is | inr k ↦ none_from q xs (omega (arith, g)) x k ]
    ]) refl h i

none_passes : {X : Type 0} (q : X → Bool) (xs : List X) → position q xs ≡ None → (x : X) → In x xs → q x ≡ false
none_passes q xs h =
    let passed = prefix_len (λ x. not (q x)) xs in
    let all : length xs ≤ passed =
    (elim (nat_lt passed (length xs)) as (λ b. nat_lt passed (length xs) ≡ b → cond b (Some passed) None ≡ None → length xs ≤ passed) [
      | true ↦ λ is g. cc
      | false ↦ λ is g. grind (arith, nat_tests)
    ]) refl h in
    none_from q xs all

got : {X : Type 0} (xs : List X) (n : ℕ) (x d : X) → slice_get xs n ≡ Some x → get_or xs n d ≡ x
got [] n x d h = cc
got (y ∷ ys) zero x d h = let e : y ≡ x = cc in e
got (y ∷ ys) (suc n) x d h = got ys n x d h

the_last : (p : Csp) (a b : ℕ) (net : Network) → is_empty (ready p net) ≡ false
    → slice_get (ready p net) (starved_choice p a b net % length (ready p net)) ≡ Some (a, b) → ready p net ≡ (a, b) ∷ []
the_last p a b net some at = by_position (position (is_other a b) (ready p net)) refl where
  by_position : (o : Option ℕ) → position (is_other a b) (ready p net) ≡ o → ready p net ≡ (a, b) ∷ []
  by_position None none = one_alone (a, b) (ready p net) (ready_once p net) (λ y i. other_tells a b y (none_passes (is_other a b) (ready p net) none y i)) some
  by_position (Some n) is =
      let passes = position-Some (is_other a b) (ready p net) n (a, b) is in
      let small : n % length (ready p net) ≡ n = mod-eq_of_lt passes.0 in
      let choice : starved_choice p a b net ≡ n = ap (λ (o : Option ℕ). unwrap_or o 0) is in
      let there : slice_get (ready p net) n ≡ Some (a, b) = ap (slice_get (ready p net)) (sym small ∙ ap (λ c. c % length (ready p net)) (sym choice)) ∙ at in
      let link : get_or (ready p net) n (a, b) ≡ (a, b) = got (ready p net) n (a, b) (a, b) there in
      let yes : is_other a b (a, b) ≡ true = ap (is_other a b) (sym link) ∙ passes.1 in
      let no = itself_fails a b in
      cc

-- ---- the choices

nothing_there : (before after : List ℕ) (choice : ℕ) → [] ≡ before ++ choice ∷ after → ⊥
nothing_there [] after choice h = cc
nothing_there (c ∷ before) after choice h = cc

pub goes_on : (p : Csp) (most : ℕ) (net : Network) → is_some (stop p most net) ≡ false → (net.refuted ≡ false) × (is_empty (ready p net) ≡ false)
goes_on p most net h = by_refuted net.refuted refl h where
  by_ready : (e : Bool) → net.refuted ≡ false → is_empty (ready p net) ≡ e → is_some (cond e (Some Solved) (cond (most == 0) (Some Capped) None)) ≡ false → (net.refuted ≡ false) × (is_empty (ready p net) ≡ false)
  by_ready true open_ empty_ g = cc
  by_ready false open_ empty_ g = (open_, empty_)

  by_refuted : (r : Bool) → net.refuted ≡ r → is_some (cond r (Some Refuted) (cond (is_empty (ready p net)) (Some Solved) (cond (most == 0) (Some Capped) None))) ≡ false → (net.refuted ≡ false) × (is_empty (ready p net) ≡ false)
  by_refuted true is g = cc
  by_refuted false is g = by_ready (is_empty (ready p net)) is refl g

-- of choices that begin with one: it is the first of a row, or the row goes on behind it
first_or_later : (p : Csp) (c : ℕ) (rest front after : List ℕ) (choice : ℕ) (net : Network) → net.refuted ≡ false → c ∷ rest ≡ front ++ choice ∷ after
    → ((choice ≡ c) × (run p front net ≡ net)) ⊎ ((later : List ℕ) × (rest ≡ later ++ choice ∷ after) × (run p front net ≡ run p later (deliver p c net)))
first_or_later p c rest [] after choice net open_ h = let e : choice ≡ c = cc in inl (e, refl)
first_or_later p c rest (d ∷ front) after choice net open_ h =
    let same : d ≡ c = cc in
    let more : rest ≡ front ++ choice ∷ after = cc in
    inr (front, more, ap (λ b. cond b net (run p front (deliver p d net))) open_ ∙ ap (λ (e : ℕ). run p front (deliver p e net)) same)

chosen_from : (p : Csp) (a b most : ℕ) (net : Network) (before after : List ℕ) (choice : ℕ) → starved_choices p a b most net ≡ before ++ choice ∷ after
    → (choice ≡ starved_choice p a b (run p before net)) × (is_empty (ready p (run p before net)) ≡ false)
chosen_from p a b zero net before after choice h = absurd (nothing_there before after choice h)
chosen_from p a b (suc most) net before after choice h =
    let c = starved_choice p a b net in
    let rest = starved_choices p a b most (deliver p c net) in
    (elim (is_some (stop p (suc most) net)) as (λ s. is_some (stop p (suc most) net) ≡ s → cond s [] (c ∷ rest) ≡ before ++ choice ∷ after
    → (choice ≡ starved_choice p a b (run p before net)) × (is_empty (ready p (run p before net)) ≡ false)) [
      | true ↦ λ is none. absurd (nothing_there before after choice none)
      | false ↦ λ is more.
          let open_ = goes_on p (suc most) net is in
          elim (first_or_later p c rest before after choice net open_.0 more) [
            | inl first ↦ (rw first.1 first.0, rw first.1 open_.1)
            | inr later ↦ rw later.2 (chosen_from p a b most (deliver p c net) later.0 after choice later.1)
          ]
    ]) refl h

pub starved_come_last : (p : Csp) → StarvedComeLast p
starved_come_last p a b most before after choice is at =
    let net = run p before (start p) in
    let chosen = chosen_from p a b most (start p) before after choice is in
    the_last p a b net chosen.1 (ap (λ c. slice_get (ready p net) (c % length (ready p net))) (sym chosen.0) ∙ at)
