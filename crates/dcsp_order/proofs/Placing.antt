-- Variables that are placed one after the other.
use Rattle.std.proofs.Common.{◌≡◌, ◌≢◌, ℕ, zero, suc, ◌+◌, ◌*◌, ◌<◌, ◌≤◌, Bool, true, false, cond, not, ◌&&◌, ◌||◌, ◌⊎◌, List, [], ◌∷◌, ◌++◌, length, take, set, get_or, Option, None, Some, inl, inr, refl, sym, ap, subst, ◌∙◌, arith, length-set, get_or-set_same, get_or-set_other}
use Rattle.std.specs.Prelude.{◌==◌}
use Rattle.std.specs.List.{list_any, count_by}
use Rattle.std.proofs.lemmas.Bool.{cases_lt}
use Rattle.std.proofs.lemmas.Bool.Decides.{eqb_tells, nat_tests}
use Rattle.std.proofs.lemmas.List.{length_push, take_at, take_all}
use Rattle.dcsp_defs.specs.Words.{In}
use Rattle.dcsp_defs.specs.Csp.{Csp, Constraint, count}
use Rattle.dcsp_defs.proofs.Lists.{In-left, In-right, In-list_any, list_any-In}
use Rattle.dcsp_order.specs.Orders.{number_at, place_of, IsDistinct}
use Rattle.dcsp_order.specs.ByRule.{is_among, share_scope, are_neighbours, neighbours_among, GreaterOr, IsBefore, IsOrderBy}
use Rattle.dcsp_order.specs.declared.by_rule.OrderRule.{OrderRule}
use Rattle.dcsp_order.specs.declared.by_rule.OrderRule.TheVariants.{Degree, Links, Reverse}
use Rattle.std.proofs.lemmas.List.Folds.{list_any-append}
use Rattle.dcsp_order.specs.Taken.{flag_at, AreTaken}
use Rattle.dcsp_order.proofs.Flags.{sets_one}
use Rattle.dcsp_order.specs.Turns.{links_of, weight_of, is_greater, gain, IsAhead, IsNext, AreWeights, GainsLinks}
use Rattle.dcsp_order.specs.Shared.{AreShared}
use Rattle.dcsp_order.proofs.Places.{item_in, place_there_again}
use Rattle.dcsp_order.proofs.Missing.{AreSome, missing, some_push}
use Rattle.std.proofs.lemmas.List.Sums.{sum_by-append, count_by-le-length}

-- ---- who is next

module _ (left : List Bool) (linked weights : List ℕ) where
  pub next_skip : (n : ℕ) (o : Option ℕ) → IsNext left linked weights n o → flag_at left n ≡ false → IsNext left linked weights (n + 1) o
  next_skip n None h gone = λ k l. elim (eqb_tells k n) [ inl t ↦ ap (flag_at left) t.1 ∙ gone | inr t ↦ h k (omega (arith, l, t.1)) ]
  next_skip n (Some i) h gone = (
    omega (arith, h.0),
    h.1,
    λ k l there other. elim (eqb_tells k n) [
      | inl t ↦ absurd (let no : true ≡ false = sym there ∙ ap (flag_at left) t.1 ∙ gone in cc)
      | inr t ↦ h.2 k (omega (arith, l, t.1)) there other
    ],
  )

  pub next_first : (n : ℕ) → IsNext left linked weights n None → flag_at left n ≡ true → IsNext left linked weights (n + 1) (Some n)
  next_first n h there = (omega arith, there, λ k l here other. absurd (let no : true ≡ false = sym here ∙ h k (omega (arith, l, other)) in cc))

  greater_ahead : (i k : ℕ) → is_greater linked weights i k ≡ true → IsAhead linked weights i k
  greater_ahead i k e = by (cases_lt (get_or linked k 0) (get_or linked i 0)) (cases_lt (get_or weights k 0) (get_or weights i 0)) where
    by : (get_or linked k 0 < get_or linked i 0) ⊎ (get_or linked i 0 ≤ get_or linked k 0) → (get_or weights k 0 < get_or weights i 0) ⊎ (get_or weights i 0 ≤ get_or weights k 0) → IsAhead linked weights i k
    by (inl l) o = inl l
    by (inr g) (inl l) = inr (grind (arith, nat_tests), inl l)
    by (inr g) (inr h) = absurd (grind (arith, nat_tests))

  stays_ahead : (i k : ℕ) → is_greater linked weights k i ≡ false → i < k → IsAhead linked weights i k
  stays_ahead i k e low = by (cases_lt (get_or linked k 0) (get_or linked i 0)) (cases_lt (get_or weights k 0) (get_or weights i 0)) where
    by : (get_or linked k 0 < get_or linked i 0) ⊎ (get_or linked i 0 ≤ get_or linked k 0) → (get_or weights k 0 < get_or weights i 0) ⊎ (get_or weights i 0 ≤ get_or weights k 0) → IsAhead linked weights i k
    by (inl l) o = inl l
    by (inr g) (inl l) = inr (grind (arith, nat_tests), inl l)
    by (inr g) (inr h) = inr (grind (arith, nat_tests), inr (grind (arith, nat_tests), low))

  ahead_then : (i j k : ℕ) → IsAhead linked weights i j → IsAhead linked weights j k → IsAhead linked weights i k
  ahead_then i j k (inl a) (inl b) = inl (omega (arith, a, b))
  ahead_then i j k (inl a) (inr b) = inl (let e = b.0 in omega (arith, a, e))
  ahead_then i j k (inr a) (inl b) = inl (let e = a.0 in omega (arith, b, e))
  ahead_then i j k (inr a) (inr b) = inr (a.0 ∙ b.0, then a.1 b.1) where
    then : GreaterOr (get_or weights i 0) (get_or weights j 0) (i < j) → GreaterOr (get_or weights j 0) (get_or weights k 0) (j < k) → GreaterOr (get_or weights i 0) (get_or weights k 0) (i < k)
    then (inl c) (inl d) = inl (omega (arith, c, d))
    then (inl c) (inr d) = inl (let e = d.0 in omega (arith, c, e))
    then (inr c) (inl d) = inl (let e = c.0 in omega (arith, d, e))
    then (inr c) (inr d) = inr (c.0 ∙ d.0, let l = c.1 in let m = d.1 in omega (arith, l, m))

  pub next_take : (n i : ℕ) → IsNext left linked weights n (Some i) → flag_at left n ≡ true → is_greater linked weights n i ≡ true → IsNext left linked weights (n + 1) (Some n)
  next_take n i h there e = (
    omega arith,
    there,
    λ k l here other. elim (eqb_tells k i) [
      | inl t ↦ subst (λ (z : ℕ). IsAhead linked weights n z) (sym t.1) (greater_ahead n i e)
      | inr t ↦ ahead_then n i k (greater_ahead n i e) (h.2 k (omega (arith, l, other)) here t.1)
    ],
  )

  pub next_stay : (n i : ℕ) → IsNext left linked weights n (Some i) → is_greater linked weights n i ≡ false → IsNext left linked weights (n + 1) (Some i)
  next_stay n i h e = (
    omega (arith, h.0),
    h.1,
    λ k l here other. elim (eqb_tells k n) [
      | inl t ↦ subst (λ (z : ℕ). IsAhead linked weights i z) (sym t.1) (stays_ahead i n e h.0)
      | inr t ↦ h.2 k (omega (arith, l, t.1)) here other
    ],
  )

-- ---- what is placed so far

-- each of these numbers stands before all that are not among those up to it
pub record IsPartly (rule : OrderRule) (p : Csp) (numbers : List ℕ) : Type 0 where
  pub some : AreSome (count p) numbers
  pub first : (a k : ℕ) → a < length numbers → k < count p → (In k (take (a + 1) numbers) → ⊥) → IsBefore rule p (take a numbers) (number_at numbers a) k

take_front : (numbers : List ℕ) (i a : ℕ) → a ≤ length numbers → take a (numbers ++ i ∷ []) ≡ take a numbers
take_front numbers i zero l = refl
take_front [] i (suc a) l = absurd (omega (arith, l))
take_front (x ∷ numbers) i (suc a) l = ap (λ z. x ∷ z) (take_front numbers i a (omega (arith, l)))

number_front : (numbers : List ℕ) (i a d : ℕ) → a < length numbers → get_or (numbers ++ i ∷ []) a d ≡ get_or numbers a d
number_front [] i a d l = absurd (omega (arith, l))
number_front (x ∷ numbers) i zero d l = refl
number_front (x ∷ numbers) i (suc a) d l = number_front numbers i a d (omega (arith, l))

number_last : (numbers : List ℕ) (i d : ℕ) → get_or (numbers ++ i ∷ []) (length numbers) d ≡ i
number_last [] i d = refl
number_last (x ∷ numbers) i d = number_last numbers i d

-- one variable more
pub partly_more : (rule : OrderRule) (p : Csp) (numbers : List ℕ) (i : ℕ) → IsPartly rule p numbers → i < count p → (In i numbers → ⊥)
    → ((k : ℕ) → k < count p → (In k numbers → ⊥) → k ≢ i → IsBefore rule p numbers i k) → IsPartly rule p (numbers ++ i ∷ [])
partly_more rule p numbers i so_far low new before = record {
  some = some_push (count p) i numbers so_far.some low new;
  first = λ a k l lk absent. by a k l lk absent (cases_lt a (length numbers));
} where
  longer : length (numbers ++ i ∷ []) ≡ length numbers + 1
  longer = length_push numbers i

  by : (a k : ℕ) → a < length (numbers ++ i ∷ []) → k < count p → (In k (take (a + 1) (numbers ++ i ∷ [])) → ⊥) → (a < length numbers) ⊎ (length numbers ≤ a)
      → IsBefore rule p (take a (numbers ++ i ∷ [])) (number_at (numbers ++ i ∷ []) a) k
  by a k l lk absent (inl within) =
      let old = so_far.first a k within lk (subst (λ (z : List ℕ). In k z → ⊥) (take_front numbers i (a + 1) (omega (arith, within))) absent) in
      subst (λ (z : List ℕ). IsBefore rule p z (number_at (numbers ++ i ∷ []) a) k) (sym (take_front numbers i a (omega (arith, within))))
      (subst (λ (z : ℕ). IsBefore rule p (take a numbers) z k) (sym (number_front numbers i a a within)) old)
  by a k l lk absent (inr beyond) =
      let last : a ≡ length numbers = omega (arith, beyond, l, longer) in
      let all : take (a + 1) (numbers ++ i ∷ []) ≡ numbers ++ i ∷ [] = take_all (a + 1) (numbers ++ i ∷ []) (omega (arith, last, longer)) in
      let front : take a (numbers ++ i ∷ []) ≡ numbers = take_at numbers (i ∷ []) a (sym last) in
      let here : number_at (numbers ++ i ∷ []) a ≡ i = ap (λ z. get_or (numbers ++ i ∷ []) z a) last ∙ number_last numbers i a in
      let none : In k (numbers ++ i ∷ []) → ⊥ = subst (λ (z : List ℕ). In k z → ⊥) all absent in
      let new_one = before k lk (λ j. none (In-left k numbers (i ∷ []) j)) (λ e. none (In-right k numbers (i ∷ []) (inl e))) in
      subst (λ (z : List ℕ). IsBefore rule p z (number_at (numbers ++ i ∷ []) a) k) (sym front)
      (subst (λ (z : ℕ). IsBefore rule p numbers z k) (sym here) new_one)

place_taken : (xs : List ℕ) (m k : ℕ) → In k (take m xs) → place_of xs k < m
place_taken xs zero k i = absurd i
place_taken [] (suc m) k i = absurd i
place_taken (x ∷ xs) (suc m) k i = elim (eqb_tells k x) [
  | inl t ↦ rw t.0 (omega arith)
  | inr t ↦ rw t.0 (let low = place_taken xs m k (elim i [ inl e ↦ absurd (t.1 e) | inr j ↦ j ]) in omega (arith, low))
]

-- a number of a later place is not among those before
pub not_before : (xs : List ℕ) (m b d : ℕ) → IsDistinct xs → m ≤ b → b < length xs → In (get_or xs b d) (take m xs) → ⊥
not_before xs m b d once l within i =
    let low = place_taken xs m (get_or xs b d) i in
    let there = place_there_again xs b d once within in
    omega (arith, low, there, l)

-- all variables are placed
pub partly_whole : (rule : OrderRule) (p : Csp) (numbers : List ℕ) → IsPartly rule p numbers → length numbers ≡ count p → IsOrderBy rule p numbers
partly_whole rule p numbers so_far whole = record {
  is_order = record { whole = whole; inside = so_far.some.inside; once = so_far.some.once };
  first = λ a b before l.
      let within : b < length numbers = omega (arith, whole, l) in
      so_far.first a (number_at numbers b) (omega (arith, within, before)) (so_far.some.inside (number_at numbers b) (item_in numbers b b within))
      (not_before numbers (a + 1) b b so_far.some.once (omega (arith, before)) within);
}

-- ---- what the counts say

-- the counts of links and the weights
pub record AreCounts (rule : OrderRule) (p : Csp) (numbers : List ℕ) (left : List Bool) (linked : List ℕ) : Type 0 where
  pub left_many : length left ≡ count p
  pub left_are : (k : ℕ) → k < count p → flag_at left k ≡ not (is_among k numbers)
  pub linked_many : length linked ≡ count p
  pub linked_are : (k : ℕ) → k < count p → get_or linked k 0 ≡ links_of rule p numbers k

-- what goes ahead by the counts goes before by the rule
pub before_by_rule : (rule : OrderRule) (p : Csp) (numbers : List ℕ) (i k : ℕ)
    → GreaterOr (links_of rule p numbers i) (links_of rule p numbers k) (GreaterOr (weight_of rule p i) (weight_of rule p k) (i < k)) → IsBefore rule p numbers i k
before_by_rule Degree p numbers i k (inl l) = absurd (omega (arith, l))
before_by_rule Degree p numbers i k (inr r) = r.1
before_by_rule Links p numbers i k h = h
before_by_rule Reverse p numbers i k (inl l) = absurd (omega (arith, l))
before_by_rule Reverse p numbers i k (inr (e, inl l)) = l
before_by_rule Reverse p numbers i k (inr (e, inr r)) = absurd (let same = r.0 in let low = r.1 in omega (arith, same, low))

not_among : (k : ℕ) (numbers : List ℕ) → (In k numbers → ⊥) → is_among k numbers ≡ false
not_among k numbers absent = by (is_among k numbers) refl where
  by : (b : Bool) → is_among k numbers ≡ b → is_among k numbers ≡ false
  by false e = e
  by true e =
      let found = In-list_any (λ x. x == k) numbers e in
      elim (eqb_tells found.0 k) [
        | inl t ↦ absurd (absent (subst (λ (z : ℕ). In z numbers) t.1 found.1))
        | inr t ↦ absurd (let no : false ≡ true = sym t.0 ∙ found.2 in cc)
      ]

pub among : (k : ℕ) (numbers : List ℕ) → In k numbers → is_among k numbers ≡ true
among k numbers i = list_any-In (λ x. x == k) k numbers i (elim (eqb_tells k k) [ inl t ↦ t.0 | inr t ↦ absurd (t.1 refl) ])

pub from_among : (k : ℕ) (numbers : List ℕ) → is_among k numbers ≡ true → In k numbers
from_among k numbers e =
    let found = In-list_any (λ x. x == k) numbers e in
    elim (eqb_tells found.0 k) [
      | inl t ↦ subst (λ (z : ℕ). In z numbers) t.1 found.1
      | inr t ↦ absurd (let no : false ≡ true = sym t.0 ∙ found.2 in cc)
    ]

pub absent_from : (k : ℕ) (numbers : List ℕ) → is_among k numbers ≡ false → In k numbers → ⊥
absent_from k numbers e i = let no : true ≡ false = sym (among k numbers i) ∙ e in cc

module _ (rule : OrderRule) (p : Csp) (numbers : List ℕ) (left : List Bool) (linked weights : List ℕ) (counts : AreCounts rule p numbers left linked) (heavy : AreWeights rule p weights) where
  -- the next one is none of those that are placed, and goes before all others
  pub next_new : (i : ℕ) → IsNext left linked weights (count p) (Some i) → In i numbers → ⊥
  next_new i h here =
      let no : true ≡ false = sym h.1 ∙ counts.left_are i h.0 ∙ ap not (among i numbers here) in cc

  pub next_before : (i : ℕ) → IsNext left linked weights (count p) (Some i) → (k : ℕ) → k < count p → (In k numbers → ⊥) → k ≢ i → IsBefore rule p numbers i k
  next_before i h k l absent other =
      let there : flag_at left k ≡ true = counts.left_are k l ∙ ap not (not_among k numbers absent) in
      let ahead = h.2 k l there other in
      before_by_rule rule p numbers i k
      (same_words (counts.linked_are i h.0) (counts.linked_are k l) (heavy.each i h.0) (heavy.each k l) ahead)
    where
      same_words : {a b c d e f g j : ℕ} {X : Type 0} → a ≡ b → c ≡ d → e ≡ f → g ≡ j → GreaterOr a c (GreaterOr e g X) → GreaterOr b d (GreaterOr f j X)
      same_words q r s t x = rw (← q, ← r, ← s, ← t) x

  -- where fewer than all are placed, one is next
  pub some_next : AreSome (count p) numbers → length numbers < count p → IsNext left linked weights (count p) None → ⊥
  some_next some few none =
      let one = missing_one in
      let no : true ≡ false = sym (counts.left_are one.0 one.1 ∙ ap not (not_among one.0 numbers one.2)) ∙ none one.0 one.1 in cc
    where
      missing_one : (k : ℕ) × (k < count p) × (In k numbers → ⊥)
      missing_one = missing (count p) numbers some few

-- ---- one variable more is placed

share_swapped : (i k : ℕ) (cs : List Constraint) → list_any (λ (c : Constraint). is_among i c.scope && is_among k c.scope) cs ≡ list_any (λ (c : Constraint). is_among k c.scope && is_among i c.scope) cs
share_swapped i k [] = refl
share_swapped i k (c ∷ cs) = ap (λ b. b || list_any (λ (d : Constraint). is_among i d.scope && is_among k d.scope) cs) (swapped (is_among i c.scope) (is_among k c.scope))
    ∙ ap (λ b. (is_among k c.scope && is_among i c.scope) || b) (share_swapped i k cs) where
      swapped : (a b : Bool) → (a && b) ≡ (b && a)
      swapped true true = refl
      swapped true false = refl
      swapped false true = refl
      swapped false false = refl

test_swapped : (a b : ℕ) → (a == b) ≡ (b == a)
test_swapped a b = elim (eqb_tells a b) [
  | inl t ↦ t.0 ∙ sym (elim (eqb_tells b a) [ inl u ↦ u.0 | inr u ↦ absurd (u.1 (sym t.1)) ])
  | inr t ↦ t.0 ∙ sym (elim (eqb_tells b a) [ inl u ↦ absurd (t.1 (sym u.1)) | inr u ↦ u.0 ])
]

neighbours_swapped : (p : Csp) (i k : ℕ) → are_neighbours p i k ≡ (not (k == i) && share_scope p k i)
neighbours_swapped p i k = ap (λ b. not b && share_scope p i k) (test_swapped i k) ∙ ap (λ b. not (k == i) && b) (share_swapped i k p.constraints)

count_push : (f : ℕ → Bool) (xs : List ℕ) (x : ℕ) → count_by f (xs ++ x ∷ []) ≡ count_by f xs + cond (f x) 1 0
count_push f xs x = sum_by-append (λ y. cond (f y) 1 0) xs (x ∷ []) ∙ omega arith

-- the links that are counted
pub links_more : (rule : OrderRule) (p : Csp) (numbers : List ℕ) (number k : ℕ) (flag : Bool) → flag ≡ (not (number == k) && share_scope p number k)
    → links_of rule p numbers k + gain rule flag ≡ links_of rule p (numbers ++ number ∷ []) k
links_more Degree p numbers number k flag e = refl
links_more Reverse p numbers number k flag e = refl
links_more Links p numbers number k flag e =
    let is : flag ≡ are_neighbours p k number = e ∙ sym (neighbours_swapped p k number) in
    by flag is ∙ sym (count_push (are_neighbours p k) numbers number)
  where
    by : (b : Bool) → b ≡ are_neighbours p k number → neighbours_among p k numbers + gain Links b ≡ neighbours_among p k numbers + cond (are_neighbours p k number) 1 0
    by true t = ap (λ b. neighbours_among p k numbers + cond b 1 0) t
    by false t = ap (λ b. neighbours_among p k numbers + cond b 1 0) t

pub few_links : (rule : OrderRule) (p : Csp) (numbers : List ℕ) (k : ℕ) → links_of rule p numbers k ≤ length numbers
few_links Degree p numbers k = omega arith
few_links Reverse p numbers k = omega arith
few_links Links p numbers k = count_by-le-length (are_neighbours p k) numbers

-- ---- numbers that are taken

-- one number more is taken
pub taken_more : (numbers new : List ℕ) (taken : List Bool) (number : ℕ) → AreTaken numbers taken → number < length taken → new ≡ numbers ++ number ∷ [] → AreTaken new (set taken number true)
taken_more numbers new taken number are low e =
    λ k l.
    let one = sets_one taken number low in
    let old = are k (let same = one.as_many in omega (arith, l, same)) in
    one.each k (let same = one.as_many in omega (arith, l, same))
    ∙ ap (λ b. b || (k == number)) old
    ∙ ap (λ b. is_among k numbers || b) (test_swapped k number ∙ or_nothing (number == k))
    ∙ sym (list_any-append (λ x. x == k) numbers (number ∷ []))
    ∙ ap (is_among k) (sym e)
  where
    or_nothing : (b : Bool) → b ≡ (b || false)
    or_nothing true = refl
    or_nothing false = refl

-- ---- the whole turn

-- the same under other names
pub next_stands : {left first : List Bool} {linked second : List ℕ} (weights : List ℕ) {n m : ℕ} {o p : Option ℕ} → left ≡ first → linked ≡ second → n ≡ m → o ≡ p → IsNext left linked weights n o → IsNext first second weights m p
next_stands weights d e f g x = rw (← d, ← e, ← f, ← g) x

among_push : (k i : ℕ) (numbers : List ℕ) → is_among k (numbers ++ i ∷ []) ≡ (is_among k numbers || (i == k))
among_push k i numbers = list_any-append (λ x. x == k) numbers (i ∷ []) ∙ ap (λ b. is_among k numbers || b) (no_more (i == k)) where
  no_more : (b : Bool) → (b || false) ≡ b
  no_more true = refl
  no_more false = refl

left_more : (left : List Bool) (numbers : List ℕ) (i k : ℕ) → i < length left → flag_at left k ≡ not (is_among k numbers) → flag_at (set left i false) k ≡ not (is_among k (numbers ++ i ∷ []))
left_more left numbers i k low is = elim (eqb_tells k i) [
  | inl t ↦
      ap (flag_at (set left i false)) t.1 ∙ get_or-set_same left i false false low
      ∙ ap not (sym (among k (numbers ++ i ∷ []) (In-right k numbers (i ∷ []) (inl t.1))))
  | inr t ↦
      get_or-set_other left i k false false t.1 ∙ is
      ∙ ap not (or_nothing (is_among k numbers) ∙ ap (λ b. is_among k numbers || b) (sym (test_swapped i k ∙ t.0)) ∙ sym (among_push k i numbers))
] where
  or_nothing : (b : Bool) → b ≡ (b || false)
  or_nothing true = refl
  or_nothing false = refl

-- the counts with one variable more
pub counts_more : (rule : OrderRule) (p : Csp) (numbers new : List ℕ) (left : List Bool) (linked more : List ℕ) (shared : List Bool) (i : ℕ) → AreCounts rule p numbers left linked → AreShared p shared → i < count p
    → new ≡ numbers ++ i ∷ [] → GainsLinks rule i shared linked more → AreCounts rule p new (set left i false) more
counts_more rule p numbers new left linked more shared i counts flags low is gains = record {
  left_many = length-set left i false ∙ counts.left_many;
  left_are = λ k l. left_more left numbers i k (let many = counts.left_many in omega (arith, many, low)) (counts.left_are k l) ∙ ap (λ (z : List ℕ). not (is_among k z)) (sym is);
  linked_many = gains.as_many ∙ counts.linked_many;
  linked_are = λ k l.
      gains.each k (let many = counts.linked_many in omega (arith, many, l))
      ∙ ap (λ z. z + gain rule (not (i == k) && flag_at shared (i * length linked + k))) (counts.linked_are k l)
      ∙ links_more rule p numbers i k (not (i == k) && flag_at shared (i * length linked + k))
      (ap (λ b. not (i == k) && b) (ap (λ m. flag_at shared (i * m + k)) counts.linked_many ∙ flags.each i k low l))
      ∙ ap (λ (z : List ℕ). links_of rule p z k) (sym is);
}
