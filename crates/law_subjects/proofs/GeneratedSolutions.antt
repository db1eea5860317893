-- The solutions of generated problems, in the words of queens, colours and pigeons.
use Rattle.std.proofs.Common.{◌≡◌, ◌↔◌, ℕ, zero, suc, ◌+◌, ◌-◌, ◌%◌, ◌==◌, ◌<◌, ◌≤◌, ◌⊎◌, inl, inr, true, false, cond, if◌then◌else◌, List, [], ◌∷◌, ◌++◌, map, flat_map, codes, refl, sym, ap, ◌∙◌, subst, arith}
use Rattle.std.specs.Prelude.{ℤ, pos, ◌≤ℤ◌}
use Rattle.std.specs.Ordering.{int_eq}
use Rattle.std.specs.List.{range_with_len, AllByRecursion}
use Rattle.std.proofs.lemmas.Int.{ints}
use Rattle.std.proofs.lemmas.Bool.Decides.{eqb_tells, Decides-int_eq}
use Rattle.dcsp_gen.specs.Problems.{pairs, pairs_of, thrice}
use Rattle.dcsp_defs.specs.Words.{In}
use Rattle.dcsp_defs.specs.Csp.{Assignment, IsSolution}
use Rattle.dcsp_rule.specs.Problems.{csp_of}
use Rattle.law_subjects.specs.Lines.{ModelLine, Differ, Print, queens, queens_apart, colouring, edge, lines_with_words, neighbour, pigeons, pigeons_apart}
use Rattle.law_subjects.specs.Problems.{problem_of, rules_of}
use Rattle.law_subjects.specs.GeneratedSolutions.{value_of, AreWithinHigh, drawn, QueensArePlaced, ColouringsAreProper, PigeonsDoNotFit, SparseGraphsAreColoured, SixQueensArePlaced}
use Rattle.law_subjects.proofs.Lists.{all_map, all_flat_map, all_range}
use Rattle.law_subjects.proofs.Generators.{with_array, without_array, queens_within, colouring_within, sparse_within, pigeons_within}
use Rattle.law_subjects.proofs.Solutions.{Holds, solutions, lines_hold, tested, flat_map_all}

-- ---- pairs

pub range_all : (P : ℕ → Type 0) (a count : ℕ) → AllByRecursion P (range_with_len a count) → (i : ℕ) → a ≤ i → i < a + count → P i
range_all P a zero h i l r = absurd (omega (arith, l, r))
range_all P a (suc count) h i l r = elim (eqb_tells a i) [
  | inl same ↦ subst P same.1 h.0
  | inr other ↦ range_all P (a + 1) count h.1 i (omega (arith, l, other.1)) (omega (arith, r))
]

pub map_all : {X Y : Type 0} (P : Y → Type 0) (f : X → Y) (xs : List X) → AllByRecursion P (map f xs) → AllByRecursion (λ x. P (f x)) xs
map_all P f [] h = tt
map_all P f (x ∷ xs) h = (h.0, map_all P f xs h.1)

-- what holds of each pair of numbers from 1 to n holds of the list of pairs, and the other way round
pub pairs_each : (n : ℕ) (P : ℕ × ℕ → Type 0) → AllByRecursion P (pairs n) → (a b : ℕ) → 1 ≤ a → a < b → b ≤ n → P (a, b)
pairs_each n P h a b low less high =
    let rows = flat_map_all P (pairs_of n) (range_with_len 1 n) h in
    let row : AllByRecursion P (pairs_of n a) = range_all (λ first. AllByRecursion P (pairs_of n first)) 1 n rows a low (omega (arith, less, high)) in
    range_all (λ second. P (a, second)) (a + 1) (n - a) (map_all P (λ second. (a, second)) (range_with_len (a + 1) (n - a)) row) b (omega (arith, less)) (omega (arith, less, high))

pub each_pair : (n : ℕ) (P : ℕ × ℕ → Type 0) → ((a b : ℕ) → 1 ≤ a → a < b → b ≤ n → P (a, b)) → AllByRecursion P (pairs n)
each_pair n P f =
    all_flat_map P (pairs_of n) (range_with_len 1 n) (
    all_range (λ first. AllByRecursion P (pairs_of n first)) 1 n (λ first l r.
    all_map P (λ second. (first, second)) (range_with_len (first + 1) (n - first)) (
    all_range (λ second. P (first, second)) (first + 1) (n - first) (λ second m s. f first second l (omega (arith, m)) (omega (arith, r, s))))))

-- ---- queens

pub queens_are_placed : QueensArePlaced
queens_are_placed n low high values =
    let constraints = flat_map queens_apart (pairs n) in
    let lines = with_array n n constraints in
    let both = solutions (codes "q") n n (Print n ∷ []) constraints (queens_within n high) values in
    let all : IsSolution (csp_of (problem_of (codes "q") (queens n))) values ↔ (AreWithinHigh n n (value_of values) × AllByRecursion (Holds values) constraints) = rw lines both in (
      λ is.
          let h = all.0 is in
          let each = pairs_each n (λ pair. AllByRecursion (Holds values) (queens_apart pair)) (flat_map_all (Holds values) queens_apart (pairs n) h.1) in
          record {
            rows = h.0;
            peaceful = λ j k one less most attack. let apart = each j k one less most in elim attack [ inl row ↦ apart.0 row | inr diagonal ↦ elim diagonal [ inl up ↦ apart.1.0 up | inr down ↦ apart.1.1.0 down ] ];
          },
      λ placed. all.1 (
        placed.rows,
        all_flat_map (Holds values) queens_apart (pairs n) (each_pair n (λ pair. AllByRecursion (Holds values) (queens_apart pair)) (λ j k one less most. (
          (λ row. placed.peaceful j k one less most (inl row)),
          (
            (λ up. placed.peaceful j k one less most (inr (inl up))),
            ((λ down. placed.peaceful j k one less most (inr (inr down))), tt),
          ),
        ))),
      ),
    )

-- ---- colourings

edges_differ : (values : Assignment) (words : ℕ → ℕ) (ps : List (ℕ × ℕ)) → AllByRecursion (Holds values) (lines_with_words edge words ps) → (a b : ℕ) → In (a, b) (drawn words ps) → value_of values a ≡ value_of values b → ⊥
edges_differ values words [] h a b i same = absurd i
edges_differ values words ((p, q) ∷ ps) h a b i same =
    let later : ℕ → ℕ = λ k. words (suc k) in
    (elim (words 0 % 4 == 0) as (λ t. AllByRecursion (Holds values) (cond t (Differ p q ∷ []) [] ++ lines_with_words edge later ps) → In (a, b) (cond t ((p, q) ∷ drawn later ps) (drawn later ps)) → ⊥) [
      | true ↦ λ g j. elim j [
        | inl e ↦ g.0 (ap (λ (x : ℕ × ℕ). value_of values x.0) (sym e) ∙ same ∙ ap (λ (x : ℕ × ℕ). value_of values x.1) e)
        | inr rest ↦ edges_differ values later ps g.1 a b rest same
      ]
      | false ↦ λ g j. edges_differ values later ps g a b j same
    ]) h i

differ_edges : (values : Assignment) (words : ℕ → ℕ) (ps : List (ℕ × ℕ)) → ((a b : ℕ) → In (a, b) (drawn words ps) → value_of values a ≡ value_of values b → ⊥) → AllByRecursion (Holds values) (lines_with_words edge words ps)
differ_edges values words [] f = tt
differ_edges values words ((p, q) ∷ ps) f =
    let later : ℕ → ℕ = λ k. words (suc k) in
    (elim (words 0 % 4 == 0) as (λ t. ((a b : ℕ) → In (a, b) (cond t ((p, q) ∷ drawn later ps) (drawn later ps)) → value_of values a ≡ value_of values b → ⊥)
    → AllByRecursion (Holds values) (cond t (Differ p q ∷ []) [] ++ lines_with_words edge later ps)) [
      | true ↦ λ g. (g p q (inl refl), differ_edges values later ps (λ a b i. g a b (inr i)))
      | false ↦ λ g. differ_edges values later ps g
    ]) f

pub colourings_are_proper : ColouringsAreProper
colourings_are_proper n k words low high one few values =
    let constraints = lines_with_words edge words (pairs n) in
    let lines = with_array k n constraints in
    let both = solutions (codes "c") k n (Print n ∷ []) constraints (colouring_within n k words high few) values in
    let all : IsSolution (csp_of (problem_of (codes "c") (colouring n k words))) values ↔ (AreWithinHigh k n (value_of values) × AllByRecursion (Holds values) constraints) = rw lines both in (
      λ is. record { colours = (all.0 is).0; proper = edges_differ values words (pairs n) (all.0 is).1 },
      λ c. all.1 (c.colours, differ_edges values words (pairs n) c.proper),
    )

-- ---- pigeons

same_or_not : (x y : ℤ) → (x ≡ y) ⊎ (x ≡ y → ⊥)
same_or_not x y =
    let tells = Decides-int_eq x y in
    (elim (int_eq x y) as (λ b. int_eq x y ≡ b → (x ≡ y) ⊎ (x ≡ y → ⊥)) [ true ↦ λ e. inl (tells.0 e) | false ↦ λ e. inr (λ same. let is = tells.1 same in cc) ]) refl

-- a pigeon of the last hole moves to another one
moved : ℤ → ℤ → ℤ → ℤ
moved last other x = if int_eq x last then other else x

move : (last other x : ℤ) → ((x ≡ last) × (moved last other x ≡ other)) ⊎ ((x ≡ last → ⊥) × (moved last other x ≡ x))
unfolding moved
move last other x =
    let tells = Decides-int_eq x last in
    (elim (int_eq x last) as (λ b. int_eq x last ≡ b → ((x ≡ last) × (cond b other x ≡ other)) ⊎ ((x ≡ last → ⊥) × (cond b other x ≡ x))) [
      | true ↦ λ e. inl (tells.0 e, refl)
      | false ↦ λ e. inr ((λ same. let is = tells.1 same in cc), refl)
    ]) refl

below_last : (x : ℤ) (m : ℕ) → x ≤ℤ pos (suc m) → (x ≡ pos (suc m) → ⊥) → x ≤ℤ pos m
below_last x m most other = elim (same_or_not x (pos (suc m))) [ inl same ↦ absurd (other same) | inr h ↦ omega (arith, ints) ]

-- one pigeon more than there are holes
no_room : (m : ℕ) (hole : ℕ → ℤ) → AreWithinHigh m (suc m) hole → ((a b : ℕ) → 1 ≤ a → a < b → b ≤ suc m → hole a ≡ hole b → ⊥) → ⊥
no_room zero hole within apart = let first = within 1 (omega arith) (omega arith) in omega (arith, ints, first)
no_room (suc m) hole within apart = no_room m (λ k. moved (pos (suc m)) (hole (suc (suc m))) (hole k)) range different where
  -- none of the pigeons before the last sits where that one does
  alone : (k : ℕ) → 1 ≤ k → k ≤ suc m → hole k ≡ hole (suc (suc m)) → ⊥
  alone k low high = apart k (suc (suc m)) low (omega (arith, high)) (omega arith)

  range : AreWithinHigh m (suc m) (λ k. moved (pos (suc m)) (hole (suc (suc m))) (hole k))
  range k low high = elim (move (pos (suc m)) (hole (suc (suc m))) (hole k)) [
    | inl s ↦
        let room = within (suc (suc m)) (omega arith) (omega arith) in
        rw s.1 (room.0, below_last (hole (suc (suc m))) m room.1 (λ e. alone k low high (s.0 ∙ sym e)))
    | inr s ↦ let here = within k low (omega (arith, high)) in rw s.1 (here.0, below_last (hole k) m here.1 s.0)
  ]

  different : (a b : ℕ) → 1 ≤ a → a < b → b ≤ suc m → moved (pos (suc m)) (hole (suc (suc m))) (hole a) ≡ moved (pos (suc m)) (hole (suc (suc m))) (hole b) → ⊥
  different a b low less high same = elim (move (pos (suc m)) (hole (suc (suc m))) (hole a)) [
    | inl s ↦ elim (move (pos (suc m)) (hole (suc (suc m))) (hole b)) [
      | inl t ↦ apart a b low less (omega (arith, high)) (s.0 ∙ sym t.0)
      | inr t ↦ alone b (omega (arith, low, less)) high (sym t.1 ∙ sym same ∙ s.1)
    ]
    | inr s ↦ elim (move (pos (suc m)) (hole (suc (suc m))) (hole b)) [
      | inl t ↦ alone a low (omega (arith, less, high)) (sym s.1 ∙ same ∙ t.1)
      | inr t ↦ apart a b low less (omega (arith, high)) (sym s.1 ∙ same ∙ t.1)
    ]
  ]

pub pigeons_do_not_fit : PigeonsDoNotFit
pigeons_do_not_fit n low high values is =
    let constraints = flat_map pigeons_apart (pairs n) in
    let lines = without_array (n - 1) n constraints in
    let both = solutions (codes "p") (n - 1) n [] constraints (pigeons_within n high) values in
    let all : IsSolution (csp_of (problem_of (codes "p") (pigeons n))) values ↔ (AreWithinHigh (n - 1) n (value_of values) × AllByRecursion (Holds values) constraints) = rw lines both in
    let h = all.0 is in
    let each = pairs_each n (λ pair. AllByRecursion (Holds values) (pigeons_apart pair)) (flat_map_all (Holds values) pigeons_apart (pairs n) h.1) in
    let size : suc (n - 1) ≡ n = omega arith in
    no_room (n - 1) (value_of values) (rw size h.0) (λ a b one less most. (each a b one less (omega (arith, most, size))).0)

-- ---- sparse graphs

-- one of two different values is not z
free_of_one : (P : ℤ → Type 0) (z p q : ℤ) → P p → P q → (p ≡ q → ⊥) → (v : ℤ) × P v × (z ≡ v → ⊥)
free_of_one P z p q hp hq apart = elim (same_or_not z p) [
  | inl same ↦ (q, hq, (λ e. apart (sym same ∙ e)))
  | inr other ↦ (p, hp, other)
]

-- one of three is neither y nor z
free_of_two : (P : ℤ → Type 0) (y z p q r : ℤ) → P p → P q → P r → (p ≡ q → ⊥) → (p ≡ r → ⊥) → (q ≡ r → ⊥) → (v : ℤ) × P v × (y ≡ v → ⊥) × (z ≡ v → ⊥)
free_of_two P y z p q r hp hq hr pq pr qr = elim (same_or_not y p) [
  | inl same ↦
      let free = free_of_one (λ v. P v × (p ≡ v → ⊥)) z q r (hq, pq) (hr, pr) qr in
      (free.0, free.1.0, (λ e. free.1.1 (sym same ∙ e)), free.2)
  | inr not_p ↦ elim (same_or_not y q) [
    | inl same ↦
        let free = free_of_one (λ v. P v × (q ≡ v → ⊥)) z p r (hp, λ e. pq (sym e)) (hr, qr) pr in
        (free.0, free.1.0, (λ e. free.1.1 (sym same ∙ e)), free.2)
    | inr not_q ↦ let free = free_of_one (λ v. P v × (y ≡ v → ⊥)) z p q (hp, not_p) (hq, not_q) pq in (free.0, free.1.0, free.1.1, free.2)
  ]
]

-- one of four is neither x nor y nor z
free_of_three : (P : ℤ → Type 0) (x y z p q r s : ℤ) → P p → P q → P r → P s
    → (p ≡ q → ⊥) → (p ≡ r → ⊥) → (p ≡ s → ⊥) → (q ≡ r → ⊥) → (q ≡ s → ⊥) → (r ≡ s → ⊥)
    → (v : ℤ) × P v × (x ≡ v → ⊥) × (y ≡ v → ⊥) × (z ≡ v → ⊥)
free_of_three P x y z p q r s hp hq hr hs pq pr ps qr qs rs = elim (same_or_not x p) [
  | inl same ↦
      let free = free_of_two (λ v. P v × (p ≡ v → ⊥)) y z q r s (hq, pq) (hr, pr) (hs, ps) qr qs rs in
      (free.0, free.1.0, (λ e. free.1.1 (sym same ∙ e)), free.2, free.3)
  | inr not_p ↦ elim (same_or_not x q) [
    | inl same ↦
        let free = free_of_two (λ v. P v × (q ≡ v → ⊥)) y z p r s (hp, λ e. pq (sym e)) (hr, qr) (hs, qs) pr ps rs in
        (free.0, free.1.0, (λ e. free.1.1 (sym same ∙ e)), free.2, free.3)
    | inr not_q ↦ elim (same_or_not x r) [
      | inl same ↦
          let free = free_of_two (λ v. P v × (r ≡ v → ⊥)) y z p q s (hp, λ e. pr (sym e)) (hq, λ e. qr (sym e)) (hs, rs) pq ps qs in
          (free.0, free.1.0, (λ e. free.1.1 (sym same ∙ e)), free.2, free.3)
      | inr not_r ↦
          let free = free_of_two (λ v. P v × (x ≡ v → ⊥)) y z p q r (hp, not_p) (hq, not_q) (hr, not_r) pq pr qr in
          (free.0, free.1.0, free.1.1, free.2, free.3)
    ]
  ]
]

abbrev IsColour : ℤ → Type 0
IsColour v = (pos 1 ≤ℤ v) × (v ≤ℤ pos 4)

-- one of four colours is none of three
free_colour : (x y z : ℤ) → (v : ℤ) × IsColour v × (x ≡ v → ⊥) × (y ≡ v → ⊥) × (z ≡ v → ⊥)
free_colour x y z =
    free_of_three IsColour x y z (pos 1) (pos 2) (pos 3) (pos 4)
    (omega (arith, ints), omega (arith, ints)) (omega (arith, ints), omega (arith, ints)) (omega (arith, ints), omega (arith, ints)) (omega (arith, ints), omega (arith, ints))
    (λ e. omega (arith, ints)) (λ e. omega (arith, ints)) (λ e. omega (arith, ints)) (λ e. omega (arith, ints)) (λ e. omega (arith, ints)) (λ e. omega (arith, ints))

-- the values with one more
with_one : Assignment → ℕ → ℤ → Assignment
with_one values place v i = if i == place then v else values i

one_there : (values : Assignment) (place : ℕ) (v : ℤ) → with_one values place v place ≡ v
unfolding with_one
one_there values place v = elim (eqb_tells place place) [ inl same ↦ rw same.0 refl | inr other ↦ absurd (other.1 refl) ]

one_elsewhere : (values : Assignment) (place i : ℕ) (v : ℤ) → (i ≡ place → ⊥) → with_one values place v i ≡ values i
unfolding with_one
one_elsewhere values place i v apart = elim (eqb_tells i place) [ inl same ↦ absurd (apart same.1) | inr other ↦ rw other.0 refl ]

-- the lines of so many nodes from a on, each with three words
abbrev node_lines : (ℕ → ℕ) → ℕ → ℕ → List ModelLine
node_lines words a count = lines_with_words neighbour words (flat_map thrice (range_with_len a count))

-- colours of all nodes before a go on to so many more
pub record GoesOn (words : ℕ → ℕ) (a count : ℕ) (old : Assignment) : Type 0 where
  pub values : Assignment
  pub same : (k : ℕ) → 1 ≤ k → k < a → value_of values k ≡ value_of old k
  pub colours : (k : ℕ) → 1 ≤ k → k < a + count → IsColour (value_of values k)
  pub hold : AllByRecursion (Holds values) (node_lines words a count)

-- an earlier node that a word names
earlier : (word a : ℕ) → 2 ≤ a → (1 ≤ 1 + word % (a - 1)) × (1 + word % (a - 1) < a)
earlier word a low = (omega arith, omega arith)

-- the node that a word names for node a
named : ℕ → ℕ → ℕ
named a word = 1 + word % (a - 1)

value_before : (values : Assignment) (a k : ℕ) (v : ℤ) → 1 ≤ k → k < a → value_of (with_one values (a - 1) v) k ≡ value_of values k
value_before values a k v one less = one_elsewhere values (a - 1) (k - 1) v (λ e. omega (arith, e, one, less))

colours_with : (a : ℕ) (values : Assignment) (v : ℤ) → IsColour v → ((k : ℕ) → 1 ≤ k → k < a → IsColour (value_of values k))
    → (k : ℕ) → 1 ≤ k → k < a + 1 → IsColour (value_of (with_one values (a - 1) v) k)
colours_with a values v new old k one less = elim (eqb_tells k a) [
  | inl same ↦ rw same.1 (rw (one_there values (a - 1) v) new)
  | inr other ↦ let before : k < a = omega (arith, less, other.1) in rw (value_before values a k v one before) (old k one before)
]

go_on : (count a : ℕ) (words : ℕ → ℕ) (old : Assignment) → 2 ≤ a → ((k : ℕ) → 1 ≤ k → k < a → IsColour (value_of old k)) → GoesOn words a count old
unfolding named
go_on zero a words old low colours = record {
  values = old;
  same = λ k one less. refl;
  colours = λ k one less. colours k one (omega (arith, less));
  hold = tt;
}
go_on (suc count) a words old low colours =
    let free = free_colour (value_of old (named a (words 0))) (value_of old (named a (words 1))) (value_of old (named a (words 2))) in
    let mid : Assignment = with_one old (a - 1) free.0 in
    let rest = go_on count (a + 1) (λ k. words (suc (suc (suc k)))) mid (omega (arith, low)) (colours_with a old free.0 free.1 colours) in
    let here : value_of rest.values a ≡ free.0 = rest.same a (omega (arith, low)) (omega arith) ∙ one_there old (a - 1) free.0 in
    let before : (k : ℕ) → 1 ≤ k → k < a → value_of rest.values k ≡ value_of old k = λ k one less. rest.same k one (omega (arith, less)) ∙ value_before old a k free.0 one less in
    let apart : (word : ℕ) → (value_of old (named a word) ≡ free.0 → ⊥) → value_of rest.values (named a word) ≡ value_of rest.values a → ⊥ =
    λ word differs same. let n = earlier word a low in differs (sym (before (named a word) n.0 n.1) ∙ same ∙ here) in
    record {
      values = rest.values;
      same = before;
      colours = λ k one less. rest.colours k one (omega (arith, less));
      hold = (apart (words 0) free.2, (apart (words 1) free.3, (apart (words 2) free.4, rest.hold)));
    }

pub sparse_graphs_are_coloured : SparseGraphsAreColoured
sparse_graphs_are_coloured n words low high =
    let constraints = node_lines words 2 (n - 1) in
    let lines = with_array 4 n constraints in
    let first : (k : ℕ) → 1 ≤ k → k < 2 → IsColour (pos 1) = λ k one less. (omega (arith, ints), omega (arith, ints)) in
    let all = go_on (n - 1) 2 words (λ i. pos 1) (omega arith) first in
    let both = solutions (codes "c") 4 n (Print n ∷ []) constraints (sparse_within n words high) all.values in
    (all.values, rw lines (both.1 ((λ k one most. all.colours k one (omega (arith, most))), all.hold)))

-- ---- six queens

six_rows : Assignment
six_rows zero = pos 2
six_rows (suc zero) = pos 4
six_rows (suc (suc zero)) = pos 6
six_rows (suc (suc (suc zero))) = pos 1
six_rows (suc (suc (suc (suc zero)))) = pos 3
six_rows i = pos 5

on_board : (i : ℕ) → (pos 1 ≤ℤ six_rows i) × (six_rows i ≤ℤ pos 6)
unfolding six_rows
on_board zero = (omega (arith, ints), omega (arith, ints))
on_board (suc zero) = (omega (arith, ints), omega (arith, ints))
on_board (suc (suc zero)) = (omega (arith, ints), omega (arith, ints))
on_board (suc (suc (suc zero))) = (omega (arith, ints), omega (arith, ints))
on_board (suc (suc (suc (suc zero)))) = (omega (arith, ints), omega (arith, ints))
on_board (suc (suc (suc (suc (suc i))))) = (omega (arith, ints), omega (arith, ints))

pub six_queens_are_placed : SixQueensArePlaced
unfolding six_rows
six_queens_are_placed =
    let constraints = flat_map queens_apart (pairs 6) in
    let both = solutions (codes "q") 6 6 (Print 6 ∷ []) constraints (queens_within 6 (omega arith)) six_rows in
    (six_rows, both.1 ((λ k one most. on_board (k - 1)), (lines_hold six_rows constraints).0 (tested six_rows (flat_map rules_of constraints) refl)))
