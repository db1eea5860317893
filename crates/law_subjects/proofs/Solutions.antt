-- The solutions of generated lines: values within the range for which each constraint of the lines holds.
use Rattle.std.proofs.Common.{◌≡◌, ◌↔◌, ℕ, ◌+◌, ◌-◌, ◌<◌, inl, inr, true, false, not, List, [], ◌∷◌, ◌++◌, map, flat_map, length, refl, sym, ap, ◌∙◌, subst, arith}
use Rattle.std.specs.Prelude.{ℤ, pos, neg_ℤ, ◌+ℤ◌, ◌-ℤ◌, ◌*ℤ◌, ◌≤ℤ◌, slice_index_or}
use Rattle.std.specs.Ordering.{int_eq}
use Rattle.std.specs.List.{list_all, range_with_len, AllByRecursion}
use Rattle.std.proofs.lemmas.Int.{ints}
use Rattle.std.proofs.lemmas.Bool.{not-true}
use Rattle.std.proofs.lemmas.Bool.Decides.{Decides-int_eq}
use Rattle.std.proofs.lemmas.List.FromFn.{length-map-range_with_len, get_or-map-range_with_len}
use Rattle.dcsp_domain.specs.Ranges.{numbers_between}
use Rattle.dcsp_domain.proofs.RangeLaws.{numbers_between_has}
use Rattle.dcsp_defs.specs.Words.{In}
use Rattle.dcsp_defs.specs.Csp.{Assignment, Constraint, Csp, IsSolution}
use Rattle.dcsp_defs.proofs.Lists.{list_any-In, In-list_any, and_left, and_right}
use Rattle.dcsp_rule.specs.declared.rule.Rule.{Rule}
use Rattle.dcsp_rule.specs.Rules.{rule_truth}
use Rattle.dcsp_rule.specs.Problems.{csp_of, constraint_of}
use Rattle.law_subjects.specs.Lines.{ModelLine, Declare, Print, Differ, Above, Below, Table, Solve}
use Rattle.law_subjects.specs.Problems.{table_rule, rules_of, problem_of, all_lines, AreWithin}
use Rattle.law_subjects.specs.GeneratedSolutions.{value_of, AreWithinHigh}
use Rattle.law_subjects.proofs.Lists.{all_flat_map}
use Rattle.law_subjects.proofs.Whole.{lines_say_problem}

-- what a line says of values
abbrev pub Holds : Assignment → ModelLine → Type 0
Holds values (Declare low high number) = Unit {0}
Holds values (Print n) = Unit {0}
Holds values (Differ first second) = value_of values first ≡ value_of values second → ⊥
Holds values (Above first second distance) = value_of values first -ℤ value_of values second ≡ pos distance → ⊥
Holds values (Below first second distance) = value_of values first -ℤ value_of values second ≡ neg_ℤ (pos distance) → ⊥
Holds values (Table first second rows) = rule_truth (table_rule first second rows) values ≡ true
Holds values Solve = Unit {0}

abbrev pub IsTrueOf : Assignment → Rule → Type 0
IsTrueOf values rule = rule_truth rule values ≡ true

-- the test of two numbers is false exactly where they differ
pub unequal : (x y : ℤ) → (not (int_eq x y) ≡ true) ↔ (x ≡ y → ⊥)
unequal x y =
    let tells = Decides-int_eq x y in (
      λ h e. let is : int_eq x y ≡ true = tells.1 e in let is_not : int_eq x y ≡ false = not-true (int_eq x y) h in cc,
      λ h. (elim (int_eq x y) as (λ b. int_eq x y ≡ b → not b ≡ true) [ true ↦ λ e. absurd (h (tells.0 e)) | false ↦ λ e. refl ]) refl,
    )

-- what the sum of a difference is
difference_sum : (x y : ℤ) → (pos 1 *ℤ x) +ℤ ((neg_ℤ (pos 1) *ℤ y) +ℤ pos 0) ≡ x -ℤ y
difference_sum x y = omega (arith, ints)

line_holds : (values : Assignment) (line : ModelLine) → AllByRecursion (IsTrueOf values) (rules_of line) ↔ Holds values line
line_holds values (Declare low high number) = (λ h. tt, λ h. tt)
line_holds values (Print n) = (λ h. tt, λ h. tt)
line_holds values (Differ first second) =
    let e = unequal (value_of values first) (value_of values second) in (λ h. e.0 h.0, λ h. (e.1 h, tt))
line_holds values (Above first second distance) =
    let sum = difference_sum (value_of values first) (value_of values second) in
    let e = unequal (value_of values first -ℤ value_of values second) (pos distance) in
    (λ h. e.0 (rw sum at h.0), λ h. (rw sum (e.1 h), tt))
line_holds values (Below first second distance) =
    let sum = difference_sum (value_of values first) (value_of values second) in
    let e = unequal (value_of values first -ℤ value_of values second) (neg_ℤ (pos distance)) in
    (λ h. e.0 (rw sum at h.0), λ h. (rw sum (e.1 h), tt))
line_holds values (Table first second rows) = (λ h. h.0, λ h. (h, tt))
line_holds values Solve = (λ h. tt, λ h. tt)

-- of lists that are made of lists, from the whole to each
all_front : {X : Type 0} (P : X → Type 0) (xs ys : List X) → AllByRecursion P (xs ++ ys) → AllByRecursion P xs × AllByRecursion P ys
all_front P [] ys h = (tt, h)
all_front P (x ∷ xs) ys h = let rest = all_front P xs ys h.1 in ((h.0, rest.0), rest.1)

pub flat_map_all : {X Y : Type 0} (P : Y → Type 0) (f : X → List Y) (xs : List X) → AllByRecursion P (flat_map f xs) → AllByRecursion (λ x. AllByRecursion P (f x)) xs
flat_map_all P f [] h = tt
flat_map_all P f (x ∷ xs) h = let both = all_front P (f x) (flat_map f xs) h in (both.0, flat_map_all P f xs both.1)

pub all_each : {X : Type 0} (P Q : X → Type 0) (xs : List X) → ((x : X) → P x → Q x) → AllByRecursion P xs → AllByRecursion Q xs
all_each P Q [] f h = tt
all_each P Q (x ∷ xs) f h = (f x h.0, all_each P Q xs f h.1)

-- the rules of lines hold exactly where the lines do
pub lines_hold : (values : Assignment) (lines : List ModelLine) → AllByRecursion (IsTrueOf values) (flat_map rules_of lines) ↔ AllByRecursion (Holds values) lines
lines_hold values lines = (
  λ h. all_each (λ line. AllByRecursion (IsTrueOf values) (rules_of line)) (Holds values) lines (λ line. (line_holds values line).0) (flat_map_all (IsTrueOf values) rules_of lines h),
  λ h. all_flat_map (IsTrueOf values) rules_of lines (all_each (Holds values) (λ line. AllByRecursion (IsTrueOf values) (rules_of line)) lines (λ line. (line_holds values line).1) h),
)

-- rules whose test passes are true
pub tested : (values : Assignment) (rules : List Rule) → list_all (λ rule. rule_truth rule values) rules ≡ true → AllByRecursion (IsTrueOf values) rules
tested values [] h = tt
tested values (rule ∷ rules) h =
    (and_left (rule_truth rule values) (list_all (λ r. rule_truth r values) rules) h, tested values rules (and_right (rule_truth rule values) (list_all (λ r. rule_truth r values) rules) h))

-- the constraints of rules are true exactly where the rules are
pub constraints_all : (m : ℕ) (values : Assignment) (rules : List Rule) → ((c : Constraint) → In c (map (constraint_of m) rules) → c.test values ≡ true) → AllByRecursion (IsTrueOf values) rules
constraints_all m values [] h = tt
constraints_all m values (rule ∷ rules) h = (h (constraint_of m rule) (inl refl), constraints_all m values rules (λ c i. h c (inr i)))

pub all_constraints : (m : ℕ) (values : Assignment) (rules : List Rule) → AllByRecursion (IsTrueOf values) rules → (c : Constraint) → In c (map (constraint_of m) rules) → c.test values ≡ true
all_constraints m values [] h c i = absurd i
all_constraints m values (rule ∷ rules) h c (inl e) = ap (λ (x : Constraint). x.test values) e ∙ h.0
all_constraints m values (rule ∷ rules) h c (inr i) = all_constraints m values rules h.1 c i

-- the numbers from 1 to high
within_high : (high : ℕ) (v : ℤ) → In v (numbers_between (pos 1) (pos high)) ↔ ((pos 1 ≤ℤ v) × (v ≤ℤ pos high))
within_high high v =
    let range = numbers_between_has (pos 1) (pos high) v in (
      λ i. range.0 (list_any-In (int_eq v) v (numbers_between (pos 1) (pos high)) i ((Decides-int_eq v v).1 refl)),
      λ h.
          let found = In-list_any (int_eq v) (numbers_between (pos 1) (pos high)) (range.1 h) in
          let same : v ≡ found.0 = (Decides-int_eq v found.0).0 found.2 in
          subst (λ (w : ℤ). In w (numbers_between (pos 1) (pos high))) (sym same) found.1,
    )

-- domains that are all the numbers from 1 to high
abbrev domains_to : ℕ → ℕ → List (List ℤ)
domains_to high n = map (λ (number : ℕ). numbers_between (pos 1) (pos high)) (range_with_len 1 n)

each_domain : (high n i : ℕ) → i < n → slice_index_or (domains_to high n) i [] ≡ numbers_between (pos 1) (pos high)
each_domain high n i l = get_or-map-range_with_len (λ (number : ℕ). numbers_between (pos 1) (pos high)) 1 n i (1 + i) [] l refl

many_domains : (high n : ℕ) → length (domains_to high n) ≡ n
many_domains high n = length-map-range_with_len (λ (number : ℕ). numbers_between (pos 1) (pos high)) 1 n

-- the problem of such domains and rules
abbrev plain_csp : ℕ → ℕ → List Rule → Csp
plain_csp high n rules = record { domains = domains_to high n; constraints = map (constraint_of (length (domains_to high n))) rules }

plain_solutions : (high n : ℕ) (constraints : List ModelLine) (values : Assignment)
    → IsSolution (plain_csp high n (flat_map rules_of constraints)) values ↔ (AreWithinHigh high n (value_of values) × AllByRecursion (Holds values) constraints)
plain_solutions high n constraints values =
    let m = length (domains_to high n) in
    let many : m ≡ n = many_domains high n in (
      λ is. (
        λ k l r.
            let low : k - 1 < n = omega (arith, l, r) in
            let inside : In (values (k - 1)) (slice_index_or (domains_to high n) (k - 1) []) = is.domains (k - 1) (omega (arith, low, many)) in
            (within_high high (values (k - 1))).0 (rw (each_domain high n (k - 1) low) at inside),
        (lines_hold values constraints).0 (constraints_all m values (flat_map rules_of constraints) is.constraints),
      ),
      λ h. record {
        domains = λ i l.
            let low : i < n = omega (arith, l, many) in
            let range = h.0 (i + 1) (omega arith) (omega (arith, low)) in
            let at : i + 1 - 1 ≡ i = omega arith in
            let here : (pos 1 ≤ℤ values i) × (values i ≤ℤ pos high) = subst (λ (j : ℕ). (pos 1 ≤ℤ values j) × (values j ≤ℤ pos high)) at range in
            rw (each_domain high n i low) ((within_high high (values i)).1 here);
        constraints = all_constraints m values (flat_map rules_of constraints) ((lines_hold values constraints).1 h.1);
      },
    )

-- The solutions of lines.
pub solutions : (letter : List ℕ) (high n : ℕ) (printed constraints : List ModelLine) → AreWithin 1 high n printed constraints → (values : Assignment)
    → IsSolution (csp_of (problem_of letter (all_lines 1 high n printed constraints))) values ↔ (AreWithinHigh high n (value_of values) × AllByRecursion (Holds values) constraints)
solutions letter high n printed constraints within values =
    let is = lines_say_problem letter 1 high n printed constraints within in
    let same : csp_of (problem_of letter (all_lines 1 high n printed constraints)) ≡ plain_csp high n (flat_map rules_of constraints) = ap csp_of is in
    rw same (plain_solutions high n constraints values)
