-- How small the numbers of a sum stay where they are added up.
use Rattle.std.proofs.Common.{◌≡◌, ℕ, zero, suc, ◌+◌, ◌*◌, ◌<◌, ◌≤◌, ◌==◌, ℤ, pos, ◌-ℤ◌, ◌*ℤ◌, Bool, true, false, ◌&&◌, ◌||◌, List, [], ◌∷◌, ◌++◌, filter_map, length, get_or, drop, sum_by, arith, ap, refl, sym, subst, ◌∙◌, Option, Some, None}
use Rattle.std.specs.Prelude.{◌^◌, IfSome, IsTrue, is_some, unsigned_abs}
use Rattle.std.specs.List.{list_all, list_any}
use Rattle.std.proofs.lemmas.Int.{ints, unsigned_abs-mul}
use Rattle.std.proofs.lemmas.List.Sums.{sum_by-drop_more}
use Rattle.dcsp_meaning.specs.Sums.{size_of}
use Rattle.dcsp_rule.specs.declared.parts.Part.{Part}
use Rattle.dcsp_rule.specs.declared.parts.Parts.{Parts}
use Rattle.dcsp_rule.specs.declared.rule.Term.{Term}
use Rattle.dcsp_rule.specs.declared.rule.Rule.{Rule}
use Rattle.dcsp_rule.specs.declared.rule.Rule.TheVariants.{Sum}
use Rattle.dcsp_defs.specs.Words.{is_number}
use Rattle.dcsp_meaning.specs.declared.linear.Rel.{Rel}
use Rattle.dcsp_rule.specs.Rules.{value_under, variable_of, weighted_values}
use Rattle.dcsp_rule.specs.Pairs.{is_over, IsSmallSum}
use Rattle.dcsp_rule.specs.Parts.{at_zero, is_free_for, is_of_part, is_of_parts, AreOver}
use Rattle.dcsp_rule.proofs.PartLaws.{among_last, at_place, in_pairs}

-- where the first part is none, so is the second
pub first_there : (v w : ℕ) (parts : Parts) (var : ℕ) → AreOver v w parts → is_of_parts parts var ≡ true → is_some parts.first ≡ true
first_there v w parts var over e = by_parts parts.first parts.second over.second e where
  by_parts : (first second : Option Part) → IfSome second (λ part. IsTrue ((part.var == v) || (part.var == w)) × (is_free_for first part.var ≡ false)) → (is_of_part first var || is_of_part second var) ≡ true → is_some first ≡ true
  by_parts (Some p) second b e = refl
  by_parts None None b e = absurd (let clash : false ≡ true = e in cc)
  by_parts None (Some q) b e = absurd (let clash : true ≡ false = b.1 in cc)

and_first : (a b : Bool) → (a && b) ≡ true → a ≡ true
and_first true b e = refl
and_first false b e = e

and_second : (a b : Bool) → (a && b) ≡ true → b ≡ true
and_second true b e = e
and_second false b e = absurd (let clash : false ≡ true = e in cc)

-- the test of all holds of each
pub all_over : (v w : ℕ) (terms : List Term) (k : ℕ) (d : Term) → IsTrue (list_all (is_over v w) terms) → k < length terms → IsTrue (is_over v w (get_or terms k d))
all_over v w [] k d t l = absurd (omega arith)
all_over v w (term ∷ terms) zero d t l = and_first (is_over v w term) (list_all (is_over v w) terms) t
all_over v w (term ∷ terms) (suc k) d t l = all_over v w terms k d (and_second (is_over v w term) (list_all (is_over v w) terms) t) (omega arith)

-- what is added up stays below the sum of all
pub coefs_left : (coefs : List ℤ) (k : ℕ) (before after : ℕ) → k < length coefs → after ≤ before + unsigned_abs (get_or coefs k (pos 0)) → before + sum_by unsigned_abs (drop k coefs) ≤ sum_by unsigned_abs coefs
    → after + sum_by unsigned_abs (drop (k + 1) coefs) ≤ sum_by unsigned_abs coefs
coefs_left coefs k before after l more fits = let here = sum_by-drop_more unsigned_abs coefs k (pos 0) l in omega (arith, more, fits, here)

module _ (coefs : List ℤ) (terms : List Term) (k : ℕ) (d : Term) (shape : length coefs ≡ length terms) (here : k < length coefs) where
  abbrev all : List (ℤ × ℤ)
  all = weighted_values at_zero coefs terms

  abbrev one : ℕ
  one = size_of (get_or coefs k (pos 0), value_under at_zero (get_or terms k d))

  pub constant_here : sum_by size_of (drop k all) ≡ one + sum_by size_of (drop (k + 1) all)
  constant_here = sum_by-drop_more size_of all k (pos 0, pos 0) (in_pairs at_zero coefs terms k d shape here) ∙ ap (λ (p : ℤ × ℤ). size_of p + sum_by size_of (drop (k + 1) all)) (at_place at_zero coefs terms k d shape here)

  pub constants_left : (before after : ℕ) → after ≤ before + one → before + sum_by size_of (drop k all) ≤ sum_by size_of all → after + sum_by size_of (drop (k + 1) all) ≤ sum_by size_of all
  constants_left before after more fits = omega (arith, more, fits, constant_here)

  pub constants_room : (before most : ℕ) → before + sum_by size_of (drop k all) ≤ sum_by size_of all → sum_by size_of all ≤ most → before + one ≤ most
  constants_room before most fits low = omega (arith, fits, low, constant_here)

-- the terms of a sum that nothing tells are over two variables, and so is its total
pub terms_over : (v w : ℕ) (terms : List Term) (total : Term) → IsTrue (list_all (is_over v w) (terms ++ total ∷ [])) → IsTrue (list_all (is_over v w) terms) × IsTrue (is_over v w total)
terms_over v w [] total t = (refl, and_first (is_over v w total) true t)
terms_over v w (term ∷ terms) total t =
    let rest = terms_over v w terms total (and_second (is_over v w term) (list_all (is_over v w) (terms ++ total ∷ [])) t) in
    (ap (λ b. b && list_all (is_over v w) terms) (and_first (is_over v w term) (list_all (is_over v w) (terms ++ total ∷ [])) t) ∙ rest.0, rest.1)

-- a constant that is taken makes the total no greater than both
pub constant_size : (total taken product coef value : ℤ) → taken ≡ total -ℤ product → product ≡ coef *ℤ value → unsigned_abs taken ≤ unsigned_abs total + size_of (coef, value)
constant_size total taken product coef value e f =
    let size : unsigned_abs product ≡ unsigned_abs coef * unsigned_abs value = ap unsigned_abs f ∙ unsigned_abs-mul coef value in
    let rest : unsigned_abs (total -ℤ product) ≤ unsigned_abs total + unsigned_abs product = omega (arith, ints) in
    let same : unsigned_abs taken ≡ unsigned_abs (total -ℤ product) = ap unsigned_abs e in
    omega (arith, size, rest, same)

-- a small sum, part by part
pub record IsGiven (v w : ℕ) (coefs : List ℤ) (terms : List Term) (total : Term) : Type 0 where
  pub over : IsTrue (list_all (is_over v w) terms)
  pub last : IsTrue (is_over v w total)
  pub mentioned : (list_any (λ x. x == v) (filter_map variable_of terms) || is_number (variable_of total) v) ≡ true
  pub few : suc (sum_by unsigned_abs coefs) < 2 ^ 62
  pub low : sum_by size_of (weighted_values at_zero coefs terms) + unsigned_abs (value_under at_zero total) ≤ 2 ^ 65

pub small_sum : (v w : ℕ) (rule : Rule) (rel : Rel) (coefs : List ℤ) (terms : List Term) (total : Term) (told : Option Term) → rule ≡ Sum rel coefs terms total told → told ≡ None → IsSmallSum v w rule → IsGiven v w coefs terms total
small_sum v w rule rel coefs terms total told e f h =
    let is : rule ≡ Sum rel coefs terms total None = e ∙ ap (Sum rel coefs terms total) f in
    let given = subst (λ (r : Rule). IsSmallSum v w r) is h in
    let all = terms_over v w terms total given.over in
    record {
      over = all.0;
      last = all.1;
      mentioned = sym (among_last terms total v) ∙ given.mentioned;
      few = given.coefs;
      low = given.constants;
    }
