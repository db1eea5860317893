-- How the parts of a sum are added up, and what the pair that is made of them says.
use Rattle.std.proofs.Common.{◌≡◌, ℕ, zero, suc, ◌+◌, ◌<◌, ◌≤◌, ◌==◌, ℤ, pos, negsuc, ◌+ℤ◌, ◌-ℤ◌, ◌*ℤ◌, Bool, true, false, ◌||◌, List, [], ◌∷◌, ◌++◌, length, get_or, drop, take, map, filter_map, arith, ap, refl, sym, ◌∙◌, Option, Some, None}
use Rattle.std.specs.Prelude.{◌^◌, IfSome, is_some, unsigned_abs, unwrap_or}
use Rattle.std.specs.List.{list_any}
use Rattle.std.proofs.lemmas.List.{length-map, get_or-map, take_more}
use Rattle.std.proofs.lemmas.Slice.Zip.{length-zip, get_or-zip}
use Rattle.std.proofs.lemmas.Int.{ints}
use Rattle.std.proofs.Math.IntN.{zero-*ℤ, suc_ℤ-*ℤ, suc_ℤ-+ℤ}
use Rattle.std.proofs.Math.ListN.{drop_of_length-le}
use Rattle.dcsp_meaning.specs.declared.kinds.ConstraintKind.{ConstraintKind}
use Rattle.dcsp_meaning.specs.Table.{truth}
use Rattle.dcsp_meaning.specs.Words.{argument}
use Rattle.dcsp_meaning.specs.declared.linear.Rel.{Rel}
use Rattle.dcsp_meaning.specs.declared.linear.Rel.TheVariants.{Equal, AtMost, Differ}
use Rattle.dcsp_meaning.specs.Sums.{sum_of, stands}
use Rattle.dcsp_meaning.proofs.Steps.{sum_of-drop}
use Rattle.dcsp_defs.specs.Words.{is_number}
use Rattle.dcsp_defs.specs.Csp.{Assignment}
use Rattle.dcsp_rule.specs.declared.pair.BinaryRule.{BinaryRule}
use Rattle.dcsp_rule.specs.declared.parts.Part.{Part}
use Rattle.dcsp_rule.specs.declared.parts.Parts.{Parts}
use Rattle.dcsp_rule.specs.declared.parts.Comparison.{Comparison}
use Rattle.dcsp_rule.specs.declared.rule.Term.{Term}
use Rattle.dcsp_rule.specs.declared.rule.Term.TheVariants.{Const, Var}
use Rattle.dcsp_rule.specs.declared.rule.Members.{Members}
use Rattle.dcsp_rule.specs.declared.rule.Rule.TheVariants.{Plain, Sum}
use Rattle.dcsp_rule.specs.Rules.{variable_of, value_under, weighted_values}
use Rattle.dcsp_rule.specs.Pairs.{IsPairOf, IsSmall}
use Rattle.dcsp_rule.specs.Parts.{is_of_part, is_of_parts, part_at, AddsPart, AddsTerm, AreOfSum, IsPairFrom, IsPairOfTerms}

or_false : (b : Bool) → (b || false) ≡ b
or_false true = refl
or_false false = refl

or_same : (b : Bool) → (b || b) ≡ (b || false)
or_same true = refl
or_same false = refl

or_assoc : (a b c : Bool) → ((a || b) || c) ≡ (a || (b || c))
or_assoc true b c = refl
or_assoc false b c = refl

-- whether a variable is among terms
abbrev among : List Term → ℕ → Bool
among terms var = list_any (λ v. v == var) (filter_map variable_of terms)

among_first : (term : Term) (terms : List Term) (var : ℕ) → among (term ∷ terms) var ≡ (is_number (variable_of term) var || among terms var)
among_first (Const value) terms var = refl
among_first (Var x) terms var = refl

among_one : (term : Term) (var : ℕ) → among (term ∷ []) var ≡ is_number (variable_of term) var
among_one term var = among_first term [] var ∙ or_false (is_number (variable_of term) var)

among_both : (xs ys : List Term) (var : ℕ) → among (xs ++ ys) var ≡ (among xs var || among ys var)
among_both [] ys var = refl
among_both (x ∷ xs) ys var =
    among_first x (xs ++ ys) var ∙ ap (λ z. is_number (variable_of x) var || z) (among_both xs ys var)
    ∙ sym (or_assoc (is_number (variable_of x) var) (among xs var) (among ys var)) ∙ sym (ap (λ z. z || among ys var) (among_first x xs var))

pub among_last : (terms : List Term) (total : Term) (var : ℕ) → among (terms ++ total ∷ []) var ≡ (among terms var || is_number (variable_of total) var)
among_last terms total var = among_both terms (total ∷ []) var ∙ ap (λ z. among terms var || z) (among_one total var)

-- one term more
pub among_more : (terms : List Term) (k : ℕ) (d : Term) (var : ℕ) → k < length terms → among (take (k + 1) terms) var ≡ (among (take k terms) var || is_number (variable_of (get_or terms k d)) var)
among_more terms k d var l =
    ap (λ ts. among ts var) (take_more terms k d l) ∙ among_both (take k terms) (get_or terms k d ∷ []) var
    ∙ ap (λ z. among (take k terms) var || z) (among_one (get_or terms k d) var)

module _ (values : Assignment) (coefs : List ℤ) (terms : List Term) (k : ℕ) (d : Term) (shape : length coefs ≡ length terms) (here : k < length coefs) where
  abbrev pub pairs : List (ℤ × ℤ)
  pairs = weighted_values values coefs terms

  in_terms : k < length terms
  in_terms = omega (arith, here, shape)

  in_values : k < length (map (value_under values) terms)
  in_values = omega (arith, length-map terms (value_under values), in_terms)

  pub in_pairs : k < length pairs
  in_pairs = omega (arith, here, length-zip coefs (map (value_under values) terms), length-map terms (value_under values), in_terms)

  pub at_place : get_or pairs k (pos 0, pos 0) ≡ (get_or coefs k (pos 0), value_under values (get_or terms k d))
  at_place = get_or-zip coefs (map (value_under values) terms) k (pos 0, pos 0) here in_values ∙ ap (λ z. (get_or coefs k (pos 0), z)) (get_or-map (value_under values) terms k d (pos 0) in_terms)

  pub sum_here : sum_of (drop k pairs) ≡ (get_or coefs k (pos 0) *ℤ value_under values (get_or terms k d)) +ℤ sum_of (drop (k + 1) pairs)
  sum_here = sum_of-drop pairs k in_pairs ∙ ap (λ (p : ℤ × ℤ). (p.0 *ℤ p.1) +ℤ sum_of (drop (k + 1) pairs)) at_place

-- nothing is left past the end
pub sum_done : (values : Assignment) (coefs : List ℤ) (terms : List Term) (k : ℕ) → length coefs ≤ k → sum_of (drop k (weighted_values values coefs terms)) ≡ pos 0
sum_done values coefs terms k past = ap sum_of (drop_of_length-le (weighted_values values coefs terms) (omega (arith, past, length-zip coefs (map (value_under values) terms))))

-- what is added is no longer left
pub next_sum : (a b p rest rest' all : ℤ) → b ≡ a +ℤ p → rest ≡ p +ℤ rest' → a +ℤ rest ≡ all → b +ℤ rest' ≡ all
next_sum a b p rest rest' all e f g = omega (arith, ints, e, f, g)

-- the same difference, the same relation
pub stands_moved : (rel : Rel) (a b c d : ℤ) → a -ℤ b ≡ c -ℤ d → stands rel a b ≡ stands rel c d
stands_moved Equal a b c d e = grind (arith, ints, e)
stands_moved AtMost a b c d e = grind (arith, ints, e)
stands_moved Differ a b c d e = grind (arith, ints, e)

-- the second part, or none of the first's variable
abbrev other_part : Part → Option Part → Part
other_part first second = unwrap_or second (record { coef = pos 0; var = first.var })

part_or_none : (first : Part) (second : Option Part) (values : Assignment) → (other_part first second).coef *ℤ values (other_part first second).var ≡ part_at second values
part_or_none first None values = omega (arith, ints)
part_or_none first (Some second) values = refl

pub parts_truth : (rel : Rel) (first : Part) (second : Option Part) (total : ℤ) (values : Assignment)
    → stands rel ((first.coef *ℤ values first.var) +ℤ ((other_part first second).coef *ℤ values (other_part first second).var)) total ≡ stands rel (((first.coef *ℤ values first.var) +ℤ part_at second values) -ℤ total) (pos 0)
parts_truth rel first second total values =
    ap (λ z. stands rel ((first.coef *ℤ values first.var) +ℤ z) total) (part_or_none first second values)
    ∙ stands_moved rel ((first.coef *ℤ values first.var) +ℤ part_at second values) total (((first.coef *ℤ values first.var) +ℤ part_at second values) -ℤ total) (pos 0) (omega (arith, ints))

pub parts_variables : (first : Part) (second : Option Part) (var : ℕ) → ((first.var == var) || ((other_part first second).var == var)) ≡ ((first.var == var) || is_of_part second var)
parts_variables first None var = or_same (first.var == var)
parts_variables first (Some second) var = refl

-- a pair of parts says what they do
pub parts_pair : (rel : Rel) (parts : Parts) (first other : Part) → parts.first ≡ Some first → other ≡ other_part first parts.second
    → IsSmall (record { rel = rel; first = first.var; second = other.var; first_coef = first.coef; second_coef = other.coef; total = parts.total })
    → IsPairFrom rel parts (record { rel = rel; first = first.var; second = other.var; first_coef = first.coef; second_coef = other.coef; total = parts.total })
parts_pair rel parts first other e f small = record {
  truth = λ values.
      ap (λ (o : Part). stands rel ((first.coef *ℤ values first.var) +ℤ (o.coef *ℤ values o.var)) parts.total) f
      ∙ parts_truth rel first parts.second parts.total values
      ∙ sym (ap (λ (o : Option Part). stands rel ((part_at o values +ℤ part_at parts.second values) -ℤ parts.total) (pos 0)) e);
  variables = λ var.
      ap (λ (o : Part). (first.var == var) || (o.var == var)) f ∙ parts_variables first parts.second var
      ∙ sym (ap (λ (o : Option Part). is_of_part o var || is_of_part parts.second var) e);
  small = small;
}

pub none_there : {X : Type 0} (o : Option X) → is_some o ≡ false → o ≡ None
none_there None e = refl
none_there (Some x) e = absurd (let clash : true ≡ false = e in cc)

pub if_some_weaker : {X : Type 0} (o : Option X) (P Q : X → Type 0) → ((x : X) → P x → Q x) → IfSome o P → IfSome o Q
if_some_weaker None P Q f h = h
if_some_weaker (Some x) P Q f h = f x h

-- one term more of a sum
pub parts_more : (parts next : Parts) (coef : ℤ) (terms : List Term) (k : ℕ) (d : Term) (var : ℕ) → k < length terms → AddsTerm parts coef (get_or terms k d) next → is_of_parts parts var ≡ among (take k terms) var
    → is_of_parts next var ≡ among (take (k + 1) terms) var
parts_more parts next coef terms k d var l adds e =
    adds.variables var ∙ ap (λ z. z || is_number (variable_of (get_or terms k d)) var) e ∙ sym (among_more terms k d var l)

-- a constant is taken from the total
pub constant_added : (parts : Parts) (coef value product taken : ℤ) → product ≡ coef *ℤ value → taken ≡ parts.total -ℤ product
    → AddsTerm parts coef (Const value) (record { first = parts.first; second = parts.second; total = taken })
constant_added parts coef value product taken e f = record {
  sum = λ values. constant_sum (part_at parts.first values +ℤ part_at parts.second values) parts.total taken product (coef *ℤ value) e f;
  variables = λ var. sym (or_false (is_of_parts parts var));
} where
  constant_sum : (a t u p q : ℤ) → p ≡ q → u ≡ t -ℤ p → a -ℤ u ≡ (a -ℤ t) +ℤ q
  constant_sum a t u p q e f = omega (arith, ints, e, f)

first_sum : (a b c t p : ℤ) → a ≡ b +ℤ p → (a +ℤ c) -ℤ t ≡ ((b +ℤ c) -ℤ t) +ℤ p
first_sum a b c t p e = omega (arith, ints, e)

second_sum : (a b c t p : ℤ) → a ≡ b +ℤ p → (c +ℤ a) -ℤ t ≡ ((c +ℤ b) -ℤ t) +ℤ p
second_sum a b c t p e = omega (arith, ints, e)

or_swap : (f n s : Bool) → ((f || n) || s) ≡ ((f || s) || n)
or_swap true n s = refl
or_swap false true true = refl
or_swap false true false = refl
or_swap false false true = refl
or_swap false false false = refl

-- a variable is added to one of the two parts
pub first_added : (parts : Parts) (coef : ℤ) (var : ℕ) (first : Part) → AddsPart parts.first coef var first → AddsTerm parts coef (Var var) (record { first = Some first; second = parts.second; total = parts.total })
first_added parts coef var first h = record {
  sum = λ values. first_sum (part_at (Some first) values) (part_at parts.first values) (part_at parts.second values) parts.total (coef *ℤ values var) (h.sum values);
  variables = λ other. ap (λ z. z || is_of_part parts.second other) (h.variables other) ∙ or_swap (is_of_part parts.first other) (var == other) (is_of_part parts.second other);
}

pub second_added : (parts : Parts) (coef : ℤ) (var : ℕ) (second : Part) → AddsPart parts.second coef var second → AddsTerm parts coef (Var var) (record { first = parts.first; second = Some second; total = parts.total })
second_added parts coef var second h = record {
  sum = λ values. second_sum (part_at (Some second) values) (part_at parts.second values) (part_at parts.first values) parts.total (coef *ℤ values var) (h.sum values);
  variables = λ other. ap (λ z. is_of_part parts.first other || z) (h.variables other) ∙ sym (or_assoc (is_of_part parts.first other) (is_of_part parts.second other) (var == other));
}

pub part_new : (coef : ℤ) (var : ℕ) → AddsPart None coef var (record { coef = coef; var = var })
part_new coef var = record {
  sum = λ values. omega (arith, ints);
  variables = λ other. refl;
}

by_pos : (n : ℕ) (b x : ℤ) → (pos n +ℤ b) *ℤ x ≡ (pos n *ℤ x) +ℤ (b *ℤ x)
by_pos zero b x = let e : pos zero +ℤ b ≡ b = omega (arith, ints) in let z = zero-*ℤ x in ap (λ m. m *ℤ x) e ∙ omega (arith, ints, z)
by_pos (suc n) b x =
    let all : (pos (suc n) +ℤ b) *ℤ x ≡ ((pos n +ℤ b) *ℤ x) +ℤ x = ap (λ m. m *ℤ x) (suc_ℤ-+ℤ (pos n) b) ∙ suc_ℤ-*ℤ (pos n +ℤ b) x in
    let one : pos (suc n) *ℤ x ≡ (pos n *ℤ x) +ℤ x = suc_ℤ-*ℤ (pos n) x in
    let before = by_pos n b x in
    omega (arith, ints, all, one, before)

by_neg : (n : ℕ) (b x : ℤ) → (negsuc n +ℤ b) *ℤ x ≡ (negsuc n *ℤ x) +ℤ (b *ℤ x)
by_neg zero b x =
    let all : (pos zero +ℤ b) *ℤ x ≡ ((negsuc zero +ℤ b) *ℤ x) +ℤ x = ap (λ m. m *ℤ x) (suc_ℤ-+ℤ (negsuc zero) b) ∙ suc_ℤ-*ℤ (negsuc zero +ℤ b) x in
    let one : pos zero *ℤ x ≡ (negsuc zero *ℤ x) +ℤ x = suc_ℤ-*ℤ (negsuc zero) x in
    let before = by_pos zero b x in
    omega (arith, ints, all, one, before)
by_neg (suc n) b x =
    let all : (negsuc n +ℤ b) *ℤ x ≡ ((negsuc (suc n) +ℤ b) *ℤ x) +ℤ x = ap (λ m. m *ℤ x) (suc_ℤ-+ℤ (negsuc (suc n)) b) ∙ suc_ℤ-*ℤ (negsuc (suc n) +ℤ b) x in
    let one : negsuc n *ℤ x ≡ (negsuc (suc n) *ℤ x) +ℤ x = suc_ℤ-*ℤ (negsuc (suc n)) x in
    let before = by_neg n b x in
    omega (arith, ints, all, one, before)

-- a product with two coefficients that are added up
pub more_of : (a b c x : ℤ) → c ≡ a +ℤ b → c *ℤ x ≡ (a *ℤ x) +ℤ (b *ℤ x)
more_of (pos n) b c x e = ap (λ z. z *ℤ x) e ∙ by_pos n b x
more_of (negsuc n) b c x e = ap (λ z. z *ℤ x) e ∙ by_neg n b x

or_self : (b : Bool) → b ≡ (b || b)
or_self true = refl
or_self false = refl

pub part_more : (part : Part) (coef : ℤ) (var : ℕ) (all : ℤ) → part.var ≡ var → all ≡ part.coef +ℤ coef → AddsPart (Some part) coef var (record { coef = all; var = var })
part_more part coef var all e f = record {
  sum = λ values. more_of part.coef coef all (values var) f ∙ sym (ap (λ v. (part.coef *ℤ values v) +ℤ (coef *ℤ values var)) e);
  variables = λ other. or_self (var == other) ∙ sym (ap (λ v. (v == other) || (var == other)) e);
}

-- the pairs of comparisons
pub both_variables : (compared : Comparison) (x y : ℕ) → unsigned_abs compared.total ≤ 2 ^ 65 → IsPairOfTerms compared (Var x) (Var y) (record { rel = compared.rel; first = x; second = y; first_coef = pos 1; second_coef = negsuc 0; total = compared.total })
both_variables compared x y small = record {
  truth = λ values. stands_moved compared.rel ((pos 1 *ℤ values x) +ℤ (negsuc 0 *ℤ values y)) compared.total (values x -ℤ values y) compared.total (omega (arith, ints));
  variables = λ var. refl;
  small = record { first = omega arith; second = omega arith; total = small };
}

pub first_variable : (compared : Comparison) (x : ℕ) (value total : ℤ) → total ≡ compared.total +ℤ value → unsigned_abs total ≤ 2 ^ 65
    → IsPairOfTerms compared (Var x) (Const value) (record { rel = compared.rel; first = x; second = x; first_coef = pos 1; second_coef = pos 0; total = total })
first_variable compared x value total e small = record {
  truth = λ values. stands_moved compared.rel ((pos 1 *ℤ values x) +ℤ (pos 0 *ℤ values x)) total (values x -ℤ value) compared.total (omega (arith, ints, e));
  variables = λ var. or_same (x == var);
  small = record { first = omega arith; second = omega arith; total = small };
}

pub second_variable : (compared : Comparison) (x : ℕ) (value total : ℤ) → total ≡ compared.total -ℤ value → unsigned_abs total ≤ 2 ^ 65
    → IsPairOfTerms compared (Const value) (Var x) (record { rel = compared.rel; first = x; second = x; first_coef = negsuc 0; second_coef = pos 0; total = total })
second_variable compared x value total e small = record {
  truth = λ values. stands_moved compared.rel ((negsuc 0 *ℤ values x) +ℤ (pos 0 *ℤ values x)) total (value -ℤ values x) compared.total (omega (arith, ints, e));
  variables = λ var. or_same (x == var) ∙ or_false (x == var);
  small = record { first = omega arith; second = omega arith; total = small };
}

-- the pair of a comparison says what the rule does
pub comparison_pair : (pair : BinaryRule) (kind : ConstraintKind) (scalars xs ys : List Term) (members : Members) (compared : Comparison) (a b : Term) → scalars ≡ a ∷ b ∷ [] → xs ≡ [] → ys ≡ []
    → ((scalars first second : List ℤ) → (member : ℤ → Bool) → truth kind scalars first second member ≡ stands compared.rel (argument scalars 0 -ℤ argument scalars 1) compared.total) → IsPairOfTerms compared a b pair
    → IsPairOf pair (Plain kind scalars xs ys members)
comparison_pair pair kind scalars xs ys members compared a b e f g is h = rw (e, f, g) (record {
  truth = λ values. h.truth values ∙ sym (is _ _ _ _);
  variables = λ var. h.variables var ∙ sym (among_first a (b ∷ []) var ∙ ap (λ z. is_number (variable_of a) var || z) (among_one b var));
  small = h.small;
})

-- and so does that of a sum
pub sum_pair : (pair : BinaryRule) (rel : Rel) (coefs : List ℤ) (terms : List Term) (total : Term) (told : Option Term) (parts next : Parts) → told ≡ None → AreOfSum coefs terms parts → AddsTerm parts (negsuc 0) total next
    → IsPairFrom rel next pair → IsPairOf pair (Sum rel coefs terms total told)
sum_pair pair rel coefs terms total told parts next e sum adds h = rw e (record {
  truth = λ values.
      h.truth values ∙ ap (λ z. stands rel z (pos 0)) (adds.sum values ∙ ap (λ z. z +ℤ (negsuc 0 *ℤ value_under values total)) (sum.sum values))
      ∙ stands_moved rel (sum_of (weighted_values values coefs terms) +ℤ (negsuc 0 *ℤ value_under values total)) (pos 0) (sum_of (weighted_values values coefs terms)) (value_under values total) (omega (arith, ints));
  variables = λ var.
      h.variables var ∙ adds.variables var ∙ ap (λ z. z || is_number (variable_of total) var) (sum.variables var)
      ∙ sym (among_last terms total var);
  small = h.small;
})
