-- Widths: which stay as they are, where a greatest absolute value stands, and that no sum is greater.
use Rattle.std.proofs.Common.{◌≡◌, ℕ, ◌+◌, ◌-◌, ◌*◌, ◌<◌, ◌≤◌, true, false, max, nat_lt, drop, List, [], ◌∷◌, ◌++◌, map, zip, length, get_or, refl, sym, ap, ◌∙◌, arith, inl, inr, subst}
use Rattle.std.specs.Prelude.{ℤ, pos, ◌<ℤ◌, ◌≤ℤ◌, unsigned_abs, slice_get, slice_index_or, sum_by, All, Option, Some}
use Rattle.std.specs.Option.{option_to_list}
use Rattle.std.proofs.lemmas.Int.{ints}
use Rattle.std.proofs.lemmas.Nat.{mul-le}
use Rattle.std.proofs.lemmas.Bool.Decides.{nat_tests}
use Rattle.std.proofs.lemmas.List.{get_or_append_left, get_or-map, length-map}
use Rattle.std.proofs.lemmas.List.Elements.{All-head, All-tail, All-cons, All-contains}
use Rattle.std.proofs.lemmas.List.Sums.{sum_by-cons}
use Rattle.std.proofs.lemmas.Option.{get_or_from_slice_get}
use Rattle.dcsp_domain.specs.Sets.{IsRising, has}
use Rattle.dcsp_domain.proofs.Rising.{Rises, rises_from_rising, has_cases, has_first}
use Rattle.dcsp_meaning.specs.Sums.{size_of as product_size, greatest_size}
use Rattle.dcsp_meaning.specs.declared.linear.TheConstants.{WIDEST}
use Rattle.dcsp_meaning.proofs.Steps.{greatest-drop}
use Rattle.dcsp_defs.specs.Words.{In}
use Rattle.dcsp_defs.specs.Csp.{Assignment}
use Rattle.dcsp_defs.proofs.Lists.{In-left, In-right}
use Rattle.dcsp_rule.specs.declared.rule.Term.{Term}
use Rattle.dcsp_rule.specs.declared.rule.Term.TheVariants.{Const, Var}
use Rattle.dcsp_rule.specs.declared.rule.Rule.{Rule}
use Rattle.dcsp_rule.specs.declared.rule.Rule.TheVariants.{Plain, Sum}
use Rattle.dcsp_rule.specs.Rules.{value_under, terms_of, weighted_values, IsTermOf, IsRuleOf}
use Rattle.dcsp_rule.specs.Widths.{greatest_among, greatest_of, rule_width, rule_sizes}
use Rattle.dcsp_problem.proofs.RisingNumbers.{Contains-In}
use Rattle.dcsp_problem.proofs.Local.{OfEach, of_left, of_right, of_first, of_rest}

-- a further domain changes no term's greatest absolute value
greatest_with : (domains : List (List ℤ)) (domain : List ℤ) (term : Term) → IsTermOf (length domains) term → greatest_of (domains ++ domain ∷ []) term ≡ greatest_of domains term
greatest_with domains domain (Const value) h = refl
greatest_with domains domain (Var var) h = ap greatest_among (get_or_append_left domains (domain ∷ []) [] var h)

all_greatest_with : (domains : List (List ℤ)) (domain : List ℤ) (terms : List Term) → ((t : Term) → In t terms → IsTermOf (length domains) t) → map (greatest_of (domains ++ domain ∷ [])) terms ≡ map (greatest_of domains) terms
all_greatest_with domains domain [] h = refl
all_greatest_with domains domain (term ∷ terms) h =
    ap (λ z. z ∷ map (greatest_of (domains ++ domain ∷ [])) terms) (greatest_with domains domain term (h term (inl refl)))
    ∙ ap (λ z. greatest_of domains term ∷ z) (all_greatest_with domains domain terms (λ t i. h t (inr i)))

-- the width of a rule over the variables that there were stays as it is
pub width_with : (domains : List (List ℤ)) (domain : List ℤ) (rule : Rule) → ((t : Term) → In t (terms_of rule) → IsTermOf (length domains) t) → rule_width (domains ++ domain ∷ []) rule ≡ rule_width domains rule
width_with domains domain (Plain kind xs ys zs members) h = refl
width_with domains domain (Sum rel coefs terms total told) h =
    let all = all_greatest_with domains domain terms (λ t i. h t (In-left t terms (total ∷ option_to_list told) i)) in
    let last = greatest_with domains domain total (h total (In-right total terms (total ∷ option_to_list told) (inl refl))) in
    ap (λ z. sum_by greatest_size (zip coefs z) + greatest_of (domains ++ domain ∷ []) total) all
    ∙ ap (λ z. sum_by greatest_size (zip coefs (map (greatest_of domains) terms)) + z) last

known_terms : (n : ℕ) (terms : List Term) → All (IsTermOf n) terms → (t : Term) → In t terms → IsTermOf n t
known_terms n terms known t i = All-contains (IsTermOf n) terms t known (Contains-In terms t i)

-- a sum's total is one of its terms
pub total_known : (n : ℕ) (terms : List Term) (total : Term) (told : Option Term) → All (IsTermOf n) (terms ++ total ∷ option_to_list told) → IsTermOf n total
total_known n terms total told known = known_terms n (terms ++ total ∷ option_to_list told) known total (In-right total terms (total ∷ option_to_list told) (inl refl))

-- narrow sums stay narrow
pub narrow_with : (domains : List (List ℤ)) (domain : List ℤ) (rules : List Rule) → All (IsRuleOf (length domains)) rules → All (λ rule. rule_width domains rule ≤ WIDEST) rules
    → All (λ rule. rule_width (domains ++ domain ∷ []) rule ≤ WIDEST) rules
narrow_with domains domain [] known narrow = λ k d l. absurd (omega arith)
narrow_with domains domain (rule ∷ rules) known narrow =
    let first = All-head (IsRuleOf (length domains)) rule rules known in
    let same = width_with domains domain rule (known_terms (length domains) (terms_of rule) first.known) in
    let here : rule_width domains rule ≤ WIDEST = All-head (λ r. rule_width domains r ≤ WIDEST) rule rules narrow in
    All-cons (λ r. rule_width (domains ++ domain ∷ []) r ≤ WIDEST) rule rules (subst (λ (z : ℕ). z ≤ WIDEST) (sym same) here)
    (narrow_with domains domain rules (All-tail (IsRuleOf (length domains)) rule rules known) (All-tail (λ r. rule_width domains r ≤ WIDEST) rule rules narrow))

-- the last of some numbers
last_from : ℤ → List ℤ → ℤ
last_from x [] = x
last_from x (y ∷ ys) = last_from y ys

last_is : (x : ℤ) (xs : List ℤ) (d : ℤ) → get_or (x ∷ xs) (length xs) d ≡ last_from x xs
unfolding last_from
last_is x [] d = refl
last_is x (y ∷ ys) d = last_is y ys d

first_least : (x : ℤ) (xs : List ℤ) → Rises (x ∷ xs) → x ≤ℤ last_from x xs
unfolding last_from
first_least x [] r = omega (arith, ints)
first_least x (y ∷ ys) r = let here : x <ℤ y = r.0.each y (has_first y ys) in let later = first_least y ys r.1 in omega (arith, ints)

between_ends : (x y z : ℤ) → x <ℤ y → y ≤ℤ z → unsigned_abs y ≤ max (unsigned_abs x) (unsigned_abs z)
between_ends x y z a b = omega (arith, ints)

without_middle : (a b c : ℕ) → b ≤ max a c → max a (max b c) ≡ max a c
without_middle a b c h = omega arith

alone : (a : ℕ) → max a 0 ≡ max a a
alone a = omega arith

greatest_at_ends : (x : ℤ) (xs : List ℤ) → Rises (x ∷ xs) → greatest_among (x ∷ xs) ≡ max (unsigned_abs x) (unsigned_abs (last_from x xs))
unfolding last_from
greatest_at_ends x [] r = alone (unsigned_abs x)
greatest_at_ends x (y ∷ ys) r =
    ap (λ z. max (unsigned_abs x) z) (greatest_at_ends y ys r.1)
    ∙ without_middle _ _ _ (between_ends x y (last_from y ys) (r.0.each y (has_first y ys)) (first_least y ys r.1))

-- a rising list's greatest absolute value is at one of its ends
pub greatest_is : (xs : List ℤ) (lowest highest : ℤ) → IsRising xs → 0 < length xs → slice_get xs 0 ≡ Some lowest → slice_get xs (length xs - 1) ≡ Some highest
    → greatest_among xs ≡ max (unsigned_abs lowest) (unsigned_abs highest)
greatest_is [] lowest highest up some first last = absurd (omega arith)
greatest_is (x ∷ xs) lowest highest up some first last =
    let low : x ≡ lowest = get_or_from_slice_get (x ∷ xs) 0 lowest x first in
    let place : length (x ∷ xs) - 1 ≡ length xs = omega arith in
    let high : last_from x xs ≡ highest = sym (last_is x xs x) ∙ get_or_from_slice_get (x ∷ xs) (length xs) highest x (subst (λ (z : ℕ). slice_get (x ∷ xs) z ≡ Some highest) place last) in
    greatest_at_ends x xs (rises_from_rising (x ∷ xs) up) ∙ ap (λ z. max (unsigned_abs z) (unsigned_abs (last_from x xs))) low ∙ ap (λ z. max (unsigned_abs lowest) (unsigned_abs z)) high

-- a value's absolute value is at most the greatest
greatest_least : (xs : List ℤ) (v : ℤ) → has xs v ≡ true → unsigned_abs v ≤ greatest_among xs
greatest_least [] v h = absurd (cc)
greatest_least (x ∷ xs) v h = elim (has_cases v x xs h) [
  | inl e ↦ let same : unsigned_abs v ≡ unsigned_abs x = ap unsigned_abs e in omega arith
  | inr later ↦ let rest = greatest_least xs v later in omega arith
]

-- the assignment's value of the variable is in its domain
abbrev pub IsInDomain : List (List ℤ) → Assignment → ℕ → Type 0
IsInDomain domains values v = has (slice_index_or domains v []) (values v) ≡ true

value_within : (domains : List (List ℤ)) (values : Assignment) (term : Term) → OfEach (IsInDomain domains values) (term ∷ []) → unsigned_abs (value_under values term) ≤ greatest_of domains term
value_within domains values (Const value) h = omega arith
value_within domains values (Var var) h = greatest_least (slice_index_or domains var []) (values var) (h.each var (inl refl))

products_within : (domains : List (List ℤ)) (values : Assignment) (coefs : List ℤ) (terms : List Term) → OfEach (IsInDomain domains values) terms
    → sum_by product_size (weighted_values values coefs terms) ≤ sum_by greatest_size (zip coefs (map (greatest_of domains) terms))
products_within domains values [] terms h = omega arith
products_within domains values (coef ∷ coefs) [] h = omega arith
products_within domains values (coef ∷ coefs) (term ∷ terms) h =
    let here = value_within domains values term (of_first (IsInDomain domains values) term terms h) in
    let same : unsigned_abs coef ≤ unsigned_abs coef = omega arith in
    let product = mul-le (unsigned_abs coef) (unsigned_abs (value_under values term)) (unsigned_abs coef) (greatest_of domains term) same here in
    let rest = products_within domains values coefs terms (of_rest (IsInDomain domains values) term terms h) in
    let both : unsigned_abs coef * unsigned_abs (value_under values term) + sum_by product_size (weighted_values values coefs terms)
    ≤ unsigned_abs coef * greatest_of domains term + sum_by greatest_size (zip coefs (map (greatest_of domains) terms)) = omega arith in
    rw (sum_by-cons product_size (coef, value_under values term) (weighted_values values coefs terms), sum_by-cons greatest_size (coef, greatest_of domains term) (zip coefs (map (greatest_of domains) terms))) both

-- values in their domains make no sum that is greater than the width
pub sizes_within : (domains : List (List ℤ)) (values : Assignment) (rule : Rule) → OfEach (IsInDomain domains values) (terms_of rule) → rule_sizes rule values ≤ rule_width domains rule
sizes_within domains values (Plain kind xs ys zs members) h = omega arith
sizes_within domains values (Sum rel coefs terms total told) h =
    let P = IsInDomain domains values in
    let products = products_within domains values coefs terms (of_left P terms (total ∷ option_to_list told) h) in
    let rest : OfEach P (total ∷ option_to_list told) = of_right P terms (total ∷ option_to_list told) h in
    let last = value_within domains values total (of_first P total (option_to_list told) rest) in
    omega arith

-- one product more of a width
pub width_here : (domains : List (List ℤ)) (coefs : List ℤ) (terms : List Term) (k : ℕ) (d : Term) → length coefs ≡ length terms → k < length coefs
    → sum_by greatest_size (drop k (zip coefs (map (greatest_of domains) terms))) ≡ unsigned_abs (get_or coefs k (pos 0)) * greatest_of domains (get_or terms k d) + sum_by greatest_size (drop (k + 1) (zip coefs (map (greatest_of domains) terms)))
width_here domains coefs terms k d shape here =
    let greatest = map (greatest_of domains) terms in
    let inside : k < length terms = omega (arith, here, shape) in
    greatest-drop coefs greatest k here (omega (arith, inside, length-map terms (greatest_of domains)))
    ∙ ap (λ g. unsigned_abs (get_or coefs k (pos 0)) * g + sum_by greatest_size (drop (k + 1) (zip coefs greatest))) (get_or-map (greatest_of domains) terms k d 0 inside)

pub is_wider : (width bound : ℕ) → bound < width → true ≡ nat_lt bound width
is_wider width bound h = grind (arith, nat_tests)

pub is_narrower : (width bound : ℕ) → width ≤ bound → false ≡ nat_lt bound width
is_narrower width bound h = grind (arith, nat_tests)
