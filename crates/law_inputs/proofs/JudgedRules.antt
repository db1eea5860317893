-- A constraint is judged by its form, its arguments and the limits of its rule.
use Rattle.std.proofs.Common.{◌≡◌, ℕ, ◌+◌, ◌*◌, ◌≤◌, ◌==◌, pos, Bool, true, false, not, ◌&&◌, ◌||◌, List, [], ◌∷◌, ◌++◌, map, length, zip, Option, Some, None, Result, Ok, refl, ap, ◌∙◌, subst, length-append, arith}
use Rattle.std.specs.Prelude.{ℤ, unsigned_abs, sum_by, slice_index_or, nat_lt}
use Rattle.std.proofs.lemmas.Bool.{eqb-true}
use Rattle.std.proofs.lemmas.List.{length-map}
use Rattle.std.proofs.lemmas.List.Sums.{sum_by-cons}
use Rattle.fzn_item.specs.declared.item.Expr.{Expr}
use Rattle.dcsp_meaning.specs.declared.linear.Rel.{Rel}
use Rattle.dcsp_meaning.specs.Rows.{is_table}
use Rattle.dcsp_meaning.specs.Table.{plain_of}
use Rattle.dcsp_meaning.specs.Sums.{widest}
use Rattle.dcsp_meaning.specs.Sums.{greatest_size}
use Rattle.dcsp_common.specs.declared.limits.Which.{Which}
use Rattle.dcsp_common.specs.declared.limits.Which.TheVariants.{Rules, Terms, Elements}
use Rattle.dcsp_rule.specs.declared.rule.Term.{Term}
use Rattle.dcsp_rule.specs.declared.rule.Term.TheVariants.{Const, Var}
use Rattle.dcsp_rule.specs.declared.rule.Rule.{Rule}
use Rattle.dcsp_rule.specs.Members.{values_of}
use Rattle.dcsp_rule.specs.Rules.{size_of}
use Rattle.dcsp_rule.specs.Widths.{greatest_of, rule_width}
use Rattle.dcsp_rule.specs.Problems.{Contents, term_count}
use Rattle.dcsp_problem.specs.Limits.{list_counts, rule_counts}
use Rattle.fzn_scope.specs.declared.form.Place.{Place}
use Rattle.fzn_scope.specs.declared.form.Place.TheVariants as place
use Rattle.fzn_scope.specs.declared.form.Form.{Form}
use Rattle.fzn_scope.specs.declared.form.Form.TheVariants.{Plain, Sum}
use Rattle.fzn_scope.specs.Arguments.{Arguments}
use Rattle.fzn_token.specs.declared.refusal.Refusal.{Refusal}
use Rattle.fzn_token.specs.declared.refusal.Refusal.TheVariants as refusal
use Rattle.fzn_scope.specs.Checks.{◌>>=◌, refused_if}
use Rattle.fzn_scope.specs.Names.{Scope}
use Rattle.fzn_scope.specs.Places.{is_constant}
use Rattle.fzn_scope.specs.Forms.{places_of, form_named}
use Rattle.fzn_scope.specs.Rules.{no_arguments, arguments_after, constant_of, scalar_at, rule_of, takes_rows, lengths_agree, known_form, constraint_rule}
use Rattle.fzn_model.specs.Building.{with_rule}
use Rattle.law_inputs.specs.Sorts.{Names}
use Rattle.law_inputs.specs.Arguments.{is_within, all_suit, scalar_part, Sizes, argument_sizes, lengths_suit, products, width, form_size, constraint_suits, constraint_size}
use Rattle.law_inputs.specs.Accepted.{are_few}
use Rattle.law_inputs.proofs.Judging.{Judged, judged_bind, judged_map, judged_if, judged_test, judged_more, not_not}
use Rattle.law_inputs.proofs.SortedNames.{IsSized, AreSized, AreConstant, HaveSorts, pairwise_length}
use Rattle.fzn_scope.proofs.PlacesInOrder.{in_order, are_constant}
use Rattle.law_inputs.proofs.JudgedArguments.{AreRead, arguments_judged}
use Rattle.law_inputs.proofs.JudgedLimits.{none_past, not_past, Counted, with_one_rule, rule_tests, rule_judged}

-- ---- how great a rule is

-- there are at most as many single numbers as places
few_numbers : (text : List ℕ) (names : Names) (ps : List Place) (xs : List Expr) → length (argument_sizes text names ps xs).scalars ≤ length ps
few_numbers text names [] xs = omega arith
few_numbers text names (p ∷ ps) [] = omega arith
few_numbers text names (p ∷ ps) (x ∷ xs) =
    let rest = few_numbers text names ps xs in
    let here = few_here p in
    let long = length-append (scalar_part text names p x) (argument_sizes text names ps xs).scalars in
    omega (arith, rest, here, long) where
      few_here : (p : Place) → length (scalar_part text names p x) ≤ 1
      few_here (place.Scalar boolean) = omega arith
      few_here (place.First wanted) = omega arith
      few_here (place.Second wanted) = omega arith
      few_here place.Set = omega arith

constant_size : (domains : List (List ℤ)) (term : Term) (n : ℕ) → IsSized domains term n → is_constant term ≡ true → unsigned_abs (constant_of term) ≡ n
constant_size domains (Const v) n h k = h.0
constant_size domains (Var var) n h k = absurd cc

products_are : (domains : List (List ℤ)) (coefs terms : List Term) (ns ms : List ℕ) → AreSized domains coefs ns → AreConstant coefs → AreSized domains terms ms
    → sum_by greatest_size (zip (map constant_of coefs) (map (greatest_of domains) terms)) ≡ products ns ms
products_are domains [] terms [] ms h c k = refl
products_are domains [] terms (n ∷ ns) ms h c k = absurd h
products_are domains (t ∷ ts) terms [] ms h c k = absurd h
products_are domains (t ∷ ts) [] (n ∷ ns) [] h c k = refl
products_are domains (t ∷ ts) [] (n ∷ ns) (m ∷ ms) h c k = absurd k
products_are domains (t ∷ ts) (u ∷ us) (n ∷ ns) [] h c k = absurd k
products_are domains (t ∷ ts) (u ∷ us) (n ∷ ns) (m ∷ ms) h c k =
    sum_by-cons greatest_size (constant_of t, greatest_of domains u) (zip (map constant_of ts) (map (greatest_of domains) us))
    ∙ ap (λ (x : ℕ). x * greatest_of domains u + sum_by greatest_size (zip (map constant_of ts) (map (greatest_of domains) us))) (constant_size domains t n h.0 c.0)
    ∙ ap (λ (x : ℕ). n * x + sum_by greatest_size (zip (map constant_of ts) (map (greatest_of domains) us))) k.0.0
    ∙ ap (λ (x : ℕ). n * m + x) (products_are domains ts us ns ms h.1 c.1 k.1)

first_size : (domains : List (List ℤ)) (terms : List Term) (ns : List ℕ) → AreSized domains terms ns → greatest_of domains (slice_index_or terms 0 (Const (pos 0))) ≡ slice_index_or ns 0 0
first_size domains [] [] h = refl
first_size domains [] (n ∷ ns) h = absurd h
first_size domains (t ∷ ts) [] h = absurd h
first_size domains (t ∷ ts) (n ∷ ns) h = h.0.0

-- a rule has so many terms, is so wide, and its lists are within their limit where these are
record IsMeasured (domains : List (List ℤ)) (form : Form) (s : Sizes) (rule : Rule) : Type 0 where
  size : size_of rule ≡ form_size form s
  wide : rule_width domains rule ≡ width form s
  lists : (more : List (Which × ℕ)) → none_past (list_counts rule ++ more) ≡ (is_within Elements (length s.first) && is_within Elements (length s.second) && none_past more)

plain_tests : (a b c x y more : Bool) → a ≡ true → b ≡ x → c ≡ y → (a && (b && (c && more))) ≡ ((x && y) && more)
plain_tests true b c x y more e f g = subst (λ (z : Bool). (b && (c && more)) ≡ ((z && y) && more)) f (subst (λ (z : Bool). (b && (c && more)) ≡ ((b && z) && more)) g (by_cases b c more)) where
  by_cases : (b c more : Bool) → (b && (c && more)) ≡ ((b && c) && more)
  by_cases true c more = refl
  by_cases false c more = refl
plain_tests false b c x y more e f g = absurd cc

sum_tests : (b c x y more : Bool) → b ≡ x → c ≡ y → (b && (c && more)) ≡ ((x && y) && more)
sum_tests b c x y more f g = plain_tests true b c x y more refl f g

plain_measured : (domains : List (List ℤ)) (kind : _) (fixed : Bool) (s : Sizes) (a : Arguments) → AreRead domains fixed s a → length s.scalars ≤ 4 → IsMeasured domains (Plain kind) s (rule_of (Plain kind) a)
plain_measured domains kind fixed s a r few =
    let x = pairwise_length (IsSized domains) a.scalars s.scalars r.scalars in
    let y = pairwise_length (IsSized domains) a.first s.first r.first in
    let z = pairwise_length (IsSized domains) a.second s.second r.second in
    let p = length-append (a.scalars ++ a.first) a.second in
    let q = length-append a.scalars a.first in
    let m = r.members in
    let short : length a.scalars ≤ 65536 = omega (arith, x, few) in
    let whole : length (a.scalars ++ a.first ++ a.second) + length (values_of a.members) ≡ length s.scalars + length s.first + length s.second + s.members = omega (arith, x, y, z, p, q, m) in
    record {
      size = whole;
      wide = refl;
      lists = λ more. plain_tests (is_within Elements (length a.scalars)) (is_within Elements (length a.first)) (is_within Elements (length a.second)) _ _ (none_past more) (not_past 65536 (length a.scalars) short) (ap (is_within Elements) y) (ap (is_within Elements) z);
    }

sum_measured : (domains : List (List ℤ)) (rel : Rel) (boolean reified : Bool) (s : Sizes) (a : Arguments) → AreRead domains true s a → IsMeasured domains (Sum rel boolean reified) s (rule_of (Sum rel boolean reified) a)
sum_measured domains rel boolean reified s a r =
    let y = pairwise_length (IsSized domains) a.first s.first r.first in
    let z = pairwise_length (IsSized domains) a.second s.second r.second in
    let coefs = length-map a.first constant_of ∙ y in
    let total = first_size domains a.scalars s.scalars r.scalars in
    let sums = products_are domains a.first a.second s.first s.second r.first (r.constant refl) r.second in
    record {
      size = sized reified z;
      wide = omega (arith, total, sums);
      lists = λ more. sum_tests (is_within Elements (length (map constant_of a.first))) (is_within Elements (length a.second)) _ _ (none_past more) (ap (is_within Elements) coefs) (ap (is_within Elements) z);
    } where
      sized : (reified : Bool) → length a.second ≡ length s.second → size_of (rule_of (Sum rel boolean reified) a) ≡ form_size (Sum rel boolean reified) s
      sized true z = let p = length-append a.second (scalar_at a 0 ∷ scalar_at a 1 ∷ []) in omega (arith, p, z)
      sized false z = let p = length-append a.second (scalar_at a 0 ∷ []) in omega (arith, p, z)

-- the coefficients of a sum are constants
abbrev is_sum : Form → Bool
is_sum (Plain kind) = false
is_sum (Sum rel boolean reified) = true

fixed_of : (form : Form) (count : ℕ) → is_sum form ≡ true → are_constant (places_of form count) ≡ true
fixed_of (Plain kind) count e = absurd cc
fixed_of (Sum rel boolean true) count e = refl
fixed_of (Sum rel boolean false) count e = refl

measured : (domains : List (List ℤ)) (form : Form) (s : Sizes) (a : Arguments) → AreRead domains (is_sum form) s a → length s.scalars ≤ 4 → IsMeasured domains form s (rule_of form a)
measured domains (Plain kind) s a r few = plain_measured domains kind false s a r few
measured domains (Sum rel boolean reified) s a r few = sum_measured domains rel boolean reified s a r

lengths_are : (domains : List (List ℤ)) (form : Form) (fixed : Bool) (s : Sizes) (a : Arguments) → AreRead domains fixed s a → lengths_agree form a ≡ lengths_suit form s
lengths_are domains (Plain kind) fixed s a r =
    let y = pairwise_length (IsSized domains) a.first s.first r.first in
    let z = pairwise_length (IsSized domains) a.second s.second r.second in
    ap (λ (n : ℕ). not (takes_rows (plain_of kind)) || is_table n (length a.second)) y ∙ ap (λ (n : ℕ). not (takes_rows (plain_of kind)) || is_table (length s.first) n) z
lengths_are domains (Sum rel boolean reified) fixed s a r =
    let y = pairwise_length (IsSized domains) a.first s.first r.first in
    let z = pairwise_length (IsSized domains) a.second s.second r.second in
    ap (λ (n : ℕ). n == length a.second) y ∙ ap (λ (n : ℕ). length s.first == n) z

not_false : (b : Bool) → not b ≡ false → b ≡ true
not_false true e = refl
not_false false e = absurd cc

regroup : (a b c d e f g : Bool) → ((a && (b && c)) && (d && ((e && f) && g))) ≡ ((((((a && b) && c) && d) && e) && f) && g)
regroup true true true true e f g = refl
regroup true true true false e f g = refl
regroup true true false d e f g = refl
regroup true false c d e f g = refl
regroup false b c d e f g = refl

module _ (text : List ℕ) (names : Names) (scope : Scope) (p : Contents) (sorted : HaveSorts p.domains scope names) (at : ℕ) (xs : List Expr) where
  -- what follows the form
  abbrev after_form : Form → Result Rule Refusal
  after_form form =
      refused_if (not (length xs == length (places_of form (length xs)))) (refusal.IllTyped at) >>= (λ _.
      arguments_after text scope no_arguments (places_of form (length xs)) xs >>= (λ arguments.
      refused_if (not (lengths_agree form arguments)) (refusal.IllTyped at) >>= (λ _. Ok (rule_of form arguments))))

  abbrev sizes : Form → Sizes
  sizes form = argument_sizes text names (places_of form (length xs)) xs

  abbrev form_test : Form → Bool
  form_test form = (length xs == length (places_of form (length xs))) && (all_suit text names (places_of form (length xs)) xs && lengths_suit form (sizes form))

  form_judged : (form : Form) → Judged (after_form form) (form_test form) (IsMeasured p.domains form (sizes form))
  form_judged form =
      let ps = places_of form (length xs) in
      let s = sizes form in
      let count = length xs == length ps in
      let all = all_suit text names ps xs in
      let few : length s.scalars ≤ 4 = let a = few_numbers text names ps xs in let b = (in_order form (length xs)).few in omega (arith, a, b) in
      let last : (a : Arguments) → AreRead p.domains (is_sum form) s a → Judged (refused_if (not (lengths_agree form a)) (refusal.IllTyped at) >>= (λ _. Ok (rule_of form a))) (lengths_suit form s) (IsMeasured p.domains form s) =
      λ a r. judged_test (refused_if (not (lengths_agree form a)) (refusal.IllTyped at) >>= (λ _. Ok (rule_of form a))) (not (not (lengths_agree form a))) (lengths_suit form s) (IsMeasured p.domains form s) (not_not (lengths_agree form a) ∙ lengths_are p.domains form (is_sum form) s a r)
      (judged_map (refused_if (not (lengths_agree form a)) (refusal.IllTyped at)) (λ _. rule_of form a) (not (not (lengths_agree form a))) (λ _. not (lengths_agree form a) ≡ false) (IsMeasured p.domains form s) (judged_if (not (lengths_agree form a)) (refusal.IllTyped at)) (λ _ _. measured p.domains form s a r few)) in
      let read : length xs ≡ length ps → Judged (arguments_after text scope no_arguments ps xs >>= (λ a. refused_if (not (lengths_agree form a)) (refusal.IllTyped at) >>= (λ _. Ok (rule_of form a)))) (all && lengths_suit form s) (IsMeasured p.domains form s) =
      λ l. judged_bind (arguments_after text scope no_arguments ps xs) (λ a. refused_if (not (lengths_agree form a)) (refusal.IllTyped at) >>= (λ _. Ok (rule_of form a))) all (lengths_suit form s) (AreRead p.domains (is_sum form) s) (IsMeasured p.domains form s)
      (arguments_judged text names p.domains scope sorted form (is_sum form) xs l (fixed_of form (length xs))) last in
      judged_test (after_form form) (not (not count) && (all && lengths_suit form s)) (form_test form) (IsMeasured p.domains form s) (ap (λ (b : Bool). b && (all && lengths_suit form s)) (not_not count))
      (judged_bind (refused_if (not count) (refusal.IllTyped at)) (λ _. arguments_after text scope no_arguments ps xs >>= (λ a. refused_if (not (lengths_agree form a)) (refusal.IllTyped at) >>= (λ _. Ok (rule_of form a)))) (not (not count)) (all && lengths_suit form s) (λ _. not count ≡ false) (IsMeasured p.domains form s)
      (judged_if (not count) (refusal.IllTyped at)) (λ _ e. read (eqb-true (length xs) (length ps) (not_false count e))))

  -- a rule of so many terms is added
  pub record HasRule (size : ℕ) (q : Contents) : Type 0 where
    pub rule : Rule
    pub added : q ≡ with_one_rule p rule
    pub sized : size_of rule ≡ size

  module _ (variables rules : List ℕ) (counted : Counted p variables rules) where
    added_judged : (form : Form) (rule : Rule) → IsMeasured p.domains form (sizes form) rule
        → Judged (with_rule at p rule) (not (nat_lt widest (width form (sizes form))) && (is_within Elements (length (sizes form).first) && is_within Elements (length (sizes form).second) && are_few variables (rules ++ form_size form (sizes form) ∷ []))) (HasRule (form_size form (sizes form)))
    added_judged form rule m =
        let s = sizes form in
        let n = form_size form s in
        let few : none_past ((Rules, length p.rules + 1) ∷ (Terms, term_count p + size_of rule) ∷ []) ≡ are_few variables (rules ++ n ∷ []) = rule_tests p variables rules (size_of rule) counted ∙ ap (λ (k : ℕ). are_few variables (rules ++ k ∷ [])) m.size in
        let lists = m.lists ((Rules, length p.rules + 1) ∷ (Terms, term_count p + size_of rule) ∷ []) in
        let same : (not (nat_lt widest (rule_width p.domains rule)) && none_past (rule_counts p rule)) ≡ (not (nat_lt widest (width form s)) && (is_within Elements (length s.first) && is_within Elements (length s.second) && are_few variables (rules ++ n ∷ []))) =
        ap (λ (k : ℕ). not (nat_lt widest k) && none_past (rule_counts p rule)) m.wide
        ∙ ap (λ (b : Bool). not (nat_lt widest (width form s)) && b) (lists ∙ ap (λ (b : Bool). is_within Elements (length s.first) && is_within Elements (length s.second) && b) few) in
        judged_test (with_rule at p rule) _ _ (HasRule n) same
        (judged_more (with_rule at p rule) (not (nat_lt widest (rule_width p.domains rule)) && none_past (rule_counts p rule)) (λ q. q ≡ with_one_rule p rule) (HasRule n) (λ q e. record { rule = rule; added = e; sized = m.size }) (rule_judged at p rule))

    -- the rule of a form, added
    pub ruled_judged : (o : Option Form) → Judged (known_form at o >>= after_form >>= (λ rule. with_rule at p rule)) (constraint_suits text names o xs && are_few variables (rules ++ constraint_size text names o xs ∷ [])) (HasRule (constraint_size text names o xs))
    ruled_judged None = refl
    ruled_judged (Some form) =
        let s = sizes form in
        let test = not (nat_lt widest (width form s)) && (is_within Elements (length s.first) && is_within Elements (length s.second) && are_few variables (rules ++ form_size form s ∷ [])) in
        judged_test (after_form form >>= (λ rule. with_rule at p rule)) (form_test form && test) (constraint_suits text names (Some form) xs && are_few variables (rules ++ constraint_size text names (Some form) xs ∷ [])) (HasRule (form_size form s))
        (regroup (length xs == length (places_of form (length xs))) (all_suit text names (places_of form (length xs)) xs) (lengths_suit form s) (not (nat_lt widest (width form s))) (is_within Elements (length s.first)) (is_within Elements (length s.second)) (are_few variables (rules ++ form_size form s ∷ [])))
        (judged_bind (after_form form) (λ rule. with_rule at p rule) (form_test form) test (IsMeasured p.domains form s) (HasRule (form_size form s)) (form_judged form) (λ rule m. added_judged form rule m))

  -- the same of a constraint's name
  pub named_judged : (name : List ℕ) (variables rules : List ℕ) → Counted p variables rules → Judged (constraint_rule text scope at name xs >>= (λ rule. with_rule at p rule)) (constraint_suits text names (form_named name) xs && are_few variables (rules ++ constraint_size text names (form_named name) xs ∷ [])) (HasRule (constraint_size text names (form_named name) xs))
  unfolding constraint_rule
  named_judged name variables rules counted = ruled_judged variables rules counted (form_named name)
