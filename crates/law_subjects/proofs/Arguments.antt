-- The arguments that are read of a constraint have their values, and its form has the truth of its rule.
use Rattle.std.proofs.Common.{◌≡◌, ℕ, zero, suc, pos, Bool, true, false, List, [], ◌∷◌, ◌++◌, length, Option, Some, Ok, refl, sym, ap, ◌∙◌, subst, append_assoc, append-nil, arith}
use Rattle.std.specs.Prelude.{map, zip, ℤ, slice_index_or, ◌==◌}
use Rattle.std.specs.Option.{option_map}
use Rattle.std.proofs.lemmas.Bool.{eqb-true}
use Rattle.std.proofs.lemmas.List.Elements.{filter_map-append}
use Rattle.dcsp_defs.proofs.Lists.{and_left, and_right}
use Rattle.fzn_item.specs.declared.item.Expr.{Expr}
use Rattle.dcsp_meaning.specs.declared.linear.Rel.{Rel}
use Rattle.dcsp_meaning.specs.Sums.{sum_of, stands}
use Rattle.dcsp_meaning.specs.Table.{truth}
use Rattle.dcsp_meaning.specs.Words.{argument}
use Rattle.dcsp_defs.specs.Csp.{Assignment}
use Rattle.dcsp_rule.specs.declared.rule.Term.{Term}
use Rattle.dcsp_rule.specs.declared.rule.Term.TheVariants.{Const}
use Rattle.dcsp_rule.specs.declared.rule.Members.{Members}
use Rattle.dcsp_rule.specs.declared.rule.Members.TheVariants.{Listed}
use Rattle.dcsp_rule.specs.Members.{is_member}
use Rattle.dcsp_rule.specs.Rules.{value_under, rule_truth, is_told}
use Rattle.fzn_scope.specs.declared.place.Wanted.{Wanted}
use Rattle.fzn_scope.specs.declared.form.Place.{Place}
use Rattle.fzn_scope.specs.declared.form.Place.TheVariants as place
use Rattle.fzn_scope.specs.declared.form.Form.{Form}
use Rattle.fzn_scope.specs.declared.form.Form.TheVariants.{Plain, Sum}
use Rattle.fzn_scope.specs.Arguments.{Arguments}
use Rattle.fzn_scope.specs.Names.{Scope}
use Rattle.fzn_scope.specs.Places.{one_of, list_of, set_of}
use Rattle.fzn_scope.specs.Rules.{with_argument, arguments_after, constant_of, scalar_at, truth_of, rule_of}
use Rattle.fzn_scope.proofs.PlacesInOrder.{is_ordered, are_constant}
use Rattle.law_subjects.specs.Environments.{Value, Number, Numbers, Set, Environment, as_number, as_numbers, as_set, numbers, arrays, sets, array_at, first_set, expr_value}
use Rattle.law_subjects.specs.Holding.{told_truth, form_truth}
use Rattle.law_subjects.proofs.Checks.{bind_ok}
use Rattle.law_subjects.proofs.MeantNames.{Agrees}
use Rattle.law_subjects.proofs.Values.{append_map, one_value, list_value, set_value}
use Rattle.law_subjects.proofs.Sorts.{AreFixed, Sorted, list_fixed}

-- the arguments have these values
pub record Reads (values : Assignment) (n m : ℕ) (vs : List Value) (done : Arguments) : Type 0 where
  pub numbers_are : numbers vs ≡ map (value_under values) done.scalars
  pub first_is : array_at vs 0 ≡ map (value_under values) done.first
  pub second_is : array_at vs 1 ≡ map (value_under values) done.second
  pub set_is : first_set vs ≡ done.members
  pub arrays_read : length (arrays vs) ≡ n
  pub sets_read : length (sets vs) ≡ m

none_of : {X : Type 0} (xs : List X) → length xs ≡ 0 → xs ≡ []
none_of [] e = refl
none_of (x ∷ xs) e = absurd (omega (arith, e))

one_of_them : {X : Type 0} (xs : List X) (d : X) → length xs ≡ 1 → xs ≡ slice_index_or xs 0 d ∷ []
one_of_them [] d e = absurd (omega (arith, e))
one_of_them (x ∷ xs) d e = ap (λ (l : List _). x ∷ l) (none_of xs (omega (arith, e)))

module _ (values : Assignment) (n m : ℕ) (vs : List Value) (done : Arguments) (r : Reads values n m vs done) where
  reads_number : (t : Term) → Reads values n m (vs ++ Number (value_under values t) ∷ []) (record done { scalars = done.scalars ++ t ∷ [] })
  reads_number t =
      let v = Number (value_under values t) ∷ [] in
      let kept : arrays (vs ++ v) ≡ arrays vs = filter_map-append as_numbers vs v ∙ append-nil (arrays vs) in
      let ss : sets (vs ++ v) ≡ sets vs = filter_map-append as_set vs v ∙ append-nil (sets vs) in
      record {
        numbers_are = filter_map-append as_number vs v ∙ ap (λ (l : List ℤ). l ++ value_under values t ∷ []) r.numbers_are ∙ sym (append_map (value_under values) done.scalars (t ∷ []));
        first_is = ap (λ (l : List (List ℤ)). slice_index_or l 0 []) kept ∙ r.first_is;
        second_is = ap (λ (l : List (List ℤ)). slice_index_or l 1 []) kept ∙ r.second_is;
        set_is = ap (λ (l : List Members). slice_index_or l 0 (Listed [])) ss ∙ r.set_is;
        arrays_read = ap (λ (l : List (List ℤ)). length l) kept ∙ r.arrays_read;
        sets_read = ap (λ (l : List Members). length l) ss ∙ r.sets_read;
      }

  reads_first : n ≡ 0 → (ts : List Term) → Reads values 1 m (vs ++ Numbers (map (value_under values) ts) ∷ []) (record done { first = ts })
  reads_first z ts =
      let xs = map (value_under values) ts in
      let v = Numbers xs ∷ [] in
      let none : arrays vs ≡ [] = none_of (arrays vs) (r.arrays_read ∙ z) in
      let kept : arrays (vs ++ v) ≡ xs ∷ [] = filter_map-append as_numbers vs v ∙ ap (λ (l : List (List ℤ)). l ++ xs ∷ []) none in
      let ss : sets (vs ++ v) ≡ sets vs = filter_map-append as_set vs v ∙ append-nil (sets vs) in
      record {
        numbers_are = filter_map-append as_number vs v ∙ append-nil (numbers vs) ∙ r.numbers_are;
        first_is = ap (λ (l : List (List ℤ)). slice_index_or l 0 []) kept;
        second_is = ap (λ (l : List (List ℤ)). slice_index_or l 1 []) kept ∙ sym (ap (λ (l : List (List ℤ)). slice_index_or l 1 []) none) ∙ r.second_is;
        set_is = ap (λ (l : List Members). slice_index_or l 0 (Listed [])) ss ∙ r.set_is;
        arrays_read = ap (λ (l : List (List ℤ)). length l) kept;
        sets_read = ap (λ (l : List Members). length l) ss ∙ r.sets_read;
      }

  reads_second : n ≡ 1 → (ts : List Term) → Reads values 2 m (vs ++ Numbers (map (value_under values) ts) ∷ []) (record done { second = ts })
  reads_second z ts =
      let xs = map (value_under values) ts in
      let v = Numbers xs ∷ [] in
      let one : arrays vs ≡ array_at vs 0 ∷ [] = one_of_them (arrays vs) [] (r.arrays_read ∙ z) in
      let kept : arrays (vs ++ v) ≡ array_at vs 0 ∷ xs ∷ [] = filter_map-append as_numbers vs v ∙ ap (λ (l : List (List ℤ)). l ++ xs ∷ []) one in
      let ss : sets (vs ++ v) ≡ sets vs = filter_map-append as_set vs v ∙ append-nil (sets vs) in
      record {
        numbers_are = filter_map-append as_number vs v ∙ append-nil (numbers vs) ∙ r.numbers_are;
        first_is = ap (λ (l : List (List ℤ)). slice_index_or l 0 []) kept ∙ r.first_is;
        second_is = ap (λ (l : List (List ℤ)). slice_index_or l 1 []) kept;
        set_is = ap (λ (l : List Members). slice_index_or l 0 (Listed [])) ss ∙ r.set_is;
        arrays_read = ap (λ (l : List (List ℤ)). length l) kept;
        sets_read = ap (λ (l : List Members). length l) ss ∙ r.sets_read;
      }

  reads_set : m ≡ 0 → (set : Members) → Reads values n 1 (vs ++ Set set ∷ []) (record done { members = set })
  reads_set z set =
      let v = Set set ∷ [] in
      let kept : arrays (vs ++ v) ≡ arrays vs = filter_map-append as_numbers vs v ∙ append-nil (arrays vs) in
      let none : sets vs ≡ [] = none_of (sets vs) (r.sets_read ∙ z) in
      let ss : sets (vs ++ v) ≡ set ∷ [] = filter_map-append as_set vs v ∙ ap (λ (l : List Members). l ++ set ∷ []) none in
      record {
        numbers_are = filter_map-append as_number vs v ∙ append-nil (numbers vs) ∙ r.numbers_are;
        first_is = ap (λ (l : List (List ℤ)). slice_index_or l 0 []) kept ∙ r.first_is;
        second_is = ap (λ (l : List (List ℤ)). slice_index_or l 1 []) kept ∙ r.second_is;
        set_is = ap (λ (l : List Members). slice_index_or l 0 (Listed [])) ss;
        arrays_read = ap (λ (l : List (List ℤ)). length l) kept ∙ r.arrays_read;
        sets_read = ap (λ (l : List Members). length l) ss;
      }

-- the same, whatever was counted
pub record ReadsAll (values : Assignment) (vs : List Value) (done : Arguments) : Type 0 where
  pub n : ℕ
  pub m : ℕ
  pub reads : Reads values n m vs done

module _ (text : List ℕ) (values : Assignment) (env : Environment) (scope : Scope) (agrees : Agrees values env scope) where
  reads_more : (n m : ℕ) (vs : List Value) (done : Arguments) (p : Place) (ps : List Place) (x : Expr) (out : Arguments) → Reads values n m vs done → is_ordered n m (p ∷ ps) ≡ true → with_argument text scope done p x ≡ Ok out
      → (k : ℕ) × (l : ℕ) × Reads values k l (vs ++ expr_value text env x ∷ []) out × (is_ordered k l ps ≡ true)
  reads_more n m vs done (place.Scalar boolean) ps x out r o e =
      let wanted : Wanted = record { boolean = boolean; constant = false } in
      let b = bind_ok (one_of text scope wanted x) (λ term. Ok (record done { scalars = done.scalars ++ term ∷ [] })) out e in
      let is : record done { scalars = done.scalars ++ b.0 ∷ [] } ≡ out = cc in
      let v = one_value text values env scope agrees wanted x b.0 b.1 in
      (n, m, subst (λ (w : Value). Reads values n m (vs ++ w ∷ []) out) (sym v) (subst (Reads values n m (vs ++ Number (value_under values b.0) ∷ [])) is (reads_number values n m vs done r b.0)), o)
  reads_more n m vs done (place.First wanted) ps x out r o e =
      let b = bind_ok (list_of text scope wanted x) (λ terms. Ok (record done { first = terms })) out e in
      let is : record done { first = b.0 } ≡ out = cc in
      let v = list_value text values env scope agrees wanted x b.0 b.1 in
      let z = eqb-true n 0 (and_left (n == 0) (is_ordered 1 m ps) o) in
      (1, m, subst (λ (w : Value). Reads values 1 m (vs ++ w ∷ []) out) (sym v) (subst (Reads values 1 m (vs ++ Numbers (map (value_under values) b.0) ∷ [])) is (reads_first values n m vs done r z b.0)), and_right (n == 0) (is_ordered 1 m ps) o)
  reads_more n m vs done (place.Second wanted) ps x out r o e =
      let b = bind_ok (list_of text scope wanted x) (λ terms. Ok (record done { second = terms })) out e in
      let is : record done { second = b.0 } ≡ out = cc in
      let v = list_value text values env scope agrees wanted x b.0 b.1 in
      let z = eqb-true n 1 (and_left (n == 1) (is_ordered 2 m ps) o) in
      (2, m, subst (λ (w : Value). Reads values 2 m (vs ++ w ∷ []) out) (sym v) (subst (Reads values 2 m (vs ++ Numbers (map (value_under values) b.0) ∷ [])) is (reads_second values n m vs done r z b.0)), and_right (n == 1) (is_ordered 2 m ps) o)
  reads_more n m vs done place.Set ps x out r o e =
      let b = bind_ok (set_of text scope x) (λ members. Ok (record done { members = members })) out e in
      let is : record done { members = b.0 } ≡ out = cc in
      let v = set_value text values env scope agrees x b.0 b.1 in
      let z = eqb-true m 0 (and_left (m == 0) (is_ordered n 1 ps) o) in
      (n, 1, subst (λ (w : Value). Reads values n 1 (vs ++ w ∷ []) out) (sym v) (subst (Reads values n 1 (vs ++ Set b.0 ∷ [])) is (reads_set values n m vs done r z b.0)), and_right (m == 0) (is_ordered n 1 ps) o)

  pub reads_all : (n m : ℕ) (vs : List Value) (done : Arguments) (ps : List Place) (xs : List Expr) (out : Arguments) → Reads values n m vs done → is_ordered n m ps ≡ true → length xs ≡ length ps → arguments_after text scope done ps xs ≡ Ok out
      → ReadsAll values (vs ++ map (expr_value text env) xs) out
  reads_all n m vs done [] [] out r o l e =
      let is : done ≡ out = cc in
      record { n = n; m = m; reads = subst (λ (ws : List Value). Reads values n m ws out) (sym (append-nil vs)) (subst (Reads values n m vs) is r) }
  reads_all n m vs done [] (x ∷ xs) out r o l e = absurd (omega (arith, l))
  reads_all n m vs done (p ∷ ps) [] out r o l e = absurd (omega (arith, l))
  reads_all n m vs done (p ∷ ps) (x ∷ xs) out r o l e =
      let b = bind_ok (with_argument text scope done p x) (λ next. arguments_after text scope next ps xs) out e in
      let q = reads_more n m vs done p ps x b.0 r o b.1 in
      let w = expr_value text env x in
      subst (λ (ws : List Value). ReadsAll values ws out) (append_assoc vs (w ∷ []) (map (expr_value text env) xs))
      (reads_all q.0 q.1 (vs ++ w ∷ []) b.0 ps xs out q.2 q.3 (omega (arith, l)) b.2)

module _ (text : List ℕ) (domains : List (List ℤ)) (scope : Scope) (sorted : Sorted domains scope) where
  pub first_fixed : (done : Arguments) (ps : List Place) (xs : List Expr) (out : Arguments) → AreFixed done.first → are_constant ps ≡ true → arguments_after text scope done ps xs ≡ Ok out → AreFixed out.first
  first_fixed done [] xs out h c e = let is : done ≡ out = cc in subst (λ (a : Arguments). AreFixed a.first) is h
  first_fixed done (p ∷ ps) [] out h c e = let is : done ≡ out = cc in subst (λ (a : Arguments). AreFixed a.first) is h
  first_fixed done (place.Scalar boolean ∷ ps) (x ∷ xs) out h c e =
      let wanted : Wanted = record { boolean = boolean; constant = false } in
      let b = bind_ok (with_argument text scope done (place.Scalar boolean) x) (λ next. arguments_after text scope next ps xs) out e in
      let d = bind_ok (one_of text scope wanted x) (λ term. Ok (record done { scalars = done.scalars ++ term ∷ [] })) b.0 b.1 in
      let is : record done { scalars = done.scalars ++ d.0 ∷ [] } ≡ b.0 = cc in
      first_fixed b.0 ps xs out (subst (λ (a : Arguments). AreFixed a.first) is h) c b.2
  first_fixed done (place.First wanted ∷ ps) (x ∷ xs) out h c e =
      let b = bind_ok (with_argument text scope done (place.First wanted) x) (λ next. arguments_after text scope next ps xs) out e in
      let d = bind_ok (list_of text scope wanted x) (λ terms. Ok (record done { first = terms })) b.0 b.1 in
      let is : record done { first = d.0 } ≡ b.0 = cc in
      first_fixed b.0 ps xs out (subst (λ (a : Arguments). AreFixed a.first) is (list_fixed text domains scope sorted wanted (and_left wanted.constant (are_constant ps) c) x d.0 d.1)) (and_right wanted.constant (are_constant ps) c) b.2
  first_fixed done (place.Second wanted ∷ ps) (x ∷ xs) out h c e =
      let b = bind_ok (with_argument text scope done (place.Second wanted) x) (λ next. arguments_after text scope next ps xs) out e in
      let d = bind_ok (list_of text scope wanted x) (λ terms. Ok (record done { second = terms })) b.0 b.1 in
      let is : record done { second = d.0 } ≡ b.0 = cc in
      first_fixed b.0 ps xs out (subst (λ (a : Arguments). AreFixed a.first) is h) c b.2
  first_fixed done (place.Set ∷ ps) (x ∷ xs) out h c e =
      let b = bind_ok (with_argument text scope done place.Set x) (λ next. arguments_after text scope next ps xs) out e in
      let d = bind_ok (set_of text scope x) (λ members. Ok (record done { members = members })) b.0 b.1 in
      let is : record done { members = d.0 } ≡ b.0 = cc in
      first_fixed b.0 ps xs out (subst (λ (a : Arguments). AreFixed a.first) is h) c b.2

-- the term at a place has the number at it
at_place : (values : Assignment) (ts : List Term) (k : ℕ) → value_under values (slice_index_or ts k (Const (pos 0))) ≡ slice_index_or (map (value_under values) ts) k (pos 0)
at_place values [] k = refl
at_place values (t ∷ ts) zero = refl
at_place values (t ∷ ts) (suc k) = at_place values ts k

told : (values : Assignment) (reified : Bool) (a : Arguments) → option_map (value_under values) (truth_of reified a) ≡ told_truth reified (map (value_under values) a.scalars)
told values true a = ap Some (at_place values a.scalars 1)
told values false a = refl

-- the rule of arguments is true where its form is true of their values
pub rule_row : (values : Assignment) (form : Form) (vs : List Value) (n m : ℕ) (a : Arguments) → Reads values n m vs a → ((rel : Rel) (boolean reified : Bool) → form ≡ Sum rel boolean reified → AreFixed a.first) → rule_truth (rule_of form a) values ≡ form_truth form vs
rule_row values (Plain kind) vs n m a r f =
    sym (ap (λ (s : List ℤ). truth kind s (array_at vs 0) (array_at vs 1) (is_member (first_set vs))) r.numbers_are
    ∙ ap (λ (s : List ℤ). truth kind (map (value_under values) a.scalars) s (array_at vs 1) (is_member (first_set vs))) r.first_is
    ∙ ap (λ (s : List ℤ). truth kind (map (value_under values) a.scalars) (map (value_under values) a.first) s (is_member (first_set vs))) r.second_is
    ∙ ap (λ (s : Members). truth kind (map (value_under values) a.scalars) (map (value_under values) a.first) (map (value_under values) a.second) (is_member s)) r.set_is)
rule_row values (Sum rel boolean reified) vs n m a r f =
    let scalars = map (value_under values) a.scalars in
    let second = map (value_under values) a.second in
    let total = value_under values (scalar_at a 0) in
    let fixed = f rel boolean reified refl values in
    ap (λ (o : Option ℤ). is_told o (stands rel (sum_of (zip (map constant_of a.first) second)) total)) (told values reified a)
    ∙ ap (λ (l : List ℤ). is_told (told_truth reified scalars) (stands rel (sum_of (zip l second)) total)) (fixed ∙ sym r.first_is)
    ∙ ap (λ (l : List ℤ). is_told (told_truth reified scalars) (stands rel (sum_of (zip (array_at vs 0) l)) total)) (sym r.second_is)
    ∙ ap (λ (t : ℤ). is_told (told_truth reified scalars) (stands rel (sum_of (zip (array_at vs 0) (array_at vs 1))) t)) (at_place values a.scalars 0)
    ∙ ap (λ (s : List ℤ). is_told (told_truth reified s) (stands rel (sum_of (zip (array_at vs 0) (array_at vs 1))) (argument s 0))) (sym r.numbers_are)
