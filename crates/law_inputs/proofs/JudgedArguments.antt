-- The arguments of a constraint are judged by the sorts of names, and its rule is as great as they say.
use Rattle.std.proofs.Common.{◌≡◌, ℕ, ◌+◌, ◌≤◌, ◌==◌, Bool, true, false, List, [], ◌∷◌, ◌++◌, length, zip, refl, sym, ◌∙◌, subst, append_assoc, append-nil, arith}
use Rattle.std.specs.Prelude.{ℤ, sum_by}
use Rattle.std.proofs.lemmas.Bool.{eqb-true}
use Rattle.std.proofs.lemmas.List.Sums.{sum_by-cons}
use Rattle.dcsp_defs.proofs.Lists.{and_left, and_right}
use Rattle.fzn_item.specs.declared.item.Expr.{Expr}
use Rattle.dcsp_rule.specs.declared.rule.Members.{Members}
use Rattle.dcsp_rule.specs.Members.{values_of}
use Rattle.fzn_scope.specs.declared.place.Wanted.{Wanted}
use Rattle.fzn_scope.specs.declared.form.Place.{Place}
use Rattle.fzn_scope.specs.declared.form.Place.TheVariants as place
use Rattle.fzn_scope.specs.declared.form.Form.{Form}
use Rattle.fzn_scope.specs.Arguments.{Arguments}
use Rattle.fzn_scope.specs.Names.{Scope}
use Rattle.fzn_scope.specs.Places.{one_of, list_of, set_of}
use Rattle.fzn_scope.specs.Forms.{places_of}
use Rattle.fzn_scope.proofs.PlacesInOrder.{is_ordered, are_constant, in_order}
use Rattle.fzn_scope.specs.Rules.{no_arguments, with_argument, arguments_after}
use Rattle.law_inputs.specs.Sorts.{Names, one_suits, one_size, list_suits, list_sizes, set_suits, set_count}
use Rattle.law_inputs.specs.Arguments.{place_suits, all_suit, scalar_part, first_part, second_part, set_part, Sizes, argument_sizes}
use Rattle.law_inputs.proofs.Judging.{Judged, judged_bind, judged_map, judged_more}
use Rattle.law_inputs.proofs.SortedNames.{IsSized, AreSized, AreConstant, HaveSorts, pairwise_push}
use Rattle.law_inputs.proofs.JudgedExprs.{IsGiven, AreGiven, one_judged, list_judged, set_judged}

-- ---- arguments that are read

-- the arguments are of these sizes; the first list is of constants where this is true
pub record AreRead (domains : List (List ℤ)) (fixed : Bool) (s : Sizes) (a : Arguments) : Type 0 where
  pub scalars : AreSized domains a.scalars s.scalars
  pub first : AreSized domains a.first s.first
  pub second : AreSized domains a.second s.second
  pub members : length (values_of a.members) ≡ s.members
  pub constant : fixed ≡ true → AreConstant a.first

-- of so many lists and sets there is nothing yet
record AreUnread (n m : ℕ) (s : Sizes) : Type 0 where
  no_first : n ≡ 0 → s.first ≡ []
  no_second : n ≤ 1 → s.second ≡ []
  no_set : m ≡ 0 → s.members ≡ 0

module _ (text : List ℕ) (names : Names) where
  -- the sizes with an argument more
  abbrev plus : Sizes → Place → Expr → Sizes
  plus s p x = record {
    scalars = s.scalars ++ scalar_part text names p x;
    first = s.first ++ first_part text names p x;
    second = s.second ++ second_part text names p x;
    members = s.members + set_part text names p x;
  }

  -- with all these
  abbrev plus_all : Sizes → List Place → List Expr → Sizes
  plus_all s ps xs = record {
    scalars = s.scalars ++ (argument_sizes text names ps xs).scalars;
    first = s.first ++ (argument_sizes text names ps xs).first;
    second = s.second ++ (argument_sizes text names ps xs).second;
    members = s.members + (argument_sizes text names ps xs).members;
  }

  plus_one : (s : Sizes) (p : Place) (x : Expr) (ps : List Place) (xs : List Expr) → plus_all (plus s p x) ps xs ≡ plus_all s (p ∷ ps) (x ∷ xs)
  plus_one s p x ps xs =
      let part : Place × Expr → ℕ = λ y. set_part text names y.0 y.1 in
      let more : s.members + set_part text names p x + sum_by part (zip ps xs) ≡ s.members + sum_by part ((p, x) ∷ zip ps xs) = let e = sum_by-cons part (p, x) (zip ps xs) in omega (arith, e) in
      let a = append_assoc s.scalars (scalar_part text names p x) (argument_sizes text names ps xs).scalars in
      let b = append_assoc s.first (first_part text names p x) (argument_sizes text names ps xs).first in
      let c = append_assoc s.second (second_part text names p x) (argument_sizes text names ps xs).second in
      λ i. record { scalars = a i; first = b i; second = c i; members = more i }

  plus_none : (s : Sizes) → s ≡ plus_all s [] []
  plus_none s =
      let a = sym (append-nil s.scalars) in
      let b = sym (append-nil s.first) in
      let c = sym (append-nil s.second) in
      let d : s.members ≡ s.members + 0 = omega arith in
      λ i. record { scalars = a i; first = b i; second = c i; members = d i }

  module _ (domains : List (List ℤ)) (scope : Scope) (sorted : HaveSorts domains scope names) where
    -- one argument more
    record Next (n m : ℕ) (fixed : Bool) (s : Sizes) (p : Place) (ps : List Place) (x : Expr) (a : Arguments) : Type 0 where
      lists : ℕ
      sets : ℕ
      read : AreRead domains fixed (plus s p x) a
      unread : AreUnread lists sets (plus s p x)
      ordered : is_ordered lists sets ps ≡ true
      constant : fixed ≡ true → are_constant ps ≡ true

    next_judged : (n m : ℕ) (fixed : Bool) (s : Sizes) (a : Arguments) (p : Place) (ps : List Place) (x : Expr) → AreRead domains fixed s a → AreUnread n m s → is_ordered n m (p ∷ ps) ≡ true → (fixed ≡ true → are_constant (p ∷ ps) ≡ true)
        → Judged (with_argument text scope a p x) (place_suits text names p x) (Next n m fixed s p ps x)
    next_judged n m fixed s a (place.Scalar boolean) ps x r u o c =
        let w : Wanted = record { boolean = boolean; constant = false } in
        let none : s.members ≡ s.members + 0 = omega arith in
        judged_map (one_of text scope w x) (λ term. record a { scalars = a.scalars ++ term ∷ [] }) (one_suits text names w x) (IsGiven domains w (one_size text names x)) (Next n m fixed s (place.Scalar boolean) ps x)
        (one_judged text domains scope names sorted w x)
        (λ term g. record {
          lists = n;
          sets = m;
          read = record {
            scalars = pairwise_push (IsSized domains) a.scalars s.scalars term (one_size text names x) r.scalars g.0;
            first = subst (AreSized domains a.first) (sym (append-nil s.first)) r.first;
            second = subst (AreSized domains a.second) (sym (append-nil s.second)) r.second;
            members = r.members ∙ none;
            constant = r.constant;
          };
          unread = record { no_first = λ e. append-nil s.first ∙ u.no_first e; no_second = λ e. append-nil s.second ∙ u.no_second e; no_set = λ e. sym none ∙ u.no_set e };
          ordered = o;
          constant = c;
        })
    next_judged n m fixed s a (place.First wanted) ps x r u o c =
        let none : s.members ≡ s.members + 0 = omega arith in
        let z = eqb-true n 0 (and_left (n == 0) (is_ordered 1 m ps) o) in
        judged_map (list_of text scope wanted x) (λ terms. record a { first = terms }) (list_suits text names wanted x) (AreGiven domains wanted (list_sizes text names x)) (Next n m fixed s (place.First wanted) ps x)
        (list_judged text domains scope names sorted wanted x)
        (λ terms g. record {
          lists = 1;
          sets = m;
          read = record {
            scalars = subst (AreSized domains a.scalars) (sym (append-nil s.scalars)) r.scalars;
            first = subst (λ (ns : List ℕ). AreSized domains terms (ns ++ list_sizes text names x)) (sym (u.no_first z)) g.0;
            second = subst (AreSized domains a.second) (sym (append-nil s.second)) r.second;
            members = r.members ∙ none;
            constant = λ e. g.1 (and_left wanted.constant (are_constant ps) (c e));
          };
          unread = record { no_first = λ e. absurd (omega (arith, e)); no_second = λ e. append-nil s.second ∙ u.no_second (omega (arith, z)); no_set = λ e. sym none ∙ u.no_set e };
          ordered = and_right (n == 0) (is_ordered 1 m ps) o;
          constant = λ e. and_right wanted.constant (are_constant ps) (c e);
        })
    next_judged n m fixed s a (place.Second wanted) ps x r u o c =
        let none : s.members ≡ s.members + 0 = omega arith in
        let z = eqb-true n 1 (and_left (n == 1) (is_ordered 2 m ps) o) in
        judged_map (list_of text scope wanted x) (λ terms. record a { second = terms }) (list_suits text names wanted x) (AreGiven domains wanted (list_sizes text names x)) (Next n m fixed s (place.Second wanted) ps x)
        (list_judged text domains scope names sorted wanted x)
        (λ terms g. record {
          lists = 2;
          sets = m;
          read = record {
            scalars = subst (AreSized domains a.scalars) (sym (append-nil s.scalars)) r.scalars;
            first = subst (AreSized domains a.first) (sym (append-nil s.first)) r.first;
            second = subst (λ (ns : List ℕ). AreSized domains terms (ns ++ list_sizes text names x)) (sym (u.no_second (omega (arith, z)))) g.0;
            members = r.members ∙ none;
            constant = r.constant;
          };
          unread = record { no_first = λ e. absurd (omega (arith, e)); no_second = λ e. absurd (omega (arith, e)); no_set = λ e. sym none ∙ u.no_set e };
          ordered = and_right (n == 1) (is_ordered 2 m ps) o;
          constant = c;
        })
    next_judged n m fixed s a place.Set ps x r u o c =
        let z = eqb-true m 0 (and_left (m == 0) (is_ordered n 1 ps) o) in
        let none = u.no_set z in
        judged_map (set_of text scope x) (λ members. record a { members = members }) (set_suits text names x) (λ (v : Members). length (values_of v) ≡ set_count text names x) (Next n m fixed s place.Set ps x)
        (set_judged text domains scope names sorted x)
        (λ members g. record {
          lists = n;
          sets = 1;
          read = record {
            scalars = subst (AreSized domains a.scalars) (sym (append-nil s.scalars)) r.scalars;
            first = subst (AreSized domains a.first) (sym (append-nil s.first)) r.first;
            second = subst (AreSized domains a.second) (sym (append-nil s.second)) r.second;
            members = omega (arith, g, none);
            constant = r.constant;
          };
          unread = record { no_first = λ e. append-nil s.first ∙ u.no_first e; no_second = λ e. append-nil s.second ∙ u.no_second e; no_set = λ e. absurd (omega (arith, e)) };
          ordered = and_right (m == 0) (is_ordered n 1 ps) o;
          constant = c;
        })

    arguments_read : (n m : ℕ) (fixed : Bool) (s : Sizes) (a : Arguments) (ps : List Place) (xs : List Expr) → length xs ≡ length ps → AreRead domains fixed s a → AreUnread n m s → is_ordered n m ps ≡ true → (fixed ≡ true → are_constant ps ≡ true)
        → Judged (arguments_after text scope a ps xs) (all_suit text names ps xs) (AreRead domains fixed (plus_all s ps xs))
    arguments_read n m fixed s a [] [] l r u o c = (refl, subst (λ (t : Sizes). AreRead domains fixed t a) (plus_none s) r)
    arguments_read n m fixed s a [] (x ∷ xs) l r u o c = absurd (omega (arith, l))
    arguments_read n m fixed s a (p ∷ ps) [] l r u o c = absurd (omega (arith, l))
    arguments_read n m fixed s a (p ∷ ps) (x ∷ xs) l r u o c =
        judged_bind (with_argument text scope a p x) (λ next. arguments_after text scope next ps xs) (place_suits text names p x) (all_suit text names ps xs) (Next n m fixed s p ps x) (AreRead domains fixed (plus_all s (p ∷ ps) (x ∷ xs)))
        (next_judged n m fixed s a p ps x r u o c)
        (λ next k. subst (λ (t : Sizes). Judged (arguments_after text scope next ps xs) (all_suit text names ps xs) (AreRead domains fixed t)) (plus_one s p x ps xs)
        (arguments_read k.lists k.sets fixed (plus s p x) next ps xs (omega (arith, l)) k.read k.unread k.ordered k.constant))

    -- all arguments at the places of a form
    pub arguments_judged : (form : Form) (fixed : Bool) (xs : List Expr) → length xs ≡ length (places_of form (length xs)) → (fixed ≡ true → are_constant (places_of form (length xs)) ≡ true)
        → Judged (arguments_after text scope no_arguments (places_of form (length xs)) xs) (all_suit text names (places_of form (length xs)) xs) (AreRead domains fixed (argument_sizes text names (places_of form (length xs)) xs))
    arguments_judged form fixed xs l c =
        let ps = places_of form (length xs) in
        let none : Sizes = record { scalars = []; first = []; second = []; members = 0 } in
        let same : 0 + (argument_sizes text names ps xs).members ≡ (argument_sizes text names ps xs).members = omega arith in
        judged_more (arguments_after text scope no_arguments ps xs) (all_suit text names ps xs) (AreRead domains fixed (plus_all none ps xs)) (AreRead domains fixed (argument_sizes text names ps xs))
        (λ a r. record { scalars = r.scalars; first = r.first; second = r.second; members = r.members ∙ same; constant = r.constant })
        (arguments_read 0 0 fixed none no_arguments ps xs l
        (record { scalars = tt; first = tt; second = tt; members = refl; constant = λ e. tt })
        (record { no_first = λ e. refl; no_second = λ e. refl; no_set = λ e. refl })
        (in_order form (length xs)).ordered c)
