-- The solutions of lines with names of their own: each value is one of its variable's, and each constraint holds.
use Rattle.std.proofs.Common.{◌≡◌, ◌↔◌, ℕ, zero, suc, ◌-◌, ◌<◌, inl, inr, Bool, true, false, if◌then◌else◌, List, [], ◌∷◌, map, flat_map, filter, length, get_or, refl, sym, ap, ◌∙◌, subst, arith, rules}
use Rattle.std.specs.Prelude.{ℤ, pos, ◌<ℤ◌, int_lt, slice_index_or}
use Rattle.std.specs.List.{AllByRecursion}
use Rattle.std.specs.Ordering.{int_eq}
use Rattle.std.specs.Str.{bytes_eq}
use Rattle.std.proofs.lemmas.Bool.{false≢true}
use Rattle.std.proofs.lemmas.Bool.Decides.{Decides-int_eq}
use Rattle.std.proofs.lemmas.List.{length-map}
use Rattle.std.proofs.lemmas.Slice.Eq.{bytes_eq-Decides}
use Rattle.dcsp_defs.specs.Words.{In}
use Rattle.dcsp_defs.specs.Csp.{Assignment, Csp, IsSolution}
use Rattle.dcsp_domain.specs.Sets.{set_of}
use Rattle.dcsp_domain.proofs.SetLaws.{set_of_is_set}
use Rattle.dcsp_gen.specs.Lists.{pairs_in}
use Rattle.dcsp_meaning.specs.Rows.{has_row}
use Rattle.dcsp_rule.specs.Rules.{rule_truth}
use Rattle.dcsp_rule.specs.Problems.{csp_of, constraint_of}
use Rattle.law_subjects.specs.Says.{entries_of}
use Rattle.law_subjects.specs.Problems.{table_rule}
use Rattle.law_subjects.specs.RandomBinary.{AreApart}
use Rattle.law_subjects.specs.Named.{NamedLine, Choose, Compare, Allow, Finish, Equal, Less, Different, number_of, named_rules, named_problem, Choice, names_of, named_lines, AreNamedWithin}
use Rattle.law_subjects.proofs.Domains.{has_In}
use Rattle.law_subjects.proofs.Hearing.{Rises}
use Rattle.law_subjects.proofs.Lists.{all_flat_map}
use Rattle.law_subjects.proofs.NamedProblems.{whole_values, domain_of, named_lines_say_problem}
use Rattle.law_subjects.proofs.PairNames.{in_front, in_back, in_beside_of, all_in}
use Rattle.law_subjects.proofs.RandomBinary.{flat, constants, has_is, place_of, in_append, in_beside}
use Rattle.law_subjects.proofs.Solutions.{IsTrueOf, unequal, flat_map_all, all_each, constraints_all, all_constraints}

-- the value of the variable of this name
abbrev pub value_named : List (List ℕ) → Assignment → List ℕ → ℤ
value_named names values name = values (number_of names name - 1)

-- what a line says of values
abbrev pub HoldsNamed : List (List ℕ) → Assignment → NamedLine → Type 0
HoldsNamed names values (Choose vs name) = Unit {0}
HoldsNamed names values (Compare Equal first second) = value_named names values first ≡ value_named names values second
HoldsNamed names values (Compare Less first second) = value_named names values first <ℤ value_named names values second
HoldsNamed names values (Compare Different first second) = value_named names values first ≡ value_named names values second → ⊥
HoldsNamed names values (Allow first second rows) = rule_truth (table_rule (number_of names first) (number_of names second) rows) values ≡ true
HoldsNamed names values Finish = Unit {0}

-- the test of two numbers is true exactly where one is less
less_is : (x y : ℤ) → (int_lt x y ≡ true) ↔ (x <ℤ y)
less_is x y = (λ h. search rules, λ h. search rules)

-- the rules of a line are true exactly where it holds
line_holds : (names : List (List ℕ)) (values : Assignment) (line : NamedLine) → AllByRecursion (IsTrueOf values) (named_rules names line) ↔ HoldsNamed names values line
line_holds names values (Choose vs name) = (λ h. tt, λ h. tt)
line_holds names values (Compare Equal first second) =
    let e = Decides-int_eq (value_named names values first) (value_named names values second) in (λ h. e.0 h.0, λ h. (e.1 h, tt))
line_holds names values (Compare Less first second) =
    let e = less_is (value_named names values first) (value_named names values second) in (λ h. e.0 h.0, λ h. (e.1 h, tt))
line_holds names values (Compare Different first second) =
    let e = unequal (value_named names values first) (value_named names values second) in (λ h. e.0 h.0, λ h. (e.1 h, tt))
line_holds names values (Allow first second rows) = (λ h. h.0, λ h. (h, tt))
line_holds names values Finish = (λ h. tt, λ h. tt)

-- so are those of lines
lines_hold : (names : List (List ℕ)) (values : Assignment) (lines : List NamedLine) → AllByRecursion (IsTrueOf values) (flat_map (named_rules names) lines) ↔ AllByRecursion (HoldsNamed names values) lines
lines_hold names values lines = (
  λ h. all_each (λ line. AllByRecursion (IsTrueOf values) (named_rules names line)) (HoldsNamed names values) lines (λ line. (line_holds names values line).0) (flat_map_all (IsTrueOf values) (named_rules names) lines h),
  λ h. all_flat_map (IsTrueOf values) (named_rules names) lines (all_each (HoldsNamed names values) (λ line. AllByRecursion (IsTrueOf values) (named_rules names line)) lines (λ line. (line_holds names values line).1) h),
)

-- a table, where the values of its variables are known
pub allowed : (values : Assignment) (a b x y : ℕ) (rows : List (ℕ × ℕ)) → values (a - 1) ≡ pos x → values (b - 1) ≡ pos y → (rule_truth (table_rule a b rows) values ≡ true) ↔ In (x, y) rows
allowed values a b x y rows first second =
    let is : rule_truth (table_rule a b rows) values ≡ has_row int_eq (pos x ∷ pos y ∷ []) (flat rows) =
    ap (λ (vs : List ℤ). has_row int_eq (values (a - 1) ∷ values (b - 1) ∷ []) vs) (constants values (entries_of rows))
    ∙ ap (λ (v : ℤ). has_row int_eq (v ∷ values (b - 1) ∷ []) (flat rows)) first
    ∙ ap (λ (v : ℤ). has_row int_eq (pos x ∷ v ∷ []) (flat rows)) second in
    let has = has_is rows (x, y) in
    ((λ h. has.0 (sym is ∙ h)), (λ i. is ∙ has.1 i))

-- ---- values

-- one of the numbers
pub record IsOneOf (vs : List ℕ) (value : ℤ) : Type 0 where
  pub number : ℕ
  pub among : In number vs
  pub value_is : value ≡ pos number

-- one of some integers is one of their numbers
one_of : (vs : List ℕ) (value : ℤ) → In value (whole_values vs) → IsOneOf vs value
one_of [] value i = absurd i
one_of (v ∷ vs) value (inl e) = record { number = v; among = inl refl; value_is = e }
one_of (v ∷ vs) value (inr i) = let rest = one_of vs value i in record { number = rest.number; among = inr rest.among; value_is = rest.value_is }

-- and the other way round
of_one : (vs : List ℕ) (n : ℕ) → In n vs → In (pos n) (whole_values vs)
of_one [] n i = absurd i
of_one (v ∷ vs) n (inl e) = inl (ap (λ (k : ℕ). pos k) e)
of_one (v ∷ vs) n (inr i) = inr (of_one vs n i)

-- a domain has exactly the numbers of its list
in_domain : (choice : Choice) (value : ℤ) → In value (domain_of choice) ↔ IsOneOf choice.0 value
in_domain choice value =
    let xs = whole_values choice.0 in
    let same = (set_of_is_set xs).members value in
    let first = has_In (set_of xs) value in
    let second = has_In xs value in (
      λ i. one_of choice.0 value (second.0 (sym same ∙ first.1 i)),
      λ one. first.0 (same ∙ second.1 (subst (λ (v : ℤ). In v xs) (sym one.value_is) (of_one choice.0 one.number one.among))),
    )

-- ---- variables by their keys

-- the key at a place
abbrev pub key_at : List (ℕ × ℕ) → ℕ → ℕ × ℕ
key_at keys place = get_or keys place (0, 0)

-- the name of the key at a place
name_at : (f : ℕ × ℕ → Choice) (keys : List (ℕ × ℕ)) (k : ℕ) → k < length keys → get_or (names_of (map f keys)) k [] ≡ (f (key_at keys k)).1
name_at f [] k l = absurd (omega (arith, l))
name_at f (key ∷ keys) zero l = refl
name_at f (key ∷ keys) (suc k) l = name_at f keys k (omega (arith, l))

-- its domain
domain_at : (f : ℕ × ℕ → Choice) (keys : List (ℕ × ℕ)) (k : ℕ) → k < length keys → slice_index_or (map domain_of (map f keys)) k [] ≡ domain_of (f (key_at keys k))
domain_at f [] k l = absurd (omega (arith, l))
domain_at f (key ∷ keys) zero l = refl
domain_at f (key ∷ keys) (suc k) l = domain_at f keys k (omega (arith, l))

-- the name at a place is a name
in_names_at : (names : List (List ℕ)) (k : ℕ) → k < length names → In (get_or names k []) names
in_names_at [] k l = absurd (omega (arith, l))
in_names_at (name ∷ names) zero l = inl refl
in_names_at (name ∷ names) (suc k) l = inr (in_names_at names k (omega (arith, l)))

-- the name at a place has its number
number_at : (names : List (List ℕ)) (k : ℕ) → AreApart names → k < length names → number_of names (get_or names k []) ≡ suc k
number_at [] k apart l = absurd (omega (arith, l))
number_at (name ∷ names) zero apart l = ap (λ (b : Bool). if b then 1 else suc (number_of names name)) ((bytes_eq-Decides name name).1 refl)
number_at (name ∷ names) (suc k) apart l =
    let other = get_or names k [] in
    let low : k < length names = omega (arith, l) in
    by (bytes_eq other name) refl (number_at names k apart.1 low) (in_names_at names k low)
  where
    by : (b : Bool) → bytes_eq (get_or names k []) name ≡ b → number_of names (get_or names k []) ≡ suc k → In (get_or names k []) names → (if b then 1 else suc (number_of names (get_or names k []))) ≡ suc (suc k)
    by true e rest i = absurd (apart.0 (subst (λ (n : List ℕ). In n names) ((bytes_eq-Decides (get_or names k []) name).0 e) i))
    by false e rest i = ap suc rest

-- where a key stands, and its variable's value
pub record StandsAt (f : ℕ × ℕ → Choice) (keys : List (ℕ × ℕ)) (values : Assignment) (key : ℕ × ℕ) : Type 0 where
  pub place : ℕ
  pub below : place < length keys
  pub key_is : key ≡ key_at keys place
  pub value_is : value_named (names_of (map f keys)) values (f key).1 ≡ values place

module _ (f : ℕ × ℕ → Choice) (keys : List (ℕ × ℕ)) (apart : AreApart (names_of (map f keys))) (values : Assignment) where
  -- as many names as keys
  many_names : length (names_of (map f keys)) ≡ length keys
  many_names = length-map (map f keys) (λ choice. choice.1) ∙ length-map keys f

  -- the value of the key at a place
  pub value_at : (k : ℕ) → k < length keys → value_named (names_of (map f keys)) values (f (key_at keys k)).1 ≡ values k
  value_at k l =
      let names = names_of (map f keys) in
      let many = many_names in
      let number = ap (number_of names) (sym (name_at f keys k l)) ∙ number_at names k apart (omega (arith, l, many)) in
      let place : number_of names (f (key_at keys k)).1 - 1 ≡ k = omega (arith, number) in
      ap values place

  -- each key stands somewhere
  pub stands : (key : ℕ × ℕ) → In key keys → StandsAt f keys values key
  stands key i =
      let found = place_of keys key i in
      record { place = found.0; below = found.1; key_is = found.2; value_is = ap (λ (k : ℕ × ℕ). value_named (names_of (map f keys)) values (f k).1) found.2 ∙ value_at found.0 found.1 }

-- the solutions of lines whose variables have keys
pub named_solutions : (f : ℕ × ℕ → Choice) (keys : List (ℕ × ℕ)) (constraints : List NamedLine) → AreNamedWithin (map f keys) constraints → (values : Assignment)
    → IsSolution (csp_of (named_problem (named_lines (map f keys) constraints))) values
    ↔ (((k : ℕ) → k < length keys → IsOneOf (f (key_at keys k)).0 (values k)) × AllByRecursion (HoldsNamed (names_of (map f keys)) values) constraints)
named_solutions f keys constraints within values =
    let names = names_of (map f keys) in
    let domains = map domain_of (map f keys) in
    let rules = flat_map (named_rules names) constraints in
    let plain : Csp = record { domains = domains; constraints = map (constraint_of (length domains)) rules } in
    let same : csp_of (named_problem (named_lines (map f keys) constraints)) ≡ plain = ap csp_of (named_lines_say_problem (map f keys) constraints within) in
    let many : length domains ≡ length keys = length-map (map f keys) domain_of ∙ length-map keys f in
    let both : IsSolution plain values ↔ (((k : ℕ) → k < length keys → IsOneOf (f (key_at keys k)).0 (values k)) × AllByRecursion (HoldsNamed names values) constraints) = (
      λ is. (
        λ k l.
            let inside : In (values k) (slice_index_or domains k []) = is.domains k (omega (arith, l, many)) in
            (in_domain (f (key_at keys k)) (values k)).0 (subst (λ (d : List ℤ). In (values k) d) (domain_at f keys k l) inside),
        (lines_hold names values constraints).0 (constraints_all (length domains) values rules is.constraints),
      ),
      λ h. record {
        domains = λ i l.
            let low : i < length keys = omega (arith, l, many) in
            subst (λ (d : List ℤ). In (values i) d) (sym (domain_at f keys i low)) ((in_domain (f (key_at keys i)) (values i)).1 (h.0 i low));
        constraints = all_constraints (length domains) values rules ((lines_hold names values constraints).1 h.1);
      },
    ) in
    ((λ is. both.0 (subst (λ (p : Csp). IsSolution p values) same is)), (λ h. subst (λ (p : Csp). IsSolution p values) (sym same) (both.1 h)))

-- ---- pairs of what rises, and what passes a test

-- what passes a test
pub in_filter : {X : Type 0} (p : X → Bool) (xs : List X) (x : X) → In x (filter p xs) ↔ (In x xs × (p x ≡ true))
in_filter p [] x = ((λ i. absurd i), (λ h. h.0))
in_filter {X = X} p (y ∷ ys) x = by (p y) refl (in_filter p ys x) where
  by : (b : Bool) → p y ≡ b → (In x (filter p ys) ↔ (In x ys × (p x ≡ true))) → In x (if b then y ∷ filter p ys else filter p ys) ↔ ((In x (y ∷ ys)) × (p x ≡ true))
  by true e rest = (
    (λ i. elim i [ inl same ↦ (inl same, ap p same ∙ e) | inr later ↦ (inr (rest.0 later).0, (rest.0 later).1) ]),
    (λ h. elim h.0 [ inl same ↦ inl same | inr later ↦ inr (rest.1 (later, h.1)) ]),
  )
  by false e rest = (
    (λ i. (inr (rest.0 i).0, (rest.0 i).1)),
    (λ h. elim h.0 [ inl same ↦ absurd (false≢true (sym e ∙ ap p (sym same) ∙ h.1)) | inr later ↦ rest.1 (later, h.1) ]),
  )

-- a pair of what rises has the lesser first
pub in_pairs : (xs : List ℕ) → Rises xs → (pair : ℕ × ℕ) → In pair (pairs_in xs) → In pair.0 xs × In pair.1 xs × (pair.0 < pair.1)
in_pairs [] rises pair i = absurd i
in_pairs (x ∷ xs) rises pair i = elim (in_append pair (map (λ second. (x, second)) xs) (pairs_in xs) i) [
  | inl here ↦
      let both = in_beside x xs pair here in
      let above = all_in (λ y. x < y) xs rises.0 pair.1 both.1 in
      let first = both.0 in
      (inl both.0, inr both.1, omega (arith, above, first))
  | inr later ↦ let rest = in_pairs xs rises.1 pair later in (inr rest.0, inr rest.1, rest.2)
]

-- and each such pair is among them
pub of_pairs : (xs : List ℕ) → Rises xs → (x y : ℕ) → In x xs → In y xs → x < y → In (x, y) (pairs_in xs)
of_pairs [] rises x y i j less = absurd i
of_pairs (z ∷ zs) rises x y (inl e) (inl d) less = absurd (omega (arith, e, d, less))
of_pairs (z ∷ zs) rises x y (inl e) (inr j) less =
    in_front (x, y) (map (λ second. (z, second)) zs) (pairs_in zs) (subst (λ (k : ℕ). In {X = ℕ × ℕ} (k, y) (map (λ second. (z, second)) zs)) (sym e) (in_beside_of z zs y j))
of_pairs (z ∷ zs) rises x y (inr i) (inl d) less = let above = all_in (λ k. z < k) zs rises.0 x i in absurd (omega (arith, above, d, less))
of_pairs (z ∷ zs) rises x y (inr i) (inr j) less = in_back (x, y) (map (λ second. (z, second)) zs) (pairs_in zs) (of_pairs zs rises.1 x y i j less)
