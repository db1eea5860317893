-- What names stand for has their sorts.
use Rattle.std.proofs.Common.{◌≡◌, ℕ, ◌≤◌, Bool, true, false, List, [], ◌∷◌, ◌++◌, length, Option, Some, None, refl, ap, ◌∙◌, subst, arith}
use Rattle.std.specs.Prelude.{ℤ, if◌then◌else◌}
use Rattle.std.specs.List.{AllByRecursion}
use Rattle.std.specs.Str.{bytes_eq}
use Rattle.std.proofs.Math.ListN.{get_or-append}
use Rattle.dcsp_rule.specs.declared.rule.Term.{Term}
use Rattle.dcsp_rule.specs.declared.rule.Term.TheVariants.{Const, Var}
use Rattle.dcsp_rule.specs.Members.{values_of}
use Rattle.dcsp_rule.specs.Rules.{IsTermOf}
use Rattle.dcsp_rule.specs.Widths.{greatest_among, greatest_of}
use Rattle.fzn_scope.specs.declared.names.Declared.{Declared}
use Rattle.fzn_scope.specs.declared.names.Declared.TheVariants as declared
use Rattle.fzn_scope.specs.Names.{Scope, declared_as}
use Rattle.fzn_scope.specs.Places.{is_constant}
use Rattle.law_inputs.specs.Sorts.{Sort, One, Set, Many, Names, sort_named}
use Rattle.law_inputs.proofs.Carrying.{Pairwise}

-- the term is one of the variables with these domains, and this is its greatest absolute value
abbrev pub IsSized : List (List ℤ) → Term → ℕ → Type 0
IsSized domains term n = (greatest_of domains term ≡ n) × IsTermOf (length domains) term

abbrev pub AreSized : List (List ℤ) → List Term → List ℕ → Type 0
AreSized domains terms ns = Pairwise (IsSized domains) terms ns

abbrev pub AreConstant : List Term → Type 0
AreConstant terms = AllByRecursion (λ term. is_constant term ≡ true) terms

-- what a name stands for has the sort
abbrev pub HasSort : List (List ℤ) → Declared → Sort → Type 0
HasSort domains (declared.One boolean term) (One b c n) = (boolean ≡ b) × (is_constant term ≡ c) × IsSized domains term n
HasSort domains (declared.One boolean term) (Set n) = ⊥
HasSort domains (declared.One boolean term) (Many b v ns) = ⊥
HasSort domains (declared.Set set) (One b c n) = ⊥
HasSort domains (declared.Set set) (Set n) = length (values_of set) ≡ n
HasSort domains (declared.Set set) (Many b v ns) = ⊥
HasSort domains (declared.Many boolean isvar terms) (One b c n) = ⊥
HasSort domains (declared.Many boolean isvar terms) (Set n) = ⊥
HasSort domains (declared.Many boolean isvar terms) (Many b v ns) = (boolean ≡ b) × (isvar ≡ v) × AreSized domains terms ns × (isvar ≡ false → AreConstant terms)

-- the same name is declared, and what it stands for has the sort
abbrev pub IsDeclaredSo : List (List ℤ) → List ℕ × Declared → List ℕ × Sort → Type 0
IsDeclaredSo domains d n = (d.0 ≡ n.0) × HasSort domains d.1 n.1

abbrev pub HaveSorts : List (List ℤ) → Scope → Names → Type 0
HaveSorts domains scope names = Pairwise (IsDeclaredSo domains) scope names

-- a name is declared in both or in neither
abbrev pub Looked : List (List ℤ) → Option Declared → Option Sort → Type 0
Looked domains None None = Unit {0}
Looked domains None (Some s) = ⊥
Looked domains (Some d) None = ⊥
Looked domains (Some d) (Some s) = HasSort domains d s

chosen : (domains : List (List ℤ)) (b : Bool) (d : Declared) (s : Sort) (x : Option Declared) (y : Option Sort) → HasSort domains d s → Looked domains x y → Looked domains (if b then Some d else x) (if b then Some s else y)
chosen domains true d s x y h k = h
chosen domains false d s x y h k = k

pub looked : (domains : List (List ℤ)) (scope : Scope) (names : Names) → HaveSorts domains scope names → (name : List ℕ) → Looked domains (declared_as scope name) (sort_named names name)
looked domains [] [] h name = tt
looked domains [] (n ∷ ns) h name = absurd h
looked domains (d ∷ ds) [] h name = absurd h
looked domains (d ∷ ds) (n ∷ ns) h name =
    subst (λ (k : List ℕ). Looked domains (declared_as (d ∷ ds) name) (if bytes_eq name k then Some n.1 else sort_named ns name)) h.0.0
    (chosen domains (bytes_eq name d.0) d.1 n.1 (declared_as ds name) (sort_named ns name) h.0.1 (looked domains ds ns h.1 name))

-- ---- lists of pairs

pub pairwise_push : {X Y : Type 0} (P : X → Y → Type 0) (xs : List X) (ys : List Y) (x : X) (y : Y) → Pairwise P xs ys → P x y → Pairwise P (xs ++ x ∷ []) (ys ++ y ∷ [])
pairwise_push P [] [] x y h k = (k, tt)
pairwise_push P [] (b ∷ bs) x y h k = absurd h
pairwise_push P (a ∷ xs) [] x y h k = absurd h
pairwise_push P (a ∷ xs) (b ∷ ys) x y h k = (h.0, pairwise_push P xs ys x y h.1 k)

pub pairwise_more : {X Y : Type 0} (P Q : X → Y → Type 0) → ((x : X) (y : Y) → P x y → Q x y) → (xs : List X) (ys : List Y) → Pairwise P xs ys → Pairwise Q xs ys
pairwise_more P Q k [] [] h = tt
pairwise_more P Q k [] (y ∷ ys) h = absurd h
pairwise_more P Q k (x ∷ xs) [] h = absurd h
pairwise_more P Q k (x ∷ xs) (y ∷ ys) h = (k x y h.0, pairwise_more P Q k xs ys h.1)

pub pairwise_length : {X Y : Type 0} (P : X → Y → Type 0) (xs : List X) (ys : List Y) → Pairwise P xs ys → length xs ≡ length ys
pairwise_length P [] [] h = refl
pairwise_length P [] (y ∷ ys) h = absurd h
pairwise_length P (x ∷ xs) [] h = absurd h
pairwise_length P (x ∷ xs) (y ∷ ys) h = let e = pairwise_length P xs ys h.1 in omega (arith, e)

pub constant_push : (terms : List Term) (term : Term) → AreConstant terms → is_constant term ≡ true → AreConstant (terms ++ term ∷ [])
constant_push [] term h k = (k, tt)
constant_push (t ∷ ts) term h k = (h.0, constant_push ts term h.1 k)

-- ---- after there were more variables

more_length : {X : Type 0} (xs ys : List X) → length xs ≤ length (xs ++ ys)
more_length [] ys = omega arith
more_length (x ∷ xs) ys = let h = more_length xs ys in omega (arith, h)

sized_more : (domains more : List (List ℤ)) (term : Term) (n : ℕ) → IsSized domains term n → IsSized (domains ++ more) term n
sized_more domains more (Const v) n h = h
sized_more domains more (Var k) n h =
    let long = more_length domains more in
    (ap (λ (d : List ℤ). greatest_among d) (get_or-append domains more [] k h.1) ∙ h.0, omega (arith, long, h.1))

sort_more : (domains more : List (List ℤ)) (d : Declared) (s : Sort) → HasSort domains d s → HasSort (domains ++ more) d s
sort_more domains more (declared.One boolean term) (One b c n) h = (h.0, h.1, sized_more domains more term n h.2)
sort_more domains more (declared.One boolean term) (Set n) h = absurd h
sort_more domains more (declared.One boolean term) (Many b v ns) h = absurd h
sort_more domains more (declared.Set set) (One b c n) h = absurd h
sort_more domains more (declared.Set set) (Set n) h = h
sort_more domains more (declared.Set set) (Many b v ns) h = absurd h
sort_more domains more (declared.Many boolean isvar terms) (One b c n) h = absurd h
sort_more domains more (declared.Many boolean isvar terms) (Set n) h = absurd h
sort_more domains more (declared.Many boolean isvar terms) (Many b v ns) h = (h.0, h.1, pairwise_more (IsSized domains) (IsSized (domains ++ more)) (sized_more domains more) terms ns h.2, h.3)

pub sorts_more : (domains more : List (List ℤ)) (scope : Scope) (names : Names) → HaveSorts domains scope names → HaveSorts (domains ++ more) scope names
sorts_more domains more scope names h = pairwise_more (IsDeclaredSo domains) (IsDeclaredSo (domains ++ more)) (λ d n k. (k.0, sort_more domains more d.1 n.1 k.1)) scope names h
