-- What is read of the values of a row.
use Rattle.std.proofs.Common.{◌≡◌, ◌≢◌, ℕ, zero, suc, ◌<◌, ◌≤◌, Bool, true, false, cond, List, [], ◌∷◌, get_or, set, Option, Some, slice_get, refl, sym, ◌∙◌, ap, subst, arith}
use Rattle.std.specs.Prelude.{IfSome, ⊤}
use Rattle.std.specs.Str.{bytes_eq}
use Rattle.std.proofs.lemmas.Bool.{false≢true}
use Rattle.std.proofs.lemmas.Slice.Eq.{bytes_eq-Decides}
use Rattle.abt_words.specs.declared.row.Content.{Content}
use Rattle.abt_words.specs.declared.row.Access.{Access}
use Rattle.abt_words.specs.Rows.{WordKind, File, OneOf, Place, LineOption, Row}
use Rattle.abt_words.specs.Rows as rows
use Rattle.abt_words.specs.Saying.{Value, Absent, Given, Name, Number, Signed, Word, Fits, FitsOption, Fill, Gives, nothing, gives, none_given, has_name, is_new_name, differs_from, names_differ, name_in, number_in, given_name, given_number}
use Rattle.abt_words.proofs.Once.{both}

-- ---- rows

-- this holds of each row
abbrev pub OfEach : (Row → Type 0) → List Row → Type 0
OfEach P [] = ⊤
OfEach P (row ∷ rows) = P row × OfEach P rows

pub of_each : (P : Row → Type 0) (rows : List Row) → OfEach P rows → (i : ℕ) (row : Row) → slice_get rows i ≡ Some row → P row
of_each P [] h i row s = absurd cc
of_each P (r ∷ rows) h zero row s = let same : r ≡ row = cc in subst P same h.0
of_each P (r ∷ rows) h (suc i) row s = of_each P rows h.1 i row s

-- ---- numbers

a_number : (least most : ℕ) (v : Value) → Fits (rows.Number least most) v → (least ≤ number_in v) × (number_in v ≤ most)
a_number least most Absent h = absurd h
a_number least most Given h = absurd h
a_number least most (Name name) h = absurd h
a_number least most (Number n) h = (h.0, h.1)
a_number least most (Signed z) h = absurd h
a_number least most (Word word) h = absurd h

-- the number in a place is within its bounds
pub number_within : (places : List Place) (values : List Value) (i : ℕ) (place : Place) (least most : ℕ) → slice_get places i ≡ Some place → place.kind ≡ rows.Number least most → Fill places values
    → (least ≤ number_in (get_or values i Absent)) × (number_in (get_or values i Absent) ≤ most)
number_within [] values i place least most s k h = absurd cc
number_within (p ∷ ps) [] i place least most s k h = absurd h
number_within (p ∷ ps) (v ∷ vs) zero place least most s k h =
    let same : p ≡ place = cc in
    a_number least most v (subst (λ kind. Fits kind v) (ap (λ (z : Place). z.kind) same ∙ k) h.0)
number_within (p ∷ ps) (v ∷ vs) (suc i) place least most s k h = number_within ps vs i place least most s k h.1

-- ---- numbers that options are given

-- what holds of a value in its place, and of what is put into a place where that is the same, holds after
put_at : (P : Value → Type 0) (values : List Value) (i j : ℕ) (value : Value) → P (get_or values i Absent) → (i ≡ j → P value) → P (get_or (set values j value) i Absent)
put_at P [] i j value h f = h
put_at P (v ∷ vs) zero zero value h f = f refl
put_at P (v ∷ vs) zero (suc j) value h f = h
put_at P (v ∷ vs) (suc i) zero value h f = h
put_at P (v ∷ vs) (suc i) (suc j) value h f = put_at P vs i j value h (λ e. f (ap suc e))

-- at first nothing is given
nothing_given : (options : List LineOption) (i : ℕ) → get_or (none_given options) i Absent ≡ Absent
nothing_given [] i = refl
nothing_given (option ∷ options) zero = refl
nothing_given (option ∷ options) (suc i) = nothing_given options i

-- a number that is given is at most so much
abbrev pub GivesAtMost : ℕ → Value → Type 0
GivesAtMost most value = IfSome (given_number value) (λ n. n ≤ most)

a_given_number : (least most : ℕ) (v : Value) → Fits (rows.Number least most) v → GivesAtMost most v
a_given_number least most Absent h = absurd h
a_given_number least most Given h = absurd h
a_given_number least most (Name name) h = absurd h
a_given_number least most (Number n) h = h.1
a_given_number least most (Signed z) h = absurd h
a_given_number least most (Word word) h = absurd h

module _ (options : List LineOption) (i : ℕ) (option : LineOption) (place : Place) (least most : ℕ) (is : slice_get options i ≡ Some option) (takes : option.value ≡ Some place) (number : place.kind ≡ rows.Number least most) where
  fits_at : (other : LineOption) (value : Value) → slice_get options i ≡ Some other → FitsOption other.value value → GivesAtMost most value
  fits_at other value there fits =
      let same : other ≡ option = (let both = sym there ∙ is in cc) in
      let of_place = subst (λ (o : Option Place). FitsOption o value) (ap (λ (z : LineOption). z.value) same ∙ takes) fits in
      a_given_number least most value (subst (λ kind. Fits kind value) number of_place)

  -- the number that an option is given is within its bounds
  pub setting_within : {words : List (List ℕ)} {before after : List Value} → Gives options words before after → GivesAtMost most (get_or before i Absent) → GivesAtMost most (get_or after i Absent)
  setting_within {before = before} {after = after} (nothing none same) h = subst (λ values. GivesAtMost most (get_or values i Absent)) (sym same) h
  setting_within {before = before} {after = after} (gives word j other value more first there fits words_are absent rest) h =
      setting_within rest (put_at (GivesAtMost most) before i j value h (λ e. fits_at other value (ap (slice_get options) e ∙ there) fits))

  pub given_within : {words : List (List ℕ)} {settings : List Value} → Gives options words (none_given options) settings → GivesAtMost most (get_or settings i Absent)
  given_within said = setting_within said (subst (GivesAtMost most) (sym (nothing_given options i)) tt)

-- ---- names

-- what is in the place of a file is a name
pub a_name : (kind : WordKind) (v : Value) (content : Content) (access : Access) → kind ≡ File content access → Fits kind v → v ≡ Name (name_in v)
a_name kind v content access k h = named v (subst (λ z. Fits z v) k h)
  where
    named : (v : Value) → Fits (File content access) v → v ≡ Name (name_in v)
    named Absent h = absurd h
    named Given h = absurd h
    named (Name name) h = refl
    named (Number n) h = absurd h
    named (Signed z) h = absurd h
    named (Word word) h = absurd h

new_at : (name : List ℕ) (values : List Value) (i : ℕ) (other : List ℕ) → is_new_name name values ≡ true → get_or values i Absent ≡ Name other → name ≢ other
new_at name [] i other h g e = absurd cc
new_at name (v ∷ vs) zero other h g e =
    let has : bytes_eq other name ≡ true = (bytes_eq-Decides other name).1 (sym e) in
    let this : has_name name v ≡ true = ap (has_name name) g ∙ has in
    false≢true (sym (ap (λ b. cond b false (is_new_name name vs)) this) ∙ h)
new_at name (v ∷ vs) (suc i) other h g e = new_at name vs i other (others (has_name name v) h) g e
  where
    others : (b : Bool) → cond b false (is_new_name name vs) ≡ true → is_new_name name vs ≡ true
    others true k = absurd (false≢true k)
    others false k = k

-- two names that stand at different places differ
pub names_apart : (values : List Value) → names_differ values ≡ true → (i j : ℕ) (a b : List ℕ) → i < j → get_or values i Absent ≡ Name a → get_or values j Absent ≡ Name b → a ≢ b
names_apart [] d i j a b l g h e = absurd cc
names_apart (v ∷ vs) d zero zero a b l g h e = omega (arith, l)
names_apart (v ∷ vs) d zero (suc j) a b l g h e =
    let first = (both (differs_from v vs) (names_differ vs) d).0 in
    new_at a vs j b (subst (λ z. differs_from z vs ≡ true) g first) h e
names_apart (v ∷ vs) d (suc i) zero a b l g h e = omega (arith, l)
names_apart (v ∷ vs) d (suc i) (suc j) a b l g h e = names_apart vs (both (differs_from v vs) (names_differ vs) d).1 i j a b (omega (arith, l)) g h e

-- what is given as a name
pub if_name : (v : Value) (P : List ℕ → Type 0) → ((name : List ℕ) → v ≡ Name name → P name) → IfSome (given_name v) P
if_name Absent P f = tt
if_name Given P f = tt
if_name (Name name) P f = f name refl
if_name (Number n) P f = tt
if_name (Signed z) P f = tt
if_name (Word word) P f = tt
