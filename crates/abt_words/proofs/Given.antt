-- Options, one after another.
use Rattle.std.proofs.Common.{◌≡◌, ℕ, zero, suc, ◌<◌, List, [], ◌∷◌, ◌++◌, map, take, set, length, get_or, Some, option_map, slice_get, refl, sym, ◌∙◌, ap, subst, arith}
use Rattle.std.proofs.lemmas.List.{map-set, take-map, length-map}
use Rattle.std.proofs.lemmas.Option.{slice_get-get_or, slice_get-map}
use Rattle.abt_words.specs.declared.row.OptionOf.{OptionOf}
use Rattle.abt_words.specs.declared.value.Value as code
use Rattle.abt_words.specs.declared.value.Value.TheVariants as values
use Rattle.abt_words.specs.Rows.{Text, Texts, LineOption, option_in}
use Rattle.abt_words.specs.Saying.{Value, Absent, FitsOption, value_words, place_of, Gives, nothing, gives}
use Rattle.abt_words.specs.Values.{value_in}
use Rattle.abt_words.proofs.Once.{one_option, no_words, the_head, the_tail, the_number, the_option}

-- the option that the words begin with, and what follows
pub record First (options : List LineOption) (option : LineOption) (i : ℕ) (rest : List (List ℕ)) (before after : List Value) : Type 0 where
  pub value : Value
  pub more : List (List ℕ)
  pub fits : FitsOption option.value value
  pub rest_is : rest ≡ value_words value ++ more
  pub absent : get_or before i Absent ≡ Absent
  pub goes_on : Gives options more (set before i value) after

pub first_given : (options : List LineOption) (words : List (List ℕ)) (word : List ℕ) (rest : List (List ℕ)) (i : ℕ) (option : LineOption) (before after : List Value)
    → words ≡ word ∷ rest → place_of options word ≡ Some i → slice_get options i ≡ Some option → Gives options words before after → First options option i rest before after
first_given options words word rest i option before after e p s (nothing f j) = absurd (no_words words word rest f e)
first_given options words word rest i option before after e p s (gives w n o v more p2 s2 t f q h) =
    let same = the_head w word (value_words v ++ more) rest (sym f ∙ e) in
    let place : n ≡ i = the_number n i (sym p2 ∙ ap (place_of options) same ∙ p) in
    let here : o ≡ option = the_option o option (sym s2 ∙ ap (slice_get options) place ∙ s) in
    record {
      value = v;
      more = more;
      fits = subst (λ (z : LineOption). FitsOption z.value v) here t;
      rest_is = sym (the_tail w word (value_words v ++ more) rest (sym f ∙ e));
      absent = subst (λ z. get_or before z Absent ≡ Absent) place q;
      goes_on = subst (λ z. Gives options more (set before z v) after) place h;
    }

-- what follows is what the words say of it
pub same_rest : (options : List LineOption) (option : LineOption) (i : ℕ) (rest more : List (List ℕ)) (value : Value) (before after : List Value)
    → First options option i rest before after → FitsOption option.value value → rest ≡ value_words value ++ more → Gives options more (set before i value) after
same_rest options option i rest more value before after h fits e =
    let same = one_option option.value h.value value h.more more h.fits fits (sym h.rest_is ∙ e) in
    subst (λ ws. Gives options ws (set before i value) after) same.1 (subst (λ v. Gives options h.more (set before i v) after) same.0 h.goes_on)

pub option_there : (options : List (OptionOf Text Texts)) (d : OptionOf Text Texts) (i : ℕ) → i < length options → slice_get (map option_in options) i ≡ Some (option_in (get_or options i d))
option_there options d i l = slice_get-map option_in options i ∙ ap (option_map option_in) (slice_get-get_or options i d l)

pub some_option : (options : List (OptionOf Text Texts)) (i : ℕ) → i < length options → (option : LineOption) × (slice_get (map option_in options) i ≡ Some option)
some_option [] i l = absurd (omega arith)
some_option (o ∷ os) zero l = (option_in o, refl)
some_option (o ∷ os) (suc i) l = some_option os i (omega arith)

-- what is set at a place
pub read_there : (list : List code.Value) (i : ℕ) → get_or (map value_in list) i Absent ≡ value_in (get_or list i values.Absent)
read_there [] i = refl
read_there (v ∷ vs) zero = refl
read_there (v ∷ vs) (suc i) = read_there vs i

pub is_absent : (v : code.Value) → value_in v ≡ Absent → v ≡ values.Absent
is_absent values.Absent e = refl
is_absent values.Given e = absurd cc
is_absent (values.Name name) e = absurd cc
is_absent (values.Number n) e = absurd cc
is_absent (values.Signed z) e = absurd cc
is_absent (values.Word word) e = absurd cc

pub set_in : (list : List code.Value) (i : ℕ) (v : code.Value) → map value_in (set list i v) ≡ set (map value_in list) i (value_in v)
set_in list i v = map-set value_in list i v

-- an option and those behind it
pub gives_more : (options : List LineOption) (option : LineOption) (words : List (List ℕ)) (word : List ℕ) (rest : List (List ℕ)) (i : ℕ) (value : Value) (more : List (List ℕ)) (before next after : List Value)
    → words ≡ word ∷ rest → place_of options word ≡ Some i → slice_get options i ≡ Some option → FitsOption option.value value → rest ≡ value_words value ++ more
    → get_or before i Absent ≡ Absent → next ≡ set before i value → Gives options more next after → Gives options words before after
gives_more options option words word rest i value more before next after e p s fits r absent sets g =
    gives word i option value more p s fits (e ∙ ap (λ ws. word ∷ ws) r) absent (subst (λ l. Gives options more l after) sets g)

-- the first values, as many as there are items
pub first_in : {X Y : Type 0} (f : X → Y) (items : List X) (list : List code.Value) → map value_in (take (length items) list) ≡ take (length (map f items)) (map value_in list)
first_in f items list = sym (take-map value_in (length items) list) ∙ ap (λ n. take n (map value_in list)) (sym (length-map items f))
