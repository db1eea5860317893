-- What is read of a row is what the words say.
use Rattle.std.proofs.Common.{◌≡◌, ℕ, zero, suc, ◌+◌, ◌-◌, ◌<◌, ◌≤◌, Bool, true, false, List, [], ◌∷◌, ◌++◌, map, take, set, replicate, length, get_or, Option, Some, slice_get, option_map, below_more, nat_le, ◌&&◌, refl, sym, ◌∙◌, ap, subst, inl, inr, arith}
use Rattle.std.specs.Prelude.{flat_map}
use Rattle.std.proofs.lemmas.Bool.{true≢false, leb-true, cases_lt}
use Rattle.std.proofs.lemmas.List.{append_cancel_left, length-replicate}
use Rattle.std.proofs.lemmas.Option.{slice_get_within, slice_get-map, slice_get-get_or}
use Rattle.abt_words.specs.declared.said.TheConstants.{MOST}
use Rattle.abt_words.specs.Rows.{Place, LineOption, Row, CodeRow, row_in}
use Rattle.abt_words.specs.Saying.{Value, Absent, Fill, value_words, Gives, nothing, gives, none_given, names_differ, Said, Says, IsSaidBy}
use Rattle.abt_words.specs.Values.{Fills, written, HasRoom, have_room}
use Rattle.abt_words.proofs.Once.{one_filling, gives_once}

-- ---- values

pub as_many : (places : List Place) (values : List Value) → Fill places values → length values ≡ length places
as_many [] [] h = refl
as_many [] (v ∷ vs) h = absurd h
as_many (p ∷ ps) [] h = absurd h
as_many (p ∷ ps) (v ∷ vs) h = ap suc (as_many ps vs h.1)

take_set : (list : List Value) (n i : ℕ) (v : Value) → i < n → take n (set list i v) ≡ set (take n list) i v
take_set [] zero i v l = absurd (omega arith)
take_set [] (suc n) i v l = refl
take_set (x ∷ xs) zero i v l = absurd (omega arith)
take_set (x ∷ xs) (suc n) zero v l = refl
take_set (x ∷ xs) (suc n) (suc i) v l = ap (λ ys. x ∷ ys) (take_set xs n i v (omega arith))

get_take : (list : List Value) (n i : ℕ) → i < n → get_or (take n list) i Absent ≡ get_or list i Absent
get_take [] zero i l = absurd (omega arith)
get_take [] (suc n) i l = refl
get_take (x ∷ xs) zero i l = absurd (omega arith)
get_take (x ∷ xs) (suc n) zero l = refl
get_take (x ∷ xs) (suc n) (suc i) l = get_take xs n i (omega arith)

set_more : (list more : List Value) (i : ℕ) (v : Value) → i < length list → set (list ++ more) i v ≡ set list i v ++ more
set_more [] more i v l = absurd (omega arith)
set_more (x ∷ xs) more zero v l = refl
set_more (x ∷ xs) more (suc i) v l = ap (λ ys. x ∷ ys) (set_more xs more i v (omega arith))

get_more : (list more : List Value) (i : ℕ) → i < length list → get_or (list ++ more) i Absent ≡ get_or list i Absent
get_more [] more i l = absurd (omega arith)
get_more (x ∷ xs) more zero l = refl
get_more (x ∷ xs) more (suc i) l = get_more xs more i (omega arith)

as_long : (list : List Value) (i : ℕ) (v : Value) → length (set list i v) ≡ length list
as_long [] i v = refl
as_long (x ∷ xs) zero v = refl
as_long (x ∷ xs) (suc i) v = ap suc (as_long xs i v)

-- values behind a first one do not touch it
written_behind : (x : Value) (list : List Value) (at : ℕ) (values : List Value) → written (x ∷ list) (suc at) values ≡ x ∷ written list at values
written_behind x list at [] = refl
written_behind x list at (v ∷ vs) = written_behind x (set list at v) (suc at) vs

pub written_front : (list values : List Value) → length values ≤ length list → take (length values) (written list 0 values) ≡ values
written_front list [] l = refl
written_front [] (v ∷ vs) l = absurd (omega arith)
written_front (x ∷ xs) (v ∷ vs) l = ap (take (suc (length vs))) (written_behind v xs 0 vs) ∙ ap (λ ys. v ∷ ys) (written_front xs vs (omega arith))

-- ---- options

module _ (options : List LineOption) where
  -- a longer list of settings
  pub gives_cut : (words : List (List ℕ)) (before after : List Value) → Gives options words before after → Gives options words (take (length options) before) (take (length options) after)
  gives_cut words before after (nothing e f) = nothing e (ap (take (length options)) f)
  gives_cut words before after (gives w i o v more p s t e q g) =
      let l = slice_get_within options i o s in
      gives w i o v more p s t e (get_take before (length options) i l ∙ q)
      (subst (λ b. Gives options more b (take (length options) after)) (take_set before (length options) i v l) (gives_cut more (set before i v) after g))

  pub gives_wide : (words : List (List ℕ)) (before after wide : List Value) → length options ≤ length before → Gives options words before after → Gives options words (before ++ wide) (after ++ wide)
  gives_wide words before after wide l (nothing e f) = nothing e (ap (λ b. b ++ wide) f)
  gives_wide words before after wide l (gives w i o v more p s t e q g) =
      let k = slice_get_within options i o s in
      gives w i o v more p s t e (get_more before wide i (omega arith) ∙ q)
      (subst (λ b. Gives options more b (after ++ wide)) (sym (set_more before wide i v (omega arith))) (gives_wide more (set before i v) after wide (omega (arith, as_long before i v)) g))

  pub none_cut : (n : ℕ) → length options ≤ n → take (length options) (replicate n Absent) ≡ none_given options
  none_cut n l = cut options n l
    where
      cut : (os : List LineOption) (n : ℕ) → length os ≤ n → take (length os) (replicate n Absent) ≡ none_given os
      cut [] n l = refl
      cut (o ∷ os) zero l = absurd (omega arith)
      cut (o ∷ os) (suc n) l = ap (λ b. Absent ∷ b) (cut os n (omega arith))

  pub none_wide : (n : ℕ) → length options ≤ n → (wide : List Value) × (none_given options ++ wide ≡ replicate n Absent)
  none_wide n l = widen options n l
    where
      widen : (os : List LineOption) (n : ℕ) → length os ≤ n → (wide : List Value) × (none_given os ++ wide ≡ replicate n Absent)
      widen [] n l = (replicate n Absent, refl)
      widen (o ∷ os) zero l = absurd (omega arith)
      widen (o ∷ os) (suc n) l = let w = widen os n (omega arith) in (w.0, ap (λ b. Absent ∷ b) w.1)

  pub none_long : length options ≤ length (none_given options)
  none_long = long options
    where
      long : (os : List LineOption) → length os ≤ length (none_given os)
      long [] = omega arith
      long (o ∷ os) = let l = long os in omega (arith, l)

-- ---- a row

-- the words behind the keyword
pub behind_values : (row : Row) (words rest : List (List ℕ)) → words ≡ row.keyword ++ rest → (values settings : List Value) (h : Says row words values settings) → rest ≡ flat_map value_words values ++ h.options
behind_values row words rest e values settings h = append_cancel_left row.keyword rest (flat_map value_words values ++ h.options) (sym e ∙ h.words_are)

module _ (row : Row) (words rest options : List (List ℕ)) (most : ℕ) (list : List Value) (e : words ≡ row.keyword ++ rest) (room : length row.places ≤ most) (fills : Fills row.places rest options (replicate most Absent) 0 list) where
  -- what the places have
  pub values_are : take (length row.places) list ≡ fills.values
  values_are =
      let n = as_many row.places fills.values fills.fill in
      let l = length-replicate most Absent in
      ap (take (length row.places)) fills.now_is ∙ ap (λ k. take k (written (replicate most Absent) 0 fills.values)) (sym n) ∙ written_front (replicate most Absent) fills.values (omega (arith, n, l, room))

  -- the words say nothing else of the places
  pub same_values : (values settings : List Value) (h : Says row words values settings) → (values ≡ fills.values) × (h.options ≡ options)
  same_values values settings h =
      one_filling row.places values fills.values h.options options h.fill fills.fill (append_cancel_left row.keyword (flat_map value_words values ++ h.options) (flat_map value_words fills.values ++ options) (sym h.words_are ∙ (e ∙ ap (λ r. row.keyword ++ r) fills.words_are)))

  -- no options that are given to a longer list are given
  pub no_settings : length row.options ≤ most → ((after : List Value) → Gives row.options options (replicate most Absent) after → ⊥) → (values settings : List Value) → Says row words values settings → ⊥
  no_settings more none values settings h =
      let wide = none_wide row.options most more in
      let given = subst (λ ws. Gives row.options ws (none_given row.options) settings) (same_values values settings h).1 h.gives in
      none (settings ++ wide.0) (subst (λ b. Gives row.options options b (settings ++ wide.0)) wide.1 (gives_wide row.options options (none_given row.options) settings wide.0 (none_long row.options) given))

  module _ (more : length row.options ≤ most) (set_list : List Value) (given : Gives row.options options (replicate most Absent) set_list) where
    -- what the options have
    pub settings_are : Gives row.options options (none_given row.options) (take (length row.options) set_list)
    settings_are = subst (λ b. Gives row.options options b (take (length row.options) set_list)) (none_cut row.options most more) (gives_cut row.options options (replicate most Absent) set_list given)

    pub read_row : (values settings : List Value) → values ≡ take (length row.places) list → settings ≡ take (length row.options) set_list → names_differ (values ++ settings) ≡ true → Says row words values settings
    read_row values settings v s names =
        let is = v ∙ values_are in
        record {
          options = options;
          words_are = e ∙ ap (λ r. row.keyword ++ r) (fills.words_are ∙ ap (λ (x : List Value). flat_map value_words x ++ options) (sym is));
          fill = subst (Fill row.places) (sym is) fills.fill;
          gives = subst (Gives row.options options (none_given row.options)) (sym s) settings_are;
          names = names;
        }

    pub same_names : (values settings : List Value) → values ≡ take (length row.places) list → settings ≡ take (length row.options) set_list → names_differ (values ++ settings) ≡ false
        → (other others : List Value) → Says row words other others → ⊥
    same_names values settings v s names other others h =
        let same = same_values other others h in
        let one = gives_once row.options options (none_given row.options) others (take (length row.options) set_list) (subst (λ ws. Gives row.options ws (none_given row.options) others) same.1 h.gives) settings_are in
        let here = ap (λ (x : List Value). names_differ (x ++ others)) (same.0 ∙ sym (v ∙ values_are)) ∙ ap (λ (x : List Value). names_differ (values ++ x)) (one ∙ sym s) in
        true≢false (sym h.names ∙ (here ∙ names))

-- ---- a table

room_of : (a b c : Bool) → a && b && c ≡ true → (a ≡ true) × (b ≡ true) × (c ≡ true)
room_of true true c h = (refl, refl, h)
room_of true false c h = absurd (true≢false (sym h))
room_of false b c h = absurd (true≢false (sym h))

pub room_at : (rows : List Row) → have_room rows ≡ true → (k : ℕ) (row : Row) → slice_get rows k ≡ Some row → HasRoom row
room_at [] h k row s = absurd cc
room_at (r ∷ rows) h zero row s =
    let same : r ≡ row = cc in
    let room = room_of (nat_le (length r.places) MOST) (nat_le (length r.options) MOST) (have_room rows) h in
    subst HasRoom same (leb-true (length r.places) MOST room.0, leb-true (length r.options) MOST room.1)
room_at (r ∷ rows) h (suc k) row s = room_at rows (room_of (nat_le (length r.places) MOST) (nat_le (length r.options) MOST) (have_room rows) h).2 k row s

-- the row at a place
pub row_there : (rows : List CodeRow) (d : CodeRow) (k : ℕ) → k < length rows → slice_get (map row_in rows) k ≡ Some (row_in (get_or rows k d))
row_there rows d k l = slice_get-map row_in rows k ∙ ap (option_map row_in) (slice_get-get_or rows k d l)

-- one more row says nothing
pub no_more : (rows : List Row) (words : List (List ℕ)) (n : ℕ) (here : Row) → slice_get rows n ≡ Some here
    → ((k : ℕ) → k < n → (row : Row) → slice_get rows k ≡ Some row → (values settings : List Value) → Says row words values settings → ⊥)
    → ((values settings : List Value) → Says here words values settings → ⊥)
    → (k : ℕ) → k < n + 1 → (row : Row) → slice_get rows k ≡ Some row → (values settings : List Value) → Says row words values settings → ⊥
no_more rows words n here s before none = below_more (λ k. (row : Row) → slice_get rows k ≡ Some row → (values settings : List Value) → Says row words values settings → ⊥) n before
    (λ row t values settings h. none values settings (subst (λ (r : Row). Says r words values settings) (let same : row ≡ here = the_row row here (sym t ∙ s) in same) h))
  where
    the_row : (m n : Row) → ◌≡◌ {A = Option Row} (Some m) (Some n) → m ≡ n
    the_row m n e = cc

-- what a row says, said of the table
pub says_by : (rows : List Row) (words : List (List ℕ)) (said : Said) (n : ℕ) (here : Row) → slice_get rows n ≡ Some here → said.row ≡ here → Says here words said.values said.settings → IsSaidBy rows words said
says_by rows words said n here s e h = record { place = n; row = s ∙ ap (λ (r : Row). Some r) (sym e); says = subst (λ (r : Row). Says r words said.values said.settings) (sym e) h }

-- ---- tables in two parts

slice_get_first : (a b : List Row) (k : ℕ) → k < length a → slice_get (a ++ b) k ≡ slice_get a k
slice_get_first [] b k l = absurd (omega arith)
slice_get_first (r ∷ rows) b zero l = refl
slice_get_first (r ∷ rows) b (suc k) l = slice_get_first rows b k (omega arith)

slice_get_behind : (a b : List Row) (k : ℕ) → slice_get (a ++ b) (length a + k) ≡ slice_get b k
slice_get_behind [] b k = ap (slice_get b) (omega arith)
slice_get_behind (r ∷ rows) b k =
    let place : length (r ∷ rows) + k ≡ suc (length rows + k) = omega arith in
    ap (slice_get (r ∷ rows ++ b)) place ∙ slice_get_behind rows b k

-- what is said of the first part, and of the second
pub said_first : (a b : List Row) (words : List (List ℕ)) (said : Said) → IsSaidBy a words said → IsSaidBy (a ++ b) words said
said_first a b words said h = record { place = h.place; row = slice_get_first a b h.place (slice_get_within a h.place said.row h.row) ∙ h.row; says = h.says }

pub said_behind : (a b : List Row) (words : List (List ℕ)) (said : Said) → IsSaidBy b words said → IsSaidBy (a ++ b) words said
said_behind a b words said h = record { place = length a + h.place; row = slice_get_behind a b h.place ∙ h.row; says = h.says }

-- nothing is said of both, where it is of neither
pub said_of_neither : (a b : List Row) (words : List (List ℕ)) (said : Said) → (IsSaidBy a words said → ⊥) → (IsSaidBy b words said → ⊥) → IsSaidBy (a ++ b) words said → ⊥
said_of_neither a b words said not_first not_later h = elim (cases_lt h.place (length a)) [
  | inl l ↦ not_first (record { place = h.place; row = sym (slice_get_first a b h.place l) ∙ h.row; says = h.says })
  | inr l ↦ not_later (record { place = h.place - length a; row = sym (slice_get_behind a b (h.place - length a)) ∙ (ap (slice_get (a ++ b)) (omega (arith, l)) ∙ h.row); says = h.says })
]
