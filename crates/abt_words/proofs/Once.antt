-- Words say at most one thing.
use Rattle.std.proofs.Common.{◌≡◌, ℕ, zero, suc, Bool, true, false, cond, ◌&&◌, List, [], ◌∷◌, ◌++◌, length, get_or, set, drop, Option, Some, None, refl, sym, ap, subst, ◌∙◌, arith, decimal}
use Rattle.std.specs.Prelude.{flat_map, slice_get}
use Rattle.std.specs.Fmt.{signed_decimal}
use Rattle.std.proofs.lemmas.Bool.{false≢true}
use Rattle.std.proofs.lemmas.Fmt.{decimal_injective}
use Rattle.std.proofs.lemmas.List.{append_assoc, append_cancel_left}
use Rattle.std.proofs.lemmas.Slice.Eq.{bytes_eq-Decides}
use Rattle.abt_words.specs.Rows.{WordKind, File, OneOf, Place, LineOption, Row, run_rows, other_rows, the_rows}
use Rattle.abt_words.specs.Rows as rows
use Rattle.abt_words.specs.Saying.{Value, Given, Name, Number, Signed, Word, value_words, Fits, FitsOption, Fill, place_of, Gives, nothing, gives, Said, Says, IsSaidBy, none_given, differ, differs_from_all, are_apart}
use Rattle.abt_words.proofs.SignedWords.{signed_number_back, signed_number}

-- ---- values

pub the_head : (a b : List ℕ) (x y : List (List ℕ)) → a ∷ x ≡ b ∷ y → a ≡ b
the_head a b x y e = ap (λ l. get_or l 0 []) e

pub the_tail : (a b : List ℕ) (x y : List (List ℕ)) → a ∷ x ≡ b ∷ y → x ≡ y
the_tail a b x y e = ap (drop 1) e

-- values of one kind whose words begin two texts alike
pub one_value : (kind : WordKind) (a b : Value) (x y : List (List ℕ)) → Fits kind a → Fits kind b → value_words a ++ x ≡ value_words b ++ y → (a ≡ b) × (x ≡ y)
one_value (File c r) (Name m) (Name n) x y h k e = (ap Name (the_head m n x y e), the_tail m n x y e)
one_value (File c r) (Name m) b x y h k e = absurd k
one_value (File c r) a b x y h k e = absurd h
one_value (rows.Number least most) (Number m) (Number n) x y h k e = (ap Number (decimal_injective m n h.2 k.2 (the_head (decimal m) (decimal n) x y e)), the_tail (decimal m) (decimal n) x y e)
one_value (rows.Number least most) (Number m) b x y h k e = absurd k
one_value (rows.Number least most) a b x y h k e = absurd h
one_value rows.Signed (Signed m) (Signed n) x y h k e =
    let same = ap signed_number (the_head (signed_decimal m) (signed_decimal n) x y e) in
    (ap Signed (sym (signed_number_back m h) ∙ same ∙ signed_number_back n k), the_tail (signed_decimal m) (signed_decimal n) x y e)
one_value rows.Signed (Signed m) b x y h k e = absurd k
one_value rows.Signed a b x y h k e = absurd h
one_value (OneOf words) (Word m) (Word n) x y h k e = (ap Word (the_head m n x y e), the_tail m n x y e)
one_value (OneOf words) (Word m) b x y h k e = absurd k
one_value (OneOf words) a b x y h k e = absurd h

pub one_option : (o : Option Place) (a b : Value) (x y : List (List ℕ)) → FitsOption o a → FitsOption o b → value_words a ++ x ≡ value_words b ++ y → (a ≡ b) × (x ≡ y)
one_option None Given Given x y h k e = (refl, e)
one_option None Given b x y h k e = absurd k
one_option None a b x y h k e = absurd h
one_option (Some place) a b x y h k e = one_value place.kind a b x y h k e

pub one_filling : (places : List Place) (a b : List Value) (x y : List (List ℕ)) → Fill places a → Fill places b → flat_map value_words a ++ x ≡ flat_map value_words b ++ y → (a ≡ b) × (x ≡ y)
one_filling [] [] [] x y h k e = (refl, e)
one_filling [] [] (v ∷ vs) x y h k e = absurd k
one_filling [] (v ∷ vs) b x y h k e = absurd h
one_filling (p ∷ ps) [] b x y h k e = absurd h
one_filling (p ∷ ps) (v ∷ vs) [] x y h k e = absurd k
one_filling (p ∷ ps) (v ∷ vs) (w ∷ ws) x y h k e =
    let first = one_value p.kind v w (flat_map value_words vs ++ x) (flat_map value_words ws ++ y) h.0 k.0 (sym (append_assoc (value_words v) (flat_map value_words vs) x) ∙ e ∙ append_assoc (value_words w) (flat_map value_words ws) y) in
    let others = one_filling ps vs ws x y h.1 k.1 first.1 in
    (ap (λ z. z ∷ vs) first.0 ∙ ap (λ z. w ∷ z) others.0, others.1)

-- ---- options

pub the_number : (m n : ℕ) → ◌≡◌ {A = Option ℕ} (Some m) (Some n) → m ≡ n
the_number m n e = cc

pub the_option : (m n : LineOption) → ◌≡◌ {A = Option LineOption} (Some m) (Some n) → m ≡ n
the_option m n e = cc

pub no_words : (words : List (List ℕ)) (word : List ℕ) (more : List (List ℕ)) → words ≡ [] → words ≡ word ∷ more → ⊥
no_words words word more e f = omega (arith, ap length (sym e ∙ f))

module _ (options : List LineOption) where
  pub gives_once : (words : List (List ℕ)) (before a b : List Value) → Gives options words before a → Gives options words before b → a ≡ b
  gives_once words before a b (nothing e i) (nothing f j) = i ∙ sym j
  gives_once words before a b (nothing e i) (gives w n o v more p s t f q g) = absurd (no_words words w (value_words v ++ more) e f)
  gives_once words before a b (gives w n o v more p s t e q h) (nothing f j) = absurd (no_words words w (value_words v ++ more) f e)
  gives_once words before a b (gives w n o v more p s t e q h) (gives w2 n2 o2 v2 more2 p2 s2 t2 f q2 g) =
      let word = the_head w w2 (value_words v ++ more) (value_words v2 ++ more2) (sym e ∙ f) in
      let place : n ≡ n2 = the_number n n2 (sym p ∙ ap (place_of options) word ∙ p2) in
      let option : o ≡ o2 = the_option o o2 (sym s ∙ ap (slice_get options) place ∙ s2) in
      let value = one_option o2.value v v2 more more2 (subst (λ (z : LineOption). FitsOption z.value v) option t) t2 (the_tail w w2 (value_words v ++ more) (value_words v2 ++ more2) (sym e ∙ f)) in
      let there = subst (λ ws. Gives options ws (set before n v) a) value.1 h in
      gives_once more2 (set before n2 v2) a b (subst (λ z. Gives options more2 (set before n2 z) a) value.0 (subst (λ z. Gives options more2 (set before z v) a) place there)) g

-- ---- rows

-- of one row
pub one_says : (row : Row) (words : List (List ℕ)) (v w s t : List Value) → Says row words v s → Says row words w t → (v ≡ w) × (s ≡ t)
one_says row words v w s t h k =
    let same = append_cancel_left row.keyword (flat_map value_words v ++ h.options) (flat_map value_words w ++ k.options) (sym h.words_are ∙ k.words_are) in
    let values = one_filling row.places v w h.options k.options h.fill k.fill same in
    (values.0, gives_once row.options k.options (none_given row.options) s t (subst (λ ws. Gives row.options ws (none_given row.options) s) values.1 h.gives) k.gives)

-- keywords that differ begin no text alike
pub no_common : (k l : List (List ℕ)) (x y : List (List ℕ)) → differ k l ≡ true → k ++ x ≡ l ++ y → ⊥
no_common [] l x y d e = false≢true d
no_common (w ∷ ws) [] x y d e = false≢true d
no_common (w ∷ ws) (o ∷ os) x y d e =
    let same = (bytes_eq-Decides w o).1 (the_head w o (ws ++ x) (os ++ y) e) in
    no_common ws os x y (sym (ap (λ b. cond b (differ ws os) true) same) ∙ d) (the_tail w o (ws ++ x) (os ++ y) e)

pub both : (a b : Bool) → a && b ≡ true → (a ≡ true) × (b ≡ true)
both true b h = (refl, h)
both false b h = absurd (false≢true h)

differs : (keyword : List (List ℕ)) (rows : List Row) → differs_from_all keyword rows ≡ true → (i : ℕ) (row : Row) → slice_get rows i ≡ Some row → differ keyword row.keyword ≡ true
differs keyword [] d i row s = absurd cc
differs keyword (r ∷ rows) d zero row s =
    let same : r ≡ row = cc in
    subst (λ (z : Row). differ keyword z.keyword ≡ true) same (both (differ keyword r.keyword) (differs_from_all keyword rows) d).0
differs keyword (r ∷ rows) d (suc i) row s = differs keyword rows (both (differ keyword r.keyword) (differs_from_all keyword rows) d).1 i row s

pub one_row : (rows : List Row) → are_apart rows ≡ true → (i j : ℕ) (a b : Row) → slice_get rows i ≡ Some a → slice_get rows j ≡ Some b → (x y : List (List ℕ)) → a.keyword ++ x ≡ b.keyword ++ y → a ≡ b
one_row [] apart i j a b s t x y e = absurd cc
one_row (r ∷ rows) apart zero zero a b s t x y e =
    let first : r ≡ a = cc in
    let second : r ≡ b = cc in
    sym first ∙ second
one_row (r ∷ rows) apart zero (suc j) a b s t x y e =
    let first : r ≡ a = cc in
    let d = differs r.keyword rows (both (differs_from_all r.keyword rows) (are_apart rows) apart).0 j b t in
    absurd (no_common a.keyword b.keyword x y (subst (λ (z : Row). differ z.keyword b.keyword ≡ true) first d) e)
one_row (r ∷ rows) apart (suc i) zero a b s t x y e =
    let first : r ≡ b = cc in
    let d = differs r.keyword rows (both (differs_from_all r.keyword rows) (are_apart rows) apart).0 i a s in
    absurd (no_common b.keyword a.keyword y x (subst (λ (z : Row). differ z.keyword a.keyword ≡ true) first d) (sym e))
one_row (r ∷ rows) apart (suc i) (suc j) a b s t x y e = one_row rows (both (differs_from_all r.keyword rows) (are_apart rows) apart).1 i j a b s t x y e

pub one_said : (rows : List Row) → are_apart rows ≡ true → (words : List (List ℕ)) (a b : Said) → IsSaidBy rows words a → IsSaidBy rows words b → a ≡ b
one_said rows apart words a b h k =
    let row = one_row rows apart h.place k.place a.row b.row h.row k.row (flat_map value_words a.values ++ h.says.options) (flat_map value_words b.values ++ k.says.options) (sym h.says.words_are ∙ k.says.words_are) in
    let same = one_says b.row words a.values b.values a.settings b.settings (subst (λ z. Says z words a.values a.settings) row h.says) k.says in
    ap (λ (z : Row). record { row = z; values = a.values; settings = a.settings }) row
    ∙ ap (λ (z : List Value). record { row = b.row; values = z; settings = a.settings }) same.0
    ∙ ap (λ (z : List Value). record { row = b.row; values = b.values; settings = z }) same.1

pub rows_are_apart : are_apart the_rows ≡ true
unfolding the_rows run_rows other_rows
rows_are_apart = refl
