-- Values of places, one after another.
use Rattle.std.proofs.Common.{◌≡◌, ℕ, ◌+◌, ◌≤◌, List, [], ◌∷◌, ◌++◌, map, set, length, get_or, sym, ◌∙◌, ap, subst, add-one}
use Rattle.std.specs.Prelude.{flat_map}
use Rattle.std.proofs.lemmas.List.{append_assoc}
use Rattle.abt_words.specs.declared.row.PlaceOf.{PlaceOf}
use Rattle.abt_words.specs.Rows.{Text, Texts, kind_in, place_in}
use Rattle.abt_words.specs.Saying.{Value, Fits, Fill, value_words}
use Rattle.abt_words.specs.Values.{Fills, written}
use Rattle.abt_words.proofs.FewWords.{behind, begins, first_read}

-- a value and those behind it
pub fills_more : (places : List (PlaceOf Text Texts)) (d : PlaceOf Text Texts) (words ws rest : List (List ℕ)) (word : List ℕ) (value : Value) (before next now : List Value) (at : ℕ)
    → 1 ≤ length places → Fits (kind_in (get_or places 0 d).kind) value → words ≡ word ∷ ws → value_words value ≡ word ∷ [] → next ≡ set before at value
    → Fills (map place_in (behind 1 places)) ws rest next (at + 1) now → Fills (map place_in places) words rest before at now
fills_more places d words ws rest word value before next now at l fits are is sets h = record {
  values = value ∷ h.values;
  fill = subst (λ ps. Fill ps (value ∷ h.values)) (sym (begins place_in places (get_or places 0 d) l (first_read places d l))) (fits, h.fill);
  words_are = are ∙ (ap (λ l. word ∷ l) h.words_are ∙ (ap (λ l. l ++ (flat_map value_words h.values ++ rest)) (sym is) ∙ sym (append_assoc (value_words value) (flat_map value_words h.values) rest)));
  now_is = h.now_is ∙ (ap (λ l. written l (at + 1) h.values) sets ∙ ap (λ n. written (set before at value) n h.values) (add-one at));
}
