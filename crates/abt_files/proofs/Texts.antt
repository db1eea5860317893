-- Files whose texts stay.
use Rattle.std.proofs.Common.{◌≡◌, ◌≢◌, ◌⊎◌, ℕ, zero, suc, pred, List, Option, Some, Result, Ok, Err, slice_get, slice_set, refl, sym, ap, ◌∙◌, subst, inl, inr}
use Rattle.std.specs.Prelude.{OnOk}
use Rattle.std.specs.Io.KnownBytes.{Keeps}
use Rattle.std.specs.Result.{result_and}
use Rattle.std.proofs.KnownBytes.{Keeps-refl, Keeps-trans}
use Rattle.abt_files.specs.declared.open_files.OpenFile.{OpenFile}
use Rattle.abt_files.specs.Waiting.{KeepsText, KeepTexts, text_of}
use Rattle.abt_files.proofs.Places.{get_replaced, get_beside}

same_or_not : (a b : ℕ) → (a ≡ b) ⊎ (a ≢ b)
same_or_not zero zero = inl refl
same_or_not zero (suc b) = inr (λ e. cc)
same_or_not (suc a) zero = inr (λ e. cc)
same_or_not (suc a) (suc b) = elim (same_or_not a b) [ inl e ↦ inl (ap suc e) | inr n ↦ inr (λ e. n (ap pred e)) ]

-- what holds of each of two answers holds of both together
pub both_ok : {T U E P Q R : Type 0} (r : Result T E) (s : Result U E) → (P → Q → R) → OnOk r P → OnOk s Q → OnOk (result_and r s) R
both_ok (Ok x) (Ok y) f p q = f p q
both_ok (Ok x) (Err y) f p q = tt
both_ok (Err x) s f p q = tt

module _ {W : Type 0} (contents : W → Option (List ℕ)) where
  pub texts_stay : (files : List (OpenFile W)) → KeepTexts contents files files
  texts_stay files = λ place file is. (file, is, record { name = refl; text = Keeps-refl (text_of contents file) })

  -- one file after another
  pub texts_next : (old files : List (OpenFile W)) (at : ℕ) (before now : OpenFile W) → KeepTexts contents old files → slice_get files at ≡ Some before → KeepsText contents before now → KeepTexts contents old (slice_set files at now)
  texts_next old files at before now kept is stays = λ place file was.
      let k = kept place file was in
      by place file was k.0 k.1 k.2 (same_or_not place at)
    where
      by : (place : ℕ) (file : OpenFile W) → slice_get old place ≡ Some file → (x : OpenFile W) → slice_get files place ≡ Some x → KeepsText contents file x → (place ≡ at) ⊎ (place ≢ at) → (y : OpenFile W) × (slice_get (slice_set files at now) place ≡ Some y) × KeepsText contents file y
      by place file was x is_x keeps (inl e) =
          let same : x ≡ before = one_file x before (sym is_x ∙ (ap (slice_get files) e ∙ is)) in (
            now,
            subst (λ p. slice_get (slice_set files at now) p ≡ Some now) (sym e) (get_replaced files at before now is),
            record {
              name = stays.name ∙ (ap (λ f. f.name) (sym same) ∙ keeps.name);
              text = Keeps-trans (text_of contents file) (text_of contents x) (text_of contents now) keeps.text (subst (λ f. Keeps (text_of contents f) (text_of contents now)) (sym same) stays.text);
            },
          )
        where
          one_file : (a b : OpenFile W) → Some a ≡ Some b → a ≡ b
          one_file a b e = cc
      by place file was x is_x keeps (inr n) = (x, get_beside files at place now n ∙ is_x, keeps)
