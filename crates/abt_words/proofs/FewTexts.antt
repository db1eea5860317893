-- Lists of a few texts.
use Rattle.std.proofs.Common.{◌≡◌, ℕ, ◌-◌, ◌≤◌, Bool, false, List, [], ◌∷◌, ◌++◌, map, length, get_or, sym, ◌∙◌, ap, subst, inl, inr, arith}
use Rattle.std.proofs.lemmas.List.{take_all}
use Rattle.std.proofs.lemmas.Slice.Eq.{bytes_eq-Decides}
use Rattle.std.specs.Prelude.{IsTrue, ◌↔◌}
use Rattle.std.specs.Str.{bytes_eq}
use Rattle.abt_words.specs.Rows.{Text}
use Rattle.abt_words.specs.Saying.{IsAmong}
use Rattle.abt_words.proofs.FewWords.{behind}

-- a text is among others, or it is the first
pub among_others : (word : List ℕ) (texts : List Text) (d : Text) (b : Bool) → 1 ≤ length texts → bytes_eq (get_or texts 0 d).now word ≡ false
    → IsTrue b ↔ IsAmong word (map (λ text. text.now) (behind 1 texts)) → IsTrue b ↔ IsAmong word (map (λ text. text.now) texts)
among_others word [] d b l apart h = absurd (omega arith)
among_others word (t ∷ ts) d b l apart h =
    let rest = subst (λ (xs : List Text). IsTrue b ↔ IsAmong word (map (λ text. text.now) xs)) (take_all (length (t ∷ ts) - 1) ts (omega arith)) h in
    (λ k. inr (rest.0 k), λ k. elim k [ inl e ↦ absurd (let yes = (bytes_eq-Decides t.now word).1 e in cc) | inr g ↦ rest.1 g ])

-- texts that begin alike
pub same_heads : (words keyword rest : List (List ℕ)) (w k : List ℕ) (ws ks : List (List ℕ)) → words ≡ w ∷ ws → keyword ≡ k ∷ ks → k ≡ w → ws ≡ ks ++ rest → words ≡ keyword ++ rest
same_heads words keyword rest w k ws ks a b e h = a ∙ (ap (λ x. x ∷ ws) (sym e) ∙ (ap (λ l. k ∷ l) h ∙ sym (ap (λ l. l ++ rest) b)))
