-- Texts that grow, piece by piece, and one agent after the other.
use Rattle.std.proofs.Common.{◌≡◌, ◌∙◌, ℕ, zero, suc, ◌+◌, ◌<◌, List, [], ◌∷◌, ◌++◌, Result, Ok, Err, refl, sym, ap, arith, append-nil, append_assoc}
use Rattle.std.specs.Prelude.{OnOk, if◌then◌else◌, is_ok}
use Rattle.std.specs.List.{flat_map}
use Rattle.std.proofs.lemmas.Grind.{flat_map-append}
use Rattle.dcsp_defs.specs.Words.{below}

-- one piece more
pub piece_more : (old text piece now new : List ℕ) → now ≡ old ++ text → new ≡ now ++ piece → new ≡ old ++ (text ++ piece)
piece_more old text piece now new e f = f ∙ ap (λ (t : List ℕ). t ++ piece) e ∙ append_assoc old text piece

-- the last piece, which may fail
pub piece_last : {T E : Type 0} (r : Result T E) (old text piece now new : List ℕ) → now ≡ old ++ text → OnOk r (new ≡ now ++ piece) → OnOk r (new ≡ old ++ (text ++ piece))
piece_last (Ok x) old text piece now new e f = piece_more old text piece now new e f
piece_last (Err x) old text piece now new e f = tt

-- the same where the bytes are appended at once
pub bytes_last : {T E : Type 0} (r : Result T E) (old text piece now new : List ℕ) → now ≡ old ++ text → new ≡ (if is_ok r then now ++ piece else now) → OnOk r (new ≡ old ++ (text ++ piece))
bytes_last (Ok x) old text piece now new e f = piece_more old text piece now new e f
bytes_last (Err x) old text piece now new e f = tt

-- the text of one number more
pub text_more : (f : ℕ → List ℕ) (i : ℕ) (old now new : List ℕ) → now ≡ old ++ flat_map f (below i) → new ≡ now ++ f i → new ≡ old ++ flat_map f (below (i + 1))
text_more f i old now new h e =
    let n : i + 1 ≡ suc i = omega arith in
    e ∙ ap (λ l. l ++ f i) h ∙ append_assoc old (flat_map f (below i)) (f i) ∙ ap (λ l. old ++ l) (sym (flat_map-append f (below i) (i ∷ []) ∙ ap (λ l. flat_map f (below i) ++ l) (append-nil (f i))))
    ∙ ap (λ k. old ++ flat_map f (below k)) (sym n)

-- the texts of all numbers, where each number was told
pub text_all : (f : ℕ → List ℕ) (i n : ℕ) (old now : List ℕ) → i ≡ n → now ≡ old ++ flat_map f (below i) → now ≡ old ++ flat_map f (below n)
text_all f i n old now e h = h ∙ ap (λ k. old ++ flat_map f (below k)) e

-- texts that are alike below n
pub texts_alike : (f g : ℕ → List ℕ) (n : ℕ) → ((i : ℕ) → i < n → f i ≡ g i) → flat_map f (below n) ≡ flat_map g (below n)
texts_alike f g zero h = refl
texts_alike f g (suc n) h =
    flat_map-append f (below n) (n ∷ []) ∙ ap (λ l. l ++ (f n ++ [])) (texts_alike f g n (λ i l. h i (omega arith)))
    ∙ ap (λ l. flat_map g (below n) ++ (l ++ [])) (h n (omega arith)) ∙ sym (flat_map-append g (below n) (n ∷ []))
