-- Texts that are made of the items of a list, one after another.
use Rattle.std.proofs.Common.{◌≡◌, ℕ, ◌+◌, List, [], ◌∷◌, ◌++◌, take, flat_map, slice_get, Some, sym, ap, ◌∙◌, append_assoc, append-nil}
use Rattle.std.proofs.lemmas.List.{take_more}
use Rattle.std.proofs.lemmas.Option.{slice_get_within, get_or_from_slice_get}
use Rattle.std.proofs.lemmas.Grind.{flat_map-append}

-- the text of one item more
pub made_more : {X : Type 0} (make : X → List ℕ) (xs : List X) (i : ℕ) (x : X) (old now new : List ℕ)
    → slice_get xs i ≡ Some x → now ≡ old ++ flat_map make (take i xs) → new ≡ now ++ make x → new ≡ old ++ flat_map make (take (i + 1) xs)
made_more make xs i x old now new found before gained =
    let taken = take_more xs i x (slice_get_within xs i x found) ∙ ap (λ y. take i xs ++ y ∷ []) (get_or_from_slice_get xs i x x found) in
    let texts = ap (flat_map make) taken ∙ flat_map-append make (take i xs) (x ∷ []) ∙ ap (λ t. flat_map make (take i xs) ++ t) (append-nil (make x)) in
    gained ∙ ap (λ (t : List ℕ). t ++ make x) before ∙ append_assoc old (flat_map make (take i xs)) (make x) ∙ ap (λ (t : List ℕ). old ++ t) (sym texts)
