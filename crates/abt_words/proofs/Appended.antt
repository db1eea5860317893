-- Texts that are made of the items of a list, one after another.
use Rattle.std.proofs.Common.{◌≡◌, ℕ, ◌+◌, ◌<◌, List, [], ◌∷◌, ◌++◌, length, map, take, get_or, flat_map, sym, ap, ◌∙◌, append_assoc, append-nil}
use Rattle.std.proofs.lemmas.List.{take_more, map-append}
use Rattle.std.proofs.lemmas.Grind.{flat_map-append}

-- the text of one item more
pub made_more : {X Y : Type 0} (make : Y → List ℕ) (f : X → Y) (xs : List X) (i : ℕ) (d : X) (old now new : List ℕ)
    → i < length xs → now ≡ old ++ flat_map make (map f (take i xs)) → new ≡ now ++ make (f (get_or xs i d)) → new ≡ old ++ flat_map make (map f (take (i + 1) xs))
made_more make f xs i d old now new l before gained =
    let x = get_or xs i d in
    let taken = ap (map f) (take_more xs i d l) ∙ map-append f (take i xs) (x ∷ []) in
    let texts = ap (flat_map make) taken ∙ flat_map-append make (map f (take i xs)) (f x ∷ []) ∙ ap (λ t. flat_map make (map f (take i xs)) ++ t) (append-nil (make (f x))) in
    gained ∙ ap (λ (t : List ℕ). t ++ make (f x)) before ∙ append_assoc old (flat_map make (map f (take i xs))) (make (f x)) ∙ ap (λ (t : List ℕ). old ++ t) (sym texts)

-- the texts of the items of two lists, one behind the other
pub two_parts : {Y : Type 0} (make : Y → List ℕ) (a b x y : List Y) (start one two : List ℕ) → a ≡ x → b ≡ y
    → one ≡ start ++ flat_map make a → two ≡ one ++ flat_map make b → two ≡ start ++ flat_map make (x ++ y)
two_parts make a b x y start one two p q g h =
    let texts = sym (flat_map-append make a b) ∙ ap (λ l. flat_map make (l ++ b)) p ∙ ap (λ l. flat_map make (x ++ l)) q in
    h ∙ ap (λ (t : List ℕ). t ++ flat_map make b) g ∙ append_assoc start (flat_map make a) (flat_map make b) ∙ ap (λ (t : List ℕ). start ++ t) texts
