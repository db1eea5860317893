-- Texts that grow, piece by piece and fact by fact.
use Rattle.std.proofs.Common.{◌≡◌, ◌∙◌, ℕ, List, [], ◌∷◌, ◌++◌, map, Option, Some, None, Result, Ok, Err, refl, sym, ap, append-nil, append_assoc}
use Rattle.std.specs.Prelude.{OnOk, if◌then◌else◌, is_ok}
use Rattle.std.specs.List.{flat_map}
use Rattle.std.proofs.lemmas.Grind.{flat_map-append}
use Rattle.abt_story.specs.Facts.{Fact}
use Rattle.dcsp_order.specs.Told.{number_told}
use Rattle.abt_story.specs.Numbers.{fact_told, facts_told, line_told, lines_told}
use Rattle.abt_story.specs.Telling.{lines}
use Rattle.abt_story.specs.Texts.{facts_text, line_text, lines_text}
use Rattle.abt_story.proofs.Numbers.{facts_append, one_told}

-- one piece more
pub piece_more : (old text piece now new : List ℕ) → now ≡ old ++ text → new ≡ now ++ piece → new ≡ old ++ (text ++ piece)
piece_more old text piece now new e f = f ∙ ap (λ (t : List ℕ). t ++ piece) e ∙ append_assoc old text piece

-- the last piece, which may fail
pub piece_last : {T E : Type 0} (r : Result T E) (old text piece now new : List ℕ) → now ≡ old ++ text → OnOk r (new ≡ now ++ piece) → OnOk r (new ≡ old ++ (text ++ piece))
piece_last (Ok x) old text piece now new e f = piece_more old text piece now new e f
piece_last (Err x) old text piece now new e f = tt

-- facts, and more facts
pub facts_more : (event i : ℕ) (old : List ℕ) (fs gs : List Fact) (now new : List ℕ) → now ≡ old ++ facts_text event i fs → new ≡ now ++ facts_text event i gs → new ≡ old ++ facts_text event i (fs ++ gs)
facts_more event i old fs gs now new e f =
    piece_more old (facts_text event i fs) (facts_text event i gs) now new e f ∙ ap (λ t. old ++ t) (sym (flat_map-append (λ (x : Fact). line_text (record { event = event; agent = Some i; fact = x })) fs gs))

pub facts_last : {T E : Type 0} (r : Result T E) (event i : ℕ) (old : List ℕ) (fs gs : List Fact) (now new : List ℕ) → now ≡ old ++ facts_text event i fs → OnOk r (new ≡ now ++ facts_text event i gs) → OnOk r (new ≡ old ++ facts_text event i (fs ++ gs))
facts_last (Ok x) event i old fs gs now new e f = facts_more event i old fs gs now new e f
facts_last (Err x) event i old fs gs now new e f = tt

-- lines of an agent as facts, told by numbers
pub lines_are_facts : (order : Option (List ℕ)) (event i : ℕ) (fs : List Fact) → lines_text (lines_told order (lines event i fs)) ≡ facts_text event (number_told order i) (facts_told order fs)
lines_are_facts None event i [] = refl
lines_are_facts None event i (f ∷ fs) = ap (λ t. line_text (record { event = event; agent = Some i; fact = f }) ++ t) (lines_are_facts None event i fs)
lines_are_facts (Some order) event i [] = refl
lines_are_facts (Some order) event i (f ∷ fs) = ap (λ t. line_text (line_told (Some order) (record { event = event; agent = Some i; fact = f })) ++ t) (lines_are_facts (Some order) event i fs)

-- the facts of one item more
pub item_more : {A : Type 0} (event i : ℕ) (old : List ℕ) (told : A → List Fact) (xs : List A) (x : A) (now new : List ℕ) → now ≡ old ++ facts_text event i (flat_map told xs) → new ≡ now ++ facts_text event i (told x)
    → new ≡ old ++ facts_text event i (flat_map told (xs ++ x ∷ []))
item_more event i old told xs x now new e f =
    facts_more event i old (flat_map told xs) (told x) now new e f ∙ ap (λ fs. old ++ facts_text event i fs) (sym (flat_map-append told xs (x ∷ []) ∙ ap (λ fs. flat_map told xs ++ fs) (append-nil (told x))))

-- what is told of each item, as text
pub told_items : {A : Type 0} (order : Option (List ℕ)) (event i : ℕ) (told : A → List Fact) (xs : List A) → facts_text event i (facts_told order (flat_map told xs)) ≡ flat_map (λ x. facts_text event i (facts_told order (told x))) xs
told_items None event i told [] = refl
told_items (Some order) event i told [] = refl
told_items order event i told (x ∷ xs) =
    ap (facts_text event i) (facts_append order (told x) (flat_map told xs))
    ∙ flat_map-append (λ (f : Fact). line_text (record { event = event; agent = Some i; fact = f })) (facts_told order (told x)) (facts_told order (flat_map told xs))
    ∙ ap (λ t. facts_text event i (facts_told order (told x)) ++ t) (told_items order event i told xs)

-- the same, where one fact is told of each
pub told_each : {A : Type 0} (order : Option (List ℕ)) (event i : ℕ) (told : A → Fact) (xs : List A) → facts_text event i (facts_told order (map told xs)) ≡ flat_map (λ x. facts_text event i (fact_told order (told x) ∷ [])) xs
told_each None event i told [] = refl
told_each (Some order) event i told [] = refl
told_each order event i told (x ∷ xs) =
    ap (facts_text event i) (facts_append order (told x ∷ []) (map told xs))
    ∙ flat_map-append (λ (f : Fact). line_text (record { event = event; agent = Some i; fact = f })) (facts_told order (told x ∷ [])) (facts_told order (map told xs))
    ∙ ap (λ fs. facts_text event i fs ++ facts_text event i (facts_told order (map told xs))) (one_told order (told x)) ∙ ap (λ t. facts_text event i (fact_told order (told x) ∷ []) ++ t) (told_each order event i told xs)

-- the last bytes, which are appended at once
pub bytes_last : {T E : Type 0} (r : Result T E) (old text piece now new : List ℕ) → now ≡ old ++ text → new ≡ (if is_ok r then now ++ piece else now) → OnOk r (new ≡ old ++ (text ++ piece))
bytes_last (Ok x) old text piece now new e f = piece_more old text piece now new e f
bytes_last (Err x) old text piece now new e f = tt

-- one line is the text of one fact
pub one_fact : {T E : Type 0} (r : Result T E) (old line new : List ℕ) → OnOk r (new ≡ old ++ line) → OnOk r (new ≡ old ++ (line ++ []))
one_fact (Ok x) old line new e = e ∙ ap (λ t. old ++ t) (sym (append-nil line))
one_fact (Err x) old line new e = tt
