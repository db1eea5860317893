-- Lists that stand one after another.
use Rattle.std.proofs.Common.{◌≡◌, ℕ, suc, ◌+◌, ◌-◌, ◌<◌, ◌≤◌, List, [], ◌∷◌, ◌++◌, map, length, get_or, take, drop, sym, ap, ◌∙◌, arith, inl, inr, ◌⊎◌, rules}
use Rattle.std.specs.Prelude.{Some, slice_get}
use Rattle.std.proofs.lemmas.List.{map-append, length_push, length-append, length-drop, take-append-le, drop-append-le, get_or_append_left, get_or_push, take_all, take_more, get_or_default}
use Rattle.std.proofs.lemmas.Option.{slice_get-get_or}
use Rattle.std.proofs.Math.Seq.{drop-append_seam}
use Rattle.dcsp_defs.specs.Words.{below}
use Rattle.dcsp_problem.specs.Pieces.{piece, pieces, AreCuts}
use Rattle.dcsp_problem.proofs.OwnerLists.{map_below, length-map_below, get_or-map_below}

-- what comes later changes no piece
piece_kept : (items more : List ℕ) (start end : ℕ) → start ≤ end → end ≤ length items → piece (items ++ more) start end ≡ piece items start end
piece_kept items more start end rises inside =
    let rest = length-drop start items in
    ap (λ (z : List ℕ). take (end - start) z) (drop-append-le start items more (omega arith))
    ∙ take-append-le (end - start) (drop start items) more (omega arith)

piece_last : (items more : List ℕ) (end : ℕ) → end ≡ length items + length more → piece (items ++ more) (length items) end ≡ more
piece_last items more end is =
    let size : end - length items ≡ length more = omega arith in
    ap (λ (z : List ℕ). take (end - length items) z) (drop-append_seam items more)
    ∙ ap (λ (z : ℕ). take z more) size
    ∙ take_all (length more) more (omega arith)

-- one more list
pub pieces_push : (items places more : List ℕ) (end : ℕ) → AreCuts items places → end ≡ length items + length more
    → pieces (items ++ more) (places ++ end ∷ []) ≡ pieces items places ++ more ∷ []
pieces_push items places more end cuts is =
    let size = length_push places end in
    let some = cuts.some in
    let count : length (places ++ end ∷ []) - 1 ≡ suc (length places - 1) = omega arith in
    let at = λ (k : ℕ) (l : k < length places). get_or_append_left places (end ∷ []) 0 k l in
    let cut = λ (k : ℕ). piece (items ++ more) (get_or (places ++ end ∷ []) k 0) (get_or (places ++ end ∷ []) (k + 1) 0) in
    let kept : map cut (below (length places - 1)) ≡ pieces items places =
    map_below cut (λ k. piece items (get_or places k 0) (get_or places (k + 1) 0)) (length places - 1) (λ k l.
    ap (λ (z : ℕ). piece (items ++ more) z (get_or (places ++ end ∷ []) (k + 1) 0)) (at k (omega arith))
    ∙ ap (λ (z : ℕ). piece (items ++ more) (get_or places k 0) z) (at (k + 1) (omega arith))
    ∙ piece_kept items more (get_or places k 0) (get_or places (k + 1) 0) (cuts.rising k (omega arith)) (cuts.inside (k + 1) (omega arith))) in
    let last : cut (length places - 1) ≡ more =
    ap (λ (z : ℕ). piece (items ++ more) z (get_or (places ++ end ∷ []) (length places - 1 + 1) 0)) (at (length places - 1) (omega arith) ∙ cuts.end)
    ∙ ap (λ (z : ℕ). piece (items ++ more) (length items) z) (get_or_push places end 0 (length places - 1 + 1) (omega arith))
    ∙ piece_last items more end is in
    ap (λ (z : ℕ). map cut (below z)) count
    ∙ map-append cut (below (length places - 1)) ((length places - 1) ∷ [])
    ∙ ap (λ (z : List (List ℕ)). z ++ cut (length places - 1) ∷ []) kept
    ∙ ap (λ (z : List ℕ). pieces items places ++ z ∷ []) last

-- the places with the new end
pub cuts_push : (items places more : List ℕ) (end : ℕ) → AreCuts items places → end ≡ length items + length more → AreCuts (items ++ more) (places ++ end ∷ [])
cuts_push items places more end cuts is =
    let size = length_push places end in
    let long = length-append items more in
    let some = cuts.some in
    let at = λ (k : ℕ) (l : k < length places). get_or_append_left places (end ∷ []) 0 k l in
    let last = λ (k : ℕ) (e : length places ≡ k). get_or_push places end 0 k e in
    record {
      some = omega arith;
      rising = λ k l.
          let split : (k + 1 < length places) ⊎ (k + 1 ≡ length places) = search rules in
          elim split [
            | inl early ↦ let e = at k (omega arith) in let f = at (k + 1) early in let up = cuts.rising k early in omega arith
            | inr here ↦ let e = at k (omega arith) in let f = last (k + 1) (sym here) in let within = cuts.inside k (omega arith) in omega arith
          ];
      inside = λ k l.
          let split : (k < length places) ⊎ (k ≡ length places) = search rules in
          elim split [
            | inl early ↦ let e = at k early in let within = cuts.inside k early in omega arith
            | inr here ↦ let e = last k (sym here) in omega arith
          ];
      end = let e = last (length (places ++ end ∷ []) - 1) (omega arith) in omega arith;
    }

-- the list at a place
pub piece_at : (items places : List ℕ) (k : ℕ) → k < length (pieces items places) → slice_get (pieces items places) k ≡ Some (piece items (get_or places k 0) (get_or places (k + 1) 0))
piece_at items places k l =
    let cut = λ (j : ℕ). piece items (get_or places j 0) (get_or places (j + 1) 0) in
    let size = length-map_below cut (length places - 1) in
    slice_get-get_or (pieces items places) k [] l ∙ ap (λ (z : List ℕ). Some z) (get_or-map_below cut (length places - 1) k [] (omega arith))

-- the place after it is there
pub place_there : (items places : List ℕ) (k : ℕ) → k < length (pieces items places) → k + 1 < length places
place_there items places k l =
    let size = length-map_below (λ (j : ℕ). piece items (get_or places j 0) (get_or places (j + 1) 0)) (length places - 1) in
    omega arith

-- the places that are read lie in the items
pub bounds_are : (items places : List ℕ) (k start end : ℕ) → AreCuts items places → k < length (pieces items places) → start ≡ get_or places k start → end ≡ get_or places (k + 1) end
    → (start ≤ end) × (end ≤ length items) × (start ≡ get_or places k 0) × (end ≡ get_or places (k + 1) 0)
bounds_are items places k start end cuts l from to =
    let there = place_there items places k l in
    let first : start ≡ get_or places k 0 = from ∙ get_or_default places k start 0 (omega arith) in
    let last : end ≡ get_or places (k + 1) 0 = to ∙ get_or_default places (k + 1) end 0 (omega arith) in
    let up = cuts.rising k there in
    let within = cuts.inside (k + 1) there in
    (omega arith, omega arith, first, last)

-- the items between them are the list
pub piece_read : (items places text : List ℕ) (shown : List (List ℕ)) (k start end : ℕ) → AreCuts items places → pieces items places ≡ shown → text ≡ items → k < length shown → start ≡ get_or places k start → end ≡ get_or places (k + 1) end
    → slice_get shown k ≡ Some (take (end - start) (drop start text))
piece_read items places text shown k start end cuts view same l from to =
    let size = ap length view in
    let b = bounds_are items places k start end cuts (omega arith) from to in
    ap (λ z. slice_get z k) (sym view)
    ∙ piece_at items places k (omega arith)
    ∙ ap (λ (z : ℕ). Some (take (get_or places (k + 1) 0 - z) (drop z items))) (sym b.2)
    ∙ ap (λ (z : ℕ). Some (take (z - start) (drop start items))) (sym b.3)
    ∙ ap (λ (z : List ℕ). Some (take (end - start) (drop start z))) (sym same)

-- one more list, changed like those before it
pub changed_more : {X : Type 0} (f : X → List ℕ) (lists : List X) (i : ℕ) (d : X) → i < length lists → map f (take i lists) ++ f (get_or lists i d) ∷ [] ≡ map f (take (i + 1) lists)
changed_more f lists i d l = sym (ap (map f) (take_more lists i d l) ∙ map-append f (take i lists) (get_or lists i d ∷ []))
