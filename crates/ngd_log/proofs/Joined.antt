-- Pieces, one after the other.
use Rattle.std.proofs.Common.{◌≡◌, ℕ, zero, suc, ◌+◌, ◌<◌, ◌≤◌, List, [], ◌∷◌, ◌++◌, length, take, get_or, Vec, sym, ap, ◌∙◌, append_assoc, arith}
use Rattle.std.proofs.lemmas.List.{append-nil, length-append}
use Rattle.ngd_log.specs.Pieces.{joined}

-- one piece more
pub joined_more : {Z : Type 0} (pieces : List (Vec ℕ Z)) (n : ℕ) (d : Vec ℕ Z) → n < length pieces → joined (take (n + 1) pieces) ≡ joined (take n pieces) ++ (get_or pieces n d).items
joined_more [] n d lt = absurd (omega arith)
joined_more (p ∷ pieces) zero d lt = append-nil p.items
joined_more (p ∷ pieces) (suc n) d lt =
    let e : suc n + 1 ≡ suc (n + 1) = omega arith in
    rw e (ap (λ (t : List ℕ). p.items ++ t) (joined_more pieces n d (omega arith)) ∙ sym (append_assoc p.items (joined (take n pieces)) (get_or pieces n d).items))

-- the pieces up to one have no more bytes than all
pub joined_room : {Z : Type 0} (pieces : List (Vec ℕ Z)) (n : ℕ) (d : Vec ℕ Z) → n < length pieces → length (joined (take n pieces)) + length (get_or pieces n d).items ≤ length (joined pieces)
joined_room [] n d lt = absurd (omega arith)
joined_room (p ∷ pieces) zero d lt = let l = length-append p.items (joined pieces) in omega arith
joined_room {Z = Z} (p ∷ pieces) (suc n) d lt =
    let h = joined_room pieces n d (omega arith) in
    let l = length-append p.items (joined pieces) in
    let m = length-append p.items (joined (take n pieces)) in
    omega (arith, h, l, m)
