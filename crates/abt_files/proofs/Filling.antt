-- A list whose end is read into: what stands in front, and what the reader gave.
use Rattle.std.proofs.Common.{◌≡◌, ℕ, ◌+◌, ◌-◌, ◌≤◌, List, ◌++◌, arith, length, take, drop, ap, ◌∙◌, le_refl, drop_at, length-take-le, length-drop, take_all}
use Rattle.std.proofs.lemmas.Slice.{take-put_mid_below}
use borrow.Rule.Slice.PartMut.{put_mid, post_of}
use lib.Seq.{take-add, take-append-le}

-- what was written behind the front stands there
pub more_in_front : (a k n : ℕ) (xs ys : List ℕ) → a ≤ length xs → n ≤ length ys → take (a + n) (put_mid a k xs ys) ≡ take a xs ++ take n ys
more_in_front a k n xs ys within fits =
    let after = post_of a k xs in
    take-add a n (put_mid a k xs ys)
    ∙ ap (λ l. l ++ take n (drop a (put_mid a k xs ys))) (take-put_mid_below _ _ _ _ _ (le_refl _) within)
    ∙ ap (λ l. take a xs ++ take n l) (drop_at (take a xs) (ys ++ after) a (length-take-le a xs within))
    ∙ ap (λ l. take a xs ++ l) (take-append-le n ys after fits)

-- a list that was made longer keeps its front
front_of_longer : (old zeros long : List ℕ) (s n : ℕ) → s ≡ length old → s ≤ n → long ≡ take n old ++ zeros → take s long ≡ old
front_of_longer old zeros long s n e h l =
    ap (take s) l ∙ ap (λ x. take s (x ++ zeros)) (take_all n old (omega arith)) ∙ take-append-le s old zeros (omega arith) ∙ take_all s old (omega arith)

-- what was written into the room behind the front of a list that was made longer stands behind that list
pub read_behind : (old zeros long room : List ℕ) (s m n : ℕ) → s ≡ length old → long ≡ take (s + m) old ++ zeros → length long ≡ s + m → n ≤ length room
    → take (s + n) (put_mid s (length long - s) long room) ≡ old ++ take n room
read_behind old zeros long room s m n e l len fits =
    more_in_front s (length long - s) n long room (omega arith) fits ∙ ap (λ x. x ++ take n room) (front_of_longer old zeros long s (s + m) e (omega arith) l)

-- the part of a list from a place on is as long as what stands there
pub length_of_room : (s : ℕ) (xs : List ℕ) → length (take (length xs - s) (drop s xs)) ≡ length xs - s
length_of_room s xs =
    let rest : length (drop s xs) ≡ length xs - s = length-drop s xs in
    length-take-le (length xs - s) (drop s xs) (omega arith)
