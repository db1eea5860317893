-- Reading items behind separators, one after the other, as a loop does.
use Rattle.std.proofs.Common.{◌≡◌, ℕ, zero, suc, List, [], ◌∷◌, ◌++◌, Option, Some, None, refl, sym, ap, ◌∙◌, append_assoc}
use Rattle.std.proofs.lemmas.List.{append-nil}
use Rattle.dcsp_common.specs.Reading.{◌>>=◌}
use Rattle.ngd_log.specs.Reading.{after, items_at}

-- the items that were read before, and those that are still read
abbrev pub with_front : {X : Type 0} → List X → Option (List X × List ℕ) → Option (List X × List ℕ)
with_front front read = read >>= λ xs. Some (front ++ xs.0, xs.1)

-- one item more in front
regroup : {X : Type 0} (front : List X) (x : X) (read : Option (List X × List ℕ)) → with_front front (read >>= λ xs. Some (x ∷ xs.0, xs.1)) ≡ with_front (front ++ x ∷ []) read
regroup {X = X} front x (Some xs) = ap (λ (ys : List X). Some (ys, xs.1)) (simp append_assoc)
regroup front x None = refl

-- one item more
pub goes_on : {X : Type 0} (separator : List ℕ) (item : List ℕ → Option (X × List ℕ)) (front : List X) (most k : ℕ) (bytes rest : List ℕ) (x : X) (next : List ℕ) (total : Option (List X × List ℕ))
    → k ≡ suc most → after separator bytes ≡ Some rest → item rest ≡ Some (x, next)
    → with_front front (items_at separator item k bytes) ≡ total → with_front (front ++ x ∷ []) (items_at separator item most next) ≡ total
unfolding items_at
goes_on separator item front most k bytes rest x next total e a i so_far =
    let one : with_front front (items_at separator item k bytes) ≡ with_front (front ++ x ∷ []) (items_at separator item most next) = rw (e, a, i) (regroup front x (items_at separator item most next)) in
    sym one ∙ so_far

-- no item behind a separator
pub fails_on : {X : Type 0} (separator : List ℕ) (item : List ℕ → Option (X × List ℕ)) (front : List X) (most k : ℕ) (bytes rest : List ℕ) (total : Option (List X × List ℕ))
    → k ≡ suc most → after separator bytes ≡ Some rest → item rest ≡ None
    → with_front front (items_at separator item k bytes) ≡ total → total ≡ None
unfolding items_at
fails_on separator item front most k bytes rest total e a i so_far =
    let one : with_front front (items_at separator item k bytes) ≡ None = rw (e, a, i) refl in
    sym so_far ∙ one

-- no separator more
pub is_done : {X : Type 0} (separator : List ℕ) (item : List ℕ → Option (X × List ℕ)) (front : List X) (k : ℕ) (bytes : List ℕ) (total : Option (List X × List ℕ))
    → after separator bytes ≡ None
    → with_front front (items_at separator item k bytes) ≡ total → total ≡ Some (front, bytes)
unfolding items_at
is_done {X = X} separator item front zero bytes total a so_far = sym so_far ∙ ap (λ (ys : List X). Some (ys, bytes)) (append-nil front)
is_done {X = X} separator item front (suc k) bytes total a so_far =
    let one : with_front front (items_at separator item (suc k) bytes) ≡ Some (front, bytes) = rw a (ap (λ (ys : List X). Some (ys, bytes)) (append-nil front)) in
    sym so_far ∙ one
