-- Lists that follow a range of numbers, one number more, and texts that were appended one after another.
use Rattle.std.proofs.Common.{◌≡◌, ℕ, ◌+◌, List, [], ◌∷◌, ◌++◌, map, flat_map, filter, drop, length, get_or, add-one, drop-cons, ◌<◌, Bool, true, false, refl, sym, ap, ◌∙◌, append_assoc, append-nil, arith, suc, zero, ◌-◌, ◌≤◌}
use Rattle.std.specs.List.{range_with_len, join_with_byte}
use Rattle.std.proofs.lemmas.Grind.{flat_map-append}
use Rattle.std.proofs.lemmas.List.{map-append}
use Rattle.std.proofs.lemmas.List.Elements.{filter-append}
use Rattle.std.specs.Prelude.{if◌then◌else◌}

-- what was appended after what was appended
pub appended : (old now new first second : List ℕ) → now ≡ old ++ first → new ≡ now ++ second → new ≡ old ++ (first ++ second)
appended old now new first second before after = after ∙ ap (λ (t : List ℕ). t ++ second) before ∙ append_assoc old first second

-- a range that is one longer has one number more at its end
pub range_more : (low count next : ℕ) → low + count ≡ next → range_with_len low (count + 1) ≡ range_with_len low count ++ next ∷ []
range_more low zero next e = let same : low ≡ next = omega (arith, e) in ap (λ n. n ∷ []) same
range_more low (suc count) next e =
    let further : (low + 1) + count ≡ next = omega (arith, e) in
    let shape : suc count + 1 ≡ suc (count + 1) = omega arith in
    rw shape (ap (λ ns. low ∷ ns) (range_more (low + 1) count next further))

-- what is made of each number of it, likewise
pub flat_map_more : {X : Type 0} (make : ℕ → List X) (low count next : ℕ) → low + count ≡ next → flat_map make (range_with_len low (count + 1)) ≡ flat_map make (range_with_len low count) ++ make next
flat_map_more make low count next e =
    ap (flat_map make) (range_more low count next e)
    ∙ flat_map-append make (range_with_len low count) (next ∷ [])
    ∙ ap (λ ys. flat_map make (range_with_len low count) ++ ys) (append-nil (make next))

-- the item of one number more
pub mapped_more : {X : Type 0} (item : ℕ → X) (low count next : ℕ) → low + count ≡ next → map item (range_with_len low (count + 1)) ≡ map item (range_with_len low count) ++ item next ∷ []
mapped_more item low count next e = ap (map item) (range_more low count next e) ∙ map-append item (range_with_len low count) (next ∷ [])

-- what is made of each item that a number gives
pub made_more : {X : Type 0} (make : X → List ℕ) (item : ℕ → X) (low count next : ℕ) → low + count ≡ next
    → flat_map make (map item (range_with_len low (count + 1))) ≡ flat_map make (map item (range_with_len low count)) ++ make (item next)
made_more make item low count next e =
    ap (λ (ns : List ℕ). flat_map make (map item ns)) (range_more low count next e)
    ∙ ap (flat_map make) (map-append item (range_with_len low count) (next ∷ []))
    ∙ flat_map-append make (map item (range_with_len low count)) (item next ∷ [])
    ∙ ap (λ ys. flat_map make (map item (range_with_len low count)) ++ ys) (append-nil (make (item next)))

-- what is made of each of the items that a number gives
pub rows_more : {X : Type 0} (make : X → List ℕ) (items : ℕ → List X) (low count next : ℕ) → low + count ≡ next
    → flat_map make (flat_map items (range_with_len low (count + 1))) ≡ flat_map make (flat_map items (range_with_len low count)) ++ flat_map make (items next)
rows_more make items low count next e =
    ap (flat_map make) (flat_map_more items low count next e) ∙ flat_map-append make (flat_map items (range_with_len low count)) (items next)

-- one piece more, after a byte between
pub join_more : (c : ℕ) (x : List ℕ) (xs : List (List ℕ)) (y : List ℕ) → join_with_byte c ((x ∷ xs) ++ y ∷ []) ≡ join_with_byte c (x ∷ xs) ++ c ∷ y
join_more c x [] y = refl
join_more c x (z ∷ xs) y = ap (λ ys. x ++ c ∷ ys) (join_more c z xs y) ∙ sym (append_assoc x (c ∷ join_with_byte c (z ∷ xs)) (c ∷ y))

-- the pieces of one number more, joined
pub joined_more : (c : ℕ) (make : ℕ → List ℕ) (low count next : ℕ) → low + suc count ≡ next
    → join_with_byte c (map make (range_with_len low (suc count + 1))) ≡ join_with_byte c (map make (range_with_len low (suc count))) ++ c ∷ make next
joined_more c make low count next e =
    ap (λ (ns : List ℕ). join_with_byte c (map make ns)) (range_more low (suc count) next e)
    ∙ ap (join_with_byte c) (map-append make (range_with_len low (suc count)) (next ∷ []))
    ∙ join_more c (make low) (map make (range_with_len (low + 1) count)) (make next)

-- a text that has gained what is made of the numbers before this one gains what is made of this one
pub one_more : (make : ℕ → List ℕ) (old before new : List ℕ) (n : ℕ) → 1 ≤ n → before ≡ old ++ flat_map make (range_with_len 1 (n - 1)) → new ≡ before ++ make n
    → new ≡ old ++ flat_map make (range_with_len 1 (n + 1 - 1))
one_more make old before new n l e f =
    let shape : n + 1 - 1 ≡ (n - 1) + 1 = omega (arith, l) in
    rw (shape, flat_map_more make 1 (n - 1) n (omega (arith, l))) (appended old before new (flat_map make (range_with_len 1 (n - 1))) (make n) e f)

-- those of the numbers that a test keeps, one number more
last_filtered : (test : ℕ → Bool) (n : ℕ) (xs : List ℕ) (b : Bool) → test n ≡ b → (if b then xs ++ n ∷ [] else xs) ≡ xs ++ filter test (n ∷ [])
last_filtered test n xs true e = rw e refl
last_filtered test n xs false e = rw e (sym (append-nil xs))

pub filtered_more : (test : ℕ → Bool) (old new : List ℕ) (kept : Bool) (n : ℕ) → 1 ≤ n → old ≡ filter test (range_with_len 1 (n - 1)) → kept ≡ test n
    → new ≡ (if kept then old ++ n ∷ [] else old) → new ≡ filter test (range_with_len 1 (n + 1 - 1))
filtered_more test old new kept n l e k f =
    let shape : n + 1 - 1 ≡ (n - 1) + 1 = omega (arith, l) in
    let before = range_with_len 1 (n - 1) in
    f ∙ last_filtered test n old kept (sym k)
    ∙ ap (λ (xs : List ℕ). xs ++ filter test (n ∷ [])) e
    ∙ sym (filter-append test before (n ∷ []))
    ∙ ap (filter test) (sym (range_more 1 (n - 1) n (omega (arith, l))) ∙ ap (range_with_len 1) (sym shape))

-- a text that gains what is made of a pair, of those from this place on
pub one_dropped : (make : ℕ × ℕ → List ℕ) (pairs : List (ℕ × ℕ)) (place : ℕ) (before new all : List ℕ) → place < length pairs → before ++ flat_map make (drop place pairs) ≡ all
    → new ≡ before ++ make (get_or pairs place (0, 0)) → new ++ flat_map make (drop (place + 1) pairs) ≡ all
one_dropped make pairs place before new all l e f =
    let x = get_or pairs place (0, 0) in
    let rest = drop (suc place) pairs in
    ap (λ (z : List (ℕ × ℕ)). new ++ flat_map make z) (ap (λ n. drop n pairs) (add-one place))
    ∙ ap (λ (z : List ℕ). z ++ flat_map make rest) f
    ∙ append_assoc before (make x) (flat_map make rest)
    ∙ ap (λ (z : List (ℕ × ℕ)). before ++ flat_map make z) (sym (drop-cons pairs place (0, 0) l))
    ∙ e
