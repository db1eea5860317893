-- The entries so far.
use Rattle.std.proofs.Common.{◌≡◌, ℕ, zero, suc, ◌+◌, ◌<◌, ◌≤◌, ltb, List, [], ◌∷◌, ◌++◌, length, drop, get_or, refl, sym, ap, ◌∙◌, append_assoc, arith}
use Rattle.std.specs.List.{filter}
use Rattle.dcsp_defs.specs.declared.Step.{Step}
use Rattle.dcsp_defs.specs.declared.entry.Entry.{Entry}
use Rattle.dcsp_defs.specs.declared.entry.Entry.TheVariants.{Step as A_step}
use Rattle.ngd_rewrite.specs.Upgrade.{end_of, numbers, ending, as_deletion, deletion_after, upgraded_from, deleted_count}
use Rattle.ngd_rewrite.proofs.Numbers.{count_split, count_most, length-numbers}

-- what is left with one step less
pub left_next : (steps : List Step) (place : ℕ) (step : Step) → place + 1 < length steps → step ≡ get_or steps place step
    → upgraded_from steps (place + 1) (drop place steps) ≡ A_step step ∷ (as_deletion (ending steps (place + 1)) ++ upgraded_from steps (place + 1 + 1) (drop (place + 1) steps))
left_next steps place step lt is =
    ap (upgraded_from steps (place + 1)) (dropped steps place step (omega (arith, lt)) is)
    ∙ ap (λ (es : List Entry). A_step step ∷ (es ++ upgraded_from steps (place + 1 + 1) (drop (place + 1) steps))) (some_left (drop (place + 1) steps) (left steps (place + 1) lt))
  where
    dropped : (xs : List Step) (n : ℕ) (x : Step) → n < length xs → x ≡ get_or xs n x → drop n xs ≡ x ∷ drop (n + 1) xs
    dropped [] n x lt is = absurd (omega (arith, lt))
    dropped (y ∷ xs) zero x lt is = ap (λ (z : Step). z ∷ xs) (sym is)
    dropped (y ∷ xs) (suc n) x lt is = let e : suc n + 1 ≡ suc (n + 1) = omega arith in rw e (dropped xs n x (omega (arith, lt)) is)

    left : (xs : List Step) (n : ℕ) → n < length xs → 0 < length (drop n xs)
    left [] n lt = absurd (omega (arith, lt))
    left (y ∷ xs) zero lt = omega arith
    left (y ∷ xs) (suc n) lt = left xs n (omega (arith, lt))

    some_left : (others : List Step) → 0 < length others → deletion_after steps (place + 1) others ≡ as_deletion (ending steps (place + 1))
    some_left [] lt = absurd (omega (arith, lt))
    some_left (o ∷ others) lt = refl

-- the entries so far with a step and its deletion
pub entries_more : (steps : List Step) (place : ℕ) (step : Step) (into one two all : List Entry) (group : List ℕ) → place + 1 < length steps → step ≡ get_or steps place step
    → into ++ upgraded_from steps (place + 1) (drop place steps) ≡ all → one ≡ into ++ A_step step ∷ [] → two ≡ one ++ as_deletion group → group ≡ ending steps (place + 1)
    → two ++ upgraded_from steps (place + 1 + 1) (drop (place + 1) steps) ≡ all
entries_more steps place step into one two all group lt is so_far e f g =
    let rest = upgraded_from steps (place + 1 + 1) (drop (place + 1) steps) in
    ap (λ (es : List Entry). es ++ rest) (f ∙ ap (λ (es : List Entry). es ++ as_deletion group) e)
    ∙ ap (λ (ns : List ℕ). ((into ++ A_step step ∷ []) ++ as_deletion ns) ++ rest) g
    ∙ append_assoc (into ++ A_step step ∷ []) (as_deletion (ending steps (place + 1))) rest
    ∙ append_assoc into (A_step step ∷ []) (as_deletion (ending steps (place + 1)) ++ rest)
    ∙ ap (λ (es : List Entry). into ++ es) (sym (left_next steps place step lt is)) ∙ so_far

-- how many are deleted so far
pub deleted_more : (steps : List Step) (place : ℕ) (step : Step) (deleted all : ℕ) (group : List ℕ) → place + 1 < length steps → step ≡ get_or steps place step
    → deleted + deleted_count (upgraded_from steps (place + 1) (drop place steps)) ≡ all → group ≡ ending steps (place + 1)
    → deleted + length group + deleted_count (upgraded_from steps (place + 1 + 1) (drop (place + 1) steps)) ≡ all
deleted_more steps place step deleted all group lt is so_far g =
    let rest = upgraded_from steps (place + 1 + 1) (drop (place + 1) steps) in
    let one : deleted_count (upgraded_from steps (place + 1) (drop place steps)) ≡ length group + deleted_count rest =
    ap deleted_count (left_next steps place step lt is) ∙ ap (λ (ns : List ℕ). deleted_count (as_deletion ns ++ rest)) (sym g) ∙ counted group in
    omega (arith, so_far, one)
  where
    counted : (ns : List ℕ) → deleted_count (as_deletion ns ++ upgraded_from steps (place + 1 + 1) (drop (place + 1) steps)) ≡ length ns + deleted_count (upgraded_from steps (place + 1 + 1) (drop (place + 1) steps))
    counted [] = omega arith
    counted (n ∷ ns) = refl

-- no more than those that ended
pub few_more : (steps : List Step) (k deleted : ℕ) (group : List ℕ) → deleted ≤ length (filter (λ number. ltb (end_of steps number) k) (numbers (length steps))) → group ≡ ending steps k
    → deleted + length group ≤ length (filter (λ number. ltb (end_of steps number) (k + 1)) (numbers (length steps)))
few_more steps k deleted group few g =
    let split = count_split (end_of steps) k (numbers (length steps)) in
    let same = ap length g in
    omega (arith, few, split, same)

-- nor than the steps
pub few_most : (steps : List Step) (k : ℕ) → length (filter (λ number. ltb (end_of steps number) k) (numbers (length steps))) ≤ length steps
few_most steps k =
    let a = count_most (λ number. ltb (end_of steps number) k) (numbers (length steps)) in
    let b = length-numbers (length steps) in
    omega (arith, a, b)

-- an item of the front
pub item_of_front : (xs front : List Step) (last : Step) (i : ℕ) (d : Step) → xs ≡ front ++ last ∷ [] → i < length front → get_or xs i d ≡ get_or front i d
item_of_front xs front last i d e lt = ap (λ (ys : List Step). get_or ys i d) e ∙ in_front front i lt
  where
    in_front : (ys : List Step) (j : ℕ) → j < length ys → get_or (ys ++ last ∷ []) j d ≡ get_or ys j d
    in_front [] j lt = absurd (omega (arith, lt))
    in_front (y ∷ ys) zero lt = refl
    in_front (y ∷ ys) (suc j) lt = in_front ys j (omega (arith, lt))
