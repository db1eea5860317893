-- The flags of a problem, and what is counted by them.
use Rattle.std.proofs.Common.{◌≡◌, ℕ, zero, suc, ◌+◌, ◌*◌, ◌<◌, ◌≤◌, Bool, cond, ◌&&◌, ◌||◌, not, List, [], ◌∷◌, length, take, slice_get, Some, inl, inr, refl, sym, ap, ◌∙◌, arith}
use Rattle.std.specs.Prelude.{◌==◌}
use Rattle.std.specs.List.{list_any, count_by}
use Rattle.std.proofs.lemmas.List.{take_all}
use Rattle.std.proofs.lemmas.List.Sums.{sum_by-cons}
use Rattle.std.proofs.lemmas.Option.{get_or_from_slice_get}
use Rattle.dcsp_defs.specs.Words.{In, below}
use Rattle.dcsp_defs.specs.Csp.{Csp, Constraint, IsCsp, count}
use Rattle.dcsp_defs.proofs.Lists.{In-below}
use Rattle.dcsp_order.specs.ByRule.{is_among, are_neighbours, degree}
use Rattle.dcsp_order.specs.Taken.{flag_at}
use Rattle.dcsp_order.specs.Shared.{Sets, AreShared, is_in_rows}
use Rattle.dcsp_order.proofs.Flags.{any_more, same_any, rows_are, place_low}

-- the place is set by a constraint
abbrev pub sets_place : ℕ → ℕ → Constraint → Bool
sets_place n place c = is_in_rows n c.scope c.scope place

get_low : {X : Type 0} → (xs : List X) (i : ℕ) (x : X) → slice_get xs i ≡ Some x → i < length xs
get_low [] i x e = cc
get_low (y ∷ ys) zero x e = omega arith
get_low (y ∷ ys) (suc i) x e = let l = get_low ys i x e in omega (arith, l)

-- one rule more
pub shared_more : (p : Csp) (n rule : ℕ) (scope : List ℕ) (c : Constraint) (old new : List Bool) → slice_get p.constraints rule ≡ Some c → scope ≡ c.scope → length old ≡ n * n
    → ((place : ℕ) → place < n * n → flag_at old place ≡ list_any (sets_place n place) (take rule p.constraints)) → Sets (is_in_rows n scope scope) old new
    → (place : ℕ) → place < n * n → flag_at new place ≡ list_any (sets_place n place) (take (rule + 1) p.constraints)
shared_more p n rule scope c old new there is many before sets place l =
    sets.each place (omega (arith, many, l))
    ∙ ap (λ b. b || is_in_rows n scope scope place) (before place l)
    ∙ ap (λ (s : List ℕ). list_any (sets_place n place) (take rule p.constraints) || is_in_rows n s s place) is
    ∙ ap (λ (d : Constraint). list_any (sets_place n place) (take rule p.constraints) || sets_place n place d) (sym (get_or_from_slice_get p.constraints rule c c there))
    ∙ any_more (sets_place n place) p.constraints rule c (get_low p.constraints rule c there)

-- all rules
pub shared_whole : (p : Csp) (n rule : ℕ) (flags : List Bool) → IsCsp p → n ≡ count p → length p.constraints ≤ rule → length flags ≡ n * n
    → ((place : ℕ) → place < n * n → flag_at flags place ≡ list_any (sets_place n place) (take rule p.constraints)) → AreShared p flags
shared_whole p n rule flags good is all many each = record {
  as_many = many ∙ ap (λ m. m * m) is;
  each = λ i k li lk.
      ap (λ m. flag_at flags (i * m + k)) (sym is)
      ∙ each (i * n + k) (place_low n i k (omega (arith, li, is)) (omega (arith, lk, is)))
      ∙ ap (list_any (sets_place n (i * n + k))) (take_all rule p.constraints (omega (arith, all)))
      ∙ same_any (sets_place n (i * n + k)) (λ (c : Constraint). is_among i c.scope && is_among k c.scope) p.constraints
      (λ c j. rows_are n i k c.scope c.scope (omega (arith, lk, is)) (λ v h. let low = (good.constraints c j).inside v h in omega (arith, low, is)));
}

same_count : (f g : ℕ → Bool) (xs : List ℕ) → ((x : ℕ) → In x xs → f x ≡ g x) → count_by f xs ≡ count_by g xs
same_count f g [] same = refl
same_count f g (x ∷ xs) same =
    sum_by-cons (λ y. cond (f y) 1 0) x xs
    ∙ ap (λ b. cond b 1 0 + count_by f xs) (same x (inl refl))
    ∙ ap (λ z. cond (g x) 1 0 + z) (same_count f g xs (λ y i. same y (inr i)))
    ∙ sym (sum_by-cons (λ y. cond (g y) 1 0) x xs)

-- the neighbours that are counted
pub degree_is : (p : Csp) (n : ℕ) (flags : List Bool) (i : ℕ) → AreShared p flags → n ≡ count p → i < count p → count_by (λ k. not (i == k) && flag_at flags (i * n + k)) (below n) ≡ degree p i
degree_is p n flags i are is l =
    ap (λ (m : ℕ). count_by (λ k. not (i == k) && flag_at flags (i * m + k)) (below m)) is
    ∙ same_count (λ k. not (i == k) && flag_at flags (i * count p + k)) (are_neighbours p i) (below (count p))
    (λ k j. ap (λ b. not (i == k) && b) (are.each i k l (In-below (count p) k j)))
