-- Rising lists of pairs.
use Rattle.dcsp_defs.specs.declared.nogood.Pair.{Pair}
use Rattle.std.proofs.Common.{◌≡◌, ℕ, zero, suc, ◌+◌, ◌<◌, ◌≤◌, true, ◌⊎◌, inl, inr, List, [], ◌∷◌, ◌++◌, map, filter_map, Option, Some, None, ℤ, refl, sym, ap, subst, arith, append-nil}
use Rattle.std.proofs.lemmas.Bool.Decides.{eqb_tells, Decides-int_eq}
use Rattle.std.specs.List.{cons_option}
use Rattle.dcsp_defs.specs.Words.{In, IsRising, below, is_value}
use Rattle.dcsp_defs.specs.Csp.{Nogood, names}
use Rattle.dcsp_defs.specs.Pairs.{value_at, pair_of, IsRising as PairsRise}
use Rattle.dcsp_defs.proofs.Lists.{In-map, In-filter_map, In-below}
use Rattle.abt_defs.specs.Agents.{Stamped, StampedNogood, plain, lowest}

pub is_value-is : (o : Option ℤ) (v : ℤ) → is_value o v ≡ true → o ≡ Some v
is_value-is None v h = cc
is_value-is (Some w) v h = ap Some ((Decides-int_eq w v).0 h)

pub is-is_value : (o : Option ℤ) (v : ℤ) → o ≡ Some v → is_value o v ≡ true
is-is_value o v e = rw e ((Decides-int_eq v v).1 refl)

-- what the pairs give is a pair
pub value_at-In : (pairs : Nogood) (k : ℕ) (v : ℤ) → value_at pairs k ≡ Some v → In (pair_of k v) pairs
value_at-In [] k v h = cc
value_at-In (y ∷ ys) k v h = elim (eqb_tells k y.var) [
  | inl t ↦ let e : Some y.value ≡ Some v = rw t.0 at h in let f : y.value ≡ v = cc in inl (subst (λ (w : ℤ). pair_of k w ≡ y) f (ap (λ (j : ℕ). pair_of j y.value) t.1))
  | inr t ↦ inr (value_at-In ys k v (rw t.0 at h))
]

-- a pair of a rising list is what it gives
pub In-value_at : (pairs : Nogood) → IsRising (names pairs) → (y : Pair) → In y pairs → value_at pairs y.var ≡ Some y.value
In-value_at [] r y h = absurd h
In-value_at (x ∷ xs) r y (inl e) = elim (eqb_tells y.var x.var) [
  | inl t ↦ rw t.0 (ap (λ (z : Pair). Some z.value) (sym e))
  | inr t ↦ absurd (t.1 (ap (λ (z : Pair). z.var) e))
]
In-value_at (x ∷ xs) r y (inr h) = elim (eqb_tells y.var x.var) [
  | inl t ↦ let l = r.0 y.var (In-map (λ (z : Pair). z.var) y xs h) in let e = t.1 in absurd (omega arith)
  | inr t ↦ rw t.0 (In-value_at xs r.1 y h)
]

pub In-map-from : {X Y : Type 0} → (f : X → Y) (y : Y) (xs : List X) → In y (map f xs) → (x : X) × In x xs × (y ≡ f x)
In-map-from f y [] h = absurd h
In-map-from f y (x ∷ xs) (inl e) = (x, inl refl, e)
In-map-from f y (x ∷ xs) (inr h) = let r = In-map-from f y xs h in (r.0, inr r.1, r.2)

-- a pair of the nogood without stamps has a stamp
pub In-plain : (pairs : StampedNogood) (y : Pair) → In y (plain pairs) → (z : ℕ × Stamped) × In z pairs × (y ≡ pair_of z.0 z.1.value)
In-plain pairs y h = In-map-from (λ (y : ℕ × Stamped). pair_of y.0 y.1.value) y pairs h

pub plain-In : (pairs : StampedNogood) (z : ℕ × Stamped) → In z pairs → In (pair_of z.0 z.1.value) (plain pairs)
plain-In pairs z h = In-map (λ (y : ℕ × Stamped). pair_of y.0 y.1.value) z pairs h

-- ---- what a map of the numbers below n gives

filter_map-more : {X Y : Type 0} → (f : X → Option Y) (xs : List X) (x : X) → filter_map f (xs ++ x ∷ []) ≡ filter_map f xs ++ cons_option (f x) []
filter_map-more f [] x = refl
filter_map-more f (y ∷ ys) x = elim (f y) as (λ o. cons_option o (filter_map f (ys ++ x ∷ [])) ≡ cons_option o (filter_map f ys) ++ cons_option (f x) []) [
  | None ↦ filter_map-more f ys x
  | Some z ↦ ap (λ u. z ∷ u) (filter_map-more f ys x)
]

-- pairs with one more above them rise
rising-more : (xs : StampedNogood) (z : ℕ × Stamped) → IsRising (names (plain xs)) → ((x : ℕ × Stamped) → In x xs → x.0 < z.0) → IsRising (names (plain (xs ++ z ∷ [])))
rising-more [] z r h = (λ y u. absurd u, tt)
rising-more (x ∷ xs) z r h = (above, rising-more xs z r.1 (λ y u. h y (inr u)))
  where
    named : (y : ℕ) (ys : StampedNogood) → In y (names (plain (ys ++ z ∷ []))) → In y (names (plain ys)) ⊎ (y ≡ z.0)
    named y [] (inl e) = inr e
    named y [] (inr u) = absurd u
    named y (w ∷ ws) (inl e) = inl (inl e)
    named y (w ∷ ws) (inr u) = elim (named y ws u) [ inl v ↦ inl (inr v) | inr v ↦ inr v ]

    above : (y : ℕ) → In y (names (plain (xs ++ z ∷ []))) → x.0 < y
    above y u = elim (named y xs u) [ inl v ↦ r.0 y v | inr v ↦ let l = h x (inl refl) in omega arith ]

pub map_rises : (f : ℕ → Option (ℕ × Stamped)) → ((k : ℕ) (y : ℕ × Stamped) → f k ≡ Some y → y.0 ≡ k) → (n : ℕ) → IsRising (names (plain (filter_map f (below n))))
map_rises f own zero = tt
map_rises f own (suc n) = rw (filter_map-more f (below n) n) ((elim (f n) as (λ o. f n ≡ o → IsRising (names (plain (filter_map f (below n) ++ cons_option o [])))) [
  | None ↦ λ e. rw (append-nil (filter_map f (below n))) (map_rises f own n)
  | Some z ↦ λ e. rising-more (filter_map f (below n)) z (map_rises f own n) (λ x u. let r = In-filter_map f x (below n) u in let l = In-below n r.0 r.1 in let q = own r.0 x r.2 in let w = own n z e in omega arith)
]) refl)

-- the last pair of a rising list is its lowest
pub lowest-last : (first : ℕ × Stamped) (rest : StampedNogood) → IsRising (names (plain (first ∷ rest))) → (s : Stamped) × In (lowest first rest, s) (first ∷ rest) × ((y : ℕ × Stamped) → In y (first ∷ rest) → y.0 ≤ lowest first rest)
lowest-last first [] r = (first.1, inl refl, λ y h. elim h [ inl e ↦ let v : y.0 ≡ first.0 = ap (λ (t : ℕ × Stamped). t.0) e in omega arith | inr u ↦ absurd u ])
lowest-last first (next ∷ rest) r =
    let q = lowest-last next rest r.1 in (
      q.0,
      inr q.1,
      λ y h. elim h [
        | inl e ↦ let v : y.0 ≡ first.0 = ap (λ (t : ℕ × Stamped). t.0) e in let l : first.0 < next.0 = r.0 next.0 (inl refl) in let m = q.2 next (inl refl) in omega arith
        | inr u ↦ q.2 y u
      ],
    )

-- pairs whose variables rise, as places say it
pub pairs_rise : (pairs : Nogood) → IsRising (names pairs) → PairsRise pairs
pairs_rise [] r k h = absurd (omega arith)
pairs_rise (x ∷ []) r k h = absurd (omega arith)
pairs_rise (x ∷ y ∷ ys) r zero h = r.0 y.var (inl refl)
pairs_rise (x ∷ y ∷ ys) r (suc k) h = let e : suc k + 1 ≡ suc (k + 1) = omega arith in rw e (pairs_rise (y ∷ ys) r.1 k (omega arith))

-- a variable that no pair names has no value
pub unnamed_none : (pairs : Nogood) (k : ℕ) → ((y : Pair) → In y pairs → y.var ≡ k → ⊥) → value_at pairs k ≡ None
unnamed_none pairs k h = by_value (value_at pairs k) refl
  where
    by_value : (o : Option ℤ) → value_at pairs k ≡ o → value_at pairs k ≡ None
    by_value None e = e
    by_value (Some v) e = absurd (h (pair_of k v) (value_at-In pairs k v e) refl)
