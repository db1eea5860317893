-- Names that are compared eight bytes at a time.
use Rattle.std.proofs.Common.{if◌then◌else◌, inl, inr, ◌≡◌, ◌<◌, ◌≤◌, ◌+◌, ◌-◌, ℕ, List, length, take, drop, arith, refl, sym, ap, ◌∙◌, ⊎_elim}
use Rattle.std.specs.Int.{from_le_bytes, w64}
use Rattle.std.proofs.Math.ListN.{get_or}
use Rattle.std.proofs.Math.Seq.{length-take-le}
use Rattle.std.proofs.lemmas.Bool.{cases_lt, lt-ltb}
use Rattle.std.proofs.lemmas.List.{ext_get_or, get_or-drop, get_or-take, get_or_past, length-drop, length-take}
use Rattle.std.proofs.lemmas.Nat.{le_bytes_8}
use Rattle.fzn_scope.specs.Names.{AreEightSame}
use Rattle.fzn_scope.specs.Variables.{AreBytes, key_of, number_at, HasKey}

-- lists of eight bytes that are one number are the same
eight_same : (xs ys : List ℕ) → length xs ≡ 8 → length ys ≡ 8 → AreBytes xs → AreBytes ys → from_le_bytes w64 xs ≡ from_le_bytes w64 ys → xs ≡ ys
eight_same xs ys xs_long ys_long xs_bytes ys_bytes same =
    sym (le_bytes_8 xs (from_le_bytes w64 xs) xs_long xs_bytes refl) ∙ le_bytes_8 ys (from_le_bytes w64 xs) ys_long ys_bytes same

-- the bytes of a part are bytes
part_bytes : (xs : List ℕ) (at : ℕ) → AreBytes xs → AreBytes (take 8 (drop at xs))
part_bytes xs at bytes i = ⊎_elim {A = i < 8} {B = 8 ≤ i}
    (λ inside. rw (get_or-take 8 (drop at xs) i 0 inside, get_or-drop at xs i 0) (bytes (at + i)))
    (λ past. rw (get_or_past (take 8 (drop at xs)) i 0 (rw (length-take 8 (drop at xs)) (omega (arith, past)))) (omega arith))
    (cases_lt i 8)

-- the eight bytes from a place on are so many
part_long : (xs : List ℕ) (at : ℕ) → at + 8 ≤ length xs → length (take 8 (drop at xs)) ≡ 8
part_long xs at within = length-take-le 8 (drop at xs) (rw (length-drop at xs) (omega arith))

-- eight bytes from a place on that are one number are the same
pub numbers_same : (xs ys : List ℕ) (at : ℕ) → AreBytes xs → AreBytes ys → at + 8 ≤ length xs → at + 8 ≤ length ys → from_le_bytes w64 (take 8 (drop at xs)) ≡ from_le_bytes w64 (take 8 (drop at ys)) → AreEightSame xs ys at
numbers_same xs ys at xs_bytes ys_bytes xs_long ys_long same i from below =
    let parts = eight_same (take 8 (drop at xs)) (take 8 (drop at ys)) (part_long xs at xs_long) (part_long ys at ys_long) (part_bytes xs at xs_bytes) (part_bytes ys at ys_bytes) same in
    let inside : i - at < 8 = omega arith in
    let place : at + (i - at) ≡ i = omega arith in
    let read = ap (λ l. get_or l (i - at) 0) parts in
    rw (get_or-take 8 (drop at xs) (i - at) 0 inside, get_or-take 8 (drop at ys) (i - at) 0 inside, get_or-drop at xs (i - at) 0, get_or-drop at ys (i - at) 0, place) at read

-- the middle bytes of a name of more than 16
middle_of : (xs : List ℕ) → 16 < length xs → (key_of xs).middle ≡ number_at xs 8
middle_of xs long = ap (λ b. number_at xs (if b then 8 else 0)) (lt-ltb 16 (length xs) long)

-- names of 8 to 24 bytes with the same key have the same bytes
each_same : (xs ys : List ℕ) → AreBytes xs → AreBytes ys → HasKey xs → length xs ≡ length ys → key_of xs ≡ key_of ys → (i : ℕ) → i < length xs → get_or xs i 0 ≡ get_or ys i 0
each_same xs ys xs_bytes ys_bytes has long same i below = elim (cases_lt i 8) as (λ _. get_or xs i 0 ≡ get_or ys i 0) [
  | inl early ↦ numbers_same xs ys 0 xs_bytes ys_bytes (omega (arith, has)) (omega (arith, has, long)) (ap (λ key. key.first) same) i (omega arith) (omega (arith, early))
  | inr past ↦ elim (cases_lt i (length xs - 8)) as (λ _. get_or xs i 0 ≡ get_or ys i 0) [
    | inl within ↦
        let xs_long : 16 < length xs = omega (arith, past, within) in
        let ys_long : 16 < length ys = omega (arith, xs_long, long) in
        let middles = sym (middle_of xs xs_long) ∙ ap (λ key. key.middle) same ∙ middle_of ys ys_long in
        numbers_same xs ys 8 xs_bytes ys_bytes (omega (arith, xs_long)) (omega (arith, ys_long)) middles i past (omega (arith, within, has))
    | inr late ↦
        let ends : number_at xs (length xs - 8) ≡ number_at ys (length xs - 8) = ap (λ key. key.last) same ∙ ap (λ n. number_at ys (n - 8)) (sym long) in
        numbers_same xs ys (length xs - 8) xs_bytes ys_bytes (omega (arith, has)) (omega (arith, has, long)) ends i late (omega (arith, below, has))
  ]
]

-- names of 8 to 24 bytes with the same key are the same
pub keys_same : (xs ys : List ℕ) → AreBytes xs → AreBytes ys → HasKey xs → length xs ≡ length ys → key_of xs ≡ key_of ys → xs ≡ ys
keys_same xs ys xs_bytes ys_bytes has long same = ext_get_or 0 xs ys long (each_same xs ys xs_bytes ys_bytes has long same)
