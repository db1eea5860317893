-- Places and numbers of literals.
use Rattle.std.proofs.Common.{◌≡◌, ℕ, ◌<◌, ◌≤◌, ◌+◌, ◌-◌, inl, inr, Bool, true, false, sym, refl, ap, ◌∙◌, subst, arith, suc}
use Rattle.std.specs.Prelude.{ℤ, pos, negsuc, neg_ℤ, nat_lt, if◌then◌else◌}
use Rattle.std.proofs.lemmas.Bool.{cases_lt}
use Rattle.std.proofs.lemmas.Bool.Decides.{nat_tests}
use Rattle.std.specs.Prelude.{Result, Ok, Err, OnOk, OnErr, List, [], ◌∷◌, ◌++◌, map, length, ◌^◌}
use Rattle.std.proofs.Common.{get_or}
use Rattle.std.specs.List.{Contains, All}
use Rattle.std.proofs.lemmas.List.{map-append, length-map}
use Rattle.std.proofs.lemmas.List.Elements.{All-contains, Contains-push_cases, All-map}
use Rattle.std.proofs.Common.{length-append}
use Rattle.rup_check.specs.Literals.{IsLiteral}
use Rattle.rup_check.specs.Stored.{number_at, place_of, AreStored}
use Rattle.rup_check.proofs.PropagationLaws.{contains_map, contains_cons, contains_head, contains_nil}
use Rattle.rup_check.specs.Assignments.{flipped}

low_test : (x : ℕ) → x < 4096 → nat_lt x 4096 ≡ true
low_test x l = grind (arith, nat_tests)

high_test : (x : ℕ) → 4096 ≤ x → nat_lt x 4096 ≡ false
high_test x l = grind (arith, nat_tests)

number_low : (x : ℕ) → x < 4096 → number_at x ≡ negsuc (4095 - x)
number_low x l = ap (λ (b : Bool). if b then negsuc (4095 - x) else pos (x - 4095)) (low_test x l)

number_high : (x : ℕ) → 4096 ≤ x → number_at x ≡ pos (x - 4095)
number_high x l = ap (λ (b : Bool). if b then negsuc (4095 - x) else pos (x - 4095)) (high_test x l)

neg_pos : (m n : ℕ) → m ≡ suc n → neg_ℤ (pos m) ≡ negsuc n
neg_pos m n e = ap (λ z. neg_ℤ (pos z)) e

pub number_flipped : (x : ℕ) → x ≤ 8191 → number_at (flipped x) ≡ neg_ℤ (number_at x)
number_flipped x l =
    (elim (cases_lt x 4096) [
      | inl a ↦ (let h : 4096 ≤ flipped x = omega arith in let e : flipped x - 4095 ≡ suc (4095 - x) = omega arith in number_high (flipped x) h ∙ ap pos e ∙ sym (ap neg_ℤ (number_low x a)))
      | inr a ↦ (let h : flipped x < 4096 = omega arith in let e : x - 4095 ≡ suc (4095 - flipped x) = omega arith in number_low (flipped x) h ∙ sym (neg_pos (x - 4095) (4095 - flipped x) e) ∙ sym (ap neg_ℤ (number_high x a)))
    ])

pub number_apart : (x y : ℕ) → x ≤ 8191 → y ≤ 8191 → number_at x ≡ number_at y → x ≡ y
number_apart x y l m e =
    (elim (cases_lt x 4096) [
      | inl a ↦ (elim (cases_lt y 4096) [
        | inl b ↦ (let f : negsuc (4095 - x) ≡ negsuc (4095 - y) = sym (number_low x a) ∙ e ∙ number_low y b in let g : 4095 - x ≡ 4095 - y = cc in omega arith)
        | inr b ↦ (let f : negsuc (4095 - x) ≡ pos (y - 4095) = sym (number_low x a) ∙ e ∙ number_high y b in cc)
      ])
      | inr a ↦ (elim (cases_lt y 4096) [
        | inl b ↦ (let f : pos (x - 4095) ≡ negsuc (4095 - y) = sym (number_high x a) ∙ e ∙ number_low y b in cc)
        | inr b ↦ (let f : pos (x - 4095) ≡ pos (y - 4095) = sym (number_high x a) ∙ e ∙ number_high y b in let g : x - 4095 ≡ y - 4095 = cc in omega arith)
      ])
    ])

-- no place is that of 0
pub number_sign : (x : ℕ) → number_at x ≡ pos 0 → ⊥
number_sign x e = (elim (cases_lt x 4096) [
  | inl a ↦ (let f : negsuc (4095 - x) ≡ pos 0 = sym (number_low x a) ∙ e in cc)
  | inr a ↦ (let f : pos (x - 4095) ≡ pos 0 = sym (number_high x a) ∙ e in let g : x - 4095 ≡ 0 = cc in omega arith)
])

-- a literal's place holds it
pub number_place : (z : ℤ) → IsLiteral z → number_at (place_of z) ≡ z
number_place (pos n) i = (let p : 0 < n = i.positive in let h : 4096 ≤ 4095 + n = omega arith in let e : 4095 + n - 4095 ≡ n = omega arith in number_high (4095 + n) h ∙ ap pos e)
number_place (negsuc n) i = (let b : suc n ≤ 4096 = i.bounded in let h : 4095 - n < 4096 = omega arith in let e : 4095 - (4095 - n) ≡ n = omega arith in number_low (4095 - n) h ∙ ap negsuc e)

pub place_small : (z : ℤ) → IsLiteral z → place_of z ≤ 8191
place_small (pos n) i = (let b : n ≤ 4096 = i.bounded in omega arith)
place_small (negsuc n) i = omega arith

numbers_places : (zs : List ℤ) → ((z : ℤ) → Contains zs z → IsLiteral z) → map number_at (map place_of zs) ≡ zs
numbers_places [] h = refl
numbers_places (z ∷ zs) h = ap (λ w. w ∷ map number_at (map place_of zs)) (number_place z (h z (contains_head z zs))) ∙ ap (λ w. z ∷ w) (numbers_places zs (λ y m. h y (contains_cons z zs y m)))

-- a clause more, in numbers
pub pushed_numbers : (old new : List (List ℕ)) (zs : List ℤ) → All IsLiteral zs → new ≡ old ++ map place_of zs ∷ [] → map (map number_at) new ≡ map (map number_at) old ++ zs ∷ []
pushed_numbers old new zs h e = ap (map (map number_at)) e ∙ map-append (map number_at) old (map place_of zs ∷ []) ∙ ap (λ w. map (map number_at) old ++ w ∷ []) (numbers_places zs (λ z m. All-contains IsLiteral zs z h m))

stored_more : (old : List (List ℕ)) (zs : List ℤ) → All IsLiteral zs → AreStored old → length (map (map number_at) old) < 2 ^ 32 → AreStored (old ++ map place_of zs ∷ [])
stored_more old zs h s room = record {
  places = λ clause x c m. (elim (Contains-push_cases old (map place_of zs) clause c) [
    | inl o ↦ s.places clause x o m
    | inr n ↦ (let r = contains_map place_of zs x (subst (λ w. Contains w x) (sym n) m) in subst (λ y. y ≤ 8191) r.2 (place_small r.0 (All-contains IsLiteral zs r.0 h r.1)))
  ]);
  count = omega (arith, length-append old (map place_of zs ∷ []), room, length-map old (map number_at));
}

pub stored_added : {A B : Type 0} (r : Result A B) (old new : List (List ℕ)) (zs : List ℤ) → All IsLiteral zs → AreStored old → length (map (map number_at) old) < 2 ^ 32 → OnOk r (new ≡ old ++ map place_of zs ∷ []) → OnErr r (new ≡ old) → AreStored new
stored_added (Ok x) old new zs h s room e n = subst AreStored (sym e) (stored_more old zs h s room)
stored_added (Err x) old new zs h s room e n = subst AreStored (sym n) s

pub stored_none : AreStored []
stored_none = record { places = λ clause x c m. absurd (contains_nil clause c); count = omega arith }

pub length_numbered : (clauses : List (List ℕ)) → length (map (map number_at) clauses) ≡ length clauses
length_numbered clauses = length-map clauses (map number_at)

pub places_small : (zs : List ℤ) → All IsLiteral zs → All (λ x. x ≤ 8191) (map place_of zs)
places_small zs h = All-map (λ x. x ≤ 8191) place_of zs (λ k d l. place_small (get_or zs k d) (h k d l))
