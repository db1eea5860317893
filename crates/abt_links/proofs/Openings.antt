-- One pair more is opened.
use Rattle.std.proofs.Common.{◌≡◌, ℕ, suc, ◌<◌, Bool, true, false, ◌&&◌, ◌==◌, cond, List, [], ◌∷◌, ◌++◌, length, set, Option, Some, None, refl, sym, ap, ◌∙◌, inl, inr}
use Rattle.std.specs.Prelude.{if◌then◌else◌}
use Rattle.std.specs.List.{position}
use Rattle.std.specs.Option.{option_map}
use Rattle.std.proofs.lemmas.Bool.{cases_eq, eq-eqb, ne_eqb}
use Rattle.std.proofs.lemmas.List.{get_or-set_same, get_or-set_other}
use Rattle.abt_links.specs.Transit.{is_pair}
use Rattle.abt_links.specs.OpenPairs.{Slots, number_in, receivers_of, AreNumbered}
use Rattle.abt_links.proofs.LinkLaws.{pos_cons}

-- the first of two, if there is one
abbrev first_of : Option ℕ → Option ℕ → Option ℕ
first_of None other = other
first_of (Some place) other = Some place

later : (o : Option ℕ) (b : Bool) (n : ℕ) → option_map suc (first_of o (cond b (Some n) None)) ≡ first_of (option_map suc o) (cond b (Some (suc n)) None)
later None true n = refl
later None false n = refl
later (Some place) b n = refl

either : (b : Bool) (o other : Option ℕ) → cond b (Some 0) (first_of o other) ≡ first_of (cond b (Some 0) o) other
either true o other = refl
either false o other = refl

-- the place of the first that passes a test, where one stands behind the others
position_push : (p : ℕ × ℕ → Bool) (xs : List (ℕ × ℕ)) (y : ℕ × ℕ) → position p (xs ++ y ∷ []) ≡ first_of (position p xs) (cond (p y) (Some (length xs)) None)
position_push p [] y = pos_cons p y []
position_push p (x ∷ xs) y =
    pos_cons p x (xs ++ y ∷ []) ∙ ap (λ o. cond (p x) (Some 0) (option_map suc o)) (position_push p xs y)
    ∙ ap (λ o. cond (p x) (Some 0) o) (later (position p xs) (p y) (length xs))
    ∙ either (p x) (option_map suc (position p xs)) (cond (p y) (Some (suc (length xs))) None)
    ∙ ap (λ o. first_of o (cond (p y) (Some (suc (length xs))) None)) (sym (pos_cons p x xs))

-- a pair that is not the last one stands where it stood
position_same : (p : ℕ × ℕ → Bool) (xs : List (ℕ × ℕ)) (y : ℕ × ℕ) → p y ≡ false → position p (xs ++ y ∷ []) ≡ position p xs
position_same p xs y fails = position_push p xs y ∙ ap (λ b. first_of (position p xs) (cond b (Some (length xs)) None)) fails ∙ kept (position p xs) where
  kept : (o : Option ℕ) → first_of o None ≡ o
  kept None = refl
  kept (Some place) = refl

-- a pair that stood nowhere stands last
position_new : (p : ℕ × ℕ → Bool) (xs : List (ℕ × ℕ)) (y : ℕ × ℕ) → position p xs ≡ None → p y ≡ true → position p (xs ++ y ∷ []) ≡ Some (length xs)
position_new p xs y none passes =
    position_push p xs y ∙ ap (λ b. first_of (position p xs) (cond b (Some (length xs)) None)) passes ∙ ap (λ o. first_of o (Some (length xs))) none

and_false : (a b : Bool) → b ≡ false → (a && b) ≡ false
and_false true b e = e
and_false false b e = refl

pub numbered_more : (pairs : List (ℕ × ℕ)) (before senders : List Slots) (receivers : Slots) (from to : ℕ) → AreNumbered pairs before → position (is_pair from to) pairs ≡ None
    → ((k : ℕ) → receivers_of senders k ≡ receivers_of before k) → from < length senders
    → ((i : ℕ) → number_in receivers i ≡ (if i == to then Some (length pairs) else number_in (receivers_of senders from) i))
    → AreNumbered (pairs ++ (from, to) ∷ []) (set senders from receivers)
numbered_more pairs before senders receivers from to numbered none same within added k i = elim (cases_eq k from) [
  | inl here ↦
      let list : receivers_of (set senders from receivers) k ≡ receivers = ap (λ n. receivers_of (set senders from receivers) n) here ∙ get_or-set_same senders from receivers [] within in
      let old : number_in (receivers_of senders from) i ≡ position (is_pair from i) pairs = ap (λ xs. number_in xs i) (same from) ∙ numbered from i in
      ap (λ xs. number_in xs i) list ∙ added i
      ∙ elim (cases_eq i to) [
        | inl last ↦
            ap (λ b. cond b (Some (length pairs)) (number_in (receivers_of senders from) i)) (eq-eqb i to last)
            ∙ sym (ap (λ n. position (is_pair n i) (pairs ++ (from, to) ∷ [])) here ∙ ap (λ n. position (is_pair from n) (pairs ++ (from, to) ∷ [])) last
            ∙ position_new (is_pair from to) pairs (from, to) none (itself from to))
        | inr other ↦
            ap (λ b. cond b (Some (length pairs)) (number_in (receivers_of senders from) i)) (ne_eqb i to other) ∙ old
            ∙ sym (ap (λ n. position (is_pair n i) (pairs ++ (from, to) ∷ [])) here ∙ position_same (is_pair from i) pairs (from, to) (and_false (from == from) (i == to) (ne_eqb i to other)))
      ]
  | inr apart ↦
      ap (λ xs. number_in xs i) (get_or-set_other senders from k receivers [] apart ∙ same k) ∙ numbered k i
      ∙ sym (position_same (is_pair k i) pairs (from, to) (ap (λ b. b && (i == to)) (ne_eqb k from apart)))
]
  where
    itself : (a b : ℕ) → is_pair a b (a, b) ≡ true
    itself a b = ap (λ x. x && (b == b)) (eq-eqb a a refl) ∙ eq-eqb b b refl
