-- What is sent to one receiver.
use Rattle.std.proofs.Common.{◌≡◌, ℕ, zero, suc, Bool, true, false, cond, ◌&&◌, inl, inr, List, [], ◌∷◌, ◌++◌, filter, ◌==◌, nat_lt, refl, ap, ◌∙◌, arith, append-nil}
use Rattle.std.proofs.lemmas.Bool.Decides.{nat_tests, eqb_tells}
use Rattle.dcsp_defs.specs.Words.{In, below}
use Rattle.abt_defs.specs.Agents.{Message}
use Rattle.abt_defs.specs.Steps.{to_each}
use Rattle.abt_defs.specs.Network.{sent_to}

pub In-cond : {X : Type 0} → (b : Bool) (x y : X) → In x (cond b (y ∷ []) []) → x ≡ y
In-cond true x y h = elim h [ inl e ↦ e | inr z ↦ absurd z ]
In-cond false x y h = absurd h

-- where an item comes from a list of one or none, the test holds
pub In-cond-true : {X : Type 0} → (b : Bool) (x y : X) → In x (cond b (y ∷ []) []) → b ≡ true
In-cond-true true x y h = refl
In-cond-true false x y h = absurd h

pub sent_to-append : (j : ℕ) (xs ys : List (ℕ × Message)) → sent_to j (xs ++ ys) ≡ sent_to j xs ++ sent_to j ys
sent_to-append j [] ys = refl
sent_to-append j (x ∷ xs) ys = elim (x.0 == j) as (λ b. cond b (x.1 ∷ sent_to j (xs ++ ys)) (sent_to j (xs ++ ys)) ≡ cond b (x.1 ∷ sent_to j xs) (sent_to j xs) ++ sent_to j ys) [
  | true ↦ ap (λ z. x.1 ∷ z) (sent_to-append j xs ys)
  | false ↦ sent_to-append j xs ys
]

filter_more : (q : ℕ → Bool) (xs : List ℕ) (n : ℕ) → filter q (xs ++ n ∷ []) ≡ filter q xs ++ cond (q n) (n ∷ []) []
filter_more q [] n = refl
filter_more q (x ∷ xs) n = elim (q x) as (λ b. cond b (x ∷ filter q (xs ++ n ∷ [])) (filter q (xs ++ n ∷ [])) ≡ cond b (x ∷ filter q xs) (filter q xs) ++ cond (q n) (n ∷ []) []) [
  | true ↦ ap (λ z. x ∷ z) (filter_more q xs n)
  | false ↦ filter_more q xs n
]

to_each-append : (m : Message) (xs ys : List ℕ) → to_each m (xs ++ ys) ≡ to_each m xs ++ to_each m ys
to_each-append m [] ys = refl
to_each-append m (x ∷ xs) ys = ap (λ z. (x, m) ∷ z) (to_each-append m xs ys)

-- one message to each of some agents below n is one to j, if j is among them
pub sent_to-each : (m : Message) (q : ℕ → Bool) (j n : ℕ) → sent_to j (to_each m (filter q (below n))) ≡ cond (nat_lt j n && q j) (m ∷ []) []
sent_to-each m q j zero = let f : nat_lt j 0 ≡ false = grind (arith, nat_tests) in rw f refl
sent_to-each m q j (suc n) =
    ap (λ z. sent_to j (to_each m z)) (filter_more q (below n) n)
    ∙ ap (sent_to j) (to_each-append m (filter q (below n)) (cond (q n) (n ∷ []) []))
    ∙ sent_to-append j (to_each m (filter q (below n))) (to_each m (cond (q n) (n ∷ []) []))
    ∙ ap (λ z. z ++ sent_to j (to_each m (cond (q n) (n ∷ []) []))) (sent_to-each m q j n)
    ∙ last_one
  where
    last_one : cond (nat_lt j n && q j) (m ∷ []) [] ++ sent_to j (to_each m (cond (q n) (n ∷ []) [])) ≡ cond (nat_lt j (suc n) && q j) (m ∷ []) []
    last_one = elim (eqb_tells n j) [
      | inl e ↦ let f : nat_lt j n ≡ false = grind (arith, nat_tests) in let t : nat_lt j (suc n) ≡ true = grind (arith, nat_tests) in
          let same : q n ≡ q j = ap q e.1 in
          rw (f, t, same) (elim (q j) as (λ b. [] ++ sent_to j (to_each m (cond b (n ∷ []) [])) ≡ cond b (m ∷ []) []) [ true ↦ rw e.0 refl | false ↦ refl ])
      | inr e ↦ let t : nat_lt j (suc n) ≡ nat_lt j n = grind (arith, nat_tests) in
          rw t (elim (q n) as (λ b. cond (nat_lt j n && q j) (m ∷ []) [] ++ sent_to j (to_each m (cond b (n ∷ []) [])) ≡ cond (nat_lt j n && q j) (m ∷ []) []) [ true ↦ rw e.0 (append-nil _) | false ↦ append-nil _ ])
    ]
