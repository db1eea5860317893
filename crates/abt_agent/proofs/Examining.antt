-- What is counted as an agent looks at constraints and nogoods.
use Rattle.std.proofs.Common.{◌≡◌, ℕ, zero, suc, ◌+◌, ◌<◌, Bool, true, false, cond, not, List, [], ◌∷◌, ◌++◌, filter, length, map, take, get_or, slice_get, Option, Some, None, ℤ, Result, Ok, Err, refl, sym, ap, ◌∙◌, subst, arith}
use Rattle.std.specs.Prelude.{IfOk}
use Rattle.std.specs.List.{sum_by}
use Rattle.std.proofs.lemmas.List.{take_more}
use Rattle.std.proofs.lemmas.List.Elements.{filter-append}
use Rattle.std.proofs.lemmas.List.Sums.{sum_by-cons}
use Rattle.dcsp_defs.specs.Words.{is_value}
use Rattle.dcsp_defs.specs.Csp.{Constraint, PartialAssignment, is_violated, with_value, owned}
use Rattle.dcsp_rule.specs.Problems.{Contents, csp_of, constraint_at}
use Rattle.dcsp_problem.specs.Index.{owned_rules}
use Rattle.abt_defs.specs.Agents.{Record}
use Rattle.abt_defs.specs.Reasons.{ruled_out}
use Rattle.abt_defs.specs.Checks as counts
use Rattle.abt_defs.specs.Checks.{up_to, is_decided, checked, constraint_checks, nogood_checks, no_checks, checks_of_values}
use Rattle.abt_reason.specs.Firsts.{IsFirst}
use Rattle.abt_reason.specs.Causes.{is_false, known_at, value_at}
use Rattle.abt_parts.specs.Checked.{sum_of}
use Rattle.abt_agent.specs.Examined.{checks_but, AreLookedAt}
use Rattle.abt_agent.proofs.Causes.{owned_are}

-- ---- lists

map-pairs : {X Y : Type 0} → (f : X → Y) (xs : List X) → map (λ (x : X × Y). x.1) (map (λ (x : X). (x, f x)) xs) ≡ map f xs
map-pairs f [] = refl
map-pairs f (x ∷ xs) = ap (λ l. f x ∷ l) (map-pairs f xs)

take-map : {X Y : Type 0} → (f : X → Y) (n : ℕ) (xs : List X) → take n (map f xs) ≡ map f (take n xs)
take-map f zero xs = refl
take-map f (suc n) [] = refl
take-map f (suc n) (x ∷ xs) = ap (λ l. f x ∷ l) (take-map f n xs)

filter-long : {X Y : Type 0} → (q : Y → Bool) (f : X → Y) (xs : List X) → length (filter q (map f xs)) ≡ length (filter (λ x. q (f x)) xs)
filter-long q f [] = refl
filter-long q f (x ∷ xs) = elim (q (f x)) as (λ b. length (cond b (f x ∷ filter q (map f xs)) (filter q (map f xs))) ≡ length (cond b (x ∷ filter (λ x. q (f x)) xs) (filter (λ x. q (f x)) xs))) [
  | true ↦ ap suc (filter-long q f xs)
  | false ↦ filter-long q f xs
]

up_to-some : {Y : Type 0} → (q : Y → Bool) (f : ℕ → Y) (xs : List ℕ) (at : ℕ) → at < length xs → q (f (get_or xs at 0)) ≡ true → ((j : ℕ) → j < at → q (f (get_or xs j 0)) ≡ false) → up_to q (map f xs) ≡ take (at + 1) (map f xs)
up_to-some q f [] at l t b = absurd (omega arith)
up_to-some q f (x ∷ xs) zero l t b = ap (λ c. f x ∷ cond c [] (up_to q (map f xs))) t
up_to-some q f (x ∷ xs) (suc at) l t b =
    let e : suc at + 1 ≡ suc (at + 1) = omega arith in
    ap (λ c. f x ∷ cond c [] (up_to q (map f xs))) (b 0 (omega arith))
    ∙ ap (λ l. f x ∷ l) (up_to-some q f xs at (omega arith) t (λ j u. b (suc j) (omega arith)))
    ∙ ap (λ n. take n (f x ∷ map f xs)) (sym e)

up_to-none : {Y : Type 0} → (q : Y → Bool) (f : ℕ → Y) (xs : List ℕ) → ((j : ℕ) → j < length xs → q (f (get_or xs j 0)) ≡ false) → up_to q (map f xs) ≡ take (length xs) (map f xs)
up_to-none q f [] b = refl
up_to-none q f (x ∷ xs) b =
    ap (λ c. f x ∷ cond c [] (up_to q (map f xs))) (b 0 (omega arith)) ∙ ap (λ l. f x ∷ l) (up_to-none q f xs (λ j u. b (suc j) (omega arith)))

-- ---- the rules of one value

constraints_are : (p : Contents) (i : ℕ) → map (λ (x : ℕ × Constraint). x.1) (owned (csp_of p) i) ≡ map (constraint_at p) (owned_rules p i)
constraints_are p i = ap (map (λ (x : ℕ × Constraint). x.1)) (owned_are p i) ∙ map-pairs (constraint_at p) (owned_rules p i)

pub some_looked_at : (p : Contents) (i : ℕ) (values : PartialAssignment) (at : ℕ) → IsFirst (is_false p i values) (length (owned_rules p i)) (Some at) → AreLookedAt p i values (at + 1)
some_looked_at p i values at f =
    ap (up_to (is_violated values)) (constraints_are p i) ∙ up_to-some (is_violated values) (constraint_at p) (owned_rules p i) at f.0 f.1 f.2 ∙ ap (take (at + 1)) (sym (constraints_are p i))

pub all_looked_at : (p : Contents) (i : ℕ) (values : PartialAssignment) → IsFirst (is_false p i values) (length (owned_rules p i)) None → AreLookedAt p i values (length (owned_rules p i))
all_looked_at p i values f =
    ap (up_to (is_violated values)) (constraints_are p i) ∙ up_to-none (is_violated values) (constraint_at p) (owned_rules p i) f ∙ ap (take (length (owned_rules p i))) (sym (constraints_are p i))

pub counted : (p : Contents) (i : ℕ) (known : PartialAssignment) (v : ℤ) (end : ℕ) → AreLookedAt p i (with_value i v known) end
    → length (filter (λ r. is_decided (with_value i v known) (constraint_at p r)) (take end (owned_rules p i))) ≡ constraint_checks (csp_of p) i known v
counted p i known v end h =
    let values = with_value i v known in
    sym (filter-long (is_decided values) (constraint_at p) (take end (owned_rules p i)))
    ∙ ap (λ l. length (filter (is_decided values) l)) (sym (take-map (constraint_at p) end (owned_rules p i)) ∙ ap (take end) (sym (constraints_are p i)) ∙ sym h)

-- one rule more
pub one_more : (q : ℕ → Bool) (xs : List ℕ) (i : ℕ) → i < length xs → length (filter q (take (i + 1) xs)) ≡ length (filter q (take i xs)) + cond (q (get_or xs i 0)) 1 0
one_more q xs i l =
    ap (λ t. length (filter q t)) (take_more xs i 0 l) ∙ ap length (filter-append q (take i xs) (get_or xs i 0 ∷ [])) ∙ at_end (filter q (take i xs)) (q (get_or xs i 0)) (get_or xs i 0)
  where
    at_end : (ys : List ℕ) (b : Bool) (x : ℕ) → length (ys ++ cond b (x ∷ []) []) ≡ length ys + cond b 1 0
    at_end [] true x = refl
    at_end [] false x = refl
    at_end (y ∷ ys) b x = let h = at_end ys b x in omega arith

-- ---- the values

pub same_checks : (a b : counts.Checks) → a.constraints ≡ b.constraints → a.nogoods ≡ b.nogoods → a ≡ b
same_checks a b e f =
    let first : counts.Checks = record { constraints = b.constraints; nogoods = a.nogoods } in
    let one : a ≡ first = ap (λ c. let x : counts.Checks = record { constraints = c; nogoods = a.nogoods } in x) e in
    let two : first ≡ b = ap (λ n. let x : counts.Checks = record { constraints = b.constraints; nogoods = n } in x) f in
    one ∙ two

pub sum_none : (a : counts.Checks) → sum_of a no_checks ≡ a
sum_none a = same_checks (sum_of a no_checks) a (omega arith) (omega arith)

pub none_sum : (a : counts.Checks) → sum_of no_checks a ≡ a
none_sum a = same_checks (sum_of no_checks a) a (omega arith) (omega arith)

pub sum_assoc : (a b c : counts.Checks) → sum_of (sum_of a b) c ≡ sum_of a (sum_of b c)
sum_assoc a b c = same_checks (sum_of (sum_of a b) c) (sum_of a (sum_of b c)) (omega arith) (omega arith)

module _ (p : Contents) (i : ℕ) (known : PartialAssignment) (recorded : List Record) where
  -- the checks of one value
  abbrev pub checks_at : ℤ → counts.Checks
  checks_at v = record { constraints = constraint_checks (csp_of p) i known v; nogoods = nogood_checks (csp_of p) i known recorded v }

  looked : ℤ → List ℤ → counts.Checks
  looked v l = record { constraints = sum_by (constraint_checks (csp_of p) i known) (v ∷ l); nogoods = sum_by (nogood_checks (csp_of p) i known recorded) (v ∷ l) }

  looked_is : (v : ℤ) (l : List ℤ) → looked v l ≡ sum_of (checks_at v) (record { constraints = sum_by (constraint_checks (csp_of p) i known) l; nogoods = sum_by (nogood_checks (csp_of p) i known recorded) l })
  unfolding looked
  looked_is v l = same_checks _ _ (sum_by-cons (constraint_checks (csp_of p) i known) v l) (sum_by-cons (nogood_checks (csp_of p) i known recorded) v l)

  -- a value that is free is the last
  pub free_value : (v : ℤ) (vs : List ℤ) → ruled_out (csp_of p) i known recorded v ≡ false → checks_of_values (csp_of p) i known recorded (v ∷ vs) ≡ checks_at v
  unfolding looked
  free_value v vs e = ap (λ b. looked v (cond (not b) [] (up_to (λ w. not (ruled_out (csp_of p) i known recorded w)) vs))) e ∙ looked_is v [] ∙ sum_none (checks_at v)

  pub ruled_value : (v : ℤ) (vs : List ℤ) → ruled_out (csp_of p) i known recorded v ≡ true → checks_of_values (csp_of p) i known recorded (v ∷ vs) ≡ sum_of (checks_at v) (checks_of_values (csp_of p) i known recorded vs)
  unfolding looked
  ruled_value v vs e = ap (λ b. looked v (cond (not b) [] (up_to (λ w. not (ruled_out (csp_of p) i known recorded w)) vs))) e ∙ looked_is v (up_to (λ w. not (ruled_out (csp_of p) i known recorded w)) vs)

  module _ (own : Option ℤ) (v : ℤ) (vs : List ℤ) where
    pub own_value : is_value own v ≡ true → checks_but p i known recorded own (v ∷ vs) ≡ checks_but p i known recorded own vs
    own_value e = ap (λ b. checks_of_values (csp_of p) i known recorded (cond (not b) (v ∷ filter (λ w. not (is_value own w)) vs) (filter (λ w. not (is_value own w)) vs))) e

    other_value : is_value own v ≡ false → checks_but p i known recorded own (v ∷ vs) ≡ checks_of_values (csp_of p) i known recorded (v ∷ filter (λ w. not (is_value own w)) vs)
    other_value e = ap (λ b. checks_of_values (csp_of p) i known recorded (cond (not b) (v ∷ filter (λ w. not (is_value own w)) vs) (filter (λ w. not (is_value own w)) vs))) e

    pub last_other : is_value own v ≡ false → ruled_out (csp_of p) i known recorded v ≡ false → checks_but p i known recorded own (v ∷ vs) ≡ checks_at v
    last_other e f = other_value e ∙ free_value v (filter (λ w. not (is_value own w)) vs) f

    pub one_other : is_value own v ≡ false → ruled_out (csp_of p) i known recorded v ≡ true → checks_but p i known recorded own (v ∷ vs) ≡ sum_of (checks_at v) (checks_but p i known recorded own vs)
    one_other e f = other_value e ∙ ruled_value v (filter (λ w. not (is_value own w)) vs) f

-- what is found for a value, in the agent's own words
pub first_moved : (p q : Contents) (i j : ℕ) (known : PartialAssignment) (k : ℕ) (found r : Option ℕ) → q ≡ p → j ≡ i → IsFirst (is_false q j (known_at q j known k)) (length (owned_rules q j)) found → found ≡ r
    → IsFirst (is_false p i (with_value i (value_at p i k) known)) (length (owned_rules p i)) r
first_moved p q i j known k found r a b f e =
    subst (λ o. IsFirst (is_false p i (with_value i (value_at p i k) known)) (length (owned_rules p i)) o) e
    (subst (λ n. IsFirst (is_false p n (with_value n (value_at p n k) known)) (length (owned_rules p n)) found) b
    (subst (λ c. IsFirst (is_false c j (with_value j (value_at c j k) known)) (length (owned_rules c j)) found) a f))

-- a value that is there has a place
pub get-inside : {X : Type 0} → (xs : List X) (i : ℕ) (x : X) → slice_get xs i ≡ Some x → i < length xs
get-inside [] i x h = cc
get-inside (y ∷ ys) zero x h = omega arith
get-inside (y ∷ ys) (suc i) x h = let r = get-inside ys i x h in omega arith

-- what is told is this too
pub with_ok : {X Y E : Type 0} → (r : Result X E) (f : X → Y) (a b : Y) → IfOk r (λ x. f x ≡ a) → a ≡ b → IfOk r (λ x. f x ≡ b)
with_ok (Ok x) f a b h e = h ∙ e
with_ok (Err y) f a b h e = tt
