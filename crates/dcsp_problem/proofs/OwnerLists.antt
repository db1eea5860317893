-- The rules that each variable owns, as the code collects them.
use Rattle.std.proofs.Common.{◌≡◌, ℕ, zero, suc, ◌+◌, ◌<◌, Bool, true, false, cond, List, [], ◌∷◌, ◌++◌, map, filter, length, get_or, set, refl, sym, ap, ◌∙◌, arith, rules, inl, inr, ◌⊎◌, subst}
use Rattle.std.specs.Prelude.{All, Option, Some, None, IfSome, slice_index_or}
use Rattle.std.specs.List.{enumerate_from}
use Rattle.std.proofs.lemmas.Bool.Decides.{Decides-eqb, nat_tests}
use Rattle.std.proofs.lemmas.List.{map-append, set-append_left, get_or_append_left, append-nil, length_push, length-map}
use Rattle.std.proofs.Math.Seq.{set-append_seam, get_or-append_seam}
use Rattle.std.proofs.lemmas.List.Elements.{All-cons}
use Rattle.dcsp_defs.specs.Words.{below, is_number}
use Rattle.dcsp_defs.specs.Csp.{Constraint, owns}
use Rattle.dcsp_rule.specs.declared.rule.Rule.{Rule}
use Rattle.dcsp_rule.specs.Rules.{scope_of}
use Rattle.dcsp_rule.specs.Problems.{Contents, constraint_of}
use Rattle.dcsp_problem.specs.Index.{owned_rules}
use Rattle.dcsp_problem.specs.Owners.{last_of, owned_from, owned_among, with_owned}

-- one more scope
abbrev pub one_if : Bool → ℕ → List ℕ
one_if b k = cond b (k ∷ []) []

owned_push_from : (first : ℕ) (xs : List (List ℕ)) (s : List ℕ) (v k : ℕ) → k ≡ first + length xs → owned_from first (xs ++ s ∷ []) v ≡ owned_from first xs v ++ one_if (is_number (last_of s) v) k
owned_push_from first [] s v k e = by_test (is_number (last_of s) v) where
  by_test : (b : Bool) → map (λ (x : ℕ × List ℕ). x.0) (cond b ((first, s) ∷ []) []) ≡ [] ++ one_if b k
  by_test true = let same : first ≡ k = omega arith in ap (λ z. z ∷ []) same
  by_test false = refl
owned_push_from first (x ∷ xs) s v k e = by_test (is_number (last_of x) v) (owned_push_from (first + 1) xs s v k (omega arith)) where
  by_test : (b : Bool) → owned_from (first + 1) (xs ++ s ∷ []) v ≡ owned_from (first + 1) xs v ++ one_if (is_number (last_of s) v) k
      → map (λ (y : ℕ × List ℕ). y.0) (cond b ((first, x) ∷ filter (λ (y : ℕ × List ℕ). is_number (last_of y.1) v) (enumerate_from (first + 1) (xs ++ s ∷ []))) (filter (λ (y : ℕ × List ℕ). is_number (last_of y.1) v) (enumerate_from (first + 1) (xs ++ s ∷ []))))
      ≡ map (λ (y : ℕ × List ℕ). y.0) (cond b ((first, x) ∷ filter (λ (y : ℕ × List ℕ). is_number (last_of y.1) v) (enumerate_from (first + 1) xs)) (filter (λ (y : ℕ × List ℕ). is_number (last_of y.1) v) (enumerate_from (first + 1) xs))) ++ one_if (is_number (last_of s) v) k
  by_test true later = ap (λ z. first ∷ z) later
  by_test false later = later

owned_push : (xs : List (List ℕ)) (s : List ℕ) (v : ℕ) → owned_among (xs ++ s ∷ []) v ≡ owned_among xs v ++ one_if (is_number (last_of s) v) (length xs)
owned_push xs s v = owned_push_from 0 xs s v (length xs) (omega arith)

-- two functions that agree below n
pub map_below : {X : Type 0} → (f g : ℕ → X) (n : ℕ) → ((v : ℕ) → v < n → f v ≡ g v) → map f (below n) ≡ map g (below n)
map_below f g zero h = refl
map_below {X} f g (suc n) h =
    map-append f (below n) (n ∷ [])
    ∙ ap (λ (z : List X). z ++ f n ∷ []) (map_below f g n (λ v l. h v (omega arith)))
    ∙ ap (λ (z : X). map g (below n) ++ z ∷ []) (h n (omega arith))
    ∙ sym (map-append g (below n) (n ∷ []))

pub length-map_below : {X : Type 0} → (f : ℕ → X) (n : ℕ) → length (map f (below n)) ≡ n
length-map_below f zero = refl
length-map_below f (suc n) = let h = length-map_below f n in rw (map-append f (below n) (n ∷ [])) (length_push (map f (below n)) (f n) ∙ (omega arith))

-- the item of each number
pub get_or-map_below : {X : Type 0} → (f : ℕ → X) (n k : ℕ) (d : X) → k < n → get_or (map f (below n)) k d ≡ f k
get_or-map_below f zero k d l = absurd (omega arith)
get_or-map_below {X} f (suc n) k d l =
    let size = length-map_below f n in
    let split : (k < n) ⊎ (k ≡ n) = search rules in
    let apart = map-append f (below n) (n ∷ []) in
    elim split [
      | inl early ↦ rw apart (get_or_append_left (map f (below n)) (f n ∷ []) d k (omega arith) ∙ get_or-map_below f n k d early)
      | inr last ↦
          let at : get_or (map f (below n) ++ f n ∷ []) (length (map f (below n))) d ≡ f n = get_or-append_seam (map f (below n)) (f n) [] d in
          let place : k ≡ length (map f (below n)) = last ∙ sym size in
          rw apart (ap (λ (z : ℕ). get_or (map f (below n) ++ f n ∷ []) z d) place ∙ at ∙ ap f (sym last))
    ]

-- a write at one number
set-map_below : {X : Type 0} → (f g : ℕ → X) (n o : ℕ) (x : X) → o < n → g o ≡ x → ((v : ℕ) → (v ≡ o → ⊥) → f v ≡ g v) → set (map f (below n)) o x ≡ map g (below n)
set-map_below f g zero o x l e h = absurd (omega arith)
set-map_below {X} f g (suc n) o x l e h =
    let size = length-map_below f n in
    let split : (o < n) ⊎ (o ≡ n) = search rules in
    rw (map-append f (below n) (n ∷ []), map-append g (below n) (n ∷ [])) (elim split [
      | inl early ↦
          set-append_left (map f (below n)) (f n ∷ []) o x (omega arith)
          ∙ ap (λ (z : List X). z ++ f n ∷ []) (set-map_below f g n o x early e h)
          ∙ ap (λ (z : X). map g (below n) ++ z ∷ []) (h n (omega arith))
      | inr last ↦
          let place : o ≡ length (map f (below n)) = last ∙ sym size in
          ap (λ (z : ℕ). set (map f (below n) ++ f n ∷ []) z x) place
          ∙ set-append_seam (map f (below n)) (f n) [] x
          ∙ ap (λ (z : List X). z ++ x ∷ []) (map_below f g n (λ v b. h v (omega arith)))
          ∙ ap (λ (z : X). map g (below n) ++ z ∷ []) (sym e ∙ ap g last)
    ])

-- adding a rule to its owner's is one more scope
pub with_owned_is : (xs : List (List ℕ)) (s : List ℕ) (n k : ℕ) → k ≡ length xs → IfSome (last_of s) (λ v. v < n)
    → with_owned (last_of s) k (map (owned_among xs) (below n)) ≡ map (owned_among (xs ++ s ∷ [])) (below n)
with_owned_is xs s n k e = by_owner (last_of s) refl where
  not_owner : (o v : ℕ) → (v ≡ o → ⊥) → is_number (Some o) v ≡ false
  not_owner o v differ = grind (arith, nat_tests)

  by_owner : (o : Option ℕ) → last_of s ≡ o → IfSome o (λ v. v < n) → with_owned o k (map (owned_among xs) (below n)) ≡ map (owned_among (xs ++ s ∷ [])) (below n)
  by_owner None no_owner l =
      map_below (owned_among xs) (owned_among (xs ++ s ∷ [])) n (λ v b.
      sym (owned_push xs s v ∙ ap (λ z. owned_among xs v ++ one_if (is_number z v) (length xs)) no_owner ∙ append-nil (owned_among xs v)))
  by_owner (Some o) is_owner l =
      let there : slice_index_or (map (owned_among xs) (below n)) o [] ≡ owned_among xs o = get_or-map_below (owned_among xs) n o [] l in
      let same : is_number (Some o) o ≡ true = (Decides-eqb o o).1 refl in
      let mine : owned_among (xs ++ s ∷ []) o ≡ owned_among xs o ++ k ∷ [] =
      owned_push xs s o ∙ ap (λ z. owned_among xs o ++ one_if (is_number z o) (length xs)) is_owner ∙ ap (λ z. owned_among xs o ++ one_if z (length xs)) same ∙ ap (λ z. owned_among xs o ++ z ∷ []) (sym e) in
      rw there (set-map_below (owned_among xs) (owned_among (xs ++ s ∷ [])) n o (owned_among xs o ++ k ∷ []) l mine (λ v differ.
      sym (owned_push xs s v
      ∙ ap (λ z. owned_among xs v ++ one_if (is_number z v) (length xs)) is_owner
      ∙ ap (λ z. owned_among xs v ++ one_if z (length xs)) (not_owner o v differ)
      ∙ append-nil (owned_among xs v))))

-- what is read off the scopes is what the definitions say
owned_is_from : (n first v : ℕ) (rs : List Rule) → owned_from first (map (scope_of n) rs) v ≡ map (λ (x : ℕ × Constraint). x.0) (filter (λ (x : ℕ × Constraint). owns v x.1) (enumerate_from first (map (constraint_of n) rs)))
owned_is_from n first v [] = refl
owned_is_from n first v (r ∷ rs) = by_test (is_number (last_of (scope_of n r)) v) (owned_is_from n (first + 1) v rs) where
  by_test : (b : Bool) → owned_from (first + 1) (map (scope_of n) rs) v ≡ map (λ (x : ℕ × Constraint). x.0) (filter (λ (x : ℕ × Constraint). owns v x.1) (enumerate_from (first + 1) (map (constraint_of n) rs)))
      → map (λ (y : ℕ × List ℕ). y.0) (cond b ((first, scope_of n r) ∷ filter (λ (y : ℕ × List ℕ). is_number (last_of y.1) v) (enumerate_from (first + 1) (map (scope_of n) rs))) (filter (λ (y : ℕ × List ℕ). is_number (last_of y.1) v) (enumerate_from (first + 1) (map (scope_of n) rs))))
      ≡ map (λ (x : ℕ × Constraint). x.0) (cond b ((first, constraint_of n r) ∷ filter (λ (x : ℕ × Constraint). owns v x.1) (enumerate_from (first + 1) (map (constraint_of n) rs))) (filter (λ (x : ℕ × Constraint). owns v x.1) (enumerate_from (first + 1) (map (constraint_of n) rs))))
  by_test true later = ap (λ z. first ∷ z) later
  by_test false later = later

pub owned_is : (p : Contents) (v : ℕ) → owned_among (map (scope_of (length p.domains)) p.rules) v ≡ owned_rules p v
owned_is p v = owned_is_from (length p.domains) 0 v p.rules

pub owned_lists_are : (p : Contents) (scopes lists : List (List ℕ)) → scopes ≡ map (scope_of (length p.domains)) p.rules → lists ≡ map (owned_among scopes) (below (length p.domains))
    → lists ≡ map (owned_rules p) (below (length p.domains))
owned_lists_are p scopes lists is made =
    made ∙ ap (λ z. map (owned_among z) (below (length p.domains))) is ∙ map_below _ _ (length p.domains) (λ v l. owned_is p v)

-- the list of one variable
pub owned_at : (p : Contents) (lists : List (List ℕ)) (v : ℕ) (d : List ℕ) → lists ≡ map (owned_rules p) (below (length p.domains)) → v < length p.domains → get_or lists v d ≡ owned_rules p v
owned_at p lists v d is l = ap (λ z. get_or z v d) is ∙ get_or-map_below (owned_rules p) (length p.domains) v d l

owned_from_inside : (first n : ℕ) (v : ℕ) (xs : List (List ℕ)) → n ≡ first + length xs → All (λ r. r < n) (owned_from first xs v)
owned_from_inside first n v [] e = λ j d l. absurd (omega arith)
owned_from_inside first n v (x ∷ xs) e = by_test (is_number (last_of x) v) (owned_from_inside (first + 1) n v xs (omega arith)) where
  by_test : (b : Bool) → All (λ r. r < n) (owned_from (first + 1) xs v)
      → All (λ r. r < n) (map (λ (y : ℕ × List ℕ). y.0) (cond b ((first, x) ∷ filter (λ (y : ℕ × List ℕ). is_number (last_of y.1) v) (enumerate_from (first + 1) xs)) (filter (λ (y : ℕ × List ℕ). is_number (last_of y.1) v) (enumerate_from (first + 1) xs))))
  by_test true later = All-cons (λ r. r < n) first _ (omega arith) later
  by_test false later = later

-- a variable owns rules of the problem
pub owned_inside : (p : Contents) (v : ℕ) → All (λ r. r < length p.rules) (owned_rules p v)
owned_inside p v =
    let size : length (map (scope_of (length p.domains)) p.rules) ≡ length p.rules = length-map p.rules (scope_of (length p.domains)) in
    subst (λ (z : List ℕ). All (λ r. r < length p.rules) z) (owned_is p v) (owned_from_inside 0 (length p.rules) v (map (scope_of (length p.domains)) p.rules) (omega arith))
