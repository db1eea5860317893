-- The variables of scopes, rule by rule, and in order of variables.
use Rattle.std.proofs.Common.{◌≡◌, ℕ, suc, ◌^◌, ◌+◌, ◌-◌, ◌<◌, ◌≤◌, true, List, [], ◌∷◌, ◌++◌, length, get_or, map, drop, refl, sym, ap, subst, ◌∙◌, arith, below_more, inl, inr, All, Contains, IsPermutation, ◌⊎◌}
use Rattle.std.specs.List.{enumerate_from, slice_range}
use Rattle.std.proofs.lemmas.Bool.{cases_eq, eqb-true, cases_lt}
use Rattle.std.proofs.lemmas.List.{length-map, get_or-map, get_or-take, get_or-drop, length-take, length-drop, get_or_default}
use Rattle.std.proofs.lemmas.List.Sums.{length-filter, count_by-le-length}
use Rattle.std.proofs.lemmas.List.Elements.{Contains-append_left, Contains-append_right, All-append}
use Rattle.std.proofs.lemmas.List.Sorted.{Contains-permutation, All-permutation}
use Rattle.std.proofs.lemmas.Map.Views.{Contains-from_any}
use Rattle.dcsp_problem.specs.WellFormed.{IsProblem}
use Rattle.dcsp_problem.specs.Index.{owned_rules}
use Rattle.dcsp_defs.specs.Csp.{Constraint, IsConstraint, owned, owns}
use Rattle.abt_defs.specs.Agents.{is_among}
use Rattle.dcsp_rule.specs.Problems.{Contents, csp_of, constraint_of, constraint_at}
use Rattle.abt_reason.specs.declared.named.Naming.{Naming}
use Rattle.abt_reason.specs.Named.{naming, BeginsAt, ListsScopes}

-- each variable of a scope is listed
scope_listed : (place var : ℕ) (scope : List ℕ) → is_among var scope ≡ true → Contains (map (naming place) scope) (naming place var)
scope_listed place var scope among =
    let found : Contains scope var = Contains-from_any (λ x y e. eqb-true x y e) var scope among in
    let k = found.0 in
    let inside = found.1 in (
      k,
      omega (arith, length-map scope (naming place), inside),
      get_or-map (naming place) scope k var (naming place var) inside ∙ ap (naming place) found.2,
    )

places_of : (place : ℕ) (scope : List ℕ) → All (λ (n : Naming). n.place < place + 1) (map (naming place) scope)
places_of place scope k d inside =
    let below : k < length scope = omega (arith, length-map scope (naming place), inside) in
    subst (λ (n : Naming). n.place < place + 1) (sym (get_or-map (naming place) scope k 0 d below)) (omega arith)

-- one rule more
pub one_listed : (p : Contents) (numbers : List ℕ) (namings new : List Naming) (place : ℕ) → ListsScopes p numbers namings place → IsConstraint (csp_of p) (constraint_at p (get_or numbers place 0))
    → new ≡ namings ++ map (naming place) (constraint_at p (get_or numbers place 0)).scope → ListsScopes p numbers new (place + 1)
one_listed p numbers namings new place listed next is =
    let scope : List ℕ = (constraint_at p (get_or numbers place 0)).scope in
    let added : List Naming = map (naming place) scope in
    subst (λ (ns : List Naming). ListsScopes p numbers ns (place + 1)) (sym is) (record {
      within = All-append (λ (n : Naming). n.place < place + 1) namings added (λ k d inside. let low = listed.within k d inside in omega arith) (places_of place scope);
      complete = λ j var l among. elim (cases_eq j place) [
        | inl same ↦ subst (λ n. Contains (namings ++ added) (naming n var)) (sym same) (Contains-append_right namings added (naming place var) (scope_listed place var scope (subst (λ n. is_among var (constraint_at p (get_or numbers n 0)).scope ≡ true) same among)))
        | inr other ↦ Contains-append_left namings added (naming j var) (listed.complete j var (omega arith) among)
      ];
      constraints = below_more (λ j. IsConstraint (csp_of p) (constraint_at p (get_or numbers j 0))) place listed.constraints next;
    })

pub none_listed : (p : Contents) (numbers : List ℕ) → ListsScopes p numbers [] 0
none_listed p numbers = record {
  within = λ k d inside. absurd (omega arith);
  complete = λ j var l among. absurd (omega arith);
  constraints = λ j l. absurd (omega arith);
}

-- the same in another order
pub listed_again : (p : Contents) (numbers : List ℕ) (namings new : List Naming) (count : ℕ) → IsPermutation namings new → ListsScopes p numbers namings count → ListsScopes p numbers new count
listed_again p numbers namings new count same listed = record {
  within = All-permutation (λ (n : Naming). n.place < count) namings new same listed.within;
  complete = λ j var l among. Contains-permutation namings new (naming j var) same (listed.complete j var l among);
  constraints = listed.constraints;
}

-- what stands in a part stands in the whole
pub part_of : (xs : List Naming) (start end : ℕ) → end ≤ length xs → All (Contains xs) (slice_range xs start end)
part_of xs start end within k d inside =
    let size = length-take (end - start) (drop start xs) in
    let rest = length-drop start xs in
    let below : k < end - start = omega (arith, size, inside) in
    let there : start + k < length xs = omega (arith, below, within) in
    let x = get_or (slice_range xs start end) k d in
    (start + k, there, get_or_default xs (start + k) x d there ∙ sym (get_or-take (end - start) (drop start xs) k d below ∙ get_or-drop start xs k d))

-- what stands in the whole, between the ends, stands in the part
pub in_part : (xs : List Naming) (start end : ℕ) (x : Naming) (k : ℕ) → end ≤ length xs → start ≤ k → k < end → get_or xs k x ≡ x → Contains (slice_range xs start end) x
in_part xs start end x k within low high is =
    let size = length-take (end - start) (drop start xs) in
    let rest = length-drop start xs in
    let place : ℕ = k - start in
    let below : place < end - start = omega (arith, low, high) in
    let back : start + place ≡ k = omega (arith, low) in
    (place, omega (arith, size, rest, below, within), get_or-take (end - start) (drop start xs) place x below ∙ get_or-drop start xs place x ∙ ap (λ n. get_or xs n x) back ∙ is)

module _ (xs : List Naming) (var start end : ℕ) (low : (k : ℕ) (d : Naming) → k < start → (get_or xs k d).var < var) (high : (k : ℕ) (d : Naming) → end ≤ k → k < length xs → var < (get_or xs k d).var) where
  -- what names the variable stands between
  pub all_between : (place : ℕ) → end ≤ length xs → Contains xs (naming place var) → Contains (slice_range xs start end) (naming place var)
  all_between place ends found =
      let x = naming place var in
      let k : ℕ = found.0 in
      let inside : k < length xs = found.1 in
      let same : (get_or xs k x).var ≡ var = ap (λ (n : Naming). n.var) found.2 in
      let begun : start ≤ k = elim (cases_lt k start) [ inl less ↦ absurd (let below = low k x less in omega (arith, below, same)) | inr fine ↦ omega arith ] in
      let open_yet : k < end = elim (cases_lt k end) [ inl less ↦ less | inr past ↦ absurd (let above = high k x (omega arith) inside in omega (arith, above, same)) ] in
      in_part xs start end x k ends begun open_yet found.2

length-enumerate_from : {X : Type 0} (n : ℕ) (xs : List X) → length (enumerate_from n xs) ≡ length xs
length-enumerate_from n [] = refl
length-enumerate_from n (x ∷ xs) = ap suc (length-enumerate_from (n + 1) xs)

-- an agent owns no more rules than there are
pub owned_few : (p : Contents) (agent : ℕ) → IsProblem p → length (owned_rules p agent) < 2 ^ 32
owned_few p agent problem =
    let all = enumerate_from 0 (csp_of p).constraints in
    let few = problem.few_rules in
    let mapped = length-map (owned (csp_of p) agent) (λ (x : ℕ × Constraint). x.0) in
    let kept = length-filter (λ (x : ℕ × Constraint). owns agent x.1) all in
    let most = count_by-le-length (λ (x : ℕ × Constraint). owns agent x.1) all in
    let size = length-enumerate_from 0 (csp_of p).constraints in
    let rules = length-map p.rules (constraint_of (length p.domains)) in
    omega (arith, mapped, kept, most, size, rules, few)

-- the next variable begins no earlier
pub in_order : (namings : List Naming) (var a b : ℕ) → BeginsAt namings var a → BeginsAt namings (var + 1) b → a ≤ b
in_order namings var a b this next = by_order (cases_lt b a) where
  by_order : (b < a) ⊎ (a ≤ b) → a ≤ b
  by_order (inr l) = l
  by_order (inl l) =
      let d = naming 0 0 in
      let inside : b < length namings = omega (arith, l, this.within) in
      let low = this.before b d l in
      let high = next.after b d (omega arith) inside in
      absurd (omega (arith, low, high))
