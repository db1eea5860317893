-- A problem limited to the rules that a refutation cites has no solution.
use Rattle.std.proofs.Common.{◌≡◌, ℕ, zero, suc, ◌+◌, ◌<◌, ◌==◌, Bool, true, false, cond, ◌||◌, List, [], ◌∷◌, length, take, slice_get, filter_map, Option, Some, None, MatchOption, ℤ, inl, inr, refl, sym, ap, ◌∙◌, subst, arith, ◌↔◌}
use Rattle.std.specs.List.{AllZip, cons_option}
use Rattle.std.proofs.lemmas.Bool.{eqb-true, eq-eqb}
use Rattle.dcsp_defs.specs.declared.Reason.{Reason}
use Rattle.dcsp_defs.specs.declared.Reason.TheVariants.{Rule, Earlier}
use Rattle.dcsp_defs.specs.declared.Step.{Step}
use Rattle.dcsp_defs.specs.Words.{In}
use Rattle.dcsp_defs.specs.Csp.{Csp, Constraint, Nogood, Assignment, IsConstraint, IsCsp, IsSolution, HasNoSolution, domain}
use Rattle.dcsp_defs.specs.Derivation.{IsReason, IsRightAt, IsRightNowhere, IsRight, IsDerivation, IsRefutation}
use Rattle.dcsp_defs.proofs.Lists.{get-In, or_cases, or_left, or_right, In-list_any, list_any-In}
use Rattle.dcsp_defs.proofs.Sound.{refutations_refute}
use Rattle.ngd_check.proofs.Parts.{within}
use Rattle.ngd_rewrite.specs.Needed.{cites_rule, is_cited}
use Rattle.ngd_rewrite.specs.Cores.{limited}

-- a constraint that asks nothing
abbrev free : Constraint → Constraint
free c = record { scope = c.scope; test = λ _. true }

-- constraints, the first of which has this number, that ask nothing but where the test passes
abbrev freed : (ℕ → Bool) → ℕ → List Constraint → List Constraint
freed keep number [] = []
freed keep number (c ∷ cs) = cond (keep number) c (free c) ∷ freed keep (suc number) cs

-- the problem with the constraints that pass the test alone; each keeps its number
abbrev kept : Csp → (ℕ → Bool) → Csp
kept p keep = record { domains = p.domains; constraints = freed keep 0 p.constraints }

freed_at : (keep : ℕ → Bool) (k : ℕ) (cs : List Constraint) (n : ℕ) (c : Constraint) → slice_get cs n ≡ Some c → slice_get (freed keep k cs) n ≡ Some (cond (keep (k + n)) c (free c))
freed_at keep k [] n c h = cc
freed_at keep k (y ∷ ys) zero c h = let e : k + 0 ≡ k = omega arith in let same : y ≡ c = cc in rw (e, same) refl
freed_at keep k (y ∷ ys) (suc n) c h = let e : k + suc n ≡ suc k + n = omega arith in rw e (freed_at keep (suc k) ys n c h)

freed_in : (keep : ℕ → Bool) (k : ℕ) (cs : List Constraint) (c : Constraint) → In c (freed keep k cs) → (n : ℕ) × (d : Constraint) × (slice_get cs n ≡ Some d) × (c ≡ cond (keep (k + n)) d (free d))
freed_in keep k [] c h = absurd h
freed_in keep k (y ∷ ys) c (inl e) = let z : k + 0 ≡ k = omega arith in (0, y, refl, rw z e)
freed_in keep k (y ∷ ys) c (inr h) =
    let r = freed_in keep (suc k) ys c h in
    let z : k + suc r.0 ≡ suc k + r.0 = omega arith in
    (suc r.0, r.1, r.2, rw z r.3)

freed_csp : (p : Csp) (keep : ℕ → Bool) → IsCsp p → IsCsp (kept p keep)
freed_csp p keep ok = record {
  domains = ok.domains;
  constraints = λ c u.
      let r = freed_in keep 0 p.constraints c u in
      subst (IsConstraint (kept p keep)) (sym r.3) (by_test (keep (0 + r.0)) r.1 (ok.constraints r.1 (get-In p.constraints r.0 r.1 r.2)));
}
  where
    by_test : (b : Bool) (d : Constraint) → IsConstraint p d → IsConstraint (kept p keep) (cond b d (free d))
    by_test true d h = record { rising = h.rising; inside = h.inside; local = h.local }
    by_test false d h = record { rising = h.rising; inside = h.inside; local = λ f g same. refl }

module _ (p : Csp) (keep : ℕ → Bool) where
  kept_at : (n : ℕ) (c : Constraint) → keep n ≡ true → slice_get p.constraints n ≡ Some c → slice_get (kept p keep).constraints n ≡ Some c
  kept_at n c t there =
      let e : 0 + n ≡ n = omega arith in
      freed_at keep 0 p.constraints n c there ∙ (ap (λ k. Some (cond (keep k) c (free c))) e ∙ ap (λ b. Some (cond b c (free c))) t)

  zip_kept : (earlier : List Step) (pairs : Nogood) (x : ℕ) (vs : List ℤ) (rs : List Reason) → ((r : ℕ) → cites_rule rs r ≡ true → keep r ≡ true) → AllZip (IsReason p earlier pairs x) vs rs → AllZip (IsReason (kept p keep) earlier pairs x) vs rs
  zip_kept earlier pairs x [] [] used h = tt
  zip_kept earlier pairs x [] (r ∷ rs) used h = absurd h
  zip_kept earlier pairs x (v ∷ vs) [] used h = absurd h
  zip_kept earlier pairs x (v ∷ vs) (Rule n ∷ rs) used h = (
    (h.0.0, kept_at n h.0.0 (used n (or_left (n == n) (cites_rule rs n) (eq-eqb n n refl))) h.0.1, h.0.2),
    zip_kept earlier pairs x vs rs (λ k c. used k (or_right (k == n) (cites_rule rs k) c)) h.1,
  )
  zip_kept earlier pairs x (v ∷ vs) (Earlier n ∷ rs) used h = (h.0, zip_kept earlier pairs x vs rs used h.1)

  right_kept : (earlier : List Step) (s : Step) → ((r : ℕ) → cites_rule s.reasons r ≡ true → keep r ≡ true) → IsRight p earlier s → IsRight (kept p keep) earlier s
  right_kept earlier s used h = by_variable s.variable h
    where
      by_variable : (o : Option ℕ) → MatchOption o (IsRightNowhere p s) (λ x. IsRightAt p earlier x s) → MatchOption o (IsRightNowhere (kept p keep) s) (λ x. IsRightAt (kept p keep) earlier x s)
      by_variable None r = record {
        nogood = r.nogood;
        number = r.number;
        reasons = r.reasons;
        alone = record {
          constraint = r.alone.constraint;
          there = kept_at r.number r.alone.constraint (used r.number (subst (λ (rs : List Reason). cites_rule rs r.number ≡ true) (sym r.reasons) (or_left (r.number == r.number) false (eq-eqb r.number r.number refl)))) r.alone.there;
          scope = r.alone.scope;
          violated = r.alone.violated;
        };
      }
      by_variable (Some x) r = record {
        variable = r.variable;
        rising = r.rising;
        pairs = λ y u. record { variable = (r.pairs y u).variable; value = (r.pairs y u).value };
        other = r.other;
        reasons = zip_kept earlier s.nogood x (domain p x) s.reasons used r.reasons;
      }

-- a rule that a step at a place cites is cited
pub cited_at : (steps : List Step) (k : ℕ) (s : Step) (r : ℕ) → slice_get steps k ≡ Some s → cites_rule s.reasons r ≡ true → is_cited steps r ≡ true
cited_at steps k s r there c = list_any-In (λ (t : Step). cites_rule t.reasons r) s steps (get-In steps k s there) c

In-filtered : {X Y : Type 0} (f : X → Option Y) (x : X) (y : Y) (xs : List X) → In x xs → f x ≡ Some y → In y (filter_map f xs)
In-filtered f x y [] h e = absurd h
In-filtered {X = X} {Y = Y} f x y (z ∷ zs) (inl i) e = let s : f z ≡ Some y = ap f (sym i) ∙ e in rw s (inl refl)
In-filtered {X = X} {Y = Y} f x y (z ∷ zs) (inr h) e = by_value (f z) (In-filtered f x y zs h e)
  where
    by_value : (o : Option Y) → In y (filter_map f zs) → In y (cons_option o (filter_map f zs))
    by_value None u = u
    by_value (Some w) u = inr u

-- a solution of the limited problem is one of the problem that keeps those constraints alone
kept_solution : (p : Csp) (keep : ℕ → Bool) (rules : List ℕ) → ((r : ℕ) → keep r ≡ true → In r rules) → (values : Assignment) → IsSolution (limited p rules) values → IsSolution (kept p keep) values
kept_solution p keep rules listed values s = record {
  domains = s.domains;
  constraints = λ c u.
      let r = freed_in keep 0 p.constraints c u in
      let e : 0 + r.0 ≡ r.0 = omega arith in
      let same : c ≡ cond (keep r.0) r.1 (free r.1) = r.3 ∙ ap (λ n. cond (keep n) r.1 (free r.1)) e in
      subst (λ (d : Constraint). d.test values ≡ true) (sym same) (by_test (keep r.0) r.0 r.1 (λ t. s.constraints r.1 (In-filtered (slice_get p.constraints) r.0 r.1 rules (listed r.0 t) r.2)));
}
  where
    by_test : (b : Bool) (n : ℕ) (d : Constraint) → (b ≡ true → d.test values ≡ true) → (cond b d (free d)).test values ≡ true
    by_test true n d h = h refl
    by_test false n d h = refl

-- the limited problem has no solution
pub limited_unsolvable : (p : Csp) (steps : List Step) (rules : List ℕ) → IsCsp p → IsRefutation p steps → ((r : ℕ) → In r rules ↔ (is_cited steps r ≡ true)) → HasNoSolution (limited p rules)
limited_unsolvable p steps rules ok h listed = λ values s.
    let keep = is_cited steps in
    let refutes : IsRefutation (kept p keep) steps = record {
      right = λ k t there. right_kept p keep (take k steps) t (λ r c. cited_at steps k t r there c) (h.right k t there);
      ends = h.ends;
    } in
    refutations_refute (kept p keep) (freed_csp p keep ok) steps refutes values (kept_solution p keep rules (λ r. (listed r).1) values s)

-- the rules of a derivation are the problem's
zip_within : (p : Csp) (earlier : List Step) (pairs : Nogood) (x : ℕ) (vs : List ℤ) (rs : List Reason) (n : ℕ) → AllZip (IsReason p earlier pairs x) vs rs → cites_rule rs n ≡ true → n < length p.constraints
zip_within p earlier pairs x [] [] n h c = cc
zip_within p earlier pairs x [] (r ∷ rs) n h c = absurd h
zip_within p earlier pairs x (v ∷ vs) [] n h c = absurd h
zip_within p earlier pairs x (v ∷ vs) (Earlier m ∷ rs) n h c = zip_within p earlier pairs x vs rs n h.1 c
zip_within p earlier pairs x (v ∷ vs) (Rule m ∷ rs) n h c = elim (or_cases (n == m) (cites_rule rs n) c) [
  | inl e ↦ let l = within p.constraints m h.0.0 h.0.1 in let same = eqb-true n m e in omega (arith, l, same)
  | inr more ↦ zip_within p earlier pairs x vs rs n h.1 more
]

In-place : {X : Type 0} (x : X) (xs : List X) → In x xs → (k : ℕ) × (slice_get xs k ≡ Some x)
In-place x [] h = absurd h
In-place x (y ∷ ys) (inl e) = (0, ap Some (sym e))
In-place x (y ∷ ys) (inr h) = let r = In-place x ys h in (suc r.0, r.1)

pub cited_within : (p : Csp) (steps : List Step) → IsDerivation p steps → (r : ℕ) → is_cited steps r ≡ true → r < length p.constraints
cited_within p steps h r c =
    let found = In-list_any (λ (t : Step). cites_rule t.reasons r) steps c in
    let at = In-place found.0 steps found.1 in
    by_variable (take at.0 steps) found.0 found.2 found.0.variable (h at.0 found.0 at.1)
  where
    by_variable : (earlier : List Step) (s : Step) → cites_rule s.reasons r ≡ true → (o : Option ℕ) → MatchOption o (IsRightNowhere p s) (λ x. IsRightAt p earlier x s) → r < length p.constraints
    by_variable earlier s c None w =
        let t : (r == w.number || false) ≡ true = subst (λ (rs : List Reason). cites_rule rs r ≡ true) w.reasons c in
        let l = within p.constraints w.number w.alone.constraint w.alone.there in
        elim (or_cases (r == w.number) false t) [
          | inl e ↦ let same = eqb-true r w.number e in omega (arith, l, same)
          | inr z ↦ absurd cc
        ]
    by_variable earlier s c (Some x) w = zip_within p earlier s.nogood x (domain p x) s.reasons r w.reasons c
