-- All items, one after another.
use Rattle.std.proofs.Common.{◌≡◌, ℕ, zero, suc, ◌+◌, true, inl, inr, List, [], ◌∷◌, length, Option, Some, None, Ok, refl, sym, ap, ◌∙◌, subst, arith}
use Rattle.std.specs.Prelude.{◌↔◌, slice_get}
use Rattle.std.specs.List.{cons_option}
use Rattle.fzn_item.specs.declared.item.Item.{Item}
use Rattle.dcsp_defs.specs.Words.{In}
use Rattle.dcsp_defs.specs.Csp.{Assignment}
use Rattle.dcsp_rule.specs.Problems.{Contents}
use Rattle.fzn_token.specs.declared.refusal.Refusal.TheVariants as refusal
use Rattle.fzn_scope.specs.declared.names.Declared.{Declared}
use Rattle.fzn_scope.specs.Names.{declared_as}
use Rattle.fzn_model.specs.Declarations.{SoFar}
use Rattle.fzn_model.specs.Items.{start, after, after_all, finished}
use Rattle.law_subjects.specs.Environments.{Number, Environment}
use Rattle.law_subjects.specs.Holding.{Holds}
use Rattle.law_subjects.specs.Meaning.{Satisfies, variable_of, variables, name_of}
use Rattle.law_subjects.proofs.Checks.{bind_ok, passed}
use Rattle.law_subjects.proofs.Sorts.{Sorted}
use Rattle.law_subjects.proofs.Fits.{Fits, NumberedAt, count_of}
use Rattle.law_subjects.proofs.Items.{step_of}

-- the names have the values from this number on
abbrev pub NumberedFrom : ℕ → Assignment → Environment → List (List ℕ) → Type 0
NumberedFrom n values env names = (k : ℕ) (name : List ℕ) → slice_get names k ≡ Some name → env name ≡ Number (values (n + k))

-- the variable of an item, if it has one, before those of the next
abbrev before : Option (List ℕ) → List (List ℕ) → List (List ℕ)
before None names = names
before (Some name) names = name ∷ names

numbered_more : (n : ℕ) (values : Assignment) (env : Environment) (o : Option (List ℕ)) (names : List (List ℕ))
    → NumberedFrom n values env (before o names) ↔ (NumberedAt values env n o × NumberedFrom (n + count_of o) values env names)
numbered_more n values env None names =
    let same : (k : ℕ) → n + 0 + k ≡ n + k = λ k. omega arith in (
      (λ h. (tt, λ k name e. h k name e ∙ ap (λ (j : ℕ). Number (values j)) (sym (same k)))),
      (λ h k name e. h.1 k name e ∙ ap (λ (j : ℕ). Number (values j)) (same k)),
    )
numbered_more n values env (Some first) names =
    let here : n + 0 ≡ n = omega arith in
    let next : (k : ℕ) → n + suc k ≡ n + 1 + k = λ k. omega arith in (
      (λ h. (h 0 first refl ∙ ap (λ (j : ℕ). Number (values j)) here, λ k name e. h (suc k) name e ∙ ap (λ (j : ℕ). Number (values j)) (next k))),
      (λ h. numbered_back n values env first names h.0 h.1),
    ) where
      numbered_back : (n : ℕ) (values : Assignment) (env : Environment) (first : List ℕ) (names : List (List ℕ)) → env first ≡ Number (values n) → NumberedFrom (n + 1) values env names → NumberedFrom n values env (first ∷ names)
      numbered_back n values env first names h t zero name e =
          let is : first ≡ name = cc in
          let here : n ≡ n + 0 = omega arith in
          subst (λ (x : List ℕ). env x ≡ Number (values (n + 0))) is (h ∙ ap (λ (j : ℕ). Number (values j)) here)
      numbered_back n values env first names h t (suc k) name e =
          let next : n + 1 + k ≡ n + suc k = omega arith in
          t k name e ∙ ap (λ (j : ℕ). Number (values j)) next

variables_more : (text : List ℕ) (i : Item) (rest : List Item) → variables text (i ∷ rest) ≡ before (variable_of text i) (variables text rest)
variables_more text i rest = by_cases (variable_of text i) (variables text rest) where
  by_cases : (o : Option (List ℕ)) (names : List (List ℕ)) → cons_option o names ≡ before o names
  by_cases None names = refl
  by_cases (Some name) names = refl

-- these items more
pub record Steps (text : List ℕ) (s t : SoFar) (items : List Item) : Type 0 where
  pub keeps : (name : List ℕ) (d : Declared) → declared_as s.scope name ≡ Some d → declared_as t.scope name ≡ Some d
  pub declares : (i : Item) (name : List ℕ) → In i items → name_of text i ≡ Some name → (d : Declared) × (declared_as t.scope name ≡ Some d)
  pub sorted : Sorted t.problem.domains t.scope
  pub fits : (values : Assignment) (env : Environment) → Fits values env t ↔ (Fits values env s × (((i : Item) → In i items → Holds text env i) × NumberedFrom (length s.problem.domains) values env (variables text items)))

pub steps_of : (text : List ℕ) (items : List Item) (s t : SoFar) → Sorted s.problem.domains s.scope → after_all text s items ≡ Ok t → Steps text s t items
steps_of text [] s t sorted e =
    let is : s ≡ t = cc in
    record {
      keeps = λ n d l. subst (λ (x : SoFar). declared_as x.scope n ≡ Some d) is l;
      declares = λ i n m e. absurd m;
      sorted = subst (λ (x : SoFar). Sorted x.problem.domains x.scope) is sorted;
      fits = λ values env. ((λ h. (subst (Fits values env) (sym is) h, ((λ i n. absurd n), (λ k name l. absurd cc)))), (λ h. subst (Fits values env) is h.0));
    }
steps_of text (i ∷ rest) s t sorted e =
    let b = bind_ok (after text s i) (λ next. after_all text next rest) t e in
    let one = step_of text s b.0 i sorted b.1 in
    let more = steps_of text rest b.0 t one.sorted b.2 in
    let o = variable_of text i in
    let vs = variables_more text i rest in
    record {
      keeps = λ n d l. more.keeps n d (one.keeps n d l);
      declares = λ j n m l. elim m [
        | inl q ↦ let f = one.declares n (subst (λ (x : Item). name_of text x ≡ Some n) q l) in (f.0, more.keeps n f.0 f.1)
        | inr q ↦ more.declares j n q l
      ];
      sorted = more.sorted;
      fits = λ values env.
          let n = length s.problem.domains in
          let numbered = numbered_more n values env o (variables text rest) in (
            (λ h.
                let r = (more.fits values env).0 h in
                let f = (one.fits values env).0 r.0 in (
                  f.0,
                  (
                    (λ j m. elim m [ inl q ↦ subst (λ (x : Item). Holds text env x) (sym q) f.1.0 | inr q ↦ r.1.0 j q ]),
                    subst (NumberedFrom n values env) (sym vs) (numbered.1 (f.1.1, subst (λ (c : ℕ). NumberedFrom c values env (variables text rest)) one.count r.1.1)),
                  ),
                )),
            (λ h.
                let k = numbered.0 (subst (NumberedFrom n values env) vs h.1.1) in
                let f = (one.fits values env).1 (h.0, (h.1.0 i (inl refl), k.0)) in
                (more.fits values env).1 (f, ((λ j m. h.1.0 j (inr m)), subst (λ (c : ℕ). NumberedFrom c values env (variables text rest)) (sym one.count) k.1))),
          );
    }

pub start_sorted : Sorted start.problem.domains start.scope
start_sorted name d e = absurd cc

pub start_fits : (values : Assignment) (env : Environment) → Fits values env start
start_fits values env = record { agrees = λ name d e. absurd cc; domains = λ k l. absurd (omega (arith, l)); rules = λ r i. absurd i }

-- values that satisfy items fit what the items gave
pub satisfied_fits : (text : List ℕ) (items : List Item) (t : SoFar) → after_all text start items ≡ Ok t → (values : Assignment) (env : Environment) → Satisfies text items values env → Fits values env t
satisfied_fits text items t e values env h =
    let steps = steps_of text items start t start_sorted e in
    let number : (k : ℕ) → k ≡ 0 + k = λ k. omega arith in
    (steps.fits values env).1 (start_fits values env, (h.each, λ k name l. h.numbered k name l ∙ ap (λ (j : ℕ). Number (values j)) (number k)))

pub problem_is : (t : SoFar) (p : Contents) → finished t ≡ Ok p → (t.solved ≡ true) × (t.problem ≡ p)
problem_is t p e = passed t.solved t.problem p refusal.NoSolve e
