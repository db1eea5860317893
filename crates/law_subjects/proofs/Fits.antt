-- Values that fit what the items so far gave, and what one declaration more asks of them.
use Rattle.std.proofs.Common.{◌≡◌, ℕ, ◌+◌, pos, true, false, List, [], ◌∷◌, ◌++◌, length, Option, Some, None, sym, ap, ◌∙◌, subst, append-nil, length-append}
use Rattle.std.specs.Prelude.{◌↔◌, ℤ}
use Rattle.dcsp_common.proofs.Items.{get_front}
use Rattle.dcsp_defs.specs.Words.{In}
use Rattle.dcsp_defs.specs.Csp.{Assignment}
use Rattle.dcsp_rule.specs.declared.rule.Term.{Term}
use Rattle.dcsp_rule.specs.declared.rule.Term.TheVariants.{Const, Var}
use Rattle.dcsp_rule.specs.declared.rule.Rule.{Rule}
use Rattle.fzn_item.specs.declared.item.Item.{Item}
use Rattle.fzn_scope.specs.declared.names.Declared.{Declared}
use Rattle.fzn_scope.specs.declared.names.Declared.TheVariants as declared
use Rattle.fzn_scope.specs.Names.{Scope, declared_as}
use Rattle.fzn_model.specs.Declarations.{SoFar}
use Rattle.law_subjects.specs.Environments.{Number, Environment}
use Rattle.law_subjects.specs.Holding.{Holds}
use Rattle.law_subjects.specs.Meaning.{variable_of, name_of}
use Rattle.fzn_scope.proofs.Declaring.{declared-old, declared-last}
use Rattle.law_subjects.proofs.MeantNames.{meaning, Agrees, each_push}
use Rattle.law_subjects.proofs.Sorts.{IsTruthTerm, IsSorted, Sorted}
use Rattle.law_subjects.proofs.Growth.{InDomains, Hold, domains_push, rules_append}

-- the environment and the assignment fit what there is so far
pub record Fits (values : Assignment) (env : Environment) (s : SoFar) : Type 0 where
  pub agrees : Agrees values env s.scope
  pub domains : InDomains values s.problem.domains
  pub rules : Hold values s.problem.rules

-- a variable's name has the value at its number
abbrev pub NumberedAt : Assignment → Environment → ℕ → Option (List ℕ) → Type 0
NumberedAt values env n None = Unit {0}
NumberedAt values env n (Some name) = env name ≡ Number (values n)

abbrev pub count_of : {X : Type 0} → Option X → ℕ
count_of None = 0
count_of (Some x) = 1

-- one item more: the values fit then where they fitted before, and the item holds
pub record Step (text : List ℕ) (s t : SoFar) (i : Item) : Type 0 where
  pub keeps : (name : List ℕ) (d : Declared) → declared_as s.scope name ≡ Some d → declared_as t.scope name ≡ Some d
  pub declares : (name : List ℕ) → name_of text i ≡ Some name → (d : Declared) × (declared_as t.scope name ≡ Some d)
  pub sorted : Sorted t.problem.domains t.scope
  pub count : length t.problem.domains ≡ length s.problem.domains + count_of (variable_of text i)
  pub fits : (values : Assignment) (env : Environment) → Fits values env t ↔ (Fits values env s × (Holds text env i × NumberedAt values env (length s.problem.domains) (variable_of text i)))

abbrev pub as_list : {X : Type 0} → Option X → List X
as_list None = []
as_list (Some x) = x ∷ []

-- a declaration adds a name, perhaps a domain, and rules
pub record Grown (s t : SoFar) (name : List ℕ) (d : Declared) (o : Option (List ℤ)) (rs : List Rule) : Type 0 where
  pub fresh : declared_as s.scope name ≡ None
  pub scope : t.scope ≡ s.scope ++ (name, d) ∷ []
  pub domains : t.problem.domains ≡ s.problem.domains ++ as_list o
  pub rules : t.problem.rules ≡ s.problem.rules ++ rs

abbrev pub InDomain : Assignment → ℕ → Option (List ℤ) → Type 0
InDomain values n None = Unit {0}
InDomain values n (Some domain) = In (values n) domain

domains_more : (values : Assignment) (ds : List (List ℤ)) (o : Option (List ℤ)) → InDomains values (ds ++ as_list o) ↔ (InDomains values ds × InDomain values (length ds) o)
domains_more values ds None = ((λ h. (subst (InDomains values) (append-nil ds) h, tt)), (λ h. subst (InDomains values) (sym (append-nil ds)) h.0))
domains_more values ds (Some d) = domains_push values ds d

pub fits_grown : (values : Assignment) (env : Environment) (s t : SoFar) (name : List ℕ) (d : Declared) (o : Option (List ℤ)) (rs : List Rule) → Grown s t name d o rs
    → Fits values env t ↔ (Fits values env s × ((env name ≡ meaning values d) × InDomain values (length s.problem.domains) o × Hold values rs))
fits_grown values env s t name d o rs g =
    let names = each_push (λ n e. env n ≡ meaning values e) s.scope name d g.fresh in
    let ds = domains_more values s.problem.domains o in
    let rules = rules_append values s.problem.rules rs in (
      (λ h.
          let a = names.0 (subst (Agrees values env) g.scope h.agrees) in
          let b = ds.0 (subst (InDomains values) g.domains h.domains) in
          let c = rules.0 (subst (Hold values) g.rules h.rules) in
          (record { agrees = a.0; domains = b.0; rules = c.0 }, (a.1, b.1, c.1))),
      (λ h. record {
        agrees = subst (Agrees values env) (sym g.scope) (names.1 (h.0.agrees, h.1.0));
        domains = subst (InDomains values) (sym g.domains) (ds.1 (h.0.domains, h.1.1));
        rules = subst (Hold values) (sym g.rules) (rules.1 (h.0.rules, h.1.2));
      }),
    )

truth_more : (ds more : List (List ℤ)) (t : Term) → IsTruthTerm ds t → IsTruthTerm (ds ++ more) t
truth_more ds more (Const v) h = h
truth_more ds more (Var k) h = get_front ds more k (pos 0 ∷ pos 1 ∷ []) h

sorted_more : (ds more : List (List ℤ)) (d : Declared) → IsSorted ds d → IsSorted (ds ++ more) d
sorted_more ds more (declared.One true term) h = truth_more ds more term h
sorted_more ds more (declared.One false term) h = h
sorted_more ds more (declared.Set set) h = h
sorted_more ds more (declared.Many boolean variable terms) h = h

pub sorted_grown : (s t : SoFar) (name : List ℕ) (d : Declared) (o : Option (List ℤ)) (rs : List Rule) → Grown s t name d o rs
    → Sorted s.problem.domains s.scope → IsSorted (s.problem.domains ++ as_list o) d → Sorted t.problem.domains t.scope
sorted_grown s t name d o rs g h k =
    let ds = s.problem.domains ++ as_list o in
    let all : Sorted ds (s.scope ++ (name, d) ∷ []) = (each_push (λ n e. IsSorted ds e) s.scope name d g.fresh).1 ((λ n e l. sorted_more s.problem.domains (as_list o) e (h n e l)), k) in
    subst (λ (x : List (List ℤ)). Sorted x t.scope) (sym g.domains) (subst (Sorted ds) (sym g.scope) all)

-- the step of a declaration, from what it asks where the values fitted before
pub step_grown : (text : List ℕ) (s t : SoFar) (i : Item) (name : List ℕ) (d : Declared) (o : Option (List ℤ)) (rs : List Rule) → Grown s t name d o rs
    → Sorted s.problem.domains s.scope → IsSorted (s.problem.domains ++ as_list o) d → length (as_list o) ≡ count_of (variable_of text i) → name_of text i ≡ Some name
    → ((values : Assignment) (env : Environment) → Fits values env s
    → ((env name ≡ meaning values d) × InDomain values (length s.problem.domains) o × Hold values rs) ↔ (Holds text env i × NumberedAt values env (length s.problem.domains) (variable_of text i)))
    → Step text s t i
step_grown text s t i name d o rs g h k l m local = record {
  keeps = λ n e x. subst (λ (z : Scope). declared_as z n ≡ Some e) (sym g.scope) (declared-old s.scope ((name, d) ∷ []) n e x);
  declares = λ n e.
      let is : name ≡ n = let k = m in cc in
      (d, subst (λ (z : Scope). declared_as z n ≡ Some d) (sym g.scope) (subst (λ (z : List ℕ). declared_as (s.scope ++ (name, d) ∷ []) z ≡ Some d) is (declared-last s.scope name d g.fresh)));
  sorted = sorted_grown s t name d o rs g h k;
  count = ap (λ (x : List (List ℤ)). length x) g.domains ∙ length-append s.problem.domains (as_list o) ∙ ap (λ (x : ℕ). length s.problem.domains + x) l;
  fits = λ values env.
      let f = fits_grown values env s t name d o rs g in
      ((λ x. let y = f.0 x in (y.0, (local values env y.0).0 y.1)), (λ y. f.1 (y.0, (local values env y.0).1 y.1)));
}
