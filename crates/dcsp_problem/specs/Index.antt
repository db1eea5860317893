-- What is kept beside a problem's contents.
use Rattle.std.specs.Prelude.{◌≡◌, ℕ, List, map, length}
use Rattle.dcsp_defs.specs.Words.{below}
use Rattle.dcsp_defs.specs.Csp.{Constraint, owned}
use Rattle.dcsp_rule.specs.declared.form.Form.{Form}
use Rattle.dcsp_rule.specs.Rules.{scope_of}
use Rattle.dcsp_rule.specs.Forms.{AreForms}
use Rattle.dcsp_rule.specs.Problems.{Contents, csp_of, value_count, term_count}
use Rattle.dcsp_problem.specs.Lower.{lower_owners}
use Rattle.dcsp_problem.specs.WellFormed.{IsProblem}

-- the numbers of the rules that the variable owns, in order
abbrev pub owned_rules : Contents → ℕ → List ℕ
owned_rules p var = map (λ (x : ℕ × Constraint). x.0) (owned (csp_of p) var)

-- beside a problem's contents stand the scope of each rule, its form, the rules that each variable owns, and the later variables that own a rule over it
pub record IsIndexed (p : Contents) (scopes : List (List ℕ)) (forms : List Form) (by_owner lower : List (List ℕ)) : Type 0 where
  pub problem : IsProblem p
  pub each_scope : scopes ≡ map (scope_of (length p.domains)) p.rules
  pub each_form : AreForms forms p.rules
  pub each_owned : by_owner ≡ map (owned_rules p) (below (length p.domains))
  pub each_lower : lower ≡ map (lower_owners (csp_of p)) (below (length p.domains))

-- beside the contents so far stand the numbers of all values and of all terms
pub record IsTallied (p : Contents) (values terms : ℕ) : Type 0 where
  pub problem : IsProblem p
  pub all_values : values ≡ value_count p
  pub all_terms : terms ≡ term_count p
