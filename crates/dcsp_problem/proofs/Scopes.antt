-- Scopes: which variables they have, and how the code makes them.
use Rattle.std.proofs.Common.{◌≡◌, ℕ, ◌<◌, true, List, refl, subst}
use Rattle.std.specs.Prelude.{◌==◌, ◌↔◌, Some}
use Rattle.std.proofs.lemmas.Bool.Decides.{Decides-eqb}
use Rattle.std.proofs.lemmas.List.Elements.{All-contains}
use Rattle.dcsp_defs.specs.Words.{In, IsRising, below}
use Rattle.dcsp_defs.proofs.Lists.{In-filter, In-filter_map, below-In, list_any-In, In-list_any}
use Rattle.dcsp_rule.specs.declared.rule.Term.{Term}
use Rattle.dcsp_rule.specs.declared.rule.Term.TheVariants.{Const, Var}
use Rattle.dcsp_rule.specs.declared.rule.Rule.{Rule}
use Rattle.dcsp_rule.specs.Rules.{variable_of, terms_of, variables_of, mentions, scope_of, IsTermOf, IsRuleOf}
use Rattle.dcsp_problem.proofs.RisingNumbers.{In-filter_below, rising-filter_below, same_members, Contains-In}

-- a rule mentions the variables among its terms
mentioned : (rule : Rule) (v : ℕ) → In v (variables_of rule) → mentions rule v ≡ true
mentioned rule v i = list_any-In (λ w. w == v) v (variables_of rule) i ((Decides-eqb v v).1 refl)

pub from_mentioned : (rule : Rule) (v : ℕ) → mentions rule v ≡ true → In v (variables_of rule)
from_mentioned rule v h =
    let found = In-list_any (λ w. w == v) (variables_of rule) h in
    subst (λ (z : ℕ). In z (variables_of rule)) ((Decides-eqb found.0 v).0 found.2) found.1

-- a term that is a variable is one of those that there are
term_below : (n v : ℕ) (term : Term) → IsTermOf n term → variable_of term ≡ Some v → v < n
term_below n v (Const c) known e = cc
term_below n v (Var w) known e = let same : w ≡ v = cc in subst (λ (z : ℕ). z < n) same known

pub variables_below : (n : ℕ) (rule : Rule) → IsRuleOf n rule → (v : ℕ) → In v (variables_of rule) → v < n
variables_below n rule r v i =
    let found = In-filter_map variable_of v (terms_of rule) i in
    term_below n v found.0 (All-contains (IsTermOf n) (terms_of rule) found.0 r.known (Contains-In (terms_of rule) found.0 found.1)) found.2

-- the scope has just the variables among the terms
pub In-scope : (n : ℕ) (rule : Rule) → IsRuleOf n rule → (v : ℕ) → In v (variables_of rule) → In v (scope_of n rule)
In-scope n rule r v i = In-filter (mentions rule) v (below n) (below-In n v (variables_below n rule r v i)) (mentioned rule v i)

pub In-from_scope : (n : ℕ) (rule : Rule) (v : ℕ) → In v (scope_of n rule) → In v (variables_of rule)
In-from_scope n rule v i = from_mentioned rule v (In-filter_below (mentions rule) n v i).1

-- the rising list of the variables among the terms is the scope
pub scope_is_rising : (n : ℕ) (rule : Rule) (left : List ℕ) → IsRuleOf n rule → IsRising left → ((v : ℕ) → In v left ↔ In v (variables_of rule)) → left ≡ scope_of n rule
scope_is_rising n rule left r up same =
    same_members left (scope_of n rule) up (rising-filter_below (mentions rule) n)
    (λ v i. In-scope n rule r v ((same v).0 i))
    (λ v i. (same v).1 (In-from_scope n rule v i))
