-- Rules as clauses.
use Rattle.std.proofs.Common.{◌≡◌, ℕ, ◌+◌, ◌<◌, ◌≤◌, List, [], ◌∷◌, ◌++◌, map, take, length, get_or, sym, ap, ◌∙◌, subst, arith, append_assoc}
use Rattle.std.specs.Prelude.{ℤ, Some, slice_get, All, Result, Ok, Err, OnOk}
use Rattle.std.proofs.lemmas.List.{take_more, get_or-map, length-map}
use Rattle.std.proofs.lemmas.List.Elements.{All-contains, All-append, All-map, Contains-append_left, Contains-append_right, Contains-get_or}
use Rattle.std.proofs.lemmas.Option.{slice_get_within, get_or_from_slice_get}
use Rattle.rup_check.specs.Literals.{IsLiteral}
use Rattle.dcsp_meaning.specs.declared.kinds.ConstraintKind.{ConstraintKind}
use Rattle.dcsp_rule.specs.declared.rule.Term.{Term}
use Rattle.dcsp_rule.specs.declared.rule.Term.TheVariants.{Const, Var}
use Rattle.dcsp_rule.specs.declared.rule.Members.{Members}
use Rattle.dcsp_rule.specs.declared.rule.Rule.{Rule}
use Rattle.dcsp_rule.specs.declared.rule.Rule.TheVariants.{Plain, Sum}
use Rattle.dcsp_rule.specs.Rules.{IsTermOf, IsRuleOf, no_rule}
use Rattle.cnf_front.specs.Clauses.{literal_of, negation_of, rule_clause, IsVariable, IsClauseRule}

pub known_first : (v : ℕ) (s f t : List Term) → All (IsTermOf v) (s ++ f ++ t) → All (IsTermOf v) f
known_first v s f t h = λ k d l. All-contains (IsTermOf v) (s ++ f ++ t) (get_or f k d) h (Contains-append_left (s ++ f) t (get_or f k d) (Contains-append_right s f (get_or f k d) (Contains-get_or f k d l)))

pub known_second : (v : ℕ) (s f t : List Term) → All (IsTermOf v) (s ++ f ++ t) → All (IsTermOf v) t
known_second v s f t h = λ k d l. All-contains (IsTermOf v) (s ++ f ++ t) (get_or t k d) h (Contains-append_right (s ++ f) t (get_or t k d) (Contains-get_or t k d l))

-- the terms of a rule's lists
pub first_terms : (v : ℕ) (rule : Rule) (kind : ConstraintKind) (s f t : List Term) (m : Members) (xs : List Term) → rule ≡ Plain kind s f t m → xs ≡ f → IsRuleOf v rule → All (IsTermOf v) xs
first_terms v rule kind s f t m xs e x h = subst (All (IsTermOf v)) (sym x) (known_first v s f t (subst (IsRuleOf v) e h).known)

pub second_terms : (v : ℕ) (rule : Rule) (kind : ConstraintKind) (s f t : List Term) (m : Members) (ys : List Term) → rule ≡ Plain kind s f t m → ys ≡ t → IsRuleOf v rule → All (IsTermOf v) ys
second_terms v rule kind s f t m ys e y h = subst (All (IsTermOf v)) (sym y) (known_second v s f t (subst (IsRuleOf v) e h).known)

variable_literal : (v : ℕ) (term : Term) → v ≤ 4096 → IsVariable term → IsTermOf v term → IsLiteral (literal_of term)
variable_literal v (Var x) few i k = record { positive = omega arith; bounded = (let l : x < v = k in omega arith) }
variable_literal v (Const c) few i k = absurd i

negation_literal : (v : ℕ) (term : Term) → v ≤ 4096 → IsVariable term → IsTermOf v term → IsLiteral (negation_of term)
negation_literal v (Var x) few i k = record { positive = omega arith; bounded = (let l : x < v = k in omega arith) }
negation_literal v (Const c) few i k = absurd i

-- the numbers of a rule's clause are literals
rule_literals : (v : ℕ) (rule : Rule) → v ≤ 4096 → IsClauseRule rule → IsRuleOf v rule → All IsLiteral (rule_clause rule)
rule_literals v (Plain kind s f t m) few i h =
    All-append IsLiteral (map literal_of f) (map negation_of t)
    (All-map IsLiteral literal_of f (λ k d l. variable_literal v (get_or f k d) few (i.1 k d l) (known_first v s f t h.known k d l)))
    (All-map IsLiteral negation_of t (λ k d l. negation_literal v (get_or t k d) few (i.2 k d l) (known_second v s f t h.known k d l)))
rule_literals v (Sum rel coefs terms total told) few i h = absurd i

pub clause_literals : {A B : Type 0} (r : Result A B) (v : ℕ) (rule : Rule) (kind : ConstraintKind) (s f t : List Term) (m : Members) (xs ys : List Term) (none middle last : List ℤ) → rule ≡ Plain kind s f t m → xs ≡ f → ys ≡ t → none ≡ [] → middle ≡ none ++ map literal_of xs → OnOk r (last ≡ middle ++ map negation_of ys) → v ≤ 4096 → IsClauseRule rule → IsRuleOf v rule → OnOk r (All IsLiteral last)
clause_literals (Ok value) v rule kind s f t m xs ys none middle last e x y n a b few i h =
    let same : last ≡ map literal_of f ++ map negation_of t = b ∙ ap (λ w. w ++ map negation_of ys) (a ∙ ap (λ w. w ++ map literal_of xs) n ∙ ap (map literal_of) x) ∙ ap (λ w. map literal_of f ++ map negation_of w) y in
    subst (All IsLiteral) (sym same) (rule_literals v (Plain kind s f t m) few (subst IsClauseRule e i) (subst (IsRuleOf v) e h))
clause_literals (Err error) v rule kind s f t m xs ys none middle last e x y n a b few i h = tt

-- one clause more
pub clause_added : (rules : List Rule) (n : ℕ) (rule : Rule) (before middle after : List (List ℤ)) (clause : List ℤ) → slice_get rules n ≡ Some rule → middle ≡ before ++ take n (map rule_clause rules) → clause ≡ rule_clause rule → after ≡ middle ++ clause ∷ [] → after ≡ before ++ take (n + 1) (map rule_clause rules)
clause_added rules n rule before middle after clause r m c a =
    let l : n < length rules = slice_get_within rules n rule r in
    let k : n < length (map rule_clause rules) = omega (arith, length-map rules rule_clause) in
    let here : get_or (map rule_clause rules) n [] ≡ clause = get_or-map rule_clause rules n no_rule [] l ∙ ap rule_clause (get_or_from_slice_get rules n rule no_rule r) ∙ sym c in
    a ∙ ap (λ w. w ++ clause ∷ []) m ∙ append_assoc before (take n (map rule_clause rules)) (clause ∷ []) ∙ ap (λ w. before ++ (take n (map rule_clause rules) ++ w ∷ [])) (sym here) ∙ ap (λ w. before ++ w) (sym (take_more (map rule_clause rules) n [] k))
