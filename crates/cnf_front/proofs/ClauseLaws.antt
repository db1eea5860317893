-- The rules of a DIMACS text are clauses over variables.
use Rattle.std.proofs.Common.{◌≡◌, ℕ, zero, suc, ◌-◌, ◌&&◌, Bool, true, false, cond, eqb, List, [], ◌∷◌, ◌++◌, length, ◌⊎◌, inl, inr, Option, Some, None, Result, Ok, Err, refl, subst, arith}
use Rattle.std.specs.Prelude.{ℤ, pos, negsuc, All, IfOk}
use Rattle.std.proofs.lemmas.List.Elements.{All-push}
use Rattle.dcsp_problem.specs.declared.limits.BuildError.{BuildError}
use Rattle.dcsp_problem.specs.declared.limits.BuildError.TheVariants as build
use Rattle.dcsp_rule.specs.declared.rule.Term.TheVariants.{Var}
use Rattle.dcsp_rule.specs.Problems.{Contents}
use Rattle.dcsp_problem.specs.Limits.{rule_refusal}
use Rattle.cnf_front.specs.declared.header.CnfError.{CnfError}
use Rattle.cnf_front.specs.declared.words.Stand.TheVariants.{Start}
use Rattle.cnf_front.specs.Clauses.{IsVariable, IsClauseRule}
use Rattle.cnf_front.specs.Dimacs.{TextWord, words}
use Rattle.cnf_front.specs.Formulas.{◌>>=◌, Gives, Clause, no_literals, with_literal, clause_rule, refused_at, with_clause, with_last, with_word, clauses_from, header, literal_in, is_end, only_variables, problem_of}

nothing : {X : Type 0} (P : X → Type 0) → All P []
nothing P k d l = absurd (omega arith)

-- each term is a variable
record AreVariables (c : Clause) : Type 0 where
  positive : All IsVariable c.positive
  negative : All IsVariable c.negative

no_terms : AreVariables no_literals
no_terms = record { positive = nothing IsVariable; negative = nothing IsVariable }

abbrev pub fine : {X : Type 0} → X → Result X CnfError
fine x = Ok x

pub fine_is : {X : Type 0} (x y : X) → fine x ≡ fine y → x ≡ y
fine_is x y e = cc

-- which way a test went
pub chosen : {A : Type 0} (b : Bool) (x y z : A) → cond b x y ≡ z → ((b ≡ true) × (x ≡ z)) ⊎ ((b ≡ false) × (y ≡ z))
chosen true x y z e = inl (refl, e)
chosen false x y z e = inr (refl, e)

pub bind_fine : {A B P : Type 0} (r : Result A CnfError) (f : A → Result B CnfError) (y : B) → (r >>= f) ≡ fine y → ((x : A) → r ≡ fine x → f x ≡ fine y → P) → P
bind_fine (Ok x) f y e go = go x refl e
bind_fine (Err x) f y e go = absurd cc

added : (at : ℕ) (p q : Contents) (c : Clause) → All IsClauseRule p.rules → AreVariables c → with_clause at p c ≡ fine q → All IsClauseRule q.rules
added at p q c h v e = of (rule_refusal p (clause_rule c)) e where
  of : (r : Option BuildError) → refused_at at r (record p { rules = p.rules ++ clause_rule c ∷ [] }) ≡ fine q → All IsClauseRule q.rules
  of None f = subst (λ x. All IsClauseRule x.rules) (fine_is (record p { rules = p.rules ++ clause_rule c ∷ [] }) q f) (All-push IsClauseRule p.rules (clause_rule c) h (refl, v.positive, v.negative))
  of (Some (build.Limit which count)) f = absurd cc
  of (Some build.WideSum) f = absurd cc
  of (Some build.Memory) f = absurd cc

last_added : (at : ℕ) (p q : Contents) (c : Clause) → All IsClauseRule p.rules → AreVariables c → with_last at p c ≡ fine q → All IsClauseRule q.rules
last_added at p q c h v e =
    (elim (chosen (eqb (length c.positive) 0 && eqb (length c.negative) 0) (fine p) (with_clause at p c) (fine q) e) [
      | inl f ↦ subst (λ x. All IsClauseRule x.rules) (fine_is p q f.1) h
      | inr f ↦ added at p q c h v f.1
    ])

-- what is so of the problem and the clause so far
record SoFar (s : Contents × Clause) : Type 0 where
  rules : All IsClauseRule s.0.rules
  terms : AreVariables s.1

word_added : (at : ℕ) (p : Contents) (c : Clause) (z : Option ℤ) (s : Contents × Clause) → All IsClauseRule p.rules → AreVariables c → with_word at p c z ≡ fine s → SoFar s
word_added at p c None s h v e = absurd cc
word_added at p c (Some (pos zero)) s h v e =
    bind_fine (with_clause at p c) (λ q. Ok (q, no_literals)) s e (λ q f g. subst SoFar (fine_is (q, no_literals) s g) record { rules = added at p q c h v f; terms = no_terms })
word_added at p c (Some (pos (suc n))) s h v e = subst SoFar (fine_is (p, with_literal c (pos (suc n))) s e) record { rules = h; terms = record { positive = All-push IsVariable c.positive (Var (suc n - 1)) v.positive tt; negative = v.negative } }
word_added at p c (Some (negsuc n)) s h v e = subst SoFar (fine_is (p, with_literal c (negsuc n)) s e) record { rules = h; terms = record { positive = v.positive; negative = All-push IsVariable c.negative (Var n) v.negative tt } }

rules_from : (v : ℕ) (p : Contents) (c : Clause) (ws : List TextWord) (q : Contents) → All IsClauseRule p.rules → AreVariables c → clauses_from v p c ws ≡ fine q → All IsClauseRule q.rules
unfolding clauses_from
rules_from v p c [] q h t e = subst (λ x. All IsClauseRule x.rules) (fine_is p q e) h
rules_from v p c (w ∷ ws) q h t e =
    (elim (chosen (is_end w.bytes) (with_last w.at p c) (with_word w.at p c (literal_in v w.bytes) >>= (λ s. clauses_from v s.0 s.1 ws)) (fine q) e) [
      | inl f ↦ last_added w.at p q c h t f.1
      | inr f ↦ bind_fine (with_word w.at p c (literal_in v w.bytes)) (λ s. clauses_from v s.0 s.1 ws) q f.1 (λ s g i. (let r = word_added w.at p c (literal_in v w.bytes) s h t g in rules_from v s.0 s.1 ws q r.rules r.terms i))
    ])

problem_rules : (text : List ℕ) (q : Contents) → problem_of text ≡ fine q → All IsClauseRule q.rules
unfolding problem_of
problem_rules text q e =
    bind_fine (header (words Start 0 text)) (λ h. clauses_from h.0 (only_variables h.0) no_literals h.1) q e (λ h f g. rules_from h.0 (only_variables h.0) no_literals h.1 q (nothing IsClauseRule) no_terms g)

-- the rules of the problem that was given
pub given_rules : (text : List ℕ) (r : Result Contents CnfError) → Gives (λ (p : Contents). p) r (problem_of text) → IfOk r (λ p. All IsClauseRule p.rules)
given_rules text (Ok p) g = problem_rules text p g
given_rules text (Err e) g = tt
