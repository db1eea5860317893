-- The variables of a formula's problem.
use Rattle.std.proofs.Common.{◌≡◌, ◌⊎◌, ℕ, zero, suc, ◌<◌, ◌≤◌, true, eqb, ◌&&◌, List, [], ◌∷◌, length, replicate, Option, Some, None, Ok, Err, sym, ap, subst, ◌∙◌, inl, inr, arith}
use Rattle.std.specs.Prelude.{ℤ, pos, negsuc, nat_le, slice_index_or, ◌++◌}
use Rattle.std.proofs.lemmas.Bool.Decides.{nat_tests}
use Rattle.std.proofs.lemmas.List.{get_or-replicate, length-replicate}
use Rattle.dcsp_defs.specs.declared.nogood.Pair.{Pair}
use Rattle.dcsp_defs.specs.Words.{In}
use Rattle.dcsp_defs.specs.Csp.{domain}
use Rattle.dcsp_defs.specs.Derivation.{IsKnownPair}
use Rattle.dcsp_problem.specs.declared.limits.BuildError.{BuildError}
use Rattle.dcsp_problem.specs.declared.limits.BuildError.TheVariants as build
use Rattle.dcsp_common.specs.declared.limits.Which.TheVariants.{Variables}
use Rattle.dcsp_rule.specs.Problems.{Contents, csp_of}
use Rattle.dcsp_common.specs.Limits.{most}
use Rattle.dcsp_problem.specs.Limits.{rule_refusal}
use Rattle.cnf_front.specs.declared.header.Mark.TheVariants.{P, Cnf, Clauses}
use Rattle.cnf_front.specs.declared.words.Stand.TheVariants.{Start}
use Rattle.cnf_front.specs.Clauses.{IsBinary}
use Rattle.cnf_front.specs.Dimacs.{TextWord, words}
use Rattle.cnf_front.specs.Formulas.{◌>>=◌, Clause, no_literals, with_literal, clause_rule, refused_at, with_clause, with_last, with_word, clauses_from, header, passes, expect, within_limit, variables_at, number_of, literal_in, is_end, only_variables, problem_of}
use Rattle.abt_input.specs.Inputs.{IsFormulaOf}
use Rattle.cnf_front.proofs.ClauseLaws.{fine, fine_is, chosen, bind_fine}

-- ---- clauses add no variable

clause_keeps : (at : ℕ) (p q : Contents) (c : Clause) → with_clause at p c ≡ fine q → q.domains ≡ p.domains
clause_keeps at p q c e = of (rule_refusal p (clause_rule c)) e
  where
    of : (r : Option BuildError) → refused_at at r (record p { rules = p.rules ++ clause_rule c ∷ [] }) ≡ fine q → q.domains ≡ p.domains
    of None f = sym (ap (λ x. x.domains) (fine_is (record p { rules = p.rules ++ clause_rule c ∷ [] }) q f))
    of (Some (build.Limit which count)) f = absurd cc
    of (Some build.WideSum) f = absurd cc
    of (Some build.Memory) f = absurd cc

last_keeps : (at : ℕ) (p q : Contents) (c : Clause) → with_last at p c ≡ fine q → q.domains ≡ p.domains
last_keeps at p q c e = elim (chosen (eqb (length c.positive) 0 && eqb (length c.negative) 0) (fine p) (with_clause at p c) (fine q) e) [
  | inl f ↦ sym (ap (λ x. x.domains) (fine_is p q f.1))
  | inr f ↦ clause_keeps at p q c f.1
]

word_keeps : (at : ℕ) (p : Contents) (c : Clause) (z : Option ℤ) (s : Contents × Clause) → with_word at p c z ≡ fine s → s.0.domains ≡ p.domains
word_keeps at p c None s e = absurd cc
word_keeps at p c (Some (pos zero)) s e =
    bind_fine (with_clause at p c) (λ q. Ok (q, no_literals)) s e (λ q f g. sym (ap (λ (x : Contents × Clause). x.0.domains) (fine_is (q, no_literals) s g)) ∙ clause_keeps at p q c f)
word_keeps at p c (Some (pos (suc n))) s e = sym (ap (λ (x : Contents × Clause). x.0.domains) (fine_is (p, with_literal c (pos (suc n))) s e))
word_keeps at p c (Some (negsuc n)) s e = sym (ap (λ (x : Contents × Clause). x.0.domains) (fine_is (p, with_literal c (negsuc n)) s e))

clauses_keep : (v : ℕ) (p : Contents) (c : Clause) (ws : List TextWord) (q : Contents) → clauses_from v p c ws ≡ fine q → q.domains ≡ p.domains
unfolding clauses_from
clauses_keep v p c [] q e = sym (ap (λ x. x.domains) (fine_is p q e))
clauses_keep v p c (w ∷ ws) q e = elim (chosen (is_end w.bytes) (with_last w.at p c) (with_word w.at p c (literal_in v w.bytes) >>= (λ s. clauses_from v s.0 s.1 ws)) (fine q) e) [
  | inl f ↦ last_keeps w.at p q c f.1
  | inr f ↦ bind_fine (with_word w.at p c (literal_in v w.bytes)) (λ s. clauses_from v s.0 s.1 ws) q f.1 (λ s g i. clauses_keep v s.0 s.1 ws q i ∙ word_keeps w.at p c (literal_in v w.bytes) s g)
]

-- ---- the header's number is within its limit

few_within : (at : ℕ) (o : Option ℕ) (ws : List TextWord) (v : ℕ × List TextWord) → within_limit at o ws ≡ fine v → v.0 ≤ 4096
few_within at None ws v e = absurd cc
few_within at (Some n) ws v e = elim (chosen (nat_le n (most Variables)) (fine (n, ws)) (Err _) (fine v) e) [
  | inl f ↦ subst (λ (x : ℕ × List TextWord). x.0 ≤ 4096) (fine_is (n, ws) v f.1) (let t : nat_le n 4096 ≡ true = f.0 in grind (arith, nat_tests))
  | inr f ↦ absurd (let g = f.1 in cc)
]

few_at : (ws : List TextWord) (v : ℕ × List TextWord) → variables_at ws ≡ fine v → v.0 ≤ 4096
few_at [] v e = absurd cc
few_at (w ∷ ws) v e = few_within w.at (number_of w.bytes) ws v e

few_in_header : (ws : List TextWord) (h : ℕ × List TextWord) → header ws ≡ fine h → h.0 ≤ 4096
unfolding header
few_in_header ws h e =
    bind_fine (expect (passes P) ws) _ h e (λ a i f.
    bind_fine (expect (passes Cnf) a) _ h f (λ b j g.
    bind_fine (variables_at b) _ h g (λ v k l.
    bind_fine (expect (passes Clauses) v.1) _ h l (λ c m n. subst (λ (x : ℕ × List TextWord). x.0 ≤ 4096) (fine_is (v.0, c) h n) (few_at b v k)))))

-- ---- the whole

-- the values of a variable
abbrev pub binary : List ℤ
binary = pos 0 ∷ pos 1 ∷ []

-- so many variables, each with the values 0 and 1
pub record HasBinary (p : Contents) (n : ℕ) : Type 0 where
  pub few : n ≤ 4096
  pub domains : p.domains ≡ replicate n binary

variables_of : (text : List ℕ) (p : Contents) → problem_of text ≡ fine p → (n : ℕ) × HasBinary p n
unfolding problem_of
variables_of text p e =
    bind_fine (header (words Start 0 text)) (λ h. clauses_from h.0 (only_variables h.0) no_literals h.1) p e (λ h f g. (h.0, record { few = few_in_header (words Start 0 text) h f; domains = clauses_keep h.0 (only_variables h.0) no_literals h.1 p g }))

pub formula_binary : (text : List ℕ) (p : Contents) → IsFormulaOf text p → (n : ℕ) × HasBinary p n
formula_binary text p h = variables_of text p h.reads

module _ (p : Contents) (n : ℕ) (h : HasBinary p n) where
  pub count_is : length p.domains ≡ n
  count_is = ap length h.domains ∙ length-replicate n binary

  pub domain_is : (x : ℕ) → x < n → domain (csp_of p) x ≡ binary
  domain_is x l = ap (λ d. slice_index_or d x []) h.domains ∙ get_or-replicate n x binary [] l

  pub value_is : (x : ℕ) (v : ℤ) → x < n → In v (domain (csp_of p) x) → (v ≡ pos 0) ⊎ (v ≡ pos 1)
  value_is x v l i = of (subst (In v) (domain_is x l) i)
    where
      of : In v binary → (v ≡ pos 0) ⊎ (v ≡ pos 1)
      of (inl e) = inl e
      of (inr (inl e)) = inr e
      of (inr (inr e)) = absurd e

  pub pair_binary : (y : Pair) → IsKnownPair (csp_of p) y → IsBinary y
  pair_binary y k = let c = count_is in let l : y.var < length p.domains = k.variable in let m : y.var < n = omega (arith, c, l) in let few = h.few in record { variable = omega (arith, m, few); value = value_is y.var y.value m k.value }
