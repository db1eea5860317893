-- The clauses that a formula's words say.
use Rattle.std.proofs.Common.{◌≡◌, ◌≢◌, ℕ, zero, suc, ◌-◌, ◌≤◌, ◌==◌, ◌&&◌, inl, inr, Bool, true, false, if◌then◌else◌, List, [], ◌∷◌, ◌++◌, length, map, Option, Some, None, Ok, Err, refl, sym, ap, ◌∙◌, subst, append_assoc, arith}
use Rattle.std.specs.Prelude.{ℤ, pos, negsuc, nat_le, codes}
use Rattle.std.proofs.lemmas.List.{append-nil}
use Rattle.std.proofs.lemmas.Bool.Decides.{eqb_tells, nat_tests}
use Rattle.dcsp_defs.proofs.Lists.{and_left, and_right}
use Rattle.dcsp_defs.specs.Words.{In}
use Rattle.dcsp_rule.specs.Problems.{Contents}
use Rattle.dcsp_common.specs.Limits.{most}
use Rattle.dcsp_problem.specs.Limits.{rule_refusal}
use Rattle.dcsp_common.specs.declared.limits.Which.TheVariants.{Variables}
use Rattle.dcsp_rule.specs.declared.rule.Rule.{Rule}
use Rattle.dcsp_rule.specs.declared.rule.Term.TheVariants.{Var}
use Rattle.dcsp_problem.specs.declared.limits.BuildError.{BuildError}
use Rattle.dcsp_problem.specs.declared.limits.BuildError.TheVariants as build
use Rattle.cnf_front.specs.declared.header.CnfError.TheVariants.{Syntax, Limit}
use Rattle.cnf_front.specs.declared.header.Mark.TheVariants.{P, Cnf, Clauses}
use Rattle.cnf_front.specs.declared.words.Stand.TheVariants.{Start}
use Rattle.cnf_front.specs.Dimacs.{TextWord, words}
use Rattle.cnf_front.specs.Formulas.{is_p, is_cnf, is_number, number_of, passes, expect, within_limit, variables_at, header, only_variables, problem_of, ◌>>=◌, is_end, literal_in, Clause, no_literals, terms_so_far, clause_rule, with_literal, refused_at, with_clause, with_last, with_word, clauses_from}
use Rattle.law_subjects.specs.Formulas.{plain_terms, negated_terms, rule_of, WriteEach, Says, no_more, last, clause, FormulasSayClauses}
use Rattle.law_subjects.proofs.Formulas.{texts_are_words}
use Rattle.law_subjects.proofs.Refusals.{bound, no_number, has_end}

-- the clause of literals
abbrev terms : List ℤ → Clause
terms literals = record { positive = plain_terms literals; negative = negated_terms literals }

plain_more : (literals : List ℤ) (z : ℤ) → plain_terms (literals ++ z ∷ []) ≡ plain_terms literals ++ plain_terms (z ∷ [])
plain_more [] z = refl
plain_more (pos n ∷ literals) z = ap (λ ts. Var (n - 1) ∷ ts) (plain_more literals z)
plain_more (negsuc n ∷ literals) z = plain_more literals z

negated_more : (literals : List ℤ) (z : ℤ) → negated_terms (literals ++ z ∷ []) ≡ negated_terms literals ++ negated_terms (z ∷ [])
negated_more [] z = refl
negated_more (pos n ∷ literals) z = negated_more literals z
negated_more (negsuc n ∷ literals) z = ap (λ ts. Var n ∷ ts) (negated_more literals z)

one_more : (literals : List ℤ) (z : ℤ) → with_literal (terms literals) z ≡ terms (literals ++ z ∷ [])
one_more literals (pos n) =
    let p = plain_more literals (pos n) in
    let q = negated_more literals (pos n) ∙ append-nil (negated_terms literals) in
    ap (λ a. terms_so_far a (negated_terms literals)) (sym p) ∙ ap (λ b. terms_so_far (plain_terms (literals ++ pos n ∷ [])) b) (sym q)
one_more literals (negsuc n) =
    let p = plain_more literals (negsuc n) ∙ append-nil (plain_terms literals) in
    let q = negated_more literals (negsuc n) in
    ap (λ a. terms_so_far a (negated_terms literals ++ Var n ∷ [])) (sym p) ∙ ap (λ b. terms_so_far (plain_terms (literals ++ negsuc n ∷ [])) b) (sym q)

-- ---- the clauses

write_more : (v : ℕ) (written : List TextWord) (w : TextWord) (literals : List ℤ) (z : ℤ) → WriteEach v written literals → literal_in v w.bytes ≡ Some z → z ≢ pos 0 → WriteEach v (written ++ w ∷ []) (literals ++ z ∷ [])
write_more v [] w [] z h is other = (is, other, tt)
write_more v [] w (y ∷ literals) z h is other = absurd h
write_more v (x ∷ written) w [] z h is other = absurd h
write_more v (x ∷ written) w (y ∷ literals) z h is other = (h.0, h.1, write_more v written w literals z h.2 is other)

nothing_written : (v : ℕ) (written : List TextWord) → WriteEach v written [] → written ≡ []
nothing_written v [] h = refl
nothing_written v (w ∷ written) h = absurd h

-- behind words that write literals, these say clauses, and the problem gains their rules
record SaysOn (v : ℕ) (literals : List ℤ) (ws : List TextWord) (p q : Contents) : Type 0 where
  clauses : List (List ℤ)
  says : (written : List TextWord) → WriteEach v written literals → Says v (written ++ ws) clauses
  rules : q ≡ record p { rules = p.rules ++ map rule_of clauses }

clause_rules : (at : ℕ) (p q : Contents) (literals : List ℤ) → with_clause at p (terms literals) ≡ Ok q → q ≡ record p { rules = p.rules ++ rule_of literals ∷ [] }
clause_rules at p q literals h = by_refusal (rule_refusal p (clause_rule (terms literals))) h where
  by_refusal : (o : Option BuildError) → refused_at at o (record p { rules = p.rules ++ rule_of literals ∷ [] }) ≡ Ok q → q ≡ record p { rules = p.rules ++ rule_of literals ∷ [] }
  by_refusal None e = cc
  by_refusal (Some (build.Limit which count)) e = cc
  by_refusal (Some build.WideSum) e = cc
  by_refusal (Some build.Memory) e = cc

-- whether there are no literals
has_none : (literals : List ℤ) → (length (plain_terms literals) == 0 && length (negated_terms literals) == 0) ≡ true → literals ≡ []
has_none [] h = refl
has_none (pos n ∷ literals) h =
    let zero_plain = and_left (length (plain_terms (pos n ∷ literals)) == 0) (length (negated_terms (pos n ∷ literals)) == 0) h in
    elim (eqb_tells (length (plain_terms (pos n ∷ literals))) 0) [ inl same ↦ absurd (omega (arith, same.1)) | inr other ↦ cc (other.0, zero_plain) ]
has_none (negsuc n ∷ literals) h =
    let zero_negated = and_right (length (plain_terms (negsuc n ∷ literals)) == 0) (length (negated_terms (negsuc n ∷ literals)) == 0) h in
    elim (eqb_tells (length (negated_terms (negsuc n ∷ literals))) 0) [ inl same ↦ absurd (omega (arith, same.1)) | inr other ↦ cc (other.0, zero_negated) ]

at_the_end : (v : ℕ) (w : TextWord) (ws : List TextWord) (p q : Contents) (literals : List ℤ) → is_end w.bytes ≡ true → with_last w.at p (terms literals) ≡ Ok q → SaysOn v literals (w ∷ ws) p q
at_the_end v w ws p q literals is h =
    (elim (length (plain_terms literals) == 0 && length (negated_terms literals) == 0) as (λ b. (length (plain_terms literals) == 0 && length (negated_terms literals) == 0) ≡ b → (if b then Ok p else with_clause w.at p (terms literals)) ≡ Ok q → SaysOn v literals (w ∷ ws) p q) [
      | true ↦ λ none e.
          let empty = has_none literals none in
          let same : q ≡ p = cc in
          record {
            clauses = [];
            says = λ written k. let no_words = nothing_written v written (subst (λ (zs : List ℤ). WriteEach v written zs) empty k) in no_more w ws (ap (λ (xs : List TextWord). xs ++ w ∷ ws) no_words) is refl;
            rules = same ∙ ap (λ (rs : List Rule). record p { rules = rs }) (sym (append-nil p.rules));
          }
      | false ↦ λ some e. record {
        clauses = literals ∷ [];
        says = λ written k. last written literals w ws k (λ empty. let none : (length (plain_terms literals) == 0 && length (negated_terms literals) == 0) ≡ true = ap (λ (zs : List ℤ). length (plain_terms zs) == 0 && length (negated_terms zs) == 0) empty in cc) refl is refl;
        rules = clause_rules w.at p q literals e;
      }
    ]) refl h

closed : (v : ℕ) (w : TextWord) (ws : List TextWord) (p q r : Contents) (literals : List ℤ) → literal_in v w.bytes ≡ Some (pos 0) → q ≡ record p { rules = p.rules ++ rule_of literals ∷ [] } → SaysOn v [] ws q r → SaysOn v literals (w ∷ ws) p r
closed v w ws p q r literals is rules h = record {
  clauses = literals ∷ h.clauses;
  says = λ written k. clause written literals w ws h.clauses k refl is refl (h.says [] tt);
  rules = h.rules ∙ ap (λ (x : Contents). record x { rules = x.rules ++ map rule_of h.clauses }) rules ∙ ap (λ (rs : List Rule). record p { rules = rs }) (append_assoc p.rules (rule_of literals ∷ []) (map rule_of h.clauses));
}

added : (v : ℕ) (w : TextWord) (ws : List TextWord) (p q : Contents) (literals : List ℤ) (z : ℤ) → literal_in v w.bytes ≡ Some z → z ≢ pos 0 → SaysOn v (literals ++ z ∷ []) ws p q → SaysOn v literals (w ∷ ws) p q
added v w ws p q literals z is other h = record {
  clauses = h.clauses;
  says = λ written k. subst (λ (xs : List TextWord). Says v xs h.clauses) (append_assoc written (w ∷ []) ws) (h.says (written ++ w ∷ []) (write_more v written w literals z k is other));
  rules = h.rules;
}

-- the text's end is among the words
abbrev HasEnd : List TextWord → Type 0
HasEnd ws = (w : TextWord) × In w ws × (w.bytes ≡ [])

end_behind : (w : TextWord) (ws : List TextWord) → HasEnd (w ∷ ws) → is_end w.bytes ≡ false → HasEnd ws
end_behind w ws end is = elim end.1 [
  | inl e ↦ absurd (let yes : is_end w.bytes ≡ true = ap (λ (x : TextWord). is_end x.bytes) (sym e) ∙ ap is_end end.2 in cc)
  | inr i ↦ (end.0, i, end.2)
]

-- a word that is not the end: a literal, or the end of a clause; `go` goes on behind it
literal_case : (v : ℕ) (w : TextWord) (ws : List TextWord) (p q : Contents) (literals : List ℤ)
    → ((next : Contents) (more : List ℤ) → clauses_from v next (terms more) ws ≡ Ok q → SaysOn v more ws next q)
    → (z : Option ℤ) → literal_in v w.bytes ≡ z → (with_word w.at p (terms literals) z >>= (λ s. clauses_from v s.0 s.1 ws)) ≡ Ok q → SaysOn v literals (w ∷ ws) p q
literal_case v w ws p q literals go None is h = cc
literal_case v w ws p q literals go (Some (pos zero)) is h =
    let on = λ (s : Contents × Clause). clauses_from v s.0 s.1 ws in
    let b = bound (with_word w.at p (terms literals) (Some (pos zero))) on q h in
    let c = bound (with_clause w.at p (terms literals)) (λ (next : Contents). Ok (next, no_literals)) b.0 b.1 in
    let same : (c.0, no_literals) ≡ b.0 = cc in
    let rest : clauses_from v c.0 (terms []) ws ≡ Ok q = ap on same ∙ b.2 in
    closed v w ws p c.0 q literals is (clause_rules w.at p c.0 literals c.1) (go c.0 [] rest)
literal_case v w ws p q literals go (Some (pos (suc n))) is h =
    added v w ws p q literals (pos (suc n)) is (λ e. cc) (go p (literals ++ pos (suc n) ∷ []) (ap (λ (c : Clause). clauses_from v p c ws) (sym (one_more literals (pos (suc n)))) ∙ h))
literal_case v w ws p q literals go (Some (negsuc n)) is h =
    added v w ws p q literals (negsuc n) is (λ e. cc) (go p (literals ++ negsuc n ∷ []) (ap (λ (c : Clause). clauses_from v p c ws) (sym (one_more literals (negsuc n))) ∙ h))

says_from : (v : ℕ) (ws : List TextWord) (p q : Contents) (literals : List ℤ) → HasEnd ws → clauses_from v p (terms literals) ws ≡ Ok q → SaysOn v literals ws p q
unfolding clauses_from
says_from v [] p q literals end h = absurd end.1
says_from v (w ∷ ws) p q literals end h =
    (elim (is_end w.bytes) as (λ t. is_end w.bytes ≡ t → (if t then with_last w.at p (terms literals) else (with_word w.at p (terms literals) (literal_in v w.bytes) >>= (λ s. clauses_from v s.0 s.1 ws))) ≡ Ok q → SaysOn v literals (w ∷ ws) p q) [
      | true ↦ λ is e. at_the_end v w ws p q literals is e
      | false ↦ λ is e. literal_case v w ws p q literals (λ next more. says_from v ws next q more (end_behind w ws end is)) (literal_in v w.bytes) refl e
    ]) refl h

-- ---- the header

equal : (x y : ℕ) → (x == y) ≡ true → x ≡ y
equal x y h = elim (eqb_tells x y) [ inl same ↦ same.1 | inr other ↦ cc (other.0, h) ]

p_is : (bytes : List ℕ) → is_p bytes ≡ true → bytes ≡ codes "p"
p_is [] h = cc
p_is (a ∷ []) h = ap (λ b. b ∷ []) (equal a 112 h)
p_is (a ∷ b ∷ bytes) h = cc

cnf_is : (bytes : List ℕ) → is_cnf bytes ≡ true → bytes ≡ codes "cnf"
cnf_is [] h = cc
cnf_is (a ∷ []) h = cc
cnf_is (a ∷ b ∷ []) h = cc
cnf_is (a ∷ b ∷ c ∷ []) h =
    let ab = and_left (a == 99 && b == 110) (c == 102) h in
    let is_f = and_right (a == 99 && b == 110) (c == 102) h in
    let is_c = and_left (a == 99) (b == 110) ab in
    let is_n = and_right (a == 99) (b == 110) ab in
    let f : c ≡ 102 = equal c 102 is_f in
    let n : b ≡ 110 = equal b 110 is_n in
    let e : a ≡ 99 = equal a 99 is_c in
    ap (λ x. x ∷ b ∷ c ∷ []) e ∙ ap (λ x. 99 ∷ x ∷ c ∷ []) n ∙ ap (λ x. 99 ∷ 110 ∷ x ∷ []) f
cnf_is (a ∷ b ∷ c ∷ d ∷ bytes) h = cc

-- the word that passed, and those behind it
passed_word : (test : List ℕ → Bool) (ws rest : List TextWord) → expect test ws ≡ Ok rest → (w : TextWord) × (ws ≡ w ∷ rest) × (test w.bytes ≡ true)
passed_word test [] rest h = cc
passed_word test (w ∷ ws) rest h =
    (elim (test w.bytes) as (λ t. test w.bytes ≡ t → (if t then Ok ws else Err (Syntax w.at)) ≡ Ok rest → (x : TextWord) × (w ∷ ws ≡ x ∷ rest) × (test x.bytes ≡ true)) [
      | true ↦ λ is e. let same : ws ≡ rest = cc in (w, ap (λ vs. w ∷ vs) same, is)
      | false ↦ λ is e. cc
    ]) refl h

counted_word : (ws : List TextWord) (x : ℕ × List TextWord) → variables_at ws ≡ Ok x → (w : TextWord) × (ws ≡ w ∷ x.1) × (number_of w.bytes ≡ Some x.0) × (x.0 ≤ 4096)
counted_word [] x h = cc
counted_word (w ∷ ws) x h = by_number (number_of w.bytes) refl h where
  by_number : (o : Option ℕ) → number_of w.bytes ≡ o → within_limit w.at o ws ≡ Ok x → (v : TextWord) × (w ∷ ws ≡ v ∷ x.1) × (number_of v.bytes ≡ Some x.0) × (x.0 ≤ 4096)
  by_number None is e = cc
  by_number (Some n) is e =
      (elim (nat_le n (most Variables)) as (λ t. nat_le n (most Variables) ≡ t → (if t then Ok (n, ws) else Err (Limit Variables n w.at)) ≡ Ok x → (v : TextWord) × (w ∷ ws ≡ v ∷ x.1) × (number_of v.bytes ≡ Some x.0) × (x.0 ≤ 4096)) [
        | true ↦ λ small f. let same : (n, ws) ≡ x = cc in (w, ap (λ (y : ℕ × List TextWord). w ∷ y.1) same, is ∙ ap (λ (y : ℕ × List TextWord). Some y.0) same, subst (λ (y : ℕ × List TextWord). y.0 ≤ 4096) same (grind (arith, nat_tests)))
        | false ↦ λ large f. cc
      ]) refl e

-- the words of a header, and the number of variables and the words behind it
record IsHeader (ws : List TextWord) (x : ℕ × List TextWord) : Type 0 where
  p : TextWord
  cnf : TextWord
  count : TextWord
  clause_count : TextWord
  parts : ws ≡ p ∷ cnf ∷ count ∷ clause_count ∷ x.1
  is_p : p.bytes ≡ codes "p"
  is_cnf : cnf.bytes ≡ codes "cnf"
  is_count : number_of count.bytes ≡ Some x.0
  is_number : is_number clause_count.bytes ≡ true
  within : x.0 ≤ 4096

header_words : (ws : List TextWord) (x : ℕ × List TextWord) → header ws ≡ Ok x → IsHeader ws x
unfolding header
header_words ws x h =
    let on_c = λ (v : ℕ × List TextWord). expect (passes Clauses) v.1 >>= (λ c. Ok (v.0, c)) in
    let on_v = λ (b : List TextWord). variables_at b >>= on_c in
    let on_b = λ (a : List TextWord). expect (passes Cnf) a >>= on_v in
    let a = bound (expect (passes P) ws) on_b x h in
    let b = bound (expect (passes Cnf) a.0) on_v x a.2 in
    let v = bound (variables_at b.0) on_c x b.2 in
    let c = bound (expect (passes Clauses) v.0.1) (λ (d : List TextWord). Ok (v.0.0, d)) x v.2 in
    let is : (v.0.0, c.0) ≡ x = cc in
    let first = passed_word (passes P) ws a.0 a.1 in
    let second = passed_word (passes Cnf) a.0 b.0 b.1 in
    let third = counted_word b.0 v.0 v.1 in
    let fourth = passed_word (passes Clauses) v.0.1 c.0 c.1 in
    subst (λ (y : ℕ × List TextWord). IsHeader ws y) is (record {
      p = first.0;
      cnf = second.0;
      count = third.0;
      clause_count = fourth.0;
      parts = first.1 ∙ ap (λ (ys : List TextWord). first.0 ∷ ys) (second.1 ∙ ap (λ (ys : List TextWord). second.0 ∷ ys) (third.1 ∙ ap (λ (ys : List TextWord). third.0 ∷ ys) fourth.1));
      is_p = p_is first.0.bytes first.2;
      is_cnf = cnf_is second.0.bytes second.2;
      is_count = third.2;
      is_number = fourth.2;
      within = third.3;
    })

-- the end of a text is behind four words that are not the end
end_after_header : (ws : List TextWord) (x : ℕ × List TextWord) → IsHeader ws x → HasEnd ws → HasEnd x.1
end_after_header ws x h end = by_place (subst (λ (vs : List TextWord). In end.0 vs) h.parts end.1) where
  none_is : (w : TextWord) → end.0 ≡ w → w.bytes ≡ []
  none_is w e = ap (λ (v : TextWord). v.bytes) (sym e) ∙ end.2

  by_place : In end.0 (h.p ∷ h.cnf ∷ h.count ∷ h.clause_count ∷ x.1) → HasEnd x.1
  by_place (inl e) = let none = none_is h.p e in absurd (cc (none, h.is_p))
  by_place (inr (inl e)) = let none = none_is h.cnf e in absurd (cc (none, h.is_cnf))
  by_place (inr (inr (inl e))) = let none : number_of h.count.bytes ≡ None = ap number_of (none_is h.count e) ∙ no_number in absurd (cc (none, h.is_count))
  by_place (inr (inr (inr (inl e)))) = let none : is_number h.clause_count.bytes ≡ false = ap is_number (none_is h.clause_count e) in absurd (cc (none, h.is_number))
  by_place (inr (inr (inr (inr i)))) = (end.0, i, end.2)

pub formulas_say_clauses : FormulasSayClauses
unfolding problem_of
formulas_say_clauses text p h =
    let all = words Start 0 text in
    let on = λ (x : ℕ × List TextWord). clauses_from x.0 (only_variables x.0) no_literals x.1 in
    let b = bound (header all) on p h in
    let head = header_words all b.0 b.1 in
    let end = has_end true 0 text all ((texts_are_words text all).1 refl) in
    let says = says_from b.0.0 b.0.1 (only_variables b.0.0) p [] (end_after_header all b.0 head end) b.2 in (
      b.0.0,
      says.clauses,
      record {
        p = head.p;
        cnf = head.cnf;
        count = head.count;
        clause_count = head.clause_count;
        rest = b.0.1;
        parts = head.parts;
        is_p = head.is_p;
        is_cnf = head.is_cnf;
        is_count = head.is_count;
        is_number = head.is_number;
        within = head.within;
        says = says.says [] tt;
      },
      says.rules,
    )
