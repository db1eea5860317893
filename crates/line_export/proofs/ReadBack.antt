-- The clauses of a formula are read as they were written.
use Rattle.std.proofs.Common.{◌≡◌, ◌⊎◌, ℕ, zero, suc, ◌+◌, ◌-◌, ◌^◌, ◌<◌, ◌≤◌, ◌==◌, Bool, true, false, List, [], ◌∷◌, ◌++◌, length, map, Some, None, Ok, refl, sym, ap, subst, ◌∙◌, inl, inr, append_assoc, append-nil, length-append, arith}
use Rattle.std.specs.Prelude.{ℤ, pos, negsuc, codes, decimal, unsigned_abs, flat_map, sum_by, nat_lt, ⊤, if◌then◌else◌}
use Rattle.std.specs.List.{AllByRecursion}
use Rattle.std.specs.Fmt.{signed_decimal}
use Rattle.std.proofs.lemmas.List.{length-map, map-append}
use Rattle.std.proofs.lemmas.List.Sums.{sum_by-cons, sum_by-append}
use Rattle.std.proofs.lemmas.Bool.Decides.{nat_tests}
use Rattle.dcsp_rule.specs.declared.rule.Term.{Term}
use Rattle.dcsp_rule.specs.declared.rule.Term.TheVariants.{Var}
use Rattle.dcsp_rule.specs.declared.rule.Rule.{Rule}
use Rattle.dcsp_rule.specs.Rules.{size_of}
use Rattle.dcsp_rule.specs.Problems.{Contents, term_count}
use Rattle.dcsp_problem.specs.Limits.{rule_refusal}
use Rattle.rup_check.specs.ProofText.{literal_text, clause_line, proof_text}
use Rattle.cnf_front.specs.Clauses.{literal_of, negation_of, rule_clause}
use Rattle.cnf_front.specs.Dimacs.{TextWord, word_at, words}
use Rattle.cnf_front.specs.Formulas as formulas
use Rattle.cnf_front.specs.Formulas.{is_end, literal_in, plain, negated, number_of, with_literal, no_literals, clause_rule, refused_at, with_clause, with_word, clauses_from, ◌>>=◌, and_then}
use Rattle.line_export.proofs.Words.{IsOfNumber, IsDigitsOf, decimal_digits, number_read, decimal_bytes, zero_text, bytes_read, signed_bytes, stand_of}

-- ---- one literal

-- a literal of so many atoms
pub record IsOf (atoms : ℕ) (z : ℤ) : Type 0 where
  pub some : 0 < unsigned_abs z
  pub bounded : unsigned_abs z ≤ atoms

plain_read : (atoms n : ℕ) → n ≤ atoms → plain atoms n ≡ Some (pos n)
unfolding plain
plain_read atoms n l = grind (arith, nat_tests, l)

negated_read : (atoms n : ℕ) → suc n ≤ atoms → negated atoms (suc n) ≡ Some (negsuc n)
unfolding negated
negated_read atoms n l = grind (arith, nat_tests, l)

digits_literal : (atoms n : ℕ) (ds : List ℕ) → IsDigitsOf n ds → number_of ds ≡ Some n → n ≤ atoms → literal_in atoms ds ≡ Some (pos n)
unfolding literal_in
digits_literal atoms n ds h is l =
    ap (literal_in atoms) h.parts ∙ ap (λ t. if t then and_then (number_of h.others) (negated atoms) else and_then (number_of (h.first ∷ h.others)) (plain atoms)) h.plain
    ∙ ap (λ bytes. and_then (number_of bytes) (plain atoms)) (sym h.parts) ∙ ap (λ o. and_then o (plain atoms)) is ∙ plain_read atoms n l

-- a literal is read as it is written
literal_read : (atoms : ℕ) (z : ℤ) → atoms < 2 ^ 64 → IsOf atoms z → literal_in atoms (signed_decimal z) ≡ Some z
unfolding literal_in
literal_read atoms (pos n) few h = let b : n ≤ atoms = h.bounded in digits_literal atoms n (decimal n) (decimal_digits n (omega arith)) (number_read n (omega arith)) b
literal_read atoms (negsuc n) few h = let b : suc n ≤ atoms = h.bounded in ap (λ o. and_then o (negated atoms)) (number_read (suc n) (omega arith)) ∙ negated_read atoms n b

zero_read : (atoms : ℕ) → literal_in atoms (48 ∷ []) ≡ Some (pos 0)
zero_read atoms = subst (λ bytes. literal_in atoms bytes ≡ Some (pos 0)) zero_text (digits_literal atoms 0 (decimal 0) (decimal_digits 0 (omega arith)) (number_read 0 (omega arith)) (omega arith))

no_end : (b : ℕ) (bytes : List ℕ) → (b == 37) ≡ false → is_end (b ∷ bytes) ≡ false
no_end b [] h = h
no_end b (c ∷ bytes) h = refl

number_no_end : (bytes : List ℕ) → (bytes ≡ [] → ⊥) → AllByRecursion IsOfNumber bytes → is_end bytes ≡ false
number_no_end [] some h = absurd (some refl)
number_no_end (b ∷ bytes) some h = no_end b bytes h.0.no_end

signed_some : (z : ℤ) (atoms : ℕ) → atoms < 2 ^ 64 → IsOf atoms z → signed_decimal z ≡ [] → ⊥
signed_some (pos n) atoms few h e = let b : n ≤ atoms = h.bounded in let d = decimal_digits n (omega arith) in let no = sym d.parts ∙ e in cc
signed_some (negsuc n) atoms few h e = cc

-- ---- a clause's terms

-- the clause with these literals too
abbrev with_literals : formulas.Clause → List ℤ → formulas.Clause
with_literals c [] = c
with_literals c (z ∷ zs) = with_literals (with_literal c z) zs

abbrev var_of : ℤ → Term
var_of z = Var (unsigned_abs z - 1)

abbrev terms_of : List Term → List Term → formulas.Clause
terms_of positive negative = record { positive = positive; negative = negative }

-- literals with no sign, and with one
abbrev pub IsPlain : ℤ → Type 0
IsPlain (pos n) = 0 < n
IsPlain (negsuc n) = ⊥

abbrev pub IsNegated : ℤ → Type 0
IsNegated (pos n) = ⊥
IsNegated (negsuc n) = ⊤

plain_terms : (zs : List ℤ) (before : List Term) → AllByRecursion IsPlain zs → with_literals (terms_of before []) zs ≡ terms_of (before ++ map var_of zs) []
plain_terms [] before h = ap (λ ts. terms_of ts []) (sym (append-nil before))
plain_terms (pos n ∷ zs) before h = plain_terms zs (before ++ Var (n - 1) ∷ []) h.1 ∙ ap (λ ts. terms_of ts []) (append_assoc before (Var (n - 1) ∷ []) (map var_of zs))
plain_terms (negsuc n ∷ zs) before h = absurd h.0

negated_terms : (zs : List ℤ) (before : List Term) → AllByRecursion IsNegated zs → with_literals (terms_of [] before) zs ≡ terms_of [] (before ++ map var_of zs)
negated_terms [] before h = ap (λ ts. terms_of [] ts) (sym (append-nil before))
negated_terms (pos n ∷ zs) before h = absurd h.0
negated_terms (negsuc n ∷ zs) before h = let e : suc n - 1 ≡ n = omega arith in negated_terms zs (before ++ Var n ∷ []) h.1 ∙ ap (λ ts. terms_of [] ts) (append_assoc before (Var n ∷ []) (map var_of zs)) ∙ ap (λ m. terms_of [] (before ++ Var m ∷ map var_of zs)) (sym e)

plain_back : (zs : List ℤ) → AllByRecursion IsPlain zs → map literal_of (map var_of zs) ≡ zs
plain_back [] h = refl
plain_back (pos n ∷ zs) h = let l = h.0 in let e : n - 1 + 1 ≡ n = omega (arith, l) in ap (λ m. pos m ∷ map literal_of (map var_of zs)) e ∙ ap (λ ys. pos n ∷ ys) (plain_back zs h.1)
plain_back (negsuc n ∷ zs) h = absurd h.0

negated_back : (zs : List ℤ) → AllByRecursion IsNegated zs → map negation_of (map var_of zs) ≡ zs
negated_back [] h = refl
negated_back (pos n ∷ zs) h = absurd h.0
negated_back (negsuc n ∷ zs) h = let e : suc n - 1 ≡ n = omega arith in ap (λ m. negsuc m ∷ map negation_of (map var_of zs)) e ∙ ap (λ ys. negsuc n ∷ ys) (negated_back zs h.1)

-- the rule that is made of a clause says it, and is as long
record IsRuleFor (zs : List ℤ) (c : formulas.Clause) : Type 0 where
  clause : rule_clause (clause_rule c) ≡ zs
  size : size_of (clause_rule c) ≡ length zs
  first : length c.positive ≤ length zs
  second : length c.negative ≤ length zs

-- the literals have one sign
abbrev pub HasOneSign : List ℤ → Type 0
HasOneSign zs = AllByRecursion IsPlain zs ⊎ AllByRecursion IsNegated zs

rule_for : (zs : List ℤ) → HasOneSign zs → IsRuleFor zs (with_literals no_literals zs)
rule_for zs (inl h) = subst (IsRuleFor zs) (sym (plain_terms zs [] h)) record {
  clause = append-nil (map literal_of (map var_of zs)) ∙ plain_back zs h;
  size = (let a = length-map zs var_of in let b = length-append (map var_of zs) [] in omega (arith, a, b));
  first = (let a = length-map zs var_of in omega (arith, a));
  second = omega arith;
}
rule_for zs (inr h) = subst (IsRuleFor zs) (sym (negated_terms zs [] h)) record {
  clause = negated_back zs h;
  size = (let a = length-map zs var_of in omega (arith, a));
  first = omega arith;
  second = (let a = length-map zs var_of in omega (arith, a));
}

-- ---- a rule within the limits

within : (most count : ℕ) → count ≤ most → nat_lt most count ≡ false
within most count l = grind (arith, nat_tests, l)

accepted_rule : (p : Contents) (c : formulas.Clause) → length c.positive ≤ 65536 → length c.negative ≤ 65536 → length p.rules + 1 ≤ 262144 → term_count p + size_of (clause_rule c) ≤ 1048576 → rule_refusal p (clause_rule c) ≡ None
accepted_rule p c a b r t = rw (within 65536 (length c.positive) a, within 65536 (length c.negative) b, within 262144 (length p.rules + 1) r, within 1048576 (term_count p + size_of (clause_rule c)) t) refl

-- the problem with one more rule
abbrev with_rule : Contents → Rule → Contents
with_rule p rule = record p { rules = p.rules ++ rule ∷ [] }

-- a clause that can be written: its literals are of so many atoms and have one sign, and are not too many
pub record IsFine (atoms : ℕ) (zs : List ℤ) : Type 0 where
  pub literals : AllByRecursion (IsOf atoms) zs
  pub sign : HasOneSign zs
  pub short : length zs ≤ 65536

abbrev rule_of : List ℤ → Rule
rule_of zs = clause_rule (with_literals no_literals zs)

closed : (at : ℕ) (p : Contents) (zs : List ℤ) (atoms : ℕ) → IsFine atoms zs → length p.rules + 1 ≤ 262144 → term_count p + length zs ≤ 1048576 → with_clause at p (with_literals no_literals zs) ≡ Ok (with_rule p (rule_of zs))
closed at p zs atoms h r t =
    let is = rule_for zs h.sign in
    let s = h.short in
    let size = is.size in
    let first = is.first in
    let second = is.second in
    ap (λ o. refused_at at o (with_rule p (rule_of zs))) (accepted_rule p (with_literals no_literals zs) (omega (arith, s, first)) (omega (arith, s, second)) r (omega (arith, t, size)))

-- ---- the words of a clause

module _ (atoms : ℕ) (few : atoms < 2 ^ 64) where
  -- what a word that is a literal does
  literal_word : (p : Contents) (c : formulas.Clause) (z : ℤ) (at : ℕ) (ws : List TextWord) → IsOf atoms z → clauses_from atoms p c (word_at (signed_decimal z) at ∷ ws) ≡ clauses_from atoms p (with_literal c z) ws
  unfolding clauses_from
  literal_word p c z at ws h = rw (number_no_end (signed_decimal z) (signed_some z atoms few h) (signed_bytes z), literal_read atoms z few h) (of z h.some)
    where
      of : (y : ℤ) → 0 < unsigned_abs y → (with_word at p c (Some y) >>= (λ s. clauses_from atoms s.0 s.1 ws)) ≡ clauses_from atoms p (with_literal c y) ws
      of (pos zero) l = absurd (omega (arith, l))
      of (pos (suc n)) l = refl
      of (negsuc n) l = refl

  -- and what the one that closes a clause does
  zero_word : (p q : Contents) (c : formulas.Clause) (at : ℕ) (ws : List TextWord) → with_clause at p c ≡ Ok q → clauses_from atoms p c (word_at (48 ∷ []) at ∷ ws) ≡ clauses_from atoms q no_literals ws
  unfolding clauses_from
  zero_word p q c at ws h = rw (zero_read atoms, h) refl

  -- the line of a clause, of which the first literals were read
  line_read : (p q : Contents) (c : formulas.Clause) (zs : List ℤ) (line : Bool) (at : ℕ) (more : List ℕ) → AllByRecursion (IsOf atoms) zs → ((n : ℕ) → with_clause n p (with_literals c zs) ≡ Ok q)
      → (n : ℕ) × (clauses_from atoms p c (words (stand_of line) at (clause_line zs ++ more)) ≡ clauses_from atoms q no_literals (words (stand_of true) n more))
  line_read p q c [] line at more h closes =
      let r = bytes_read line (48 ∷ []) at 10 more (λ e. cc) (subst (λ bytes. AllByRecursion IsOfNumber bytes) zero_text (decimal_bytes 0)) refl in
      (r.0, ap (clauses_from atoms p c) r.1 ∙ zero_word p q c at (words (stand_of true) r.0 more) (closes at))
  line_read p q c (z ∷ zs) line at more h closes =
      let rest = clause_line zs ++ more in
      let parts : clause_line (z ∷ zs) ++ more ≡ signed_decimal z ++ 32 ∷ rest =
      ap (λ l. l ++ more) (append_assoc (literal_text z) (flat_map literal_text zs) (codes "0\n")) ∙ append_assoc (literal_text z) (clause_line zs) more ∙ append_assoc (signed_decimal z) (codes " ") rest in
      let r = bytes_read line (signed_decimal z) at 32 rest (signed_some z atoms few h.0) (signed_bytes z) refl in
      let s = line_read p q (with_literal c z) zs false r.0 more h.1 closes in
      (s.0, ap (λ text. clauses_from atoms p c (words (stand_of line) at text)) parts ∙ ap (clauses_from atoms p c) r.1 ∙ literal_word p c z at (words (stand_of false) r.0 rest) h.0 ∙ s.1)

  -- ---- all clauses

  pub lines_read : (clauses : List (List ℤ)) (p : Contents) (at : ℕ) → AllByRecursion (IsFine atoms) clauses → length p.rules + length clauses ≤ 262144 → term_count p + sum_by length clauses ≤ 1048576
      → (q : Contents) × (clauses_from atoms p no_literals (words (stand_of true) at (proof_text clauses)) ≡ Ok q) × (map rule_clause q.rules ≡ map rule_clause p.rules ++ clauses)
  unfolding clauses_from words
  lines_read [] p at h r t = (p, refl, sym (append-nil (map rule_clause p.rules)))
  lines_read (zs ∷ clauses) p at h r t =
      let more = sum_by-cons length zs clauses in
      let q = with_rule p (rule_of zs) in
      let is = rule_for zs h.0.sign in
      let size = is.size in
      let rules = length-append p.rules (rule_of zs ∷ []) in
      let terms = sum_by-append size_of p.rules (rule_of zs ∷ []) in
      let l = line_read p q no_literals zs true at (proof_text clauses) h.0.literals (λ n. closed n p zs atoms h.0 (omega (arith, r)) (omega (arith, t, more))) in
      let s = lines_read clauses q l.0 h.1 (omega (arith, r, rules)) (omega (arith, t, more, terms, size)) in
      (s.0, l.1 ∙ s.1, s.2 ∙ ap (λ cs. cs ++ clauses) (map-append rule_clause p.rules (rule_of zs ∷ [])) ∙ append_assoc (map rule_clause p.rules) (rule_clause (rule_of zs) ∷ []) clauses ∙ ap (λ c. map rule_clause p.rules ++ c ∷ clauses) is.clause)
