-- An exported formula is read as the clauses that were written.
use Rattle.std.proofs.Common.{◌≡◌, ℕ, zero, suc, ◌+◌, ◌*◌, ◌^◌, ◌<◌, ◌≤◌, Bool, true, false, List, [], ◌∷◌, ◌++◌, length, map, Ok, Result, refl, sym, ap, subst, ◌∙◌, append_assoc, append-nil, length-append, arith}
use Rattle.std.specs.Prelude.{ℤ, codes, decimal, flat_map, sum_by, nat_le}
use Rattle.std.specs.List.{AllByRecursion, concat}
use Rattle.std.specs.Fmt.{signed_decimal}
use Rattle.std.proofs.lemmas.List.{length-map}
use Rattle.std.proofs.lemmas.List.Folds.{concat-append}
use Rattle.std.proofs.lemmas.Bool.Decides.{nat_tests}
use Rattle.std.proofs.lemmas.Grind.{flat_map-append}
use Rattle.std.proofs.lemmas.List.Sums.{sum_by-cons}
use Rattle.dcsp_defs.specs.Words.{below}
use Rattle.dcsp_defs.specs.Csp.{Csp, domain, count}
use Rattle.dcsp_rule.specs.Problems.{Contents, csp_of, value_count}
use Rattle.rup_check.specs.ProofText.{literal_text, clause_line, proof_text}
use Rattle.cnf_front.specs.declared.header.CnfError.{CnfError}
use Rattle.cnf_front.specs.declared.words.Stand.TheVariants.{Start, Inside}
use Rattle.cnf_front.specs.Dimacs.{TextWord, word_at, words}
use Rattle.cnf_front.specs.Formulas.{header, problem_of, only_variables, no_literals, clauses_from, ◌>>=◌}
use Rattle.abt_input.specs.Inputs.{IsFormulaOf}
use Rattle.line_cnf.specs.Satisfying.{clauses_of}
use Rattle.line_cnf.proofs.CnfTexts.{literal_short}
use Rattle.line_export.specs.Clauses.{Clause}
use Rattle.line_export.specs.Atoms.{values_before, atoms_before}
use Rattle.line_export.specs.Texts.{atom_line, variable_lines, atom_lines, header_line}
use Rattle.line_export.specs.Exporting.{cnf_text}
use Rattle.line_export.proofs.Numbering.{all_values}
use Rattle.line_export.proofs.Words.{AreInLine, inside_byte, start_byte, decimal_some, word_read, comment_read, number_read, number_is, bytes_read, decimal_bytes, decimal_short, signed_bytes, signed_short, in_lines}
use Rattle.line_export.proofs.ReadBack.{IsOf, IsFine, lines_read}

-- ---- comments

-- a line that says nothing, and is not long
record IsComment (line : List ℕ) : Type 0 where
  bytes : List ℕ
  is : line ≡ 99 ∷ bytes ++ 10 ∷ []
  in_line : AreInLine bytes
  short : length line ≤ 256

both_in_line : (one other : List ℕ) → AreInLine one → AreInLine other → AreInLine (one ++ other)
both_in_line [] other h k = k
both_in_line (b ∷ one) other h k = (h.0, both_in_line one other h.1 k)

atom_comment : (p : Csp) (k : ℕ) (value : ℤ) → IsComment (atom_line p k value)
atom_comment p k value =
    let n = decimal (k + 1) in
    let v = signed_decimal value in
    let a = decimal (suc (atoms_before p k value)) in
    let one = codes " v" ++ n in
    let two = one ++ codes "=" in
    let three = two ++ v in
    let four = three ++ codes " is " in
    let d = length-append (codes " v") n in
    let e = length-append one (codes "=") in
    let f = length-append two v in
    let g = length-append three (codes " is ") in
    let h = length-append four a in
    let i = length-append (four ++ a) (codes "\n") in
    let x = decimal_short (k + 1) in
    let y = signed_short value in
    let z = decimal_short (suc (atoms_before p k value)) in
    record {
      bytes = four ++ a;
      is = refl;
      in_line = both_in_line four a (both_in_line three (codes " is ") (both_in_line two v (both_in_line one (codes "=") (both_in_line (codes " v") n (refl, (refl, tt)) (in_lines n (decimal_bytes (k + 1)))) (refl, tt)) (in_lines v (signed_bytes value))) (refl, (refl, (refl, (refl, tt))))) (in_lines a (decimal_bytes (suc (atoms_before p k value))));
      short = omega (arith, d, e, f, g, h, i, x, y, z);
    }

-- lines that say nothing
comments_read : (lines : List (List ℕ)) → AllByRecursion IsComment lines → (at : ℕ) (rest : List ℕ) → (n : ℕ) × (words Start at (concat lines ++ rest) ≡ words Start n rest)
comments_read [] h at rest = (at, refl)
comments_read (line ∷ lines) h at rest =
    let c = h.0 in
    let more = concat lines ++ rest in
    let parts : (line ++ concat lines) ++ rest ≡ 99 ∷ c.bytes ++ 10 ∷ more =
    append_assoc line (concat lines) rest ∙ ap (λ l. l ++ more) c.is ∙ append_assoc (99 ∷ c.bytes) (10 ∷ []) more in
    let r = comment_read c.bytes at more c.in_line in
    let s = comments_read lines h.1 r.0 rest in
    (s.0, ap (words Start at) parts ∙ r.1 ∙ s.1)

comments_short : (lines : List (List ℕ)) → AllByRecursion IsComment lines → length (concat lines) ≤ 256 * length lines
comments_short [] h = omega arith
comments_short (line ∷ lines) h = let ih = comments_short lines h.1 in let a = length-append line (concat lines) in let s = h.0.short in omega (arith, ih, a, s)

all_both : {X : Type 0} (P : X → Type 0) (one other : List X) → AllByRecursion P one → AllByRecursion P other → AllByRecursion P (one ++ other)
all_both P [] other h k = k
all_both P (x ∷ one) other h k = (h.0, all_both P one other h.1 k)

variable_comments : (p : Csp) (k : ℕ) (vs : List ℤ) → AllByRecursion IsComment (map (atom_line p k) vs)
variable_comments p k [] = tt
variable_comments p k (v ∷ vs) = (atom_comment p k v, variable_comments p k vs)

below_comments : (p : Csp) (n : ℕ) → AllByRecursion IsComment (flat_map (variable_lines p) (below n)) × (length (flat_map (variable_lines p) (below n)) ≡ values_before p n)
below_comments p zero = (tt, refl)
below_comments p (suc n) =
    let ih = below_comments p n in
    let parts : flat_map (variable_lines p) (below n ++ n ∷ []) ≡ flat_map (variable_lines p) (below n) ++ variable_lines p n = flat_map-append (variable_lines p) (below n) (n ∷ []) ∙ ap (λ l. flat_map (variable_lines p) (below n) ++ l) (append-nil (variable_lines p n)) in
    let size = ap length parts ∙ length-append (flat_map (variable_lines p) (below n)) (variable_lines p n) in
    let all = length-map (domain p n) (atom_line p n) in
    let before = ih.1 in
    (subst (AllByRecursion IsComment) (sym parts) (all_both IsComment (flat_map (variable_lines p) (below n)) (variable_lines p n) ih.0 (variable_comments p n (domain p n))), omega (arith, size, all, before))

wanted_comments : (p : Contents) (wanted : Bool) → AllByRecursion IsComment (atom_lines (csp_of p) wanted) × (length (atom_lines (csp_of p) wanted) ≤ value_count p)
wanted_comments p true = let h = below_comments (csp_of p) (count (csp_of p)) in let l = h.1 in let all = all_values p in (h.0, omega (arith, l, all))
wanted_comments p false = (tt, omega arith)

-- ---- the header

few_enough : (atoms : ℕ) → atoms ≤ 4096 → nat_le atoms 4096 ≡ true
few_enough atoms l = grind (arith, nat_tests, l)

header_read : (atoms clauses : ℕ) (at : ℕ) (more : List ℕ) → atoms ≤ 4096 → clauses < 2 ^ 64 → (n : ℕ) × (header (words Start at (header_line atoms clauses ++ more)) ≡ Ok (atoms, words Start n more))
unfolding header
header_read atoms clauses at more few small =
    let a = decimal atoms in
    let c = decimal clauses in
    let p = codes "p cnf " in
    let after = 10 ∷ more in
    let behind = 32 ∷ (c ++ after) in
    let parts : header_line atoms clauses ++ more ≡ p ++ (a ++ behind) =
    append_assoc (p ++ a ++ codes " " ++ c) (codes "\n") more ∙ append_assoc (p ++ a ++ codes " ") c after ∙ append_assoc (p ++ a) (codes " ") (c ++ after) ∙ append_assoc p a behind in
    let one = word_read 112 [] Start at 32 (99 ∷ 110 ∷ 102 ∷ 32 ∷ (a ++ behind)) (start_byte 112 refl refl) tt refl in
    let two = word_read 99 (110 ∷ 102 ∷ []) Inside one.0 32 (a ++ behind) (inside_byte 99 refl) (refl, (refl, tt)) refl in
    let three = bytes_read false a two.0 32 (c ++ after) (decimal_some atoms (omega (arith, few))) (decimal_bytes atoms) refl in
    let four = bytes_read false c three.0 10 more (decimal_some clauses small) (decimal_bytes clauses) refl in
    let all : words Start at (header_line atoms clauses ++ more) ≡ word_at (112 ∷ []) at ∷ word_at (99 ∷ 110 ∷ 102 ∷ []) one.0 ∷ word_at a two.0 ∷ word_at c three.0 ∷ words Start four.0 more =
    ap (words Start at) parts ∙ one.1 ∙ ap (λ ws. word_at (112 ∷ []) at ∷ ws) (two.1 ∙ ap (λ ws. word_at (99 ∷ 110 ∷ 102 ∷ []) one.0 ∷ ws) (three.1 ∙ ap (λ ws. word_at a two.0 ∷ ws) four.1)) in
    (four.0, ap header all ∙ rw (number_read atoms (omega (arith, few)), few_enough atoms few, number_is clauses small) refl)

-- ---- the text

header_short : (atoms clauses : ℕ) → length (header_line atoms clauses) ≤ 256
header_short atoms clauses =
    let a = decimal atoms in
    let c = decimal clauses in
    let p = codes "p cnf " in
    let d = length-append p a in
    let e = length-append (p ++ a) (codes " ") in
    let f = length-append (p ++ a ++ codes " ") c in
    let g = length-append (p ++ a ++ codes " " ++ c) (codes "\n") in
    let x = decimal_short atoms in
    let y = decimal_short clauses in
    omega (arith, d, e, f, g, x, y)

-- what is read behind a header
abbrev after : ℕ × List TextWord → Result Contents CnfError
after h = clauses_from h.0 (only_variables h.0) no_literals h.1

-- what is read of an exported formula: a problem with these clauses
pub record IsReadBack (text : List ℕ) (clauses : List Clause) : Type 0 where
  pub problem : Contents
  pub formula : IsFormulaOf text problem
  pub says : clauses_of problem ≡ clauses

module _ (p : Contents) (wanted : Bool) (clauses : List Clause) (few : value_count p ≤ 4096) (some : length clauses ≤ 262144) (short : sum_by length clauses ≤ 1048576) (fine : AllByRecursion (IsFine (value_count p)) clauses) where
  joined : (cs : List Clause) → concat (map clause_line cs) ≡ proof_text cs
  joined [] = refl
  joined (c ∷ cs) = ap (λ t. clause_line c ++ t) (joined cs)

  parts : cnf_text p wanted clauses ≡ concat (atom_lines (csp_of p) wanted) ++ (header_line (value_count p) (length clauses) ++ proof_text clauses)
  parts = concat-append (atom_lines (csp_of p) wanted) (header_line (value_count p) (length clauses) ∷ map clause_line clauses) ∙ ap (λ t. concat (atom_lines (csp_of p) wanted) ++ (header_line (value_count p) (length clauses) ++ t)) (joined clauses)

  literals_short : (zs : List ℤ) → AllByRecursion (IsOf (value_count p)) zs → length (flat_map literal_text zs) ≤ 6 * length zs
  literals_short [] h = omega arith
  literals_short (z ∷ zs) h =
      let b = h.0.bounded in
      let s = literal_short z (record { positive = h.0.some; bounded = omega (arith, b, few) }) in
      let ih = literals_short zs h.1 in
      let x = length-append (literal_text z) (flat_map literal_text zs) in
      omega (arith, s, ih, x)

  clauses_short : (cs : List Clause) → AllByRecursion (IsFine (value_count p)) cs → length (proof_text cs) ≤ 6 * sum_by length cs + 2 * length cs
  clauses_short [] h = omega arith
  clauses_short (c ∷ cs) h =
      let one = literals_short c h.0.literals in
      let x = length-append (flat_map literal_text c) (codes "0\n") in
      let y = length-append (clause_line c) (proof_text cs) in
      let ih = clauses_short cs h.1 in
      let more = sum_by-cons length c cs in
      omega (arith, one, x, y, ih, more)

  text_short : length (cnf_text p wanted clauses) ≤ 16777216
  text_short =
      let w = wanted_comments p wanted in
      let count = w.1 in
      let c = comments_short (atom_lines (csp_of p) wanted) w.0 in
      let l = clauses_short clauses fine in
      let a = ap length parts in
      let x = length-append (concat (atom_lines (csp_of p) wanted)) (header_line (value_count p) (length clauses) ++ proof_text clauses) in
      let y = length-append (header_line (value_count p) (length clauses)) (proof_text clauses) in
      let h = header_short (value_count p) (length clauses) in
      omega (arith, count, c, l, a, x, y, h, few, some, short)

  pub read_back : IsReadBack (cnf_text p wanted clauses) clauses
  unfolding problem_of
  read_back =
      let w = wanted_comments p wanted in
      let v = value_count p in
      let c = comments_read (atom_lines (csp_of p) wanted) w.0 0 (header_line v (length clauses) ++ proof_text clauses) in
      let h = header_read v (length clauses) c.0 (proof_text clauses) few (omega (arith, some)) in
      let l = lines_read v (omega (arith, few)) clauses (only_variables v) h.0 fine (omega (arith, some)) (omega (arith, short)) in
      record {
        problem = l.0;
        formula = record {
          short = text_short;
          reads = ap (λ text. header (words Start 0 text) >>= after) parts ∙ ap (λ ws. header ws >>= after) c.1 ∙ ap (λ r. r >>= after) h.1 ∙ l.1;
        };
        says = l.2;
      }
