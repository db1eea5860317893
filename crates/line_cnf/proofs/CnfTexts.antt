-- The proof that is written of a refuted run can be read.
use Rattle.std.proofs.Common.{◌≡◌, ℕ, zero, suc, ◌+◌, ◌*◌, ◌^◌, ◌<◌, ◌≤◌, List, [], ◌∷◌, ◌++◌, length, map, refl, ap, subst, arith, length-append}
use Rattle.std.specs.Prelude.{ℤ, pos, negsuc, codes, flat_map}
use Rattle.std.specs.List.{AllByRecursion}
use Rattle.std.specs.Fmt.{signed_decimal}
use Rattle.std.proofs.lemmas.Fmt.{length_signed_le}
use Rattle.std.proofs.lemmas.List.{length-map}
use Rattle.std.proofs.lemmas.List.Concat.{flat_map-cons}
use Rattle.dcsp_defs.specs.Pairs.{IsRising, var_at}
use Rattle.dcsp_defs.specs.Csp.{Nogood}
use Rattle.dcsp_defs.specs.declared.Step.{Step}
use Rattle.dcsp_defs.specs.Derivation.{IsDerivation}
use Rattle.dcsp_rule.specs.Problems.{Contents, csp_of}
use Rattle.rup_check.specs.Literals.{IsLiteral}
use Rattle.rup_check.specs.ProofText.{literal_text, clause_line, proof_text, IsClause}
use Rattle.cnf_front.specs.Clauses.{literal_against, clause_of, IsBinary}
use Rattle.abt_input.specs.Inputs.{HasClauses}
use Rattle.line_cnf.specs.Satisfying.{step_clause}
use Rattle.line_cnf.proofs.Domains.{HasBinary}
use Rattle.line_cnf.proofs.Steps.{IsFine, all_fine}

-- ---- literals

pub literal_short : (z : ℤ) → IsLiteral z → length (literal_text z) ≤ 6
literal_short (pos n) l = let b : n ≤ 4096 = l.bounded in let s : length (signed_decimal (pos n)) ≤ 5 = length_signed_le 4 (pos n) (omega arith) (omega arith) in let a = length-append (signed_decimal (pos n)) (codes " ") in omega (arith, s, a)
literal_short (negsuc n) l = let b : suc n ≤ 4096 = l.bounded in let s : length (signed_decimal (negsuc n)) ≤ 5 = length_signed_le 4 (negsuc n) (omega arith) (omega arith) in let a = length-append (signed_decimal (negsuc n)) (codes " ") in omega (arith, s, a)

against_literal : (x : ℕ) (v : ℤ) → x < 4096 → IsLiteral (literal_against x v)
against_literal x (pos zero) l = record { positive = omega arith; bounded = omega arith }
against_literal x (pos (suc n)) l = record { positive = omega arith; bounded = omega arith }
against_literal x (negsuc n) l = record { positive = omega arith; bounded = omega arith }

-- ---- clauses

clause_literals : (pairs : Nogood) → AllByRecursion IsBinary pairs → IsClause (clause_of pairs)
clause_literals [] h = tt
clause_literals (y ∷ ys) h = (against_literal y.var y.value h.0.variable, clause_literals ys h.1)

clause_short : (pairs : Nogood) → AllByRecursion IsBinary pairs → length (flat_map literal_text (clause_of pairs)) ≤ 6 * length pairs
clause_short [] h = omega arith
clause_short (y ∷ ys) h =
    let z = literal_against y.var y.value in
    let first : length (literal_text z) ≤ 6 = literal_short z (against_literal y.var y.value h.0.variable) in
    let rest : length (flat_map literal_text (clause_of ys)) ≤ 6 * length ys = clause_short ys h.1 in
    let a : length (flat_map literal_text (clause_of (y ∷ ys))) ≡ length (literal_text z ++ flat_map literal_text (clause_of ys)) = ap length (flat_map-cons literal_text z (clause_of ys)) in
    let b = length-append (literal_text z) (flat_map literal_text (clause_of ys)) in
    omega (arith, first, rest, a, b)

-- variables that rise are no lower than their places
pub at_least : (pairs : Nogood) → IsRising pairs → (k : ℕ) → k < length pairs → k ≤ var_at pairs k
at_least pairs r zero l = omega arith
at_least pairs r (suc k) l = let ih = at_least pairs r k (omega arith) in let e : k + 1 ≡ suc k = omega arith in let up : var_at pairs k < var_at pairs (suc k) = subst (λ n. var_at pairs k < var_at pairs n) e (r k (omega (arith, l))) in omega (arith, ih, up)

below_many : (pairs : Nogood) → AllByRecursion IsBinary pairs → (k : ℕ) → k < length pairs → var_at pairs k < 4096
below_many [] h k l = absurd (omega arith)
below_many (y ∷ ys) h zero l = h.0.variable
below_many (y ∷ ys) h (suc k) l = below_many ys h.1 k (omega arith)

few_pairs : (pairs : Nogood) → IsFine pairs → length pairs ≤ 4096
few_pairs [] f = omega arith
few_pairs (y ∷ ys) f =
    let k = length ys in
    let low : k ≤ var_at (y ∷ ys) k = at_least (y ∷ ys) f.rising k (omega arith) in
    let high : var_at (y ∷ ys) k < 4096 = below_many (y ∷ ys) f.binary k (omega arith) in
    omega (arith, low, high)

line_short : (pairs : Nogood) → IsFine pairs → length (clause_line (clause_of pairs)) ≤ 24578
line_short pairs f =
    let a = length-append (flat_map literal_text (clause_of pairs)) (codes "0\n") in
    let s = clause_short pairs f.binary in
    let l = few_pairs pairs f in
    omega (arith, a, s, l)

-- ---- the whole

all_clauses : (steps : List Step) → AllByRecursion (λ (s : Step). IsFine s.nogood) steps → AllByRecursion IsClause (map step_clause steps)
all_clauses [] h = tt
all_clauses (s ∷ steps) h = (clause_literals s.nogood h.0.binary, all_clauses steps h.1)

text_short : (steps : List Step) → AllByRecursion (λ (s : Step). IsFine s.nogood) steps → length (proof_text (map step_clause steps)) ≤ 24578 * length steps
text_short [] h = omega arith
text_short (s ∷ steps) h =
    let first : length (clause_line (step_clause s)) ≤ 24578 = line_short s.nogood h.0 in
    let rest : length (proof_text (map step_clause steps)) ≤ 24578 * length steps = text_short steps h.1 in
    let a : length (proof_text (map step_clause (s ∷ steps))) ≡ length (clause_line (step_clause s) ++ proof_text (map step_clause steps)) = ap length (flat_map-cons clause_line (step_clause s) (map step_clause steps)) in
    let b = length-append (clause_line (step_clause s)) (proof_text (map step_clause steps)) in
    omega (arith, first, rest, a, b)

-- fewer than 2^32 clauses of right steps are read as they were written
pub text_read : (p : Contents) (n : ℕ) → HasBinary p n → (steps : List Step) → IsDerivation (csp_of p) steps → length (map step_clause steps) < 2 ^ 32 → HasClauses (proof_text (map step_clause steps)) (map step_clause steps)
text_read p n h steps right few =
    let fine = all_fine p n h steps right in
    let s = text_short steps fine in
    let c = length-map steps step_clause in
    record {
      short = omega (arith, s, c, few);
      reads = record { clauses = all_clauses steps fine; count = few; same = refl };
    }
