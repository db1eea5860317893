-- Each text is that of a proof, or has a first bad line.
use Rattle.std.proofs.Common.{◌≡◌, ℕ, zero, suc, ◌+◌, ◌^◌, ◌<◌, ◌≤◌, ◌⊎◌, inl, inr, List, [], ◌∷◌, ◌++◌, length, Option, Some, None, refl, ap, ◌∙◌, arith, length-append}
use Rattle.std.specs.Prelude.{ℤ, codes, flat_map}
use Rattle.std.specs.List.{AllByRecursion}
use Rattle.std.specs.Fmt.{signed_decimal}
use Rattle.std.proofs.lemmas.Bool.Decides.{leb_tells}
use Rattle.std.proofs.lemmas.List.{append-nil}
use Rattle.rup_check.specs.ProofText.{literal_text, proof_text, IsClause, IsProofOf, BeginsWithClause, IsFirstBadLine, IsNextClause, ProofOrBadLine}
use Rattle.rup_check.specs.Reading.{literal_at, after_end}
use Rattle.rup_check.proofs.ReadingLaws.{literal_takes}
use Rattle.rup_check.proofs.ProofLaws.{literals_more, parts_more, next_clause, no_clause, proof_parts, proof_clauses, proof_unique, not_both, bad_unique}

-- a literal takes bytes
shorter : (bytes : List ℕ) (z : ℤ) (rest : List ℕ) → literal_at bytes ≡ Some (z, rest) → length rest < length bytes
shorter bytes z rest took =
    let parts = (literal_takes bytes z rest took).parts in
    let all : length bytes ≡ length (signed_decimal z) + 1 + length rest = ap length parts ∙ length-append (literal_text z) rest ∙ ap (λ n. n + length rest) (length-append (signed_decimal z) (codes " ")) in
    omega (arith, all)

-- the line of a clause comes next, or no clause's line does
pub record NextOrNone (text : List ℕ) : Type 0 where
  pub found : ((clause : List ℤ) × (rest : List ℕ) × IsNextClause text clause rest) ⊎ (BeginsWithClause text → ⊥)

-- where these literals stand before the rest, its first bytes decide; `on` goes on behind one more literal
one_turn : (text rest : List ℕ) (clause : List ℤ) → IsClause clause → text ≡ flat_map literal_text clause ++ rest
    → ((z : ℤ) (others : List ℕ) → literal_at rest ≡ Some (z, others) → NextOrNone text) → NextOrNone text
one_turn text rest clause literals parts on = by_end (after_end rest) refl where
  by_literal : after_end rest ≡ None → (l : Option (ℤ × List ℕ)) → literal_at rest ≡ l → NextOrNone text
  by_literal none None is = record { found = inr (no_clause text rest clause literals parts none is) }
  by_literal none (Some (z, others)) is = on z others is

  by_end : (e : Option (List ℕ)) → after_end rest ≡ e → NextOrNone text
  by_end (Some others) is = record { found = inl (clause, others, next_clause text rest others clause literals parts is) }
  by_end None none = by_literal none (literal_at rest) refl

next_or_none : (most : ℕ) (text rest : List ℕ) (clause : List ℤ) → length rest ≤ most → IsClause clause → text ≡ flat_map literal_text clause ++ rest → NextOrNone text
next_or_none zero text rest clause fits literals parts = one_turn text rest clause literals parts (λ z others is. absurd (omega (arith, fits, shorter rest z others is)))
next_or_none (suc most) text rest clause fits literals parts =
    one_turn text rest clause literals parts (λ z others is.
    next_or_none most text others (clause ++ z ∷ []) (omega (arith, fits, shorter rest z others is))
    (literals_more clause (clause ++ z ∷ []) z rest others literals is refl)
    (parts_more text rest others clause (clause ++ z ∷ []) z parts is refl))

-- the line of a clause takes bytes
line_shorter : (text rest : List ℕ) (clause : List ℤ) → IsNextClause text clause rest → length rest < length text
line_shorter text rest clause next =
    let all : length text ≡ length (flat_map literal_text clause) + 2 + length rest = ap length next.parts ∙ length-append (flat_map literal_text clause ++ codes "0\n") rest ∙ ap (λ n. n + length rest) (length-append (flat_map literal_text clause) (codes "0\n")) in
    omega (arith, all)

-- these clauses stand before the rest
proof_or_bad : (most : ℕ) (text rest : List ℕ) (proof : List (List ℤ)) → length rest ≤ most → AllByRecursion IsClause proof → text ≡ proof_text proof ++ rest → length proof < 2 ^ 32
    → ((p : List (List ℤ)) × IsProofOf text p) ⊎ ((number : ℕ) × IsFirstBadLine text number)
proof_or_bad most text [] proof fits clauses parts few = inl (proof, record { clauses = clauses; count = few; same = parts ∙ append-nil (proof_text proof) })
proof_or_bad zero text (b ∷ rest) proof fits clauses parts few = absurd (omega (arith, fits))
proof_or_bad (suc most) text (b ∷ rest) proof fits clauses parts few = elim (next_or_none (length (b ∷ rest)) (b ∷ rest) (b ∷ rest) [] (omega arith) tt refl).found [
  | inr none ↦ inr (
    length proof + 1,
    record {
      before = proof;
      clauses = clauses;
      counted = refl;
      rest = b ∷ rest;
      parts = parts;
      there = λ e. cc;
      bad = inl none;
      within = omega (arith, few);
    },
  )
  | inl next ↦
      let clause = next.0 in
      let others = next.1 in
      let longer : length (proof ++ clause ∷ []) ≡ length proof + 1 = length-append proof (clause ∷ []) in
      elim (leb_tells (2 ^ 32) (length proof + 1)) [
        | inl full ↦ inr (
          length proof + 1,
          record {
            before = proof;
            clauses = clauses;
            counted = refl;
            rest = b ∷ rest;
            parts = parts;
            there = λ e. cc;
            bad = inr (omega (arith, few, full.1));
            within = omega (arith, few);
          },
        )
        | inr room ↦
            proof_or_bad most text others (proof ++ clause ∷ []) (omega (arith, fits, line_shorter (b ∷ rest) others clause next.2))
            (proof_clauses (b ∷ rest) others proof (proof ++ clause ∷ []) clause clauses next.2 refl)
            (proof_parts text (b ∷ rest) others proof (proof ++ clause ∷ []) clause parts next.2 refl)
            (omega (arith, longer, room.1))
      ]
]

pub proof_or_bad_line : (text : List ℕ) → ProofOrBadLine text
proof_or_bad_line text = record {
  some = proof_or_bad (length text) text text [] (omega arith) tt refl (omega arith);
  one_proof = proof_unique text;
  one_line = bad_unique text;
  not_both = not_both text;
}
