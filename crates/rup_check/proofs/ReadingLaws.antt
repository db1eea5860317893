-- A literal that is read is the one that was written, and what was written is read again.
use Rattle.std.proofs.Common.{◌≡◌, ℕ, zero, suc, ◌<◌, ◌≤◌, true, eqb, ltb, leb, ◌&&◌, List, [], ◌∷◌, ◌++◌, Some, None, inl, inr, refl, sym, ap, ◌∙◌, subst, arith, append_assoc}
use Rattle.std.specs.Prelude.{ℤ, pos, negsuc, neg_ℤ, decimal, codes}
use Rattle.std.specs.Char.{is_ascii_digit}
use Rattle.std.proofs.lemmas.Bool.{and_parts, eqb-true, eq-eqb, ne_eqb, ltb-true, lt-ltb, leb-true, le-leb, false≢true}
use Rattle.rup_check.specs.Literals.{IsLiteral}
use Rattle.rup_check.specs.ProofText.{literal_text}
use Rattle.dcsp_common.specs.Reading.{◌>>=◌, number_at}
use Rattle.rup_check.specs.Reading.{after_byte, spaced, variable_at, negated, itself, literal_at, after_end}
use Rattle.dcsp_common.proofs.Chosen.{chosen, some_is, bind_then}
use Rattle.dcsp_common.proofs.Decimals.{BeginsWithDigit, begins_decimal, number_again, number_takes}

-- the byte that was taken
pub after_byte_takes : (c : ℕ) (bytes rest : List ℕ) → after_byte c bytes ≡ Some rest → bytes ≡ c ∷ rest
unfolding after_byte
after_byte_takes c [] rest h = absurd cc
after_byte_takes c (b ∷ bytes) rest h =
    elim (chosen (eqb b c) (Some bytes) None (Some rest) h) [
      | inl e ↦ let k : b ≡ c = eqb-true _ _ e.0 in let i = some_is bytes rest e.1 in rw (k, i) refl
      | inr e ↦ absurd (let g = e.1 in cc)
    ]

-- a byte that is there is taken
pub after_byte_again : (c : ℕ) (rest : List ℕ) → after_byte c (c ∷ rest) ≡ Some rest
unfolding after_byte
after_byte_again c rest = rw (eq-eqb c c refl) refl

-- what reading a variable took
record TookVariable (bytes : List ℕ) (x : ℕ) (rest : List ℕ) : Type 0 where
  parts : bytes ≡ decimal x ++ 32 ∷ rest
  positive : 0 < x
  bounded : x ≤ 4096

variable_took : (bytes : List ℕ) (n : ℕ × List ℕ) (x : ℕ) (rest : List ℕ) → number_at bytes ≡ Some n → spaced n ≡ Some (x, rest) → TookVariable bytes x rest
unfolding spaced
variable_took bytes n x rest r h =
    elim (chosen (ltb 0 n.0 && leb n.0 4096) (after_byte 32 n.1 >>= (λ others. Some (n.0, others))) None (Some (x, rest)) h) [
      | inl e ↦ bind_then (after_byte 32 n.1) (λ others. Some (n.0, others)) (x, rest) e.1 (λ others a g.
          let i = some_is (n.0, others) (x, rest) g in
          let x0 : n.0 ≡ x = ap (λ (p : ℕ × List ℕ). p.0) i in
          let r0 : others ≡ rest = ap (λ (p : ℕ × List ℕ). p.1) i in
          let t = number_takes bytes n.0 n.1 r in
          let some : 0 < n.0 = ltb-true _ _ ((and_parts _ _ e.0).0) in
          let most : n.0 ≤ 4096 = leb-true _ _ ((and_parts _ _ e.0).1) in
          record {
            parts = t.parts ∙ ap (λ z. decimal n.0 ++ z) (after_byte_takes 32 n.1 others a) ∙ ap (λ z. decimal n.0 ++ 32 ∷ z) r0 ∙ ap (λ z. decimal z ++ 32 ∷ rest) x0;
            positive = subst (λ z. 0 < z) x0 some;
            bounded = subst (λ z. z ≤ 4096) x0 most;
          })
      | inr e ↦ absurd (let g = e.1 in cc)
    ]

variable_takes : (bytes : List ℕ) (x : ℕ) (rest : List ℕ) → variable_at bytes ≡ Some (x, rest) → TookVariable bytes x rest
unfolding variable_at
variable_takes bytes x rest h = bind_then (number_at bytes) spaced (x, rest) h (λ n r e. variable_took bytes n x rest r e)

variable_again : (x : ℕ) (rest : List ℕ) → 0 < x → x ≤ 4096 → variable_at (decimal x ++ 32 ∷ rest) ≡ Some (x, rest)
unfolding variable_at spaced after_byte
variable_again x rest some most = rw (number_again x (32 ∷ rest) (omega arith) refl, lt-ltb _ _ some, le-leb _ _ most) refl

-- what reading a literal took
pub record TookLiteral (bytes : List ℕ) (z : ℤ) (rest : List ℕ) : Type 0 where
  pub parts : bytes ≡ literal_text z ++ rest
  pub literal : IsLiteral z

positive_took : (bytes : List ℕ) (x : ℕ) (rest : List ℕ) → TookVariable bytes x rest → TookLiteral bytes (pos x) rest
positive_took bytes x rest t = record { parts = t.parts ∙ sym (append_assoc (decimal x) (32 ∷ []) rest); literal = record { positive = t.positive; bounded = t.bounded } }

negative_took : (bytes : List ℕ) (x : ℕ) (rest : List ℕ) → TookVariable bytes x rest → TookLiteral (45 ∷ bytes) (neg_ℤ (pos x)) rest
negative_took bytes zero rest t = absurd (let p : 0 < 0 = t.positive in omega arith)
negative_took bytes (suc x) rest t = record { parts = ap (λ z. 45 ∷ z) (t.parts ∙ sym (append_assoc (decimal (suc x)) (32 ∷ []) rest)); literal = record { positive = omega arith; bounded = t.bounded } }

pub literal_takes : (bytes : List ℕ) (z : ℤ) (rest : List ℕ) → literal_at bytes ≡ Some (z, rest) → TookLiteral bytes z rest
unfolding literal_at negated itself
literal_takes [] z rest h = absurd cc
literal_takes (b ∷ bytes) z rest h =
    elim (chosen (eqb b 45) (variable_at bytes >>= negated) (variable_at (b ∷ bytes) >>= itself) (Some (z, rest)) h) [
      | inl e ↦ bind_then (variable_at bytes) negated (z, rest) e.1 (λ x v g.
          let k : b ≡ 45 = eqb-true _ _ e.0 in
          let i = some_is (neg_ℤ (pos x.0), x.1) (z, rest) g in
          let z0 : neg_ℤ (pos x.0) ≡ z = ap (λ (p : ℤ × List ℕ). p.0) i in
          let r0 : x.1 ≡ rest = ap (λ (p : ℤ × List ℕ). p.1) i in
          subst (λ w. TookLiteral (w ∷ bytes) z rest) (sym k) (subst (λ w. TookLiteral (45 ∷ bytes) w rest) z0 (subst (λ w. TookLiteral (45 ∷ bytes) (neg_ℤ (pos x.0)) w) r0 (negative_took bytes x.0 x.1 (variable_takes bytes x.0 x.1 v)))))
      | inr e ↦ bind_then (variable_at (b ∷ bytes)) itself (z, rest) e.1 (λ x v g.
          let i = some_is (pos x.0, x.1) (z, rest) g in
          let z0 : pos x.0 ≡ z = ap (λ (p : ℤ × List ℕ). p.0) i in
          let r0 : x.1 ≡ rest = ap (λ (p : ℤ × List ℕ). p.1) i in
          subst (λ w. TookLiteral (b ∷ bytes) w rest) z0 (subst (λ w. TookLiteral (b ∷ bytes) (pos x.0) w) r0 (positive_took (b ∷ bytes) x.0 x.1 (variable_takes (b ∷ bytes) x.0 x.1 v))))
    ]

not_minus : (b : ℕ) → is_ascii_digit b ≡ true → b ≡ 45 → ⊥
not_minus b d e = false≢true (sym (ap is_ascii_digit e) ∙ d)

without_minus : (bytes : List ℕ) → BeginsWithDigit bytes → literal_at bytes ≡ (variable_at bytes >>= itself)
unfolding literal_at
without_minus bytes b = rw b.parts (rw (ne_eqb b.first 45 (not_minus b.first b.digit)) refl)

pub literal_again : (z : ℤ) (rest : List ℕ) → IsLiteral z → literal_at (literal_text z ++ rest) ≡ Some (z, rest)
unfolding literal_at negated itself
literal_again (pos x) rest l =
    let some : 0 < x = l.positive in
    let most : x ≤ 4096 = l.bounded in
    let grouped : (decimal x ++ 32 ∷ []) ++ rest ≡ decimal x ++ 32 ∷ rest = append_assoc (decimal x) (32 ∷ []) rest in
    ap literal_at grouped ∙ without_minus (decimal x ++ 32 ∷ rest) (begins_decimal x (32 ∷ rest) (omega arith)) ∙ ap (λ o. o >>= itself) (variable_again x rest some most)
literal_again (negsuc x) rest l =
    let most : suc x ≤ 4096 = l.bounded in
    let grouped : (decimal (suc x) ++ 32 ∷ []) ++ rest ≡ decimal (suc x) ++ 32 ∷ rest = append_assoc (decimal (suc x)) (32 ∷ []) rest in
    ap (λ w. literal_at (45 ∷ w)) grouped ∙ ap (λ o. o >>= negated) (variable_again (suc x) rest (omega arith) most)

-- the end of a line that was taken
pub after_end_takes : (bytes rest : List ℕ) → after_end bytes ≡ Some rest → bytes ≡ codes "0\n" ++ rest
unfolding after_end
after_end_takes bytes rest h = bind_then (after_byte 48 bytes) (after_byte 10) rest h (λ others a g. after_byte_takes 48 bytes others a ∙ ap (λ z. 48 ∷ z) (after_byte_takes 10 others rest g))

pub after_end_again : (rest : List ℕ) → after_end (codes "0\n" ++ rest) ≡ Some rest
unfolding after_end after_byte
after_end_again rest = refl

-- the end of a line is no literal
pub end_no_literal : (rest : List ℕ) → literal_at (codes "0\n" ++ rest) ≡ None
unfolding literal_at variable_at number_at spaced itself
end_no_literal rest = refl
