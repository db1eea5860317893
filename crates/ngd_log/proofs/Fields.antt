-- A field that is read is the one that was written, and what was written is read again.
use Rattle.std.proofs.Common.{◌≡◌, ℕ, zero, suc, ◌+◌, ◌-◌, ◌^◌, ◌<◌, ◌≤◌, false, cond, ◌&&◌, eqb, ltb, leb, List, [], ◌∷◌, ◌++◌, Option, Some, None, ℤ, pos, negsuc, neg_ℤ, FitsSigned, inl, inr, refl, ap, subst, ◌∙◌, append_assoc, arith}
use Rattle.std.specs.Prelude.{codes, decimal}
use Rattle.std.specs.Int.{w64}
use Rattle.std.specs.Fmt.{signed_decimal}
use Rattle.std.proofs.lemmas.Bool.{eqb-true, ltb-true, lt-ltb, leb-true, le-leb}
use Rattle.dcsp_defs.proofs.Lists.{and_left, and_right}
use Rattle.dcsp_defs.specs.declared.nogood.Pair.{Pair}
use Rattle.dcsp_defs.specs.declared.Reason.{Reason}
use Rattle.dcsp_defs.specs.declared.Reason.TheVariants.{Rule, Earlier}
use Rattle.ngd_log.specs.StepText.{pair_text, reason_text, IsVariable, IsStepNumber, IsReasonInRange}
use Rattle.dcsp_common.specs.Reading.{◌>>=◌, begins_with_digit, number_at}
use Rattle.ngd_log.specs.Reading.{after, negative, plain, signed_at, integer_at, counted_at, step_number_at, pair_at, reason_at}
use Rattle.dcsp_common.proofs.Chosen.{chosen, passed, bind_then, some_is}
use Rattle.ngd_log.proofs.AfterPrefix.{after_takes, after_again, after_no_digit}
use Rattle.dcsp_common.proofs.Decimals.{number_takes, number_again, begins_decimal}

-- what reading a field took: this text, and a value for which P holds
pub record Took (bytes text rest : List ℕ) (P : Type 0) : Type 0 where
  pub parts : bytes ≡ text ++ rest
  pub holds : P

-- ---- signed numbers

-- the value of the digits after `-`
negative_is : (n : ℕ) (unsigned : List ℕ) (v : ℤ) (rest : List ℕ) → 0 < n → n ≤ 2 ^ 63 → neg_ℤ (pos n) ≡ v → unsigned ≡ decimal n ++ rest → Took (45 ∷ unsigned) (signed_decimal v) rest (FitsSigned w64 v)
negative_is zero unsigned v rest some most e parts = absurd (omega arith)
negative_is (suc n) unsigned v rest some most e parts =
    subst (λ (w : ℤ). Took (45 ∷ unsigned) (signed_decimal w) rest (FitsSigned w64 w)) e (record { parts = ap (λ (x : List ℕ). 45 ∷ x) parts; holds = record { sfits = omega arith } })

-- what was read with or without `-`
signed_takes : (bytes : List ℕ) (o : Option (List ℕ)) (v : ℤ) (rest : List ℕ) → after (codes "-") bytes ≡ o → signed_at bytes o ≡ Some (v, rest) → Took bytes (signed_decimal v) rest (FitsSigned w64 v)
unfolding negative plain
signed_takes bytes (Some unsigned) v rest a h =
    bind_then (number_at unsigned) negative (v, rest) h (λ n r e.
    let p = passed (ltb 0 n.0 && leb n.0 (2 ^ 63)) (neg_ℤ (pos n.0), n.1) (v, rest) e in
    let t = number_takes unsigned n.0 n.1 r in
    let last : n.1 ≡ rest = ap (λ (x : ℤ × List ℕ). x.1) p.1 in
    let value : neg_ℤ (pos n.0) ≡ v = ap (λ (x : ℤ × List ℕ). x.0) p.1 in
    rw (after_takes (codes "-") bytes unsigned a) (negative_is n.0 unsigned v rest (ltb-true _ _ (and_left _ _ p.0)) (leb-true _ _ (and_right _ _ p.0)) value (t.parts ∙ ap (λ (x : List ℕ). decimal n.0 ++ x) last)))
signed_takes bytes None v rest a h =
    bind_then (number_at bytes) plain (v, rest) h (λ n r e.
    let p = passed (ltb n.0 (2 ^ 63)) (pos n.0, n.1) (v, rest) e in
    let t = number_takes bytes n.0 n.1 r in
    subst (λ (x : ℤ × List ℕ). Took bytes (signed_decimal x.0) x.1 (FitsSigned w64 x.0)) p.1 (record { parts = t.parts; holds = record { sfits = ltb-true _ _ p.0 } }))

-- a signed number that was read is the text of its value
pub integer_takes : (bytes : List ℕ) (v : ℤ) (rest : List ℕ) → integer_at bytes ≡ Some (v, rest) → Took bytes (signed_decimal v) rest (FitsSigned w64 v)
unfolding integer_at
integer_takes bytes v rest h = signed_takes bytes (after (codes "-") bytes) v rest refl h

-- the text of a value is read again
pub integer_again : (v : ℤ) (rest : List ℕ) → FitsSigned w64 v → begins_with_digit rest ≡ false → integer_at (signed_decimal v ++ rest) ≡ Some (v, rest)
unfolding integer_at negative plain
integer_again (pos n) rest fits stop =
    let small : n < 2 ^ 63 = fits.sfits in
    let a : after (codes "-") (decimal n ++ rest) ≡ None = after_no_digit 45 [] (decimal n ++ rest) refl (begins_decimal n rest (omega arith)) in
    rw (a, number_again n rest (omega arith) stop, lt-ltb _ _ small) refl
integer_again (negsuc n) rest fits stop =
    let small : n < 2 ^ 63 = fits.sfits in
    rw (after_again (codes "-") (decimal (suc n) ++ rest), number_again (suc n) rest (omega arith) stop, lt-ltb 0 (suc n) (omega arith), le-leb (suc n) (2 ^ 63) (omega arith)) refl

-- ---- numbers in a range

-- a number in a range that was read
pub counted_takes : (most : ℕ) (bytes : List ℕ) (x : ℕ) (rest : List ℕ) → counted_at most bytes ≡ Some (x, rest) → Took bytes (decimal (x + 1)) rest (x < most)
unfolding counted_at
counted_takes most bytes x rest h =
    bind_then (number_at bytes) (λ n. cond (ltb 0 n.0 && leb n.0 most) (Some (n.0 - 1, n.1)) None) (x, rest) h (λ n r e.
    let p = passed (ltb 0 n.0 && leb n.0 most) (n.0 - 1, n.1) (x, rest) e in
    let t = number_takes bytes n.0 n.1 r in
    let some : 0 < n.0 = ltb-true 0 n.0 (and_left (ltb 0 n.0) (leb n.0 most) p.0) in
    let within : n.0 ≤ most = leb-true n.0 most (and_right (ltb 0 n.0) (leb n.0 most) p.0) in
    let same : n.0 - 1 + 1 ≡ n.0 = omega arith in
    subst (λ (y : ℕ × List ℕ). Took bytes (decimal (y.0 + 1)) y.1 (y.0 < most)) p.1 (record { parts = rw same t.parts; holds = omega arith }))

-- a number in the range is read again
pub counted_again : (most x : ℕ) (rest : List ℕ) → x < most → most < 2 ^ 64 → begins_with_digit rest ≡ false → counted_at most (decimal (x + 1) ++ rest) ≡ Some (x, rest)
unfolding counted_at
counted_again most x rest within fits stop =
    let e : x + 1 - 1 ≡ x = omega arith in
    rw (number_again (x + 1) rest (omega arith) stop, lt-ltb 0 (x + 1) (omega arith), le-leb (x + 1) most (omega arith), e) refl

-- a step's number that was read
pub step_number_takes : (bytes : List ℕ) (k : ℕ) (rest : List ℕ) → step_number_at bytes ≡ Some (k, rest) → Took bytes (decimal k) rest (IsStepNumber k)
unfolding step_number_at
step_number_takes bytes k rest h =
    bind_then (number_at bytes) (λ n. cond (ltb 0 n.0 && leb n.0 (2 ^ 62)) (Some n) None) (k, rest) h (λ n r e.
    let p = passed (ltb 0 n.0 && leb n.0 (2 ^ 62)) n (k, rest) e in
    let t = number_takes bytes n.0 n.1 r in
    subst (λ (y : ℕ × List ℕ). Took bytes (decimal y.0) y.1 (IsStepNumber y.0)) p.1
    (record { parts = t.parts; holds = record { positive = ltb-true _ _ (and_left _ _ p.0); bounded = leb-true _ _ (and_right _ _ p.0) } }))

-- a step's number is read again
pub step_number_again : (k : ℕ) (rest : List ℕ) → IsStepNumber k → begins_with_digit rest ≡ false → step_number_at (decimal k ++ rest) ≡ Some (k, rest)
unfolding step_number_at
step_number_again k rest fits stop =
    let most = fits.bounded in
    rw (number_again k rest (omega arith) stop, lt-ltb 0 k fits.positive, le-leb k (2 ^ 62) fits.bounded) refl

-- ---- pairs

-- the pair's numbers are in range
pub record IsPair (y : Pair) : Type 0 where
  pub variable : IsVariable y.var
  pub value : FitsSigned w64 y.value

-- a pair that was read
pub pair_takes : (bytes : List ℕ) (y : Pair) (rest : List ℕ) → pair_at bytes ≡ Some (y, rest) → Took bytes (pair_text y) rest (IsPair y)
unfolding pair_at
pair_takes bytes y rest h =
    bind_then (after (codes "v") bytes) (λ a. counted_at 4096 a >>= λ x. after (codes "=") x.1 >>= λ b. integer_at b >>= λ v. Some (record { var = x.0; value = v.0 }, v.1)) (y, rest) h (λ a ra e.
    bind_then (counted_at 4096 a) (λ x. after (codes "=") x.1 >>= λ b. integer_at b >>= λ v. Some (record { var = x.0; value = v.0 }, v.1)) (y, rest) e (λ x rx f.
    bind_then (after (codes "=") x.1) (λ b. integer_at b >>= λ v. Some (record { var = x.0; value = v.0 }, v.1)) (y, rest) f (λ b rb g.
    bind_then (integer_at b) (λ v. Some (record { var = x.0; value = v.0 }, v.1)) (y, rest) g (λ v rv i.
    let made : Pair × List ℕ = (record { var = x.0; value = v.0 }, v.1) in
    let t = counted_takes 4096 a x.0 x.1 rx in
    let u = integer_takes b v.0 v.1 rv in
    let parts : bytes ≡ pair_text made.0 ++ made.1 = after_takes (codes "v") bytes a ra ∙ rw (t.parts, after_takes (codes "=") x.1 b rb, u.parts) (simp append_assoc) in
    subst (λ (z : Pair × List ℕ). Took bytes (pair_text z.0) z.1 (IsPair z.0)) (some_is made (y, rest) i) (record { parts = parts; holds = record { variable = t.holds; value = u.holds } })))))

-- a pair's text is read again
pub pair_again : (y : Pair) (rest : List ℕ) → IsPair y → begins_with_digit rest ≡ false → pair_at (pair_text y ++ rest) ≡ Some (y, rest)
unfolding pair_at
pair_again y rest fits stop =
    let regrouped : pair_text y ++ rest ≡ codes "v" ++ (decimal (y.var + 1) ++ (codes "=" ++ (signed_decimal y.value ++ rest))) = simp append_assoc in
    rw (
      regrouped,
      after_again (codes "v") (decimal (y.var + 1) ++ (codes "=" ++ (signed_decimal y.value ++ rest))),
      counted_again 4096 y.var (codes "=" ++ (signed_decimal y.value ++ rest)) fits.variable (omega arith) refl,
      after_again (codes "=") (signed_decimal y.value ++ rest),
      integer_again y.value rest fits.value stop,
    ) refl

-- ---- reasons

-- a reason that was read
pub reason_takes : (bytes : List ℕ) (r : Reason) (rest : List ℕ) → reason_at bytes ≡ Some (r, rest) → Took bytes (reason_text r) rest (IsReasonInRange r)
unfolding reason_at
reason_takes [] r rest h = absurd cc
reason_takes (b ∷ bytes) r rest h =
    elim (chosen (eqb b 99) (counted_at 262144 bytes >>= (λ n. Some (Rule n.0, n.1))) (cond (eqb b 110) (step_number_at bytes >>= (λ n. Some (Earlier n.0, n.1))) None) (Some (r, rest)) h) [
      | inl e ↦
          bind_then (counted_at 262144 bytes) (λ n. Some (Rule n.0, n.1)) (r, rest) e.1 (λ n rn f.
          let t = counted_takes 262144 bytes n.0 n.1 rn in
          let letter : b ≡ 99 = eqb-true _ _ e.0 in
          subst (λ (z : Reason × List ℕ). Took (b ∷ bytes) (reason_text z.0) z.1 (IsReasonInRange z.0)) (some_is (Rule n.0, n.1) (r, rest) f) (record { parts = rw letter (ap (λ (x : List ℕ). 99 ∷ x) t.parts); holds = t.holds }))
      | inr e ↦
          elim (chosen (eqb b 110) (step_number_at bytes >>= (λ n. Some (Earlier n.0, n.1))) None (Some (r, rest)) e.1) [
            | inl f ↦
                bind_then (step_number_at bytes) (λ n. Some (Earlier n.0, n.1)) (r, rest) f.1 (λ n rn g.
                let t = step_number_takes bytes n.0 n.1 rn in
                let letter : b ≡ 110 = eqb-true _ _ f.0 in
                subst (λ (z : Reason × List ℕ). Took (b ∷ bytes) (reason_text z.0) z.1 (IsReasonInRange z.0)) (some_is (Earlier n.0, n.1) (r, rest) g) (record { parts = rw letter (ap (λ (x : List ℕ). 110 ∷ x) t.parts); holds = t.holds }))
            | inr f ↦ absurd (let g = f.1 in cc)
          ]
    ]

-- a reason's text is read again
pub reason_again : (r : Reason) (rest : List ℕ) → IsReasonInRange r → begins_with_digit rest ≡ false → reason_at (reason_text r ++ rest) ≡ Some (r, rest)
unfolding reason_at
reason_again (Rule x) rest fits stop = rw (counted_again 262144 x rest fits (omega arith) stop) refl
reason_again (Earlier k) rest fits stop = rw (step_number_again k rest fits stop) refl
