-- A sample is a well-formed problem, so the laws speak of it.
use Rattle.std.proofs.Common.{not, inl, inr, ℤ, pos, ◌<ℤ◌, refl, sym, ap, ◌∙◌, subst, int_eq, arith, rules}
use Rattle.dcsp_defs.specs.Words.{IsRisingIntegers}
use Rattle.dcsp_defs.specs.Csp.{IsConstraint, IsCsp}
use Rattle.law_runs.specs.Models.{bits, clash, differ, agree}

bits_rise : IsRisingIntegers bits
bits_rise = (λ y u. elim u [ inl e ↦ subst (λ (z : ℤ). pos 0 <ℤ z) (sym e) (search rules) | inr w ↦ absurd w ], (λ y u. absurd u, tt))

differ_is : IsConstraint clash (differ 0 1)
differ_is = record {
  rising = (λ y u. elim u [ inl e ↦ omega arith | inr w ↦ absurd w ], (λ y u. absurd u, tt));
  inside = λ k u. elim u [ inl e ↦ omega arith | inr w ↦ elim w [ inl e ↦ omega arith | inr z ↦ absurd z ] ];
  local = λ f g h. ap (λ x. not (int_eq x (f 1))) (h 0 (inl refl)) ∙ ap (λ y. not (int_eq (g 0) y)) (h 1 (inr (inl refl)));
}

agree_is : IsConstraint clash (agree 0 1)
agree_is = record {
  rising = (λ y u. elim u [ inl e ↦ omega arith | inr w ↦ absurd w ], (λ y u. absurd u, tt));
  inside = λ k u. elim u [ inl e ↦ omega arith | inr w ↦ elim w [ inl e ↦ omega arith | inr z ↦ absurd z ] ];
  local = λ f g h. ap (λ x. int_eq x (f 1)) (h 0 (inl refl)) ∙ ap (λ y. int_eq (g 0) y) (h 1 (inr (inl refl)));
}

clash_is : IsCsp clash
clash_is = record {
  domains = λ d u. elim u [ inl e ↦ subst IsRisingIntegers (sym e) bits_rise | inr w ↦ elim w [ inl e ↦ subst IsRisingIntegers (sym e) bits_rise | inr z ↦ absurd z ] ];
  constraints = λ c u. elim u [ inl e ↦ subst (IsConstraint clash) (sym e) differ_is | inr w ↦ elim w [ inl e ↦ subst (IsConstraint clash) (sym e) agree_is | inr z ↦ absurd z ] ];
}
