-- The coefficients of one variable among the terms of a sum.
use Rattle.std.proofs.Common.{◌≡◌, ℕ, ◌+◌, ◌<◌, ◌≤◌, ℤ, pos, Bool, true, false, not, cond, List, [], ◌∷◌, ◌++◌, length, get_or, drop, Option, Some, None, refl, sym, ap, ◌∙◌, arith, append-nil, append_assoc, length-append}
use Rattle.std.specs.Prelude.{IfSome, is_some}
use Rattle.std.proofs.lemmas.List.{drop_more}
use Rattle.std.proofs.Math.ListN.{drop_of_length-le}
use Rattle.dcsp_rule.specs.declared.rule.Term.{Term}
use Rattle.dcsp_row.specs.Easy.{is_variable, own_coefs}
use Rattle.dcsp_row.specs.Lines.{open_coef}
use Rattle.dcsp_row.specs.declared.span.Span.{Span}
use Rattle.dcsp_row.specs.Spans.{SpansWhere}

pub turned : (b : Bool) → false ≡ not b → b ≡ true
turned true e = refl
turned false e = absurd (let clash : false ≡ true = e in cc)

pub kept_false : (b : Bool) → true ≡ not b → b ≡ false
kept_false false e = refl
kept_false true e = absurd (let clash : true ≡ false = e in cc)

module _ (var : ℕ) (coefs : List ℤ) (terms : List Term) (k : ℕ) (d : Term) (shape : length coefs ≡ length terms) (here : k < length coefs) where
  abbrev rest : List ℤ
  rest = own_coefs var (drop (k + 1) coefs) (drop (k + 1) terms)

  abbrev coef : ℤ
  coef = get_or coefs k (pos 0)

  in_terms : k < length terms
  in_terms = omega (arith, here, shape)

  pub own_step : own_coefs var (drop k coefs) (drop k terms) ≡ cond (is_variable var (get_or terms k d)) (coef ∷ rest) rest
  own_step = ap (λ cs. own_coefs var cs (drop k terms)) (drop_more coefs k (pos 0) here) ∙ ap (λ ts. own_coefs var (coef ∷ drop (k + 1) coefs) ts) (drop_more terms k d in_terms)

  pub own_here : is_variable var (get_or terms k d) ≡ true → own_coefs var (drop k coefs) (drop k terms) ≡ coef ∷ rest
  own_here e = own_step ∙ ap (λ b. cond b (coef ∷ rest) rest) e

  pub own_elsewhere : is_variable var (get_or terms k d) ≡ false → own_coefs var (drop k coefs) (drop k terms) ≡ rest
  own_elsewhere e = own_step ∙ ap (λ b. cond b (coef ∷ rest) rest) e

  -- one term further on
  pub own_next : (value : Option ℤ) → is_some value ≡ not (is_variable var (get_or terms k d)) → (before after : List ℤ) → after ≡ before ++ open_coef coef value
      → before ++ own_coefs var (drop k coefs) (drop k terms) ≡ own_coefs var coefs terms → after ++ rest ≡ own_coefs var coefs terms
  own_next None e before after is inv = ap (λ l. l ++ rest) is ∙ append_assoc before (coef ∷ []) rest ∙ sym (ap (λ l. before ++ l) (own_here (turned (is_variable var (get_or terms k d)) e))) ∙ inv
  own_next (Some value) e before after is inv = ap (λ l. l ++ rest) (is ∙ append-nil before) ∙ sym (ap (λ l. before ++ l) (own_elsewhere (kept_false (is_variable var (get_or terms k d)) e))) ∙ inv

  -- a second coefficient
  pub own_many : (value : Option ℤ) → is_some value ≡ not (is_variable var (get_or terms k d)) → (before : List ℤ) → 1 < length (before ++ open_coef coef value)
      → before ++ own_coefs var (drop k coefs) (drop k terms) ≡ own_coefs var coefs terms → 1 < length (own_coefs var coefs terms)
  own_many value e before many inv =
      let next = own_next value e before (before ++ open_coef coef value) refl inv in
      omega (arith, many, ap length next, length-append (before ++ open_coef coef value) rest)

-- nothing is left past the end
pub own_done : (var : ℕ) (coefs : List ℤ) (terms : List Term) (k : ℕ) → length coefs ≤ k → (before : List ℤ) → before ++ own_coefs var (drop k coefs) (drop k terms) ≡ own_coefs var coefs terms → before ≡ own_coefs var coefs terms
own_done var coefs terms k past before inv = sym (ap (λ cs. before ++ own_coefs var cs (drop k terms)) (drop_of_length-le coefs past) ∙ append-nil before) ∙ inv

-- a span by one test is one by another that is the same
pub span_where : (test other : ℤ → Bool) (values : List ℤ) → ((x : ℤ) → test x ≡ other x) → (result : Option Span) → IfSome result (SpansWhere test values) → IfSome result (SpansWhere other values)
span_where test other values same None h = h
span_where test other values same (Some span) h = λ k l. h k l ∙ same _
