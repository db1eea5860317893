-- What reading goes on with after a word.
use Rattle.std.proofs.Common.{◌≡◌, ◌≢◌, ℕ, true, false, cond, List, [], ◌∷◌, ◌⊎◌, inl, inr, Option, Some, Result, Ok, Err, ◌≤◌, leb, refl, sym, ap, ◌∙◌, subst}
use Rattle.std.specs.Prelude.{ℤ}
use Rattle.cnf_front.specs.declared.header.CnfError.{CnfError}
use Rattle.cnf_front.specs.declared.header.CnfError.TheVariants.{Syntax, Limit, Memory}
use Rattle.cnf_front.specs.declared.header.Mark.{Mark}
use Rattle.cnf_front.specs.declared.header.Mark.TheVariants.{P, Cnf, Clauses}
use Rattle.cnf_front.specs.Dimacs.{TextWord, IsNextWord}
use Rattle.std.proofs.lemmas.Bool.{le-leb}
use Rattle.dcsp_common.specs.declared.limits.Which.TheVariants.{Variables}
use Rattle.dcsp_rule.specs.Problems.{Contents}
use Rattle.cnf_front.specs.Formulas.{◌>>=◌, Gives, Clause, clauses_from, with_last, with_word, literal_in, is_end, passes, expect, within_limit, variables_at, number_of}

pub none_or_some : (xs : List ℕ) → (xs ≡ []) ⊎ (xs ≢ [])
none_or_some [] = inl refl
none_or_some (x ∷ xs) = inr (λ e. cc)

end_fails : (mark : Mark) → passes mark [] ≡ false
end_fails P = refl
end_fails Cnf = refl
end_fails Clauses = refl

pub expect_passed : (mark : Mark) (before after : List TextWord) (w : TextWord) → IsNextWord before w after → true ≡ passes mark w.bytes → expect (passes mark) before ≡ Ok after
expect_passed mark before after w n t =
    (elim (none_or_some w.bytes) [
      | inl e ↦ absurd (let f : true ≡ false = t ∙ ap (passes mark) e ∙ end_fails mark in cc)
      | inr some ↦ ap (expect (passes mark)) (n.more some) ∙ ap (λ b. cond b (Ok after) (Err (Syntax w.at))) (sym t)
    ])

pub expect_failed : (mark : Mark) (before after : List TextWord) (w : TextWord) → IsNextWord before w after → false ≡ passes mark w.bytes → expect (passes mark) before ≡ Err (Syntax w.at)
expect_failed mark before after w n t =
    (elim (none_or_some w.bytes) [
      | inl e ↦ ap (expect (passes mark)) (n.last e) ∙ ap (λ b. cond b (Ok []) (Err (Syntax w.at))) (sym t)
      | inr some ↦ ap (expect (passes mark)) (n.more some) ∙ ap (λ b. cond b (Ok after) (Err (Syntax w.at))) (sym t)
    ])

pub variables_next : (before after : List TextWord) (w : TextWord) → IsNextWord before w after → variables_at before ≡ within_limit w.at (number_of w.bytes) after
unfolding number_of
variables_next before after w n =
    (elim (none_or_some w.bytes) [
      | inl e ↦ ap variables_at (n.last e) ∙ ap (λ x. within_limit w.at (number_of x) []) e ∙ sym (ap (λ x. within_limit w.at (number_of x) after) e)
      | inr some ↦ ap variables_at (n.more some)
    ])

pub variables_some : (before after : List TextWord) (w : TextWord) (number : ℕ) → IsNextWord before w after → number_of w.bytes ≡ Some number → number ≤ 4096 → variables_at before ≡ Ok (number, after)
variables_some before after w number n e f =
    let small : leb number 4096 ≡ true = le-leb _ _ f in
    variables_next before after w n ∙ ap (λ o. within_limit w.at o after) e ∙ ap (λ b. cond b (Ok (number, after)) (Err (Limit Variables number w.at))) small

-- what is done with the word that is next
pub clauses_next : (v : ℕ) (p : Contents) (c : Clause) (before after : List TextWord) (w : TextWord) → IsNextWord before w after → clauses_from v p c before ≡ cond (is_end w.bytes) (with_last w.at p c) (with_word w.at p c (literal_in v w.bytes) >>= (λ s. clauses_from v s.0 s.1 after))
unfolding clauses_from
clauses_next v p c before after w n =
    (elim (none_or_some w.bytes) [
      | inl e ↦ (let t : is_end w.bytes ≡ true = ap is_end e in ap (clauses_from v p c) (n.last e) ∙ ap (λ b. cond b (with_last w.at p c) (with_word w.at p c (literal_in v w.bytes) >>= (λ s. clauses_from v s.0 s.1 []))) t ∙ sym (ap (λ b. cond b (with_last w.at p c) (with_word w.at p c (literal_in v w.bytes) >>= (λ s. clauses_from v s.0 s.1 after))) t))
      | inr some ↦ ap (clauses_from v p c) (n.more some)
    ])

pub clauses_ended : (v : ℕ) (p : Contents) (c : Clause) (before after : List TextWord) (w : TextWord) → IsNextWord before w after → true ≡ is_end w.bytes → clauses_from v p c before ≡ with_last w.at p c
clauses_ended v p c before after w n t = clauses_next v p c before after w n ∙ ap (λ b. cond b (with_last w.at p c) (with_word w.at p c (literal_in v w.bytes) >>= (λ s. clauses_from v s.0 s.1 after))) (sym t)

clauses_on : (v : ℕ) (p : Contents) (c : Clause) (before after : List TextWord) (w : TextWord) (z : Option ℤ) → IsNextWord before w after → false ≡ is_end w.bytes → z ≡ literal_in v w.bytes → clauses_from v p c before ≡ (with_word w.at p c z >>= (λ s. clauses_from v s.0 s.1 after))
clauses_on v p c before after w z n t l =
    clauses_next v p c before after w n ∙ ap (λ b. cond b (with_last w.at p c) (with_word w.at p c (literal_in v w.bytes) >>= (λ s. clauses_from v s.0 s.1 after))) (sym t) ∙ ap (λ o. with_word w.at p c o >>= (λ s. clauses_from v s.0 s.1 after)) (sym l)

pub clauses_went : (v : ℕ) (p q : Contents) (c d : Clause) (before after : List TextWord) (w : TextWord) (z : Option ℤ) → IsNextWord before w after → false ≡ is_end w.bytes → z ≡ literal_in v w.bytes → with_word w.at p c z ≡ Ok (q, d) → clauses_from v p c before ≡ clauses_from v q d after
clauses_went v p q c d before after w z n t l e = clauses_on v p c before after w z n t l ∙ ap (λ r. r >>= (λ s. clauses_from v s.0 s.1 after)) e

pub clauses_failed : (v : ℕ) (p : Contents) (c : Clause) (before after : List TextWord) (w : TextWord) (z : Option ℤ) → IsNextWord before w after → false ≡ is_end w.bytes → z ≡ literal_in v w.bytes → (f : CnfError) → with_word w.at p c z ≡ Err f → clauses_from v p c before ≡ Err f
clauses_failed v p c before after w z n t l f e = clauses_on v p c before after w z n t l ∙ ap (λ r. r >>= (λ s. clauses_from v s.0 s.1 after)) e

pub gives_by : {X Y : Type 0} (view : X → Y) (r : Result X CnfError) (given whole : Result Y CnfError) → whole ≡ given → Gives view r given → Gives view r whole
gives_by view r given whole e h = subst (λ z. Gives view r z) (sym e) h

pub gives_failed : {Y Z : Type 0} (y : Y) (z : Z) (e : CnfError) (given : Result Y CnfError) (whole : Result Z CnfError) → ((f : CnfError) → given ≡ Err f → whole ≡ Err f) → Gives (λ (u : Unit {0}). y) (Err e) given → Gives (λ (u : Unit {0}). z) (Err e) whole
gives_failed y z (Syntax at) given whole on h = on (Syntax at) h
gives_failed y z (Limit which count at) given whole on h = on (Limit which count at) h
gives_failed y z Memory given whole on h = tt
