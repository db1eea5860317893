-- Lists with commas between, as far as they are read.
use Rattle.std.proofs.Common.{◌≡◌, ℕ, ◌+◌, List, [], ◌∷◌, ◌++◌, length, refl, inr, sym, ◌∙◌, ap, subst, ⊎_elim, append_assoc, length-append}
use Rattle.fzn_token.specs.declared.token.Token.{Token}
use Rattle.fzn_token.specs.declared.token.TokenKind.TheVariants as kind
use Rattle.fzn_token.specs.declared.token.Mark.{Mark}
use Rattle.fzn_token.specs.declared.token.Mark.TheVariants as mark
use Rattle.fzn_item.specs.Productions.{Production, IsMark, IsInteger, IsSeparated, last, more, IsListOf, Fails}
use Rattle.fzn_item.proofs.Combining.{IsUnique, one_unique, comma_apart}

-- the list's forms vs are read, and rest is where one more must stand
pub record IsListSoFar {V : Type 0} (R : Production V) (close : Mark) (ts : List Token) (vs : List V) (rest : List Token) : Type 0 where
  pub goes_on : (ws : List V) (end : List Token) → IsSeparated R close rest ws end → IsSeparated R close ts (vs ++ ws) end
  pub stops : Fails (IsSeparated R close) rest → Fails (IsSeparated R close) ts

-- the same, of forms that are counted and not kept
pub record IsCountSoFar {V : Type 0} (R : Production V) (close : Mark) (ts : List Token) (count : ℕ) (rest : List Token) : Type 0 where
  pub forms : List V
  pub so_far : IsListSoFar R close ts forms rest
  pub counted : length forms ≡ count

-- at the start no form is read
pub list_start : {V : Type 0} (R : Production V) (close : Mark) (ts : List Token) → IsListSoFar R close ts [] ts
list_start R close ts = record { goes_on = λ ws end p. p; stops = λ fails. fails }

-- at the start none is counted
pub count_start : {V : Type 0} (R : Production V) (close : Mark) (ts : List Token) → IsCountSoFar R close ts 0 ts
count_start R close ts = record { forms = []; so_far = list_start R close ts; counted = refl }

module _ {V : Type 0} (R : Production V) (close : Mark) (differ : close ≡ mark.Comma → ⊥) (unique : IsUnique R) where
  -- one more form and a comma
  pub list_comma : (ts : List Token) (vs : List V) (rest middle next : List Token) (v : V) (t : Token) → IsListSoFar R close ts vs rest → R rest v middle → IsMark mark.Comma middle t next → IsListSoFar R close ts (vs ++ v ∷ []) next
  list_comma ts vs rest middle next v t so_far form comma = record {
    goes_on = λ ws end p. subst (λ l. IsSeparated R close ts l end) (sym (append_assoc vs (v ∷ []) ws)) (so_far.goes_on (v ∷ ws) end (more t form comma p));
    stops = λ fails. so_far.stops (after_comma rest middle next v t form comma fails);
  } where
    -- what follows the comma fails
    after_comma : (rest middle next : List Token) (v : V) (t : Token) → R rest v middle → IsMark mark.Comma middle t next → Fails (IsSeparated R close) next → Fails (IsSeparated R close) rest
    after_comma rest middle next v t form comma fails ws end (last {middle = m} {v = w} u p q) =
        let same = unique rest v w middle m form p in
        comma_apart close differ m u t end next q (subst (λ k. IsMark mark.Comma k t next) same.1 comma)
    after_comma rest middle next v t form comma fails ws end (more {middle = m} {next = n} {v = w} {vs = us} u p q r) =
        let same = unique rest v w middle m form p in
        let after = one_unique (kind.Mark mark.Comma) m t u next n (subst (λ k. IsMark mark.Comma k t next) same.1 comma) q in
        fails us end (subst (λ k. IsSeparated R close k us end) (sym after.1) r)

  -- the last form and the closing mark
  pub list_close : (ts : List Token) (vs : List V) (rest middle end : List Token) (v : V) (t : Token) → IsListSoFar R close ts vs rest → R rest v middle → IsMark close middle t end → IsSeparated R close ts (vs ++ v ∷ []) end
  list_close ts vs rest middle end v t so_far form closes = so_far.goes_on (v ∷ []) end (last t form closes)

  -- no form where one must stand
  pub list_no_form : (ts : List Token) (vs : List V) (rest : List Token) → IsListSoFar R close ts vs rest → Fails R rest → Fails (IsSeparated R close) ts
  list_no_form ts vs rest so_far fails = so_far.stops (no_form rest fails) where
    -- the same from the place on
    no_form : (rest : List Token) → Fails R rest → Fails (IsSeparated R close) rest
    no_form rest fails ws end (last {middle = m} {v = w} u p q) = fails w m p
    no_form rest fails ws end (more {middle = m} {v = w} u p q r) = fails w m p

  -- neither a comma nor the closing mark
  pub list_no_mark : (ts : List Token) (vs : List V) (rest middle : List Token) (v : V) → IsListSoFar R close ts vs rest → R rest v middle → Fails (IsMark mark.Comma) middle → Fails (IsMark close) middle → Fails (IsSeparated R close) ts
  list_no_mark ts vs rest middle v so_far form no_comma no_close = so_far.stops (no_mark rest middle v form no_comma no_close) where
    -- the same from the place on
    no_mark : (rest middle : List Token) (v : V) → R rest v middle → Fails (IsMark mark.Comma) middle → Fails (IsMark close) middle → Fails (IsSeparated R close) rest
    no_mark rest middle v form no_comma no_close ws end (last {middle = m} {v = w} u p q) =
        let same = unique rest v w middle m form p in no_close u end (subst (λ k. IsMark close k u end) (sym same.1) q)
    no_mark rest middle v form no_comma no_close ws end (more {middle = m} {next = n} {v = w} u p q r) =
        let same = unique rest v w middle m form p in no_comma u n (subst (λ k. IsMark mark.Comma k u n) (sym same.1) q)

  -- neither the closing mark nor a form stands there
  pub list_fails : (ts : List Token) → Fails (IsMark close) ts → Fails (IsSeparated R close) ts → Fails (IsListOf R close) ts
  list_fails ts no_close no_form vs end p = ⊎_elim (λ empty. no_close empty.1 end empty.2) (λ some. no_form vs end some) p

  -- one more form is counted, and a comma
  pub count_comma : (ts : List Token) (count : ℕ) (rest middle next : List Token) (t : Token) → IsCountSoFar R close ts count rest → (v : V) × R rest v middle → IsMark mark.Comma middle t next → IsCountSoFar R close ts (count + 1) next
  count_comma ts count rest middle next t c form comma = record {
    forms = c.forms ++ form.0 ∷ [];
    so_far = list_comma ts c.forms rest middle next form.0 t c.so_far form.1 comma;
    counted = length-append c.forms (form.0 ∷ []) ∙ ap (λ n. n + 1) c.counted;
  }

  -- the last form is counted, and the closing mark
  pub count_close : (ts : List Token) (count : ℕ) (rest middle end : List Token) (t : Token) → IsCountSoFar R close ts count rest → (v : V) × R rest v middle → IsMark close middle t end → (vs : List V) × IsListOf R close ts vs end × (length vs ≡ count + 1)
  count_close ts count rest middle end t c form closes = (c.forms ++ form.0 ∷ [], inr (list_close ts c.forms rest middle end form.0 t c.so_far form.1 closes), length-append c.forms (form.0 ∷ []) ∙ ap (λ n. n + 1) c.counted)

-- an integer is read in one way
pub integer_unique : IsUnique IsInteger
integer_unique [] v w r s p q = absurd p
-- an integer is read in one way
integer_unique (u ∷ us) v w r s p q = (let same : kind.Whole v ≡ kind.Whole w = sym p.0 ∙ q.0 in cc, p.1 ∙ sym q.1)
