-- Annotation expressions are read in one way.
use Rattle.std.proofs.Common.{◌≡◌, ℕ, zero, suc, List, [], ◌∷◌, sym, ◌∙◌, refl, ap, subst, ⊎_elim, inl, Option, Some, None, length, arith}
use Rattle.std.specs.Borrow.{Bor}
use Rattle.fzn_token.specs.declared.token.Token.{Token}
use Rattle.fzn_token.specs.declared.token.Mark.{Mark}
use Rattle.fzn_token.specs.declared.token.Mark.TheVariants as mark
use Rattle.fzn_token.specs.declared.token.Word.TheVariants as word
use Rattle.fzn_token.specs.declared.token.TokenKind.{TokenKind}
use Rattle.fzn_token.specs.declared.token.TokenKind.TheVariants as kind
use Rattle.fzn_item.specs.Productions.{Production, IsAny, IsMark, IsAnyList, Fails}
use Rattle.fzn_item.specs.Readers.{Skips}
use Rattle.fzn_item.specs.Annotations.{Arguments, RangeEnd, FloatRangeEnd, NumberAfter, IsNumber, InnerAfter, IsInner}
use Rattle.fzn_item.specs.Skipping.{IsSkipped}
use Rattle.fzn_item.specs.declared.annotation.Skipped.{Skipped}
use Rattle.fzn_item.specs.declared.annotation.Skipped.TheVariants as skipped
use Rattle.fzn_item.proofs.Combining.{IsUnique, one_unique, gives_unique, then_unique, or_unique, fails_then}
use Rattle.fzn_item.proofs.ListsSoFar.{integer_unique}
use Rattle.fzn_item.proofs.ExprLaws.{list_unique, not_next_unique, nothing_unique, any_unique}

-- R begins with no mark that closes
abbrev pub IsApart : Production (Unit {0}) → Mark → Type 0
IsApart R close = (ts : List Token) (v : Unit {0}) (t : Token) (r s : List Token) → R ts v r → IsMark close ts t s → ⊥

-- a list whose values are not looked at is read in one way where its forms are
pub any_list_unique : (R : Production (Unit {0})) (close : Mark) → (close ≡ mark.Comma → ⊥) → IsApart R close → IsUnique R → IsUnique (IsAnyList R close)
any_list_unique R close differ apart unique ts v w r s p q = (refl, (list_unique R close differ apart unique ts p.0 q.0 r s p.1 q.1).1)

-- what follows a number's first token is read in one way
number_after_unique : (k : TokenKind) → IsUnique (NumberAfter k)
number_after_unique (kind.Whole z) = gives_unique tt
number_after_unique kind.Float = gives_unique tt
number_after_unique kind.Name = nothing_unique
number_after_unique kind.Text = nothing_unique
number_after_unique (kind.Word w) = nothing_unique
number_after_unique (kind.Mark m) = nothing_unique

-- a number is read in one way
pub number_unique : IsUnique IsNumber
number_unique = then_unique _ (λ first. NumberAfter first.kind) any_unique (λ first. number_after_unique first.kind)

-- a number begins with no brace that closes
pub number_apart : IsApart IsNumber mark.CloseBrace
number_apart [] v t r s p q = q
number_apart (u ∷ us) v t r s p q = subst (λ k. NumberAfter k p.1 v r) (ap (λ x. x.kind) p.2.0 ∙ q.0) p.3

-- parentheses after a name are read in one way where the forms in them are
pub parentheses_unique : (R : Production (Unit {0})) → IsApart R mark.CloseParen → IsUnique R → IsUnique (Arguments R)
parentheses_unique R apart unique = or_unique _ _
    (then_unique _ (λ _. IsAnyList R mark.CloseParen) (one_unique (kind.Mark mark.OpenParen)) (λ _. any_list_unique R mark.CloseParen (λ e. cc) apart unique))
    (not_next_unique mark.OpenParen)
    (λ ts v w r s p q. q.1 p.0 p.1 p.2)

-- what follows an integer is read in one way
range_end_unique : IsUnique RangeEnd
range_end_unique = or_unique _ _
    (then_unique _ _ (one_unique (kind.Mark mark.DotDot)) (λ _. then_unique _ _ integer_unique (λ _. gives_unique tt)))
    (not_next_unique mark.DotDot)
    (λ ts v w r s p q. q.1 p.0 p.1 p.2)

-- what follows a float is read in one way
float_range_end_unique : IsUnique FloatRangeEnd
float_range_end_unique = or_unique _ _
    (then_unique _ _ (one_unique (kind.Mark mark.DotDot)) (λ _. then_unique _ _ (one_unique kind.Float) (λ _. gives_unique tt)))
    (not_next_unique mark.DotDot)
    (λ ts v w r s p q. q.1 p.0 p.1 p.2)

-- numbers in braces are read in one way
numbers_unique : IsUnique (IsAnyList IsNumber mark.CloseBrace)
numbers_unique = any_list_unique IsNumber mark.CloseBrace (λ e. cc) number_apart number_unique

-- what follows an annotation expression's first token is read in one way
inner_after_unique : (R : Production (Unit {0})) → IsApart R mark.CloseParen → IsApart R mark.CloseBracket → IsUnique R → (k : TokenKind) → IsUnique (InnerAfter R k)
inner_after_unique R paren bracket unique kind.Name = parentheses_unique R paren unique
inner_after_unique R paren bracket unique (kind.Word word.True) = gives_unique tt
inner_after_unique R paren bracket unique (kind.Word word.False) = gives_unique tt
inner_after_unique R paren bracket unique (kind.Word _) = nothing_unique
inner_after_unique R paren bracket unique (kind.Whole z) = range_end_unique
inner_after_unique R paren bracket unique kind.Float = float_range_end_unique
inner_after_unique R paren bracket unique kind.Text = gives_unique tt
inner_after_unique R paren bracket unique (kind.Mark mark.OpenBrace) = numbers_unique
inner_after_unique R paren bracket unique (kind.Mark mark.OpenBracket) = any_list_unique R mark.CloseBracket (λ e. cc) bracket unique
inner_after_unique R paren bracket unique (kind.Mark _) = nothing_unique

-- an annotation expression begins with no parenthesis or bracket that closes
pub inner_apart_paren : (d : ℕ) → IsApart (IsInner d) mark.CloseParen
unfolding IsInner
inner_apart_paren zero ts v t r s p q = p
inner_apart_paren (suc d) [] v t r s p q = q
inner_apart_paren (suc d) (u ∷ us) v t r s p q = subst (λ k. InnerAfter (IsInner d) k p.1 v r) (ap (λ x. x.kind) p.2.0 ∙ q.0) p.3

-- the same of the bracket
pub inner_apart_bracket : (d : ℕ) → IsApart (IsInner d) mark.CloseBracket
unfolding IsInner
inner_apart_bracket zero ts v t r s p q = p
inner_apart_bracket (suc d) [] v t r s p q = q
inner_apart_bracket (suc d) (u ∷ us) v t r s p q = subst (λ k. InnerAfter (IsInner d) k p.1 v r) (ap (λ x. x.kind) p.2.0 ∙ q.0) p.3

-- an annotation expression is read in one way
pub inner_unique : (d : ℕ) → IsUnique (IsInner d)
unfolding IsInner
inner_unique zero = nothing_unique
inner_unique (suc d) = then_unique IsAny (λ first. InnerAfter (IsInner d) first.kind) any_unique
    (λ first. inner_after_unique (IsInner d) (inner_apart_paren d) (inner_apart_bracket d) (inner_unique d) first.kind)

-- no annotation expression has depth 0
pub inner_zero : (d : ℕ) (ts : List Token) → d ≡ 0 → Fails (IsInner d) ts
unfolding IsInner
inner_zero d ts is v rest p = subst (λ x. IsInner x ts v rest) is p

-- no annotation expression is without tokens
pub inner_none : (d e : ℕ) (ts : List Token) → d ≡ suc e → length ts ≡ 0 → Fails (IsInner d) ts
unfolding IsInner
inner_none d e [] is empty v rest p = (let q : IsInner (suc e) [] v rest = subst (λ x. IsInner x [] v rest) is p in q.2)
inner_none d e (t ∷ ts) is empty v rest p = (let no : ⊥ = omega arith in no)

-- what follows the first token decides
pub inner_reads : (d e : ℕ) (ts rest : List Token) (t : Token) (r : Option (Bor (List Token))) → d ≡ suc e → ts ≡ t ∷ rest → Skips (InnerAfter (IsInner e) t.kind) rest r → Skips (IsInner d) ts r
unfolding IsInner
inner_reads d e ts rest t None is begins fails = subst (λ us. Fails (IsInner d) us) (sym begins) (subst (λ x. Fails (IsInner x) (t ∷ rest)) (sym is)
    (λ v end p. fails_then IsAny (λ first. InnerAfter (IsInner e) first.kind) (t ∷ rest) rest t any_unique (refl, refl) fails v end p))
inner_reads d e ts rest t (Some end) is begins reads = subst (λ us. IsInner d us tt end.now) (sym begins) (subst (λ x. IsInner x (t ∷ rest) tt end.now) (sym is) (t, rest, (refl, refl), reads))

-- what follows an opening parenthesis decides
pub parentheses_read : (R : Production (Unit {0})) (ts inside : List Token) (u : Token) (r : Option (Bor (List Token))) → IsMark mark.OpenParen ts u inside → Skips (IsAnyList R mark.CloseParen) inside r → Skips (Arguments R) ts r
parentheses_read R ts inside u None paren fails = λ v end p. ⊎_elim
    (λ with. let same = one_unique (kind.Mark mark.OpenParen) ts with.0 u with.1 inside with.2 paren in fails v end (subst (λ m. IsAnyList R mark.CloseParen m v end) same.1 with.3))
    (λ plain. plain.1 u inside paren)
    p
parentheses_read R ts inside u (Some end) paren reads = inl (u, inside, paren, reads)

-- a list's forms are read in one way
pub skipped_unique : (s : Skipped) → IsUnique (IsSkipped s)
skipped_unique (skipped.Inner depth) = inner_unique depth
skipped_unique skipped.Number = number_unique
