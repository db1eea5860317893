-- What is declared is read in one way.
use Rattle.std.proofs.Common.{◌≡◌, List, sym, ◌∙◌, ap, subst, Result}
use Rattle.std.specs.Borrow.{Bor}
use Rattle.fzn_token.specs.declared.token.Token.{Token}
use Rattle.fzn_token.specs.declared.token.Mark.{Mark}
use Rattle.fzn_token.specs.declared.token.Mark.TheVariants as mark
use Rattle.fzn_token.specs.declared.token.Word.{Word}
use Rattle.fzn_token.specs.declared.token.Word.TheVariants as word
use Rattle.fzn_token.specs.declared.token.TokenKind.{TokenKind}
use Rattle.fzn_token.specs.declared.token.TokenKind.TheVariants as kind
use Rattle.fzn_item.specs.declared.item.Base.{Base}
use Rattle.fzn_item.specs.declared.item.Base.TheVariants as base
use Rattle.fzn_item.specs.declared.single.Stop.{Stop}
use Rattle.fzn_item.specs.Productions.{IsWord, IsInteger, IsListOf, Fails}
use Rattle.fzn_item.specs.Readers.{Reads}
use Rattle.fzn_item.specs.Elements.{SetAfter, IsSetElement, BaseAfter, IsBase, variable, parameter, ElementAfter, IsElement}
use Rattle.fzn_item.proofs.Combining.{IsUnique, one_unique, gives_unique, then_unique, reads_after}
use Rattle.fzn_item.proofs.ListsSoFar.{integer_unique}
use Rattle.fzn_item.proofs.ExprLaws.{members_unique, nothing_unique, any_unique}

-- what follows the first token behind `set of` is read in one way
set_after_unique : (k : TokenKind) → IsUnique (SetAfter k)
set_after_unique kind.Name = nothing_unique
set_after_unique (kind.Word word.Int) = gives_unique base.Set
set_after_unique (kind.Word _) = nothing_unique
set_after_unique (kind.Whole z) = then_unique _ _ (one_unique (kind.Mark mark.DotDot)) (λ _. then_unique _ _ integer_unique (λ _. gives_unique base.Set))
set_after_unique kind.Float = nothing_unique
set_after_unique kind.Text = nothing_unique
set_after_unique (kind.Mark mark.OpenBrace) = then_unique _ _ members_unique (λ _. gives_unique base.Set)
set_after_unique (kind.Mark _) = nothing_unique

-- what stands behind `set of` is read in one way
set_element_unique : IsUnique IsSetElement
set_element_unique = then_unique _ _ any_unique (λ first. set_after_unique first.kind)

-- what follows a base's first token is read in one way
base_after_unique : (k : TokenKind) → IsUnique (BaseAfter k)
base_after_unique kind.Name = nothing_unique
base_after_unique (kind.Word word.Bool) = gives_unique base.Bool
base_after_unique (kind.Word word.Int) = gives_unique base.Int
base_after_unique (kind.Word word.Float) = gives_unique base.Float
base_after_unique (kind.Word word.Set) = then_unique _ (λ _. IsSetElement) (one_unique (kind.Word word.Of)) (λ _. set_element_unique)
base_after_unique (kind.Word _) = nothing_unique
base_after_unique (kind.Whole low) = then_unique _ _ (one_unique (kind.Mark mark.DotDot)) (λ _. then_unique _ _ integer_unique (λ high. gives_unique (base.Range low high)))
base_after_unique kind.Float = then_unique _ _ (one_unique (kind.Mark mark.DotDot)) (λ _. then_unique _ _ (one_unique kind.Float) (λ _. gives_unique base.Float))
base_after_unique kind.Text = nothing_unique
base_after_unique (kind.Mark mark.OpenBrace) = then_unique _ _ members_unique (λ values. gives_unique (base.Listed values))
base_after_unique (kind.Mark _) = nothing_unique

-- a base is read in one way
base_unique : IsUnique IsBase
base_unique = then_unique _ _ any_unique (λ first. base_after_unique first.kind)

-- what follows an element's first token is read in one way
pub element_after_unique : (k : TokenKind) → IsUnique (ElementAfter k)
element_after_unique kind.Name = nothing_unique
element_after_unique (kind.Word word.Var) = then_unique _ _ base_unique (λ b. gives_unique (variable b))
element_after_unique (kind.Word word.Bool) = gives_unique (parameter base.Bool)
element_after_unique (kind.Word word.Int) = gives_unique (parameter base.Int)
element_after_unique (kind.Word word.Float) = gives_unique (parameter base.Float)
element_after_unique (kind.Word word.Set) = then_unique _ _ (one_unique (kind.Word word.Of)) (λ _. then_unique _ _ (one_unique (kind.Word word.Int)) (λ _. gives_unique (parameter base.Set)))
element_after_unique (kind.Word _) = nothing_unique
element_after_unique (kind.Whole z) = nothing_unique
element_after_unique kind.Float = nothing_unique
element_after_unique kind.Text = nothing_unique
element_after_unique (kind.Mark m) = nothing_unique

-- an element is read in one way
pub element_unique : IsUnique IsElement
element_unique = then_unique _ _ any_unique (λ first. element_after_unique first.kind)

-- no listed set follows a brace
pub set_listed_fails : (k : TokenKind) (m : Mark) (ts : List Token) → k ≡ kind.Mark m → m ≡ mark.OpenBrace → Fails (IsListOf IsInteger mark.CloseBrace) ts → Fails (SetAfter k) ts
set_listed_fails k m ts is is_brace fails = subst (λ x. Fails (SetAfter x) ts) (sym (is ∙ ap kind.Mark is_brace)) (λ v rest p. fails p.0 p.1 p.2)

-- the same in a base
pub base_listed_fails : (k : TokenKind) (m : Mark) (ts : List Token) → k ≡ kind.Mark m → m ≡ mark.OpenBrace → Fails (IsListOf IsInteger mark.CloseBrace) ts → Fails (BaseAfter k) ts
base_listed_fails k m ts is is_brace fails = subst (λ x. Fails (BaseAfter x) ts) (sym (is ∙ ap kind.Mark is_brace)) (λ v rest p. fails p.0 p.1 p.2)

-- what follows `set of` decides
pub set_reads : (k : TokenKind) (w : Word) (ts rest : List Token) (t : Token) (r : Result (Base × Bor (List Token)) Stop) → k ≡ kind.Word w → w ≡ word.Set → IsWord word.Of ts t rest → Reads IsSetElement rest r → Reads (BaseAfter k) ts r
set_reads k w ts rest t r is is_set found reads = subst (λ x. Reads (BaseAfter x) ts r) (sym (is ∙ ap kind.Word is_set)) (reads_after (kind.Word word.Of) (λ _. IsSetElement) ts rest t r found reads)

-- no base follows `var`
pub variable_fails : (k : TokenKind) (w : Word) (ts : List Token) → k ≡ kind.Word w → w ≡ word.Var → Fails IsBase ts → Fails (ElementAfter k) ts
variable_fails k w ts is is_var fails = subst (λ x. Fails (ElementAfter x) ts) (sym (is ∙ ap kind.Word is_var)) (λ v rest p. fails p.0 p.1 p.2)
