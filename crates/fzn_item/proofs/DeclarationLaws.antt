-- Declarations are read in one way.
use Rattle.std.proofs.Common.{ℕ, ℤ, Bool, true, false, List, refl, subst, ⊎_elim, Option, Some, None, Err, Result}
use Rattle.std.specs.Prelude.{◌&&◌, is_none}
use Rattle.std.specs.Borrow.{Bor}
use Rattle.fzn_token.specs.declared.token.Token.{Token}
use Rattle.fzn_token.specs.declared.token.Mark.TheVariants as mark
use Rattle.fzn_token.specs.declared.token.Word.TheVariants as word
use Rattle.fzn_token.specs.declared.token.TokenKind.TheVariants as kind
use Rattle.fzn_item.specs.declared.item.Expr.{Expr}
use Rattle.fzn_item.specs.declared.item.Marked.{Marked}
use Rattle.fzn_item.specs.declared.item.Item.{Item}
use Rattle.fzn_item.specs.declared.item.Item.TheVariants as item
use Rattle.fzn_item.specs.declared.element.Element.{Element}
use Rattle.fzn_item.specs.declared.single.Stop.{Stop}
use Rattle.fzn_item.specs.Productions.{Production, Gives, ◌>>=◌, IsMark, IsWord, IsName, Fails}
use Rattle.fzn_item.specs.Readers.{Reads}
use Rattle.fzn_item.specs.Exprs.{IsLastExpr}
use Rattle.fzn_item.specs.Marks.{IsRange, AreAnnotations}
use Rattle.fzn_item.specs.Elements.{ElementAfter, IsElement}
use Rattle.fzn_item.specs.Declarations.{NoRight, RightSide, IsNamed, IsDeclaration, IsArray}
use Rattle.fzn_item.proofs.Combining.{IsUnique, one_unique, gives_unique, then_unique, or_unique, kinds_apart, fails_first, fails_then, fails_after, reads_then, reads_after, refused_first}
use Rattle.fzn_item.proofs.ExprLaws.{last_unique, nothing_unique}
use Rattle.fzn_item.proofs.MarkLaws.{range_unique, annotations_unique}
use Rattle.fzn_item.proofs.ElementLaws.{element_after_unique, element_unique}

-- a missing right side is read in one way
no_right_unique : (optional : Bool) → IsUnique (NoRight optional)
no_right_unique true = then_unique _ _ (one_unique (kind.Mark mark.Semicolon)) (λ _. gives_unique None)
no_right_unique false = nothing_unique

-- where a right side begins, it is not missing
not_missing : (optional : Bool) (ts rest end : List Token) (t : Token) (v : Option Expr) → IsMark mark.Equals ts t rest → NoRight optional ts v end → ⊥
not_missing true ts rest end t v equals p = kinds_apart (kind.Mark mark.Equals) (kind.Mark mark.Semicolon) (λ e. cc) ts t p.0 rest p.1 equals p.2
not_missing false ts rest end t v equals p = p

-- a right side is read in one way
pub right_unique : (optional : Bool) → IsUnique (RightSide optional)
right_unique optional = or_unique _ _
    (then_unique _ _ (one_unique (kind.Mark mark.Equals)) (λ _. then_unique _ _ last_unique (λ right. gives_unique (Some right))))
    (no_right_unique optional)
    (λ ts v w r s p q. not_missing optional ts p.1 s p.0 w p.2 q)

-- no expression follows the `=`
pub right_fails : (optional : Bool) (ts rest : List Token) (t : Token) → IsMark mark.Equals ts t rest → Fails IsLastExpr rest → Fails (RightSide optional) ts
right_fails optional ts rest t equals fails v end p = ⊎_elim
    (λ right. let same = one_unique (kind.Mark mark.Equals) ts right.0 t right.1 rest right.2 equals in fails right.3.0 right.3.1 (subst (λ m. IsLastExpr m right.3.0 right.3.1) same.1 right.3.2))
    (λ missing. not_missing optional ts rest end t v equals missing)
    p

-- the parts of a declaration after its annotations, its name and its `:`
module _ (text : List ℕ) (at : ℕ) (index : Option (ℤ × ℤ)) (element : Element) where
  -- whether the right side may be missing
  abbrev optional : Bool
  optional = element.variable && is_none index

  -- the declaration with all its parts
  abbrev Full : Token → Marked → Option Expr → Production Item
  Full name says right = Gives (item.Declare at element.variable index element.base name.from name.to says right)

  -- what follows the annotations
  abbrev AfterAnnotations : Token → Marked → Production Item
  AfterAnnotations name says = RightSide optional >>= Full name says

  -- what follows the name
  abbrev AfterName : Token → Production Item
  AfterName name = AreAnnotations text >>= AfterAnnotations name

  -- what follows the `:`
  abbrev AfterColon : Production Item
  AfterColon = IsName >>= AfterName

  -- what follows an element is read in one way
  pub named_unique : IsUnique (IsNamed text at index element)
  named_unique = then_unique (IsMark mark.Colon) (λ _. AfterColon) (one_unique (kind.Mark mark.Colon)) (λ _.
      then_unique IsName AfterName (one_unique kind.Name) (λ name.
      then_unique (AreAnnotations text) (AfterAnnotations name) (annotations_unique text) (λ says.
      then_unique (RightSide optional) (Full name says) (right_unique optional) (λ right.
      gives_unique (item.Declare at element.variable index element.base name.from name.to says right)))))

  module _ (ts after_colon after_name : List Token) (t name : Token) (colon : IsMark mark.Colon ts t after_colon) (is_name : IsName after_colon name after_name) where
    -- what follows the name fails
    after_the_name : Fails (AfterName name) after_name → Fails (IsNamed text at index element) ts
    after_the_name fails = fails_after (kind.Mark mark.Colon) (λ _. AfterColon) ts after_colon t colon (fails_after kind.Name AfterName after_colon after_name name is_name fails)

    -- the annotations are not read
    pub no_annotations : Fails (AreAnnotations text) after_name → Fails (IsNamed text at index element) ts
    no_annotations fails = after_the_name (fails_first (AreAnnotations text) (AfterAnnotations name) after_name fails)

    -- the right side is not read
    pub no_right : (says : Marked) (rest : List Token) → AreAnnotations text after_name says rest → Fails (RightSide optional) rest → Fails (IsNamed text at index element) ts
    no_right says rest found fails = after_the_name (fails_then (AreAnnotations text) (AfterAnnotations name) after_name rest says (annotations_unique text) found (fails_first (RightSide optional) (Full name says) rest fails))

    -- all parts are read
    pub named_found : (says : Marked) (rest end : List Token) (right : Option Expr) → AreAnnotations text after_name says rest → RightSide optional rest right end → IsNamed text at index element ts (item.Declare at element.variable index element.base name.from name.to says right) end
    named_found says rest end right found is_right = (t, after_colon, colon, (name, after_name, is_name, (says, rest, found, (right, end, is_right, (refl, refl)))))

-- a declaration of no array, after its element
abbrev Single : List ℕ → Token → Element → Production Item
Single text first element = IsNamed text first.from None element

-- a declaration of no array is read in one way
pub declaration_unique : (text : List ℕ) (first : Token) → IsUnique (IsDeclaration text first)
declaration_unique text first = then_unique (ElementAfter first.kind) (Single text first) (element_after_unique first.kind) (λ element. named_unique text first.from None element)

-- the element is not read
pub no_element : (text : List ℕ) (first : Token) (ts : List Token) → Fails (ElementAfter first.kind) ts → Fails (IsDeclaration text first) ts
no_element text first ts fails = fails_first (ElementAfter first.kind) (Single text first) ts fails

-- what follows the element decides
pub declaration_reads : (text : List ℕ) (first : Token) (ts rest : List Token) (element : Element) (r : Result (Item × Bor (List Token)) Stop) → ElementAfter first.kind ts element rest → Reads (IsNamed text first.from None element) rest r → Reads (IsDeclaration text first) ts r
declaration_reads text first ts rest element r found reads = reads_then (ElementAfter first.kind) (Single text first) ts rest element r (element_after_unique first.kind) found reads

-- the parts of an array after its `of`, its `]`, its index and its `[`
module _ (text : List ℕ) (first : Token) where
  -- the array, after its element
  abbrev Each : ℤ × ℤ → Element → Production Item
  Each index element = IsNamed text first.from (Some index) element

  -- what follows the `of`
  abbrev AfterOf : ℤ × ℤ → Production Item
  AfterOf index = IsElement >>= Each index

  -- what follows the `]`
  abbrev AfterBracket : ℤ × ℤ → Production Item
  AfterBracket index = IsWord word.Of >>= (λ _. AfterOf index)

  -- what follows the index
  abbrev AfterIndex : ℤ × ℤ → Production Item
  AfterIndex index = IsMark mark.CloseBracket >>= (λ _. AfterBracket index)

  -- what follows the `[`
  abbrev AfterOpen : Production Item
  AfterOpen = IsRange >>= AfterIndex

  -- an array is read in one way
  pub array_unique : IsUnique (IsArray text first)
  array_unique = then_unique (IsMark mark.OpenBracket) (λ _. AfterOpen) (one_unique (kind.Mark mark.OpenBracket)) (λ _.
      then_unique IsRange AfterIndex range_unique (λ index.
      then_unique (IsMark mark.CloseBracket) (λ _. AfterBracket index) (one_unique (kind.Mark mark.CloseBracket)) (λ _.
      then_unique (IsWord word.Of) (λ _. AfterOf index) (one_unique (kind.Word word.Of)) (λ _.
      then_unique IsElement (Each index) element_unique (λ element. named_unique text first.from (Some index) element)))))

  module _ (ts after_open : List Token) (t : Token) (bracket : IsMark mark.OpenBracket ts t after_open) where
    -- the index is not read
    pub no_index : Fails IsRange after_open → Fails (IsArray text first) ts
    no_index fails = fails_after (kind.Mark mark.OpenBracket) (λ _. AfterOpen) ts after_open t bracket (fails_first IsRange AfterIndex after_open fails)

    module _ (index : ℤ × ℤ) (after_index : List Token) (found : IsRange after_open index after_index) where
      -- what follows the index decides
      after_the_index : (r : Result (Item × Bor (List Token)) Stop) → Reads (AfterIndex index) after_index r → Reads (IsArray text first) ts r
      after_the_index r reads = reads_after (kind.Mark mark.OpenBracket) (λ _. AfterOpen) ts after_open t r bracket (reads_then IsRange AfterIndex after_open after_index index r range_unique found reads)

      -- no `]` follows the index
      pub no_bracket : Fails (IsMark mark.CloseBracket) after_index → Fails (IsArray text first) ts
      no_bracket fails = fails_after (kind.Mark mark.OpenBracket) (λ _. AfterOpen) ts after_open t bracket (fails_then IsRange AfterIndex after_open after_index index range_unique found (fails_first (IsMark mark.CloseBracket) (λ _. AfterBracket index) after_index fails))

      -- no `of` follows the `]`
      pub no_of : (u : Token) (rest : List Token) → IsMark mark.CloseBracket after_index u rest → Fails (IsWord word.Of) rest → Fails (IsArray text first) ts
      no_of u rest close fails = fails_after (kind.Mark mark.OpenBracket) (λ _. AfterOpen) ts after_open t bracket (fails_then IsRange AfterIndex after_open after_index index range_unique found (fails_after (kind.Mark mark.CloseBracket) (λ _. AfterBracket index) after_index rest u close (fails_first (IsWord word.Of) (λ _. AfterOf index) rest fails)))

      module _ (after_close after_of : List Token) (u w : Token) (close : IsMark mark.CloseBracket after_index u after_close) (of_word : IsWord word.Of after_close w after_of) where
        -- what follows the `of` decides
        after_the_of : (r : Result (Item × Bor (List Token)) Stop) → Reads (AfterOf index) after_of r → Reads (IsArray text first) ts r
        after_the_of r reads = after_the_index r (reads_after (kind.Mark mark.CloseBracket) (λ _. AfterBracket index) after_index after_close u r close (reads_after (kind.Word word.Of) (λ _. AfterOf index) after_close after_of w r of_word reads))

        -- the element is refused
        pub element_refused : (e : Stop) → Reads IsElement after_of (Err e) → Reads (IsArray text first) ts (Err e)
        element_refused e refused = after_the_of (Err e) (refused_first IsElement (Each index) after_of e refused)

        -- what follows the element decides
        pub array_reads : (element : Element) (rest : List Token) (r : Result (Item × Bor (List Token)) Stop) → IsElement after_of element rest → Reads (IsNamed text first.from (Some index) element) rest r → Reads (IsArray text first) ts r
        array_reads element rest r is_element reads = after_the_of r (reads_then IsElement (Each index) after_of rest element r element_unique is_element reads)
