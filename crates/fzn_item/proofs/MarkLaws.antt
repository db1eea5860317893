-- Annotations that say what is printed are read in one way.
use Rattle.std.proofs.Common.{◌≡◌, ℕ, ℤ, List, [], ◌∷◌, sym, ◌∙◌, refl, subst, ⊎_elim}
use Rattle.fzn_token.specs.declared.token.Token.{Token}
use Rattle.fzn_token.specs.declared.token.Mark.{Mark}
use Rattle.fzn_token.specs.declared.token.Mark.TheVariants as mark
use Rattle.fzn_token.specs.declared.token.TokenKind.TheVariants as kind
use Rattle.fzn_item.specs.declared.item.Marked.{Marked}
use Rattle.fzn_item.specs.declared.item.Marked.TheVariants as marked
use Rattle.fzn_item.specs.declared.marking.Called.{Called}
use Rattle.fzn_item.specs.declared.marking.Called.TheVariants as name
use Rattle.fzn_item.specs.Productions.{Production, Gives, ◌>>=◌, IsMark, IsListOf, IsAnyList, Fails}
use Rattle.fzn_item.specs.Annotations.{Arguments, IsInner}
use Rattle.fzn_item.specs.Marks.{called, first_mark, IsRange, IsRangeArgument, IsOtherArgument, ArrayEnd, MarkedEnd, IsMarkedAnnotation, AreAnnotations, none, more}
use Rattle.fzn_item.proofs.Combining.{IsUnique, one_unique, gives_unique, then_unique, or_unique, fails_first, fails_then, fails_after}
use Rattle.fzn_item.proofs.ListsSoFar.{integer_unique}
use Rattle.fzn_item.proofs.ExprLaws.{list_unique, not_next_unique}
use Rattle.fzn_item.proofs.AnnotationLaws.{any_list_unique, parentheses_unique, inner_unique, inner_apart_paren}

-- a range is read in one way
pub range_unique : IsUnique IsRange
range_unique = then_unique _ _ integer_unique (λ low. then_unique _ _ (one_unique (kind.Mark mark.DotDot)) (λ _. then_unique _ _ integer_unique (λ high. gives_unique (low, high))))

-- a range begins with no mark
pub range_apart : (m : Mark) (ts : List Token) (v : ℤ × ℤ) (t : Token) (r s : List Token) → IsRange ts v r → IsMark m ts t s → ⊥
range_apart m [] v t r s p q = q
range_apart m (u ∷ us) v t r s p q = (let clash : kind.Whole p.0 ≡ kind.Mark m = sym p.2.0 ∙ q.0 in cc)

-- a list of ranges is read in one way
pub ranges_unique : IsUnique (IsListOf IsRange mark.CloseBracket)
ranges_unique = list_unique IsRange mark.CloseBracket (λ e. cc) (range_apart mark.CloseBracket) range_unique

-- an argument of ranges is read in one way
pub range_argument_unique : IsUnique IsRangeArgument
range_argument_unique = then_unique _ _ (one_unique (kind.Mark mark.OpenParen)) (λ _. then_unique _ _ (one_unique (kind.Mark mark.OpenBracket)) (λ _. then_unique _ _ ranges_unique (λ ranges. then_unique _ _ (one_unique (kind.Mark mark.CloseParen)) (λ _. gives_unique ranges))))

-- the parts of an argument of ranges after its ranges, its `[` and its `(`
abbrev RangesEnd : List (ℤ × ℤ) → Production (List (ℤ × ℤ))
RangesEnd ranges = IsMark mark.CloseParen >>= (λ _. Gives ranges)

-- what follows the `[`
abbrev InBrackets : Production (List (ℤ × ℤ))
InBrackets = IsListOf IsRange mark.CloseBracket >>= RangesEnd

-- what follows the `(`
abbrev InParentheses : Production (List (ℤ × ℤ))
InParentheses = IsMark mark.OpenBracket >>= (λ _. InBrackets)

module _ (ts after_paren after_bracket : List Token) (t u : Token) (paren : IsMark mark.OpenParen ts t after_paren) (bracket : IsMark mark.OpenBracket after_paren u after_bracket) where
  -- what follows the `[` fails
  in_brackets : Fails InBrackets after_bracket → Fails IsRangeArgument ts
  in_brackets fails = fails_after (kind.Mark mark.OpenParen) (λ _. InParentheses) ts after_paren t paren (fails_after (kind.Mark mark.OpenBracket) (λ _. InBrackets) after_paren after_bracket u bracket fails)

  -- the ranges are not read
  pub no_ranges : Fails (IsListOf IsRange mark.CloseBracket) after_bracket → Fails IsRangeArgument ts
  no_ranges fails = in_brackets (fails_first (IsListOf IsRange mark.CloseBracket) RangesEnd after_bracket fails)

  -- no `)` follows the ranges
  pub no_end : (ranges : List (ℤ × ℤ)) (rest : List Token) → IsListOf IsRange mark.CloseBracket after_bracket ranges rest → Fails (IsMark mark.CloseParen) rest → Fails IsRangeArgument ts
  no_end ranges rest read fails = in_brackets (fails_then (IsListOf IsRange mark.CloseBracket) RangesEnd after_bracket rest ranges ranges_unique read (fails_first (IsMark mark.CloseParen) (λ _. Gives ranges) rest fails))

-- what follows a name is read in one way
pub inside_unique : IsUnique (Arguments (IsInner 199))
inside_unique = parentheses_unique (IsInner 199) (inner_apart_paren 199) (inner_unique 199)

-- another argument is read in one way
other_argument_unique : IsUnique IsOtherArgument
other_argument_unique ts v w r s p q = inside_unique ts v w r s p.1 q.1

-- what follows `output_array` is read in one way
pub array_end_unique : IsUnique ArrayEnd
array_end_unique = or_unique _ _
    (then_unique _ _ range_argument_unique (λ ranges. gives_unique (marked.Ranges ranges)))
    (then_unique _ _ other_argument_unique (λ _. gives_unique marked.Wrong))
    (λ ts v w r s p q. q.2.0 p.0 p.1 p.2)

-- what follows an annotation's name is read in one way, with its mark
pub marked_end_unique : (c : Called) → IsUnique (MarkedEnd c)
marked_end_unique name.OutputVar = or_unique _ _
    (then_unique _ _ (one_unique (kind.Mark mark.OpenParen)) (λ _. then_unique _ _ (any_list_unique (IsInner 199) mark.CloseParen (λ e. cc) (inner_apart_paren 199) (inner_unique 199)) (λ _. gives_unique marked.Nothing)))
    (then_unique _ _ (not_next_unique mark.OpenParen) (λ _. gives_unique marked.Variable))
    (λ ts v w r s p q. q.2.1 p.0 p.1 p.2)
marked_end_unique name.OutputArray = array_end_unique
marked_end_unique name.Other = then_unique _ _ inside_unique (λ _. gives_unique marked.Nothing)

-- an annotation is read in one way, with its mark
pub marked_annotation_unique : (text : List ℕ) → IsUnique (IsMarkedAnnotation text)
marked_annotation_unique text = then_unique _ _ (one_unique kind.Name) (λ called_by. marked_end_unique (called text called_by))

-- annotations are read in one way, with the first mark
pub annotations_unique : (text : List ℕ) → IsUnique (AreAnnotations text)
annotations_unique text ts v w r s (none a p) (none b q) = (a ∙ sym b, p.0 ∙ sym q.0)
annotations_unique text ts v w r s (none a p) (more t middle next m n b q1 q2 q3) = absurd (p.1 t middle q1)
annotations_unique text ts v w r s (more t middle next m n a p1 p2 p3) (none b q) = absurd (q.1 t middle p1)
annotations_unique text ts v w r s (more t middle next m n a p1 p2 p3) (more u middle2 next2 m2 n2 b q1 q2 q3) =
    let first = one_unique (kind.Mark mark.ColonColon) ts t u middle middle2 p1 q1 in
    let one = marked_annotation_unique text middle2 m m2 next next2 (subst (λ x. IsMarkedAnnotation text x m next) first.1 p2) q2 in
    let rest = annotations_unique text next2 n n2 r s (subst (λ x. AreAnnotations text x n r) one.1 p3) q3 in
    (a ∙ (λ i. first_mark (one.0 i) (rest.0 i)) ∙ sym b, rest.1)

-- the annotations so far say this, and rest is where one more may stand
pub record AreSoFar (text : List ℕ) (ts : List Token) (m : Marked) (rest : List Token) : Type 0 where
  pub goes_on : (n : Marked) (end : List Token) → AreAnnotations text rest n end → AreAnnotations text ts (first_mark m n) end
  pub stops : Fails (AreAnnotations text) rest → Fails (AreAnnotations text) ts

-- at the start no annotation is read
pub none_so_far : (text : List ℕ) (ts : List Token) → AreSoFar text ts marked.Nothing ts
none_so_far text ts = record { goes_on = λ n end p. p; stops = λ fails. fails }

-- the first mark of three
mark_assoc : (a b c : Marked) → first_mark a (first_mark b c) ≡ first_mark (first_mark a b) c
mark_assoc marked.Nothing b c = refl
mark_assoc marked.Variable b c = refl
mark_assoc (marked.Ranges rs) b c = refl
mark_assoc marked.Wrong b c = refl

-- one more annotation
pub one_more : (text : List ℕ) (ts rest middle next : List Token) (m n : Marked) (t : Token) → AreSoFar text ts m rest → IsMark mark.ColonColon rest t middle → IsMarkedAnnotation text middle n next → AreSoFar text ts (first_mark m n) next
one_more text ts rest middle next m n t so_far colons one = record {
  goes_on = λ later end p. subst (λ x. AreAnnotations text ts x end) (mark_assoc m n later) (so_far.goes_on (first_mark n later) end (more t middle next n later refl colons one p));
  stops = λ fails. so_far.stops (after rest middle next n t colons one fails);
} where
  -- an annotation that fails later fails here
  after : (rest middle next : List Token) (n : Marked) (t : Token) → IsMark mark.ColonColon rest t middle → IsMarkedAnnotation text middle n next → Fails (AreAnnotations text) next → Fails (AreAnnotations text) rest
  after rest middle next n t colons one fails v end (none a p) = p.1 t middle colons
  after rest middle next n t colons one fails v end (more u middle2 next2 m2 n2 b q1 q2 q3) =
      let first = one_unique (kind.Mark mark.ColonColon) rest t u middle middle2 colons q1 in
      let same = marked_annotation_unique text middle2 n m2 next next2 (subst (λ x. IsMarkedAnnotation text x n next) first.1 one) q2 in
      fails n2 end (subst (λ x. AreAnnotations text x n2 end) (sym same.1) q3)

-- no annotation follows the `::`
pub no_annotation : (text : List ℕ) (rest middle : List Token) (t : Token) → IsMark mark.ColonColon rest t middle → Fails (IsMarkedAnnotation text) middle → Fails (AreAnnotations text) rest
no_annotation text rest middle t colons fails v end (none a p) = p.1 t middle colons
no_annotation text rest middle t colons fails v end (more u middle2 next2 m2 n2 b q1 q2 q3) =
    let first = one_unique (kind.Mark mark.ColonColon) rest t u middle middle2 colons q1 in
    fails m2 next2 (subst (λ x. IsMarkedAnnotation text x m2 next2) (sym first.1) q2)

-- nothing is added to a mark
nothing_more : (m : Marked) → first_mark m marked.Nothing ≡ m
nothing_more marked.Nothing = refl
nothing_more marked.Variable = refl
nothing_more (marked.Ranges rs) = refl
nothing_more marked.Wrong = refl

-- no `::` follows, so all annotations are read
pub all_read : (text : List ℕ) (ts rest : List Token) (m : Marked) → AreSoFar text ts m rest → Fails (IsMark mark.ColonColon) rest → AreAnnotations text ts m rest
all_read text ts rest m so_far no_more = subst (λ x. AreAnnotations text ts x rest) (nothing_more m) (so_far.goes_on marked.Nothing rest (none refl (refl, no_more)))

-- neither ranges nor another argument follows `output_array`
pub array_end_fails : (ts : List Token) → Fails IsRangeArgument ts → Fails (Arguments (IsInner 199)) ts → Fails ArrayEnd ts
array_end_fails ts no_ranges no_other v rest p = ⊎_elim (λ a. no_ranges a.0 a.1 a.2) (λ b. no_other b.0 b.1 b.2.1) p

-- what stands in the parentheses of `output_var` is not read
pub output_var_fails : (c : Called) (ts inside : List Token) (u : Token) → c ≡ name.OutputVar → IsMark mark.OpenParen ts u inside → Fails (IsAnyList (IsInner 199) mark.CloseParen) inside → Fails (MarkedEnd c) ts
output_var_fails c ts inside u is paren fails = subst (λ x. Fails (MarkedEnd x) ts) (sym is) (λ v rest p. ⊎_elim
    (λ with. let same = one_unique (kind.Mark mark.OpenParen) ts with.0 u with.1 inside with.2 paren in fails with.3.0 with.3.1 (subst (λ m. IsAnyList (IsInner 199) mark.CloseParen m with.3.0 with.3.1) same.1 with.3.2))
    (λ plain. plain.2.1 u inside paren)
    p)

-- what follows another name is not read
pub other_fails : (c : Called) (ts : List Token) → c ≡ name.Other → Fails (Arguments (IsInner 199)) ts → Fails (MarkedEnd c) ts
other_fails c ts is fails = subst (λ x. Fails (MarkedEnd x) ts) (sym is) (λ v rest p. fails p.0 p.1 p.2)
