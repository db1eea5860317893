-- The values of an accepted text have 64 bits, since its integers have.
use Rattle.std.proofs.Common.{◌≡◌, ℕ, ◌≤◌, Bool, true, false, List, [], ◌∷◌, ◌++◌, length, Option, Some, None, Ok, inl, inr, sym, ◌∙◌, subst, arith, zero, suc, append-nil}
use Rattle.std.specs.Prelude.{ℤ, pos, negsuc, ◌≤ℤ◌, FitsSigned, slice_index_or}
use Rattle.std.specs.Int.{w64}
use Rattle.std.proofs.lemmas.Int.{ints}
use Rattle.std.proofs.lemmas.List.{length-map}
use Rattle.dcsp_defs.specs.Words.{In}
use Rattle.dcsp_domain.specs.Ranges.{count_between, numbers_between}
use Rattle.dcsp_domain.specs.Sets.{has, set_of}
use Rattle.dcsp_domain.proofs.RangeLaws.{numbers_between_has}
use Rattle.dcsp_domain.proofs.SetLaws.{set_of_is_set}
use Rattle.dcsp_domain.proofs.Rising.{has_cases, has_first, has_later}
use Rattle.dcsp_common.specs.declared.limits.Which.TheVariants as which
use Rattle.dcsp_problem.specs.WellFormed.{IsProblem}
use Rattle.dcsp_rule.specs.Problems.{Contents, constraint_of, csp_of}
use Rattle.ngd_check.specs.Logged.{IsSmall}
use Rattle.fzn_token.specs.declared.token.Token.{Token}
use Rattle.fzn_token.specs.declared.token.TokenKind.{TokenKind}
use Rattle.fzn_token.specs.declared.token.TokenKind.TheVariants as kind
use Rattle.fzn_token.specs.declared.token.Word.TheVariants as word
use Rattle.fzn_token.specs.declared.token.Mark.{Mark}
use Rattle.fzn_token.specs.declared.token.Mark.TheVariants as mark
use Rattle.fzn_token.specs.Tokens.{AreTokensTo, IsInRange}
use Rattle.fzn_item.specs.declared.item.Base.{Base}
use Rattle.fzn_item.specs.declared.item.Base.TheVariants as base
use Rattle.fzn_item.specs.declared.item.Item.{Item}
use Rattle.fzn_item.specs.declared.item.Item.TheVariants as item
use Rattle.fzn_item.specs.declared.item.Marked.{Marked}
use Rattle.fzn_item.specs.declared.item.Expr.{Expr}
use Rattle.fzn_item.specs.Productions.{OneOf, IsInteger, IsListOf, IsSeparated, last, more}
use Rattle.fzn_item.specs.Elements.{SetAfter, IsSetElement, BaseAfter, IsBase, ElementAfter}
use Rattle.fzn_item.specs.Declarations.{IsNamed, IsDeclaration}
use Rattle.fzn_item.specs.Items.{ToSemicolon, ItemAfter, IsItem, AreItemsTo}
use Rattle.fzn_item.proofs.Endings.{items_end_law}
use Rattle.fzn_scope.specs.Names.{bytes_at}
use Rattle.fzn_model.specs.Declarations.{SoFar, domain_of, declaration, within}
use Rattle.fzn_model.specs.Items.{after, after_all, declared_by}
use Rattle.law_subjects.proofs.Building.{parts_of}
use Rattle.law_subjects.proofs.Declared.{array_is, parameter_is, variable_is}
use Rattle.law_subjects.proofs.Items.{constrained_is, predicate_is, solve_is}

-- ---- tokens

-- each integer among the tokens has 64 bits
abbrev pub AllFit : List Token → Type 0
AllFit [] = Unit {0}
AllFit (t ∷ ts) = IsInRange t.kind × AllFit ts

pub tokens_fit : (text : List ℕ) (i : ℕ) (ts : List Token) (j : ℕ) → AreTokensTo text i ts j → AllFit ts
tokens_fit text i [] j h = tt
tokens_fit text i (t ∷ ts) j h = (h.2.in_range, tokens_fit text t.to ts j h.3)

-- those behind an item
rest_fit : (ts rest : List Token) → ToSemicolon ts tt rest → AllFit ts → AllFit rest
rest_fit [] rest h f = absurd h
rest_fit (t ∷ ts) rest h f = elim h [ inl here ↦ subst AllFit (sym here.1) f.1 | inr later ↦ rest_fit ts rest later.1 f.1 ]

one_fits : (k : TokenKind) (ts : List Token) (t : Token) (rest : List Token) → OneOf k ts t rest → AllFit ts → AllFit rest
one_fits k [] t rest h f = absurd h
one_fits k (u ∷ us) t rest h f = subst AllFit (sym h.2) f.1

-- an integer
integer_fits : (ts : List Token) (v : ℤ) (rest : List Token) → IsInteger ts v rest → AllFit ts → FitsSigned w64 v × AllFit rest
integer_fits [] v rest h f = absurd h
integer_fits (u ∷ us) v rest h f = (subst IsInRange h.0 f.0, subst AllFit (sym h.1) f.1)

-- ---- types

-- each of them has 64 bits
abbrev EachFits : List ℤ → Type 0
EachFits xs = (v : ℤ) → In v xs → FitsSigned w64 v

separated_fit : (close : Mark) {ts : List Token} {vs : List ℤ} {rest : List Token} → IsSeparated IsInteger close ts vs rest → AllFit ts → EachFits vs
separated_fit close (last {ts = ts} {middle = middle} {rest = rest} {v = v} t r m) f = λ w i. elim i [
  | inl e ↦ subst (FitsSigned w64) (sym e) (integer_fits ts v middle r f).0
  | inr j ↦ absurd j
]
separated_fit close (more {ts = ts} {middle = middle} {next = next} {rest = rest} {v = v} {vs = vs} t r c later) f =
    let x = integer_fits ts v middle r f in
    let y = one_fits (kind.Mark mark.Comma) middle t next c x.1 in
    λ w i. elim i [
      | inl e ↦ subst (FitsSigned w64) (sym e) x.0
      | inr j ↦ separated_fit close later y w j
    ]

list_fits : (close : Mark) (ts : List Token) (vs : List ℤ) (rest : List Token) → IsListOf IsInteger close ts vs rest → AllFit ts → EachFits vs
list_fits close ts vs rest h f = elim h [ inl none ↦ subst EachFits (sym none.0) (λ v i. absurd i) | inr some ↦ separated_fit close some f ]

-- the integers of a type have 64 bits
abbrev BaseFits : Base → Type 0
BaseFits (base.Range low high) = FitsSigned w64 low × FitsSigned w64 high
BaseFits (base.Listed values) = EachFits values
BaseFits _ = Unit {0}

base_fits : (k : TokenKind) (ts : List Token) (b : Base) (rest : List Token) → BaseAfter k ts b rest → IsInRange k → AllFit ts → BaseFits b
base_fits (kind.Word word.Bool) ts b rest h r f = subst BaseFits (sym h.0) tt
base_fits (kind.Word word.Int) ts b rest h r f = subst BaseFits (sym h.0) tt
base_fits (kind.Word word.Float) ts b rest h r f = subst BaseFits (sym h.0) tt
base_fits (kind.Word word.Set) ts b rest h r f = set_fits h.1 b rest h.3
  where
    set_fits : (us : List Token) (b : Base) (rest : List Token) → IsSetElement us b rest → BaseFits b
    set_fits us b rest h = by_kind h.0.kind h.1 b rest h.3
      where
        by_kind : (k : TokenKind) (us : List Token) (b : Base) (rest : List Token) → SetAfter k us b rest → BaseFits b
        by_kind (kind.Word word.Int) us b rest h = subst BaseFits (sym h.0) tt
        by_kind (kind.Whole low) us b rest h = subst BaseFits (sym h.3.3.0) tt
        by_kind (kind.Mark mark.OpenBrace) us b rest h = subst BaseFits (sym h.3.0) tt
        by_kind _ us b rest h = absurd h
base_fits (kind.Whole low) ts b rest h r f =
    let high = integer_fits h.1 h.3.0 h.3.1 h.3.2 (one_fits (kind.Mark mark.DotDot) ts h.0 h.1 h.2 f) in
    subst BaseFits (sym h.3.3.0) (r, high.0)
base_fits kind.Float ts b rest h r f = subst BaseFits (sym h.3.3.0) tt
base_fits (kind.Mark mark.OpenBrace) ts b rest h r f = subst BaseFits (sym h.3.0) (list_fits mark.CloseBrace ts h.0 h.1 h.2 f)
base_fits _ ts b rest h r f = absurd h

-- ---- items

-- so has the type of a variable that the item declares
abbrev ItemFits : Item → Type 0
ItemFits (item.Declare at true None b name_at name_to marked right) = BaseFits b
ItemFits _ = Unit {0}

-- that of an array is not asked
unasked : (at : ℕ) (is_variable : Bool) (index : ℤ × ℤ) (b : Base) (name_at name_to : ℕ) (marked : Marked) (right : Option Expr) → ItemFits (item.Declare at is_variable (Some index) b name_at name_to marked right)
unasked at true index b name_at name_to marked right = tt
unasked at false index b name_at name_to marked right = tt

-- and that of a parameter is not
named_fits : (text : List ℕ) (at : ℕ) (ts : List Token) (e : _) (i : Item) (rest : List Token) → IsNamed text at None e ts i rest → BaseFits e.base → ItemFits i
named_fits text at ts e i rest h f = subst ItemFits (sym (h.3.3.3.3.0)) (by e.variable)
  where
    by : (is_variable : Bool) → ItemFits (item.Declare at is_variable None e.base h.3.0.from h.3.0.to h.3.3.0 h.3.3.3.0)
    by true = f
    by false = tt

element_fits : (k : TokenKind) (ts : List Token) (e : _) (rest : List Token) → ElementAfter k ts e rest → AllFit ts → BaseFits e.base
element_fits (kind.Word word.Var) ts e rest h f = subst (λ x. BaseFits x.base) (sym h.3.0) (after_first ts h.0 h.1 h.2 f)
  where
    after_first : (us : List Token) (b : Base) (rest : List Token) → IsBase us b rest → AllFit us → BaseFits b
    after_first [] b rest h f = absurd h.2
    after_first (u ∷ us) b rest h f = base_fits h.0.kind h.1 b rest h.3 (subst (λ (t : Token). IsInRange t.kind) (sym h.2.0) f.0) (subst AllFit (sym h.2.1) f.1)
element_fits (kind.Word word.Bool) ts e rest h f = subst (λ x. BaseFits x.base) (sym h.0) tt
element_fits (kind.Word word.Int) ts e rest h f = subst (λ x. BaseFits x.base) (sym h.0) tt
element_fits (kind.Word word.Float) ts e rest h f = subst (λ x. BaseFits x.base) (sym h.0) tt
element_fits (kind.Word word.Set) ts e rest h f = subst (λ x. BaseFits x.base) (sym h.3.3.0) tt
element_fits _ ts e rest h f = absurd h

declaration_fits : (text : List ℕ) (first : Token) (ts : List Token) (i : Item) (rest : List Token) → IsDeclaration text first ts i rest → AllFit ts → ItemFits i
declaration_fits text first ts i rest h f = named_fits text first.from h.1 h.0 i rest h.3 (element_fits first.kind ts h.0 h.1 h.2 f)

item_fits : (text : List ℕ) (ts : List Token) (i : Item) (rest : List Token) → IsItem text ts i rest → AllFit ts → ItemFits i
item_fits text [] i rest h f = absurd h.2
item_fits text (u ∷ us) i rest h f = by_kind h.0.kind h.0 h.1 i rest h.3 (subst AllFit (sym h.2.1) f.1)
  where
    by_kind : (k : TokenKind) (t : Token) (us : List Token) (i : Item) (rest : List Token) → ItemAfter text k t us i rest → AllFit us → ItemFits i
    by_kind (kind.Word word.Predicate) t us i rest h f = subst ItemFits (sym h.3.0) tt
    by_kind (kind.Word word.Var) t us i rest h f = declaration_fits text t us i rest h f
    by_kind (kind.Word word.Bool) t us i rest h f = declaration_fits text t us i rest h f
    by_kind (kind.Word word.Int) t us i rest h f = declaration_fits text t us i rest h f
    by_kind (kind.Word word.Float) t us i rest h f = declaration_fits text t us i rest h f
    by_kind (kind.Word word.Set) t us i rest h f = declaration_fits text t us i rest h f
    by_kind (kind.Word word.Array) t us i rest h f = subst ItemFits (sym h.3.3.3.3.3.3.3.3.3.0) (unasked t.from h.3.3.3.3.0.variable h.3.0 h.3.3.3.3.0.base h.3.3.3.3.3.3.0.from h.3.3.3.3.3.3.0.to h.3.3.3.3.3.3.3.0 h.3.3.3.3.3.3.3.3.0)
    by_kind (kind.Word word.Constraint) t us i rest h f = subst ItemFits (sym h.3.3.3.3.3.0) tt
    by_kind (kind.Word word.Solve) t us i rest h f = subst ItemFits (sym h.3.3.0) tt
    by_kind _ t us i rest h f = absurd h

has_in : (v : ℤ) (xs : List ℤ) → In v xs → has xs v ≡ true
has_in v [] i = absurd i
has_in v (x ∷ xs) (inl e) = subst (λ (y : ℤ). has (y ∷ xs) v ≡ true) e (has_first v xs)
has_in v (x ∷ xs) (inr j) = has_later v x xs (has_in v xs j)

in_has : (v : ℤ) (xs : List ℤ) → has xs v ≡ true → In v xs
in_has v [] e = absurd cc
in_has v (x ∷ xs) e = elim (has_cases v x xs e) [ inl same ↦ inl same | inr later ↦ inr (in_has v xs later) ]

-- what stands between two integers of 64 bits has 64 bits
between_fits : (low high v : ℤ) → FitsSigned w64 low → FitsSigned w64 high → low ≤ℤ v → v ≤ℤ high → FitsSigned w64 v
between_fits low (pos m) (pos n) a b from to = let most = b.sfits in let below : n ≤ m = omega (arith, ints) in record { sfits = omega (arith, most, below) }
between_fits low (negsuc m) (pos n) a b from to = absurd (omega (arith, ints))
between_fits (pos m) high (negsuc n) a b from to = absurd (omega (arith, ints))
between_fits (negsuc m) high (negsuc n) a b from to = let least = a.sfits in let below : n ≤ m = omega (arith, ints) in record { sfits = omega (arith, least, below) }

-- the values of a type have 64 bits
domain_fits : (at : ℕ) (b : Base) (values : List ℤ) → domain_of at b ≡ Ok values → BaseFits b → EachFits values
domain_fits at base.Bool values h f = let is : pos 0 ∷ pos 1 ∷ [] ≡ values = cc in subst EachFits is (λ v i. elim i [ inl e ↦ subst (FitsSigned w64) (sym e) (record { sfits = omega arith }) | inr j ↦ elim j [ inl e ↦ subst (FitsSigned w64) (sym e) (record { sfits = omega arith }) | inr k ↦ absurd k ] ])
domain_fits at base.Int values h f = cc
domain_fits at base.Float values h f = cc
domain_fits at base.Set values h f = cc
domain_fits at (base.Range low high) values h f =
    let parts = parts_of (within which.DomainSize (count_between low high) at) (λ _. Ok (numbers_between low high)) values h in
    let is : numbers_between low high ≡ values = cc in
    subst EachFits is (λ v i.
    let bounds = (numbers_between_has low high v).0 (has_in v (numbers_between low high) i) in
    between_fits low high v f.0 f.1 bounds.0 bounds.1)
domain_fits at (base.Listed listed) values h f =
    let parts = parts_of (within which.DomainSize (length (set_of listed)) at) (λ _. Ok (set_of listed)) values h in
    let is : set_of listed ≡ values = cc in
    subst EachFits is (λ v i. f v (in_has v listed (sym ((set_of_is_set listed).members v) ∙ has_in v (set_of listed) i)))

-- ---- texts

-- the values of all domains have 64 bits
abbrev pub DomainsFit : List (List ℤ) → Type 0
DomainsFit domains = (x : ℕ) → EachFits (slice_index_or domains x [])

pub none_fit : DomainsFit []
none_fit zero = λ v i. absurd i
none_fit (suc x) = λ v i. absurd i

push_fit : (ds : List (List ℤ)) (d : List ℤ) → DomainsFit ds → EachFits d → DomainsFit (ds ++ d ∷ [])
push_fit [] d h f zero = f
push_fit [] d h f (suc x) = none_fit x
push_fit (e ∷ ds) d h f zero = h zero
push_fit (e ∷ ds) d h f (suc x) = push_fit ds d (λ y. h (suc y)) f x

declared_fit : (text : List ℕ) (s t : SoFar) (at : ℕ) (is_variable : Bool) (index : Option (ℤ × ℤ)) (b : Base) (name_at name_to : ℕ) (marked : Marked) (right : Option Expr)
    → declared_by text s at is_variable index b name_at (bytes_at text name_at name_to) marked right ≡ Ok t → ItemFits (item.Declare at is_variable index b name_at name_to marked right) → DomainsFit s.problem.domains → DomainsFit t.problem.domains
declared_fit text s t at true (Some index) b name_at name_to marked right e f h =
    let same = (array_is text s t at true index b name_at (bytes_at text name_at name_to) marked right e).domains ∙ append-nil s.problem.domains in
    subst DomainsFit (sym same) h
declared_fit text s t at false (Some index) b name_at name_to marked right e f h =
    let same = (array_is text s t at false index b name_at (bytes_at text name_at name_to) marked right e).domains ∙ append-nil s.problem.domains in
    subst DomainsFit (sym same) h
declared_fit text s t at true None b name_at name_to marked right e f h =
    let made = variable_is text s t at b name_at (bytes_at text name_at name_to) marked right e in
    subst DomainsFit (sym made.domains) (push_fit s.problem.domains made.domain h (domain_fits at b made.domain made.domain_is f))
declared_fit text s t at false None b name_at name_to marked right e f h =
    subst (λ (x : SoFar). DomainsFit x.problem.domains) (parameter_is text s t at b name_at (bytes_at text name_at name_to) right e).result_is h

after_fit : (text : List ℕ) (s t : SoFar) (i : Item) → after text s i ≡ Ok t → ItemFits i → DomainsFit s.problem.domains → DomainsFit t.problem.domains
after_fit text s t (item.Predicate at) e f h = subst (λ (x : SoFar). DomainsFit x.problem.domains) (predicate_is s t at e) h
after_fit text s t (item.Declare at is_variable index b name_at name_to marked right) e f h =
    let name = bytes_at text name_at name_to in
    let parts = parts_of (declaration s at name_at name) (λ _. declared_by text s at is_variable index b name_at name marked right) t e in
    declared_fit text s t at is_variable index b name_at name_to marked right parts.2 f h
after_fit text s t (item.Constraint at name_at name_to arguments) e f h =
    subst DomainsFit (sym (constrained_is text s t at name_at (bytes_at text name_at name_to) arguments e).domains) h
after_fit text s t (item.Solve at goal) e f h = subst (λ (x : SoFar). DomainsFit x.problem.domains) (solve_is text s t at goal e).result_is h

-- the values of all variables that the items of these tokens declare have 64 bits
pub all_fit : (text : List ℕ) (ts : List Token) (items : List Item) (rest : List Token) (s t : SoFar) → AreItemsTo text ts items rest → AllFit ts → after_all text s items ≡ Ok t → DomainsFit s.problem.domains → DomainsFit t.problem.domains
all_fit text ts [] rest s t h f e d = let is : s ≡ t = cc in subst (λ (x : SoFar). DomainsFit x.problem.domains) is d
all_fit text ts (i ∷ items) rest s t h f e d =
    let parts = parts_of (after text s i) (λ (next : SoFar). after_all text next items) t e in
    all_fit text h.0 items rest parts.0 t h.2 (rest_fit ts h.0 (items_end_law text ts i h.0 h.1) f) parts.2 (after_fit text s parts.0 i parts.1 (item_fits text ts i h.0 h.1 f) d)

-- a problem within the limits whose values have 64 bits is small
pub is_small : (p : Contents) → IsProblem p → DomainsFit p.domains → IsSmall (csp_of p)
is_small p ok fit =
    let variables = ok.few_variables in
    let rules = ok.few_rules in
    record {
      variables = omega (arith, variables);
      rules = omega (arith, length-map p.rules (constraint_of (length p.domains)), rules);
      domains = λ x l. (ok.domains x [] l).small;
      values = λ x v l i. fit x v i;
    }
