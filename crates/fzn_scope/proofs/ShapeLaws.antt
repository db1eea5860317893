-- The rule of a constraint takes as many arguments as its kind asks for.
use Rattle.std.proofs.Common.{◌≡◌, ℕ, ◌+◌, Bool, true, false, not, ◌||◌, List, [], ◌∷◌, ◌++◌, Ok, IfOk, refl, sym, ap, ◌∙◌, zero-add, add-zero, length-append, arith}
use Rattle.std.specs.Prelude.{IsTrue, length, ◌==◌, if◌then◌else◌}
use Rattle.std.proofs.lemmas.Bool.{eqb-true, not-false}
use Rattle.std.proofs.lemmas.List.{length-map}
use Rattle.std.proofs.lemmas.Result.{IfOk-weaker}
use Rattle.fzn_item.specs.declared.item.Expr.{Expr}
use Rattle.dcsp_meaning.specs.declared.kinds.ConstraintKind.{ConstraintKind}
use Rattle.dcsp_meaning.specs.declared.kinds.ConstraintKind.TheVariants as kind
use Rattle.dcsp_meaning.specs.Rows.{is_table}
use Rattle.dcsp_meaning.specs.Table.{is_shape, plain_of}
use Rattle.dcsp_rule.specs.declared.rule.Term.{Term}
use Rattle.dcsp_rule.specs.declared.rule.Rule.{Rule}
use Rattle.dcsp_rule.specs.Rules.{has_shape}
use Rattle.fzn_scope.specs.declared.form.Place.{Place}
use Rattle.fzn_scope.specs.declared.form.Place.TheVariants.{Scalar, First, Second, Set}
use Rattle.fzn_scope.specs.declared.form.Form.{Form}
use Rattle.fzn_scope.specs.declared.form.Form.TheVariants.{Plain, Sum}
use Rattle.fzn_scope.specs.Arguments.{Arguments}
use Rattle.fzn_token.specs.declared.refusal.Refusal.TheVariants as refusal
use Rattle.fzn_scope.specs.Names.{Scope}
use Rattle.fzn_scope.specs.Places.{one_of, list_of, set_of}
use Rattle.fzn_scope.specs.Forms.{truth, places_of}
use Rattle.fzn_scope.specs.Rules.{no_arguments, with_argument, arguments_after, constant_of, rule_of, takes_rows, lengths_agree, form_at, constraint_rule}
use Rattle.fzn_scope.proofs.Steps.{ok_then, ok_each, ok_unless, both_keep}

-- how many scalars a place gives
abbrev scalar_count : Place → ℕ
scalar_count (Scalar boolean) = 1
scalar_count (First wanted) = 0
scalar_count (Second wanted) = 0
scalar_count Set = 0

-- whether a place gives the first list
abbrev is_first : Place → Bool
is_first (Scalar boolean) = false
is_first (First wanted) = true
is_first (Second wanted) = false
is_first Set = false

-- whether a place gives the second list
abbrev is_second : Place → Bool
is_second (Scalar boolean) = false
is_second (First wanted) = false
is_second (Second wanted) = true
is_second Set = false

-- how many scalars places give
abbrev scalars_in : List Place → ℕ
scalars_in [] = 0
scalars_in (place ∷ places) = scalar_count place + scalars_in places

-- whether one of the places gives the first list
abbrev has_first : List Place → Bool
has_first [] = false
has_first (place ∷ places) = is_first place || has_first places

-- whether one of the places gives the second list
abbrev has_second : List Place → Bool
has_second [] = false
has_second (place ∷ places) = is_second place || has_second places

-- so many scalars more, and the lists that are not given as they were
record Gains (count : ℕ) (gives_first gives_second : Bool) (old new : Arguments) : Type 0 where
  scalars : length new.scalars ≡ length old.scalars + count
  first : gives_first ≡ false → new.first ≡ old.first
  second : gives_second ≡ false → new.second ≡ old.second

-- one argument
gains_one : (text : List ℕ) (scope : Scope) (done : Arguments) (place : Place) (e : Expr) → IfOk (with_argument text scope done place e) (Gains (scalar_count place) (is_first place) (is_second place) done)
gains_one text scope done (Scalar boolean) e =
    ok_each (Gains 1 false false done) (one_of text scope (record { boolean = boolean; constant = false }) e) (λ term. Ok (record done { scalars = done.scalars ++ term ∷ [] }))
    (λ term. record { scalars = length-append done.scalars (term ∷ []); first = λ _. refl; second = λ _. refl })
gains_one text scope done (First wanted) e =
    ok_each (Gains 0 true false done) (list_of text scope wanted e) (λ terms. Ok (record done { first = terms }))
    (λ terms. record { scalars = sym (add-zero (length done.scalars)); first = λ h. absurd cc; second = λ _. refl })
gains_one text scope done (Second wanted) e =
    ok_each (Gains 0 false true done) (list_of text scope wanted e) (λ terms. Ok (record done { second = terms }))
    (λ terms. record { scalars = sym (add-zero (length done.scalars)); first = λ _. refl; second = λ h. absurd cc })
gains_one text scope done Set e =
    ok_each (Gains 0 false false done) (set_of text scope e) (λ members. Ok (record done { members = members }))
    (λ members. record { scalars = sym (add-zero (length done.scalars)); first = λ _. refl; second = λ _. refl })

-- one argument and then others
gains_both : (m n : ℕ) (a b c d : Bool) (old middle new : Arguments) → Gains m a c old middle → Gains n b d middle new → Gains (m + n) (a || b) (c || d) old new
gains_both m n a b c d old middle new g h = record {
  scalars = let p = g.scalars in let q = h.scalars in omega (arith, p, q);
  first = both_keep a b old.first middle.first new.first g.first h.first;
  second = both_keep c d old.second middle.second new.second g.second h.second;
}

-- as many arguments as places
gains_all : (text : List ℕ) (scope : Scope) (done : Arguments) (places : List Place) (exprs : List Expr) → length exprs ≡ length places → IfOk (arguments_after text scope done places exprs) (Gains (scalars_in places) (has_first places) (has_second places) done)
gains_all text scope done [] exprs e = record { scalars = sym (add-zero (length done.scalars)); first = λ _. refl; second = λ _. refl }
gains_all text scope done (place ∷ places) [] e = absurd cc
gains_all text scope done (place ∷ places) (x ∷ exprs) e =
    ok_then (Gains (scalar_count place) (is_first place) (is_second place) done) (Gains (scalars_in (place ∷ places)) (has_first (place ∷ places)) (has_second (place ∷ places)) done)
    (with_argument text scope done place x) (λ next. arguments_after text scope next places exprs) (gains_one text scope done place x)
    (λ next g. IfOk-weaker (arguments_after text scope next places exprs) (Gains (scalars_in places) (has_first places) (has_second places) next) (Gains (scalars_in (place ∷ places)) (has_first (place ∷ places)) (has_second (place ∷ places)) done)
    (λ new h. gains_both (scalar_count place) (scalars_in places) (is_first place) (has_first places) (is_second place) (has_second places) done next new g h)
    (gains_all text scope next places exprs (omega (arith, e))))

-- scalars alone; scalars and the first list; scalars and both lists
of_scalars : (k : ConstraintKind) (s f g n : ℕ) → s ≡ n → f ≡ 0 → g ≡ 0 → is_shape k n 0 0 ≡ true → IsTrue (is_shape k s f g)
of_scalars k s f g n e p q h = rw (e, p, q) h

of_list : (k : ConstraintKind) (s f g n : ℕ) → s ≡ n → g ≡ 0 → is_shape k n f 0 ≡ true → IsTrue (is_shape k s f g)
of_list k s f g n e q h = rw (e, q) h

of_lists : (k : ConstraintKind) (s f g n : ℕ) → s ≡ n → is_shape k n f g ≡ true → IsTrue (is_shape k s f g)
of_lists k s f g n e h = rw e h

-- two or three Booleans
of_xor : (two : Bool) (s f g : ℕ) → (let places : List Place = if two then truth ∷ truth ∷ [] else truth ∷ truth ∷ truth ∷ [] in s ≡ scalars_in places) → (let places : List Place = if two then truth ∷ truth ∷ [] else truth ∷ truth ∷ truth ∷ [] in has_first places ≡ false → f ≡ 0) → (let places : List Place = if two then truth ∷ truth ∷ [] else truth ∷ truth ∷ truth ∷ [] in has_second places ≡ false → g ≡ 0) → IsTrue (is_shape kind.BoolXor s f g)
of_xor true s f g e p q = of_scalars kind.BoolXor s f g 2 e (p refl) (q refl) refl
of_xor false s f g e p q = of_scalars kind.BoolXor s f g 3 e (p refl) (q refl) refl

-- the places of a kind give what the kind takes
suits : (k : ConstraintKind) (count s f g : ℕ) → s ≡ scalars_in (places_of (Plain k) count) → (has_first (places_of (Plain k) count) ≡ false → f ≡ 0) → (has_second (places_of (Plain k) count) ≡ false → g ≡ 0) → (not (takes_rows (plain_of k)) || is_table f g) ≡ true → IsTrue (is_shape k s f g)
suits kind.IntEq count s f g e p q h = of_scalars kind.IntEq s f g 2 e (p refl) (q refl) refl
suits kind.IntEqReif count s f g e p q h = of_scalars kind.IntEqReif s f g 3 e (p refl) (q refl) refl
suits kind.IntNe count s f g e p q h = of_scalars kind.IntNe s f g 2 e (p refl) (q refl) refl
suits kind.IntNeReif count s f g e p q h = of_scalars kind.IntNeReif s f g 3 e (p refl) (q refl) refl
suits kind.IntLe count s f g e p q h = of_scalars kind.IntLe s f g 2 e (p refl) (q refl) refl
suits kind.IntLeReif count s f g e p q h = of_scalars kind.IntLeReif s f g 3 e (p refl) (q refl) refl
suits kind.IntLt count s f g e p q h = of_scalars kind.IntLt s f g 2 e (p refl) (q refl) refl
suits kind.IntLtReif count s f g e p q h = of_scalars kind.IntLtReif s f g 3 e (p refl) (q refl) refl
suits kind.IntPlus count s f g e p q h = of_scalars kind.IntPlus s f g 3 e (p refl) (q refl) refl
suits kind.IntTimes count s f g e p q h = of_scalars kind.IntTimes s f g 3 e (p refl) (q refl) refl
suits kind.IntMin count s f g e p q h = of_scalars kind.IntMin s f g 3 e (p refl) (q refl) refl
suits kind.IntMax count s f g e p q h = of_scalars kind.IntMax s f g 3 e (p refl) (q refl) refl
suits kind.IntAbs count s f g e p q h = of_scalars kind.IntAbs s f g 2 e (p refl) (q refl) refl
suits kind.IntDiv count s f g e p q h = of_scalars kind.IntDiv s f g 3 e (p refl) (q refl) refl
suits kind.IntMod count s f g e p q h = of_scalars kind.IntMod s f g 3 e (p refl) (q refl) refl
suits kind.BoolEq count s f g e p q h = of_scalars kind.BoolEq s f g 2 e (p refl) (q refl) refl
suits kind.BoolEqReif count s f g e p q h = of_scalars kind.BoolEqReif s f g 3 e (p refl) (q refl) refl
suits kind.BoolLe count s f g e p q h = of_scalars kind.BoolLe s f g 2 e (p refl) (q refl) refl
suits kind.BoolLeReif count s f g e p q h = of_scalars kind.BoolLeReif s f g 3 e (p refl) (q refl) refl
suits kind.BoolLt count s f g e p q h = of_scalars kind.BoolLt s f g 2 e (p refl) (q refl) refl
suits kind.BoolLtReif count s f g e p q h = of_scalars kind.BoolLtReif s f g 3 e (p refl) (q refl) refl
suits kind.BoolNot count s f g e p q h = of_scalars kind.BoolNot s f g 2 e (p refl) (q refl) refl
suits kind.BoolAnd count s f g e p q h = of_scalars kind.BoolAnd s f g 3 e (p refl) (q refl) refl
suits kind.BoolOr count s f g e p q h = of_scalars kind.BoolOr s f g 3 e (p refl) (q refl) refl
suits kind.BoolXor count s f g e p q h = of_xor (count == 2) s f g e p q
suits kind.Bool2int count s f g e p q h = of_scalars kind.Bool2int s f g 2 e (p refl) (q refl) refl
suits kind.BoolClause count s f g e p q h = of_lists kind.BoolClause s f g 0 e refl
suits kind.BoolClauseReif count s f g e p q h = of_lists kind.BoolClauseReif s f g 1 e refl
suits kind.ArrayBoolAnd count s f g e p q h = of_list kind.ArrayBoolAnd s f g 1 e (q refl) refl
suits kind.ArrayBoolOr count s f g e p q h = of_list kind.ArrayBoolOr s f g 1 e (q refl) refl
suits kind.ArrayBoolXor count s f g e p q h = of_list kind.ArrayBoolXor s f g 0 e (q refl) refl
suits kind.ArrayIntElement count s f g e p q h = of_list kind.ArrayIntElement s f g 2 e (q refl) refl
suits kind.ArrayVarIntElement count s f g e p q h = of_list kind.ArrayVarIntElement s f g 2 e (q refl) refl
suits kind.ArrayBoolElement count s f g e p q h = of_list kind.ArrayBoolElement s f g 2 e (q refl) refl
suits kind.ArrayVarBoolElement count s f g e p q h = of_list kind.ArrayVarBoolElement s f g 2 e (q refl) refl
suits kind.SetIn count s f g e p q h = of_scalars kind.SetIn s f g 1 e (p refl) (q refl) refl
suits kind.SetInReif count s f g e p q h = of_scalars kind.SetInReif s f g 2 e (p refl) (q refl) refl
suits kind.FznAllDifferentInt count s f g e p q h = of_list kind.FznAllDifferentInt s f g 0 e (q refl) refl
suits kind.FznTableInt count s f g e p q h = of_lists kind.FznTableInt s f g 0 e h
suits kind.FznTableIntReif count s f g e p q h = of_lists kind.FznTableIntReif s f g 1 e h
suits kind.FznTableBool count s f g e p q h = of_lists kind.FznTableBool s f g 0 e h
suits kind.FznTableBoolReif count s f g e p q h = of_lists kind.FznTableBoolReif s f g 1 e h

-- a rule of arguments at its places
rule_shape : (form : Form) (count : ℕ) (arguments : Arguments) → Gains (scalars_in (places_of form count)) (has_first (places_of form count)) (has_second (places_of form count)) no_arguments arguments → not (lengths_agree form arguments) ≡ false → IsTrue (has_shape (rule_of form arguments))
rule_shape (Plain k) count arguments h agree =
    suits k count (length arguments.scalars) (length arguments.first) (length arguments.second)
    (h.scalars ∙ zero-add (scalars_in (places_of (Plain k) count))) (λ none. ap (λ (l : List Term). length l) (h.first none)) (λ none. ap (λ (l : List Term). length l) (h.second none)) (not-false (lengths_agree (Plain k) arguments) agree)
rule_shape (Sum rel boolean reified) count arguments h agree =
    ap (λ n. n == length arguments.second) (length-map arguments.first constant_of) ∙ not-false (length arguments.first == length arguments.second) agree

-- the rule of a constraint
pub constraint_shape : (text : List ℕ) (scope : Scope) (at : ℕ) (name : List ℕ) (exprs : List Expr) → IfOk (constraint_rule text scope at name exprs) (λ rule. IsTrue (has_shape rule))
unfolding constraint_rule
constraint_shape text scope at name exprs =
    let Q : Rule → Type 0 = λ rule. IsTrue (has_shape rule) in
    ok_each Q (form_at at name) _ (λ form.
    let places = places_of form (length exprs) in
    ok_unless Q (not (length exprs == length places)) (refusal.IllTyped at) _ (λ same.
    ok_then (Gains (scalars_in places) (has_first places) (has_second places) no_arguments) Q (arguments_after text scope no_arguments places exprs) _
    (gains_all text scope no_arguments places exprs (eqb-true (length exprs) (length places) (not-false (length exprs == length places) same))) (λ arguments h.
    ok_unless Q (not (lengths_agree form arguments)) (refusal.IllTyped at) (Ok (rule_of form arguments)) (λ agree. rule_shape form (length exprs) arguments h agree))))
