-- Arguments that are lent from the tokens of a constraint, one after another.
use Rattle.std.proofs.Common.{◌≡◌, ℕ, Result, suc, arith, List, [], ◌∷◌, ◌++◌, ◌⊎◌, length, Ok, Err, sym, ◌∙◌, refl, ap, subst, ⊎_elim, inl, inr}
use Rattle.std.specs.Borrow.{Bor}
use Rattle.fzn_token.specs.declared.token.Token.{Token}
use Rattle.fzn_token.specs.declared.token.Mark.{Mark}
use Rattle.fzn_token.specs.declared.token.Mark.TheVariants as mark
use Rattle.fzn_token.specs.declared.token.TokenKind.TheVariants as kind
use Rattle.fzn_item.specs.declared.item.Atom.{Atom}
use Rattle.fzn_item.specs.declared.item.Expr.{Expr}
use Rattle.fzn_item.specs.declared.item.Expr.TheVariants as expr
use Rattle.fzn_item.specs.declared.lent.LentExpr.{LentExpr}
use Rattle.fzn_item.specs.declared.lent.LentExpr.TheVariants as lent
use Rattle.fzn_item.specs.Productions.{Production, IsMark, IsSeparated, last, more, IsListOf, Fails}
use Rattle.fzn_item.specs.Exprs.{IsAtom, IsExpr}
use Rattle.fzn_item.specs.Lent.{AreArguments, IsLent, IsLentExpr}
use Rattle.fzn_item.specs.declared.lent.LentArguments.{LentArguments}
use Rattle.fzn_scope.specs.declared.form.Place.{Place}
use Rattle.fzn_scope.specs.Arguments.{Arguments}
use Rattle.fzn_scope.specs.Checks.{◌>>=◌, Stops}
use Rattle.fzn_token.specs.declared.refusal.ModelError.{ModelError}
use Rattle.fzn_token.specs.declared.refusal.ModelError.TheVariants as errors
use Rattle.fzn_scope.specs.Lent.{LeavesAt}
use Rattle.fzn_scope.specs.Rules.{no_arguments, with_argument, arguments_after}
use Rattle.fzn_item.specs.Readers.{Begins}
use Rattle.fzn_item.proofs.Combining.{IsUnique, one_unique, comma_apart}
use Rattle.fzn_item.proofs.ExprLaws.{expr_unique, atom_unique, atoms_unique, arguments_unique, atom_not_mark}
use Rattle.dcsp_rule.specs.declared.rule.Term.{Term}
use Rattle.fzn_scope.specs.declared.place.Wanted.{Wanted}
use Rattle.fzn_token.specs.declared.refusal.Refusal.{Refusal}
use Rattle.fzn_scope.specs.Names.{Scope}
use Rattle.fzn_scope.specs.Places.{term_of, terms_after}

-- an atom that the tokens begin with is their expression
pub one_is : (ts : List Token) (x : LentExpr) (atom : Atom) (behind : Bor (List Token)) (e : Expr) (rest : List Token) → IsLentExpr ts x → x ≡ lent.One atom behind → IsExpr ts e rest → (e ≡ expr.One atom) × (behind.now ≡ rest)
one_is ts x atom behind e rest lies is read =
    let one : IsAtom ts atom behind.now = subst (IsLentExpr ts) is lies in
    let same = expr_unique ts e (expr.One atom) rest behind.now read (inr (atom, behind.now, one, (refl, refl))) in
    (same.0, sym same.1)

-- a bracket that the tokens begin with is that of their list
pub list_is : (ts : List Token) (x : LentExpr) (at : ℕ) (inside : Bor (List Token)) (e : Expr) (rest : List Token) → IsLentExpr ts x → x ≡ lent.List at inside → IsExpr ts e rest → (atoms : List Atom) × (e ≡ expr.List at atoms) × IsListOf IsAtom mark.CloseBracket inside.now atoms rest
list_is ts x at inside e rest lies is read =
    let bracket = subst (IsLentExpr ts) is lies in
    ⊎_elim
    (λ list. let same = one_unique (kind.Mark mark.OpenBracket) ts list.0 bracket.0 list.1 inside.now list.2 bracket.1 in
    let end = list.3 in
    (end.0, end.3.0 ∙ ap (λ t. expr.List t.from end.0) same.0 ∙ ap (λ n. expr.List n end.0) (sym bracket.2), subst (λ m. IsListOf IsAtom mark.CloseBracket m end.0 rest) same.1 (subst (λ m. IsListOf IsAtom mark.CloseBracket list.1 end.0 m) (sym end.3.1) end.2)))
    (λ one. absurd (atom_not_mark mark.OpenBracket (λ e. cc) ts one.0 bracket.0 one.1 inside.now one.2 bracket.1))
    read

-- the list's atoms from here on are left, after these terms
pub record IsLeft (text : List ℕ) (scope : Scope) (wanted : Wanted) (tokens : List Token) (terms : List Term) (rest : List Token) : Type 0 where
  pub atoms : List Atom
  pub end : List Token
  pub whole : IsListOf IsAtom mark.CloseBracket tokens atoms end
  pub left : List Atom
  pub standing : IsSeparated IsAtom mark.CloseBracket rest left end
  pub same : terms_after text scope wanted terms left ≡ terms_after text scope wanted [] atoms

-- at the start all atoms are left, where the list is not empty
pub left_start : (text : List ℕ) (scope : Scope) (wanted : Wanted) (tokens : List Token) → Begins (IsListOf IsAtom mark.CloseBracket) tokens → Fails (IsMark mark.CloseBracket) tokens → IsLeft text scope wanted tokens [] tokens
left_start text scope wanted tokens begins open_list = ⊎_elim
    (λ empty. absurd (open_list empty.1 begins.1 empty.2))
    (λ some. record { atoms = begins.0; end = begins.1; whole = begins.2; left = begins.0; standing = some; same = refl })
    begins.2

-- a form stands where some are left
pub first_begins : {V : Type 0} (R : Production V) (close : Mark) {rest : List Token} {left : List V} {end : List Token} → IsSeparated R close rest left end → Begins R rest
first_begins R close (last {middle = m} {v = v} t p q) = (v, m, p)
first_begins R close (more {middle = m} {v = v} t p q r) = (v, m, p)

-- some forms from here on: the first, and then a comma or the closing mark
pub data Step {V : Type 0} (R : Production V) (close : Mark) (left : List V) (end : List Token) (first : V) (after : List Token) : Type 0 where
  closed : (t : Token) → left ≡ first ∷ [] → IsMark close after t end → Step R close left end first after
  goes_on : (t : Token) (next : List Token) (others : List V) → left ≡ first ∷ others → IsMark mark.Comma after t next → IsSeparated R close next others end → Step R close left end first after

-- they begin with the form that is read
pub step_of : {V : Type 0} (R : Production V) (close : Mark) → IsUnique R → {rest : List Token} {left : List V} {end : List Token} (first : V) (after : List Token) → IsSeparated R close rest left end → R rest first after → Step R close left end first after
step_of R close unique {rest} {left} {end} first after (last {middle = m} {v = v} t p q) read =
    let same = unique rest v first m after p read in
    closed t (ap (λ x. x ∷ []) same.0) (subst (λ k. IsMark close k t end) same.1 q)
step_of R close unique {rest} {left} {end} first after (more {middle = m} {next = n} {v = v} {vs = vs} t p q r) read =
    let same = unique rest v first m after p read in
    goes_on t n vs (ap (λ x. x ∷ vs) same.0) (subst (λ k. IsMark mark.Comma k t n) same.1 q) r

-- the terms of an atom and others
first_term : (text : List ℕ) (scope : Scope) (wanted : Wanted) (terms : List Term) (atom : Atom) (others : List Atom) (term : Term) → term_of text scope wanted atom ≡ Ok term → terms_after text scope wanted terms (atom ∷ others) ≡ terms_after text scope wanted (terms ++ term ∷ []) others
first_term text scope wanted terms atom others term is = rw is refl

-- the first atom is refused
refused_term : (text : List ℕ) (scope : Scope) (wanted : Wanted) (terms : List Term) (atom : Atom) (others : List Atom) (e : Refusal) → term_of text scope wanted atom ≡ Err e → terms_after text scope wanted terms (atom ∷ others) ≡ Err e
refused_term text scope wanted terms atom others e is = rw is refl

module _ (text : List ℕ) (scope : Scope) (wanted : Wanted) (tokens : List Token) (terms : List Term) (rest : List Token) (atom : Atom) (after : List Token) (l : IsLeft text scope wanted tokens terms rest) (read : IsAtom rest atom after) where
  -- one atom more and a comma
  pub left_comma : (term : Term) (next : List Token) → term_of text scope wanted atom ≡ Ok term → (t : Token) × IsMark mark.Comma after t next → IsLeft text scope wanted tokens (terms ++ term ∷ []) next
  left_comma term next is comma = by_step (step_of IsAtom mark.CloseBracket atom_unique atom after l.standing read) where
    -- by what stands behind the atom
    by_step : Step IsAtom mark.CloseBracket l.left l.end atom after → IsLeft text scope wanted tokens (terms ++ term ∷ []) next
    by_step (closed t left q) = absurd (comma_apart mark.CloseBracket (λ e. cc) after t comma.0 l.end next q comma.1)
    by_step (goes_on t n others left q r) =
        let same = one_unique (kind.Mark mark.Comma) after t comma.0 n next q comma.1 in
        record {
          atoms = l.atoms;
          end = l.end;
          whole = l.whole;
          left = others;
          standing = subst (λ k. IsSeparated IsAtom mark.CloseBracket k others l.end) same.1 r;
          same = sym (first_term text scope wanted terms atom others term is) ∙ ap (terms_after text scope wanted terms) (sym left) ∙ l.same;
        }

  -- the last atom and the bracket
  pub left_close : (term : Term) (end : List Token) → term_of text scope wanted atom ≡ Ok term → (t : Token) × IsMark mark.CloseBracket after t end → (atoms : List Atom) (behind : List Token) → IsListOf IsAtom mark.CloseBracket tokens atoms behind → (terms_after text scope wanted [] atoms ≡ Ok (terms ++ term ∷ [])) × (end ≡ behind)
  left_close term end is close atoms behind list = by_step (step_of IsAtom mark.CloseBracket atom_unique atom after l.standing read) where
    -- by what stands behind the atom
    by_step : Step IsAtom mark.CloseBracket l.left l.end atom after → (terms_after text scope wanted [] atoms ≡ Ok (terms ++ term ∷ [])) × (end ≡ behind)
    by_step (closed t left q) =
        let one = atoms_unique tokens atoms l.atoms behind l.end list l.whole in
        let mark_same = one_unique (kind.Mark mark.CloseBracket) after t close.0 l.end end q close.1 in
        (ap (terms_after text scope wanted []) one.0 ∙ sym l.same ∙ ap (terms_after text scope wanted terms) left ∙ first_term text scope wanted terms atom [] term is, sym mark_same.1 ∙ sym one.1)
    by_step (goes_on t n others left q r) = absurd (comma_apart mark.CloseBracket (λ e. cc) after close.0 t end n close.1 q)

  -- an atom that is refused
  pub left_refused : (e : Refusal) → term_of text scope wanted atom ≡ Err e → (atoms : List Atom) (behind : List Token) → IsListOf IsAtom mark.CloseBracket tokens atoms behind → terms_after text scope wanted [] atoms ≡ Err e
  left_refused e is atoms behind list = by_step (step_of IsAtom mark.CloseBracket atom_unique atom after l.standing read) where
    -- by what stands behind the atom
    by_step : Step IsAtom mark.CloseBracket l.left l.end atom after → terms_after text scope wanted [] atoms ≡ Err e
    by_step (closed t left q) =
        let one = atoms_unique tokens atoms l.atoms behind l.end list l.whole in
        ap (terms_after text scope wanted []) one.0 ∙ sym l.same ∙ ap (terms_after text scope wanted terms) left ∙ refused_term text scope wanted terms atom [] e is
    by_step (goes_on t n others left q r) =
        let one = atoms_unique tokens atoms l.atoms behind l.end list l.whole in
        ap (terms_after text scope wanted []) one.0 ∙ sym l.same ∙ ap (terms_after text scope wanted terms) left ∙ refused_term text scope wanted terms atom others e is

  -- a comma or the bracket stands behind the atom
  pub some_mark : Fails (IsMark mark.Comma) after → Fails (IsMark mark.CloseBracket) after → ⊥
  some_mark no_comma no_close = by_step (step_of IsAtom mark.CloseBracket atom_unique atom after l.standing read) where
    -- by what stands behind the atom
    by_step : Step IsAtom mark.CloseBracket l.left l.end atom after → ⊥
    by_step (closed t left q) = no_close t l.end q
    by_step (goes_on t n others left q r) = no_comma t n q

-- the arguments from here on are left for these places, after those that are done
pub record AreArgumentsLeft (text : List ℕ) (scope : Scope) (places : List Place) (lent_arguments : LentArguments) (done : Arguments) (others : List Place) (rest : List Token) : Type 0 where
  pub exprs : List Expr
  pub are : AreArguments lent_arguments exprs
  pub left : List Expr
  pub end : List Token
  pub count : length left ≡ length others
  pub standing : (left ≡ []) ⊎ IsSeparated IsExpr mark.CloseParen rest left end
  pub same : arguments_after text scope done others left ≡ arguments_after text scope no_arguments places exprs

-- at the start all are left
pub arguments_start : (text : List ℕ) (scope : Scope) (places : List Place) (a : LentArguments) → IsLent a → a.count ≡ length places → AreArgumentsLeft text scope places a no_arguments places a.tokens.now
arguments_start text scope places a lent_as count = record {
  exprs = lent_as.0;
  are = lent_as.1;
  left = lent_as.0;
  end = lent_as.1.rest;
  count = lent_as.1.count ∙ count;
  standing = ⊎_elim (λ empty. inl empty.0) (λ some. inr some) lent_as.1.read;
  same = refl;
}

-- what a call stopped with before the next step is what both stop with
stops_then : {X Y : Type 0} (f : X → Result Y Refusal) (e : ModelError) (meaning : Result X Refusal) → Stops e meaning → Stops e (meaning >>= f)
stops_then f errors.Memory meaning stops = tt
stops_then f (errors.Refused refusal) meaning is = rw is refl

-- a call that does a part of what is meant, and gives the tokens behind, does the whole, where the rest follows of it
pub leaves_in_at : {X Y : Type 0} (rest : List Token) (f : X → Y) (x : X) (r : Result (Bor (List Token)) ModelError) (meaning : Result X Refusal) → LeavesAt rest x r meaning → LeavesAt rest (f x) r (meaning >>= λ y. Ok (f y))
leaves_in_at rest f x (Ok behind) meaning given = (rw given.0 refl, given.1)
leaves_in_at rest f x (Err e) meaning stops = stops_then (λ y. Ok (f y)) e meaning stops

-- some arguments are left where some places are
some_left : {standing : List Token} {left : List Expr} {end : List Token} {n : ℕ} → length left ≡ suc n → (left ≡ []) ⊎ IsSeparated IsExpr mark.CloseParen standing left end → IsSeparated IsExpr mark.CloseParen standing left end
some_left {left = left} {n = n} count standing = ⊎_elim
    (λ empty. absurd (omega (arith, count, ap length empty)))
    (λ some. some)
    standing

-- the arguments are what is left at the end
pub arguments_end : (text : List ℕ) (scope : Scope) (places : List Place) (a : LentArguments) (done : Arguments) (before : List Place) (rest : List Token) → AreArgumentsLeft text scope places a done before rest → before ≡ [] → (exprs : List Expr) → AreArguments a exprs → arguments_after text scope no_arguments places exprs ≡ Ok done
arguments_end text scope places a done before rest l is exprs are =
    let same = arguments_unique a.tokens.now exprs l.exprs are.rest l.are.rest are.read l.are.read in
    ap (arguments_after text scope no_arguments places) same.0 ∙ sym l.same ∙ ap (λ ps. arguments_after text scope done ps l.left) is

module _ (text : List ℕ) (scope : Scope) (places : List Place) (a : LentArguments) (done : Arguments) (place : Place) (before others : List Place) (rest : List Token) (is : before ≡ place ∷ others) (l : AreArgumentsLeft text scope places a done before rest) where
  -- some are left
  some : IsSeparated IsExpr mark.CloseParen rest l.left l.end
  some = some_left (l.count ∙ ap length is) l.standing

  -- an argument stands there
  pub argument_begins : Begins IsExpr rest
  argument_begins = first_begins IsExpr mark.CloseParen some

  -- the first of them and what stands behind it
  step : Step IsExpr mark.CloseParen l.left l.end argument_begins.0 argument_begins.1
  step = step_of IsExpr mark.CloseParen expr_unique argument_begins.0 argument_begins.1 some argument_begins.2

  -- an argument that is refused
  pub argument_refused : (error : ModelError) → Stops error (with_argument text scope done place argument_begins.0) → (exprs : List Expr) → AreArguments a exprs → Stops error (arguments_after text scope no_arguments places exprs)
  argument_refused errors.Memory stops exprs are = tt
  argument_refused (errors.Refused e) stops exprs are = by_step step where
    -- whatever follows
    first_is : (others_left : List Expr) → l.left ≡ argument_begins.0 ∷ others_left → arguments_after text scope no_arguments places exprs ≡ Err e
    first_is others_left left =
        let same = arguments_unique a.tokens.now exprs l.exprs are.rest l.are.rest are.read l.are.read in
        let refused : arguments_after text scope done (place ∷ others) (argument_begins.0 ∷ others_left) ≡ Err e = rw stops refl in
        ap (arguments_after text scope no_arguments places) same.0 ∙ sym l.same ∙ (λ i. arguments_after text scope done (is i) (left i)) ∙ refused

    -- by what stands behind the argument
    by_step : Step IsExpr mark.CloseParen l.left l.end argument_begins.0 argument_begins.1 → arguments_after text scope no_arguments places exprs ≡ Err e
    by_step (closed t left q) = first_is [] left
    by_step (goes_on t next others_left left q r) = first_is others_left left

  module _ (now : Arguments) (behind : List Token) (given : with_argument text scope done place argument_begins.0 ≡ Ok now) (stands : behind ≡ argument_begins.1) where
    -- what the others give is what all give
    same_after : (others_left : List Expr) → l.left ≡ argument_begins.0 ∷ others_left → arguments_after text scope now others others_left ≡ arguments_after text scope no_arguments places l.exprs
    same_after others_left left =
        let first : arguments_after text scope done (place ∷ others) (argument_begins.0 ∷ others_left) ≡ arguments_after text scope now others others_left = rw given refl in
        sym first ∙ (λ i. arguments_after text scope done (sym is i) (sym left i)) ∙ l.same

    -- as many others are left as places
    others_count : (others_left : List Expr) → l.left ≡ argument_begins.0 ∷ others_left → length others_left ≡ length others
    others_count others_left left = omega (arith, l.count, ap length left, ap length is)

    -- one argument more and a comma
    pub argument_comma : (next : List Token) → (t : Token) × IsMark mark.Comma behind t next → AreArgumentsLeft text scope places a now others next
    argument_comma next comma = by_step step where
      -- by what stands behind the argument
      by_step : Step IsExpr mark.CloseParen l.left l.end argument_begins.0 argument_begins.1 → AreArgumentsLeft text scope places a now others next
      by_step (closed t left q) = absurd (comma_apart mark.CloseParen (λ e. cc) argument_begins.1 t comma.0 l.end next q (subst (λ k. IsMark mark.Comma k comma.0 next) stands comma.1))
      by_step (goes_on t n others_left left q r) =
          let same = one_unique (kind.Mark mark.Comma) argument_begins.1 t comma.0 n next q (subst (λ k. IsMark mark.Comma k comma.0 next) stands comma.1) in
          record {
            exprs = l.exprs;
            are = l.are;
            left = others_left;
            end = l.end;
            count = others_count others_left left;
            standing = inr (subst (λ k. IsSeparated IsExpr mark.CloseParen k others_left l.end) same.1 r);
            same = same_after others_left left;
          }

    -- the last argument
    pub argument_last : Fails (IsMark mark.Comma) behind → AreArgumentsLeft text scope places a now others behind
    argument_last no_comma = by_step step where
      -- by what stands behind the argument
      by_step : Step IsExpr mark.CloseParen l.left l.end argument_begins.0 argument_begins.1 → AreArgumentsLeft text scope places a now others behind
      by_step (closed t left q) = record {
        exprs = l.exprs;
        are = l.are;
        left = [];
        end = l.end;
        count = others_count [] left;
        standing = inl refl;
        same = same_after [] left;
      }
      by_step (goes_on t n others_left left q r) = absurd (no_comma t n (subst (λ k. IsMark mark.Comma k t n) (sym stands) q))
