-- The item that the tokens of the array's line are.
use Rattle.std.proofs.Common.{◌≡◌, ℕ, ℤ, true, false, Bool, inl, inr, List, [], ◌∷◌, length, slice_range, Some, refl, sym, subst}
use Rattle.std.specs.Prelude.{codes, nat_lt, ◌||◌, if◌then◌else◌}
use Rattle.std.specs.Str.{bytes_eq}
use Rattle.fzn_token.specs.declared.token.Token.{Token}
use Rattle.fzn_token.specs.declared.token.TokenKind.TheVariants as kind
use Rattle.fzn_token.specs.declared.token.Word.TheVariants as word
use Rattle.fzn_token.specs.declared.token.Mark.TheVariants as mark
use Rattle.fzn_item.specs.declared.item.Atom.{Atom}
use Rattle.fzn_item.specs.declared.item.Expr.TheVariants as expr
use Rattle.fzn_item.specs.declared.item.Base.TheVariants as base
use Rattle.fzn_item.specs.declared.item.Marked.TheVariants as marked
use Rattle.fzn_item.specs.declared.item.Item.TheVariants.{Declare}
use Rattle.fzn_item.specs.Productions.{IsSeparated, last}
use Rattle.fzn_item.specs.Marks.{called, IsRange, IsRangeArgument, MarkedEnd, IsMarkedAnnotation, AreAnnotations, none, more}
use Rattle.fzn_item.specs.Elements.{variable, IsElement}
use Rattle.fzn_item.specs.Exprs.{IsAtom}
use Rattle.fzn_item.specs.Items.{IsItem}
use Rattle.fzn_scope.specs.Names.{bytes_at}
use Rattle.law_subjects.proofs.Derivations.{tok, mark_at, list_read}

-- what stands for `output_array`, by the outcome of the test on its places
by_name : {X : Type 0} (variable array other : X) (b : Bool) (bs : List ℕ) → (if b then [] else bs) ≡ codes "output_array"
    → (if b then other else (if bytes_eq bs (codes "output_var") then variable else (if bytes_eq bs (codes "output_array") then array else other))) ≡ array
by_name variable array other true bs e = (let no : ⊥ = cc in absurd no)
by_name variable array other false bs e = rw e refl

-- the name `output_array`, alone
abbrev alone : Token
alone = tok kind.Name (0, 12)

-- a name with its bytes is called as it is
output_array : (text : List ℕ) (at : ℕ × ℕ) → bytes_at text at.0 at.1 ≡ codes "output_array" → called text (tok kind.Name at) ≡ called (codes "output_array") alone
output_array text at e = by_name _ _ _ (nat_lt at.1 at.0 || nat_lt (length text) at.1) (slice_range text at.0 at.1) e

-- LOW..HIGH
range_read : (l d h : ℕ × ℕ) (low high : ℤ) (rest : List Token) → IsRange (tok (kind.Whole low) l ∷ mark_at mark.DotDot d ∷ tok (kind.Whole high) h ∷ rest) (low, high) rest
range_read l d h low high rest = (low, _, (refl, refl), (mark_at mark.DotDot d, _, (refl, refl, refl), (high, rest, (refl, refl), (refl, refl))))

-- ([LOW..HIGH])
argument_read : (o b l d h e p : ℕ × ℕ) (low high : ℤ) (rest : List Token)
    → IsRangeArgument (mark_at mark.OpenParen o ∷ mark_at mark.OpenBracket b ∷ tok (kind.Whole low) l ∷ mark_at mark.DotDot d ∷ tok (kind.Whole high) h ∷ mark_at mark.CloseBracket e ∷ mark_at mark.CloseParen p ∷ rest) ((low, high) ∷ []) rest
argument_read o b l d h e p low high rest =
    let after = mark_at mark.CloseParen p ∷ rest in
    let close = mark_at mark.CloseBracket e in
    let separated = last close (range_read l d h low high (close ∷ after)) (refl, refl, refl) in
    (mark_at mark.OpenParen o, _, (refl, refl, refl), (mark_at mark.OpenBracket b, _, (refl, refl, refl), ((low, high) ∷ [], after, inr separated, (mark_at mark.CloseParen p, rest, (refl, refl, refl), (refl, refl)))))

-- :: output_array([LOW..HIGH]) =
annotation_read : (text : List ℕ) (q u o b l d h e p s : ℕ × ℕ) (low high : ℤ) (rest : List Token) → bytes_at text u.0 u.1 ≡ codes "output_array"
    → AreAnnotations text (
    mark_at mark.ColonColon q ∷ tok kind.Name u ∷ mark_at mark.OpenParen o ∷ mark_at mark.OpenBracket b ∷ tok (kind.Whole low) l ∷ mark_at mark.DotDot d ∷ tok (kind.Whole high) h
    ∷ mark_at mark.CloseBracket e ∷ mark_at mark.CloseParen p ∷ mark_at mark.Equals s ∷ rest) (marked.Ranges ((low, high) ∷ [])) (mark_at mark.Equals s ∷ rest)
annotation_read text q u o b l d h e p s low high rest written =
    let after = mark_at mark.Equals s ∷ rest in
    let arguments = mark_at mark.OpenParen o ∷ mark_at mark.OpenBracket b ∷ tok (kind.Whole low) l ∷ mark_at mark.DotDot d ∷ tok (kind.Whole high) h ∷ mark_at mark.CloseBracket e ∷ mark_at mark.CloseParen p ∷ after in
    let end : MarkedEnd (called (codes "output_array") alone) arguments (marked.Ranges ((low, high) ∷ [])) after = inl ((low, high) ∷ [], after, argument_read o b l d h e p low high after, (refl, refl)) in
    let one : IsMarkedAnnotation text (tok kind.Name u ∷ arguments) (marked.Ranges ((low, high) ∷ [])) after = (
      tok kind.Name u,
      arguments,
      (refl, refl, refl),
      subst (λ c. MarkedEnd c arguments (marked.Ranges ((low, high) ∷ [])) after) (sym (output_array text u written)) end,
    ) in
    more (mark_at mark.ColonColon q) (tok kind.Name u ∷ arguments) after (marked.Ranges ((low, high) ∷ [])) marked.Nothing refl (refl, refl, refl) one (none refl (refl, λ v r h. let e = h.0 in cc))

-- array [LOW..HIGH] of var int: NAME :: output_array([FROM..TO]) = [ATOMS];
pub array_read : (text : List ℕ) (a o l d h c f v i n w q u po pb pl pd ph pc pp s b e : ℕ × ℕ) (low high : ℤ) (inside rest : List Token) (atoms : List Atom)
    → bytes_at text u.0 u.1 ≡ codes "output_array" → IsSeparated IsAtom mark.CloseBracket inside atoms (mark_at mark.Semicolon e ∷ rest)
    → IsItem text (
    tok (kind.Word word.Array) a ∷ mark_at mark.OpenBracket o ∷ tok (kind.Whole low) l ∷ mark_at mark.DotDot d ∷ tok (kind.Whole high) h ∷ mark_at mark.CloseBracket c
    ∷ tok (kind.Word word.Of) f ∷ tok (kind.Word word.Var) v ∷ tok (kind.Word word.Int) i ∷ mark_at mark.Colon n ∷ tok kind.Name w
    ∷ mark_at mark.ColonColon q ∷ tok kind.Name u ∷ mark_at mark.OpenParen po ∷ mark_at mark.OpenBracket pb ∷ tok (kind.Whole low) pl ∷ mark_at mark.DotDot pd ∷ tok (kind.Whole high) ph
    ∷ mark_at mark.CloseBracket pc ∷ mark_at mark.CloseParen pp ∷ mark_at mark.Equals s ∷ mark_at mark.OpenBracket b ∷ inside)
    (Declare a.0 true (Some (low, high)) base.Int w.0 w.1 (marked.Ranges ((low, high) ∷ [])) (Some (expr.List b.0 atoms))) rest
array_read text a o l d h c f v i n w q u po pb pl pd ph pc pp s b e low high inside rest atoms written list =
    let semi = mark_at mark.Semicolon e in
    let right = mark_at mark.OpenBracket b ∷ inside in
    let after = mark_at mark.Equals s ∷ right in
    let annotated = mark_at mark.ColonColon q ∷ tok kind.Name u ∷ mark_at mark.OpenParen po ∷ mark_at mark.OpenBracket pb ∷ tok (kind.Whole low) pl ∷ mark_at mark.DotDot pd ∷ tok (kind.Whole high) ph
    ∷ mark_at mark.CloseBracket pc ∷ mark_at mark.CloseParen pp ∷ after in
    let named = mark_at mark.Colon n ∷ tok kind.Name w ∷ annotated in
    let kinds = tok (kind.Word word.Var) v ∷ tok (kind.Word word.Int) i ∷ named in
    let element : IsElement kinds (variable base.Int) named = (tok (kind.Word word.Var) v, _, (refl, refl), (base.Int, named, (tok (kind.Word word.Int) i, named, (refl, refl), (refl, refl)), (refl, refl))) in
    let of_ = tok (kind.Word word.Of) f ∷ kinds in
    let close = mark_at mark.CloseBracket c ∷ of_ in (
      tok (kind.Word word.Array) a,
      _,
      (refl, refl),
      (
        mark_at mark.OpenBracket o,
        _,
        (refl, refl, refl),
        (
          (low, high),
          close,
          range_read l d h low high close,
          (
            mark_at mark.CloseBracket c,
            of_,
            (refl, refl, refl),
            (
              tok (kind.Word word.Of) f,
              kinds,
              (refl, refl, refl),
              (
                variable base.Int,
                named,
                element,
                (
                  mark_at mark.Colon n,
                  _,
                  (refl, refl, refl),
                  (
                    tok kind.Name w,
                    annotated,
                    (refl, refl, refl),
                    (
                      marked.Ranges ((low, high) ∷ []),
                      after,
                      annotation_read text q u po pb pl pd ph pc pp s low high right written,
                      (
                        Some (expr.List b.0 atoms),
                        rest,
                        inl (mark_at mark.Equals s, right, (refl, refl, refl), (expr.List b.0 atoms, rest, (expr.List b.0 atoms, semi ∷ rest, list_read b inside (semi ∷ rest) atoms list, (semi, rest, (refl, refl, refl), (refl, refl))), (refl, refl))),
                        (refl, refl),
                      ),
                    ),
                  ),
                ),
              ),
            ),
          ),
        ),
      ),
    )
