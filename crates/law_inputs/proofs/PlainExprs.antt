-- Atoms, expressions and types are the same by both grammars.
use Rattle.std.proofs.Common.{◌≡◌, ◌⊎◌, List, [], ◌∷◌, sym, ◌∙◌, ap, subst, ⊎_elim, inl, inr, refl}
use Rattle.fzn_token.specs.declared.token.Token.{Token}
use Rattle.fzn_token.specs.declared.token.TokenKind.{TokenKind}
use Rattle.fzn_token.specs.declared.token.TokenKind.TheVariants as kind
use Rattle.fzn_token.specs.declared.token.Mark.TheVariants as mark
use Rattle.fzn_token.specs.declared.token.Word.TheVariants as word
use Rattle.fzn_item.specs.declared.item.Atom.{Atom}
use Rattle.fzn_item.specs.declared.item.Atom.TheVariants as atom
use Rattle.fzn_item.specs.declared.item.Expr.TheVariants as expr
use Rattle.fzn_item.specs.declared.item.Base.{Base}
use Rattle.fzn_item.specs.declared.item.Base.TheVariants as base
use Rattle.fzn_item.specs.Productions.{IsInteger}
use Rattle.fzn_item.specs.Exprs.{AtomAfter, IsAtom, IsExpr}
use Rattle.fzn_item.specs.Marks.{IsRange}
use Rattle.fzn_item.specs.Elements.{SetAfter, IsSetElement, BaseAfter, IsBase, variable, parameter, ElementAfter, IsElement}
use Rattle.law_inputs.specs.PlainGrammar.{◌gives◌, At, PlainListed, PlainAtom, PlainAtoms, PlainExpr, PlainType, PlainSetElement, PlainSetOf, PlainBase, PlainVar}
use Rattle.law_inputs.proofs.PlainForms.{Ends, Completes, Includes, same, either, one_first, one_completes, integer_first, list_maps, whatever_follows, by_kind}

-- ---- from the plain grammar

whole_completes : Completes (At IsInteger gives (λ a. atom.Whole a.0 a.1)) IsAtom
whole_completes [] v rest p e = absurd p.2
whole_completes (u ∷ us) v rest p e =
    let is : v ≡ atom.Whole u.from p.0.1 = p.3.0 ∙ ap (λ at. atom.Whole at p.0.1) p.2.0 in
    let ends = subst (λ r. Ends r) p.3.1 e in
    (u, p.1, (refl, p.2.1.1), subst (λ k. AtomAfter k u p.1 v rest) (sym p.2.1.0) (inr (tt, p.1, (refl, ends.dots), (is, p.3.1))))

range_completes : Completes (At IsRange gives (λ a. atom.Range a.0 a.1.0 a.1.1)) IsAtom
range_completes [] v rest p e = absurd p.2
range_completes (u ∷ us) v rest p e =
    let r = p.2.1 in
    let last = r.3.3.3 in
    let pair = last.0 in
    let is : v ≡ atom.Range u.from r.0 r.3.3.0 = p.3.0 ∙ (λ i. atom.Range (p.2.0 i) (pair i).0 (pair i).1) in
    (u, r.1, (refl, r.2.1), subst (λ k. AtomAfter k u r.1 v rest) (sym r.2.0) (inl (r.3.0, r.3.1, r.3.2, (r.3.3.0, r.3.3.1, r.3.3.2, (is, p.3.1 ∙ last.1)))))

listed_completes : Completes (At PlainListed gives (λ a. atom.Listed a.0 a.1)) IsAtom
listed_completes [] v rest p e = absurd p.2
listed_completes (u ∷ us) v rest p e =
    let l = p.2.1 in
    let is : v ≡ atom.Listed l.0.from p.0.1 = p.3.0 ∙ ap (λ at. atom.Listed at p.0.1) (p.2.0 ∙ ap (λ t. t.from) (sym l.2.1)) in
    one_first AtomAfter (kind.Mark mark.OpenBrace) (u ∷ us) l.0 l.1 v rest l.2 (p.0.1, p.1, l.3, (is, p.3.1))

pub atom_completes : Completes PlainAtom IsAtom
atom_completes =
    either _ _ _ (one_completes AtomAfter (kind.Word word.True) _ (λ t. same _)) (
    either _ _ _ (one_completes AtomAfter (kind.Word word.False) _ (λ t. same _)) (
    either _ _ _ whole_completes (
    either _ _ _ (one_completes AtomAfter kind.Float _ (λ t. same _)) (
    either _ _ _ (one_completes AtomAfter kind.Name _ (λ t. same _)) (
    either _ _ _ range_completes listed_completes)))))

atoms_complete : Completes PlainAtoms IsExpr
atoms_complete ts v rest p e = inl (p.0, p.1, p.2, (p.3.0, p.3.1, list_maps PlainAtom IsAtom mark.CloseBracket (λ e. cc) (λ e. cc) atom_completes p.1 p.3.0 p.3.1 p.3.2, p.3.3))

one_atom_completes : Completes (PlainAtom gives expr.One) IsExpr
one_atom_completes ts v rest p e = inr (p.0, p.1, atom_completes ts p.0 p.1 p.2 (subst (λ r. Ends r) p.3.1 e), p.3)

pub expr_completes : Completes PlainExpr IsExpr
expr_completes = either _ _ _ one_atom_completes atoms_complete

-- ---- to the plain grammar

atom_after : (k : TokenKind) (t : Token) (ts : List Token) (v : Atom) (rest : List Token) → t.kind ≡ k → AtomAfter k t ts v rest → PlainAtom (t ∷ ts) v rest
atom_after (kind.Word word.True) t ts v rest e p = inl (t, ts, (e, refl, refl), p)
atom_after (kind.Word word.False) t ts v rest e p = inr (inl (t, ts, (e, refl, refl), p))
atom_after (kind.Whole z) t ts v rest e p = ⊎_elim
    (λ range. inr (inr (inr (inr (inr (inl ((t.from, (z, range.3.0)), range.3.1, (refl, (z, ts, (e, refl), (range.0, range.1, range.2, (range.3.0, range.3.1, range.3.2, (refl, refl))))), range.3.3)))))))
    (λ plain. inr (inr (inl ((t.from, z), ts, (refl, (e, refl)), (plain.3.0, plain.3.1 ∙ plain.2.0)))))
    p
atom_after kind.Float t ts v rest e p = inr (inr (inr (inl (t, ts, (e, refl, refl), p))))
atom_after kind.Name t ts v rest e p = inr (inr (inr (inr (inl (t, ts, (e, refl, refl), p)))))
atom_after (kind.Mark mark.OpenBrace) t ts v rest e p = inr (inr (inr (inr (inr (inr ((t.from, p.0), p.1, (refl, (t, ts, (e, refl, refl), p.2)), p.3))))))
atom_after _ t ts v rest e p = absurd p

pub atom_included : Includes IsAtom PlainAtom
atom_included = by_kind AtomAfter PlainAtom atom_after

pub expr_included : Includes IsExpr PlainExpr
expr_included ts v rest p = ⊎_elim
    (λ list. inr (list.0, list.1, list.2, (list.3.0, list.3.1, list_maps IsAtom PlainAtom mark.CloseBracket (λ e. cc) (λ e. cc) (whatever_follows IsAtom PlainAtom atom_included) list.1 list.3.0 list.3.1 list.3.2, list.3.3)))
    (λ one. inl (one.0, one.1, atom_included ts one.0 one.1 one.2, one.3))
    p

-- ---- types

-- behind the word `set`
set_of_completes : Completes (PlainSetOf gives (λ _. base.Set)) IsBase
set_of_completes ts v rest p e =
    let words = p.2 in
    let of = words.3 in
    let is = p.3.0 in
    let closes : (r : List Token) → p.1 ≡ r → rest ≡ r = λ r at. p.3.1 ∙ at in
    let inside : IsSetElement of.1 v rest = ⊎_elim
    (λ int. one_first (λ k _. SetAfter k) (kind.Word word.Int) of.1 int.0 int.1 v rest int.2 (is, closes int.1 int.3.1))
    (λ other. ⊎_elim
    (λ range. integer_first (λ k _. SetAfter k) of.1 range.2.0 range.2.1 v rest range.2.2 (λ t us at. (range.2.3.0, range.2.3.1, range.2.3.2, (range.2.3.3.0, range.2.3.3.1, range.2.3.3.2, (is, closes range.2.3.3.1 (range.3.1 ∙ range.2.3.3.3.1))))))
    (λ listed. one_first (λ k _. SetAfter k) (kind.Mark mark.OpenBrace) of.1 listed.2.0 listed.2.1 v rest listed.2.2 (listed.0, listed.1, listed.2.3, (is, closes listed.1 listed.3.1)))
    other)
    of.3 in
    one_first (λ k _. BaseAfter k) (kind.Word word.Set) ts words.0 words.1 v rest words.2 (of.0, of.1, of.2, inside)

base_range_completes : Completes (IsRange gives (λ r. base.Range r.0 r.1)) IsBase
base_range_completes ts v rest p e =
    let r = p.2 in
    let last = r.3.3.3 in
    let pair = last.0 in
    integer_first (λ k _. BaseAfter k) ts r.0 r.1 v rest r.2 (λ t us at. (r.3.0, r.3.1, r.3.2, (r.3.3.0, r.3.3.1, r.3.3.2, (p.3.0 ∙ (λ i. base.Range (pair i).0 (pair i).1), p.3.1 ∙ last.1))))

pub base_completes : Completes PlainBase IsBase
base_completes =
    either _ _ _ (one_completes (λ k _. BaseAfter k) (kind.Word word.Bool) _ (λ t. same _)) (
    either _ _ _ (one_completes (λ k _. BaseAfter k) (kind.Word word.Int) _ (λ t. same _)) (
    either _ _ _ (one_completes (λ k _. BaseAfter k) (kind.Word word.Float) _ (λ t. same _)) (
    either _ _ _ base_range_completes (
    either _ _ _ (λ ts v rest p e. one_first (λ k _. BaseAfter k) (kind.Mark mark.OpenBrace) ts p.2.0 p.2.1 v rest p.2.2 (p.0, p.1, p.2.3, p.3)) (
    either _ _ _ (λ ts v rest p e. one_first (λ k _. BaseAfter k) kind.Float ts p.2.0 p.2.1 v rest p.2.2 (p.2.3.0, p.2.3.1, p.2.3.2, (p.0, p.1, p.2.3.3, p.3)))
    set_of_completes)))))

set_after : (k : TokenKind) (t : Token) (ts : List Token) (v : Base) (rest : List Token) → t.kind ≡ k → SetAfter k ts v rest
    → PlainSetElement (t ∷ ts) tt rest × (v ≡ base.Set)
set_after (kind.Word word.Int) t ts v rest e p = (inl (t, ts, (e, refl, refl), (refl, p.1)), p.0)
set_after (kind.Whole z) t ts v rest e p = (inr (inl ((z, p.3.0), p.3.1, (z, ts, (e, refl), (p.0, p.1, p.2, (p.3.0, p.3.1, p.3.2, (refl, refl)))), (refl, p.3.3.1))), p.3.3.0)
set_after (kind.Mark mark.OpenBrace) t ts v rest e p = (inr (inr (p.0, p.1, (t, ts, (e, refl, refl), p.2), (refl, p.3.1))), p.3.0)
set_after _ t ts v rest e p = absurd p

set_element_included : (ts : List Token) (v : Base) (rest : List Token) → IsSetElement ts v rest → PlainSetElement ts tt rest × (v ≡ base.Set)
set_element_included [] v rest p = absurd p.2
set_element_included (u ∷ us) v rest p =
    let q = subst (λ m. SetAfter p.0.kind m v rest) p.2.1 p.3 in
    set_after u.kind u us v rest refl (subst (λ (t : Token). SetAfter t.kind us v rest) p.2.0 q)

base_after : (k : TokenKind) (t : Token) (ts : List Token) (v : Base) (rest : List Token) → t.kind ≡ k → BaseAfter k ts v rest → PlainBase (t ∷ ts) v rest
base_after (kind.Word word.Bool) t ts v rest e p = inl (t, ts, (e, refl, refl), p)
base_after (kind.Word word.Int) t ts v rest e p = inr (inl (t, ts, (e, refl, refl), p))
base_after (kind.Word word.Float) t ts v rest e p = inr (inr (inl (t, ts, (e, refl, refl), p)))
base_after (kind.Word word.Set) t ts v rest e p =
    let inside = set_element_included p.1 v rest p.3 in
    inr (inr (inr (inr (inr (inr (tt, rest, (t, ts, (e, refl, refl), (p.0, p.1, p.2, inside.0)), (inside.1, refl)))))))
base_after (kind.Whole z) t ts v rest e p = inr (inr (inr (inl ((z, p.3.0), p.3.1, (z, ts, (e, refl), (p.0, p.1, p.2, (p.3.0, p.3.1, p.3.2, (refl, refl)))), p.3.3))))
base_after kind.Float t ts v rest e p = inr (inr (inr (inr (inr (inl (p.3.0, p.3.1, (t, ts, (e, refl, refl), (p.0, p.1, p.2, p.3.2)), p.3.3))))))
base_after (kind.Mark mark.OpenBrace) t ts v rest e p = inr (inr (inr (inr (inl (p.0, p.1, (t, ts, (e, refl, refl), p.2), p.3)))))
base_after _ t ts v rest e p = absurd p

base_included : Includes IsBase PlainBase
base_included = by_kind (λ k _. BaseAfter k) PlainBase base_after

-- a type of parameters, or `var` and a base
pub type_completes : (ts : List Token) (b : Base) (rest : List Token) → PlainType ts b rest → IsElement ts (parameter b) rest
type_completes ts b rest p = ⊎_elim
    (λ bool. one_first (λ k _. ElementAfter k) (kind.Word word.Bool) ts bool.0 bool.1 (parameter b) rest bool.2 (ap parameter bool.3.0, bool.3.1))
    (λ more. ⊎_elim
    (λ int. one_first (λ k _. ElementAfter k) (kind.Word word.Int) ts int.0 int.1 (parameter b) rest int.2 (ap parameter int.3.0, int.3.1))
    (λ more2. ⊎_elim
    (λ float. one_first (λ k _. ElementAfter k) (kind.Word word.Float) ts float.0 float.1 (parameter b) rest float.2 (ap parameter float.3.0, float.3.1))
    (λ set. one_first (λ k _. ElementAfter k) (kind.Word word.Set) ts set.0 set.1 (parameter b) rest set.2 (set.3.0, set.3.1, set.3.2, (set.3.3.0, set.3.3.1, set.3.3.2, (ap parameter set.3.3.3.0, set.3.3.3.1))))
    more2)
    more)
    p

pub var_completes : (ts : List Token) (b : Base) (rest : List Token) → PlainVar ts b rest → Ends rest → IsElement ts (variable b) rest
var_completes ts b rest p e = one_first (λ k _. ElementAfter k) (kind.Word word.Var) ts p.0 p.1 (variable b) rest p.2 (b, rest, base_completes p.1 b rest p.3 e, (refl, refl))

-- an element is a type of parameters, or `var` and a base
pub element_after : (k : TokenKind) (t : Token) (ts : List Token) (element : _) (rest : List Token) → t.kind ≡ k → ElementAfter k ts element rest → ((b : Base) × (element ≡ parameter b) × PlainType (t ∷ ts) b rest) ⊎ ((b : Base) × (element ≡ variable b) × PlainVar (t ∷ ts) b rest)
element_after (kind.Word word.Var) t ts element rest e p = inr (p.0, p.3.0, (t, ts, (e, refl, refl), subst (λ r. PlainBase ts p.0 r) (sym p.3.1) (base_included ts p.0 p.1 p.2)))
element_after (kind.Word word.Bool) t ts element rest e p = inl (base.Bool, p.0, inl (t, ts, (e, refl, refl), (refl, p.1)))
element_after (kind.Word word.Int) t ts element rest e p = inl (base.Int, p.0, inr (inl (t, ts, (e, refl, refl), (refl, p.1))))
element_after (kind.Word word.Float) t ts element rest e p = inl (base.Float, p.0, inr (inr (inl (t, ts, (e, refl, refl), (refl, p.1)))))
element_after (kind.Word word.Set) t ts element rest e p = inl (base.Set, p.3.3.0, inr (inr (inr (t, ts, (e, refl, refl), (p.0, p.1, p.2, (p.3.0, p.3.1, p.3.2, (refl, p.3.3.1)))))))
element_after _ t ts element rest e p = absurd p

pub element_included : (ts : List Token) (element : _) (rest : List Token) → IsElement ts element rest → ((b : Base) × (element ≡ parameter b) × PlainType ts b rest) ⊎ ((b : Base) × (element ≡ variable b) × PlainVar ts b rest)
element_included [] element rest p = absurd p.2
element_included (u ∷ us) element rest p =
    let q = subst (λ m. ElementAfter p.0.kind m element rest) p.2.1 p.3 in
    element_after u.kind u us element rest refl (subst (λ (t : Token). ElementAfter t.kind us element rest) p.2.0 q)
