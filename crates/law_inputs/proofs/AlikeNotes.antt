-- Annotations of tokens that are alike are alike, also where some are left out that are no marks.
use Rattle.std.proofs.Common.{◌≡◌, ℕ, zero, suc, ◌||◌, ◌⊎◌, inl, inr, Bool, true, false, cond, List, [], ◌∷◌, length, Some, refl, sym, ap, ◌∙◌, subst}
use Rattle.std.specs.Prelude.{ℤ, nat_lt, slice_range, codes}
use Rattle.std.specs.Str.{bytes_eq}
use Rattle.fzn_token.specs.declared.token.Token.{Token}
use Rattle.fzn_token.specs.declared.token.TokenKind.{TokenKind}
use Rattle.fzn_token.specs.declared.token.TokenKind.TheVariants as kind
use Rattle.fzn_token.specs.declared.token.Mark.TheVariants as mark
use Rattle.fzn_token.specs.declared.token.Word.TheVariants as word
use Rattle.fzn_item.specs.declared.item.Marked.{Marked}
use Rattle.fzn_item.specs.declared.item.Marked.TheVariants as marked
use Rattle.fzn_item.specs.Productions.{Production, Gives, ◌>>=◌, Or, IsMark, IsNotNext, IsSeparated, last, more as one_more, IsListOf, IsAnyList, Fails}
use Rattle.fzn_item.specs.Annotations.{Arguments, RangeEnd, FloatRangeEnd, NumberAfter, IsNumber, InnerAfter, IsInner}
use Rattle.fzn_item.specs.Marks.{called, first_mark, IsRange, IsRangeArgument, IsOtherArgument, ArrayEnd, MarkedEnd, IsMarkedAnnotation, AreAnnotations, none, more}
use Rattle.fzn_item.specs.Items.{ToSemicolon}
use Rattle.fzn_item.proofs.Combining.{one_unique, kinds_apart, comma_apart}
use Rattle.fzn_item.proofs.AnnotationLaws.{inner_apart_bracket}
use Rattle.fzn_item.proofs.MarkLaws.{range_unique, range_apart, marked_annotation_unique}
use Rattle.fzn_item.proofs.Semicolons.{Alike, annotation_stays}
use Rattle.fzn_item.proofs.Endings.{behind_first}
use Rattle.fzn_scope.specs.Names.{bytes_at}
use Rattle.law_inputs.specs.Gapped.{AreAlike}
use Rattle.law_inputs.specs.Ignored.{IsNote, NotesLeftOut, none as nothing, kept, left_out}
use Rattle.law_inputs.proofs.Carrying.{Carried, colons, first_kept, gives_carried, nothing_carried, then_carried, map_carried, or_carried, one_carried, integer_carried, by_kind, values_carried, any_list_carried, no_paren_carried, no_dots_carried}

-- ---- no annotation has a `;`

-- tokens are like themselves up to their first `;`
alike_here : (ts : List Token) (v : Unit {0}) (rest : List Token) → ToSemicolon ts v rest → Alike ts ts (Some (rest, rest))
alike_here [] v rest p = absurd p
alike_here (t ∷ ts) v rest p = elim p [
  | inl here ↦ (refl, inl (here.0, ap (λ x. Some (x, x)) here.1))
  | inr past ↦ (refl, inr (past.0, alike_here ts v rest past.1))
]

-- the first `;` stands behind an annotation that they begin with
pub behind_note : (text : List ℕ) (ts behind rest : List Token) (says : Marked) → IsNote text ts says behind → (v : Unit {0}) → ToSemicolon ts v rest → ToSemicolon behind v rest
behind_note text [] behind rest says note v p = absurd p
behind_note text (t ∷ ts) behind rest says note v p = elim p [
  | inl here ↦ absurd (let clash : colons ≡ kind.Mark mark.Semicolon = sym note.begins.0 ∙ here.0 in cc)
  | inr past ↦
      let inside = alike_here note.inside v rest (subst (λ x. ToSemicolon x v rest) (sym note.begins.2) past.1) in
      let stays = annotation_stays text note.inside note.inside (Some (rest, rest)) says behind inside note.annotation in
      behind_first behind stays.0 rest rest stays.2
]

module _ (text other : List ℕ) (marks : Bool) where
  -- ---- annotation expressions

  parentheses_carried : (R : Production (Unit {0})) → Carried text other marks R R (λ a b. a ≡ b) → Carried text other marks (Arguments R) (Arguments R) (λ a b. a ≡ b)
  parentheses_carried R each = or_carried text other marks _ _ _ _ _
      (then_carried text other marks _ _ _ _ _ _ (one_carried text other marks (kind.Mark mark.OpenParen) (λ e. cc)) (λ _ _ _. any_list_carried text other marks R mark.CloseParen (λ e. cc) each))
      (no_paren_carried text other marks)

  range_end_carried : Carried text other marks RangeEnd RangeEnd (λ a b. a ≡ b)
  range_end_carried = or_carried text other marks _ _ _ _ _
      (then_carried text other marks _ _ _ _ _ _ (one_carried text other marks (kind.Mark mark.DotDot) (λ e. cc)) (λ _ _ _. map_carried text other marks _ (λ _. tt) _ (λ _. tt) _ _ (integer_carried text other marks) (λ _ _ _. refl)))
      (no_dots_carried text other marks)

  float_range_end_carried : Carried text other marks FloatRangeEnd FloatRangeEnd (λ a b. a ≡ b)
  float_range_end_carried = or_carried text other marks _ _ _ _ _
      (then_carried text other marks _ _ _ _ _ _ (one_carried text other marks (kind.Mark mark.DotDot) (λ e. cc)) (λ _ _ _. map_carried text other marks _ (λ _. tt) _ (λ _. tt) _ _ (one_carried text other marks kind.Float (λ e. cc)) (λ _ _ _. refl)))
      (no_dots_carried text other marks)

  number_after_carried : (k : TokenKind) → Carried text other marks (NumberAfter k) (NumberAfter k) (λ a b. a ≡ b)
  number_after_carried (kind.Whole value) = gives_carried text other marks _ _ _ refl
  number_after_carried kind.Float = gives_carried text other marks _ _ _ refl
  number_after_carried _ = nothing_carried text other marks _

  number_carried : Carried text other marks IsNumber IsNumber (λ a b. a ≡ b)
  number_carried = by_kind text other marks (λ k _. NumberAfter k) (λ k _. NumberAfter k) _ (λ k _ _ _. number_after_carried k) (λ t ts v rest p. p)

  inner_after_carried : (R : Production (Unit {0})) → Carried text other marks R R (λ a b. a ≡ b) → (k : TokenKind) → Carried text other marks (InnerAfter R k) (InnerAfter R k) (λ a b. a ≡ b)
  inner_after_carried R each kind.Name = parentheses_carried R each
  inner_after_carried R each (kind.Word word.True) = gives_carried text other marks _ _ _ refl
  inner_after_carried R each (kind.Word word.False) = gives_carried text other marks _ _ _ refl
  inner_after_carried R each (kind.Whole value) = range_end_carried
  inner_after_carried R each kind.Float = float_range_end_carried
  inner_after_carried R each kind.Text = gives_carried text other marks _ _ _ refl
  inner_after_carried R each (kind.Mark mark.OpenBrace) = any_list_carried text other marks IsNumber mark.CloseBrace (λ e. cc) number_carried
  inner_after_carried R each (kind.Mark mark.OpenBracket) = any_list_carried text other marks R mark.CloseBracket (λ e. cc) each
  inner_after_carried R each _ = nothing_carried text other marks _

  inner_carried : (depth : ℕ) → Carried text other marks (IsInner depth) (IsInner depth) (λ a b. a ≡ b)
  unfolding IsInner
  inner_carried zero = nothing_carried text other marks _
  inner_carried (suc depth) = by_kind text other marks (λ k _. InnerAfter (IsInner depth) k) (λ k _. InnerAfter (IsInner depth) k) _ (λ k _ _ _. inner_after_carried (IsInner depth) (inner_carried depth) k) (λ t ts v rest p. p)

  -- ---- marks

  pub range_carried : Carried text other marks IsRange IsRange (λ a b. a ≡ b)
  range_carried = then_carried text other marks _ _ _ _ _ _ (integer_carried text other marks) (λ low low2 e.
      then_carried text other marks _ _ _ _ _ _ (one_carried text other marks (kind.Mark mark.DotDot) (λ e. cc)) (λ _ _ _.
      map_carried text other marks _ (λ high. (low, high)) _ (λ high. (low2, high)) _ _ (integer_carried text other marks) (λ a b h. λ i. (e i, h i))))

  pub range_argument_carried : Carried text other marks IsRangeArgument IsRangeArgument (λ a b. a ≡ b)
  range_argument_carried =
      then_carried text other marks _ _ _ _ _ _ (one_carried text other marks (kind.Mark mark.OpenParen) (λ e. cc)) (λ _ _ _.
      then_carried text other marks _ _ _ _ _ _ (one_carried text other marks (kind.Mark mark.OpenBracket) (λ e. cc)) (λ _ _ _.
      then_carried text other marks _ _ _ _ _ _ (values_carried text other marks IsRange mark.CloseBracket (λ e. cc) range_carried) (λ a b e.
      map_carried text other marks _ (λ _. a) _ (λ _. b) _ _ (one_carried text other marks (kind.Mark mark.CloseParen) (λ e. cc)) (λ _ _ _. e))))

  inside_carried : Carried text other marks (Arguments (IsInner 199)) (Arguments (IsInner 199)) (λ a b. a ≡ b)
  inside_carried = parentheses_carried (IsInner 199) (inner_carried 199)

  -- ---- ranges of the one are ranges of the other

  -- a range, where an annotation expression was
  range_back : (d : ℕ) (ts us m e : List Token) (v : Unit {0}) (r : ℤ × ℤ) → NotesLeftOut text other marks ts us → IsInner (suc d) ts v m → IsRange us r e → IsRange ts r m × NotesLeftOut text other marks m e
  unfolding IsInner
  range_back d [] us m e v r less p q = absurd p.2
  range_back d (t ∷ ts) us m e v r less p q =
      let inner : InnerAfter (IsInner d) t.kind ts v m = subst (λ x. InnerAfter (IsInner d) x.kind ts v m) p.2.0 (subst (λ x. InnerAfter (IsInner d) p.0.kind x v m) p.2.1 p.3) in
      let f = first_kept text other marks (t ∷ ts) t ts us less refl (λ is. subst (λ k. InnerAfter (IsInner d) k ts v m) is inner) in
      let range : IsRange (f.0 ∷ f.1) r e = subst (λ x. IsRange x r e) f.2 q in
      let whole : t.kind ≡ kind.Whole range.0 = f.3.kind ∙ range.2.0 in
      let ends : RangeEnd ts v m = subst (λ k. InnerAfter (IsInner d) k ts v m) whole inner in
      elim ends [
        | inl dots ↦
            let all : IsRange (t ∷ ts) (range.0, dots.3.0) m = (range.0, ts, (whole, refl), (dots.0, dots.1, dots.2, (dots.3.0, dots.3.1, dots.3.2, (refl, dots.3.3.1)))) in
            let g = range_carried (t ∷ ts) us less (range.0, dots.3.0) m all in
            let same = range_unique us g.0 r g.1 e g.2 q in
            (subst (λ x. IsRange (t ∷ ts) x m) (g.3 ∙ same.0) all, subst (λ x. NotesLeftOut text other marks m x) same.1 g.4)
        | inr plain ↦
            let no_dots = no_dots_carried text other marks ts f.1 f.4 v m plain in
            absurd (no_dots.2.1 range.3.0 range.3.1 (subst (λ x. IsMark mark.DotDot x range.3.0 range.3.1) range.2.1 range.3.2))
      ]

  -- ranges with commas between
  ranges_back : (d : ℕ) (ts us m e : List Token) (vs : List (Unit {0})) (rs : List (ℤ × ℤ)) → NotesLeftOut text other marks ts us → IsSeparated (IsInner (suc d)) mark.CloseBracket ts vs m → IsSeparated IsRange mark.CloseBracket us rs e
      → IsSeparated IsRange mark.CloseBracket ts rs m × NotesLeftOut text other marks m e
  ranges_back d ts us m e vs rs less (last {middle = m1} {v = v} t a b) (last {middle = e1} {v = r} u a2 b2) =
      let one = range_back d ts us m1 e1 v r less a a2 in
      let close = one_carried text other marks (kind.Mark mark.CloseBracket) (λ e. cc) m1 e1 one.1 t m b in
      let same = one_unique (kind.Mark mark.CloseBracket) e1 close.0 u close.1 e close.2 b2 in
      (last t one.0 b, subst (λ x. NotesLeftOut text other marks m x) same.1 close.4)
  ranges_back d ts us m e vs rs less (last {middle = m1} {v = v} t a b) (one_more {middle = e1} {next = next} {v = r} u a2 b2 c2) =
      let one = range_back d ts us m1 e1 v r less a a2 in
      let close = one_carried text other marks (kind.Mark mark.CloseBracket) (λ e. cc) m1 e1 one.1 t m b in
      absurd (comma_apart mark.CloseBracket (λ e. cc) e1 close.0 u close.1 next close.2 b2)
  ranges_back d ts us m e vs rs less (one_more {middle = m1} {next = next} {v = v} t a b c) (last {middle = e1} {v = r} u a2 b2) =
      let one = range_back d ts us m1 e1 v r less a a2 in
      let comma = one_carried text other marks (kind.Mark mark.Comma) (λ e. cc) m1 e1 one.1 t next b in
      absurd (comma_apart mark.CloseBracket (λ e. cc) e1 u comma.0 e comma.1 b2 comma.2)
  ranges_back d ts us m e vs rs less (one_more {middle = m1} {next = n1} {v = v} {vs = vs1} t a b c) (one_more {middle = e1} {next = n2} {v = r} {vs = rs1} u a2 b2 c2) =
      let one = range_back d ts us m1 e1 v r less a a2 in
      let comma = one_carried text other marks (kind.Mark mark.Comma) (λ e. cc) m1 e1 one.1 t n1 b in
      let same = one_unique (kind.Mark mark.Comma) e1 comma.0 u comma.1 n2 comma.2 b2 in
      let others = ranges_back d n1 n2 m e vs1 rs1 (subst (λ x. NotesLeftOut text other marks n1 x) same.1 comma.4) c c2 in
      (one_more t one.0 b others.0, others.1)

  -- no list with something in it begins with a bracket that closes
  some_inner : (d : ℕ) (ts us m e : List Token) (vs : List (Unit {0})) (u : Token) → NotesLeftOut text other marks ts us → IsSeparated (IsInner d) mark.CloseBracket ts vs m → IsMark mark.CloseBracket us u e → ⊥
  some_inner d ts us m e vs u less (last {middle = m1} {v = v} t a b) close = let f = inner_carried d ts us less v m1 a in inner_apart_bracket d us f.0 u f.1 e f.2 close
  some_inner d ts us m e vs u less (one_more {middle = m1} {v = v} t a b c) close = let f = inner_carried d ts us less v m1 a in inner_apart_bracket d us f.0 u f.1 e f.2 close

  some_ranges : (us e end : List Token) (rs : List (ℤ × ℤ)) (u : Token) → IsSeparated IsRange mark.CloseBracket us rs e → IsMark mark.CloseBracket us u end → ⊥
  some_ranges us e end rs u (last {middle = m} {v = r} t a b) close = range_apart mark.CloseBracket us r u m end a close
  some_ranges us e end rs u (one_more {middle = m} {v = r} t a b c) close = range_apart mark.CloseBracket us r u m end a close

  -- a list of ranges, where a list of annotation expressions was
  list_back : (d : ℕ) (ts us m e : List Token) (v : Unit {0}) (rs : List (ℤ × ℤ)) → NotesLeftOut text other marks ts us → IsAnyList (IsInner (suc d)) mark.CloseBracket ts v m → IsListOf IsRange mark.CloseBracket us rs e
      → IsListOf IsRange mark.CloseBracket ts rs m × NotesLeftOut text other marks m e
  list_back d ts us m e v rs less p q = elim p.1 [
    | inl empty ↦
        let close = one_carried text other marks (kind.Mark mark.CloseBracket) (λ e. cc) ts us less empty.1 m empty.2 in
        elim q [
          | inl no_range ↦
              let same = one_unique (kind.Mark mark.CloseBracket) us close.0 no_range.1 close.1 e close.2 no_range.2 in
              (inl (no_range.0, empty.1, empty.2), subst (λ x. NotesLeftOut text other marks m x) same.1 close.4)
          | inr some ↦ absurd (some_ranges us e close.1 rs close.0 some close.2)
        ]
    | inr some ↦ elim q [
      | inl no_range ↦ absurd (some_inner (suc d) ts us m e p.0 no_range.1 less some no_range.2)
      | inr ranges ↦ let f = ranges_back d ts us m e p.0 rs less some ranges in (inr f.0, f.1)
    ]
  ]

  -- a `[`, where an annotation expression was
  bracket_back : (d : ℕ) (ts us m us2 : List Token) (v : Unit {0}) (u : Token) → NotesLeftOut text other marks ts us → IsInner (suc d) ts v m → IsMark mark.OpenBracket us u us2
      → (t : Token) × (ts2 : List Token) × IsMark mark.OpenBracket ts t ts2 × IsAnyList (IsInner d) mark.CloseBracket ts2 v m × NotesLeftOut text other marks ts2 us2
  unfolding IsInner
  bracket_back d [] us m us2 v u less p q = absurd p.2
  bracket_back d (t ∷ ts) us m us2 v u less p q =
      let inner : InnerAfter (IsInner d) t.kind ts v m = subst (λ x. InnerAfter (IsInner d) x.kind ts v m) p.2.0 (subst (λ x. InnerAfter (IsInner d) p.0.kind x v m) p.2.1 p.3) in
      let f = first_kept text other marks (t ∷ ts) t ts us less refl (λ is. subst (λ k. InnerAfter (IsInner d) k ts v m) is inner) in
      let bracket : IsMark mark.OpenBracket (f.0 ∷ f.1) u us2 = subst (λ x. IsMark mark.OpenBracket x u us2) f.2 q in
      let opens : t.kind ≡ kind.Mark mark.OpenBracket = f.3.kind ∙ bracket.0 in
      (t, ts, (opens, refl, refl), subst (λ k. InnerAfter (IsInner d) k ts v m) opens inner, subst (λ x. NotesLeftOut text other marks ts x) (sym bracket.2) f.4)

  -- a list of ranges and a `)`, where annotation expressions were
  inside_back : (ts us rest e : List Token) (vs : List (Unit {0})) (rs : List (ℤ × ℤ)) → NotesLeftOut text other marks ts us → IsSeparated (IsInner 199) mark.CloseParen ts vs rest
      → (IsMark mark.OpenBracket >>= (λ _. IsListOf IsRange mark.CloseBracket >>= (λ ranges. IsMark mark.CloseParen >>= (λ _. Gives ranges)))) us rs e
      → (IsMark mark.OpenBracket >>= (λ _. IsListOf IsRange mark.CloseBracket >>= (λ ranges. IsMark mark.CloseParen >>= (λ _. Gives ranges)))) ts rs rest
  inside_back ts us rest e vs rs less (last {middle = m} {v = v} t a b) q =
      let f = bracket_back 198 ts us m q.1 v q.0 less a q.2 in
      let g = list_back 197 f.1 q.1 m q.3.1 v q.3.0 f.4 f.3 q.3.2 in
      (f.0, f.1, f.2, (q.3.0, m, g.0, (t, rest, b, (q.3.3.3.0, refl))))
  inside_back ts us rest e vs rs less (one_more {middle = m} {next = next} {v = v} t a b c) q =
      let f = bracket_back 198 ts us m q.1 v q.0 less a q.2 in
      let g = list_back 197 f.1 q.1 m q.3.1 v q.3.0 f.4 f.3 q.3.2 in
      let comma = one_carried text other marks (kind.Mark mark.Comma) (λ e. cc) m q.3.1 g.1 t next b in
      absurd (comma_apart mark.CloseParen (λ e. cc) q.3.1 q.3.3.0 comma.0 q.3.3.1 comma.1 q.3.3.2 comma.2)

  -- ranges in parentheses, where other arguments were
  argument_back : (ts us rest e : List Token) (v : Unit {0}) (rs : List (ℤ × ℤ)) → NotesLeftOut text other marks ts us → Arguments (IsInner 199) ts v rest → IsRangeArgument us rs e → IsRangeArgument ts rs rest
  argument_back ts us rest e v rs less p q = elim p [
    | inr plain ↦ let f = no_paren_carried text other marks ts us less v rest plain in absurd (f.2.1 q.0 q.1 q.2)
    | inl call ↦
        let paren = one_carried text other marks (kind.Mark mark.OpenParen) (λ e. cc) ts us less call.0 call.1 call.2 in
        let same = one_unique (kind.Mark mark.OpenParen) us paren.0 q.0 paren.1 q.1 paren.2 q.2 in
        let inside = subst (λ x. NotesLeftOut text other marks call.1 x) same.1 paren.4 in
        elim call.3.1 [
          | inl empty ↦
              let close = one_carried text other marks (kind.Mark mark.CloseParen) (λ e. cc) call.1 q.1 inside empty.1 rest empty.2 in
              absurd (kinds_apart (kind.Mark mark.CloseParen) (kind.Mark mark.OpenBracket) (λ e. cc) q.1 close.0 q.3.0 close.1 q.3.1 close.2 q.3.2)
          | inr some ↦ (call.0, call.1, call.2, inside_back call.1 q.1 rest e call.3.0 rs inside some q.3)
        ]
  ]

  -- ---- marks

  other_argument_carried : Carried text other marks IsOtherArgument IsOtherArgument (λ a b. a ≡ b)
  other_argument_carried ts us alike v rest p =
      let f = inside_carried ts us alike v rest p.1 in
      (f.0, f.1, ((λ ranges end q. p.0 ranges rest (argument_back ts us rest end v ranges alike p.1 q)), f.2), f.3, f.4)

  array_end_carried : Carried text other marks ArrayEnd ArrayEnd (λ a b. a ≡ b)
  array_end_carried = or_carried text other marks _ _ _ _ _
      (map_carried text other marks _ marked.Ranges _ marked.Ranges _ _ range_argument_carried (λ a b e. ap marked.Ranges e))
      (map_carried text other marks IsOtherArgument (λ _. marked.Wrong) IsOtherArgument (λ _. marked.Wrong) (λ a b. a ≡ b) _ other_argument_carried (λ _ _ _. refl))

  -- what follows `output_var`, and what follows another name
  abbrev VariableEnd : Production Marked
  VariableEnd = Or
      (IsMark mark.OpenParen >>= (λ _. IsAnyList (IsInner 199) mark.CloseParen >>= (λ _. Gives marked.Nothing)))
      (IsNotNext mark.OpenParen >>= (λ _. Gives marked.Variable))

  abbrev OtherEnd : Production Marked
  OtherEnd = Arguments (IsInner 199) >>= (λ _. Gives marked.Nothing)

  variable_end_carried : Carried text other marks VariableEnd VariableEnd (λ a b. a ≡ b)
  variable_end_carried = or_carried text other marks _ _ _ _ _
      (then_carried text other marks _ _ _ _ _ _ (one_carried text other marks (kind.Mark mark.OpenParen) (λ e. cc)) (λ _ _ _. map_carried text other marks _ (λ _. marked.Nothing) _ (λ _. marked.Nothing) _ _ (any_list_carried text other marks (IsInner 199) mark.CloseParen (λ e. cc) (inner_carried 199)) (λ _ _ _. refl)))
      (map_carried text other marks _ (λ _. marked.Variable) _ (λ _. marked.Variable) _ _ (no_paren_carried text other marks) (λ _ _ _. refl))

  other_end_carried : Carried text other marks OtherEnd OtherEnd (λ a b. a ≡ b)
  other_end_carried = map_carried text other marks _ (λ _. marked.Nothing) _ (λ _. marked.Nothing) _ _ inside_carried (λ _ _ _. refl)

  -- a test tells which of two it is
  choice_carried : {C : Type 0} (R : C → Production Marked) (b : Bool) (x y : C) → Carried text other marks (R x) (R x) (λ a b. a ≡ b) → Carried text other marks (R y) (R y) (λ a b. a ≡ b) → Carried text other marks (R (cond b x y)) (R (cond b x y)) (λ a b. a ≡ b)
  choice_carried R true x y first second = first
  choice_carried R false x y first second = second

  -- of bytes that are cut from a text, or of none where they do not lie in it
  cut : {C : Type 0} (b : Bool) (bs : List ℕ) (x y z : C) → cond b z (cond (bytes_eq bs (codes "output_var")) x (cond (bytes_eq bs (codes "output_array")) y z)) ≡ cond (bytes_eq (cond b [] bs) (codes "output_var")) x (cond (bytes_eq (cond b [] bs) (codes "output_array")) y z)
  cut true bs x y z = refl
  cut false bs x y z = refl

  marked_end_carried : (t u : Token) → AreAlike text other t u → Carried text other marks (MarkedEnd (called text t)) (MarkedEnd (called other u)) (λ a b. a ≡ b)
  marked_end_carried t u h =
      let output_var = called (codes "output_var") (record { kind = kind.Name; from = 0; to = 10 }) in
      let output_array = called (codes "output_array") (record { kind = kind.Name; from = 0; to = 12 }) in
      let neither = called [] (record { kind = kind.Name; from = 0; to = 0 }) in
      let of_text = cut (nat_lt t.to t.from || nat_lt (length text) t.to) (slice_range text t.from t.to) output_var output_array neither in
      let of_other = cut (nat_lt u.to u.from || nat_lt (length other) u.to) (slice_range other u.from u.to) output_var output_array neither in
      let by_bytes = ap (λ (bs : List ℕ). cond (bytes_eq bs (codes "output_var")) output_var (cond (bytes_eq bs (codes "output_array")) output_array neither)) h.bytes in
      let bs = bytes_at other u.from u.to in
      let same = choice_carried MarkedEnd (bytes_eq bs (codes "output_var")) output_var (cond (bytes_eq bs (codes "output_array")) output_array neither) variable_end_carried
      (choice_carried MarkedEnd (bytes_eq bs (codes "output_array")) output_array neither array_end_carried other_end_carried) in
      subst (λ c. Carried text other marks (MarkedEnd c) (MarkedEnd (called other u)) (λ a b. a ≡ b)) (sym (of_text ∙ by_bytes))
      (subst (λ c. Carried text other marks (MarkedEnd (cond (bytes_eq bs (codes "output_var")) output_var (cond (bytes_eq bs (codes "output_array")) output_array neither))) (MarkedEnd c) (λ a b. a ≡ b)) (sym of_other) same)

  marked_annotation_carried : Carried text other marks (IsMarkedAnnotation text) (IsMarkedAnnotation other) (λ a b. a ≡ b)
  marked_annotation_carried = then_carried text other marks _ (λ t. MarkedEnd (called text t)) _ (λ u. MarkedEnd (called other u)) _ _ (one_carried text other marks kind.Name (λ e. cc)) (λ t u h. marked_end_carried t u h)

  -- annotations that begin with `::` are kept, or the first is left out
  first_note : (ts us : List Token) (t : Token) (middle : List Token) → NotesLeftOut text other marks ts us → IsMark mark.ColonColon ts t middle
      → ((u : Token) × (behind : List Token) × IsMark mark.ColonColon us u behind × NotesLeftOut text other marks middle behind)
      ⊎ ((says : Marked) × (behind : List Token) × IsNote text ts says behind × (marks ≡ true → says ≡ marked.Nothing) × NotesLeftOut text other marks behind us)
  first_note _ _ t middle nothing p = absurd p
  first_note _ _ t middle (kept {u = u} {us = us} alike less) p = inl (u, us, (sym alike.kind ∙ p.0, refl, refl), subst (λ x. NotesLeftOut text other marks x us) (sym p.2) less)
  first_note _ _ t middle (left_out {rest = rest} {says = says} note no_mark less) p = inr (says, rest, note, no_mark, less)

  -- where no `::` came next, none comes
  no_colons : (ts us : List Token) → NotesLeftOut text other marks ts us → Fails (IsMark mark.ColonColon) ts → Fails (IsMark mark.ColonColon) us
  no_colons _ _ nothing fails v rest q = q
  no_colons _ _ (kept {t = t} {ts = ts} alike less) fails v rest q = fails t ts (alike.kind ∙ q.0, refl, refl)
  no_colons _ _ (left_out note no_mark less) fails v rest q = fails note.colons note.inside note.begins

  pub annotations_carried : Carried text other marks (AreAnnotations text) (AreAnnotations other) (λ a b. marks ≡ true → a ≡ b)
  annotations_carried ts us less v rest (none a p) = (v, us, none a (refl, no_colons ts us less p.1), (λ _. refl), subst (λ r. NotesLeftOut text other marks r us) (sym p.0) less)
  annotations_carried ts us less v rest (more t middle next m n b q1 q2 q3) = elim (first_note ts us t middle less q1) [
    | inl f ↦
        let g = marked_annotation_carried middle f.1 f.3 m next q2 in
        let h = annotations_carried next g.1 g.4 n rest q3 in
        (first_mark g.0 h.0, h.1, more f.0 f.1 g.1 g.0 h.0 refl f.2 g.2 h.2, (λ heeded. b ∙ (λ i. first_mark (g.3 i) (h.3 heeded i))), h.4)
    | inr f ↦
        let note = f.2 in
        let begins = one_unique (kind.Mark mark.ColonColon) ts t note.colons middle note.inside q1 note.begins in
        let same = marked_annotation_unique text note.inside m f.0 next f.1 (subst (λ x. IsMarkedAnnotation text x m next) begins.1 q2) note.annotation in
        let h = annotations_carried next us (subst (λ x. NotesLeftOut text other marks x us) (sym same.1) f.4) n rest q3 in
        (h.0, h.1, h.2, (λ heeded. b ∙ ap (λ x. first_mark x n) (same.0 ∙ f.3 heeded) ∙ h.3 heeded), h.4)
  ]
