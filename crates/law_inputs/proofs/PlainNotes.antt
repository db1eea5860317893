-- Annotations are the same by both grammars, with their marks.
use Rattle.std.proofs.Common.{◌≡◌, ℕ, zero, suc, ◌<◌, ℤ, Bool, true, false, cond, List, [], ◌∷◌, length, sym, ◌∙◌, ap, subst, ⊎_elim, inl, inr, refl, arith}
use Rattle.std.specs.Prelude.{◌||◌, nat_lt, slice_range, codes}
use Rattle.std.specs.Str.{bytes_eq}
use Rattle.std.proofs.lemmas.Bool.{cases_Bool}
use Rattle.std.proofs.lemmas.Slice.Eq.{bytes_eq-Decides}
use Rattle.fzn_token.specs.declared.token.Token.{Token}
use Rattle.fzn_token.specs.declared.token.TokenKind.{TokenKind}
use Rattle.fzn_token.specs.declared.token.TokenKind.TheVariants as kind
use Rattle.fzn_token.specs.declared.token.Mark.{Mark}
use Rattle.fzn_token.specs.declared.token.Mark.TheVariants as mark
use Rattle.fzn_token.specs.declared.token.Word.TheVariants as word
use Rattle.fzn_item.specs.declared.item.Marked.{Marked}
use Rattle.fzn_item.specs.Productions.{Production, Gives, ◌>>=◌, IsMark, IsName, IsAny, IsSeparated, last, more as one_more, IsListOf, IsAnyList, Fails}
use Rattle.fzn_item.specs.Annotations.{Arguments, NumberAfter, IsNumber, InnerAfter, IsInner}
use Rattle.fzn_item.specs.Marks.{called, first_mark, IsRange, IsRangeArgument, IsOtherArgument, MarkedEnd, IsMarkedAnnotation, AreAnnotations, none as no_note, more as one_note}
use Rattle.fzn_item.proofs.MarkLaws.{inside_unique}
use Rattle.fzn_scope.specs.Names.{bytes_at}
use Rattle.law_inputs.proofs.TokenKinds.{bytes_or_not}
use Rattle.law_inputs.specs.PlainGrammar.{IsRow, none, more, PlainNumber, PlainInnerOf, PlainInner, PlainArguments, PlainAnnotation, PlainNote, first_said, PlainAnnotations}
use Rattle.law_inputs.proofs.PlainForms.{Ends, Completes, Includes, one_ends, same, either, one_first, one_completes, integer_first, any_list_maps, whatever_follows, by_kind}

-- ---- annotation expressions

number_completes : Completes PlainNumber IsNumber
number_completes = either _ _ _
    (λ ts v rest p e. integer_first (λ k _. NumberAfter k) ts p.0 p.1 v rest p.2 (λ t us at. p.3))
    (one_completes (λ k _. NumberAfter k) kind.Float _ (λ t. same _))

number_after : (k : TokenKind) (t : Token) (ts : List Token) (v : Unit {0}) (rest : List Token) → t.kind ≡ k → NumberAfter k ts v rest → PlainNumber (t ∷ ts) v rest
number_after (kind.Whole z) t ts v rest e p = inl (z, ts, (e, refl), p)
number_after kind.Float t ts v rest e p = inr (t, ts, (e, refl, refl), p)
number_after _ t ts v rest e p = absurd p

number_included : Includes IsNumber PlainNumber
number_included = by_kind (λ k _. NumberAfter k) PlainNumber number_after

module _ (P R : Production (Unit {0})) (each : Completes P R) where
  name_completes : (ts : List Token) (v : Unit {0}) (rest : List Token) → (IsName >>= (λ _. Gives tt)) ts v rest → Ends rest → (IsAny >>= (λ first. InnerAfter R first.kind)) ts v rest
  name_completes ts v rest p e = one_first (λ k _. InnerAfter R k) kind.Name ts p.0 p.1 v rest p.2 (inr (p.3.1, (subst (λ r. Ends r) p.3.1 e).paren))

  inner_of_completes : Completes (PlainInnerOf P) (IsAny >>= (λ first. InnerAfter R first.kind))
  inner_of_completes =
      either _ _ _ name_completes (
      either _ _ _ (λ ts v rest p e. one_first (λ k _. InnerAfter R k) kind.Name ts p.0 p.1 v rest p.2 (inl (p.3.0, p.3.1, p.3.2, any_list_maps P R mark.CloseParen (λ e. cc) (λ e. cc) each p.3.1 v rest p.3.3))) (
      either _ _ _ (one_completes (λ k _. InnerAfter R k) (kind.Word word.True) _ (λ t. same _)) (
      either _ _ _ (one_completes (λ k _. InnerAfter R k) (kind.Word word.False) _ (λ t. same _)) (
      either _ _ _ (λ ts v rest p e. integer_first (λ k _. InnerAfter R k) ts p.0 p.1 v rest p.2 (λ t us at. inr (p.3.1, (subst (λ r. Ends r) p.3.1 e).dots))) (
      either _ _ _ (λ ts v rest p e. one_first (λ k _. InnerAfter R k) kind.Float ts p.0 p.1 v rest p.2 (inr (p.3.1, (subst (λ r. Ends r) p.3.1 e).dots))) (
      either _ _ _ (one_completes (λ k _. InnerAfter R k) kind.Text _ (λ t. same _)) (
      either _ _ _ (λ ts v rest p e. let r = p.2 in integer_first (λ k _. InnerAfter R k) ts r.0 r.1 v rest r.2 (λ t us at. inl (r.3.0, r.3.1, r.3.2, (r.3.3.0, r.3.3.1, r.3.3.2, (p.3.0, p.3.1 ∙ r.3.3.3.1))))) (
      either _ _ _ (λ ts v rest p e. let r = p.2 in one_first (λ k _. InnerAfter R k) kind.Float ts r.0 r.1 v rest r.2 (inl (r.3.0, r.3.1, r.3.2, (p.0, p.1, r.3.3, p.3)))) (
      either _ _ _ (λ ts v rest p e. one_first (λ k _. InnerAfter R k) (kind.Mark mark.OpenBrace) ts p.0 p.1 v rest p.2 (any_list_maps PlainNumber IsNumber mark.CloseBrace (λ e. cc) (λ e. cc) number_completes p.1 v rest p.3))
      (λ ts v rest p e. one_first (λ k _. InnerAfter R k) (kind.Mark mark.OpenBracket) ts p.0 p.1 v rest p.2 (any_list_maps P R mark.CloseBracket (λ e. cc) (λ e. cc) each p.1 v rest p.3)))))))))))

inner_completes : (d : ℕ) → Completes (PlainInner d) (IsInner d)
unfolding IsInner PlainInner
inner_completes zero = λ ts v rest p e. p
inner_completes (suc d) = inner_of_completes (PlainInner d) (IsInner d) (inner_completes d)

module _ (R P : Production (Unit {0})) (each : Includes R P) where
  inner_after : (k : TokenKind) (t : Token) (ts : List Token) (v : Unit {0}) (rest : List Token) → t.kind ≡ k → InnerAfter R k ts v rest → PlainInnerOf P (t ∷ ts) v rest
  inner_after kind.Name t ts v rest e p = ⊎_elim
      (λ call. inr (inl (t, ts, (e, refl, refl), (call.0, call.1, call.2, any_list_maps R P mark.CloseParen (λ e. cc) (λ e. cc) (whatever_follows R P each) call.1 v rest call.3))))
      (λ plain. inl (t, ts, (e, refl, refl), (refl, plain.0)))
      p
  inner_after (kind.Word word.True) t ts v rest e p = inr (inr (inl (t, ts, (e, refl, refl), p)))
  inner_after (kind.Word word.False) t ts v rest e p = inr (inr (inr (inl (t, ts, (e, refl, refl), p))))
  inner_after (kind.Whole z) t ts v rest e p = ⊎_elim
      (λ range. inr (inr (inr (inr (inr (inr (inr (inl ((z, range.3.0), range.3.1, (z, ts, (e, refl), (range.0, range.1, range.2, (range.3.0, range.3.1, range.3.2, (refl, refl)))), range.3.3)))))))))
      (λ plain. inr (inr (inr (inr (inl (z, ts, (e, refl), (refl, plain.0)))))))
      p
  inner_after kind.Float t ts v rest e p = ⊎_elim
      (λ range. inr (inr (inr (inr (inr (inr (inr (inr (inl (range.3.0, range.3.1, (t, ts, (e, refl, refl), (range.0, range.1, range.2, range.3.2)), range.3.3))))))))))
      (λ plain. inr (inr (inr (inr (inr (inl (t, ts, (e, refl, refl), (refl, plain.0))))))))
      p
  inner_after kind.Text t ts v rest e p = inr (inr (inr (inr (inr (inr (inl (t, ts, (e, refl, refl), p)))))))
  inner_after (kind.Mark mark.OpenBrace) t ts v rest e p =
      inr (inr (inr (inr (inr (inr (inr (inr (inr (inl (t, ts, (e, refl, refl), any_list_maps IsNumber PlainNumber mark.CloseBrace (λ e. cc) (λ e. cc) (whatever_follows IsNumber PlainNumber number_included) ts v rest p))))))))))
  inner_after (kind.Mark mark.OpenBracket) t ts v rest e p =
      inr (inr (inr (inr (inr (inr (inr (inr (inr (inr (t, ts, (e, refl, refl), any_list_maps R P mark.CloseBracket (λ e. cc) (λ e. cc) (whatever_follows R P each) ts v rest p))))))))))
  inner_after _ t ts v rest e p = absurd p

inner_included : (d : ℕ) → Includes (IsInner d) (PlainInner d)
unfolding IsInner PlainInner
inner_included zero = λ ts v rest p. p
inner_included (suc d) = by_kind (λ k _. InnerAfter (IsInner d) k) (PlainInnerOf (PlainInner d)) (inner_after (IsInner d) (PlainInner d) (inner_included d))

arguments_complete : Completes PlainArguments (Arguments (IsInner 199))
arguments_complete ts v rest p e = ⊎_elim
    (λ call. inl (call.0, call.1, call.2, any_list_maps (PlainInner 199) (IsInner 199) mark.CloseParen (λ e. cc) (λ e. cc) (inner_completes 199) call.1 v rest call.3))
    (λ nothing. inr (nothing.1, (subst (λ r. Ends r) nothing.1 e).paren))
    p

arguments_included : Includes (Arguments (IsInner 199)) PlainArguments
arguments_included ts v rest p = ⊎_elim
    (λ call. inl (call.0, call.1, call.2, any_list_maps (IsInner 199) (PlainInner 199) mark.CloseParen (λ e. cc) (λ e. cc) (whatever_follows (IsInner 199) (PlainInner 199) (inner_included 199)) call.1 v rest call.3))
    (λ plain. inr (refl, plain.0))
    p

-- ---- lists of ranges are annotation expressions

range_is_inner : (d : ℕ) (ts : List Token) (r : ℤ × ℤ) (rest : List Token) → IsRange ts r rest → IsInner (suc d) ts tt rest
unfolding IsInner
range_is_inner d ts r rest p = integer_first (λ k _. InnerAfter (IsInner d) k) ts p.0 p.1 tt rest p.2 (λ t us at. inl (p.3.0, p.3.1, p.3.2, (p.3.3.0, p.3.3.1, p.3.3.2, (refl, p.3.3.3.1))))

ranges_are_inner : (d : ℕ) (close : Mark) (ts : List Token) (rs : List (ℤ × ℤ)) (rest : List Token) → IsSeparated IsRange close ts rs rest → (vs : List (Unit {0})) × IsSeparated (IsInner (suc d)) close ts vs rest
ranges_are_inner d close ts rs rest (last {middle = m} {v = r} t a b) = (tt ∷ [], last t (range_is_inner d ts r m a) b)
ranges_are_inner d close ts rs rest (one_more {middle = m} {next = n} {v = r} {vs = others} t a b c) =
    let tail = ranges_are_inner d close n others rest c in
    (tt ∷ tail.0, one_more t (range_is_inner d ts r m a) b tail.1)

list_is_inner : (d : ℕ) (ts : List Token) (rs : List (ℤ × ℤ)) (rest : List Token) → IsListOf IsRange mark.CloseBracket ts rs rest → IsAnyList (IsInner (suc d)) mark.CloseBracket ts tt rest
list_is_inner d ts rs rest p = ⊎_elim
    (λ empty. ([], inl (refl, empty.1, empty.2)))
    (λ some. let all = ranges_are_inner d mark.CloseBracket ts rs rest some in (all.0, inr all.1))
    p

bracket_is_inner : (d : ℕ) (ts : List Token) (t : Token) (middle : List Token) (rs : List (ℤ × ℤ)) (rest : List Token) → IsMark mark.OpenBracket ts t middle → IsListOf IsRange mark.CloseBracket middle rs rest → IsInner (suc (suc d)) ts tt rest
unfolding IsInner
bracket_is_inner d ts t middle rs rest bracket list = one_first (λ k _. InnerAfter (IsInner (suc d)) k) (kind.Mark mark.OpenBracket) ts t middle tt rest bracket (list_is_inner d middle rs rest list)

ranges_are_arguments : (ts : List Token) (rs : List (ℤ × ℤ)) (rest : List Token) → IsRangeArgument ts rs rest → Arguments (IsInner 199) ts tt rest
ranges_are_arguments ts rs rest p =
    let list = p.3.3 in
    let close = list.3 in
    let inside : IsInner 199 p.1 tt list.1 = bracket_is_inner 197 p.1 p.3.0 p.3.1 list.0 list.1 p.3.2 list.2 in
    let ended : IsMark mark.CloseParen list.1 close.0 rest = subst (λ r. IsMark mark.CloseParen list.1 close.0 r) (sym close.3.1) close.2 in
    inl (p.0, p.1, p.2, (tt ∷ [], inr (last close.0 inside ended)))

-- ---- marks

other_completes : Completes (λ ts v rest. PlainArguments ts v rest × ((ranges : List (ℤ × ℤ)) → IsRangeArgument ts ranges rest → ⊥)) IsOtherArgument
other_completes ts v rest p e =
    let arguments = arguments_complete ts v rest p.0 e in
    (λ rs end q. p.1 rs (subst (λ r. IsRangeArgument ts rs r) (inside_unique ts tt v end rest (ranges_are_arguments ts rs end q) arguments).1 q), arguments)

-- ---- names

-- names that are written as those that mark what is printed, and as no such name
abbrev var_token : Token
var_token = record { kind = kind.Name; from = 0; to = 10 }

abbrev array_token : Token
array_token = record { kind = kind.Name; from = 0; to = 12 }

abbrev other_token : Token
other_token = record { kind = kind.Name; from = 0; to = 0 }

-- whether a token does not lie in the text
abbrev is_outside : List ℕ → Token → Bool
is_outside text t = nat_lt t.to t.from || nat_lt (length text) t.to

-- bytes that are some lie in the text
inside : (o : Bool) (bs name : List ℕ) → 0 < length name → cond o [] bs ≡ name → (o ≡ false) × (bs ≡ name)
inside true bs name some h = absurd (let e : 0 ≡ length name = ap (λ (xs : List ℕ). length xs) h in omega (arith, some, e))
inside false bs name some h = (refl, h)

first_chosen : {C : Type 0} (o b c : Bool) (x y z : C) → o ≡ false → b ≡ true → cond o z (cond b x (cond c y z)) ≡ x
first_chosen o b c x y z e f = ap (λ k. cond k z (cond b x (cond c y z))) e ∙ ap (λ k. cond k x (cond c y z)) f

second_chosen : {C : Type 0} (o b c : Bool) (x y z : C) → o ≡ false → b ≡ false → c ≡ true → cond o z (cond b x (cond c y z)) ≡ y
second_chosen o b c x y z e f g = ap (λ k. cond k z (cond b x (cond c y z))) e ∙ (ap (λ k. cond k x (cond c y z)) f ∙ ap (λ k. cond k y z) g)

third_chosen : {C : Type 0} (o b c : Bool) (x y z : C) → (o ≡ false → (b ≡ false) × (c ≡ false)) → cond o z (cond b x (cond c y z)) ≡ z
third_chosen true b c x y z f = refl
third_chosen false b c x y z f = ap (λ k. cond k x (cond c y z)) (f refl).0 ∙ ap (λ k. cond k y z) (f refl).1

-- bytes that differ
differ : (xs ys : List ℕ) → (xs ≡ ys → ⊥) → bytes_eq xs ys ≡ false
differ xs ys h = elim (cases_Bool (bytes_eq xs ys)) [ inl same ↦ absurd (h ((bytes_eq-Decides xs ys).0 same)) | inr other ↦ other ]

called_var : (text : List ℕ) (t : Token) → bytes_at text t.from t.to ≡ codes "output_var" → called text t ≡ called (codes "output_var") var_token
called_var text t h =
    let i = inside (is_outside text t) (slice_range text t.from t.to) (codes "output_var") (omega arith) h in
    first_chosen (is_outside text t) (bytes_eq (slice_range text t.from t.to) (codes "output_var")) (bytes_eq (slice_range text t.from t.to) (codes "output_array"))
    (called (codes "output_var") var_token) (called (codes "output_array") array_token) (called [] other_token) i.0 ((bytes_eq-Decides (slice_range text t.from t.to) (codes "output_var")).1 i.1)

called_array : (text : List ℕ) (t : Token) → bytes_at text t.from t.to ≡ codes "output_array" → called text t ≡ called (codes "output_array") array_token
called_array text t h =
    let i = inside (is_outside text t) (slice_range text t.from t.to) (codes "output_array") (omega arith) h in
    let other : bytes_eq (slice_range text t.from t.to) (codes "output_var") ≡ false = ap (λ bs. bytes_eq bs (codes "output_var")) i.1 in
    second_chosen (is_outside text t) (bytes_eq (slice_range text t.from t.to) (codes "output_var")) (bytes_eq (slice_range text t.from t.to) (codes "output_array"))
    (called (codes "output_var") var_token) (called (codes "output_array") array_token) (called [] other_token) i.0 other ((bytes_eq-Decides (slice_range text t.from t.to) (codes "output_array")).1 i.1)

called_other : (text : List ℕ) (t : Token) → (bytes_at text t.from t.to ≡ codes "output_var" → ⊥) → (bytes_at text t.from t.to ≡ codes "output_array" → ⊥) → called text t ≡ called [] other_token
called_other text t no_var no_array =
    let slice = slice_range text t.from t.to in
    third_chosen (is_outside text t) (bytes_eq slice (codes "output_var")) (bytes_eq slice (codes "output_array"))
    (called (codes "output_var") var_token) (called (codes "output_array") array_token) (called [] other_token)
    (λ e. let here : bytes_at text t.from t.to ≡ slice = ap (λ k. cond k [] slice) e in
    (differ slice (codes "output_var") (λ same. no_var (here ∙ same)), differ slice (codes "output_array") (λ same. no_array (here ∙ same))))

module _ (text : List ℕ) where
  -- an annotation with this name
  named : (ts : List Token) (t : Token) (c : _) (middle : List Token) (v : Marked) (rest : List Token) → IsName ts t middle → called text t ≡ c → MarkedEnd c middle v rest → IsMarkedAnnotation text ts v rest
  named ts t c middle v rest h e p = (t, middle, h, subst (λ x. MarkedEnd x middle v rest) (sym e) p)

  annotation_completes : Completes (PlainAnnotation text) (IsMarkedAnnotation text)
  annotation_completes =
      either _ _ _ (λ ts v rest p e. named ts p.0 (called (codes "output_var") var_token) p.1 v rest p.2.0 (called_var text p.0 p.2.1) (inr (tt, p.1, (refl, (subst (λ r. Ends r) p.3.1 e).paren), p.3))) (
      either _ _ _ (λ ts v rest p e. let a = p.2 in named ts a.0 (called (codes "output_var") var_token) a.1 v rest a.2.0 (called_var text a.0 a.2.1) (inl (a.3.0, a.3.1, a.3.2, (p.0, p.1, any_list_maps (PlainInner 199) (IsInner 199) mark.CloseParen (λ e. cc) (λ e. cc) (inner_completes 199) a.3.1 p.0 p.1 a.3.3, p.3)))) (
      either _ _ _ (λ ts v rest p e. named ts p.0 (called (codes "output_array") array_token) p.1 v rest p.2.0 (called_array text p.0 p.2.1) (inl p.3)) (
      either _ _ _ (λ ts v rest p e. let a = p.2 in named ts a.0 (called (codes "output_array") array_token) a.1 v rest a.2.0 (called_array text a.0 a.2.1) (inr (p.0, p.1, other_completes a.1 p.0 p.1 a.3 (subst (λ r. Ends r) p.3.1 e), p.3)))
      (λ ts v rest p e. let a = p.2 in named ts a.0 (called [] other_token) a.1 v rest a.2.0 (called_other text a.0 a.2.1 a.2.2) (p.0, p.1, arguments_complete a.1 p.0 p.1 a.3 (subst (λ r. Ends r) p.3.1 e), p.3)))))

  var_included : (ts : List Token) (t : Token) (middle : List Token) (v : Marked) (rest : List Token) → IsName ts t middle → bytes_at text t.from t.to ≡ codes "output_var" → MarkedEnd (called (codes "output_var") var_token) middle v rest → PlainAnnotation text ts v rest
  var_included ts t middle v rest h e p = ⊎_elim
      (λ call. inr (inl (call.3.0, call.3.1, (t, middle, (h, e), (call.0, call.1, call.2, any_list_maps (IsInner 199) (PlainInner 199) mark.CloseParen (λ e. cc) (λ e. cc) (whatever_follows (IsInner 199) (PlainInner 199) (inner_included 199)) call.1 call.3.0 call.3.1 call.3.2)), call.3.3)))
      (λ plain. inl (t, middle, (h, e), (plain.3.0, plain.3.1 ∙ plain.2.0)))
      p

  array_included : (ts : List Token) (t : Token) (middle : List Token) (v : Marked) (rest : List Token) → IsName ts t middle → bytes_at text t.from t.to ≡ codes "output_array" → MarkedEnd (called (codes "output_array") array_token) middle v rest → PlainAnnotation text ts v rest
  array_included ts t middle v rest h e p = ⊎_elim
      (λ ranges. inr (inr (inl (t, middle, (h, e), ranges))))
      (λ other. inr (inr (inr (inl (other.0, other.1, (t, middle, (h, e), (arguments_included middle other.0 other.1 other.2.1, λ rs q. other.2.0 rs other.1 q)), other.3)))))
      p

  other_included : (ts : List Token) (t : Token) (middle : List Token) (v : Marked) (rest : List Token) → IsName ts t middle → (bytes_at text t.from t.to ≡ codes "output_var" → ⊥) → (bytes_at text t.from t.to ≡ codes "output_array" → ⊥) → MarkedEnd (called [] other_token) middle v rest → PlainAnnotation text ts v rest
  other_included ts t middle v rest h no_var no_array p = inr (inr (inr (inr (p.0, p.1, (t, middle, (h, no_var, no_array), arguments_included middle p.0 p.1 p.2), p.3))))

  annotation_included : Includes (IsMarkedAnnotation text) (PlainAnnotation text)
  annotation_included ts v rest p =
      let written = bytes_at text p.0.from p.0.to in
      elim (bytes_or_not written (codes "output_var")) [
        | inl is_var ↦ var_included ts p.0 p.1 v rest p.2 is_var (subst (λ c. MarkedEnd c p.1 v rest) (called_var text p.0 is_var) p.3)
        | inr no_var ↦ elim (bytes_or_not written (codes "output_array")) [
          | inl is_array ↦ array_included ts p.0 p.1 v rest p.2 is_array (subst (λ c. MarkedEnd c p.1 v rest) (called_array text p.0 is_array) p.3)
          | inr no_array ↦ other_included ts p.0 p.1 v rest p.2 no_var no_array (subst (λ c. MarkedEnd c p.1 v rest) (called_other text p.0 no_var no_array) p.3)
        ]
      ]

  -- ---- annotations in a row

  notes_end : (ts : List Token) (ms : List Marked) (rest : List Token) → IsRow (PlainNote text) ts ms rest → Ends rest → Ends ts
  notes_end ts ms rest (none at) e = subst (λ r. Ends r) at e
  notes_end ts ms rest (more a b) e = one_ends (kind.Mark mark.ColonColon) (λ e. cc) (λ e. cc) ts a.0 a.1 a.2

  notes_complete : (ts : List Token) (ms : List Marked) (rest : List Token) → IsRow (PlainNote text) ts ms rest → Ends rest → Fails (IsMark mark.ColonColon) rest → AreAnnotations text ts (first_said ms) rest
  notes_complete ts ms rest (none at) e no_more = no_note refl (at, subst (λ r. Fails (IsMark mark.ColonColon) r) at no_more)
  notes_complete ts ms rest (more {middle = middle} {v = m} {vs = others} a b) e no_more =
      one_note a.0 a.1 middle m (first_said others) refl a.2 (annotation_completes a.1 m middle a.3 (notes_end middle others rest b e)) (notes_complete middle others rest b e no_more)

  pub annotations_complete : (ts : List Token) (v : Marked) (rest : List Token) → PlainAnnotations text ts v rest → Ends rest → Fails (IsMark mark.ColonColon) rest → AreAnnotations text ts v rest
  annotations_complete ts v rest p e no_more =
      let end = p.3.1 in
      subst (λ r. AreAnnotations text ts v r) (sym end) (subst (λ m. AreAnnotations text ts m p.1) (sym p.3.0) (notes_complete ts p.0 p.1 p.2 (subst (λ r. Ends r) end e) (subst (λ r. Fails (IsMark mark.ColonColon) r) end no_more)))

  pub annotations_included : Includes (AreAnnotations text) (PlainAnnotations text)
  annotations_included ts v rest (no_note a p) = ([], ts, none refl, (a, p.0))
  annotations_included ts v rest (one_note t middle next m n a p q r) =
      let others = annotations_included next n rest r in
      (m ∷ others.0, others.1, more (t, middle, p, annotation_included middle m next q) others.2, (a ∙ ap (first_mark m) others.3.0, others.3.1))
