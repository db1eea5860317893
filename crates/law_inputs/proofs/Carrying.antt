-- What is read of some tokens is read of like ones, also where annotations are left out of them that are no marks.
use Rattle.std.proofs.Common.{◌≡◌, ℕ, Bool, inl, inr, List, [], ◌∷◌, refl, sym, ◌∙◌, subst}
use Rattle.fzn_token.specs.declared.token.Token.{Token}
use Rattle.fzn_token.specs.declared.token.TokenKind.{TokenKind}
use Rattle.fzn_token.specs.declared.token.TokenKind.TheVariants as kind
use Rattle.fzn_token.specs.declared.token.Mark.{Mark}
use Rattle.fzn_token.specs.declared.token.Mark.TheVariants as mark
use Rattle.fzn_item.specs.Productions.{Production, Gives, Nothing, ◌>>=◌, Or, OneOf, IsMark, IsInteger, IsAny, IsNotNext, IsSeparated, last, more, IsListOf, IsAnyList, Fails}
use Rattle.law_inputs.specs.Gapped.{AreAlike}
use Rattle.law_inputs.specs.Ignored.{IsNote, NotesLeftOut, none, kept, left_out}

-- P holds of each two items in turn
abbrev pub Pairwise : {X Y : Type 0} → (X → Y → Type 0) → List X → List Y → Type 0
Pairwise P [] [] = Unit {0}
Pairwise P [] (y ∷ ys) = ⊥
Pairwise P (x ∷ xs) [] = ⊥
Pairwise P (x ∷ xs) (y ∷ ys) = P x y × Pairwise P xs ys

-- where R reads, S reads something like it, and like tokens are left
abbrev pub Carried : {V W : Type 0} → List ℕ → List ℕ → Bool → Production V → Production W → (V → W → Type 0) → Type 0
Carried {V} {W} text other marks R S Q = (ts us : List Token) → NotesLeftOut text other marks ts us → (v : V) (rest : List Token) → R ts v rest → (w : W) × (end : List Token) × S us w end × Q v w × NotesLeftOut text other marks rest end

-- the kind of `::`
abbrev pub colons : TokenKind
colons = kind.Mark mark.ColonColon

-- an annotation begins with `::`
pub note_begins : (text : List ℕ) (all rest : List Token) (says : _) (t : Token) (ts : List Token) → IsNote text all says rest → all ≡ t ∷ ts → t.kind ≡ colons
note_begins text all rest says t ts note is = (subst (λ x. IsMark mark.ColonColon x note.colons note.inside) is note.begins).0

module _ (text other : List ℕ) (marks : Bool) where
  -- another first token than `::` is kept
  pub first_kept : (all : List Token) (t : Token) (ts us : List Token) → NotesLeftOut text other marks all us → all ≡ t ∷ ts → (t.kind ≡ colons → ⊥)
      → (u : Token) × (rest : List Token) × (us ≡ u ∷ rest) × AreAlike text other t u × NotesLeftOut text other marks ts rest
  first_kept _ t ts _ none is differs = absurd cc
  first_kept _ t ts _ (kept {t = t2} {u = u} {ts = ts2} {us = us2} alike less) is differs =
      let same_first : t2 ≡ t = cc in
      let same_rest : ts2 ≡ ts = cc in
      (u, us2, refl, subst (λ x. AreAlike text other x u) same_first alike, subst (λ x. NotesLeftOut text other marks x us2) same_rest less)
  first_kept _ t ts _ (left_out {ts = all} {rest = rest} {says = says} note no_mark less) is differs = absurd (differs (note_begins text all rest says t ts note is))

  -- nothing is left of nothing
  pub none_left : (all us : List Token) → NotesLeftOut text other marks all us → all ≡ [] → us ≡ []
  none_left _ _ none is = refl
  none_left _ _ (kept alike less) is = absurd cc
  none_left _ _ (left_out {ts = all} note no_mark less) is = absurd (subst (λ x. IsMark mark.ColonColon x note.colons note.inside) is note.begins)

  pub gives_carried : {V W : Type 0} (x : V) (y : W) (Q : V → W → Type 0) → Q x y → Carried text other marks (Gives x) (Gives y) Q
  gives_carried x y Q q ts us less v rest p = (y, us, (refl, refl), subst (λ z. Q z y) (sym p.0) q, subst (λ r. NotesLeftOut text other marks r us) (sym p.1) less)

  pub nothing_carried : {V W : Type 0} (Q : V → W → Type 0) → Carried text other marks Nothing Nothing Q
  nothing_carried Q ts us less v rest p = absurd p

  pub then_carried : {A B C D : Type 0} (R : Production A) (S : A → Production C) (R' : Production B) (S' : B → Production D) (Q : A → B → Type 0) (T : C → D → Type 0)
      → Carried text other marks R R' Q → ((a : A) (b : B) → Q a b → Carried text other marks (S a) (S' b) T) → Carried text other marks (R >>= S) (R' >>= S') T
  then_carried R S R' S' Q T first second ts us less v rest p =
      let f = first ts us less p.0 p.1 p.2 in
      let g = second p.0 f.0 f.3 p.1 f.1 f.4 v rest p.3 in
      (g.0, g.1, (f.0, f.1, f.2, g.2), g.3, g.4)

  pub map_carried : {A B C D : Type 0} (R : Production A) (f : A → C) (R' : Production B) (g : B → D) (Q : A → B → Type 0) (T : C → D → Type 0)
      → Carried text other marks R R' Q → ((a : A) (b : B) → Q a b → T (f a) (g b)) → Carried text other marks (R >>= (λ a. Gives (f a))) (R' >>= (λ b. Gives (g b))) T
  map_carried R f R' g Q T first h = then_carried R (λ a. Gives (f a)) R' (λ b. Gives (g b)) Q T first (λ a b q. gives_carried (f a) (g b) T (h a b q))

  pub or_carried : {V W : Type 0} (R S : Production V) (R' S' : Production W) (Q : V → W → Type 0) → Carried text other marks R R' Q → Carried text other marks S S' Q → Carried text other marks (Or R S) (Or R' S') Q
  or_carried R S R' S' Q first second ts us less v rest p = elim p [
    | inl r ↦ let f = first ts us less v rest r in (f.0, f.1, inl f.2, f.3, f.4)
    | inr s ↦ let f = second ts us less v rest s in (f.0, f.1, inr f.2, f.3, f.4)
  ]

  pub one_carried : (k : TokenKind) → (k ≡ colons → ⊥) → Carried text other marks (OneOf k) (OneOf k) (AreAlike text other)
  one_carried k differs [] us less v rest p = absurd p
  one_carried k differs (t ∷ ts) us less v rest p =
      let f = first_kept (t ∷ ts) t ts us less refl (λ e. differs (sym p.0 ∙ e)) in
      (f.0, f.1, subst (λ x. OneOf k x f.0 f.1) (sym f.2) (sym f.3.kind ∙ p.0, refl, refl), subst (λ x. AreAlike text other x f.0) (sym p.1) f.3, subst (λ r. NotesLeftOut text other marks r f.1) (sym p.2) f.4)

  pub integer_carried : Carried text other marks IsInteger IsInteger (λ a b. a ≡ b)
  integer_carried [] us less v rest p = absurd p
  integer_carried (t ∷ ts) us less v rest p =
      let f = first_kept (t ∷ ts) t ts us less refl (λ e. let clash : kind.Whole v ≡ colons = sym p.0 ∙ e in cc) in
      (v, f.1, subst (λ x. IsInteger x v f.1) (sym f.2) (sym f.3.kind ∙ p.0, refl), refl, subst (λ r. NotesLeftOut text other marks r f.1) (sym p.1) f.4)

  -- what follows a first token, where nothing follows `::`
  pub after_first : {A B : Type 0} (F : TokenKind → Token → Production A) (G : TokenKind → Token → Production B) (T : A → B → Type 0) → ((t : Token) (ts : List Token) → Fails (F colons t) ts)
      → (t : Token) (ts us : List Token) → NotesLeftOut text other marks (t ∷ ts) us → ((u : Token) → AreAlike text other t u → Carried text other marks (F t.kind t) (G t.kind u) T)
      → (v : A) (rest : List Token) → (IsAny >>= (λ x. F x.kind x)) (t ∷ ts) v rest
      → (w : B) × (end : List Token) × (IsAny >>= (λ x. G x.kind x)) us w end × T v w × NotesLeftOut text other marks rest end
  after_first F G T ends t ts us less each v rest p =
      let q : F t.kind t ts v rest = subst (λ x. F x.kind x ts v rest) p.2.0 (subst (λ m. F p.0.kind p.0 m v rest) p.2.1 p.3) in
      let f = first_kept (t ∷ ts) t ts us less refl (λ e. ends t ts v rest (subst (λ k. F k t ts v rest) e q)) in
      let g = each f.0 f.3 ts f.1 f.4 v rest q in
      (g.0, g.1, subst (λ x. (IsAny >>= (λ u. G u.kind u)) x g.0 g.1) (sym f.2) (f.0, f.1, (refl, refl), subst (λ k. G k f.0 f.1 g.0 g.1) f.3.kind g.2), g.3, g.4)

  -- the same of any tokens
  pub by_kind : {A B : Type 0} (F : TokenKind → Token → Production A) (G : TokenKind → Token → Production B) (T : A → B → Type 0) → ((k : TokenKind) (t u : Token) → AreAlike text other t u → Carried text other marks (F k t) (G k u) T)
      → ((t : Token) (ts : List Token) → Fails (F colons t) ts) → Carried text other marks (IsAny >>= (λ t. F t.kind t)) (IsAny >>= (λ u. G u.kind u)) T
  by_kind F G T each ends [] us less v rest p = absurd p.2
  by_kind F G T each ends (t ∷ ts) us less v rest p = after_first F G T ends t ts us less (λ u alike. each t.kind t u alike) v rest p

  separated_carried : {V W : Type 0} (R : Production V) (R' : Production W) (close : Mark) → (kind.Mark close ≡ colons → ⊥) → (Q : V → W → Type 0) → Carried text other marks R R' Q → Carried text other marks (IsSeparated R close) (IsSeparated R' close) (Pairwise Q)
  separated_carried R R' close differs Q each ts us less vs rest (last {middle = m} {v = w} t r c) =
      let f = each ts us less w m r in
      let g = one_carried (kind.Mark close) differs m f.1 f.4 t rest c in
      (f.0 ∷ [], g.1, last g.0 f.2 g.2, (f.3, tt), g.4)
  separated_carried R R' close differs Q each ts us less vs rest (more {middle = m} {next = n} {v = w} {vs = ws} t r c s) =
      let f = each ts us less w m r in
      let g = one_carried (kind.Mark mark.Comma) (λ e. cc) m f.1 f.4 t n c in
      let h = separated_carried R R' close differs Q each n g.1 g.4 ws rest s in
      (f.0 ∷ h.0, h.1, more g.0 f.2 g.2 h.2, (f.3, h.3), h.4)

  pub list_carried : {V W : Type 0} (R : Production V) (R' : Production W) (close : Mark) → (kind.Mark close ≡ colons → ⊥) → (Q : V → W → Type 0) → Carried text other marks R R' Q → Carried text other marks (IsListOf R close) (IsListOf R' close) (Pairwise Q)
  list_carried R R' close differs Q each ts us less vs rest p = elim p [
    | inl empty ↦ let g = one_carried (kind.Mark close) differs ts us less empty.1 rest empty.2 in ([], g.1, inl (refl, g.0, g.2), subst (λ xs. Pairwise Q xs []) (sym empty.0) tt, g.4)
    | inr some ↦ let f = separated_carried R R' close differs Q each ts us less vs rest some in (f.0, f.1, inr f.2, f.3, f.4)
  ]

  -- lists of equal values are equal
  pairwise_same : {V : Type 0} (xs ys : List V) → Pairwise (λ a b. a ≡ b) xs ys → xs ≡ ys
  pairwise_same [] [] h = refl
  pairwise_same [] (y ∷ ys) h = absurd h
  pairwise_same (x ∷ xs) [] h = absurd h
  pairwise_same (x ∷ xs) (y ∷ ys) h = let rest = pairwise_same xs ys h.1 in λ i. h.0 i ∷ rest i

  -- a list of values that are the same is the same
  pub values_carried : {V : Type 0} (R : Production V) (close : Mark) → (kind.Mark close ≡ colons → ⊥) → Carried text other marks R R (λ a b. a ≡ b) → Carried text other marks (IsListOf R close) (IsListOf R close) (λ a b. a ≡ b)
  values_carried R close differs each ts us less vs rest p =
      let f = list_carried R R close differs (λ a b. a ≡ b) each ts us less vs rest p in
      (f.0, f.1, f.2, pairwise_same vs f.0 f.3, f.4)

  pub any_list_carried : (R : Production (Unit {0})) (close : Mark) → (kind.Mark close ≡ colons → ⊥) → Carried text other marks R R (λ a b. a ≡ b) → Carried text other marks (IsAnyList R close) (IsAnyList R close) (λ a b. a ≡ b)
  any_list_carried R close differs each ts us less v rest p =
      let f = list_carried R R close differs (λ a b. a ≡ b) each ts us less p.0 rest p.1 in
      (v, f.1, (f.0, f.2), refl, f.4)

  -- a mark that follows no annotation which is left out
  abbrev FollowsNone : Mark → Type 0
  FollowsNone m = (ts rest : List Token) (says : _) → IsNote text ts says rest → Fails (IsMark m) rest

  -- such a mark comes next only where it did before
  still_fails : (m : Mark) → FollowsNone m → (ts us : List Token) → NotesLeftOut text other marks ts us → Fails (IsMark m) ts → Fails (IsMark m) us
  still_fails m follows _ _ none fails v rest q = q
  still_fails m follows _ _ (kept {t = t} {ts = ts} alike less) fails v rest q = fails t ts (alike.kind ∙ q.0, refl, refl)
  still_fails m follows _ _ (left_out {ts = ts} {rest = behind} {us = us} {says = says} note no_mark less) fails v rest q = still_fails m follows behind us less (follows ts behind says note) v rest q

  not_next : (m : Mark) → FollowsNone m → Carried text other marks (IsNotNext m) (IsNotNext m) (λ a b. a ≡ b)
  not_next m follows ts us less v rest p = (v, us, (refl, still_fails m follows ts us less p.1), refl, subst (λ r. NotesLeftOut text other marks r us) (sym p.0) less)

  pub no_paren_carried : Carried text other marks (IsNotNext mark.OpenParen) (IsNotNext mark.OpenParen) (λ a b. a ≡ b)
  no_paren_carried = not_next mark.OpenParen (λ ts rest says note. note.no_paren)

  pub no_dots_carried : Carried text other marks (IsNotNext mark.DotDot) (IsNotNext mark.DotDot) (λ a b. a ≡ b)
  no_dots_carried = not_next mark.DotDot (λ ts rest says note. note.no_dots)
