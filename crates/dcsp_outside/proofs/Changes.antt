-- How changes of a folder or of a sink add up over several calls.
use Rattle.std.proofs.Common.{◌≡◌, ℕ, zero, suc, ◌≤◌, List, ◌++◌, Option, Some, None, refl, sym, ap, subst, ◌∙◌, append_assoc, arith}
use Rattle.std.proofs.Common.{[], ◌∷◌, take, drop, inl, inr}
use Rattle.dcsp_outside.specs.Outside.{Rose, Told, ChangesName, AddsPartOf, AppendsPartOf, AppendsExactly, IsPrefixOf}

-- what is told of two changes, one after the other
pub Told-trans : {A : Type 0} (P Q R : A → A → Type 0) → ((x y z : A) → P x y → Q y z → R x z) → (a b c : Option A) → Told a b P → Told b c Q → Told a c R
Told-trans P Q R join (Some a) (Some b) (Some c) p q = join a b c p q
Told-trans P Q R join (Some a) (Some b) None p q = q
Told-trans P Q R join (Some a) None c p q = absurd p
Told-trans P Q R join None (Some b) c p q = absurd p
Told-trans P Q R join None None (Some c) p q = q
Told-trans P Q R join None None None p q = tt

-- what follows from what is told
pub Told-weaker : {A : Type 0} (P R : A → A → Type 0) → ((x y : A) → P x y → R x y) → (a b : Option A) → Told a b P → Told a b R
Told-weaker P R to (Some a) (Some b) p = to a b p
Told-weaker P R to (Some a) None p = p
Told-weaker P R to None (Some b) p = p
Told-weaker P R to None None p = tt

told_same : {A : Type 0} (P : A → A → Type 0) → ((x : A) → P x x) → (a : Option A) → Told a a P
told_same P stays (Some a) = stays a
told_same P stays None = tt

-- contents that stay as they are
pub Told-same : {A : Type 0} (P : A → A → Type 0) → ((x : A) → P x x) → (a b : Option A) → b ≡ a → Told a b P
Told-same P stays a b same = subst (λ c. Told a c P) (sym same) (told_same P stays a)

module _ (name : List ℕ) where
  -- two changes of one name, one after the other
  pub ChangesName-trans : (P Q R : Option (List ℕ) → Option (List ℕ) → Type 0) → ((x y z : Option (List ℕ)) → P x y → Q y z → R x z) → (f g h : List ℕ → Option (List ℕ)) → ChangesName name P f g → ChangesName name Q g h → ChangesName name R f h
  ChangesName-trans P Q R join f g h p q = record {
    this = join (f name) (g name) (h name) p.this q.this;
    others = λ other ne. q.others other ne ∙ p.others other ne;
  }

  -- what follows from a change of one name
  pub ChangesName-weaker : (P R : Option (List ℕ) → Option (List ℕ) → Type 0) → ((x y : Option (List ℕ)) → P x y → R x y) → (f g : List ℕ → Option (List ℕ)) → ChangesName name P f g → ChangesName name R f g
  ChangesName-weaker P R to f g p = record { this = to (f name) (g name) p.this; others = p.others }

  -- files that stay as they are
  pub ChangesName-same : (P : Option (List ℕ) → Option (List ℕ) → Type 0) → ((x : Option (List ℕ)) → P x x) → (f : List ℕ → Option (List ℕ)) → ChangesName name P f f
  ChangesName-same P stays f = record { this = stays (f name); others = λ other ne. refl }

part_of : (before part rest piece after whole : List ℕ) → part ++ rest ≡ piece → (before ++ piece) ++ after ≡ whole → (before ++ part) ++ (rest ++ after) ≡ whole
part_of before part rest piece after whole e f = simp append_assoc (ap (λ l. before ++ l) (sym (append_assoc part rest after) ∙ ap (λ l. l ++ after) e) ∙ sym (append_assoc before piece after) ∙ f)

-- a part of a piece that follows what went before is a part of the whole
pub AddsPartOf-after : (before piece after whole old mid new : List ℕ) → (before ++ piece) ++ after ≡ whole → mid ≡ old ++ before → AddsPartOf piece mid new → AddsPartOf whole old new
AddsPartOf-after before piece after whole old mid new e m p =
    (before ++ p.0, (p.1.0 ++ after, part_of before p.0 p.1.0 piece after whole p.1.1 e), p.2 ∙ ap (λ l. l ++ p.0) m ∙ append_assoc old before p.0)

-- a count that rose and then did not fall
pub Rose-then : (a b c : ℕ) → Rose a b → b ≤ c → Rose a c
Rose-then a b c rose stays = omega (arith, rose, stays)

-- a count that did not fall and then rose
pub Rose-after : (a b c : ℕ) → a ≤ b → Rose b c → Rose a c
Rose-after a b c stays rose = omega (arith, stays, rose)

take_drop : (count : ℕ) (piece : List ℕ) → take count piece ++ drop count piece ≡ piece
take_drop zero piece = refl
take_drop (suc count) [] = refl
take_drop (suc count) (b ∷ piece) = ap (λ l. b ∷ l) (take_drop count piece)

-- first bytes of a piece are a part of it
pub first_part : (count : ℕ) (piece : List ℕ) → IsPrefixOf (take count piece) piece
first_part count piece = (drop count piece, take_drop count piece)

-- first bytes of a piece that went last in a sink
pub adds_part : (count : ℕ) (piece old new : List ℕ) → new ≡ old ++ take count piece → AddsPartOf piece old new
adds_part count piece old new e = (take count piece, first_part count piece, e)

appends_part : (part piece : List ℕ) → IsPrefixOf part piece → (old new : Option (List ℕ)) → AppendsExactly part old new → AppendsPartOf piece old new
appends_part [] piece is old new same = inl same
appends_part (b ∷ part) piece is old new went = inr (b ∷ part, is, went)

-- first bytes of a piece that went last in a file
pub changes_part : (name : List ℕ) (count : ℕ) (piece : List ℕ) (f g : List ℕ → Option (List ℕ)) → ChangesName name (AppendsExactly (take count piece)) f g → ChangesName name (AppendsPartOf piece) f g
changes_part name count piece f g changes = ChangesName-weaker name _ _ (appends_part _ piece (first_part count piece)) f g changes
