-- The first refusal, by the items in order.
use Rattle.std.proofs.Common.{◌≡◌, ℕ, ◌⊎◌, inl, inr, Bool, true, false, List, [], ◌∷◌, ◌++◌, Result, Ok, Err, refl, ap}
use Rattle.fzn_item.specs.declared.item.Item.{Item}
use Rattle.fzn_token.specs.declared.refusal.Refusal.{Refusal}
use Rattle.fzn_token.specs.declared.refusal.Refusal.TheVariants as refusal
use Rattle.fzn_scope.specs.Checks.{◌>>=◌}
use Rattle.fzn_model.specs.Declarations.{SoFar}
use Rattle.fzn_model.specs.Items.{start, after, after_all, finished, resolved}
use Rattle.fzn_model.specs.Laws.{RefusesFirst}

-- a check that failed, or the next that did
bind_err : {A B : Type 0} (x : Result A Refusal) (f : A → Result B Refusal) (r : Refusal) → (x >>= f) ≡ Err r → (x ≡ Err r) ⊎ ((a : A) × (x ≡ Ok a) × (f a ≡ Err r))
bind_err (Ok a) f r e = inr (a, refl, e)
bind_err (Err q) f r e = inl cc

-- the first of these items that is refused, after some before
pub record IsRefusedFrom (text : List ℕ) (s : SoFar) (items : List Item) (r : Refusal) : Type 0 where
  pub before : List Item
  pub item : Item
  pub rest : List Item
  pub reached : SoFar
  pub parts : items ≡ before ++ item ∷ rest
  pub resolved : after_all text s before ≡ Ok reached
  pub refused : after text reached item ≡ Err r

-- a refusal of some items is that of one of them
refused_from : (text : List ℕ) (s : SoFar) (items : List Item) (r : Refusal) → after_all text s items ≡ Err r → IsRefusedFrom text s items r
refused_from text s [] r e = absurd cc
refused_from text s (i ∷ rest) r e =
    elim (bind_err (after text s i) (λ next. after_all text next rest) r e) [
      | inl h ↦ record { before = []; item = i; rest = rest; reached = s; parts = refl; resolved = refl; refused = h }
      | inr h ↦
          let more = refused_from text h.0 rest r h.2 in
          record { before = i ∷ more.before; item = more.item; rest = more.rest; reached = more.reached; parts = ap (λ (is : List Item). i ∷ is) more.parts; resolved = rw h.1 more.resolved; refused = more.refused }
    ]

-- there is no solve item
unsolved : (s : SoFar) (b : Bool) (r : Refusal) → s.solved ≡ b → finished s ≡ Err r → (s.solved ≡ false) × (r ≡ refusal.NoSolve)
unsolved s true r is e = absurd (let f : finished s ≡ Ok s.problem = rw is refl in cc)
unsolved s false r is e = (is, (let f : finished s ≡ Err refusal.NoSolve = rw is refl in cc))

pub refuses_first : RefusesFirst
unfolding resolved
refuses_first text items r e =
    elim (bind_err (after_all text start items) finished r e) [
      | inl h ↦
          let f = refused_from text start items r h in
          inl (record { before = f.before; item = f.item; rest = f.rest; reached = f.reached; parts = f.parts; resolved = f.resolved; refused = f.refused })
      | inr h ↦
          let u = unsolved h.0 h.0.solved r refl h.2 in
          inr (record { reached = h.0; resolved = h.1; unsolved = u.0; refused = u.1 })
    ]
