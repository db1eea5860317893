-- The refusal of items is that of the first item that is refused, or there is no solve item.
use Rattle.std.specs.Prelude.{◌≡◌, ℕ, ◌⊎◌, false, List, ◌∷◌, ◌++◌, Ok, Err}
use Rattle.fzn_item.specs.declared.item.Item.{Item}
use Rattle.fzn_token.specs.declared.refusal.Refusal.{Refusal}
use Rattle.fzn_token.specs.declared.refusal.Refusal.TheVariants as refusal
use Rattle.fzn_model.specs.Declarations.{SoFar}
use Rattle.fzn_model.specs.Items.{start, after, after_all, resolved}

-- the items before this one are resolved, and this one is refused
pub record IsFirstRefused (text : List ℕ) (items : List Item) (r : Refusal) : Type 0 where
  pub before : List Item
  pub item : Item
  pub rest : List Item
  pub reached : SoFar
  pub parts : items ≡ before ++ item ∷ rest
  pub resolved : after_all text start before ≡ Ok reached
  pub refused : after text reached item ≡ Err r

-- all items are resolved, and none is a solve item
pub record IsUnsolved (text : List ℕ) (items : List Item) (r : Refusal) : Type 0 where
  pub reached : SoFar
  pub resolved : after_all text start items ≡ Ok reached
  pub unsolved : reached.solved ≡ false
  pub refused : r ≡ refusal.NoSolve

-- a refusal has one of these two causes
abbrev pub RefusesFirst : Type 0
RefusesFirst = (text : List ℕ) (items : List Item) (r : Refusal) → resolved text items ≡ Err r → IsFirstRefused text items r ⊎ IsUnsolved text items r
