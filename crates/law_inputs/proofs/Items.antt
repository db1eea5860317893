-- Item after item, the tokens of a text have items or an item that no production reads.
use Rattle.std.proofs.Common.{ℕ, zero, suc, ◌<◌, inl, inr, List, [], ◌∷◌, ◌++◌, length, Ok, Err, refl, arith}
use Rattle.fzn_token.specs.declared.token.Token.{Token}
use Rattle.fzn_item.specs.declared.item.Item.{Item}
use Rattle.fzn_token.specs.declared.refusal.Refusal.TheVariants as refusal
use Rattle.fzn_token.specs.declared.refusal.ModelError.TheVariants as errors
use Rattle.fzn_item.specs.Productions.{IsAny}
use Rattle.fzn_item.specs.Items.{ItemAfter, AreItemsTo}
use Rattle.fzn_item.proofs.Combining.{fails_then}
use Rattle.fzn_item.proofs.ExprLaws.{any_unique}
use Rattle.fzn_item.proofs.ItemLaws.{items_push, unread}
use Rattle.law_inputs.specs.Answered.{HasItems, TokensHaveItems}
use Rattle.law_inputs.proofs.Grammar.{item_after_decided}

read_on : (n : ℕ) (text : List ℕ) (all : List Token) (is : List Item) (rest : List Token) → AreItemsTo text all is rest → length rest < n → HasItems text all
read_on zero text all is rest before below = absurd (omega (arith, below))
read_on (suc n) text all is [] before below = record { answer = Ok is; answers = before; settled = λ e. cc }
read_on (suc n) text all is (u ∷ us) before below = elim (item_after_decided text u.kind u us) [
  | inl fails ↦ record {
    answer = Err (errors.Refused (refusal.Syntax u.from));
    answers = unread text all is (u ∷ us) u us refl before (fails_then IsAny (λ first. ItemAfter text first.kind first) (u ∷ us) us u any_unique (refl, refl) fails);
    settled = λ e. cc;
  }
  | inr r ↦ read_on n text all (is ++ r.0 ∷ []) r.1 (items_push text all is (u ∷ us) r.0 r.1 before (u, us, (refl, refl), r.2)) (omega (arith, below, r.3))
]

pub tokens_have_items : TokensHaveItems
tokens_have_items text ts = read_on (suc (length ts)) text ts [] ts refl (omega arith)
