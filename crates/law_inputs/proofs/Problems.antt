-- Each text has a problem or a first refusal.
use Rattle.std.proofs.Common.{◌≡◌, ℕ, inl, inr, List, Result, Ok, Err, refl}
use Rattle.fzn_token.specs.declared.token.Token.{Token}
use Rattle.fzn_token.specs.declared.refusal.Refusal.TheVariants as refusal
use Rattle.fzn_token.specs.declared.refusal.ModelError.{ModelError}
use Rattle.fzn_token.specs.declared.refusal.ModelError.TheVariants as errors
use Rattle.fzn_token.specs.Reading as lexing
use Rattle.fzn_item.specs.declared.item.Item.{Item}
use Rattle.fzn_item.specs.Items as parsing
use Rattle.fzn_model.specs.Items.{resolved}
use Rattle.law_inputs.specs.Answered.{HasAnswer, TextsHaveAnswers}
use Rattle.law_inputs.proofs.Texts.{texts_have_tokens}
use Rattle.law_inputs.proofs.Items.{tokens_have_items}

-- from the answer of the items
of_items : (text : List ℕ) (ts : List Token) → lexing.Answers text (Ok ts) → (answer : Result (List Item) ModelError) → parsing.Answers text ts answer → (answer ≡ Err errors.Memory → ⊥) → HasAnswer text
of_items text ts lexed (Ok is) read some = record {
  answer = resolved text is;
  answers = inr (inr (record { tokens = ts; items = is; lexed = lexed; read = read; result_is = refl }));
}
of_items text ts lexed (Err (errors.Refused (refusal.Syntax at))) read some = record {
  answer = Err (refusal.Syntax at);
  answers = inr (inl (record { tokens = ts; at = at; lexed = lexed; unread = read; result_is = refl }));
}
of_items text ts lexed (Err (errors.Refused _)) read some = absurd read
of_items text ts lexed (Err errors.Memory) read some = absurd (some refl)

-- from the answer of the tokens
of_tokens : (text : List ℕ) (answer : Result (List Token) ModelError) → lexing.Answers text answer → (answer ≡ Err errors.Memory → ⊥) → HasAnswer text
of_tokens text (Ok ts) lexed some = let r = tokens_have_items text ts in of_items text ts lexed r.answer r.answers r.settled
of_tokens text (Err (errors.Refused refusal)) lexed some = record { answer = Err refusal; answers = inl (refusal, refl, lexed) }
of_tokens text (Err errors.Memory) lexed some = absurd (some refl)

pub texts_have_answers : TextsHaveAnswers
texts_have_answers text = let r = texts_have_tokens text in of_tokens text r.answer r.answers r.settled
