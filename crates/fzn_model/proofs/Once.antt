-- A text has one answer.
use Rattle.std.proofs.Common.{◌≡◌, ℕ, List, inl, inr, Result, Ok, Err, sym, ap, ◌∙◌, subst}
use Rattle.fzn_token.specs.declared.token.Token.{Token}
use Rattle.fzn_token.specs.declared.refusal.Refusal.{Refusal}
use Rattle.fzn_token.specs.declared.refusal.Refusal.TheVariants as refusal
use Rattle.fzn_token.specs.declared.refusal.ModelError.{ModelError}
use Rattle.fzn_token.specs.declared.refusal.ModelError.TheVariants as errors
use Rattle.fzn_token.specs.Reading as lexed
use Rattle.fzn_token.proofs.OneAnswer.{one_answer_lem}
use Rattle.fzn_item.specs.declared.item.Item.{Item}
use Rattle.fzn_item.specs.Items as read
use Rattle.fzn_item.proofs.OneAnswer.{one_answer_law}
use Rattle.dcsp_rule.specs.Problems.{Contents}
use Rattle.fzn_model.specs.Items.{resolved}
use Rattle.fzn_model.specs.Models.{IsLexical, IsUnread, IsResolved, HasOneAnswer}

-- a text has one answer of its tokens
same_lexed : (text : List ℕ) (a b : Result (List Token) ModelError) → lexed.Answers text a → lexed.Answers text b → (a ≡ Err errors.Memory → ⊥) → (b ≡ Err errors.Memory → ⊥) → a ≡ b
same_lexed = one_answer_lem

-- a text that has tokens is not refused for them
not_lexical : (text : List ℕ) (result : Result Contents Refusal) (ts : List Token) → IsLexical text result → lexed.Answers text (Ok ts) → ⊥
not_lexical text result ts x h = let e = same_lexed text (Err (errors.Refused x.0)) (Ok ts) x.2 h (λ e. cc) (λ e. cc) in cc

-- a text has one refusal of its tokens
same_lexical : (text : List ℕ) (a b : Result Contents Refusal) → IsLexical text a → IsLexical text b → a ≡ b
same_lexical text a b x y =
    let e = same_lexed text (Err (errors.Refused x.0)) (Err (errors.Refused y.0)) x.2 y.2 (λ e. cc) (λ e. cc) in
    let same : x.0 ≡ y.0 = cc in
    x.1 ∙ ap Err same ∙ sym y.1

-- a text has one list of tokens
same_tokens : (text : List ℕ) (ts us : List Token) → lexed.Answers text (Ok ts) → lexed.Answers text (Ok us) → ts ≡ us
same_tokens text ts us h k = let e = same_lexed text (Ok ts) (Ok us) h k (λ e. cc) (λ e. cc) in cc

-- a text has one answer of its items
same_read : (text : List ℕ) (ts us : List Token) (a b : Result (List Item) ModelError) → ts ≡ us → read.Answers text ts a → read.Answers text us b → (a ≡ Err errors.Memory → ⊥) → (b ≡ Err errors.Memory → ⊥) → a ≡ b
same_read text ts us a b e h k = one_answer_law text us a b (subst (λ x. read.Answers text x a) e h) k

-- an item that no production reads, and items, are not both there
not_both : (text : List ℕ) (a b : Result Contents Refusal) → IsUnread text a → IsResolved text b → ⊥
not_both text a b u r =
    let e = same_read text u.tokens r.tokens (Err (errors.Refused (refusal.Syntax u.at))) (Ok r.items) (same_tokens text u.tokens r.tokens u.lexed r.lexed) u.unread r.read (λ e. cc) (λ e. cc) in cc

-- a text has one refusal of its items
same_unread : (text : List ℕ) (a b : Result Contents Refusal) → IsUnread text a → IsUnread text b → a ≡ b
same_unread text a b u v =
    let e = same_read text u.tokens v.tokens (Err (errors.Refused (refusal.Syntax u.at))) (Err (errors.Refused (refusal.Syntax v.at))) (same_tokens text u.tokens v.tokens u.lexed v.lexed) u.unread v.unread (λ e. cc) (λ e. cc) in
    let same : u.at ≡ v.at = cc in
    u.result_is ∙ ap (λ at. Err (refusal.Syntax at)) same ∙ sym v.result_is

-- a text has one list of items, and so one answer of theirs
same_resolved : (text : List ℕ) (a b : Result Contents Refusal) → IsResolved text a → IsResolved text b → a ≡ b
same_resolved text a b r s =
    let e = same_read text r.tokens s.tokens (Ok r.items) (Ok s.items) (same_tokens text r.tokens s.tokens r.lexed s.lexed) r.read s.read (λ e. cc) (λ e. cc) in
    let same : r.items ≡ s.items = cc in
    r.result_is ∙ ap (resolved text) same ∙ sym s.result_is

-- a text has one answer
pub once : HasOneAnswer
once text a b p q = elim p [
  | inl x ↦ elim q [
    | inl y ↦ same_lexical text a b x y
    | inr y ↦ absurd (elim y [ inl v ↦ not_lexical text a v.tokens x v.lexed | inr s ↦ not_lexical text a s.tokens x s.lexed ])
  ]
  | inr x ↦ elim x [
    | inl u ↦ elim q [
      | inl y ↦ absurd (not_lexical text b u.tokens y u.lexed)
      | inr y ↦ elim y [ inl v ↦ same_unread text a b u v | inr s ↦ absurd (not_both text a b u s) ]
    ]
    | inr r ↦ elim q [
      | inl y ↦ absurd (not_lexical text b r.tokens y r.lexed)
      | inr y ↦ elim y [ inl v ↦ absurd (not_both text b a v r) | inr s ↦ same_resolved text a b r s ]
    ]
  ]
]
