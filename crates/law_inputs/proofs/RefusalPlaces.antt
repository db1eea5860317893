-- The place of each refusal of a text.
use Rattle.std.proofs.Common.{◌≡◌, ℕ, inl, inr, List, [], ◌∷◌, Result, Ok, Err, refl, sym, ◌∙◌, subst}
use Rattle.std.specs.List.{AllByRecursion}
use Rattle.fzn_token.specs.declared.token.Token.{Token}
use Rattle.fzn_token.specs.Tokens.{AreTokens}
use Rattle.fzn_token.specs.declared.refusal.Refusal.{Refusal}
use Rattle.fzn_token.specs.declared.refusal.Refusal.TheVariants as refusal
use Rattle.fzn_token.specs.declared.refusal.ModelError.TheVariants as errors
use Rattle.fzn_token.specs.Reading as lexing
use Rattle.fzn_item.specs.declared.item.Item.{Item}
use Rattle.fzn_item.specs.Items.{AreItemsTo}
use Rattle.dcsp_defs.specs.Words.{In}
use Rattle.dcsp_rule.specs.Problems.{Contents}
use Rattle.fzn_model.specs.Items.{resolved}
use Rattle.fzn_model.specs.Models.{IsUnread}
use Rattle.law_inputs.specs.Placed.{BeginsToken, IsPlaced, RefusalsArePlaced}
use Rattle.law_inputs.proofs.Placing.{Every}
use Rattle.law_inputs.proofs.ItemPlaces.{ItemPlaced, item_placed}
use Rattle.law_inputs.proofs.Refusing.{RefusalPlaced, Refuses}
use Rattle.law_inputs.proofs.RefusedItems.{resolved_refuses}

-- what holds of the place of each token in a list holds of every one
every : (P : ℕ → Type 0) (ts : List Token) → ((t : Token) → In t ts → P t.from) → Every P ts
every P [] h = tt
every P (t ∷ ts) h = (h t (inl refl), every P ts (λ u m. h u (inr m)))

-- each token of a text begins one
tokens_begin : (text : List ℕ) (ts : List Token) → AreTokens text ts → Every (BeginsToken text) ts
tokens_begin text ts lexed = every (BeginsToken text) ts (λ t m. record { tokens = ts; lexed = lexed; token = t; among = m; first = refl })

-- the places in items, and those of the tokens behind them
items_placed : (P : ℕ → Type 0) (text : List ℕ) (ts : List Token) (is : List Item) (rest : List Token) → AreItemsTo text ts is rest → Every P ts → AllByRecursion (ItemPlaced P) is × Every P rest
items_placed P text ts [] rest h all = (tt, subst (Every P) h all)
items_placed P text ts (i ∷ is) rest h all =
    let one = item_placed P text ts i h.0 h.1 all in
    let more = items_placed P text h.0 is rest h.2 one.1 in
    ((one.0, more.0), more.1)

-- the refusal of items, as that of a text
same_place : (text : List ℕ) (e : Refusal) → RefusalPlaced (BeginsToken text) e → IsPlaced text e
same_place text (refusal.Lex at) h = absurd h
same_place text (refusal.IntRange at) h = absurd h
same_place text (refusal.Syntax at) h = absurd h
same_place text (refusal.Misplaced at) h = h
same_place text (refusal.Duplicate at) h = h
same_place text (refusal.Undeclared at) h = h
same_place text (refusal.Unbounded at) h = h
same_place text (refusal.Unsupported at) h = h
same_place text (refusal.UnknownConstraint at) h = h
same_place text (refusal.IllTyped at) h = h
same_place text (refusal.OutputShape at) h = h
same_place text (refusal.WideSum at) h = h
same_place text (refusal.Limit which count at) h = h
same_place text refusal.NoSolve h = tt

-- the refusal of tokens
of_lexical : (text : List ℕ) (e : Refusal) → lexing.Answers text (Err (errors.Refused e)) → IsPlaced text e
of_lexical text (refusal.Lex at) h = h
of_lexical text (refusal.IntRange at) h = h
of_lexical text _ h = absurd h

-- a refusal with the place of another
of_error : (text : List ℕ) (x : Result Contents Refusal) (e f : Refusal) → x ≡ Err e → x ≡ Err f → IsPlaced text f → IsPlaced text e
of_error text x e f h k p = let is = sym h ∙ k in let same : f ≡ e = cc in subst (IsPlaced text) same p

of_resolved : (text : List ℕ) (e : Refusal) (r : Result Contents Refusal) → Refuses (BeginsToken text) r → Err e ≡ r → IsPlaced text e
of_resolved text e (Ok p) h k = absurd cc
of_resolved text e (Err r) h k = of_error text (Err e) e r refl k (same_place text r h)

of_unread : (text : List ℕ) (e : Refusal) → IsUnread text (Err e) → IsPlaced text e
of_unread text e u =
    let all = items_placed (BeginsToken text) text u.tokens u.unread.items (u.unread.first ∷ u.unread.rest) u.unread.before (tokens_begin text u.tokens u.lexed) in
    of_error text (Err e) e (refusal.Syntax u.at) refl u.result_is (subst (BeginsToken text) (sym u.unread.place) all.1.0)

pub refusals_are_placed : RefusalsArePlaced
refusals_are_placed text e h = elim h [
  | inl lexical ↦ of_error text (Err e) e lexical.0 refl lexical.1 (of_lexical text lexical.0 lexical.2)
  | inr rest ↦ elim rest [
    | inl unread ↦ of_unread text e unread
    | inr r ↦
        let all = items_placed (BeginsToken text) text r.tokens r.items [] r.read (tokens_begin text r.tokens r.lexed) in
        of_resolved text e (resolved text r.items) (resolved_refuses (BeginsToken text) text r.items all.0) r.result_is
  ]
]
