-- Items that are read and resolved one after another, and what they leave of the answer.
use Rattle.std.proofs.Common.{◌≡◌, ℕ, ◌+◌, ◌≤◌, ◌<◌, inl, inr, List, [], ◌∷◌, ◌++◌, length, Result, Ok, Err, refl, sym, subst, ap, ◌∙◌, arith, append_assoc, append-nil, length-append}
use Rattle.fzn_token.specs.declared.token.Token.{Token}
use Rattle.fzn_token.specs.declared.reader.TokenReader.{TokenReader}
use Rattle.fzn_token.specs.Tokens.{AreTokens}
use Rattle.fzn_token.specs.Reading as lexing
use Rattle.fzn_token.specs.Reading.{IsBehind, IsAtEnd, IsPiece, IsOpen, EndsPiece, ReadsOn, Refuses}
use Rattle.fzn_token.proofs.Joining.{reads_all}
use Rattle.fzn_item.specs.declared.item.Item.{Item}
use Rattle.fzn_item.specs.Productions.{Fails}
use Rattle.fzn_item.specs.Items.{ToSemicolon, IsItem, AreItemsTo, GivesNext}
use Rattle.fzn_item.proofs.ItemLaws.{items_push}
use Rattle.fzn_item.proofs.Endings.{items_end_law, items_stay_law, refusals_stay_law}
use Rattle.dcsp_rule.specs.Problems.{Contents}
use Rattle.fzn_token.specs.declared.refusal.Refusal.{Refusal}
use Rattle.fzn_token.specs.declared.refusal.Refusal.TheVariants as refusal
use Rattle.fzn_token.specs.declared.refusal.ModelError.{ModelError}
use Rattle.fzn_token.specs.declared.refusal.ModelError.TheVariants as errors
use Rattle.fzn_scope.specs.Checks.{◌>>=◌, Gives}
use Rattle.fzn_model.specs.Declarations.{SoFar}
use Rattle.fzn_model.specs.Items.{start, after, after_all, finished, resolved}
use Rattle.fzn_model.specs.Models.{longest_text, Answers, AnswersOrLacks}
use Rattle.fzn_model.specs.Reading.{problem_given, IsSoundGiven, prints, AreAllTaken, LeavesUnread}
use Rattle.fzn_model.proofs.Counts.{tokens_so_far}

-- what is read as items stays read, whatever follows
items_extend : (text : List ℕ) (ts : List Token) (is : List Item) (rest more : List Token) → AreItemsTo text ts is rest → AreItemsTo text (ts ++ more) is (rest ++ more)
items_extend text ts [] rest more read = ap (λ x. x ++ more) read
items_extend text ts (i ∷ is) rest more read = (read.0 ++ more, items_stay_law text ts i read.0 more read.1, items_extend text read.0 is rest more read.2)

-- two checks in turn that agree
bind_same : {A B C : Type 0} (x : Result A Refusal) (f : A → Result C Refusal) (g : A → Result B Refusal) (h : B → Result C Refusal) → ((a : A) → f a ≡ (g a >>= h)) → (x >>= f) ≡ ((x >>= g) >>= h)
bind_same (Ok a) f g h each = each a
bind_same (Err e) f g h each = refl

-- a check, and nothing behind it
bind_last : {A : Type 0} (x : Result A Refusal) → (x >>= Ok) ≡ x
bind_last (Ok a) = refl
bind_last (Err e) = refl

-- after some items one more is taken
after_push : (text : List ℕ) (s : SoFar) (is : List Item) (i : Item) → after_all text s (is ++ i ∷ []) ≡ (after_all text s is >>= (λ t. after text t i))
after_push text s [] i = bind_last (after text s i)
after_push text s (j ∷ is) i = bind_same (after text s j) _ (λ t. after_all text t is) (λ t. after text t i) (λ t. after_push text t is i)

-- items were read and resolved, or refused, and the reader is behind their tokens. Each item has a token and prints at most one thing
pub record IsTakenTo (text : List ℕ) (reader : TokenReader) (given : Result SoFar Refusal) : Type 0 where
  pub tokens : List Token
  pub items : List Item
  pub behind : IsBehind text reader tokens
  pub read : AreItemsTo text tokens items []
  pub resolved : after_all text start items ≡ given
  pub sound : IsSoundGiven given
  pub few : prints given ≤ length tokens

-- a piece goes on to its `;`
piece_ends : (us : List Token) → IsPiece us → ToSemicolon us tt []
piece_ends [] p = absurd p
piece_ends (t ∷ ts) p = elim p [ inl here ↦ inl (here.0, sym here.1) | inr past ↦ inr (past.0, piece_ends ts past.1) ]

-- without a `;` there is none
open_never_ends : (us rest : List Token) → IsOpen us → ToSemicolon us tt rest → ⊥
open_never_ends [] rest p q = q
open_never_ends (t ∷ ts) rest p q = elim q [ inl here ↦ p.0 here.0 | inr past ↦ open_never_ends ts rest p.1 past.1 ]

-- behind a piece's `;` is nothing
piece_whole : (us rest : List Token) → IsPiece us → ToSemicolon us tt rest → rest ≡ []
piece_whole [] rest p q = absurd p
piece_whole (t ∷ ts) rest p q = elim p [
  | inl here ↦ elim q [ inl now ↦ now.1 ∙ here.1 | inr later ↦ absurd (later.0 here.0) ]
  | inr past ↦ elim q [ inl now ↦ absurd (past.0 now.0) | inr later ↦ piece_whole ts rest past.1 later.1 ]
]

-- a piece that has an item is that item's tokens
item_whole : (text : List ℕ) (next : TokenReader) (us : List Token) (i : Item) (rest : List Token) → EndsPiece next us → IsItem text us i rest → rest ≡ []
item_whole text next us i rest ends one = elim ends [
  | inl piece ↦ piece_whole us rest piece (items_end_law text us i rest one)
  | inr last ↦ absurd (open_never_ends us rest last.0 (items_end_law text us i rest one))
]

-- an item has a token
item_some : (text : List ℕ) (us : List Token) (i : Item) (rest : List Token) → IsItem text us i rest → 1 ≤ length us
item_some text [] i rest one = absurd one.2
item_some text (u ∷ us) i rest one = omega arith

-- tokens that are added
more_tokens : (ts us : List Token) → 1 ≤ length us → length ts + 1 ≤ length (ts ++ us)
more_tokens ts us some = let both = length-append ts us in omega (arith, both, some)

-- there is room for what one item more prints
pub room_for_one : (text : List ℕ) (reader next : TokenReader) (given : Result SoFar Refusal) (us : List Token) (i : Item) (rest : List Token) → IsTakenTo text reader given → ReadsOn reader us next → IsItem text us i rest → length text ≤ longest_text → prints given < longest_text
room_for_one text reader next given us i rest so_far reads one short =
    let more = more_tokens so_far.tokens us (item_some text us i rest one) in
    let few = so_far.few in
    let within = tokens_so_far text (so_far.tokens ++ us) next.at (reads text so_far.tokens so_far.behind).so_far in
    omega (arith, more, few, within, short)

-- one item more
pub one_more : (text : List ℕ) (reader next : TokenReader) (given later : Result SoFar Refusal) (us : List Token) (i : Item) (rest : List Token) → IsTakenTo text reader given → ReadsOn reader us next → EndsPiece next us → IsItem text us i rest
    → later ≡ (given >>= (λ s. after text s i)) → IsSoundGiven later → prints later ≤ prints given + 1 → IsTakenTo text next later
one_more text reader next given later us i rest so_far reads ends one taken sound few = record {
  tokens = so_far.tokens ++ us;
  items = so_far.items ++ i ∷ [];
  behind = reads text so_far.tokens so_far.behind;
  read = items_push text (so_far.tokens ++ us) so_far.items us i [] (items_extend text so_far.tokens so_far.items [] us so_far.read) (subst (IsItem text us i) (item_whole text next us i rest ends one) one);
  resolved = after_push text start so_far.items i ∙ ap (λ x. x >>= (λ s. after text s i)) so_far.resolved ∙ sym taken;
  sound = sound;
  few = (let more = more_tokens so_far.tokens us (item_some text us i rest one) in let before = so_far.few in omega (arith, more, before, few));
}

-- a text that is refused for its tokens
lexically_refused : (text : List ℕ) (e : ModelError) → lexing.Answers text (Err e) → AnswersOrLacks text (Err e)
lexically_refused text (errors.Refused refusal) h = inl (refusal, refl, h)
lexically_refused text errors.Memory h = tt

-- the next tokens are refused
pub next_refused : (text : List ℕ) (reader : TokenReader) (given : Result SoFar Refusal) (e : ModelError) → IsTakenTo text reader given → Refuses reader e → AnswersOrLacks text (Err e)
next_refused text reader given e so_far refuses = lexically_refused text e (refuses text so_far.tokens so_far.behind)

-- the next item is read by no production
pub next_unread : (text : List ℕ) (reader next : TokenReader) (given : Result SoFar Refusal) (us : List Token) (error e : ModelError) → IsTakenTo text reader given → ReadsOn reader us next → EndsPiece next us
    → GivesNext text us (Err error) → LeavesUnread next error e → AnswersOrLacks text (Err e)
next_unread text reader next given us error e so_far reads ends unread leaves = elim leaves [
  | inl refused ↦ lexically_refused text e (refused text (so_far.tokens ++ us) (reads text so_far.tokens so_far.behind))
  | inr rest ↦ subst (λ x. AnswersOrLacks text (Err x)) (sym rest.1) (by_error error unread rest.0.0 (rest.0.1 text (so_far.tokens ++ us) (reads text so_far.tokens so_far.behind)))
] where
  -- by what the item is refused for, where these tokens are left
  by_error : (error : ModelError) → GivesNext text us (Err error) → (left : List Token) → AreTokens text ((so_far.tokens ++ us) ++ left) → AnswersOrLacks text (Err error)
  by_error errors.Memory unread left lexed = tt
  by_error (errors.Refused (refusal.Syntax at)) unread left lexed = inr (inl (elim ends [
    | inl piece ↦ record {
      tokens = (so_far.tokens ++ us) ++ left;
      at = at;
      lexed = lexed;
      unread = record {
        items = so_far.items;
        first = unread.first;
        rest = unread.rest ++ left;
        before = subst (λ x. AreItemsTo text x so_far.items (unread.first ∷ (unread.rest ++ left))) (sym (append_assoc so_far.tokens us left)) (subst (λ x. AreItemsTo text (so_far.tokens ++ (us ++ left)) so_far.items (x ++ left)) unread.begins (items_extend text so_far.tokens so_far.items [] (us ++ left) so_far.read));
        fails = subst (λ x. Fails (IsItem text) (x ++ left)) unread.begins (refusals_stay_law text us [] left (piece_ends us piece) unread.fails);
        place = unread.place;
      };
      result_is = refl;
    }
    | inr last ↦ record {
      tokens = so_far.tokens ++ us;
      at = at;
      lexed = reads_all reader us next reads last.1 text so_far.tokens so_far.behind;
      unread = record {
        items = so_far.items;
        first = unread.first;
        rest = unread.rest;
        before = subst (AreItemsTo text (so_far.tokens ++ us) so_far.items) unread.begins (items_extend text so_far.tokens so_far.items [] us so_far.read);
        fails = subst (Fails (IsItem text)) unread.begins unread.fails;
        place = unread.place;
      };
      result_is = refl;
    }
  ]))
  by_error (errors.Refused _) unread left lexed = absurd unread

-- no token is left
last_piece : (text : List ℕ) (reader next : TokenReader) (given : Result SoFar Refusal) (us : List Token) (so_far : IsTakenTo text reader given) → ReadsOn reader us next → EndsPiece next us → us ≡ [] → AreTokens text so_far.tokens
last_piece text reader next given us so_far reads ends none = elim (subst (EndsPiece next) none ends) [
  | inl piece ↦ absurd piece
  | inr last ↦ subst (AreTokens text) (append-nil so_far.tokens) (reads_all reader [] next (subst (λ x. ReadsOn reader x next) none reads) last.1 text so_far.tokens so_far.behind)
]

-- all items are taken
pub all_taken : (text : List ℕ) (reader next : TokenReader) (given : Result SoFar Refusal) (us : List Token) → IsTakenTo text reader given → ReadsOn reader us next → EndsPiece next us → us ≡ [] → AreAllTaken text given
all_taken text reader next given us so_far reads ends none = record {
  tokens = so_far.tokens;
  items = so_far.items;
  lexed = last_piece text reader next given us so_far reads ends none;
  read = so_far.read;
  resolved = so_far.resolved;
}

-- what all items gave is their answer
answered : (text : List ℕ) (given : Result SoFar Refusal) (result : Result Contents Refusal) → AreAllTaken text given → problem_given given ≡ result → Answers text result
unfolding resolved
answered text given result all is = inr (inr (record {
  tokens = all.tokens;
  items = all.items;
  lexed = all.lexed;
  read = all.read;
  result_is = sym is ∙ ap (λ x. x >>= finished) (sym all.resolved);
}))

-- what a call makes of what all items gave is the answer
pub finished_as : (text : List ℕ) (given : Result SoFar Refusal) (result : Result Contents ModelError) → AreAllTaken text given → Gives result (problem_given given) → AnswersOrLacks text result
finished_as text given (Ok problem) all is = answered text given (Ok problem) all is
finished_as text given (Err (errors.Refused refusal)) all is = answered text given (Err refusal) all is
finished_as text given (Err errors.Memory) all is = tt

-- the problem of what the text built is the text's
pub finished_after : (text lent : List ℕ) (built problem : Contents) → lent ≡ text → problem ≡ built → AnswersOrLacks lent (Ok built) → AnswersOrLacks text (Ok problem)
finished_after text lent built problem same is answers =
    subst (λ of. AnswersOrLacks of (Ok problem)) same (subst (λ found. AnswersOrLacks lent (Ok found)) (sym is) answers)
