-- Tokens have one list of items, or one refusal.
use Rattle.std.proofs.Common.{◌≡◌, ℕ, List, [], ◌∷◌, sym, ◌∙◌, refl, ap, subst, Result, Ok, Err}
use Rattle.fzn_token.specs.declared.token.Token.{Token}
use Rattle.fzn_item.specs.declared.item.Item.{Item}
use Rattle.fzn_token.specs.declared.refusal.Refusal.TheVariants as refusal
use Rattle.fzn_token.specs.declared.refusal.ModelError.{ModelError}
use Rattle.fzn_token.specs.declared.refusal.ModelError.TheVariants as errors
use Rattle.fzn_item.specs.Productions.{Fails}
use Rattle.fzn_item.specs.Items.{IsItem, AreItemsTo, IsUnread, Answers, HasOneAnswer}
use Rattle.fzn_item.proofs.ItemLaws.{item_unique}

-- where two readings end, no further item is read
same_items : (text : List ℕ) (ts : List Token) (is js : List Item) (r s : List Token) → AreItemsTo text ts is r → Fails (IsItem text) r → AreItemsTo text ts js s → Fails (IsItem text) s → (is ≡ js) × (r ≡ s)
same_items text ts [] [] r s a fa b fb = (refl, sym a ∙ b)
same_items text ts [] (j ∷ js) r s a fa b fb = absurd (fa j b.0 (subst (λ x. IsItem text x j b.0) a b.1))
same_items text ts (i ∷ is) [] r s a fa b fb = absurd (fb i a.0 (subst (λ x. IsItem text x i a.0) b a.1))
same_items text ts (i ∷ is) (j ∷ js) r s a fa b fb =
    let one = item_unique text ts i j a.0 b.0 a.1 b.1 in
    let rest = same_items text b.0 is js r s (subst (λ x. AreItemsTo text x is r) one.1 a.2) fa b.2 fb in
    ((λ n. one.0 n ∷ rest.0 n), rest.1)

-- no item is without tokens
none_at_end : (text : List ℕ) → Fails (IsItem text) []
none_at_end text v rest p = p.2

-- equal lists begin at one place
head_from : (t u : Token) (r s : List Token) → t ∷ r ≡ u ∷ s → t.from ≡ u.from
head_from t u r s e = let same : t ≡ u = cc in ap (λ x. x.from) same

-- an answer beside a list of items is that list, want of memory aside
as_items : (text : List ℕ) (ts : List Token) (is : List Item) (b : Result (List Item) ModelError) → AreItemsTo text ts is [] → Answers text ts b → (b ≡ Err errors.Memory → ⊥) → Ok is ≡ b
as_items text ts is (Ok js) p q not_q = ap Ok (same_items text ts is js [] [] p (none_at_end text) q (none_at_end text)).0
as_items text ts is (Err (errors.Refused (refusal.Syntax at))) p q not_q = (let same = (same_items text ts is q.items [] (q.first ∷ q.rest) p (none_at_end text) q.before q.fails).1 in cc)
as_items text ts is (Err (errors.Refused _)) p q not_q = absurd q
as_items text ts is (Err errors.Memory) p q not_q = absurd (not_q refl)

-- and one beside an item that no production reads is that refusal
as_unread : (text : List ℕ) (ts : List Token) (at : ℕ) (b : Result (List Item) ModelError) → IsUnread text ts at → Answers text ts b → (b ≡ Err errors.Memory → ⊥) → Err (errors.Refused (refusal.Syntax at)) ≡ b
as_unread text ts at (Ok js) p q not_q = sym (as_items text ts js (Err (errors.Refused (refusal.Syntax at))) q p (λ e. cc))
as_unread text ts at (Err (errors.Refused (refusal.Syntax to))) p q not_q =
    let same = (same_items text ts p.items q.items (p.first ∷ p.rest) (q.first ∷ q.rest) p.before p.fails q.before q.fails).1 in
    ap (λ x. Err (errors.Refused (refusal.Syntax x))) (p.place ∙ head_from p.first q.first p.rest q.rest same ∙ sym q.place)
as_unread text ts at (Err (errors.Refused _)) p q not_q = absurd q
as_unread text ts at (Err errors.Memory) p q not_q = absurd (not_q refl)

-- two answers are the same, want of memory aside
pub one_answer_law : HasOneAnswer
one_answer_law text ts (Ok is) b p q not_p not_q = as_items text ts is b p q not_q
one_answer_law text ts (Err (errors.Refused (refusal.Syntax at))) b p q not_p not_q = as_unread text ts at b p q not_q
one_answer_law text ts (Err (errors.Refused _)) b p q not_p not_q = absurd p
one_answer_law text ts (Err errors.Memory) b p q not_p not_q = absurd (not_p refl)
