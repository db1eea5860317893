-- What is ignored can be left out, so that two texts which differ only in it have the same problem.
use Rattle.std.proofs.Common.{◌≡◌, ℕ, inl, inr, List, [], ◌∷◌, ◌++◌, Result, Ok, refl, sym, ◌∙◌, ap, subst}
use Rattle.fzn_token.specs.declared.token.Token.{Token}
use Rattle.fzn_token.specs.declared.token.TokenKind.TheVariants as kind
use Rattle.fzn_token.specs.declared.token.Word.TheVariants as word
use Rattle.fzn_item.specs.declared.item.Item.{Item}
use Rattle.fzn_item.specs.Productions.{IsAny}
use Rattle.fzn_item.specs.Items.{ToSemicolon, ItemAfter, IsItem, AreItemsTo}
use Rattle.fzn_item.proofs.Combining.{fails_then}
use Rattle.fzn_item.proofs.ExprLaws.{any_unique}
use Rattle.fzn_item.proofs.ItemLaws.{to_semicolon_unique, item_unique}
use Rattle.fzn_item.proofs.OneAnswer.{one_answer_law}
use Rattle.fzn_item.proofs.Endings.{items_end_law, items_stay_law, refusals_stay_law}
use Rattle.dcsp_rule.specs.Problems.{Contents}
use Rattle.fzn_model.specs.Declarations.{SoFar}
use Rattle.fzn_model.specs.Items.{start, after, after_all, finished, resolved}
use Rattle.law_inputs.specs.Ignored.{can_mark, IgnoredLeftOut, none, predicate, item, IgnoredCanBeLeftOut, IgnoredChangesNothing}
use Rattle.law_inputs.proofs.Grammar.{item_after_decided}
use Rattle.law_inputs.proofs.Carrying.{none_left}
use Rattle.law_inputs.proofs.AlikeItems.{item_carried}
use Rattle.law_inputs.proofs.Keeping.{Keeps, kept_value, keeps_itself, keeps_bind}
use Rattle.law_inputs.proofs.KeptItems.{item_keeps, problem_of_items, items_answer}
use Rattle.law_inputs.proofs.SkippedItems.{skips_predicate}

-- an item is read of its own tokens alone, which end with the first `;`
item_alone : (text : List ℕ) (own rest : List Token) (i : Item) (behind : List Token) → ToSemicolon own tt [] → IsItem text (own ++ rest) i behind → IsItem text own i [] × (behind ≡ rest)
item_alone text [] rest i behind ends p = absurd ends
item_alone text (t ∷ ts) rest i behind ends p = elim (item_after_decided text t.kind t ts) [
  | inl fails ↦ absurd (refusals_stay_law text (t ∷ ts) [] rest ends (fails_then IsAny (λ first. ItemAfter text first.kind first) (t ∷ ts) ts t any_unique (refl, refl) fails) i behind p)
  | inr r ↦
      let read : IsItem text (t ∷ ts) r.0 r.1 = (t, ts, (refl, refl), r.2) in
      let nothing = to_semicolon_unique (t ∷ ts) tt tt r.1 [] (items_end_law text (t ∷ ts) r.0 r.1 read) ends in
      let alone = subst (IsItem text (t ∷ ts) r.0) nothing.1 read in
      let same = item_unique text ((t ∷ ts) ++ rest) r.0 i rest behind (items_stay_law text (t ∷ ts) r.0 [] rest alone) p in
      (subst (λ x. IsItem text (t ∷ ts) x []) same.0 alone, sym same.1)
]

-- a predicate is the tokens up to the first `;`
predicate_read : (text : List ℕ) (first : Token) (ts : List Token) (i : Item) (behind : List Token) → first.kind ≡ kind.Word word.Predicate → IsItem text (first ∷ ts) i behind → ItemAfter text (kind.Word word.Predicate) first ts i behind
predicate_read text first ts i behind is p =
    subst (λ k. ItemAfter text k first ts i behind) is (subst (λ x. ItemAfter text x.kind x ts i behind) p.2.0 (subst (λ m. ItemAfter text p.0.kind p.0 m i behind) p.2.1 p.3))

module _ (text other : List ℕ) where
  -- what is left of the tokens has items, which add the same
  items_left : (ts us : List Token) → IgnoredLeftOut text other ts us → (is : List Item) → AreItemsTo text ts is [] → (js : List Item) × AreItemsTo other us js [] × ((s : SoFar) → Keeps (after_all text s is) (after_all other s js))
  items_left _ _ none [] h = ([], refl, (λ s. refl))
  items_left _ _ none (i ∷ is) h = absurd h.1.2
  items_left _ _ (predicate kind_is ends others) [] h = absurd cc
  items_left _ _ (predicate {first = first} {ts = ts} {rest = rest} {us = us} kind_is ends others) (i ∷ is) h =
      let p = predicate_read text first ts i h.0 kind_is h.1 in
      let same = to_semicolon_unique ts p.0 tt p.1 rest p.2 ends in
      let f = items_left rest us others is (subst (λ x. AreItemsTo text x is []) (p.3.1 ∙ same.1) h.2) in
      (f.0, f.1, (λ s. subst (λ x. Keeps (after_all text s (x ∷ is)) (after_all other s f.0)) (sym p.3.0) (skips_predicate s first.from (λ next. after_all text next is) (after_all other s f.0) (f.2 s))))
  items_left _ _ (item ends notes others) [] h = absurd cc
  items_left _ _ (item {first = first} {ts = ts} {rest = rest} {us = us} {more = more} ends notes others) (i ∷ is) h =
      let p = item_alone text (first ∷ ts) rest i h.0 ends h.1 in
      let f = item_carried text other (can_mark first.kind) first ts us (λ heeded. heeded) notes i [] p.0 in
      let alone = subst (IsItem other us f.0) (none_left text other (can_mark first.kind) [] f.1 f.4 refl) f.2 in
      let g = items_left rest more others is (subst (λ x. AreItemsTo text x is []) p.1 h.2) in
      (f.0 ∷ g.0, (more, items_stay_law other us f.0 [] more alone, g.1), (λ s. keeps_bind (after text s i) (after other s f.0) _ _ (item_keeps text other s i f.0 f.3) (λ next. g.2 next)))

  -- and the same problem
  problem_left : (ts us : List Token) → IgnoredLeftOut text other ts us → (is : List Item) (p : Contents) → AreItemsTo text ts is [] → resolved text is ≡ Ok p → (js : List Item) × AreItemsTo other us js [] × (resolved other js ≡ Ok p)
  unfolding resolved
  problem_left ts us less is p read resolves =
      let f = items_left ts us less is read in
      (f.0, f.1, kept_value (resolved text is) (resolved other f.0) p (keeps_bind (after_all text start is) (after_all other start f.0) finished finished (f.2 start) (λ s. keeps_itself (finished s))) resolves)

pub ignored_can_be_left_out : IgnoredCanBeLeftOut
ignored_can_be_left_out text other d p h =
    let r = problem_of_items text d.tokens p d.lexed h in
    let f = problem_left text other d.tokens d.others d.left_out r.0 p r.1 r.2 in
    items_answer other d.others f.0 p d.other_lexed f.1 f.2

pub ignored_changes_nothing : IgnoredChangesNothing
ignored_changes_nothing text other d p q h k =
    let r = problem_of_items text d.tokens p d.lexed h in
    let s = problem_of_items other d.others q d.other_lexed k in
    let f = problem_left text d.plain d.tokens d.common d.left_out r.0 p r.1 r.2 in
    let g = problem_left other d.plain d.others d.common d.other_left_out s.0 q s.1 s.2 in
    let answers = one_answer_law d.plain d.common (Ok f.0) (Ok g.0) f.1 g.1 (λ e. cc) (λ e. cc) in
    let same : f.0 ≡ g.0 = cc in
    let both : ◌≡◌ {A = Result Contents _} (Ok p) (Ok q) = sym f.2 ∙ ap (λ x. resolved d.plain x) same ∙ g.2 in
    cc
