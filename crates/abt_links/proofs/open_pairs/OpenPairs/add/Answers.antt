use Rattle.std.proofs.Common.{◌≡◌, ◌∷◌, ◌++◌, ◌==◌, None, Some, IsNone, [], ℕ, List, Option, length, set, sym, ap, subst, ◌∙◌, refl, arith}
use Rattle.std.specs.Prelude.{if◌then◌else◌}
use Rattle.std.specs.List.{position}
use Rattle.std.proofs.lemmas.List.{get_or_default}
use Rattle.abt_links.specs.Transit.{is_pair}
use Rattle.abt_links.specs.OpenPairs.{AreNumbered, number_in}
use Rattle.abt_links.proofs.Openings.{numbered_more}
use Rattle.abt_links.proofs.open_pairs.OpenPairs.add.Goals as goal

none_is : (o : Option ℕ) → IsNone o → o ≡ None
none_is None h = refl
none_is (Some e) h = absurd cc

pub invariant_of-self-2 : goal.invariant_of-self-2
invariant_of-self-2 c =
    let pairs = c.self.inside.pairs.items in
    let from = c.args.from in
    let to = c.args.to in
    let senders = c.reach.new.senders.items in
    let none : position (is_pair from to) pairs ≡ None = ap (λ (ps : List (ℕ × ℕ)). position (is_pair from to) ps) c.self.view_is ∙ none_is (position (is_pair from to) c.args.self.now) c.requires in
    let items : c.push_reserved.new.self.items ≡ pairs ++ (from, to) ∷ [] = c.push_reserved.ensures.items ∙ ap (λ ps. ps ++ (from, to) ∷ []) c.reserve.ensures.items in
    let room = c.in_ok-reach.ensures.room in
    let here = c.index_mut.ensures.value ∙ get_or_default senders from _ [] room in
    subst (λ (ps : List (ℕ × ℕ)). AreNumbered ps (set senders from c.add.new.self)) (sym items)
    (numbered_more pairs c.self.inside.senders.items senders c.add.new.self from to c.self.invariant none c.reach.ensures.same room
    (λ i. c.in_ok-add.ensures.ok i ∙ ap (λ n. if i == to then Some n else number_in c.index_mut.result.now i) (omega (arith, c.in-Ok.ensures, c.len.ensures)) ∙ ap (λ xs. if i == to then Some (length pairs) else number_in xs i) here))
