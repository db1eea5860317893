use Rattle.std.proofs.Common.{◌≡◌, ◌∷◌, ◌++◌, false, ap, drop, take, List, ℕ, sym, subst, ◌∙◌}
use Rattle.dcsp_defs.specs.Words.{IsRising}
use Rattle.abt_defs.specs.Agents.{is_among}
use Rattle.abt_parts.proofs.Insertion.{put_rises, put_among, there_among}
use Rattle.abt_parts.proofs.listed.add_rising.Goals as goal

pub returns-in-Ok-clause-rising : goal.returns-in-Ok-clause-rising
returns-in-Ok-clause-rising c =
    let xs = c.deref-2.result.now in
    let v = c.args.agent in
    let n = c.place_of-place.result in
    let absent : is_among v xs ≡ false = ap (is_among v) (c.deref-2.ensures.value ∙ sym c.deref.ensures.value) ∙ sym c.if-is_listed.ensures in
    let rises = put_rises xs n v (subst IsRising (sym c.deref-2.ensures.value) c.requires) absent (λ k l m. c.place_of-place.ensures.before k l) c.place_of-place.ensures.after in
    subst IsRising (sym c.in-Ok.ensures.items) (subst (λ (z : List ℕ). IsRising (take n z ++ v ∷ drop n z)) c.deref-2.ensures.value rises)

pub returns-in-Ok-clause-among : goal.returns-in-Ok-clause-among
returns-in-Ok-clause-among c k = ap (is_among k) c.in-Ok.ensures.items ∙ put_among c.args.agents.now.items c.place_of-place.result c.args.agent k

pub returns-then-is_listed-clause-among : goal.returns-then-is_listed-clause-among
returns-then-is_listed-clause-among c k = there_among c.args.agents.now.items c.args.agent k (ap (is_among c.args.agent) (sym c.deref.ensures.value) ∙ sym c.if-is_listed.ensures)
