use Rattle.abt_links.proofs.sums.Sums.before.Goals as goal
use Rattle.std.proofs.Common.{◌≡◌, ◌≤◌, ◌+◌, ◌-◌, ◌*◌, ◌/◌, ◌∙◌, ℕ, List, sum, take, drop, length, ap, refl, arith}
use Rattle.abt_links.specs.Blocks.{IsBlocked}
use Rattle.std.proofs.lemmas.List.Sums.{sum_by-take-le}
use Rattle.abt_links.proofs.Blocks.{before-parts}

-- both parts together
parts : (w : ℕ) (counts blocks counts' blocks' now : List ℕ) (total place : ℕ) → counts ≡ now → blocks' ≡ blocks → counts' ≡ counts → IsBlocked w counts blocks total → place ≤ length now
    → sum (take (place / w) blocks') + sum (take (place - w * (place / w)) (drop (w * (place / w)) counts')) ≡ sum (take place now)
parts w counts blocks counts' blocks' now total place shown same same' blocked inside =
    ap (λ (l : List ℕ). sum (take (place / w) l) + sum (take (place - w * (place / w)) (drop (w * (place / w)) counts'))) same
    ∙ ap (λ (l : List ℕ). sum (take (place / w) blocks) + sum (take (place - w * (place / w)) (drop (w * (place / w)) l))) same'
    ∙ before-parts w counts blocks total place blocked (omega (arith, ap length shown))
    ∙ ap (λ (l : List ℕ). sum (take place l)) shown

pub sum_of-requires : goal.sum_of-requires
sum_of-requires c =
    omega (
      arith,
      parts c.self.inside.width c.self.inside.counts.items c.self.inside.blocks.items c.self.inside.counts.items c.deref.result.now c.args.self.now c.self.inside.total c.args.place c.self.view_is c.deref.ensures.value refl c.self.invariant.blocked c.requires.exists,
      sum_by-take-le (λ x. x) c.args.self.now c.args.place,
    )

pub sum_of-requires-2 : goal.sum_of-requires-2
sum_of-requires-2 c =
    omega (
      arith,
      parts c.self.inside.width c.self.inside.counts.items c.self.inside.blocks.items c.deref-2.result.now c.deref.result.now c.args.self.now c.self.inside.total c.args.place c.self.view_is c.deref.ensures.value c.deref-2.ensures.value c.self.invariant.blocked c.requires.exists,
      sum_by-take-le (λ x. x) c.args.self.now c.args.place,
    )

pub overflow_add-result : goal.overflow_add-result
overflow_add-result c =
    omega (
      arith,
      parts c.self.inside.width c.self.inside.counts.items c.self.inside.blocks.items c.deref-2.result.now c.deref.result.now c.args.self.now c.self.inside.total c.args.place c.self.view_is c.deref.ensures.value c.deref-2.ensures.value c.self.invariant.blocked c.requires.exists,
      sum_by-take-le (λ x. x) c.args.self.now c.args.place,
      c.sum_of.ensures,
      c.sum_of-2.ensures,
    )

pub returns : goal.returns
returns c =
    omega (
      arith,
      parts c.self.inside.width c.self.inside.counts.items c.self.inside.blocks.items c.deref-2.result.now c.deref.result.now c.args.self.now c.self.inside.total c.args.place c.self.view_is c.deref.ensures.value c.deref-2.ensures.value c.self.invariant.blocked c.requires.exists,
      c.sum_of.ensures,
      c.sum_of-2.ensures,
    )
