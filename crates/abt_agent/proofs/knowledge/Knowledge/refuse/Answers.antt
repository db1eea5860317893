use Rattle.std.proofs.Common.{◌≡◌, ◌&&◌, ◌||◌, nat_lt, ℕ, ap, ◌∙◌, length}
use Rattle.std.specs.Prelude.{filter_map}
use Rattle.abt_parts.specs.Views.{view_of}
use Rattle.abt_marks.specs.Marks.{has_mark}
use Rattle.abt_agent.specs.Causes.{all_causes, blames, told_of}
use Rattle.abt_agent.proofs.Blamed.{marked_below}
use Rattle.abt_agent.proofs.Causes.{derived_is, step_is}
use Rattle.abt_agent.proofs.knowledge.Knowledge.refuse.Goals as goal

pub returns-clause-pairs : goal.returns-clause-pairs
returns-clause-pairs c =
    let p = c.args.self.now.problem.now in
    let me = c.args.self.now.me in
    let view = view_of c.args.self.now.view in
    let kept = c.args.self.now.store in
    let test = blames p kept (all_causes c.args.self.now) in
    let blank = c.make_blank.new.marks in
    let marks = c.blame.new.marks in
    let size : length blank ≡ me = c.in_ok-make_blank.ensures.size in
    let same : (k : ℕ) → has_mark marks k ≡ (nat_lt k me && test k) = λ k.
    c.in_ok-reasons.ensures.marks k ∙ ap (λ b. b || (nat_lt k (length blank) && test k)) (c.in_ok-make_blank.ensures.none k) ∙ ap (λ n. nat_lt k n && test k) size in
    c.in_ok-nogood.ensures.told
    ∙ ap (filter_map (told_of view)) (marked_below marks me test (c.in_ok-reasons.ensures.size ∙ size) same)
    ∙ derived_is p me view kept

pub returns-clause-step : goal.returns-clause-step
returns-clause-step c =
    let p = c.args.self.now.problem.now in
    let kept = c.args.self.now.store in
    step_is p c.args.self.now.me (view_of c.args.self.now.view) kept c.in_ok-nogood.nogood c.in_ok-nogood.stamps c.in_ok-reasons.reasons (returns-clause-pairs c)
    c.in_ok-reasons.ensures.reasons
