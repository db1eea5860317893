use Rattle.std.proofs.Common.{◌≡◌, ◌<◌, ◌+◌, ap, sym, ◌∙◌, ◌++◌, ◌||◌, ◌&&◌, nat_lt, length, get_or, take, option_to_list, arith, None}
use Rattle.std.specs.Prelude.{pos}
use Rattle.std.proofs.lemmas.List.{map-append}
use Rattle.std.proofs.lemmas.List.Folds.{list_any-append}
use Rattle.std.proofs.lemmas.Option.{slice_get-get_or}
use Rattle.dcsp_defs.specs.Csp.{domain}
use Rattle.abt_defs.specs.Agents.{values_in}
use Rattle.dcsp_rule.specs.Problems.{csp_of}
use Rattle.abt_parts.specs.Views.{view_of}
use Rattle.abt_reason.specs.Causes.{value_at}
use Rattle.abt_marks.specs.Marks.{has_mark}
use Rattle.abt_agent.specs.Causes.{blames, blames_one, causes_for, reasons_at, item_at}
use Rattle.abt_agent.proofs.Blamed.{marks_join}
use Rattle.abt_agent.proofs.Others.{names_other}
use Rattle.abt_agent.proofs.Causes.{causes_more, found_valid}
use Rattle.abt_agent.proofs.knowledge.Knowledge.blame_counted.Goals as goal

pub blame_one-requires-clause-cause : goal.blame_one-requires-clause-cause
blame_one-requires-clause-cause c =
    let p = c.args.self.now.problem.now in
    let me = c.args.self.now.me in
    found_valid p me (values_in (view_of c.args.self.now.view)) c.args.self.now.store (value_at p me c.loop-place.place) c.cause_in.result c.owned-rules.ensures.inside c.cause_in.ensures.cause

pub blame_one-requires-clause-other : goal.blame_one-requires-clause-other
blame_one-requires-clause-other c =
    let k = c.args.self.now in
    names_other k.problem.now k.me k.store k.reasons (record { first = get_or c.args.firsts.now c.loop-place.place None; end = c.loop-place.place + 1 }) c.cause_in.result c.other_in-other.result (length c.loop-place.marks) c.requires.in_step.problem c.requires.in_step.agent
    (c.loop-place.invariant.size ∙ c.requires.size) c.other_in-other.ensures c.cause_in.ensures.rule

pub loop-place-preserved : goal.loop-place-preserved
loop-place-preserved c =
    let p = c.args.self.now.problem.now in
    let me = c.args.self.now.me in
    let values = domain (csp_of p) me in
    let known = values_in (view_of c.args.self.now.view) in
    let store = c.args.self.now.store in
    let k = c.loop-place.place in
    let old = c.args.marks.now in
    let within : k < length values = omega (arith, c.requires.each, c.loop-place-test.true) in
    let x = get_or values k (pos 0) in
    let before = causes_for p me known store (take k values) in
    let here = option_to_list c.cause_in.result in
    let more : causes_for p me known store (take (k + 1) values) ≡ before ++ here =
    causes_more p me known store values k x within (slice_get-get_or values k (pos 0) within)
    ∙ ap (λ o. before ++ option_to_list o) (sym c.cause_in.ensures.cause) in
    let size = c.blame_one.ensures.size ∙ c.loop-place.invariant.size in
    record {
      reasons = c.blame_one.ensures.reasons
          ∙ ap (λ z. z ++ reasons_at p store here) c.loop-place.invariant.reasons
          ∙ sym (map-append (λ y. (item_at p store y).reason) before here)
          ∙ ap (reasons_at p store) (sym more);
      len = omega (arith, c.blame_one.ensures.len, c.loop-place.invariant.len);
      room = omega (arith, c.blame_one.ensures.capacity, c.loop-place.invariant.room);
      size = size;
      marks = λ v. c.blame_one.ensures.marks v
          ∙ ap (λ n. has_mark c.loop-place.marks v || (nat_lt v n && blames p store here v)) c.loop-place.invariant.size
          ∙ ap (λ b. b || (nat_lt v (length old) && blames p store here v)) (c.loop-place.invariant.marks v)
          ∙ marks_join (has_mark old v) (nat_lt v (length old)) (blames p store before v) (blames p store here v)
          ∙ ap (λ b. has_mark old v || (nat_lt v (length old) && b)) (sym (list_any-append (λ y. blames_one p store y v) before here) ∙ ap (λ z. blames p store z v) (sym more));
    }
