use Rattle.std.proofs.Common.{◌≡◌, ◌∙◌, ◌+◌, ◌<◌, ◌≤◌, ℕ, Bool, true, false, refl, cond, get_or, length, filter, take, ap, sym, arith, List}
use mir.Val.{bool_byte}
use Rattle.dcsp_defs.specs.Csp.{with_value}
use Rattle.dcsp_rule.specs.Problems.{constraint_at}
use Rattle.dcsp_problem.specs.Index.{owned_rules}
use Rattle.abt_defs.specs.Agents.{values_in}
use Rattle.abt_defs.specs.Checks.{is_decided}
use Rattle.abt_parts.specs.Views.{view_of}
use Rattle.abt_agent.proofs.Examining.{one_more}
use Rattle.abt_agent.proofs.knowledge.Knowledge.decided_among.Goals as goal

-- a truth as a number
as_number : (b : Bool) → bool_byte b ≡ cond b 1 0
as_number true = refl
as_number false = refl

at_most_one : (b : Bool) → bool_byte b ≤ 1
at_most_one true = omega arith
at_most_one false = omega arith

pub loop-place-preserved : goal.loop-place-preserved
loop-place-preserved c = record {
  few = (let a = c.loop-place.invariant.few in let b = at_most_one c.is_decided.result in let is = c.from-count.ensures in omega (arith, a, b, is));
  counted = λ v.
      let p = c.args.self.now.problem.now in
      let owned = owned_rules p c.args.self.now.me in
      let q = λ (rule : ℕ). is_decided (with_value c.args.self.now.me v (values_in (view_of c.args.self.now.view))) (constraint_at p rule) in
      let within : c.loop-place.place < length owned = omega (arith, c.loop-place-test.true, c.requires.end) in
      let here : c.is_decided.result ≡ q (get_or owned c.loop-place.place 0) = c.is_decided.ensures v ∙ ap (λ (l : List ℕ). q (get_or l c.loop-place.place 0)) c.owned-owned.ensures.rules in
      let before = c.loop-place.invariant.counted v in
      ap (λ n. n + c.from-count.result) before ∙ ap (λ n. length (filter q (take c.loop-place.place owned)) + n) (c.from-count.ensures ∙ as_number c.is_decided.result ∙ ap (λ b. cond b 1 0) here) ∙ sym (one_more q owned c.loop-place.place within);
}

pub returns : goal.returns
returns c = λ v.
    let p = c.args.self.now.problem.now in
    let q = λ (rule : ℕ). is_decided (with_value c.args.self.now.me v (values_in (view_of c.args.self.now.view))) (constraint_at p rule) in
    let all : c.loop-place.place ≡ c.args.end = omega (arith, c.loop-place-test.false, c.loop-place.auto.place-end) in
    c.loop-place.invariant.counted v ∙ ap (λ n. length (filter q (take n (owned_rules p c.args.self.now.me)))) all
