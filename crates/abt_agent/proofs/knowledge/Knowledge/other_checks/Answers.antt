use Rattle.std.specs.Option.{option_eq}
use Rattle.std.specs.Ordering.{int_eq}
use Rattle.std.proofs.Common.{Option, Some, None, ℤ, ◌≡◌, ◌∙◌, ◌+◌, ◌<◌, ◌≤◌, true, false, is_some, drop, length, ap, sym, refl, rules, arith, w64, SFits}
use Rattle.std.specs.Prelude.{pos}
use Rattle.std.proofs.lemmas.Int.{to_z-of_z}
use Rattle.std.proofs.lemmas.List.{at_drop_more, drop_all}
use Rattle.dcsp_defs.specs.Words.{is_value}
use Rattle.dcsp_defs.specs.Csp.{domain}
use Rattle.dcsp_rule.specs.Problems.{csp_of}
use Rattle.abt_defs.specs.Agents.{values_in}
use Rattle.abt_defs.specs.Reasons.{ruled_out}
use Rattle.abt_parts.specs.Views.{view_of}
use Rattle.abt_parts.specs.Stores.{records_of}
use Rattle.abt_reason.specs.Causes.{value_at}
use Rattle.abt_agent.specs.Causes.{cause_for}
use Rattle.abt_parts.specs.Checked.{as_checks, sum_of}
use Rattle.abt_agent.specs.Examined.{checks_but}
use Rattle.abt_agent.proofs.Causes.{flip, ruled_is}
use Rattle.abt_agent.proofs.Examining.{same_checks, checks_at, own_value, last_other, one_other, sum_none, sum_assoc}
use Rattle.abt_agent.proofs.knowledge.Knowledge.other_checks.Goals as goal

-- the test for the agent's own value
is_own : (own : Option ℤ) (value : ℤ) → is_value own value ≡ option_eq int_eq own (Some value)
is_own None value = refl
is_own (Some own) value = refl

pub loop-place-init : goal.loop-place-init
loop-place-init c = refl

pub loop-place-preserved-then-eq : goal.loop-place-preserved-then-eq
loop-place-preserved-then-eq c =
    let p = c.args.self.now.problem.now in
    let me = c.args.self.now.me in
    let values = domain (csp_of p) me in
    let known = values_in (view_of c.args.self.now.view) in
    let recorded = records_of c.args.self.now.store in
    let k = c.loop-place.place in
    let within : k < length values = omega (arith, ap length c.domain-domain.ensures, c.len-place-end.ensures.len, c.loop-place-test.true) in
    let v = value_at p me k in
    let fits : SFits w64 c.value_at.result = search rules in
    let own : is_value c.args.own v ≡ true = ap (is_value c.args.own) (sym (to_z-of_z w64 c.value_at.result fits ∙ c.value_at.ensures)) ∙ is_own c.args.own _ ∙ sym c.if-eq.ensures in
    let here = at_drop_more (checks_but p me known recorded c.args.own) values k (pos 0) within ∙ own_value p me known recorded c.args.own v (drop (k + 1) values) own in
    ap (sum_of (as_checks c.loop-place.sum)) (sym here) ∙ c.loop-place.invariant

pub returns-then-is_free_at : goal.returns-then-is_free_at
returns-then-is_free_at c =
    let p = c.args.self.now.problem.now in
    let me = c.args.self.now.me in
    let values = domain (csp_of p) me in
    let known = values_in (view_of c.args.self.now.view) in
    let recorded = records_of c.args.self.now.store in
    let k = c.loop-place.place in
    let within : k < length values = omega (arith, ap length c.domain-domain.ensures, c.len-place-end.ensures.len, c.loop-place-test.true) in
    let v = value_at p me k in
    let fits : SFits w64 c.value_at.result = search rules in
    let own : is_value c.args.own v ≡ false = ap (is_value c.args.own) (sym (to_z-of_z w64 c.value_at.result fits ∙ c.value_at.ensures)) ∙ is_own c.args.own _ ∙ sym c.if-eq.ensures in
    let free : ruled_out (csp_of p) me known recorded v ≡ false = ruled_is p me known c.args.self.now.store v ∙ flip true (is_some (cause_for p me known c.args.self.now.store v)) c.if-is_free_at.ensures in
    let here = at_drop_more (checks_but p me known recorded c.args.own) values k (pos 0) within ∙ last_other p me known recorded c.args.own v (drop (k + 1) values) own free in
    let one : as_checks c.value_checks.result ≡ checks_at p me known recorded v = same_checks _ _ c.value_checks.ensures.constraints c.value_checks.ensures.nogoods in
    c.in_ok-sum.ensures ∙ ap (sum_of (as_checks c.loop-place.sum)) (one ∙ sym here) ∙ c.loop-place.invariant

pub loop-place-preserved : goal.loop-place-preserved
loop-place-preserved c =
    let p = c.args.self.now.problem.now in
    let me = c.args.self.now.me in
    let values = domain (csp_of p) me in
    let known = values_in (view_of c.args.self.now.view) in
    let recorded = records_of c.args.self.now.store in
    let k = c.loop-place.place in
    let within : k < length values = omega (arith, ap length c.domain-domain.ensures, c.len-place-end.ensures.len, c.loop-place-test.true) in
    let v = value_at p me k in
    let fits : SFits w64 c.value_at.result = search rules in
    let own : is_value c.args.own v ≡ false = ap (is_value c.args.own) (sym (to_z-of_z w64 c.value_at.result fits ∙ c.value_at.ensures)) ∙ is_own c.args.own _ ∙ sym c.if-eq.ensures in
    let out : ruled_out (csp_of p) me known recorded v ≡ true = ruled_is p me known c.args.self.now.store v ∙ flip false (is_some (cause_for p me known c.args.self.now.store v)) c.if-is_free_at.ensures in
    let rest = checks_but p me known recorded c.args.own (drop (k + 1) values) in
    let here = at_drop_more (checks_but p me known recorded c.args.own) values k (pos 0) within ∙ one_other p me known recorded c.args.own v (drop (k + 1) values) own out in
    let one : as_checks c.value_checks.result ≡ checks_at p me known recorded v = same_checks _ _ c.value_checks.ensures.constraints c.value_checks.ensures.nogoods in
    ap (λ s. sum_of s rest) (c.in_ok-sum.ensures ∙ ap (sum_of (as_checks c.loop-place.sum)) one) ∙ sum_assoc (as_checks c.loop-place.sum) (checks_at p me known recorded v) rest
    ∙ ap (sum_of (as_checks c.loop-place.sum)) (sym here) ∙ c.loop-place.invariant

pub returns : goal.returns
returns c =
    let p = c.args.self.now.problem.now in
    let me = c.args.self.now.me in
    let values = domain (csp_of p) me in
    let known = values_in (view_of c.args.self.now.view) in
    let recorded = records_of c.args.self.now.store in
    let past : length values ≤ c.loop-place.place = omega (arith, ap length c.domain-domain.ensures, c.len-place-end.ensures.len, c.loop-place-test.false) in
    sym (sum_none (as_checks c.loop-place.sum)) ∙ ap (λ l. sum_of (as_checks c.loop-place.sum) (checks_but p me known recorded c.args.own l)) (sym (drop_all c.loop-place.place values past)) ∙ c.loop-place.invariant
