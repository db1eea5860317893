use Rattle.std.proofs.Common.{◌≡◌, ◌∙◌, List, map, Vec, Global, Result, Ok, Err, sym, ap}
use Rattle.std.specs.Prelude.{IfOk}
use Rattle.dcsp_rule.specs.Problems.{csp_of}
use Rattle.abt_defs.specs.Agents.{Agent}
use Rattle.abt_parts.specs.declared.message.SentTo.{SentTo}
use Rattle.abt_story.specs.Looking.{tell_to}
use Rattle.abt_story.proofs.Starts.{sent_none, sent_some}
use Rattle.abt_story.proofs.start.sent_by.Goals as goal

if_same : {E : Type 0} (r : Result (Vec SentTo Global) E) (xs ys : List SentTo) → IfOk r (λ (sent : Vec SentTo Global). sent.items ≡ xs) → xs ≡ ys → IfOk r (λ (sent : Vec SentTo Global). sent.items ≡ ys)
if_same (Ok sent) xs ys e f = e ∙ f
if_same (Err x) xs ys e f = tt

pub returns-in-Some : goal.returns-in-Some
returns-in-Some c =
    let p = csp_of c.args.problem.now in
    let sound = c.agents_start_sound.ensures p c.denotes_csp.ensures.csp in
    let value = sym (ap (λ (a : Agent). a.value) c.requires.settled) ∙ sym c.value.ensures.value ∙ c.in-Some.is in
    if_same c.told_to.result _ _ c.told_to.ensures (ap (map tell_to) c.lower_owners.ensures.owners ∙ sym (sent_some p sound c.args.agent c.in-Some.field-0 value))

pub returns-in-None : goal.returns-in-None
returns-in-None c =
    let p = csp_of c.args.problem.now in
    let sound = c.agents_start_sound.ensures p c.denotes_csp.ensures.csp in
    let value = sym (ap (λ (a : Agent). a.value) c.requires.settled) ∙ sym c.value.ensures.value ∙ c.in-None.is in
    c.new.ensures.items ∙ sym (sent_none p sound c.args.agent value)
