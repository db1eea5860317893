-- What an agent learns and keeps.
use Rattle.std.proofs.Common.{◌≡◌, ℕ, ◌<◌, List, length, sym, ap, subst, ◌∙◌}
use Rattle.dcsp_defs.specs.declared.nogood.Pair.{Pair}
use Rattle.dcsp_defs.specs.Words.{In}
use Rattle.abt_defs.specs.Agents.{Agent, Record, StampedNogood, plain, AddLink}
use Rattle.abt_defs.specs.Steps as steps
use Rattle.law_agent.specs.OneAgent.{Proper, Sound}
use Rattle.law_agent.specs.Staying.{OnlyLearns}
use Rattle.dcsp_rule.specs.Problems.{Contents, csp_of}
use Rattle.abt_parts.specs.declared.message.Sent.{Sent}
use Rattle.abt_parts.specs.Messages.{with_stamps}
use Rattle.abt_agent.specs.declared.knowledge.Knowledge.{Knowledge}
use Rattle.abt_agent.specs.declared.body.AgentBody.{AgentBody}
use Rattle.abt_agent.specs.Bodies.{owner_of, IsInStep, IsSized}
use Rattle.abt_parts.specs.Outgoing.{Posts}
use Rattle.abt_parts.proofs.Lists.{plain-with_stamps}

-- the nogoods that are left after asking and learning are proper
pub left_proper : ((i : ℕ) (a : Agent) → OnlyLearns i a) → (p : Contents) (me : ℕ) (pairs : List Pair) (ys : StampedNogood) (a c : Agent) → Sound (csp_of p) me a → c ≡ steps.learn_all me ys (steps.ask me pairs a)
    → (x : Record) → In x c.recorded → Proper (csp_of p) me x.pairs
left_proper learns p me pairs ys a c h e x u = h.proper x ((learns me (steps.ask me pairs a)).recorded ys x (subst (λ (z : Agent). In x z.recorded) e u))

pub heeded : (me step : ℕ) (nogood ps qs : List Pair) (stamps : List ℕ) (a b c d : Agent) → ps ≡ nogood → qs ≡ nogood
    → b ≡ steps.ask me ps a → c ≡ steps.learn_all me (with_stamps qs stamps) b → d ≡ steps.keep me (record { step = step; pairs = nogood }) c
    → d ≡ steps.heed me step (with_stamps nogood stamps) a
heeded me step nogood ps qs stamps a b c d p q asked learnt kept =
    let n : nogood ≡ plain (with_stamps nogood stamps) = sym (plain-with_stamps nogood stamps) in
    let b' : b ≡ steps.ask me (plain (with_stamps nogood stamps)) a = asked ∙ ap (λ z. steps.ask me z a) (p ∙ n) in
    let c' : c ≡ steps.learn_all me (with_stamps nogood stamps) b = learnt ∙ ap (λ z. steps.learn_all me (with_stamps z stamps) b) q in
    kept ∙ ap (λ z. steps.keep me (record { step = step; pairs = z }) c) n ∙ ap (steps.keep me (record { step = step; pairs = plain (with_stamps nogood stamps) })) (c' ∙ ap (steps.learn_all me (with_stamps nogood stamps)) b')

pub asked_for : (me : ℕ) (nogood ps : List Pair) (stamps : List ℕ) (a : Agent) (out went : List Sent) → ps ≡ nogood
    → Posts out went (steps.to_each AddLink (steps.unlinked me ps a))
    → Posts out went (steps.to_each AddLink (steps.unlinked me (plain (with_stamps nogood stamps)) a))
asked_for me nogood ps stamps a out went p e =
    subst (λ z. Posts out went (steps.to_each AddLink (steps.unlinked me z a))) (p ∙ sym (plain-with_stamps nogood stamps)) e

-- what is known has changed, of the same agent
pub sized_still : (b : AgentBody) (known : Knowledge) → IsSized b → owner_of known ≡ owner_of b.known → IsInStep known → IsSized (record b { known = known })
sized_still b known sized e in_step = record {
  in_step = in_step;
  linked = sized.linked ∙ sym (ap (λ (x : Contents × ℕ). x.1) e);
  tells = sized.tells;
  told_exist = λ k i. subst (λ (x : Contents × ℕ). k < length x.0.domains) (sym e) (sized.told_exist k i);
}
