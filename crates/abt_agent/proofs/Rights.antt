-- The steps that an agent makes are right.
use Rattle.std.proofs.Common.{◌≡◌, ℕ, ◌<◌, List, None, sym, subst}
use Rattle.dcsp_defs.specs.declared.nogood.Pair.{Pair}
use Rattle.dcsp_defs.specs.Words.{In}
use Rattle.dcsp_defs.specs.Csp.{Csp, domain}
use Rattle.dcsp_defs.specs.declared.Step.{Step}
use Rattle.abt_defs.specs.Agents.{Agent, Stamped, Tell, Refuse}
use Rattle.abt_defs.specs.Steps.{Outcome, settle, receive}
use Rattle.law_agent.specs.OneAgent.{Proper}
use Rattle.law_agent.specs.OneAgentSteps.{IsRightIfMade, MakesRightSteps}
use Rattle.abt_parts.specs.Messages.{with_stamps}
use Rattle.abt_agent.specs.declared.Turn.{Turn}
use Rattle.abt_agent.specs.declared.Turn.TheVariants.{Quiet, Announced, Derived, Empty}
use Rattle.abt_agent.specs.Turns.{IsTurn}
use Rattle.law_agent.specs.Sources.{IsOfStep}
use Rattle.abt_agent.specs.Rights.{IsRightTurn}
use Rattle.abt_parts.proofs.Lists.{plain-with_stamps}

-- ---- turns

turn_right : (p : Csp) (made : List Step) (a : Agent) (o : Outcome) (turn : Turn) → IsTurn a o turn → IsRightIfMade p made o.step → IsRightTurn p made turn
turn_right p made a o Quiet t r = tt
turn_right p made a o Announced t r = tt
turn_right p made a o (Derived s) t r = subst (IsRightIfMade p made) t.0 r
turn_right p made a o (Empty s) t r = subst (IsRightIfMade p made) t.0 r

module _ (p : Csp) (made : List Step) (i : ℕ) (a : Agent) (h : MakesRightSteps p i made a) (number : ℕ) (turn : Turn) where
  pub settle_right : IsTurn a (settle p i number a) turn → IsRightTurn p made turn
  settle_right t = turn_right p made a (settle p i number a) turn t (h.settled number)

  pub told_right : (k : ℕ) (s : Stamped) → k < i → In s.value (domain p k) → IsTurn a (receive p i number a k (Tell s)) turn → IsRightTurn p made turn
  told_right k s higher there t = turn_right p made a (receive p i number a k (Tell s)) turn t (h.told number k s higher there)

  pub refused_right : (k step : ℕ) (nogood : List Pair) (stamps : List ℕ) → Proper p i nogood → IsOfStep made step nogood
      → IsTurn a (receive p i number a k (Refuse step (with_stamps nogood stamps))) turn → IsRightTurn p made turn
  refused_right k step nogood stamps proper of_step t =
      let same = sym (plain-with_stamps nogood stamps) in
      turn_right p made a (receive p i number a k (Refuse step (with_stamps nogood stamps))) turn t
      (h.refused number k step (with_stamps nogood stamps) (subst (Proper p i) same proper) (subst (IsOfStep made step) same of_step))

  -- a link request leads to no step
  pub linked_right : (k : ℕ) (o : Outcome) → o.step ≡ None → IsTurn a o turn → IsRightTurn p made turn
  linked_right k o e t = turn_right p made a o turn t (subst (IsRightIfMade p made) (sym e) tt)
