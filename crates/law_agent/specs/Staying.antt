-- What always holds of one agent holds before its start, and stays so whatever the agent does.
use Rattle.std.specs.Prelude.{◌≡◌, ℕ, ◌<◌, true}
use Rattle.dcsp_defs.specs.Words.{In, update}
use Rattle.dcsp_defs.specs.Csp.{Csp, IsCsp, domain, count}
use Rattle.abt_defs.specs.Agents.{Agent, Record, Stamped, StampedNogood, plain, fresh}
use Rattle.abt_defs.specs.Steps.{learn, learn_all, heed, settle}
use Rattle.law_agent.specs.OneAgent.{Proper, Sound}

-- It holds of each agent before its start.
abbrev pub AgentsStartSound : Csp → Type 0
AgentsStartSound p = IsCsp p → (i : ℕ) → Sound p i (fresh p i)

-- what agent i does, of which it holds, leaves it so
pub record StaysSound (p : Csp) (i : ℕ) (a : Agent) : Type 0 where
  -- it settles, and a step that it makes has any number
  pub settled : (number : ℕ) → Sound p i (settle p i number a).agent
  -- it learns a value of a higher agent
  pub learned : (k : ℕ) (s : Stamped) → k < i → In s.value (domain p k) → Sound p i (learn k s a)
  -- it heeds a nogood
  pub heeded : (step : ℕ) (pairs : StampedNogood) → Proper p i (plain pairs) → Sound p i (heed i step pairs a)
  -- it tells one more agent
  pub linked : (k : ℕ) → k < count p → Sound p i (record a { tells = update a.tells k true })

-- It is so for each agent.
abbrev pub AgentsStaySound : Csp → Type 0
AgentsStaySound p = (i : ℕ) → i < count p → (a : Agent) → Sound p i a → StaysSound p i a

-- what agent i learns of others takes no value and records no nogood
pub record OnlyLearns (i : ℕ) (a : Agent) : Type 0 where
  pub stamp : (step : ℕ) (pairs : StampedNogood) → (heed i step pairs a).stamp ≡ a.stamp
  pub recorded : (pairs : StampedNogood) (x : Record) → In x (learn_all i pairs a).recorded → In x a.recorded
