-- Small runs: deliveries, ends, values, steps, traces and bounds that a reader works out by hand from the definitions.
use Rattle.std.specs.Prelude.{◌≡◌, None, true, false, [], ◌∷◌, Some, pos, map}
use Rattle.dcsp_defs.specs.Words.{below}
use Rattle.dcsp_defs.specs.declared.Reason.TheVariants.{Rule, Earlier}
use Rattle.abt_defs.specs.Agents as agents
use Rattle.abt_defs.specs.Reasons.{Item, causes}
use Rattle.abt_defs.specs.Steps.{is_refused, is_newer}
use Rattle.abt_defs.specs.Network.{values, start}
use Rattle.abt_defs.specs.Runs.{Refuted, Solved, Capped, Spent, Tell, Refuse, AddLink, whole, starved_choices}
use Rattle.abt_defs.specs.Bound.{message_bound}
use Rattle.dcsp_defs.specs.Pairs.{pair_of}
use Rattle.abt_defs.specs.Agents.{known}
use Rattle.law_runs.specs.Models.{shown, steps_of, step, from, clash, asked, nine, starved, waiting, triangle, eleven, queens, queens_end, alone, two_recorded, told_once}

-- two variables that are to differ and to agree
pub record RefutedPair : Type 0 where
  pub run : shown clash (5 ∷ 6 ∷ 7 ∷ 8 ∷ 9 ∷ []) ≡ (Refuted, 4, pos 1 ∷ pos 0 ∷ [], 9 ∷ [])
  pub steps : steps_of clash (5 ∷ 6 ∷ 7 ∷ 8 ∷ []) ≡ step 1 (pair_of 0 (pos 0) ∷ []) (Rule 0 ∷ Rule 1 ∷ []) ∷ step 1 (pair_of 0 (pos 1) ∷ []) (Rule 1 ∷ Rule 0 ∷ []) ∷ step 0 [] (Earlier 1 ∷ Earlier 2 ∷ []) ∷ []
  pub trace : (whole clash 100 (5 ∷ 6 ∷ 7 ∷ 8 ∷ [])).trace ≡ from 0 1 (Tell (pos 0)) ∷ from 1 0 (Refuse 1) ∷ from 0 1 (Tell (pos 1)) ∷ from 1 0 (Refuse 2) ∷ []
  pub bound : message_bound clash ≡ 4
  pub capped : (whole clash 3 (0 ∷ 0 ∷ 0 ∷ 0 ∷ [])).end ≡ Capped
  pub spent : shown clash (0 ∷ 0 ∷ 0 ∷ []) ≡ (Spent, 3, pos 1 ∷ pos 0 ∷ [], [])

-- a link that is asked for, and a waiting agent that takes its value anew
pub record LinkAskedFor : Type 0 where
  pub run : shown asked nine ≡ (Solved, 9, pos 1 ∷ pos 1 ∷ pos 0 ∷ [], [])
  pub steps : steps_of asked nine ≡ step 2 (pair_of 0 (pos 0) ∷ pair_of 1 (pos 1) ∷ []) (Rule 0 ∷ Rule 1 ∷ []) ∷ step 1 (pair_of 0 (pos 0) ∷ []) (Earlier 1 ∷ []) ∷ []
  pub trace : (whole asked 100 nine).trace
      ≡ from 0 2 (Tell (pos 0)) ∷ from 1 2 (Tell (pos 1)) ∷ from 2 1 (Refuse 1) ∷ from 1 0 AddLink ∷ from 0 1 (Tell (pos 0))
      ∷ from 1 0 (Refuse 2) ∷ from 0 1 (Tell (pos 1)) ∷ from 0 2 (Tell (pos 1)) ∷ from 1 2 (Tell (pos 1)) ∷ []
  pub bound : message_bound asked ≡ 15

-- two rules over one variable, each link in turn
pub record InOrder : Type 0 where
  pub run : shown starved (0 ∷ 0 ∷ 0 ∷ 0 ∷ 0 ∷ 0 ∷ 0 ∷ []) ≡ (Solved, 7, pos 1 ∷ pos 1 ∷ pos 0 ∷ [], [])
  pub steps : steps_of starved (0 ∷ 0 ∷ 0 ∷ 0 ∷ 0 ∷ 0 ∷ 0 ∷ []) ≡ step 2 (pair_of 0 (pos 0) ∷ []) (Rule 0 ∷ []) ∷ step 2 (pair_of 0 (pos 0) ∷ []) (Rule 0 ∷ []) ∷ step 2 (pair_of 1 (pos 0) ∷ []) (Rule 1 ∷ []) ∷ []
  -- a second nogood for one value is dropped
  pub store : ((whole starved 5 (0 ∷ 0 ∷ 0 ∷ 0 ∷ 0 ∷ [])).net.agents 0).recorded ≡ record { step = 1; pairs = pair_of 0 (pos 0) ∷ [] } ∷ []
  pub fifth : (whole starved 5 (0 ∷ 0 ∷ 0 ∷ 0 ∷ 0 ∷ [])).trace ≡ from 0 2 (Tell (pos 0)) ∷ from 1 2 (Tell (pos 0)) ∷ from 2 0 (Refuse 1) ∷ from 0 2 (Tell (pos 1)) ∷ from 2 0 (Refuse 2) ∷ []

-- the same with the link from the first variable to the third starved
pub record StarvedLink : Type 0 where
  pub run : shown starved (1 ∷ 1 ∷ 1 ∷ 0 ∷ 0 ∷ 0 ∷ []) ≡ (Solved, 6, pos 1 ∷ pos 1 ∷ pos 0 ∷ [], [])
  pub steps : steps_of starved (1 ∷ 1 ∷ 1 ∷ 0 ∷ 0 ∷ 0 ∷ []) ≡ step 2 (pair_of 1 (pos 0) ∷ []) (Rule 1 ∷ []) ∷ step 2 (pair_of 0 (pos 0) ∷ []) (Rule 0 ∷ []) ∷ []
  pub chosen : starved_choices starved 0 2 100 (start starved) ≡ 1 ∷ 1 ∷ 1 ∷ 0 ∷ 0 ∷ 0 ∷ []
  pub bound : message_bound starved ≡ 21

-- a nogood that comes to an agent that waits
pub record NogoodWhileWaiting : Type 0 where
  pub run : shown waiting (0 ∷ 1 ∷ 1 ∷ 0 ∷ 0 ∷ []) ≡ (Refuted, 5, pos 1 ∷ pos 0 ∷ pos 0 ∷ [], [])
  pub steps : steps_of waiting (0 ∷ 1 ∷ 1 ∷ 0 ∷ 0 ∷ []) ≡ step 1 (pair_of 0 (pos 0) ∷ []) (Rule 0 ∷ []) ∷ step 2 (pair_of 1 (pos 0) ∷ []) (Rule 1 ∷ []) ∷ step 1 [] (Earlier 2 ∷ []) ∷ []
  pub bound : message_bound waiting ≡ 15

-- three variables with two values, all different
pub record Triangle : Type 0 where
  pub run : shown triangle eleven ≡ (Refuted, 11, pos 1 ∷ pos 0 ∷ pos 0 ∷ [], [])
  pub steps : steps_of triangle eleven
      ≡ step 2 (pair_of 0 (pos 0) ∷ pair_of 1 (pos 1) ∷ []) (Rule 1 ∷ Rule 2 ∷ []) ∷ step 1 (pair_of 0 (pos 0) ∷ []) (Rule 0 ∷ Earlier 1 ∷ [])
      ∷ step 2 (pair_of 0 (pos 1) ∷ pair_of 1 (pos 0) ∷ []) (Rule 2 ∷ Rule 1 ∷ []) ∷ step 1 (pair_of 0 (pos 1) ∷ []) (Earlier 3 ∷ Rule 0 ∷ [])
      ∷ step 0 [] (Earlier 2 ∷ Earlier 4 ∷ []) ∷ []
  pub bound : message_bound triangle ≡ 20

-- four queens, one for each row
pub record FourQueens : Type 0 where
  pub bound : message_bound queens ≡ 304
  pub solved : queens_end.end ≡ Solved
  pub values : map (values queens_end.net) (below 4) ≡ pos 2 ∷ pos 4 ∷ pos 1 ∷ pos 3 ∷ []

-- one agent: the reasons of its values, in order, and which values it has a nogood for
pub record OneAgentsReasons : Type 0 where
  pub reasons : map (λ (x : Item). x.reason) (causes alone 0 (known two_recorded) two_recorded.recorded) ≡ Earlier 9 ∷ Earlier 4 ∷ []
  pub refused : is_refused 0 two_recorded.recorded (Some (pos 1)) ∷ is_refused 0 two_recorded.recorded (Some (pos 2)) ∷ [] ≡ true ∷ false ∷ []

-- an agent that is told a value, and sends a nogood with its stamp
pub record ToldOnce : Type 0 where
  pub sent : told_once.sent ≡ (0, agents.Refuse 1 ((0, record { value = pos 0; stamp = 1 }) ∷ [])) ∷ []
  pub step : told_once.step ≡ Some (step 1 (pair_of 0 (pos 0) ∷ []) (Rule 0 ∷ Rule 1 ∷ []))

-- what is news to a view
pub record News : Type 0 where
  -- what is news to a view
  pub told : is_newer None 1 ∷ is_newer (Some (record { value = pos 5; stamp = 1 })) 1 ∷ is_newer (Some (record { value = pos 5; stamp = 1 })) 2 ∷ is_newer (Some (record { value = pos 5; stamp = 2 })) 1 ∷ [] ≡ true ∷ false ∷ true ∷ false ∷ []
