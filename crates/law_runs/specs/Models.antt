-- Small problems, and how a run of them is shown.
use Rattle.std.specs.Prelude.{◌||◌, ◌+ℤ◌, zero, suc, ℕ, Bool, not, List, [], ◌∷◌, length, Some, ℤ, pos, map}
use Rattle.std.specs.Ordering.{int_eq}
use Rattle.dcsp_defs.specs.Words.{below}
use Rattle.dcsp_defs.specs.Csp.{Csp, Constraint, Nogood}
use Rattle.dcsp_defs.specs.declared.Reason.{Reason}
use Rattle.dcsp_defs.specs.declared.Step.{Step}
use Rattle.abt_defs.specs.Agents.{Agent, Tell, fresh}
use Rattle.abt_defs.specs.Steps.{Outcome, settle, receive}
use Rattle.abt_defs.specs.Network.{values}
use Rattle.abt_defs.specs.Runs.{End, Cargo, Delivery, Run, whole}
use Rattle.dcsp_defs.specs.Pairs.{pair_of}

abbrev pub differ : ℕ → ℕ → Constraint
differ i j = record { scope = i ∷ j ∷ []; test = λ f. not (int_eq (f i) (f j)) }

abbrev pub agree : ℕ → ℕ → Constraint
agree i j = record { scope = i ∷ j ∷ []; test = λ f. int_eq (f i) (f j) }

abbrev pub bits : List ℤ
bits = pos 0 ∷ pos 1 ∷ []

abbrev pub csp : List (List ℤ) → List Constraint → Csp
csp domains constraints = record { domains = domains; constraints = constraints }

-- what a run gives: the end, the deliveries, the values, the choices left
abbrev pub Shown : Type 0
Shown = End × ℕ × List ℤ × List ℕ

abbrev pub shown : Csp → List ℕ → Shown
shown p cs = let r = whole p 100 cs in (r.end, r.net.deliveries, map (values r.net) (below (length p.domains)), r.left)

abbrev pub steps_of : Csp → List ℕ → List Step
steps_of p cs = (whole p 100 cs).net.steps

abbrev pub step : ℕ → Nogood → List Reason → Step
step x pairs reasons = record { variable = Some x; nogood = pairs; reasons = reasons }

abbrev pub from : ℕ → ℕ → Cargo → Delivery
from k i c = record { sender = k; receiver = i; cargo = c }

-- two variables that are to differ and to agree
abbrev pub clash : Csp
clash = csp (bits ∷ bits ∷ []) (differ 0 1 ∷ agree 0 1 ∷ [])

-- a link that is asked for, and a waiting agent that takes its value anew
abbrev pub asked : Csp
asked = csp (bits ∷ (pos 1 ∷ []) ∷ bits ∷ []) (differ 0 2 ∷ differ 1 2 ∷ [])

abbrev pub nine : List ℕ
nine = 0 ∷ 0 ∷ 0 ∷ 0 ∷ 0 ∷ 0 ∷ 0 ∷ 0 ∷ 0 ∷ []

-- a link that is starved
abbrev pub starved : Csp
starved = csp (bits ∷ bits ∷ (pos 0 ∷ []) ∷ []) (differ 0 2 ∷ differ 1 2 ∷ [])

-- a nogood that comes to an agent that waits
abbrev pub waiting : Csp
waiting = csp (bits ∷ (pos 0 ∷ []) ∷ (pos 0 ∷ []) ∷ []) (differ 0 1 ∷ differ 1 2 ∷ [])

-- three variables with two values, all different
abbrev pub triangle : Csp
triangle = csp (bits ∷ bits ∷ bits ∷ []) (differ 0 1 ∷ differ 0 2 ∷ differ 1 2 ∷ [])

abbrev pub eleven : List ℕ
eleven = 0 ∷ 0 ∷ nine

-- four queens, one for each row
abbrev pub attacks : ℤ → ℤ → ℤ → Bool
attacks d x y = int_eq x y || (int_eq (x +ℤ d) y || int_eq (y +ℤ d) x)

abbrev pub apart : ℕ → ℕ → ℤ → Constraint
apart i j d = record { scope = i ∷ j ∷ []; test = λ f. not (attacks d (f i) (f j)) }

abbrev pub four : List ℤ
four = pos 1 ∷ pos 2 ∷ pos 3 ∷ pos 4 ∷ []

abbrev pub queens : Csp
queens = csp (four ∷ four ∷ four ∷ four ∷ []) (apart 0 1 (pos 1) ∷ apart 0 2 (pos 2) ∷ apart 0 3 (pos 3) ∷ apart 1 2 (pos 1) ∷ apart 1 3 (pos 2) ∷ apart 2 3 (pos 1) ∷ [])

abbrev pub zeros : ℕ → List ℕ
zeros zero = []
zeros (suc n) = 0 ∷ zeros n

abbrev pub queens_end : Run
queens_end = whole queens 304 (zeros 304)

-- one agent: the reasons of its values, in order
abbrev pub alone : Csp
alone = csp ((pos 0 ∷ pos 1 ∷ pos 2 ∷ []) ∷ []) []

abbrev pub two_recorded : Agent
two_recorded = record (fresh alone 0) { recorded = record { step = 4; pairs = pair_of 0 (pos 1) ∷ [] } ∷ record { step = 9; pairs = pair_of 0 (pos 0) ∷ [] } ∷ [] }

-- an agent that is told a value, and sends a nogood with its stamp
abbrev pub told_once : Outcome
told_once = receive clash 1 1 (settle clash 1 1 (fresh clash 1)).agent 0 (Tell (record { value = pos 0; stamp = 1 }))
