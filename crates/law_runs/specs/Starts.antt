-- The start, by what each agent does in it.
use Rattle.std.specs.Prelude.{◌≡◌, ◌<◌, ◌≤◌, ℕ, ◌+◌, Bool, List, [], ◌∷◌, filter, map, Option, Some, None}
use Rattle.dcsp_defs.specs.Words.{below}
use Rattle.dcsp_defs.specs.Csp.{Csp, count}
use Rattle.dcsp_defs.specs.declared.Step.{Step}
use Rattle.abt_defs.specs.Agents.{Tell, Message, Stamped, fresh}
use Rattle.abt_defs.specs.Steps.{Outcome, settle, to_each}
use Rattle.abt_defs.specs.Network.{sent_to, start}
use Rattle.abt_defs.specs.Events.{Act, act_of, start_acts}

-- what comes of it that agent i settles before anything else
abbrev pub first_outcome : Csp → ℕ → Outcome
first_outcome p i = settle p i 1 (fresh p i)

-- and its act
abbrev pub first_act : Csp → ℕ → Act
first_act p i = act_of i None (fresh p i) (first_outcome p i)

-- how many agents have settled where this one's step refutes, or a constraint's without variables
abbrev pub settled_with : Option ℕ → ℕ
settled_with None = 0
settled_with (Some i) = i + 1

-- how many of so many agents have settled in a start that made these steps
abbrev pub settled_in : ℕ → List Step → ℕ
settled_in n [] = n
settled_in n (s ∷ steps) = settled_with s.variable

-- the messages are one value's, to those of so many agents that pass a test
pub record TellsFirst (n : ℕ) (sent : List (ℕ × Message)) : Type 0 where
  pub told : Stamped
  pub tells : ℕ → Bool
  pub sent_is : sent ≡ to_each (Tell told) (filter tells (below n))

-- so many first agents settle in the start, each as if it were the first
pub record StartsWith (p : Csp) (settled : ℕ) : Type 0 where
  pub few : settled ≤ count p
  pub acts : start_acts p ≡ map (first_act p) (below settled)
  pub agents : (i : ℕ) → i < settled → (start p).agents i ≡ (first_outcome p i).agent
  pub sent : (i j : ℕ) → i < settled → (start p).links i j ≡ sent_to j (first_outcome p i).sent
  pub others : (i j : ℕ) → settled ≤ i → (start p).links i j ≡ []
  pub recorded : (i : ℕ) → ((start p).agents i).recorded ≡ []
  pub tells : (i : ℕ) → TellsFirst (count p) (first_outcome p i).sent

-- It is so for as many as the start's steps tell.
abbrev pub StartsInOrder : Csp → Type 0
StartsInOrder p = StartsWith p (settled_in (count p) (start p).steps)
