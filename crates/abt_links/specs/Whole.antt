-- What holds of the parts of the links.
use Rattle.std.specs.Prelude.{◌≡◌, ℕ, ◌<◌, not, length}
use Rattle.abt_defs.specs.Network.{is_empty}
use Rattle.abt_links.specs.PairTables.{PairTable, has_pair}
use Rattle.abt_links.specs.Transit.{Transit, link_of, IsOpen}

-- each opened pair has a list and is of agents, and the set tells which lists have messages
pub record IsWhole (t : Transit) (ready : PairTable) : Type 0 where
  pub long : length t.lists ≡ length t.opened
  pub agents : ready.agents ≡ t.agents
  pub inside : (k i : ℕ) → IsOpen t k i → (k < t.agents) × (i < t.agents)
  pub filled : (k i : ℕ) → has_pair ready k i ≡ not (is_empty (link_of t k i))
