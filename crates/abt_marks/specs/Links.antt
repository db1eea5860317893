-- Which agents are linked.
use Rattle.std.specs.Prelude.{ℕ, Bool, List, length, nat_lt, not, ◌&&◌, ◌≡◌, ◌<◌, ◌≤◌, true}
use Rattle.abt_marks.specs.Marks.{has_mark}

-- the agent has a place in the table of links, and is not marked there
abbrev pub is_unlinked : List Bool → ℕ → Bool
is_unlinked linked k = nat_lt k (length linked) && not (has_mark linked k)

-- each agent before this one has a place in the table of links, and is marked there
pub record AreLinkedBefore (end : ℕ) (linked : List Bool) : Type 0 where
  pub within : end ≤ length linked
  pub marked : (k : ℕ) → k < end → has_mark linked k ≡ true
