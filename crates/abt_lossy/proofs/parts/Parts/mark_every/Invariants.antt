use Rattle.std.proofs.Common.{◌≡◌, ◌&&◌, nat_lt, ℕ, cond}
use Rattle.abt_links.specs.PairTables.{has_pair}
use Rattle.abt_lossy.specs.Carries.{CountsFit}
use Rattle.abt_lossy.specs.AtWorld.{may_send}
use Rattle.abt_lossy.proofs.parts.Parts.mark_every.Given as goal

abbrev pub invariant-loop-sender : goal.invariant-loop-sender
invariant-loop-sender l = record {
  network : l.self.network ≡ l.initial.self.network;
  carrier : l.self.carrier ≡ l.initial.self.carrier;
  fit : CountsFit l.self.carrier;
  count : l.self.agents ≡ l.initial.self.agents;
  agents : l.self.senders.agents ≡ l.initial.self.senders.agents;
  marks : (k i : ℕ) → has_pair l.self.senders k i ≡ cond (nat_lt k l.sender && nat_lt i l.initial.self.agents) (may_send l.initial.self k i) (has_pair l.initial.self.senders k i);
}
