-- What one agent does leaves what always holds of it.
use Rattle.std.proofs.Common.{ℕ, ◌∙◌, arith}
use Rattle.dcsp_defs.specs.Csp.{Csp}
use Rattle.abt_defs.specs.Agents.{Agent, plain}
use Rattle.abt_defs.specs.Steps.{learn_all, ask}
use Rattle.law_agent.specs.Staying.{AgentsStartSound, AgentsStaySound, OnlyLearns}
use Rattle.law_agent.proofs.Settles.{settles}
use Rattle.law_agent.proofs.Learns.{learns_all, keeps}
use Rattle.law_agent.proofs.Receives.{announced, heeded, one_more}
use Rattle.law_agent.proofs.Runs.{start_kept}

pub agents_start_sound : (p : Csp) → AgentsStartSound p
agents_start_sound p ok i = (start_kept p ok).sound i

pub agents_stay_sound : (p : Csp) → AgentsStaySound p
agents_stay_sound p i l a h = record {
  settled = λ number. (settles p i l a h number).sound;
  learned = λ k s higher there. (announced p i a h l k s higher ((omega arith), there)).sound;
  heeded = λ step pairs proper. (heeded p i a h l 0 step pairs proper).sound;
  linked = λ k there. one_more p i k a h there;
}

pub only_learns : (i : ℕ) (a : Agent) → OnlyLearns i a
only_learns i a = record {
  stamp = λ step pairs. (keeps i (record { step = step; pairs = plain pairs }) (learn_all i pairs (ask i (plain pairs) a))).stamp ∙ (learns_all i pairs (ask i (plain pairs) a)).stamp;
  recorded = λ pairs x u. (learns_all i pairs a).recorded x u;
}
