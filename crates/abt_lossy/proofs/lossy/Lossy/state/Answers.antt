use Rattle.std.proofs.Common.{◌≡◌, false, ◌∙◌, sym, subst}
use Rattle.dcsp_defs.specs.Csp.{HasNoSolution}
use Rattle.dcsp_rule.specs.Problems.{csp_of}
use Rattle.abt_defs.specs.Network.{IsSolved}
use Rattle.abt_lossy.specs.InWorld.{LossyState, reached, standing_of, IsAfter}
use Rattle.abt_lossy.proofs.Making.{stands_as, quiet_solves, refuted_has_none}
use Rattle.abt_lossy.proofs.lossy.Lossy.state.Goals as goal

pub returns-clause-world : goal.returns-clause-world
returns-clause-world c = λ words.
    let i = c.self.inside in
    subst (λ (s : LossyState). IsAfter s words → s.spent ≡ false → c.state.result ≡ standing_of (csp_of s.problem) (reached s words)) c.self.view_is
    (stands_as i.problem.now i.parts i.events i.spent c.state.result c.self.invariant c.state.ensures.machine words)

pub returns-clause-solved : goal.returns-clause-solved
returns-clause-solved c = λ words a f quiet.
    let i = c.self.inside in
    subst (λ (s : LossyState). IsAfter s words → s.spent ≡ false → IsSolved (csp_of s.problem) (reached s words).network) c.self.view_is
    (λ a f. quiet_solves (csp_of i.problem.now) c.denotes_csp.ensures.csp words (sym (stands_as i.problem.now i.parts i.events i.spent c.state.result c.self.invariant c.state.ensures.machine words a f) ∙ quiet)) a f

pub returns-clause-refuted : goal.returns-clause-refuted
returns-clause-refuted c = λ words a f no.
    let i = c.self.inside in
    subst (λ (s : LossyState). IsAfter s words → s.spent ≡ false → HasNoSolution (csp_of s.problem)) c.self.view_is
    (λ a f. refuted_has_none (csp_of i.problem.now) c.denotes_csp.ensures.csp words (sym (stands_as i.problem.now i.parts i.events i.spent c.state.result c.self.invariant c.state.ensures.machine words a f) ∙ no)) a f
