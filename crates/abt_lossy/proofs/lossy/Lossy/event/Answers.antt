use Rattle.std.proofs.Common.{◌≡◌, false, ℕ, ◌+◌, ◌∷◌, [], ◌++◌, ◌∙◌, subst}
use Rattle.dcsp_rule.specs.Problems.{csp_of}
use Rattle.abt_lossy.specs.InWorld.{LossyState, CanHappen, Happens, IsAfter}
use Rattle.abt_lossy.specs.Kept.{shown}
use Rattle.abt_lossy.proofs.Making.{can_be_made, can_of, happens, keeps, still_begun, orderly}
use Rattle.abt_lossy.proofs.lossy.Lossy.event.Goals as goal

pub event-requires : goal.event-requires
event-requires c =
    let i = c.self.inside in
    let can = can_of (shown i.problem.now i.parts i.events i.spent) c.args.self.now c.self.view_is c.requires c.if-self.false in
    record { reached = can_be_made i.problem.now i.parts i.events i.spent (c.self.invariant.kept c.if-self.false) can }

pub invariant_of-self : goal.invariant_of-self
invariant_of-self c =
    let i = c.self.inside in
    let can = can_of (shown i.problem.now i.parts i.events i.spent) c.args.self.now c.self.view_is c.requires c.if-self.false in
    record {
      problem = c.event.ensures.problem ∙ c.self.invariant.problem;
      kept = λ _. keeps i.problem.now i.parts c.event.new.self i.events i.spent c.args.word c.in-Ok.happened (c.self.invariant.kept c.if-self.false) can c.in-Ok.ensures.does;
    }

pub returns-in-Ok-clause-happens : goal.returns-in-Ok-clause-happens
returns-in-Ok-clause-happens c words =
    let i = c.self.inside in
    let can = can_of (shown i.problem.now i.parts i.events i.spent) c.args.self.now c.self.view_is c.requires c.if-self.false in
    subst (λ (s : LossyState). IsAfter s words → Happens s (shown i.problem.now c.event.new.self (i.events + 1) i.spent) words c.args.word c.in-Ok.happened) c.self.view_is
    (happens i.problem.now i.parts c.event.new.self i.events i.spent i.spent c.args.word c.in-Ok.happened (c.self.invariant.kept c.if-self.false) can c.in-Ok.ensures.does words)

pub returns-in-Ok-clause-orderly : goal.returns-in-Ok-clause-orderly
returns-in-Ok-clause-orderly c = λ words a. orderly (csp_of c.self.inside.problem.now) c.denotes_csp.ensures.csp (words ++ c.args.word ∷ [])

pub returns-in-Ok-clause-begun : goal.returns-in-Ok-clause-begun
returns-in-Ok-clause-begun c =
    let i = c.self.inside in
    let can = can_of (shown i.problem.now i.parts i.events i.spent) c.args.self.now c.self.view_is c.requires c.if-self.false in
    still_begun i.problem.now i.parts c.event.new.self i.events i.spent c.args.word c.in-Ok.happened (c.self.invariant.kept c.if-self.false) can c.in-Ok.ensures.does
