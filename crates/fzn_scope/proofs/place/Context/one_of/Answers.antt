use Rattle.dcsp_rule.specs.Rules.{IsTermOf}
use Rattle.fzn_scope.specs.Known.{AreKnown}
use Rattle.fzn_scope.specs.Places.{term_of}
use Rattle.fzn_scope.proofs.Steps.{if_meant_each}
use Rattle.fzn_scope.proofs.KnownLaws.{term_known}
use Rattle.fzn_scope.proofs.place.Context.one_of.Goals as goal

pub returns-in-One-clause-known : goal.returns-in-One-clause-known
returns-in-One-clause-known c = if_meant_each (λ n. AreKnown n c.args.self.names.now) IsTermOf c.term_of.result (term_of c.args.self.text.now c.args.self.names.now c.args.wanted c.in-One.atom) c.term_of.ensures (λ n h. term_known n c.args.self.text.now c.args.self.names.now c.args.wanted c.in-One.atom h)
