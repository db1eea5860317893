use Rattle.std.specs.Prelude.{All, IsTrue}
use Rattle.dcsp_rule.specs.Rules.{IsTermOf, terms_of, has_shape}
use Rattle.fzn_scope.specs.Known.{AreKnown}
use Rattle.fzn_scope.specs.Rules.{constraint_rule}
use Rattle.fzn_scope.proofs.Steps.{if_rule, if_rule_each}
use Rattle.fzn_scope.proofs.KnownLaws.{constraint_known}
use Rattle.fzn_scope.proofs.ShapeLaws.{constraint_shape}
use Rattle.fzn_scope.proofs.place.Context.constraint_rule.Goals as goal

pub returns-clause-shape : goal.returns-clause-shape
returns-clause-shape c = if_rule (λ rule. IsTrue (has_shape rule)) c.checked_rule.result (constraint_rule c.args.self.text.now c.args.self.names.now c.args.at c.args.name.now c.requires.0) (c.checked_rule.ensures c.requires.0 c.requires.1) (constraint_shape c.args.self.text.now c.args.self.names.now c.args.at c.args.name.now c.requires.0)

pub returns-clause-known : goal.returns-clause-known
returns-clause-known c = if_rule_each (λ n. AreKnown n c.args.self.names.now) (λ n rule. All (IsTermOf n) (terms_of rule)) c.checked_rule.result (constraint_rule c.args.self.text.now c.args.self.names.now c.args.at c.args.name.now c.requires.0) (c.checked_rule.ensures c.requires.0 c.requires.1) (λ n h. constraint_known n c.args.self.text.now c.args.self.names.now c.args.at c.args.name.now c.requires.0 h)
