use Rattle.std.proofs.Common.{length}
use Rattle.fzn_model.proofs.resolver.Resolver.constraint.Goals as goal

pub add_rule-requires-clause-known : goal.add_rule-requires-clause-known
add_rule-requires-clause-known c = c.in_ok-rule.ensures.known (length c.args.self.now.builder.domains) c.requires.sound
