use Rattle.std.proofs.Common.{length, arith}
use Rattle.fzn_scope.specs.declared.names.Declared.TheVariants as declared
use Rattle.fzn_model.proofs.Sound.{sound_with}
use Rattle.fzn_model.proofs.resolver.Resolver.array.Goals as goal

pub add_members-requires : goal.add_members-requires
add_members-requires c = rw c.items.ensures (c.in_ok-terms.ensures.known (length c.args.self.now.builder.domains) c.requires.sound)

pub add_array_output-requires-clause-known : goal.add_array_output-requires-clause-known
add_array_output-requires-clause-known c = rw (c.items-2.ensures, c.in_ok-add_members.ensures.domains) (c.in_ok-terms.ensures.known (length c.args.self.now.builder.domains) c.requires.sound)

pub returns-clause-sound : goal.returns-clause-sound
returns-clause-sound c =
    let variables = length c.args.self.now.builder.domains in
    rw (c.in_ok-add_array_output.ensures.domains, c.in_ok-add_members.ensures.domains)
    (sound_with variables variables (omega arith) c.args.self.now.names c.declare.new.self c.args.declaration.name.now (declared.Many c.is_boolean.result c.args.declaration.variable c.in_ok-terms.terms) c.in_ok-declare.ensures.ok c.requires.sound (c.in_ok-terms.ensures.known variables c.requires.sound))
