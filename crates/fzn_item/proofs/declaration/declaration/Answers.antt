use Rattle.fzn_item.proofs.DeclarationLaws.{declaration_reads}
use Rattle.fzn_item.proofs.declaration.declaration.Goals as goal

pub returns-clause-reads : goal.returns-clause-reads
returns-clause-reads c = declaration_reads c.args.text.now c.args.first c.args.tokens.now c.in_ok-element.rest.now c.in_ok-element.element c.named.result c.in_ok-element.ensures.reads c.named.ensures.reads
