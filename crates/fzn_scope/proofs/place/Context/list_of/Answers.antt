use Rattle.std.specs.Prelude.{All, []}
use Rattle.std.proofs.lemmas.List.Elements.{All-nil}
use Rattle.fzn_item.specs.declared.item.Expr.TheVariants as expr
use Rattle.dcsp_rule.specs.Rules.{IsTermOf}
use Rattle.fzn_scope.specs.Known.{AreKnown}
use Rattle.fzn_scope.specs.Places.{terms_after, list_of}
use Rattle.fzn_scope.proofs.Steps.{if_given_each}
use Rattle.fzn_scope.proofs.KnownLaws.{terms_known, list_known}
use Rattle.fzn_scope.proofs.place.Context.list_of.Goals as goal

pub returns-in-List-clause-known : goal.returns-in-List-clause-known
returns-in-List-clause-known c = if_given_each (λ n. AreKnown n c.args.self.names.now) (λ n terms. All (IsTermOf n) terms) c.terms_of.result (terms_after c.args.self.text.now c.args.self.names.now c.args.wanted [] c.items.result.now) c.terms_of.ensures (λ n h. terms_known n c.args.self.text.now c.args.self.names.now c.args.wanted [] c.items.result.now h (All-nil (IsTermOf n)))

pub returns-in-One-clause-known : goal.returns-in-One-clause-known
returns-in-One-clause-known c = if_given_each (λ n. AreKnown n c.args.self.names.now) (λ n terms. All (IsTermOf n) terms) c.array_of.result (list_of c.args.self.text.now c.args.self.names.now c.args.wanted (expr.One c.in-One.atom)) c.array_of.ensures (λ n h. list_known n c.args.self.text.now c.args.self.names.now c.args.wanted (expr.One c.in-One.atom) h)
