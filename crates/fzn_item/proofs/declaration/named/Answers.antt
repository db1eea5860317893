use Rattle.std.proofs.Common.{subst}
use Rattle.std.proofs.lemmas.Result.{err_from_is_err_and}
use Rattle.fzn_item.specs.Productions.{Fails}
use Rattle.fzn_item.specs.Marks.{AreAnnotations}
use Rattle.fzn_item.specs.Declarations.{IsNamed, RightSide}
use Rattle.fzn_item.proofs.ExprLaws.{passes_on}
use Rattle.fzn_item.proofs.DeclarationLaws.{no_annotations, no_right, named_found}
use Rattle.fzn_item.proofs.declaration.named.Goals as goal

pub returns-in_err-marked-clause-reads : goal.returns-in_err-marked-clause-reads
returns-in_err-marked-clause-reads c =
    let p = err_from_is_err_and c.from_residual.result c.from_residual.ensures.1 in
    rw (p.1, p.2) (passes_on (AreAnnotations c.args.text.now) (IsNamed c.args.text.now c.args.heading.at c.args.heading.index c.args.heading.element) c.in-Some-one_of.rest.now c.args.tokens.now _
    (no_annotations c.args.text.now c.args.heading.at c.args.heading.index c.args.heading.element c.args.tokens.now c.in-Some.rest.now c.in-Some-one_of.rest.now _ c.in-Some-one_of.name c.in-Some.ensures.reads c.in-Some-one_of.ensures.reads)
    c.in_err-marked.ensures.reads)

pub returns-in_err-right-clause-reads : goal.returns-in_err-right-clause-reads
returns-in_err-right-clause-reads c =
    let p = err_from_is_err_and c.from_residual-in_err-right.result c.from_residual-in_err-right.ensures.1 in
    rw (p.1, p.2) (passes_on (RightSide c.may_lack_right-optional.result) (IsNamed c.args.text.now c.args.heading.at c.args.heading.index c.args.heading.element) c.in_ok-marked.rest.now c.args.tokens.now _
    (λ fails. no_right c.args.text.now c.args.heading.at c.args.heading.index c.args.heading.element c.args.tokens.now c.in-Some.rest.now c.in-Some-one_of.rest.now _ c.in-Some-one_of.name c.in-Some.ensures.reads c.in-Some-one_of.ensures.reads c.in_ok-marked.marked c.in_ok-marked.rest.now c.in_ok-marked.ensures.reads
    (subst (λ b. Fails (RightSide b) c.in_ok-marked.rest.now) c.may_lack_right-optional.ensures fails))
    c.in_err-right.ensures.reads)

pub returns-clause-reads : goal.returns-clause-reads
returns-clause-reads c = named_found c.args.text.now c.args.heading.at c.args.heading.index c.args.heading.element c.args.tokens.now c.in-Some.rest.now c.in-Some-one_of.rest.now _ c.in-Some-one_of.name c.in-Some.ensures.reads c.in-Some-one_of.ensures.reads c.in_ok-marked.marked c.in_ok-marked.rest.now c.in_ok-right.rest.now c.in_ok-right.right c.in_ok-marked.ensures.reads
    (subst (λ b. RightSide b c.in_ok-marked.rest.now c.in_ok-right.right c.in_ok-right.rest.now) c.may_lack_right-optional.ensures c.in_ok-right.ensures.reads)
