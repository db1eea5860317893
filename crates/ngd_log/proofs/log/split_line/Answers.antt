use Rattle.std.specs.Prelude.{None, Some, IfNone}
use Rattle.ngd_log.specs.Lines.{HasNoLineFeed}
use Rattle.ngd_log.proofs.LineFeeds.{first_found, first_is_line, none_found}
use Rattle.ngd_log.proofs.log.split_line.Goals as goal

pub returns-clause-first : goal.returns-clause-first
returns-clause-first c = rw (c.split_at.ensures.front, c.split_at.ensures.back) (first_found c.args.text.now c.in_ok-at.at c.in_ok-at.ensures.0 c.in_ok-at.ensures.1)

pub returns-clause-whole : goal.returns-clause-whole
returns-clause-whole c = rw c.split_at.ensures.front (first_is_line c.args.text.now c.in_ok-at.at c.in_ok-at.ensures.0 c.in_ok-at.ensures.1)

pub returns-in_err-at-clause-none : goal.returns-in_err-at-clause-none
returns-in_err-at-clause-none c =
    elim c.from_residual.result as (λ r. IfNone r (HasNoLineFeed c.args.text.now)) [ None ↦ none_found c.args.text.now c.in_err-at.ensures | Some x ↦ tt ]
