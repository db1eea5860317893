use Rattle.std.proofs.Common.{◌≡◌, ◌≢◌, [], refl, rules}
use Rattle.ngd_log.specs.Pieces.{kept}
use Rattle.ngd_log.proofs.Standings.{feeds_lost}
use Rattle.ngd_log.proofs.body.append_line.Goals as goal

pub returns-then-is_err-clause-feeds : goal.returns-then-is_err-clause-feeds
returns-then-is_err-clause-feeds c =
    let same : c.append_lent.new.into ≡ c.args.into.now = search rules in
    let some : (kept c.take_line.new.body).lent ≢ [] = search rules in
    rw same (feeds_lost (kept c.args.body.now) (kept c.take_line.new.body) _ c.args.line.now c.args.into.now some c.take_line.ensures.lent c.take_line.ensures.feeds refl refl refl)
