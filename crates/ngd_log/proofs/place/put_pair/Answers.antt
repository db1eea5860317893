use Rattle.std.proofs.Common.{append_assoc, refl}
use Rattle.ngd_log.proofs.Digits.{pairs_at}
use Rattle.ngd_log.proofs.place.put_pair.Goals as goal

pub returns-clause-text : goal.returns-clause-text
returns-clause-text c =
    let p = pairs_at c.args.number c.requires.number in
    rw (c.put.ensures.text, c.put-at.ensures.text, p.0, p.1, append_assoc) refl
