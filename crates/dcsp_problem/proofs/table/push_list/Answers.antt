use Rattle.std.proofs.Common.{◌≡◌, ◌+◌, arith, ap, length}
use Rattle.std.proofs.lemmas.List.{length-append}
use Rattle.dcsp_problem.proofs.PieceLaws.{pieces_push}
use Rattle.dcsp_problem.proofs.table.push_list.Goals as goal

pub returns-clause-list : goal.returns-clause-list
returns-clause-list c =
    let size = ap length c.in_ok-append.ensures in
    let long = length-append c.args.numbers.now.items c.args.list.now in
    let is : c.len.result ≡ length c.args.numbers.now.items + length c.args.list.now = omega arith in
    rw (c.in_ok-append.ensures, c.in_ok-push.ensures.items) (pieces_push c.args.numbers.now.items c.args.places.now.items c.args.list.now c.len.result c.requires is)
