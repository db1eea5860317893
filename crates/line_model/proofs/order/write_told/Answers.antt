use Rattle.std.proofs.lemmas.List.Elements.{Contains-push}
use Rattle.dcsp_script.proofs.Lines.{first_wrote, first_stopped}
use Rattle.line_model.proofs.order.write_told.Goals as goal

pub returns-in_err-create : goal.returns-in_err-create
returns-in_err-create g c = first_stopped c.from_residual.ensures (c.in_err-create.ensures.wrote (g.S.Sink.stream c.args.outside.now.out))

pub append-requires : goal.append-requires
append-requires g c = rw c.in_ok-create.ensures.created (Contains-push (g.F.Folder.place c.args.outside.now.folder).created c.args.name.now)

pub returns-in_err-append : goal.returns-in_err-append
returns-in_err-append g c =
    let out = g.S.Sink.stream c.args.outside.now.out in
    first_wrote (c.in_ok-create.ensures.wrote out) (first_stopped c.from_residual-in_err-append.ensures (c.in_err-append.ensures.wrote out))

pub returns : goal.returns
returns g c =
    let out = g.S.Sink.stream c.args.outside.now.out in
    first_wrote (c.in_ok-create.ensures.wrote out) (first_wrote (c.in_ok-append.ensures.wrote out) (c.put.ensures (g.F.Folder.place c.append.new.folder)))
