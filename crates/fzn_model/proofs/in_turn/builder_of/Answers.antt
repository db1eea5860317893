use Rattle.std.proofs.lemmas.Result.{err_from_is_err_and}
use Rattle.fzn_model.specs.Reading.{gave}
use Rattle.fzn_model.proofs.Turns.{finished_as}
use Rattle.fzn_model.proofs.in_turn.builder_of.Goals as goal

pub returns-in_err-take_all : goal.returns-in_err-take_all
returns-in_err-take_all c =
    let p = err_from_is_err_and c.from_residual.result c.from_residual.ensures.1 in
    rw (p.1, p.2) c.in_err-take_all.ensures.err

pub returns : goal.returns
returns c = finished_as c.args.text.now (gave c.take_all.new.self) c.finish.result c.in_ok-take_all.ensures.ok c.finish.ensures
