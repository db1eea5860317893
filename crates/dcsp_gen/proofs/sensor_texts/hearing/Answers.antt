use Rattle.std.proofs.Common.{filter, rules, ◌∙◌, ap}
use Rattle.std.proofs.lemmas.Fn.{filter_same}
use Rattle.dcsp_gen.specs.Sensors.{hear}
use Rattle.dcsp_gen.proofs.sensor_texts.hearing.Goals as goal

pub returns : goal.returns
returns c = filter_same _ _ _ (λ x b f' k. search rules) _ _ c.retain.ensures.filtered ∙ ap (filter (hear c.args.side)) c.in_ok-list.ensures
