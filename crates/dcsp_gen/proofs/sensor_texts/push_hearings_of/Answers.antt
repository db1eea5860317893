use Rattle.std.proofs.Common.{ℕ, ◌++◌, List, string_bytes, flat_map, ap, ◌∙◌}
use Rattle.dcsp_gen.specs.Sensors.{hearing, hearing_line}
use Rattle.dcsp_gen.proofs.sensor_texts.push_hearings_of.Goals as goal

pub returns : goal.returns
returns c =
    let before = string_bytes c.args.text.now in
    let rows : List (ℕ × ℕ) = hearing c.args.side c.args.sensors.now in
    c.in_ok-push_hearings.ensures
    ∙ ap (λ (z : List (ℕ × ℕ)). before ++ flat_map (hearing_line c.args.target z) c.deref-2.result.now) (c.deref.ensures.value ∙ c.in_ok-rows.ensures)
    ∙ ap (λ (z : List (ℕ × ℕ)). before ++ flat_map (hearing_line c.args.target rows) z) (c.deref-2.ensures.value ∙ c.in_ok-pairs.ensures)
