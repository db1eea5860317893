use Rattle.std.proofs.Common.{◌≡◌, ℕ, ◌++◌, List, string_bytes, ap, ◌∙◌, flat_map}
use Rattle.dcsp_gen.specs.Lists.{lists_in}
use Rattle.dcsp_gen.specs.Problems.{pairs}
use Rattle.dcsp_gen.specs.Sensors.{hearing, hearing_line, hearing_lines, rise_lines}
use Rattle.dcsp_gen.proofs.Ranges.{appended}
use Rattle.dcsp_gen.proofs.sensor_texts.push_target.Goals as goal

pub returns : goal.returns
returns c =
    let target = c.args.target in
    let text = string_bytes c.push_rises.new.text in
    let tables : string_bytes c.push_hearings_of.new.text ≡ text ++ hearing_lines c.args.side (lists_in c.args.seen.now) target =
    c.in_ok-push_hearings_of.ensures ∙ ap (λ (z : List ℕ). text ++ flat_map (hearing_line target (hearing c.args.side z)) (pairs 3)) c.list_of.ensures in
    appended (string_bytes c.args.text.now) text _ (rise_lines target) (hearing_lines c.args.side (lists_in c.args.seen.now) target) c.in_ok-push_rises.ensures tables
