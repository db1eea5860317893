use Rattle.std.proofs.Common.{◌≡◌, ℕ, ◌++◌, ◌+◌, ◌-◌, List, string_bytes, ap, sym, ◌∙◌, append_assoc, arith}
use Rattle.dcsp_gen.proofs.Ranges.{flat_map_more}
use Rattle.dcsp_gen.specs.Binary.{value_line, value_lines}
use Rattle.dcsp_gen.proofs.binary_texts.push_value_lines.Goals as goal

pub loop-number-preserved : goal.loop-number-preserved
loop-number-preserved c =
    let n = c.loop-number.number in
    let line = value_line c.args.high in
    let before = string_bytes c.args.text.now in
    let more : value_lines c.args.high (n + 1 - 1) ≡ value_lines c.args.high (n - 1) ++ line n =
    let shape : n + 1 - 1 ≡ (n - 1) + 1 = omega (arith, c.loop-number.auto.number) in
    rw shape (flat_map_more line 1 (n - 1) n (omega (arith, c.loop-number.auto.number))) in
    c.in_ok-push_value_line.ensures
    ∙ ap (λ (t : List ℕ). t ++ line n) c.loop-number.invariant
    ∙ append_assoc before (value_lines c.args.high (n - 1)) (line n)
    ∙ ap (λ (t : List ℕ). before ++ t) (sym more)
