use Rattle.std.proofs.Common.{ℕ, ◌++◌, List, string_bytes, ap, ◌∙◌}
use Rattle.dcsp_gen.specs.Lists.{domain}
use Rattle.dcsp_gen.proofs.Ranges.{appended}
use Rattle.dcsp_gen.proofs.meeting_texts.push_copy.Goals as goal

pub returns : goal.returns
returns c =
    let before = string_bytes c.args.text.now in
    appended before _ _ _ _ (c.in_ok-push_domain.ensures ∙ ap (λ (hours : List ℕ). before ++ domain hours) c.list_of.ensures) c.in_ok-write.ensures.bytes
