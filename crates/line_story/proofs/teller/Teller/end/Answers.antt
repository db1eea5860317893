use Rattle.std.proofs.Common.{◌≡◌, ◌∙◌, ◌∷◌, [], List, ap, rules, ℕ}
use Rattle.dcsp_rule.specs.Problems.{Contents, csp_of}
use Rattle.dcsp_script.specs.Scripts.{Append}
use Rattle.abt_network.specs.Standing.{standing_of}
use Rattle.abt_session.proofs.Pieces.{wrote_as}
use Rattle.line_story.specs.StoryPromise.{end_line}
use Rattle.line_story.proofs.teller.Teller.end.Goals as goal

pub returns : goal.returns
returns g c = λ net out st.
    let q = c.args.self.now.model.problem.now in
    let stands : c.state.result ≡ standing_of (csp_of q) net = c.state.ensures.machine net st c.requires.ready.sound ∙ ap (λ (p : Contents). standing_of (csp_of p) net) c.requires.ready.problem in
    let text : c.bytes.result.now ≡ end_line c.state.result = search rules in
    wrote_as (ap (λ (t : List ℕ). Append c.args.self.now.file.now t ∷ []) (text ∙ ap end_line stands)) (c.append.ensures.wrote out)
