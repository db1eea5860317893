use Rattle.std.proofs.Common.{◌≡◌, ◌∙◌, ◌∷◌, [], List, ap, rules, ℕ}
use Rattle.dcsp_rule.specs.Problems.{Contents, csp_of}
use Rattle.dcsp_script.specs.Scripts.{Put}
use Rattle.abt_network.specs.Standing.{standing_of}
use Rattle.abt_session.proofs.Pieces.{wrote_as}
use Rattle.line_story.specs.StoryPromise.{story_line}
use Rattle.line_story.proofs.teller.Teller.answer.Goals as goal

pub returns : goal.returns
returns g c = λ net folder st.
    let q = c.args.self.now.model.problem.now in
    let stands : c.state.result ≡ standing_of (csp_of q) net = c.state.ensures.machine net st c.requires.ready.sound ∙ ap (λ (p : Contents). standing_of (csp_of p) net) c.requires.ready.problem in
    let count : c.deliveries.result ≡ net.deliveries = c.deliveries.ensures ∙ st.deliveries in
    let text : c.bytes.result.now ≡ story_line c.state.result c.deliveries.result = search rules in
    wrote_as (ap (λ (t : List ℕ). Put t ∷ []) (text ∙ ap (story_line c.state.result) count ∙ ap (λ end. story_line end net.deliveries) stands)) (c.put.ensures folder)
