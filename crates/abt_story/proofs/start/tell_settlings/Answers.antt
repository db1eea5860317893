use Rattle.std.proofs.Common.{◌≡◌, ◌∙◌, ◌++◌, ◌∷◌, ◌+◌, suc, [], append-nil, ap, arith, sym}
use Rattle.std.specs.List.{flat_map}
use Rattle.std.specs.Prelude.{option_copied}
use Rattle.std.proofs.lemmas.Grind.{flat_map-append}
use Rattle.dcsp_defs.specs.Words.{below}
use Rattle.dcsp_rule.specs.Problems.{csp_of}
use Rattle.abt_story.specs.Looking.{first_text}
use Rattle.abt_story.proofs.Growing.{piece_more}
use Rattle.abt_story.proofs.start.tell_settlings.Goals as goal

pub loop-agent-preserved : goal.loop-agent-preserved
loop-agent-preserved c =
    let p = csp_of c.args.model.problem.now in
    let order = option_copied c.args.model.order in
    let i = c.loop-agent.agent in
    let start = c.args.into.now.items in
    let next : i + 1 ≡ suc i = omega arith in
    let more = ap (λ n. flat_map (first_text order p) (below n)) next ∙ flat_map-append (first_text order p) (below i) (i ∷ []) ∙ ap (λ t. flat_map (first_text order p) (below i) ++ t) (append-nil (first_text order p i)) in
    piece_more start _ _ _ _ c.loop-agent.invariant c.in_ok-tell_settling.ensures ∙ ap (λ t. start ++ t) (sym more)
