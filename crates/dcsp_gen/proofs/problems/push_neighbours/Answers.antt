use Rattle.std.proofs.Common.{◌∷◌, ◌∙◌}
use Rattle.dcsp_gen.proofs.problems.push_neighbours.Goals as goal

pub returns : goal.returns
returns c =
    let node = c.args.node in
    λ later. c.in_ok-push_neighbour-3.ensures later ∙ c.in_ok-push_neighbour-2.ensures (node ∷ later) ∙ c.in_ok-push_neighbour.ensures (node ∷ node ∷ later)
