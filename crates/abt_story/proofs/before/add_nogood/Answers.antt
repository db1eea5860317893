use Rattle.std.proofs.Common.{◌≡◌, ◌∙◌, ◌++◌, ℕ, Bor, List, OnOk, Option, ap, map, subst, sym}
use Rattle.std.specs.Prelude.{option_copied}
use Rattle.dcsp_defs.specs.declared.nogood.Pair.{Pair}
use Rattle.abt_agent.specs.States.{stands_for}
use Rattle.abt_story.specs.Telling.{by_numbers}
use Rattle.abt_story.specs.Looking.{known_at}
use Rattle.abt_story.specs.declared.before.Known.{Known}
use Rattle.abt_story.proofs.Named.{each_known}
use Rattle.abt_story.proofs.before.add_nogood.Goals as goal

pub returns-in-None : goal.returns-in-None
returns-in-None c =
    let view = (stands_for c.args.agent.now).view in
    let vars = map (λ (y : Pair). y.var) c.args.nogood.now in
    let pairs : List Known = map (λ (y : Pair). known_at view y.var) c.args.nogood.now in
    let same = ap (map (λ (y : Pair). known_at view y.var)) c.pairs.ensures.pairs ∙ each_known view c.args.nogood.now
    ∙ ap (λ (o : Option (Bor (List ℕ))). map (known_at view) (by_numbers (option_copied o) vars)) (sym c.in-None.is) in
    subst (λ (l : List Known). OnOk c.add_pairs.result (c.add_pairs.new.known.items ≡ c.args.known.now.items ++ l)) same c.add_pairs.ensures
