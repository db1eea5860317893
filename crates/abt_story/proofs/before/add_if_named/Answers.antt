use Rattle.std.proofs.Common.{◌≡◌, ◌∙◌, ◌∷◌, ◌++◌, [], Bool, List, OnOk, append-nil, ap, map, subst, sym, true, false}
use Rattle.std.specs.Prelude.{if◌then◌else◌}
use Rattle.std.specs.Option.{is_some}
use Rattle.dcsp_defs.specs.declared.nogood.Pair.{Pair}
use Rattle.abt_defs.specs.Agents.{is_among}
use Rattle.abt_agent.specs.States.{stands_for}
use Rattle.abt_story.specs.Looking.{known_at}
use Rattle.abt_story.specs.declared.before.Known.{Known}
use Rattle.abt_story.proofs.Named.{named_where}
use Rattle.abt_story.proofs.before.add_if_named.Goals as goal

pub returns-in-Some : goal.returns-in-Some
returns-in-Some c =
    let view = (stands_for c.args.agent.now).view in
    let vars = map (λ (y : Pair). y.var) c.args.nogood.now in
    let named : is_among c.args.var vars ≡ true = named_where c.args.nogood.now c.args.var ∙ ap is_some (sym c.value_of.ensures ∙ c.in-Some.is) in
    subst (λ (b : Bool). OnOk c.add_known.result (c.add_known.new.known.items ≡ c.args.known.now.items ++ map (known_at view) (if b then c.args.var ∷ [] else []))) (sym named) c.add_known.ensures

pub returns-in-None : goal.returns-in-None
returns-in-None c =
    let view = (stands_for c.args.agent.now).view in
    let vars = map (λ (y : Pair). y.var) c.args.nogood.now in
    let old : List Known = c.args.known.now.items in
    let named : is_among c.args.var vars ≡ false = named_where c.args.nogood.now c.args.var ∙ ap is_some (sym c.value_of.ensures ∙ c.in-None.is) in
    sym (append-nil old) ∙ ap (λ (b : Bool). old ++ map (known_at view) (if b then c.args.var ∷ [] else [])) (sym named)
