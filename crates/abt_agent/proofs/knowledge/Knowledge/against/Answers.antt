use Rattle.std.proofs.Common.{sym, ap, ◌∙◌, rules, w64, SFits}
use Rattle.std.specs.Option.{option_map}
use Rattle.std.proofs.lemmas.Int.{to_z-of_z}
use Rattle.abt_parts.specs.Stores.{place_against}
use Rattle.abt_agent.specs.declared.search.Cause.TheVariants.{KeptNogood}
use Rattle.abt_agent.proofs.Against.{against_placed}
use Rattle.abt_agent.proofs.knowledge.Knowledge.against.Goals as goal

pub returns-in-Some-clause-cause : goal.returns-in-Some-clause-cause
returns-in-Some-clause-cause c =
    let fits : SFits w64 c.args.value = search rules in
    let store = c.args.self.now.store in
    ap (option_map (λ place. KeptNogood place)) (sym c.in-Some.is ∙ c.against.ensures ∙ ap (λ w. place_against w store) (to_z-of_z w64 c.args.value fits)) ∙ against_placed c.args.value 0 store

pub returns-in-None-clause-cause : goal.returns-in-None-clause-cause
returns-in-None-clause-cause c =
    let fits : SFits w64 c.args.value = search rules in
    let store = c.args.self.now.store in
    ap (option_map (λ place. KeptNogood place)) (sym c.in-None.is ∙ c.against.ensures ∙ ap (λ w. place_against w store) (to_z-of_z w64 c.args.value fits)) ∙ against_placed c.args.value 0 store
