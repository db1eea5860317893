use Rattle.std.proofs.Common.{◌≡◌, sym, ap, ◌∙◌, not, ◌&&◌, Some, None, Bool, true, false, rules, w64, SFits, refl}
use Rattle.std.proofs.lemmas.Int.{to_z-of_z}
use Rattle.std.specs.Option.{option_map}
use Rattle.dcsp_defs.specs.declared.nogood.Pair.{Pair}
use Rattle.dcsp_defs.specs.Pairs.{value_at}
use Rattle.dcsp_rule.specs.Problems.{csp_of}
use Rattle.abt_defs.specs.Steps as steps
use Rattle.abt_parts.specs.Stores.{records_of}
use Rattle.abt_agent.specs.Bodies.{agent_of}
use Rattle.abt_agent.proofs.Proper.{lowest_proper, refused_same}
use Rattle.abt_agent.proofs.body.AgentBody.is_wanted.Goals as goal

pub returns-then-fits-clause-wanted : goal.returns-then-fits-clause-wanted
returns-then-fits-clause-wanted c =
    let me = c.args.self.now.known.me in
    let store = c.args.self.now.known.store in
    let v = c.in-Some.lowest.value in
    let fits : SFits w64 v = search rules in
    let out = simp to_z-of_z at c.rules_out.ensures in
    let given : Some v ≡ value_at c.args.nogood.now me = ap (option_map (λ (pair : Pair). pair.value)) c.in-Some.ensures ∙ lowest_proper (csp_of c.args.self.now.known.problem.now) me c.args.nogood.now c.requires.nogood in
    let refused : c.rules_out.result ≡ steps.is_refused me (records_of store) (value_at c.args.nogood.now me) =
    out ∙ sym (refused_same (csp_of c.args.self.now.known.problem.now) me store v c.requires.kept) ∙ ap (steps.is_refused me (records_of store)) given in
    ap not refused ∙ ap (λ b. b && not (steps.is_refused me (records_of store) (value_at c.args.nogood.now me))) (sym c.if-fits.true ∙ c.requires.fits)

and_false : (b : Bool) → false ≡ (b && false)
and_false true = refl
and_false false = refl

pub returns-in-None-clause-wanted : goal.returns-in-None-clause-wanted
returns-in-None-clause-wanted c =
    let me = c.args.self.now.known.me in
    let given : None ≡ value_at c.args.nogood.now me = ap (option_map (λ (pair : Pair). pair.value)) c.in-None.ensures ∙ lowest_proper (csp_of c.args.self.now.known.problem.now) me c.args.nogood.now c.requires.nogood in
    and_false (steps.fits me c.args.nogood.now (agent_of c.args.self.now)) ∙ ap (λ o. steps.fits me c.args.nogood.now (agent_of c.args.self.now) && not (steps.is_refused me (records_of c.args.self.now.known.store) o)) given
