use Rattle.std.proofs.Common.{◌<◌, ap, length, arith}
use Rattle.std.proofs.lemmas.List.{length-map}
use Rattle.dcsp_rule.specs.Problems.{constraint_at}
use Rattle.abt_reason.specs.Named.{only_other}
use Rattle.abt_reason.proofs.FoundRules.{place_in_range, other_found}
use Rattle.abt_reason.proofs.reasons.Reasons.other_in.Goals as goal

pub index-requires : goal.index-requires
index-requires c =
    let r = c.self.inside in
    let owned = r.owned.now in
    let below : c.in-Some.at < length owned = place_in_range _ c.args.self.now owned c.args.place c.args.run.first c.args.run.end c.in-Some.at c.self.invariant.owner c.self.view_is c.requires.run c.requires.within c.in-Some.is in
    let size = ap length c.self.invariant.others_are in
    let each = length-map owned (λ rule. only_other r.agent (constraint_at r.problem.now rule).scope) in
    omega (arith, r.others.ok.0)

pub returns-in-Some : goal.returns-in-Some
returns-in-Some c =
    let owned = c.self.inside.owned.now in
    let below : c.in-Some.at < length owned = place_in_range _ c.args.self.now owned c.args.place c.args.run.first c.args.run.end c.in-Some.at c.self.invariant.owner c.self.view_is c.requires.run c.requires.within c.in-Some.is in
    other_found _ c.args.self.now owned c.self.inside.others.items c.args.run c.in-Some.at c.index.result.now c.self.invariant.owner c.self.invariant.others_are c.self.view_is c.in-Some.is below c.index.ensures
