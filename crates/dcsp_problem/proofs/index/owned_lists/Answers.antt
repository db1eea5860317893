use Rattle.std.proofs.Common.{◌≡◌, ℕ, ◌<◌, ◌+◌, List, map, take, arith, rules, ap, length, ◌∙◌, sym, subst, vec_len, [], ◌∷◌, ◌++◌, Option}
use Rattle.std.specs.Prelude.{All}
use Rattle.std.proofs.lemmas.List.{take_more}
use Rattle.std.proofs.lemmas.Option.{get_or_from_slice_get}
use Rattle.dcsp_defs.specs.Words.{below}
use Rattle.dcsp_problem.specs.Owners.{last_of, owned_among, with_owned}
use Rattle.dcsp_problem.proofs.OwnerLists.{length-map_below, with_owned_is}
use Rattle.dcsp_problem.proofs.Reading.{last_inside}
use Rattle.dcsp_problem.proofs.index.owned_lists.Goals as goal

pub push_owned-requires : goal.push_owned-requires
push_owned-requires c =
    let scope = c.list.result.now in
    let within : c.loop-rule.rule < length c.args.scopes.now = omega arith in
    let is = get_or_from_slice_get c.args.scopes.now c.loop-rule.rule scope scope c.list.ensures in
    let all = subst (λ (z : List ℕ). All (λ v. v < c.args.variables) z) is (c.requires.inside c.loop-rule.rule scope within) in
    let owner : c.copied-owner.result ≡ last_of scope = c.copied-owner.ensures ∙ c.last.ensures.value in
    let size = ap length c.loop-rule.invariant in
    let many = length-map_below (owned_among (take c.loop-rule.rule c.args.scopes.now)) c.args.variables in
    let as_many : vec_len c.loop-rule.owned ≡ c.args.variables = omega arith in
    rw (owner, as_many) (last_inside c.args.variables scope all)

pub loop-rule-preserved : goal.loop-rule-preserved
loop-rule-preserved c =
    let scope = c.list.result.now in
    let rule = c.loop-rule.rule in
    let before = take rule c.args.scopes.now in
    let within : rule < length c.args.scopes.now = omega arith in
    let is = get_or_from_slice_get c.args.scopes.now rule scope scope c.list.ensures in
    let all = subst (λ (z : List ℕ). All (λ v. v < c.args.variables) z) is (c.requires.inside rule scope within) in
    let owner : c.copied-owner.result ≡ last_of scope = c.copied-owner.ensures ∙ c.last.ensures.value in
    let size : rule ≡ length before = search rules in
    let more : before ++ scope ∷ [] ≡ take (rule + 1) c.args.scopes.now = ap (λ (z : List ℕ). before ++ z ∷ []) (sym is) ∙ sym (take_more c.args.scopes.now rule scope within) in
    c.in_ok-push_owned.ensures
    ∙ ap (λ (z : Option ℕ). with_owned z rule c.loop-rule.owned.items) owner
    ∙ ap (λ (z : List (List ℕ)). with_owned (last_of scope) rule z) c.loop-rule.invariant
    ∙ with_owned_is before scope c.args.variables rule size (last_inside c.args.variables scope all)
    ∙ ap (λ (z : List (List ℕ)). map (owned_among z) (below c.args.variables)) more
