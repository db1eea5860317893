use Rattle.std.proofs.Common.{◌≡◌, ◌∙◌, ℕ, ◌+◌, ℤ, pos, List, [], ◌∷◌, ◌++◌, take, Option, Some, sym, ap, subst, append-nil, rules, w64, SFits, slice_get}
use Rattle.std.specs.List.{flat_map}
use Rattle.std.proofs.lemmas.Grind.{flat_map-append}
use Rattle.std.proofs.lemmas.Int.{to_z-of_z}
use Rattle.std.proofs.lemmas.List.{take_more}
use Rattle.std.proofs.lemmas.Option.{get_or_from_slice_get, slice_get_within}
use Rattle.dcsp_defs.specs.declared.Reason.{Reason}
use Rattle.dcsp_defs.specs.Csp.{domain}
use Rattle.dcsp_rule.specs.Problems.{csp_of}
use Rattle.abt_reason.specs.Causes.{value_at}
use Rattle.abt_story.specs.Telling.{ruled_by, ruled_out}
use Rattle.abt_story.specs.Texts.{ruled_text}
use Rattle.abt_story.specs.Looking.{reason_in}
use Rattle.abt_story.proofs.Growing.{piece_more}
use Rattle.abt_story.proofs.reasons.push_values.Goals as goal

value_more : (values : List ℤ) (i : ℕ) (x : ℤ) (r : Option Reason) (reasons : ℤ → Option Reason) (old now new : List ℕ) → slice_get values i ≡ Some x → r ≡ reasons x
    → now ≡ old ++ flat_map ruled_text (ruled_out (take i values) reasons) → new ≡ now ++ flat_map ruled_text (ruled_by x r) → new ≡ old ++ flat_map ruled_text (ruled_out (take (i + 1) values) reasons)
value_more values i x r reasons old now new at is e f =
    let longer : take (i + 1) values ≡ take i values ++ x ∷ [] = take_more values i x (slice_get_within values i x at) ∙ ap (λ y. take i values ++ y ∷ []) (get_or_from_slice_get values i x x at) in
    let last : ruled_out (x ∷ []) reasons ≡ ruled_by x r = append-nil (ruled_by x (reasons x)) ∙ ap (ruled_by x) (sym is) in
    let all : ruled_out (take (i + 1) values) reasons ≡ ruled_out (take i values) reasons ++ ruled_by x r =
    ap (λ l. ruled_out l reasons) longer ∙ flat_map-append (λ v. ruled_by v (reasons v)) (take i values) (x ∷ []) ∙ ap (λ l. ruled_out (take i values) reasons ++ l) last
    in
    piece_more old _ _ now new e f ∙ ap (λ t. old ++ t) (sym (ap (flat_map ruled_text) all ∙ flat_map-append ruled_text (ruled_out (take i values) reasons) (ruled_by x r)))

pub loop-place-preserved : goal.loop-place-preserved
loop-place-preserved c =
    let s = c.args.agent.now in
    let place = c.loop-place.place in
    let x = c.value.result in
    let r = c.reason.result in
    let fits : SFits w64 x = search rules in
    let there : value_at s.problem s.me place ≡ x =
    get_or_from_slice_get (domain (csp_of s.problem) s.me) place x (pos 0) (subst (λ (l : List ℤ). slice_get l place ≡ Some x) c.requires.domain c.value.ensures)
    in
    let pushed = c.in_ok-push_if_ruled.ensures ∙ ap (λ v. c.loop-place.into.items ++ flat_map ruled_text (ruled_by v r)) (to_z-of_z w64 x fits) in
    value_more c.args.domain.now place x r (reason_in s) _ _ _ c.value.ensures (c.reason.ensures ∙ ap (reason_in s) there) c.loop-place.invariant pushed
