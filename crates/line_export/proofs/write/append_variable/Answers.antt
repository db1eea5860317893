use Rattle.std.proofs.Common.{ℕ, List, [], ◌∷◌, map, subst, sym, refl, ap, ◌∙◌, arith, rules, w64, SFits}
use Rattle.std.proofs.lemmas.Int.{to_z-of_z}
use Rattle.std.specs.Prelude.{Contains}
use Rattle.std.proofs.lemmas.Option.{slice_get_within, get_or_from_slice_get}
use Rattle.dcsp_script.specs.Scripts.{Append}
use Rattle.dcsp_script.proofs.Left.{left_all, left_more, left_stopped, left_ends}
use Rattle.dcsp_script.proofs.Lines.{wrote_nothing}
use Rattle.dcsp_rule.specs.Problems.{csp_of}
use Rattle.line_rewrite.specs.UpgradePromise.{appends}
use Rattle.line_rewrite.proofs.Writing.{wrote_as, left_memory}
use Rattle.line_export.specs.Texts.{atom_line}
use Rattle.line_export.proofs.Written.{items_left, items_done}
use Rattle.line_export.proofs.write.append_variable.Goals as goal

pub loop-place-init : goal.loop-place-init
loop-place-init g c = record { left = λ out. left_all _ _; created = c.requires.created; same = refl }

pub returns-in_err-line-clause-wrote : goal.returns-in_err-line-clause-wrote
returns-in_err-line-clause-wrote g c = λ out.
    let f = atom_line (csp_of c.args.atoms.now.problem.now) c.args.var in
    wrote_as (ap (λ ds. appends c.args.name.now (map f ds)) c.domain-domain.ensures) (left_memory _ c.from_residual.ensures (c.loop-place.invariant.left out))

pub returns-in_err-append-clause-wrote : goal.returns-in_err-append-clause-wrote
returns-in_err-append-clause-wrote g c =
    let f = atom_line (csp_of c.args.atoms.now.problem.now) c.args.var in
    let ds = c.domain-domain.result.now in
    let v = c.value-value.result in
    let k = c.loop-place.place in
    let split = items_left c.args.name.now f ds k v (slice_get_within ds k v c.value-value.ensures) (sym (get_or_from_slice_get ds k v v c.value-value.ensures)) in
    let in_range : SFits w64 v = search rules in
    let line = c.deref.ensures.value ∙ c.in_ok-line.ensures ∙ ap f (to_z-of_z w64 v in_range) in
    λ out. wrote_as (ap (λ xs. appends c.args.name.now (map f xs)) c.domain-domain.ensures)
    (left_stopped _ _ _ split c.from_residual-in_err-append.ensures (c.loop-place.invariant.left out) (wrote_as (ap (λ (b : List ℕ). Append c.args.name.now b ∷ []) line) (c.in_err-append.ensures.wrote out)))

pub loop-place-preserved : goal.loop-place-preserved
loop-place-preserved g c =
    let f = atom_line (csp_of c.args.atoms.now.problem.now) c.args.var in
    let ds = c.domain-domain.result.now in
    let v = c.value-value.result in
    let k = c.loop-place.place in
    let split = items_left c.args.name.now f ds k v (slice_get_within ds k v c.value-value.ensures) (sym (get_or_from_slice_get ds k v v c.value-value.ensures)) in
    let in_range : SFits w64 v = search rules in
    let line = c.deref.ensures.value ∙ c.in_ok-line.ensures ∙ ap f (to_z-of_z w64 v in_range) in
    record {
      left = λ out. left_more _ split (c.loop-place.invariant.left out) (wrote_as (ap (λ (b : List ℕ). Append c.args.name.now b ∷ []) line) (c.in_ok-append.ensures.wrote out));
      created = subst (λ names. Contains names c.args.name.now) (sym c.in_ok-append.ensures.created) c.loop-place.invariant.created;
      same = c.in_ok-append.ensures.created ∙ c.loop-place.invariant.same;
    }

pub returns-clause-wrote : goal.returns-clause-wrote
returns-clause-wrote g c =
    let f = atom_line (csp_of c.args.atoms.now.problem.now) c.args.var in
    let ds = c.domain-domain.result.now in
    let all = c.len-place-end.ensures.len in
    λ out. wrote_as (ap (λ xs. appends c.args.name.now (map f xs)) c.domain-domain.ensures) (left_ends _ (items_done c.args.name.now f ds c.loop-place.place (omega (arith, all))) (c.loop-place.invariant.left out) wrote_nothing)
