use Rattle.std.proofs.Common.{subst, sym, refl, ◌∙◌, arith}
use Rattle.std.specs.Prelude.{Contains}
use Rattle.std.proofs.lemmas.Option.{slice_get_within, get_or_from_slice_get}
use Rattle.dcsp_script.proofs.Left.{left_all, left_more, left_stopped, left_ends}
use Rattle.dcsp_script.proofs.Lines.{wrote_nothing}
use Rattle.rup_check.specs.ProofText.{clause_line}
use Rattle.line_export.proofs.Written.{items_left, items_done}
use Rattle.line_export.proofs.write.append_clauses.Goals as goal

pub loop-place-init : goal.loop-place-init
loop-place-init g c = record { left = λ out. left_all _ _; created = c.requires.created; same = refl }

pub returns-in_err-append_clause-clause-wrote : goal.returns-in_err-append_clause-clause-wrote
returns-in_err-append_clause-clause-wrote g c =
    let xs = c.args.clauses.now in
    let x = c.clause.result.now in
    let k = c.loop-place.place in
    let split = items_left c.args.name.now clause_line xs k x (slice_get_within xs k x c.clause.ensures) (sym (get_or_from_slice_get xs k x x c.clause.ensures)) in
    λ out. left_stopped _ _ _ split c.from_residual.ensures (c.loop-place.invariant.left out) (c.in_err-append_clause.ensures.wrote out)

pub loop-place-preserved : goal.loop-place-preserved
loop-place-preserved g c =
    let xs = c.args.clauses.now in
    let x = c.clause.result.now in
    let k = c.loop-place.place in
    let split = items_left c.args.name.now clause_line xs k x (slice_get_within xs k x c.clause.ensures) (sym (get_or_from_slice_get xs k x x c.clause.ensures)) in
    record {
      left = λ out. left_more _ split (c.loop-place.invariant.left out) (c.in_ok-append_clause.ensures.wrote out);
      created = subst (λ names. Contains names c.args.name.now) (sym c.in_ok-append_clause.ensures.created) c.loop-place.invariant.created;
      same = c.in_ok-append_clause.ensures.created ∙ c.loop-place.invariant.same;
    }

pub returns-clause-wrote : goal.returns-clause-wrote
returns-clause-wrote g c =
    let all = c.len-place-end.ensures.len in
    λ out. left_ends _ (items_done c.args.name.now clause_line c.args.clauses.now c.loop-place.place (omega (arith, all))) (c.loop-place.invariant.left out) wrote_nothing
