use Rattle.std.proofs.Common.{rules, ◌≡◌, ◌++◌, ◌∙◌, get_or, refl, sym, ap, to_z, of_z, w16}
use Rattle.std.specs.Prelude.{ℤ, pos}
use Rattle.std.specs.Int.RustNames.{FitsSigned}
use Rattle.std.proofs.lemmas.Int.{to_z-of_z}
use Rattle.rup_check.specs.ProofText.{literal_text}
use Rattle.line_cnf.proofs.RowLines.{reads_none, reads_literal, reads_end, reads_stopped, reads_lacking, reads_all}
use Rattle.line_cnf.proofs.proof.append_clauses.Goals as goal
use Rattle.line_cnf.proofs.proof.append_clauses.Goals.{then-is_end+in_ok-append_line, else-is_end+in_ok-push_literal}

pub loop-literal-init : goal.loop-literal-init
loop-literal-init g c = reads_none c.args.name.now c.args.row.now _ _ c.new-line.ensures.items c.requires

pub returns-in_err-append_line : goal.returns-in_err-append_line
returns-in_err-append_line g c = λ out.
    let z = get_or c.args.row.now c.loop-literal.literal-index (pos 0) in
    let fits : FitsSigned w16 z = search rules in
    reads_stopped c.args.name.now c.args.row.now _ _ _ _ c.loop-literal.invariant (pos 0) z c.loop-literal-test.true refl (sym (to_z-of_z w16 z fits) ∙ c.is_end.ensures.0 c.if-is_end.true) _ _ c.from_residual.ensures out (c.in_err-append_line.ensures.wrote out)

pub returns-in_err-push_literal : goal.returns-in_err-push_literal
returns-in_err-push_literal g c = λ out. reads_lacking c.args.name.now c.args.row.now _ _ _ _ c.loop-literal.invariant _ c.from_residual-in_err-push_literal.ensures out

pub loop-literal-preserved : goal.loop-literal-preserved
loop-literal-preserved g c =
    let z = get_or c.args.row.now c.loop-literal.literal-index (pos 0) in
    let fits : FitsSigned w16 z = search rules in
    let same : to_z w16 (of_z w16 z) ≡ z = to_z-of_z w16 z fits in
    elim c.if-is_end.branch [
      | then-is_end+in_ok-append_line w ↦ rw (w.folder-is, w.line-is) (reads_end c.args.name.now c.args.row.now _ _ _ _ c.loop-literal.invariant (pos 0) z c.loop-literal-test.true refl (sym same ∙ c.is_end.ensures.0 w.if-is_end.true) _ _ w.in_ok-append_line.ensures.emptied w.in_ok-append_line.ensures.created (λ out. w.in_ok-append_line.ensures.wrote out))
      | else-is_end+in_ok-push_literal w ↦
          rw (w.folder-is, w.line-is) (reads_literal c.args.name.now c.args.row.now _ _ _ _ c.loop-literal.invariant (pos 0) z c.loop-literal-test.true refl
          (λ (is : z ≡ pos 0). let end = c.is_end.ensures.1 (same ∙ is) in let no = w.if-is_end.false in cc) _
          (w.in_ok-push_literal.ensures ∙ ap (λ (x : ℤ). c.loop-literal.line.items ++ literal_text x) same))
    ]

pub returns : goal.returns
returns g c = λ out. reads_all c.args.name.now c.args.row.now _ _ _ _ c.loop-literal.invariant _ c.loop-literal-test.false out
