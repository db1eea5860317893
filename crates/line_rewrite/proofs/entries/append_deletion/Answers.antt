use Rattle.std.proofs.Common.{ℕ, List, [], ◌∷◌, ◌++◌, sym, ap, ◌∙◌}
use Rattle.std.proofs.lemmas.Bool.{eqb-false}
use Rattle.dcsp_script.specs.Scripts.{Append}
use Rattle.ngd_log.specs.EntryTexts.{deletion_line}
use Rattle.line_rewrite.proofs.Writing.{wrote_as}
use Rattle.line_rewrite.proofs.Deleting.{one_deletion}
use Rattle.line_rewrite.proofs.entries.append_deletion.Goals as goal

pub returns-clause-wrote : goal.returns-clause-wrote
returns-clause-wrote g c = λ out.
    let numbers = c.args.numbers.now in
    let line = c.deref.ensures.value ∙ c.in_ok-write_deletion.ensures.ok ∙ ap (λ (bytes : List ℕ). bytes ++ deletion_line numbers) c.clear.ensures.items in
    wrote_as (ap (λ (bytes : List ℕ). Append c.args.name.now bytes ∷ []) line ∙ one_deletion c.args.name.now numbers (λ e. eqb-false _ _ (sym c.if-is_empty.ensures) e)) (c.append.ensures.wrote out)
