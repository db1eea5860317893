use Rattle.std.proofs.Common.{ℕ, List, [], ◌∷◌, ◌++◌, ap, ◌∙◌}
use Rattle.dcsp_script.specs.Scripts.{Append}
use Rattle.rup_check.specs.ProofText.{clause_line}
use Rattle.line_rewrite.proofs.Writing.{wrote_as}
use Rattle.line_export.proofs.write.append_clause.Goals as goal

pub returns-clause-wrote : goal.returns-clause-wrote
returns-clause-wrote g c = λ out.
    wrote_as (ap (λ (bytes : List ℕ). Append c.args.name.now bytes ∷ []) (c.deref.ensures.value ∙ c.in_ok-push_clause.ensures ∙ ap (λ (bytes : List ℕ). bytes ++ clause_line c.args.clause.now) c.clear.ensures.items)) (c.append.ensures.wrote out)
