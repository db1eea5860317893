use Rattle.std.proofs.Common.{Err, subst}
use Rattle.dcsp_rule.specs.Problems.{Contents}
use Rattle.fzn_model.specs.Models.{AnswersOrLacks}
use Rattle.abt_input.proofs.Models.{told_as, no_fault}
use Rattle.abt_input.proofs.Files.{unless_fault}
use Rattle.abt_input.proofs.read.read_model.Goals as goal

pub returns-in-Err : goal.returns-in-Err
returns-in-Err g c =
    let e = c.in-Ok.ensures in
    record {
      read = (e.read.0, e.read.1, rw c.model_error.ensures (told_as e.read.0 c.in-Err.error e.read.2.1 (subst (λ x. AnswersOrLacks x (Err c.in-Err.error)) e.read.2.0 c.in-Err.ensures)));
      held = e.held;
      created = e.created;
      counts = unless_fault {T = Contents} (Err c.model_error.result) e.counts;
      fault = λ f. absurd (no_fault c.in-Err.error c.model_error.result c.model_error.ensures (let k = f in cc));
    }
