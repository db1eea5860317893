use Rattle.std.proofs.Common.{Err, subst}
use Rattle.dcsp_rule.specs.Problems.{Contents}
use Rattle.cnf_front.specs.Formulas.{problem_of, Gives}
use Rattle.abt_input.proofs.Files.{unless_fault}
use Rattle.abt_input.proofs.Cnfs.{told_of_cnf, cnf_no_fault}
use Rattle.abt_input.proofs.read.read_formula.Goals as goal

pub returns-in-Err-clause-read : goal.returns-in-Err-clause-read
returns-in-Err-clause-read g c =
    let e = c.in-Ok.ensures in
    record {
      read = (e.read.0, e.read.1, rw c.cnf_error.ensures (told_of_cnf e.read.0 c.in-Err.error e.read.2.1 (subst (λ x. Gives {X = Contents} (λ p. p) (Err c.in-Err.error) (problem_of x)) e.read.2.0 c.in-Err.ensures.exact)));
      held = e.held;
      created = e.created;
      counts = unless_fault {T = Contents} (Err c.cnf_error.result) e.counts;
      fault = λ f. absurd (cnf_no_fault c.in-Err.error c.cnf_error.result c.cnf_error.ensures (let k = f in cc));
    }
