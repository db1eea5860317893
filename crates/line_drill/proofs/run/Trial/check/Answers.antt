use Rattle.std.proofs.Common.{refl, arith}
use Rattle.std.specs.FinMap as map
use Rattle.abt_input.proofs.Files.{read_held}
use Rattle.line_check.specs.Checks.{IsFoundFor, log_for}
use Rattle.line_check.proofs.Lawful.{log_exact}
use Rattle.line_drill.specs.Drills.{log_name}
use Rattle.line_drill.proofs.Trials.{said_of, sure_error}
use Rattle.line_drill.proofs.run.Trial.check.Goals as goal

pub lacked-requires : goal.lacked-requires
lacked-requires c =
    let has = c.requires in
    sure_error {kind = log_for c.args.self.now.problem} (λ name. map.get c.args.self.now.folder.files name) log_name has.0 c.in-Err.ensures.found refl has.1 ((log_exact c.args.self.now.problem).apart has.0 has.2 c.in-Err.error has.3) (λ rose. omega (arith, rose))

pub returns-in-Ok-clause-found : goal.returns-in-Ok-clause-found
returns-in-Ok-clause-found c = λ log held.
    said_of (λ name. map.get c.args.self.now.folder.files name) log_name log (λ bytes. IsFoundFor c.args.self.now.problem bytes c.in-Ok.finding) held (read_held c.in-Ok.ensures.found)
