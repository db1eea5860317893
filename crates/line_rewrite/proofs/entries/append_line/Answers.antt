use Rattle.std.proofs.Common.{ℕ, List, [], ◌∷◌, ap}
use Rattle.dcsp_script.specs.Scripts.{Append}
use Rattle.dcsp_script.proofs.Lines.{first_stopped}
use Rattle.line_rewrite.proofs.Writing.{wrote_as}
use Rattle.line_rewrite.proofs.entries.append_line.Goals as goal

pub returns-in_err-append-clause-wrote : goal.returns-in_err-append-clause-wrote
returns-in_err-append-clause-wrote g c = λ line others e out.
    first_stopped c.from_residual.ensures (wrote_as (ap (λ (bytes : List ℕ). Append c.args.name.now bytes ∷ []) (c.first_line.ensures.line line others e)) (c.in_err-append.ensures.wrote out))

pub returns-clause-wrote : goal.returns-clause-wrote
returns-clause-wrote g c = λ line others e out.
    wrote_as (ap (λ (bytes : List ℕ). Append c.args.name.now bytes ∷ []) (c.first_line.ensures.line line others e)) (let w = c.in_ok-append.ensures.wrote out in record { ended = w.ended; handed = w.handed })
