use Rattle.std.proofs.Common.{◌≡◌, Err, rules}
use Rattle.ngd_log.specs.declared.log.LogError.TheVariants.{Line}
use Rattle.ngd_log.specs.EntryReading.{good_entries}
use Rattle.line_check.proofs.log_check.LogCheck.finding.Goals as goal

pub returns-in-Ok-clause-found : goal.returns-in-Ok-clause-found
returns-in-Ok-clause-found c = λ log h short. record { entries = good_entries log; log_is = record { short = short; reads = c.in-Ok.ensures.log log h.fed }; found = c.finding.ensures.exact (good_entries log) h.taken }

pub returns-in-Ok-clause-sound : goal.returns-in-Ok-clause-sound
returns-in-Ok-clause-sound c = λ log h e. c.finding.ensures.sound (good_entries log) h.taken (let f = e in cc)

pub returns-in-Err-Line-clause-found : goal.returns-in-Err-Line-clause-found
returns-in-Err-Line-clause-found c = λ log h short.
    let is : c.finish.result ≡ Err (Line c.in-Err-Line.number) = search rules in
    record { short = short; line = c.finish.ensures.line c.in-Err-Line.number is log h.fed }
