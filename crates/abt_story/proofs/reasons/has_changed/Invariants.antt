use Rattle.std.proofs.Common.{◌≡◌, ℤ, Option, drop, map, not}
use Rattle.std.specs.List.{list_any}
use Rattle.dcsp_defs.specs.declared.Reason.{Reason}
use Rattle.abt_story.specs.Telling.{same_reasons}
use Rattle.abt_story.specs.Looking.{reason_in}
use Rattle.abt_story.proofs.reasons.has_changed.Given as goal

abbrev pub invariant-loop-place : goal.invariant-loop-place
invariant-loop-place l = (told : ℤ → Option Reason) → l.before ≡ map told l.domain
    → list_any (λ v. not (same_reasons (told v) (reason_in l.agent v))) l.domain ≡ list_any (λ v. not (same_reasons (told v) (reason_in l.agent v))) (drop l.place l.domain)
