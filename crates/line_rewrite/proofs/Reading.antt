-- What a log that was fetched is read to.
use Rattle.std.proofs.Common.{◌≡◌, ℕ, List, length, Ok, Err, ap, subst, ◌∙◌, arith}
use Rattle.std.specs.declared.alloc.Global.{Global}
use Rattle.std.specs.declared.vec.Vec.{Vec}
use Rattle.dcsp_outside.specs.Outside.{Place}
use Rattle.ngd_log.specs.Logs.{IsLogOf, IsFirstBad}
use Rattle.ngd_rewrite.specs.Endings.{Chains, AreEndings, steps_in}
use Rattle.abt_input.specs.declared.error.CommandError.{CommandError}
use Rattle.abt_input.specs.declared.error.CommandError.TheVariants.{ModelLong, ModelRefused, NoAim, LogLong, LogLine, ScheduleLong, ScheduleLine, OrderRefused, Clauses, Fault, Memory}
use Rattle.abt_input.specs.Inputs.{IsTextOf, IsBadAt}
use Rattle.abt_input.specs.Kinds.{ReadsAs, a_log}
use Rattle.abt_input.specs.Files.{HasRead, HasLogBytes, any_log}
use Rattle.abt_input.proofs.OtherKinds.{read_as}
use Rattle.line_rewrite.specs.declared.old_log.OldLog.{OldLog}
use Rattle.line_rewrite.specs.OldLogs.{steps_of, IsOldLogOf, an_old_log}

-- a log that is too long is no log of steps
pub not_read : (bytes : List ℕ) (e : CommandError) → ReadsAs any_log bytes (Err e) → ReadsAs an_old_log bytes (Err e)
not_read bytes ModelLong h = absurd h
not_read bytes (ModelRefused error) h = absurd h
not_read bytes NoAim h = absurd h
not_read bytes LogLong h = h
not_read bytes (LogLine number) h = absurd h
not_read bytes ScheduleLong h = absurd h
not_read bytes (ScheduleLine number) h = absurd h
not_read bytes (OrderRefused error) h = absurd h
not_read bytes (Clauses error) h = absurd h
not_read bytes Fault h = tt
not_read bytes Memory h = tt

module _ (text : Vec ℕ Global) (bytes : List ℕ) (same : bytes ≡ text.items) (log : List ℕ) (h : HasLogBytes log text) where
  -- the bytes are a log
  pub is_log : (endings : Chains) → IsLogOf bytes (steps_in bytes) × AreEndings (steps_in bytes) endings → IsOldLogOf log (record { text = text; endings = endings })
  is_log endings read =
      let is = subst (λ (xs : List ℕ). IsLogOf xs (steps_in xs)) same read.0 in
      let few = h.1 in
      let long = ap length h.0 in
      record {
        bytes_are = subst (λ (xs : List ℕ). IsTextOf xs (steps_in text.items)) h.0 (record { short = omega (arith, few, long); reads = is });
        log_is = record { text = is; endings = subst (λ (xs : List ℕ). AreEndings (steps_in xs) endings) same read.1 };
      }

  -- they are none
  pub is_bad : (number : ℕ) → IsFirstBad bytes number → IsBadAt log number
  is_bad number bad = record { short = h.1; line = subst (λ (xs : List ℕ). IsFirstBad xs number) (same ∙ h.0) bad }

-- what is read is a log of steps
pub steps_read : {name : List ℕ} {p q : Place} {log : OldLog} → HasRead an_old_log name p q (Ok log) → HasRead a_log name p q (Ok (steps_of log))
steps_read {log = log} h = read_as (Ok (steps_of log)) h (λ bytes is. is.bytes_are) (λ f. let k = f in cc)

pub steps_unread : {name : List ℕ} {p q : Place} {e : CommandError} → HasRead an_old_log name p q (Err e) → HasRead a_log name p q (Err e)
steps_unread {e = e} h = record { read = (h.read.0, h.read.1, by e h.read.2); held = h.held; created = h.created; counts = h.counts; fault = λ f. h.fault (let k = f in cc) }
  where
    by : (d : CommandError) → ReadsAs an_old_log h.read.0 (Err d) → ReadsAs a_log h.read.0 (Err d)
    by d k = k
