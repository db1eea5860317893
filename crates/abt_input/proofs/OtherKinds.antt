-- What was read as one kind was read as another, which takes of it what it says.
use Rattle.std.proofs.Common.{◌≡◌, ℕ, List, Result, Ok, Err, refl}
use Rattle.std.specs.Prelude.{IsErr, IsErrAnd}
use Rattle.dcsp_outside.specs.Outside.{Place, SameCounts, Rose}
use Rattle.dcsp_script.specs.declared.stop.Stop.{Stop}
use Rattle.dcsp_script.specs.declared.stop.Stop.TheVariants as stops
use Rattle.dcsp_script.specs.Promises.{IsFetched}
use Rattle.abt_input.specs.declared.error.CommandError.{CommandError}
use Rattle.abt_input.specs.declared.error.CommandError.TheVariants.{Fault}
use Rattle.abt_input.specs.Errors.{stop_error}
use Rattle.abt_input.specs.Kinds.{FileKind, ReadsAs}
use Rattle.abt_input.specs.Files.{HasRead}
use Rattle.abt_input.proofs.Files.{unless_fault}

module _ {kind other : FileKind} {name : List ℕ} {p q : Place} where
  -- a value gives a value, or an error that is no fault
  pub read_as : {value : kind.Value} (r : Result other.Value CommandError) → HasRead kind name p q (Ok value) → ((bytes : List ℕ) → kind.Is bytes value → ReadsAs other bytes r) → (r ≡ Err Fault → ⊥) → HasRead other name p q r
  read_as r h says sound = record {
    read = (h.read.0, h.read.1, says h.read.0 h.read.2);
    held = h.held;
    created = h.created;
    counts = unless_fault r h.counts;
    fault = λ f. absurd (sound f);
  }

  -- an error is handed on
  pub unread_as : {e : CommandError} (r : Result other.Value CommandError) → IsErr r × IsErrAnd r (λ y. y ≡ e) → HasRead kind name p q (Err e) → ((bytes : List ℕ) → ReadsAs kind bytes (Err e) → ReadsAs other bytes (Err e)) → HasRead other name p q r
  unread_as {e = e} (Ok x) is h says = absurd (let no = is.0 in cc)
  unread_as {e = e} (Err y) is h says = rw is.1 (record {
    read = (h.read.0, h.read.1, says h.read.0 h.read.2);
    held = h.held;
    created = h.created;
    counts = h.counts;
    fault = λ f. h.fault (let k = f in cc);
  })

-- a reading that was stopped
pub stopped_read : (kind : FileKind) (name : List ℕ) (p q : Place) (stop : Stop) (r : Result kind.Value CommandError) → IsErr r × IsErrAnd r (λ y. y ≡ stop_error stop) → (bytes : List ℕ) × IsFetched p q name bytes → q.held ≡ p.held → q.created ≡ p.created
    → (stop ≡ stops.Memory → SameCounts p q) → (stop ≡ stops.Fault → Rose (p.reads name) (q.reads name)) → HasRead kind name p q r
stopped_read kind name p q stop (Ok x) is bytes held created counts fault = absurd (let no = is.0 in cc)
stopped_read kind name p q stop (Err y) is bytes held created counts fault = rw is.1 (by stop counts fault)
  where
    by : (s : Stop) → (s ≡ stops.Memory → SameCounts p q) → (s ≡ stops.Fault → Rose (p.reads name) (q.reads name)) → HasRead kind name p q (Err (stop_error s))
    by stops.Memory counts fault = record { read = (bytes.0, bytes.1, tt); held = held; created = created; counts = counts refl; fault = λ f. absurd (let k = f in cc) }
    by stops.Fault counts fault = record { read = (bytes.0, bytes.1, tt); held = held; created = created; counts = tt; fault = λ f. fault refl }
