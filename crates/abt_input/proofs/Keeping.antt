-- What a line that keeps to its plan comes to: a step for each read, for each thing found, and for the answer.
use Rattle.std.proofs.Common.{◌≡◌, ℕ, List, [], ◌∷◌, Option, Some, None, Result, Ok, Err, refl, subst, inl, inr}
use Rattle.std.specs.Prelude.{IsErr, IsErrAnd}
use Rattle.dcsp_outside.specs.Outside.{Place, Stream}
use Rattle.dcsp_rule.specs.Problems.{Contents}
use Rattle.dcsp_script.specs.declared.stop.Stop.{Stop}
use Rattle.dcsp_script.specs.declared.stop.Stop.TheVariants as stops
use Rattle.dcsp_script.specs.Scripts.{Write, World, outside}
use Rattle.dcsp_script.specs.Ways.{Did, Wrote}
use Rattle.dcsp_script.proofs.Leaves.{did_read, after_read}
use Rattle.dcsp_script.proofs.Ways.{did_nothing}
use Rattle.dcsp_script.specs.declared.status.Status.{Status}
use Rattle.dcsp_script.specs.Statuses.{IsFinal}
use Rattle.dcsp_script.specs.Promises.{IsFetched}
use Rattle.dcsp_script.specs.Runs.{Way, Answered, Refused, CameIn}
use Rattle.dcsp_script.proofs.Coming.{way_with, came_wrote}
use Rattle.dcsp_script.proofs.Fetched.{unread_names, fetched_then}
use Rattle.dcsp_script.proofs.Steps.{came_then}
use Rattle.abt_input.specs.declared.error.CommandError.{CommandError}
use Rattle.abt_input.specs.declared.error.CommandError.TheVariants.{ModelLong, ModelRefused, NoAim, LogLong, LogLine, ScheduleLong, ScheduleLine, OrderRefused, Clauses, Fault, Memory}
use Rattle.abt_input.specs.Errors.{stop_error, way_of, error_status, error_text}
use Rattle.abt_input.specs.Kinds.{FileKind, IsExact}
use Rattle.abt_input.specs.Files.{HasRead, HasOrderRead, ReadsOrder}
use Rattle.abt_input.specs.Plans.{Plan, Answer, Read, Find, promise_by, order_then, under_order, IsSoundPlan}

-- where the plan is sound, a line that keeps to it came to this
pub record Keeps (fetched created : List (List ℕ)) (plan : Plan) (old new : World) (way : Way) : Type 0 where
  came : IsSoundPlan fetched created plan → CameIn (promise_by fetched created plan) old new way

-- outermost: the plan is the line's
pub kept : {fetched created : List (List ℕ)} (plan : Plan) {old new : World} {way : Way} → IsSoundPlan fetched created plan → Keeps fetched created plan old new way → CameIn (promise_by fetched created plan) old new way
kept plan sound k = k.came sound

-- ---- an answer

module _ {fetched created : List (List ℕ)} {status : Status} {script : List Write} {a b : World} where
  answers : {T : Type 0} (r : Result T Stop) → Wrote script a b r → IsSoundPlan fetched created (Answer status script) → CameIn (promise_by fetched created (Answer status script)) a b (way_with status r)
  answers r wrote own = let x = unread_names a.folder b.folder fetched wrote.handed in came_wrote (promise_by fetched created (Answer status script)) x.0 status script r own.final x.1 refl (did_nothing a) wrote

  -- its script was made
  pub came_answer : {T : Type 0} {x : T} → Wrote script a b (Ok x) → Keeps fetched created (Answer status script) a b (Answered status)
  came_answer {x = x} wrote = record { came = answers (Ok x) wrote }

  -- the same where the status has another name
  pub came_answer_with : {T : Type 0} {x : T} (good : Status) → good ≡ status → Wrote script a b (Ok x) → Keeps fetched created (Answer status script) a b (Answered good)
  came_answer_with good is wrote = rw is (came_answer wrote)

  -- that was stopped
  pub came_stopped : {T : Type 0} {stop : Stop} (r : Result Status CommandError) → IsErr r × IsErrAnd r (λ y. y ≡ stop_error stop) → Wrote {T = T} script a b (Err stop) → Keeps fetched created (Answer status script) a b (way_of r)
  came_stopped {T = T} {stop = stop} r is wrote = by stop r is wrote
    where
      by : (s : Stop) (r : Result Status CommandError) → IsErr r × IsErrAnd r (λ y. y ≡ stop_error s) → Wrote {T = T} script a b (Err s) → Keeps fetched created (Answer status script) a b (way_of r)
      by s (Ok x) is wrote = absurd (let no = is.0 in cc)
      by stops.Fault (Err y) is wrote = rw is.1 (record { came = answers {T = T} (Err stops.Fault) wrote })
      by stops.Memory (Err y) is wrote = rw is.1 (record { came = answers {T = T} (Err stops.Memory) wrote })

-- memory was wanted before anything was written
pub came_lacking : {fetched created : List (List ℕ)} {plan : Plan} {a : World} (r : Result Status CommandError) → IsErr r × IsErrAnd r (λ y. y ≡ Memory) → Keeps fetched created plan a a (way_of r)
came_lacking {fetched = fetched} {created = created} {plan = plan} {a = a} r is = by r is
  where
    by : (r : Result Status CommandError) → IsErr r × IsErrAnd r (λ y. y ≡ Memory) → Keeps fetched created plan a a (way_of r)
    by (Ok x) is = absurd (let no = is.0 in cc)
    by (Err y) is = rw is.1 (let x = unread_names a.folder a.folder fetched refl in record { came = λ sound. record { inputs = x.0; are_held = x.1; came = inl (did_nothing a) } })

-- ---- what is found

-- it was found, and the rest was done with it
pub came_found : {fetched created : List (List ℕ)} {Value : Type 0} {Is : Value → Type 0} {next : Value → Plan} {a b : World} {way : Way} (value : Value) → Is value → Keeps fetched created (next value) a b way → Keeps fetched created (Find Value Is next) a b way
came_found {fetched = fetched} {created = created} {Value = Value} {Is = Is} {next = next} {a = a} {b = b} {way = way} value is k = record {
  came = λ sound.
      let x = k.came (found_sound fetched sound) in
      record {
        inputs = x.inputs;
        are_held = x.are_held;
        came = came_then (promise_by fetched created (Find Value Is next)) (promise_by fetched created (next value)) [] a a b (did_nothing a) (λ inputs report h. (value, is, h)) (λ before name h. (value, is, h)) way x.inputs x.came;
      };
}
  where
    found_sound : (names : List (List ℕ)) → IsSoundPlan names created (Find Value Is next) → IsSoundPlan names created (next value)
    found_sound [] sound = sound.1 value
    found_sound (name ∷ names) sound = sound.1 value

-- ---- a read

module _ (kind : FileKind) (next : kind.Value → Plan) (name : List ℕ) (fetched created : List (List ℕ)) (p q : Place) (out : Stream) where
  -- the file is refused
  refused : (e : CommandError) (bytes : List ℕ) → IsFetched p q name bytes → kind.Refuses bytes e → IsFinal (error_status e) → Did [] (outside p out) (outside q out) → q.held ≡ p.held → CameIn (promise_by (name ∷ fetched) created (Read kind next)) (outside p out) (outside q out) (Refused (error_status e) (error_text e))
  refused e bytes is refuses final did held = let x = unread_names q q fetched refl in record { inputs = bytes ∷ x.0; are_held = fetched_then p q q name fetched bytes x.0 held is x.1; came = (inl (e, refuses, refl), did, final) }

  -- it was not read
  unread : (e : CommandError) → IsExact kind → HasRead kind name p q (Err e) → CameIn (promise_by (name ∷ fetched) created (Read kind next)) (outside p out) (outside q out) (way_of (Err e))
  unread ModelLong exact h = refused ModelLong h.read.0 h.read.1 h.read.2 (exact.final h.read.0 ModelLong h.read.2) (did_read p q out h.held h.created h.counts) h.held
  unread (ModelRefused error) exact h = refused (ModelRefused error) h.read.0 h.read.1 h.read.2 (exact.final h.read.0 (ModelRefused error) h.read.2) (did_read p q out h.held h.created h.counts) h.held
  unread NoAim exact h = refused NoAim h.read.0 h.read.1 h.read.2 (exact.final h.read.0 NoAim h.read.2) (did_read p q out h.held h.created h.counts) h.held
  unread LogLong exact h = refused LogLong h.read.0 h.read.1 h.read.2 (exact.final h.read.0 LogLong h.read.2) (did_read p q out h.held h.created h.counts) h.held
  unread (LogLine number) exact h = refused (LogLine number) h.read.0 h.read.1 h.read.2 (exact.final h.read.0 (LogLine number) h.read.2) (did_read p q out h.held h.created h.counts) h.held
  unread ScheduleLong exact h = refused ScheduleLong h.read.0 h.read.1 h.read.2 (exact.final h.read.0 ScheduleLong h.read.2) (did_read p q out h.held h.created h.counts) h.held
  unread (ScheduleLine number) exact h = refused (ScheduleLine number) h.read.0 h.read.1 h.read.2 (exact.final h.read.0 (ScheduleLine number) h.read.2) (did_read p q out h.held h.created h.counts) h.held
  unread (OrderRefused error) exact h = refused (OrderRefused error) h.read.0 h.read.1 h.read.2 (exact.final h.read.0 (OrderRefused error) h.read.2) (did_read p q out h.held h.created h.counts) h.held
  unread (Clauses error) exact h = refused (Clauses error) h.read.0 h.read.1 h.read.2 (exact.final h.read.0 (Clauses error) h.read.2) (did_read p q out h.held h.created h.counts) h.held
  unread Memory exact h = let x = unread_names q q fetched refl in record { inputs = h.read.0 ∷ x.0; are_held = fetched_then p q q name fetched h.read.0 x.0 h.held h.read.1 x.1; came = inl (did_read p q out h.held h.created h.counts) }
  unread Fault exact h =
      let x = unread_names q q fetched refl in
      record {
        inputs = h.read.0 ∷ x.0;
        are_held = fetched_then p q q name fetched h.read.0 x.0 h.held h.read.1 x.1;
        came = inl (record { before = []; later = h.read.0 ∷ x.0; are_first = refl; name = name; fetches = refl; rose = h.fault refl; after = after_read p q out h.held h.created });
      }

module _ {kind : FileKind} {next : kind.Value → Plan} {name : List ℕ} {fetched created : List (List ℕ)} {p q : Place} {out : Stream} where
  pub came_unread : {e : CommandError} (r : Result Status CommandError) → IsErr r × IsErrAnd r (λ y. y ≡ e) → HasRead kind name p q (Err e) → Keeps (name ∷ fetched) created (Read kind next) (outside p out) (outside q out) (way_of r)
  came_unread {e = e} r is h = by r is
    where
      by : (r : Result Status CommandError) → IsErr r × IsErrAnd r (λ y. y ≡ e) → Keeps (name ∷ fetched) created (Read kind next) (outside p out) (outside q out) (way_of r)
      by (Ok x) is = absurd (let no = is.0 in cc)
      by (Err y) is = rw is.1 (record { came = λ sound. unread kind next name fetched created p q out e sound.0 h })

  -- it says a value, and the rest was done with that
  pub came_read : {value : kind.Value} {b : World} {way : Way} → HasRead kind name p q (Ok value) → Keeps fetched created (next value) (outside q out) b way → Keeps (name ∷ fetched) created (Read kind next) (outside p out) b way
  came_read {value = value} {b = b} {way = way} h k = record {
    came = λ sound.
        let x = k.came (sound.1 value) in
        record {
          inputs = h.read.0 ∷ x.inputs;
          are_held = fetched_then p q b.folder name fetched h.read.0 x.inputs h.held h.read.1 x.are_held;
          came = came_then (promise_by (name ∷ fetched) created (Read kind next)) (promise_by fetched created (next value)) (h.read.0 ∷ []) (outside p out) (outside q out) b (did_read p q out h.held h.created h.counts) (λ inputs report i. inr (value, h.read.2, i)) (λ before name i. (value, h.read.2, i)) way x.inputs x.came;
        };
  }

-- ---- an order, where one is named

module _ (next : Option (List ℕ) → Plan) (fetched : List (List ℕ)) {created : List (List ℕ)} {problem : Contents} {p q : Place} {out : Stream} where
  -- it was not read
  pub came_unordered : {order_file : Option (List ℕ)} {e : CommandError} (r : Result Status CommandError) → IsErr r × IsErrAnd r (λ y. y ≡ e) → HasOrderRead order_file problem p q (Err e)
      → Keeps (order_then order_file fetched) created (under_order order_file problem next) (outside p out) (outside q out) (way_of r)
  came_unordered {order_file = order_file} {e = e} r is h = by order_file h.reads
    where
      by : (order_file : Option (List ℕ)) → ReadsOrder order_file problem p q (Err e) → Keeps (order_then order_file fetched) created (under_order order_file problem next) (outside p out) (outside q out) (way_of r)
      by None h = absurd (let no = h.0 in cc)
      by (Some name) h = came_unread r is h

  -- the rest was done under it
  pub came_ordered : {order_file order : Option (List ℕ)} {b : World} {way : Way} → HasOrderRead order_file problem p q (Ok order) → Keeps fetched created (next order) (outside q out) b way
      → Keeps (order_then order_file fetched) created (under_order order_file problem next) (outside p out) b way
  came_ordered {order_file = order_file} {order = order} {b = b} {way = way} h k = by order_file order h.reads k
    where
      by : (order_file order : Option (List ℕ)) → ReadsOrder order_file problem p q (Ok order) → Keeps fetched created (next order) (outside q out) b way
          → Keeps (order_then order_file fetched) created (under_order order_file problem next) (outside p out) b way
      by None None h k = subst (λ (place : Place). Keeps fetched created (next None) (outside place out) b way) h.1 k
      by None (Some order) h k = absurd (let no = h.0 in cc)
      by (Some name) None h k = absurd h
      by (Some name) (Some order) h k = came_read h k
