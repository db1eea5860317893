-- What a line comes to, and how it ends.
use Rattle.std.proofs.Common.{◌≡◌, List, [], Result, Ok, Err, refl, sym, subst, inr, ℕ}
use Rattle.dcsp_outside.specs.Outside.{Stream}
use Rattle.dcsp_script.specs.declared.stop.Stop.{Stop}
use Rattle.dcsp_script.specs.declared.stop.Stop.TheVariants as stops
use Rattle.dcsp_script.specs.Scripts.{Write, World}
use Rattle.dcsp_script.specs.Ways.{Did, Wrote}
use Rattle.dcsp_script.proofs.Ways.{did_both, then_ended}
use Rattle.dcsp_script.specs.declared.status.Status.{Status}
use Rattle.dcsp_script.specs.declared.status.Status.TheVariants.{Good, No, Words, Model, Input, Unfinished, Fault, Memory}
use Rattle.dcsp_script.specs.Statuses.{IsFinal}
use Rattle.dcsp_script.specs.Promises.{Report, Promise, answered, refused, AreFetched, SaysAsReported}
use Rattle.dcsp_script.specs.Runs.{Way, Answered, Refused, Stopped, CameTo, CameIn, Concludes, Ran}

-- an answer with this status, or a stop
abbrev pub way_with : {T : Type 0} → Status → Result T Stop → Way
way_with status (Ok done) = Answered status
way_with status (Err stop) = Stopped stop

module _ (promise : Promise) (inputs : List (List ℕ)) (status : Status) (script : List Write) where
  wrote_to : {T : Type 0} (a b c : World) (r : Result T Stop) → IsFinal status → promise.Reports inputs (answered status script) → Did [] a b → Wrote script b c r → CameTo promise inputs a c (way_with status r)
  wrote_to a b c (Ok x) final report d w = (script, report, did_both [] script a b c d w.ended, final)
  wrote_to {T = T} a b c (Err stops.Fault) final report d w = inr (record { report = answered status script; reports = report; failed = then_ended {T = T} [] script a b c (Err stops.Fault) d w.ended })
  wrote_to {T = T} a b c (Err stops.Memory) final report d w = inr (answered status script, report, then_ended {T = T} [] script a b c (Err stops.Memory) d w.ended)

  -- a line that read its files, and then came to write its script
  pub came_wrote : {T : Type 0} {a b c : World} (r : Result T Stop) → IsFinal status → AreFetched a.folder c.folder promise.fetched inputs → promise.Reports inputs (answered status script) → Did [] a b → Wrote script b c r → CameIn promise a c (way_with status r)
  came_wrote {a = a} {b = b} {c = c} r final held report d w = record { inputs = inputs; are_held = held; came = wrote_to a b c r final report d w }

module _ (promise : Promise) (inputs : List (List ℕ)) (a b : World) (err now : Stream) (held : AreFetched a.folder b.folder promise.fetched inputs) where
  ended : (status final : Status) (report : Report) → promise.Reports inputs report → status ≡ final → final ≡ report.status → IsFinal final → Did report.script a b → SaysAsReported report.said err now → Ran promise a b err now status
  ended Good final report r s t f d said = record { inputs = inputs; are_held = held; report = report; reports = r; status_is = subst (λ x. x ≡ report.status) (sym s) t; did = d; said = said }
  ended No final report r s t f d said = record { inputs = inputs; are_held = held; report = report; reports = r; status_is = subst (λ x. x ≡ report.status) (sym s) t; did = d; said = said }
  ended Words final report r s t f d said = subst IsFinal (sym s) f
  ended Model final report r s t f d said = record { inputs = inputs; are_held = held; report = report; reports = r; status_is = subst (λ x. x ≡ report.status) (sym s) t; did = d; said = said }
  ended Input final report r s t f d said = record { inputs = inputs; are_held = held; report = report; reports = r; status_is = subst (λ x. x ≡ report.status) (sym s) t; did = d; said = said }
  ended Unfinished final report r s t f d said = record { inputs = inputs; are_held = held; report = report; reports = r; status_is = subst (λ x. x ≡ report.status) (sym s) t; did = d; said = said }
  ended Fault final report r s t f d said = absurd (subst IsFinal (sym s) f)
  ended Memory final report r s t f d said = absurd (subst IsFinal (sym s) f)

  ran : (way : Way) (status : Status) → CameTo promise inputs a b way → Concludes way err now status → Ran promise a b err now status
  ran (Answered good) status h k = ended status good (answered good h.0) h.1 k.0 refl h.3 h.2 k.1
  ran (Refused bad text) status h k = ended status bad (refused bad text) h.0 k.0 refl h.2 h.1 k.1
  ran (Stopped stops.Fault) status h k = rw k.0 (record { inputs = inputs; are_held = held; failed = h; said = k.1 })
  ran (Stopped stops.Memory) status h k = rw k.0 (record { inputs = inputs; are_held = held; lacked = h; said = k.1 })

-- what a line came to, with its status and what was said
pub came_ran : {promise : Promise} {a b : World} (err now : Stream) (way : Way) (status : Status) → CameIn promise a b way → Concludes way err now status → Ran promise a b err now status
came_ran {promise = promise} {a = a} {b = b} err now way status h k = ran promise h.inputs a b err now h.are_held way status h.came k
