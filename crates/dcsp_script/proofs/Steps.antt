-- What a line has come to, where something stood before what it did.
use Rattle.std.proofs.Common.{ℕ, List, [], ◌++◌, Err, ap, subst, ◌∙◌, append_assoc, inl, inr}
use Rattle.dcsp_outside.specs.Outside.{Rose}
use Rattle.dcsp_script.specs.declared.stop.Stop.TheVariants as stops
use Rattle.dcsp_script.specs.Scripts.{World}
use Rattle.dcsp_script.specs.Ways.{Did}
use Rattle.dcsp_script.proofs.After.{IsAfter-append}
use Rattle.dcsp_script.proofs.Ways.{did_both, then_ended}
use Rattle.dcsp_script.specs.Promises.{Report, Promise}
use Rattle.dcsp_script.specs.Runs.{Way, Answered, Refused, Stopped, HasFailed, HasLacked, CameTo}

-- nothing was written first; what one promise then reports and fetches with these first bytes in hand, the other does
module _ (promise later : Promise) (first : List (List ℕ)) (a b c : World) (did : Did [] a b)
    (reports : (inputs : List (List ℕ)) (report : Report) → later.Reports inputs report → promise.Reports (first ++ inputs) report)
    (fetches : (before : List (List ℕ)) (name : List ℕ) → later.Fetches before name → promise.Fetches (first ++ before) name) where
  failed_then : (inputs : List (List ℕ)) → HasFailed later inputs b c → HasFailed promise (first ++ inputs) a c
  failed_then inputs h = elim h [
    | inl x ↦ inl (record {
      before = first ++ x.before;
      later = x.later;
      are_first = append_assoc first x.before x.later ∙ ap (λ l. first ++ l) x.are_first;
      name = x.name;
      fetches = fetches x.before x.name x.fetches;
      rose = subst (λ f. Rose (f x.name) (c.folder.reads x.name)) did.counts.folder.reads x.rose;
      after = IsAfter-append [] [] a b c did.after x.after;
    })
    | inr x ↦ inr (record { report = x.report; reports = reports inputs x.report x.reports; failed = then_ended {T = Unit {0}} [] x.report.script a b c (Err stops.Fault) did x.failed })
  ]

  lacked_then : (inputs : List (List ℕ)) → HasLacked later inputs b c → HasLacked promise (first ++ inputs) a c
  lacked_then inputs h = elim h [
    | inl x ↦ inl (did_both [] [] a b c did x)
    | inr x ↦ inr (x.0, reports inputs x.0 x.1, then_ended {T = Unit {0}} [] x.0.script a b c (Err stops.Memory) did x.2)
  ]

  pub came_then : (way : Way) (inputs : List (List ℕ)) → CameTo later inputs b c way → CameTo promise (first ++ inputs) a c way
  came_then (Answered status) inputs h = (h.0, reports inputs _ h.1, did_both [] h.0 a b c did h.2, h.3)
  came_then (Refused status text) inputs h = (reports inputs _ h.0, did_both [] [] a b c did h.1, h.2)
  came_then (Stopped stops.Fault) inputs h = failed_then inputs h
  came_then (Stopped stops.Memory) inputs h = lacked_then inputs h
