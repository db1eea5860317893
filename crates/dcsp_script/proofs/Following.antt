-- What follows of a run of a line whose promise is lawful.
use Rattle.std.proofs.Common.{◌≡◌, ◌⊎◌, ℕ, zero, suc, ◌<◌, List, [], ◌∷◌, ◌++◌, get_or, Option, Some, None, refl, sym, ap, subst, ◌∙◌, inl, inr, arith}
use Rattle.std.specs.Prelude.{Contains, All, IfSome}
use Rattle.std.proofs.lemmas.List.{get_or_default}
use Rattle.std.proofs.lemmas.List.Elements.{Contains-append_left, Contains-append_right, Contains-append_cases, Contains-push}
use Rattle.dcsp_outside.specs.Outside.{Stream, Told, IsPrefixOf}
use Rattle.dcsp_outside.proofs.Changes.{Told-weaker}
use Rattle.dcsp_script.specs.Scripts.{Write, Create, Empty, Append, Put, World, put_by, created_of, created_by, FilesAfter, PutAfter, IsAfter}
use Rattle.dcsp_script.specs.Ways.{CountsStay, RoseAt, IsPieceOf, IsPartOf, Did, DidPartOf}
use Rattle.dcsp_script.specs.Texts.{Touches, LeavesAlone}
use Rattle.dcsp_script.proofs.Parts.{did_part, start_part, failed_part, put_of_part, part_leaves, left_alone}
use Rattle.dcsp_script.specs.declared.status.Status.{Status}
use Rattle.dcsp_script.specs.declared.status.Status.TheVariants.{Good, No, Words, Model, Input, Unfinished, Fault, Memory}
use Rattle.dcsp_script.specs.Statuses.{IsFinal, IsRefusal}
use Rattle.dcsp_script.specs.Promises.{Report, Promise, AreFetched, inputs_of}
use Rattle.dcsp_script.specs.Runs.{HasFailed, HasLacked, Answers, Faults, Lacks, Ran}
use Rattle.dcsp_script.specs.Clauses.{HasCause, LeavesOthers, CreatesOwn, GainsText, IsComplete, IsLawful}
use Rattle.dcsp_script.proofs.Fetched.{fetched_told}

-- a script of which each write changes only names of these
abbrev KeepsTo : List (List ℕ) → List Write → Type 0
KeepsTo names script = (write : Write) → Contains script write → (name : List ℕ) → Touches write name → Contains names name

-- a part of a script that changes only names of these
record PartMade (names : List (List ℕ)) (old new : World) : Type 0 where
  script : List Write
  keeps : KeepsTo names script
  part : DidPartOf script old new

keeps_rest : (names : List (List ℕ)) (w : Write) (s : List Write) → KeepsTo names (w ∷ s) → KeepsTo names s
keeps_rest names w s k v h = k v (Contains-append_right (w ∷ []) s v h)

keeps_first : (names : List (List ℕ)) (w : Write) (s : List Write) → KeepsTo names (w ∷ s) → (name : List ℕ) → Touches w name → Contains names name
keeps_first names w s k = k w (Contains-append_left (w ∷ []) s w (Contains-push [] w))

-- such a script leaves any other name alone
leaves_alone : (names : List (List ℕ)) (s : List Write) (name : List ℕ) → KeepsTo names s → (Contains names name → ⊥) → LeavesAlone s name
leaves_alone names [] name k n = tt
leaves_alone names (w ∷ s) name k n = ((λ t. n (keeps_first names w s k name t)), leaves_alone names s name (keeps_rest names w s k) n)

-- what a part of such a script creates is among the names
created_among : (names : List (List ℕ)) (part s : List Write) → IsPartOf part s → KeepsTo names s → (name : List ℕ) → Contains (created_by part) name → Contains names name
created_among names [] s h k name (i, below, is) = absurd (omega arith)
created_among names (w ∷ part) [] h k name c = absurd h
created_among names (w ∷ part) (v ∷ s) h k name c =
    elim (Contains-append_cases (created_of w) (created_by part) name c) [
      | inl x ↦ elim h [ inl y ↦ keeps_first names v s k name (subst (λ z. Touches z name) y.0 (touched w x)) | inr y ↦ absurd (piece w v y.0 x) ]
      | inr x ↦ elim h [ inl y ↦ created_among names part s y.1 (keeps_rest names v s k) name x | inr y ↦ absurd (never (subst (λ p. Contains (created_by p) name) y.1 x)) ]
    ]
  where
    never : Contains [] name → ⊥
    never (i, below, is) = omega arith

    touched : (w : Write) → Contains (created_of w) name → Touches w name
    touched (Create this) (i, below, is) = first i below is
      where
        first : (i : ℕ) → i < 1 → get_or (this ∷ []) i name ≡ name → this ≡ name
        first zero below is = is
        first (suc i) below is = absurd (omega arith)
    touched (Empty this) h = absurd (never h)
    touched (Append this bytes) h = absurd (never h)
    touched (Put bytes) h = absurd (never h)

    piece : (w v : Write) → IsPieceOf w v → Contains (created_of w) name → ⊥
    piece (Create this) v h x = h
    piece (Empty this) v h x = never x
    piece (Append this bytes) v h x = never x
    piece (Put bytes) v h x = never x

module _ (promise : Promise) (lawful : IsLawful promise) (a b : World) where
  no_script : IsAfter [] a b → PartMade promise.created a b
  no_script h = record { script = []; keeps = λ w (i, below, is). absurd (omega arith); part = record { part = []; is_part = tt; after = h } }

  of_failed : (inputs : List (List ℕ)) → HasFailed promise inputs a b → PartMade promise.created a b
  of_failed inputs h = elim h [ inl x ↦ no_script x.after | inr x ↦ record { script = x.report.script; keeps = lawful.names inputs x.report x.reports; part = failed_part x.report.script a b x.failed } ]

  of_lacked : (inputs : List (List ℕ)) → HasLacked promise inputs a b → PartMade promise.created a b
  of_lacked inputs h = elim h [ inl x ↦ no_script x.after | inr x ↦ record { script = x.0.script; keeps = lawful.names inputs x.0 x.1; part = start_part x.0.script a b x.2 } ]

  -- the same for the report of the files, whatever it is
  report_failed : (inputs : List (List ℕ)) (r : Report) → promise.Reports inputs r → HasFailed promise inputs a b → DidPartOf r.script a b
  report_failed inputs r is h = elim h [
    | inl x ↦ record { part = []; is_part = tt; after = x.after }
    | inr x ↦ subst (λ y. DidPartOf y.script a b) (lawful.one inputs x.report r x.reports is) (failed_part x.report.script a b x.failed)
  ]

  report_lacked : (inputs : List (List ℕ)) (r : Report) → promise.Reports inputs r → HasLacked promise inputs a b → DidPartOf r.script a b
  report_lacked inputs r is h = elim h [
    | inl x ↦ record { part = []; is_part = tt; after = x.after }
    | inr x ↦ subst (λ y. DidPartOf y.script a b) (lawful.one inputs x.0 r x.1 is) (start_part x.0.script a b x.2)
  ]

  cause_of : (inputs : List (List ℕ)) → HasFailed promise inputs a b → HasCause promise a b
  cause_of inputs h = elim h [
    | inl x ↦ inl (x.name, lawful.reads x.before x.name x.fetches, x.rose)
    | inr x ↦ at x.failed.write (lawful.names inputs x.report x.reports x.failed.write (subst (λ s. Contains s x.failed.write) x.failed.is_script (Contains-append_right x.failed.start (x.failed.write ∷ x.failed.rest) x.failed.write (Contains-append_left (x.failed.write ∷ []) x.failed.rest x.failed.write (Contains-push [] x.failed.write))))) x.failed.rose
  ]
    where
      at : (w : Write) → ((name : List ℕ) → Touches w name → Contains promise.created name) → RoseAt w a b → HasCause promise a b
      at (Create name) n r = inr (inl (name, n name refl, r))
      at (Empty name) n r = inr (inl (name, n name refl, r))
      at (Append name bytes) n r = inr (inl (name, n name refl, r))
      at (Put bytes) n r = inr (inr r)

  module _ (err now : Stream) where
    of_answers : (status : Status) → Answers promise a b err now status → PartMade promise.created a b
    of_answers status h = record { script = h.report.script; keeps = lawful.names h.inputs h.report h.reports; part = did_part h.report.script a b h.did }

    made : (status : Status) → Ran promise a b err now status → PartMade promise.created a b
    made Good h = of_answers Good h
    made No h = of_answers No h
    made Words h = absurd h
    made Model h = of_answers Model h
    made Input h = of_answers Input h
    made Unfinished h = of_answers Unfinished h
    made Fault h = of_failed h.inputs h.failed
    made Memory h = of_lacked h.inputs h.lacked

    -- a final status goes with an answer
    pub ran_answers : (status : Status) → Ran promise a b err now status → IsFinal status → Answers promise a b err now status
    ran_answers Good h f = h
    ran_answers No h f = h
    ran_answers Words h f = absurd f
    ran_answers Model h f = h
    ran_answers Input h f = h
    ran_answers Unfinished h f = h
    ran_answers Fault h f = absurd f
    ran_answers Memory h f = absurd f

    -- the words are a line
    pub ran_line : (status : Status) → Ran promise a b err now status → status ≡ Words → ⊥
    ran_line status h e = subst (λ s. Ran promise a b err now s) e h

    pub ran_faults : (status : Status) → Ran promise a b err now status → status ≡ Fault → Faults promise a b err now
    ran_faults status h e = subst (λ s. Ran promise a b err now s) e h

    pub ran_lacks : (status : Status) → Ran promise a b err now status → status ≡ Memory → Lacks promise a b err now
    ran_lacks status h e = subst (λ s. Ran promise a b err now s) e h

    pub ran_stays : (status : Status) → Ran promise a b err now status → IsFinal status → CountsStay a b
    ran_stays status h f = (ran_answers status h f).did.counts

    pub ran_refused : (status : Status) → Ran promise a b err now status → IsRefusal status → Did [] a b
    ran_refused status h f =
        let k = ran_answers status h (final status h f) in
        subst (λ s. Did s a b) (lawful.quiet k.inputs k.report k.reports (subst IsRefusal k.status_is f)) k.did
      where
        final : (status : Status) → Ran promise a b err now status → IsRefusal status → IsFinal status
        final Good h f = tt
        final No h f = tt
        final Words h f = h
        final Model h f = tt
        final Input h f = tt
        final Unfinished h f = tt
        final Fault h f = f
        final Memory h f = f

    pub ran_cause : (status : Status) → Ran promise a b err now status → status ≡ Fault → HasCause promise a b
    ran_cause status h e = let k = ran_faults status h e in cause_of k.inputs k.failed

    pub ran_others : (status : Status) → Ran promise a b err now status → LeavesOthers promise a b
    ran_others status h =
        let m = made status h in
        Told-weaker (FilesAfter m.part.part) (λ files now. (name : List ℕ) → (Contains promise.created name → ⊥) → now name ≡ files name) (λ files now after name none. after name ∙ left_alone m.part.part name (files name) (part_leaves m.part.part m.script name m.part.is_part (leaves_alone promise.created m.script name m.keeps none))) a.folder.held b.folder.held m.part.after.files

    pub ran_creates : (status : Status) → Ran promise a b err now status → CreatesOwn promise a b
    ran_creates status h =
        let m = made status h in
        (created_by m.part.part, among m.part.part (created_among promise.created m.part.part m.script m.part.is_part m.keeps), m.part.after.created)
      where
        among : (part : List Write) → ((name : List ℕ) → Contains (created_by part) name → Contains promise.created name) → All (λ name. Contains promise.created name) (created_by part)
        among part to k d below = to (get_or (created_by part) k d) (k, below, get_or_default (created_by part) k (get_or (created_by part) k d) d below)

    module _ (files : List ℕ → Option (List ℕ)) (told : a.folder.held ≡ Some files) (r : Report) (reports : promise.Reports (inputs_of files promise.fetched) r) where
      -- the bytes that were fetched are those that the folder tells
      on_inputs : (inputs : List (List ℕ)) → AreFetched a.folder b.folder promise.fetched inputs → promise.Reports inputs r
      on_inputs inputs held = subst (λ i. promise.Reports i r) (sym (fetched_told a.folder b.folder files promise.fetched inputs told held)) reports

      same_report : (status : Status) (k : Answers promise a b err now status) → k.report ≡ r
      same_report status k = lawful.one k.inputs k.report r k.reports (on_inputs k.inputs k.are_held)

      answers_part : (status : Status) → Answers promise a b err now status → DidPartOf r.script a b
      answers_part status k = subst (λ y. DidPartOf y.script a b) (same_report status k) (did_part k.report.script a b k.did)

      -- whatever the status, a part of its script was made
      pub report_part : (status : Status) → Ran promise a b err now status → DidPartOf r.script a b
      report_part Good h = answers_part Good h
      report_part No h = answers_part No h
      report_part Words h = absurd h
      report_part Model h = answers_part Model h
      report_part Input h = answers_part Input h
      report_part Unfinished h = answers_part Unfinished h
      report_part Fault h = report_failed h.inputs r (on_inputs h.inputs h.are_held) h.failed
      report_part Memory h = report_lacked h.inputs r (on_inputs h.inputs h.are_held) h.lacked

      -- with a final status, which is its own, its whole script
      pub report_did : (status : Status) → Ran promise a b err now status → IsFinal status → (status ≡ r.status) × Did r.script a b
      report_did status h f =
          let k = ran_answers status h f in
          let same = same_report status k in
          (k.status_is ∙ ap (λ y. y.status) same, subst (λ y. Did y.script a b) same k.did)

      answers_status : (status : Status) → Answers promise a b err now status → (status ≡ r.status) ⊎ (status ≡ Memory)
      answers_status status k = inl (k.status_is ∙ ap (λ y. y.status) (same_report status k))

      report_status : (status : Status) → Ran promise a b err now status → (HasCause promise a b → ⊥) → (status ≡ r.status) ⊎ (status ≡ Memory)
      report_status Good h n = answers_status Good h
      report_status No h n = answers_status No h
      report_status Words h n = absurd h
      report_status Model h n = answers_status Model h
      report_status Input h n = answers_status Input h
      report_status Unfinished h n = answers_status Unfinished h
      report_status Fault h n = absurd (n (cause_of h.inputs h.failed))
      report_status Memory h n = inr refl

    pub ran_text : (status : Status) → Ran promise a b err now status → GainsText promise a b
    ran_text status h = text a.folder.held refl
      where
        text : (held : Option (List ℕ → Option (List ℕ))) → a.folder.held ≡ held → IfSome held (λ files. (report : Report) → promise.Reports (inputs_of files promise.fetched) report → Told a.out.written b.out.written (λ before after. (gained : List ℕ) × IsPrefixOf gained (put_by report.script) × (after ≡ before ++ gained)))
        text None e = tt
        text (Some files) e = λ r is.
            let p = report_part files e r is status h in
            Told-weaker (PutAfter p.part) (λ before after. (gained : List ℕ) × IsPrefixOf gained (put_by r.script) × (after ≡ before ++ gained)) (λ x y after. (put_by p.part, put_of_part p.part r.script p.is_part, after)) a.out.written b.out.written p.after.out

    pub ran_complete : (status : Status) → Ran promise a b err now status → IsComplete promise a b status
    ran_complete status h = complete a.folder.held refl
      where
        complete : (held : Option (List ℕ → Option (List ℕ))) → a.folder.held ≡ held → IfSome held (λ files. (report : Report) → promise.Reports (inputs_of files promise.fetched) report → (HasCause promise a b → ⊥) → (status ≡ report.status) ⊎ (status ≡ Memory))
        complete None e = tt
        complete (Some files) e = λ r is none. report_status files e r is status h none
