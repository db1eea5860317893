-- The headline, sentence by sentence, of a run whose script was made in whole or in part.
use Rattle.std.proofs.Common.{◌≡◌, ◌≢◌, ℕ, ◌+◌, ◌<◌, ◌≤◌, List, [], ◌∷◌, ◌++◌, length, Option, Some, None, refl, sym, ap, ◌∙◌, subst, append-nil, append_assoc, inl, inr, arith, length-append}
use Rattle.std.specs.Prelude.{Contains, IfSome}
use Rattle.std.specs.Cmp.Lexicographic.{bytes_decides}
use Rattle.std.proofs.lemmas.List.Elements.{Contains-append_left, Contains-push}
use Rattle.dcsp_outside.specs.Outside.{IsPrefixOf}
use Rattle.dcsp_outside.proofs.Changes.{Told-weaker}
use Rattle.dcsp_script.specs.Scripts.{Write, Create, Append, Put, World, file_after, put_by, created_by, FilesAfter, PutAfter}
use Rattle.dcsp_script.specs.Ways.{IsPartOf, Did, DidPartOf}
use Rattle.dcsp_script.specs.Texts.{LeavesAlone, HoldsPartOf, appended_by}
use Rattle.dcsp_script.proofs.After.{put_by-append, file_after-append, created_by-append}
use Rattle.dcsp_script.proofs.Parts.{part_splits, part_past, part_leaves, left_alone, put_of_part, prefix_short}
use Rattle.dcsp_script.proofs.Texts.{holds_part}
use Rattle.ngd_log.specs.Logs.{log_text}
use Rattle.abt_schedule.specs.Schedules.{schedule_text}
use Rattle.abt_session.specs.Sessions.{run_script}
use Rattle.abt_session.specs.Order.{told_text, told_of_first, IsShortOf}
use Rattle.abt_session.proofs.InOrder.{whole_puts, whole_leaves, log_whole, log_begins, first_begins, keeps_up}
use Rattle.dcsp_script.specs.declared.status.Status.{Status}
use Rattle.line_replay.specs.Endings.{end_status}
use Rattle.line_replay.specs.Asked.{Asked, asked_run, asked_steps, answer_text, record_script, asked_script}
use Rattle.line_replay.specs.Headline.{whole_text, IsOther, HoldsRun, IsRun, KeepsOrder, WritesOrdered}
use Rattle.line_replay.proofs.Scripts.{record_leaves, record_holds, before_answer, script_is, before_puts, asked_puts, asked_leaves}

-- the record has a name of its own
abbrev pub HasOwnRecord : Asked → Type 0
HasOwnRecord asked = IfSome asked.record_file (λ k. k ≡ asked.session.log → ⊥)

module _ (asked : Asked) (own : HasOwnRecord asked) where
  -- what follows the run
  abbrev rest : List Write
  rest = record_script asked.record_file (asked_run asked).numbers ++ Put (answer_text asked) ∷ []

  rest_leaves_log : LeavesAlone rest asked.session.log
  rest_leaves_log = leaves (record_leaves (asked_run asked).numbers asked.record_file asked.session.log own)
    where
      join : (s : List Write) → LeavesAlone s asked.session.log → LeavesAlone (s ++ Put (answer_text asked) ∷ []) asked.session.log
      join [] h = ((λ t. t), tt)
      join (w ∷ s) h = (h.0, join s h.1)

      leaves : LeavesAlone (record_script asked.record_file (asked_run asked).numbers) asked.session.log → LeavesAlone rest asked.session.log
      leaves h = join (record_script asked.record_file (asked_run asked).numbers) h

  -- the log behind the run's whole script
  log_behind : (more : List Write) (file : Option (List ℕ)) → IsPartOf more rest → file_after (run_script asked.session ++ more) asked.session.log file ≡ Some (log_text (asked_steps asked))
  log_behind more file h =
      file_after-append (run_script asked.session) more asked.session.log file
      ∙ left_alone more asked.session.log (file_after (run_script asked.session) asked.session.log file) (part_leaves more rest asked.session.log h rest_leaves_log)
      ∙ log_whole asked.session file

  other_leaves : (name : List ℕ) → IsOther asked name → LeavesAlone (asked_script asked) name
  other_leaves name h = asked_leaves asked name (λ e. h.0 (sym e)) (turned asked.record_file h.1)
    where
      turned : (kept : Option (List ℕ)) → IfSome kept (λ k. name ≢ k) → IfSome kept (λ k. k ≡ name → ⊥)
      turned None g = tt
      turned (Some k) g = λ e. g (sym e)

  -- the record behind its own script
  recorded_behind : (kept : Option (List ℕ)) → asked.record_file ≡ kept → (more : List Write) → IsPartOf more (Put (answer_text asked) ∷ []) → (now : List ℕ → Option (List ℕ)) (files : List ℕ → Option (List ℕ)) → FilesAfter (before_answer asked ++ more) files now → IfSome kept (λ name. now name ≡ Some (schedule_text (asked_run asked).numbers))
  recorded_behind None e more h now files after = tt
  recorded_behind (Some name) e more h now files after =
      after name ∙ file_after-append (before_answer asked) more name (files name)
      ∙ left_alone more name (file_after (before_answer asked) name (files name)) (part_leaves more (Put (answer_text asked) ∷ []) name h ((λ t. t), tt))
      ∙ file_after-append (run_script asked.session) (record_script asked.record_file (asked_run asked).numbers) name (files name)
      ∙ ap (λ k. file_after (record_script k (asked_run asked).numbers) name (file_after (run_script asked.session) name (files name))) e
      ∙ record_holds (asked_run asked).numbers name (file_after (run_script asked.session) name (files name))

  -- the folder behind the record, whatever part of the answer was put
  holds_behind : (part more : List Write) → part ≡ before_answer asked ++ more → IsPartOf part (asked_script asked) → IsPartOf more (Put (answer_text asked) ∷ []) → (files now : List ℕ → Option (List ℕ)) → FilesAfter part files now → HoldsRun asked files now
  holds_behind part more is inside h files now after =
      let there = subst (λ s. FilesAfter s files now) is after in
      record {
        log = after asked.session.log ∙ ap (λ s. file_after s asked.session.log (files asked.session.log)) (is ∙ append_assoc (run_script asked.session) (record_script asked.record_file (asked_run asked).numbers) more) ∙ log_last files;
        recorded = recorded_behind asked.record_file refl more h now files there;
        others = λ name other. after name ∙ left_alone part name (files name) (part_leaves part (asked_script asked) name inside (other_leaves name other));
      }
    where
      leaves : LeavesAlone (record_script asked.record_file (asked_run asked).numbers ++ more) asked.session.log
      leaves = join (record_script asked.record_file (asked_run asked).numbers) (record_leaves (asked_run asked).numbers asked.record_file asked.session.log own)
        where
          join : (s : List Write) → LeavesAlone s asked.session.log → LeavesAlone (s ++ more) asked.session.log
          join [] k = part_leaves more (Put (answer_text asked) ∷ []) asked.session.log h ((λ t. t), tt)
          join (w ∷ s) k = (k.0, join s k.1)

      log_last : (files : List ℕ → Option (List ℕ)) → file_after (run_script asked.session ++ (record_script asked.record_file (asked_run asked).numbers ++ more)) asked.session.log (files asked.session.log) ≡ Some (log_text (asked_steps asked))
      log_last files =
          file_after-append (run_script asked.session) (record_script asked.record_file (asked_run asked).numbers ++ more) asked.session.log (files asked.session.log)
          ∙ left_alone (record_script asked.record_file (asked_run asked).numbers ++ more) asked.session.log (file_after (run_script asked.session) asked.session.log (files asked.session.log)) leaves
          ∙ log_whole asked.session (files asked.session.log)

  part_self : (s : List Write) → IsPartOf s s
  part_self [] = tt
  part_self (w ∷ s) = inl (refl, part_self s)

  -- the whole script was made
  pub is_run : (a b : World) (status : Status) → status ≡ end_status (asked_run asked).end → Did (asked_script asked) a b → IsRun asked status a b
  is_run a b status is did = record {
    status_is = is;
    out = Told-weaker (PutAfter (asked_script asked)) (λ before now. now ≡ before ++ whole_text asked) (λ before now h. h ∙ ap (λ t. before ++ t) (asked_puts asked)) a.out.written b.out.written did.after.out;
    files = Told-weaker (FilesAfter (asked_script asked)) (HoldsRun asked) (λ files now after. holds_behind (asked_script asked) (Put (answer_text asked) ∷ []) (script_is asked) (part_self (asked_script asked)) (part_self (Put (answer_text asked) ∷ [])) files now after) a.folder.held b.folder.held did.after.files;
  }

  -- a part of it was made
  module _ (part : List Write) (inside : IsPartOf part (asked_script asked)) where
    begins : IsPrefixOf (put_by part) (whole_text asked)
    begins = subst (λ t. IsPrefixOf (put_by part) t) (asked_puts asked) (put_of_part part (asked_script asked) inside)

    module _ (files now : List ℕ → Option (List ℕ)) (after : FilesAfter part files now) where
      others : (name : List ℕ) → IsOther asked name → now name ≡ files name
      others name other = after name ∙ left_alone part name (files name) (part_leaves part (asked_script asked) name inside (other_leaves name other))

      record_part : IfSome asked.record_file (λ name. HoldsPartOf name (schedule_text (asked_run asked).numbers) (Contains (created_by part) name) (files name) (now name))
      record_part = by_kept asked.record_file refl own
        where
          by_kept : (kept : Option (List ℕ)) → asked.record_file ≡ kept → IfSome kept (λ k. k ≡ asked.session.log → ⊥) → IfSome kept (λ name. HoldsPartOf name (schedule_text (asked_run asked).numbers) (Contains (created_by part) name) (files name) (now name))
          by_kept None e other = tt
          by_kept (Some name) e other =
              let text = schedule_text (asked_run asked).numbers in
              let behind : List Write = Append name text ∷ Put (answer_text asked) ∷ [] in
              let there : IsPartOf part (run_script asked.session ++ Create name ∷ behind) = subst (λ k. IsPartOf part (run_script asked.session ++ (record_script k (asked_run asked).numbers ++ Put (answer_text asked) ∷ []))) e inside in
              let h = holds_part part (run_script asked.session) behind name (files name) (whole_leaves asked.session name (λ s. other (sym s))) (tt, (tt, tt)) there in
              let is : appended_by behind name ≡ text = rw ((bytes_decides name name).1 refl) (append-nil text) in
              subst (λ f. HoldsPartOf name text (Contains (created_by part) name) (files name) f) (sym (after name))
              (subst (λ t. HoldsPartOf name t (Contains (created_by part) name) (files name) (file_after part name (files name))) is h)

      answer_last : length (told_text asked.session) < length (put_by part) → HoldsRun asked files now
      answer_last long =
          let more : length (put_by (before_answer asked)) < length (put_by part) = subst (λ t. length t < length (put_by part)) (sym (before_puts asked)) long in
          let past = part_past part (before_answer asked) (Put (answer_text asked) ∷ []) (subst (λ s. IsPartOf part s) (script_is asked) inside) more in
          holds_behind part past.0 past.1 inside past.2 files now after

      -- no more than the run's own script
      within : IsPartOf part (run_script asked.session) → KeepsOrder asked (created_by part) (put_by part) files now
      within h =
          let k = keeps_up asked.session part h files now after in
          record {
            log_part = k.log_part;
            record_part = record_part;
            answer_last = answer_last;
            not_ahead = k.not_ahead;
            not_behind = k.not_behind;
            others = others;
          }

      -- the whole of it, and then some
      behind : (more : List Write) → part ≡ run_script asked.session ++ more → IsPartOf more rest → KeepsOrder asked (created_by part) (put_by part) files now
      behind more is h =
          let log : now asked.session.log ≡ Some (log_text (asked_steps asked)) = after asked.session.log ∙ ap (λ s. file_after s asked.session.log (files asked.session.log)) is ∙ log_behind more (files asked.session.log) h in
          let text = log_text (asked_steps asked) in
          let made : Contains (created_by part) asked.session.log = subst (λ s. Contains (created_by s) asked.session.log) (sym is) (created_there more) in
          record {
            log_part = record { created = λ c. (text, ([], append-nil text), log); uncreated = λ none. absurd (none made) };
            record_part = record_part;
            answer_last = answer_last;
            not_ahead = λ n short c. absurd (all_told n short);
            not_behind = λ n past. (text, log_begins asked.session (n + 1) (let l = past.0 in omega arith), log);
            others = others;
          }
        where
          created_there : (more : List Write) → Contains (created_by (run_script asked.session ++ more)) asked.session.log
          created_there more = subst (λ s. Contains s asked.session.log) (sym (created_by-append (run_script asked.session) more))
              (Contains-append_left (created_by (run_script asked.session)) (created_by more) asked.session.log (Contains-append_left (asked.session.log ∷ []) _ asked.session.log (Contains-push [] asked.session.log)))

          all_told : (n : ℕ) → IsShortOf asked.session n (put_by part) → ⊥
          all_told n short =
              let first = told_of_first asked.session n in
              let f = first_begins asked.session [] tt n short.0 in
              let puts : put_by part ≡ told_text asked.session ++ put_by more = ap put_by is ∙ put_by-append (run_script asked.session) more ∙ ap (λ t. t ++ put_by more) (whole_puts asked.session) in
              let long : length first ≤ length (told_text asked.session) = prefix_short first (told_text asked.session) f in
              let missing = short.1 in
              omega (arith, ap length puts, length-append (told_text asked.session) (put_by more))

      keeps_order : KeepsOrder asked (created_by part) (put_by part) files now
      keeps_order = elim (part_splits part (run_script asked.session) rest inside) [ inl h ↦ within h | inr h ↦ behind h.0 h.1 h.2 ]

  pub part_ordered : (a b : World) → DidPartOf (asked_script asked) a b → WritesOrdered asked a b
  part_ordered a b d = record {
    names = created_by d.part;
    created = d.after.created;
    gained = put_by d.part;
    out = d.after.out;
    begins = begins d.part d.is_part;
    files = Told-weaker (FilesAfter d.part) (KeepsOrder asked (created_by d.part) (put_by d.part)) (λ files now after. keeps_order d.part d.is_part files now after) a.folder.held b.folder.held d.after.files;
  }
