-- What the whole script leaves in the folder and on `out`.
use Rattle.std.proofs.Common.{◌≡◌, ◌≢◌, ℕ, ◌<◌, true, cond, List, [], ◌∷◌, ◌++◌, map, length, codes, Option, Some, None, inl, refl, sym, ap, ◌∙◌, subst, arith, append_assoc, append-nil, length-append}
use Rattle.std.specs.Prelude.{IfSome}
use Rattle.std.specs.List.{concat}
use Rattle.std.specs.Str.{bytes_eq}
use Rattle.std.specs.Cmp.Lexicographic.{bytes_decides}
use Rattle.dcsp_defs.specs.declared.Step.{Step}
use Rattle.dcsp_outside.specs.Outside.{Told, bytes_of}
use Rattle.dcsp_outside.proofs.Changes.{Told-weaker}
use Rattle.dcsp_script.specs.Scripts.{Write, Append, Put, World, file_after, put_by, FilesAfter, PutAfter}
use Rattle.dcsp_script.specs.Texts.{LeavesAlone}
use Rattle.dcsp_script.specs.Ways.{IsPartOf, DidPartOf}
use Rattle.dcsp_script.proofs.After.{put_by-append, file_after-append}
use Rattle.dcsp_script.proofs.Parts.{left_alone, part_leaves, part_past}
use Rattle.ngd_log.specs.Logs.{step_lines, log_text}
use Rattle.abt_schedule.specs.Schedules.{schedule_text}
use Rattle.abt_session.specs.Sessions.{step_writes}
use Rattle.line_replay.specs.Asked.{record_script}
use Rattle.line_replay.proofs.Scripts.{record_puts, record_leaves, record_holds}
use Rattle.line_lossy.specs.Asked.{Asked, run_steps, run_numbers, answer_text, log_script, asked_script}
use Rattle.line_lossy.specs.Meaning.{HoldsFiles, FilesAreWhole, AnswersArePut, AnswersComeLast}
use Rattle.line_lossy.proofs.Lawful.{log_leaves}

-- ---- the log

module _ (log : List ℕ) where
  same : bytes_eq log log ≡ true
  same = (bytes_decides log log).1 refl

  lines_appended : (lines : List (List ℕ)) (t : List ℕ) → file_after (map (Append log) lines) log (Some t) ≡ Some (t ++ concat lines)
  lines_appended [] t = ap (λ (x : List ℕ). Some x) (sym (append-nil t))
  lines_appended (line ∷ lines) t =
      ap (λ b. file_after (map (Append log) lines) log (cond b (Some (t ++ line)) (Some t))) same ∙ lines_appended lines (t ++ line)
      ∙ ap (λ (x : List ℕ). Some x) (append_assoc t line (concat lines))

  lines_put : (lines : List (List ℕ)) → put_by (map (Append log) lines) ≡ []
  lines_put [] = refl
  lines_put (line ∷ lines) = lines_put lines

  log_holds : (steps : List Step) (file : Option (List ℕ)) → file_after (log_script log steps) log file ≡ Some (log_text steps)
  log_holds steps file =
      let head = codes "ngd 1\n" in
      let lines = step_lines 1 steps in
      let end : List Write = Append log (codes "end\n") ∷ [] in
      ap (λ b. file_after (step_writes log 1 steps ++ end) log (cond b (Some (bytes_of (cond b (Some []) file) ++ head)) (cond b (Some []) file))) same
      ∙ file_after-append (step_writes log 1 steps) end log (Some head) ∙ ap (λ f. file_after end log f) (lines_appended lines head)
      ∙ ap (λ b. cond b (Some ((head ++ concat lines) ++ codes "end\n")) (Some (head ++ concat lines))) same

  log_puts : (steps : List Step) → put_by (log_script log steps) ≡ []
  log_puts steps = put_by-append (step_writes log 1 steps) (Append log (codes "end\n") ∷ []) ∙ ap (λ (l : List ℕ). l ++ []) (lines_put (step_lines 1 steps))

-- ---- the whole

module _ (asked : Asked) where
  abbrev first : List Write
  first = log_script asked.log (run_steps asked)

  abbrev recorded : List Write
  recorded = record_script asked.record_file (run_numbers asked)

  abbrev last : List Write
  last = Put (answer_text asked) ∷ []

  pub puts_answer : put_by (asked_script asked) ≡ answer_text asked
  puts_answer =
      put_by-append first (recorded ++ last) ∙ ap (λ t. t ++ put_by (recorded ++ last)) (log_puts asked.log (run_steps asked))
      ∙ put_by-append recorded last ∙ ap (λ t. t ++ put_by last) (record_puts (run_numbers asked) asked.record_file) ∙ append-nil (answer_text asked)

  -- some first part of the answer, or nothing, was put behind the log and the record
  module _ (own : IfSome asked.record_file (λ k. k ≢ asked.log)) (more : List Write) (part : IsPartOf more last) (files now : List ℕ → Option (List ℕ)) (after : FilesAfter ((first ++ recorded) ++ more) files now) where
    leaves : (name : List ℕ) → LeavesAlone more name
    leaves name = part_leaves more last name part ((λ t. t), tt)

    behind : (name : List ℕ) → now name ≡ file_after recorded name (file_after first name (files name))
    behind name =
        let before = file_after (first ++ recorded) name (files name) in
        after name ∙ file_after-append (first ++ recorded) more name (files name) ∙ left_alone more name before (leaves name) ∙ file_after-append first recorded name (files name)

    log_is : now asked.log ≡ Some (log_text (run_steps asked))
    log_is = behind asked.log ∙ left_alone recorded asked.log (file_after first asked.log (files asked.log)) (record_leaves (run_numbers asked) asked.record_file asked.log own) ∙ log_holds asked.log (run_steps asked) (files asked.log)

    record_is : (kept : Option (List ℕ)) → asked.record_file ≡ kept → IfSome kept (λ name. now name ≡ Some (schedule_text (run_numbers asked)))
    record_is None e = tt
    record_is (Some name) e =
        behind name ∙ ap (λ k. file_after (record_script k (run_numbers asked)) name (file_after first name (files name))) e
        ∙ record_holds (run_numbers asked) name (file_after first name (files name))

    turned : (name : List ℕ) (kept : Option (List ℕ)) → IfSome kept (λ k. name ≢ k) → IfSome kept (λ k. k ≡ name → ⊥)
    turned name None g = tt
    turned name (Some k) g = λ e. g (sym e)

    others : (name : List ℕ) → name ≢ asked.log → IfSome asked.record_file (λ k. name ≢ k) → now name ≡ files name
    others name unlike kept =
        behind name ∙ left_alone recorded name (file_after first name (files name)) (record_leaves (run_numbers asked) asked.record_file name (turned name asked.record_file kept))
        ∙ left_alone first name (files name) (log_leaves asked.log (run_steps asked) name (λ e. unlike (sym e)))

    pub holds_files : HoldsFiles asked files now
    holds_files = record { log = log_is; recorded = record_is asked.record_file refl; others = others }

  -- the whole script
  script_is : asked_script asked ≡ (first ++ recorded) ++ last
  script_is = sym (append_assoc first recorded last)

  front_puts : put_by (first ++ recorded) ≡ []
  front_puts = put_by-append first recorded ∙ ap (λ t. t ++ put_by recorded) (log_puts asked.log (run_steps asked)) ∙ record_puts (run_numbers asked) asked.record_file

  -- once a byte was put, all before the answer was made
  pub answer_last : IfSome asked.record_file (λ k. k ≢ asked.log) → (a b : World) → DidPartOf (asked_script asked) a b
      → Told a.out.written b.out.written (λ before now. length before < length now → Told a.folder.held b.folder.held (HoldsFiles asked))
  answer_last own a b did = Told-weaker (PutAfter did.part) (λ before now. length before < length now → Told a.folder.held b.folder.held (HoldsFiles asked)) (λ before now e long.
      let size = ap length e ∙ length-append before (put_by did.part) in
      let past = part_past did.part (first ++ recorded) last (subst (λ s. IsPartOf did.part s) script_is did.is_part) (let none = ap length front_puts in omega (arith, size, none, long)) in
      Told-weaker (FilesAfter did.part) (HoldsFiles asked) (λ files left after. holds_files own past.0 past.2 files left (subst (λ s. FilesAfter s files left) past.1 after)) a.folder.held b.folder.held did.after.files)
      a.out.written b.out.written did.after.out

pub files_are_whole : FilesAreWhole
files_are_whole asked own files now after = holds_files asked own (Put (answer_text asked) ∷ []) (inl (refl, tt)) files now (subst (λ s. FilesAfter s files now) (script_is asked) after)

pub answers_are_put : AnswersArePut
answers_are_put asked = puts_answer asked

pub answers_come_last : AnswersComeLast
answers_come_last asked own a b did = answer_last asked own a b did
