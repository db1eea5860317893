-- What the script of a run that is asked for puts, and which names it changes.
use Rattle.std.proofs.Common.{◌≡◌, ℕ, zero, suc, ◌<◌, Bool, true, false, List, [], ◌∷◌, ◌++◌, Option, Some, None, refl, sym, ap, ◌∙◌, subst, append-nil, append_assoc, arith, length}
use Rattle.std.specs.Prelude.{Contains, IfSome}
use Rattle.std.specs.Str.{bytes_eq}
use Rattle.std.specs.Cmp.Lexicographic.{bytes_decides}
use Rattle.dcsp_script.specs.Scripts.{Write, Put, file_after, put_by}
use Rattle.dcsp_script.specs.Texts.{Touches, LeavesAlone}
use Rattle.dcsp_script.proofs.After.{put_by-append}
use Rattle.abt_schedule.specs.Schedules.{schedule_text}
use Rattle.abt_session.specs.Sessions.{run_script}
use Rattle.abt_session.specs.Order.{told_text}
use Rattle.abt_session.proofs.InOrder.{leaves-append, whole_puts, whole_leaves}
use Rattle.line_replay.specs.Asked.{Asked, asked_run, answer_text, record_script, asked_script}

-- a script that leaves a name alone has no write that changes it
pub touches_none : (s : List Write) (w : Write) (name : List ℕ) → LeavesAlone s name → Contains s w → Touches w name → ⊥
touches_none [] w name h (i, below, is) t = omega arith
touches_none (v ∷ s) w name h (zero, below, is) t = h.0 (subst (λ x. Touches x name) (sym is) t)
touches_none (v ∷ s) w name h (suc i, below, is) t = touches_none s w name h.1 (i, let l : i < length s = omega arith in l, is) t

-- two names are the same or not
pub same_name : {P : Type 0} (a b : List ℕ) → (a ≡ b → P) → ((a ≡ b → ⊥) → P) → P
same_name {P = P} a b same other = by (bytes_eq a b) refl
  where
    by : (t : Bool) → bytes_eq a b ≡ t → P
    by true e = same ((bytes_decides a b).0 e)
    by false e = other (λ s. let t = (bytes_decides a b).1 s in cc)

-- ---- the record

module _ (numbers : List ℕ) where
  pub record_puts : (kept : Option (List ℕ)) → put_by (record_script kept numbers) ≡ []
  record_puts None = refl
  record_puts (Some name) = refl

  pub record_leaves : (kept : Option (List ℕ)) (name : List ℕ) → IfSome kept (λ k. k ≡ name → ⊥) → LeavesAlone (record_script kept numbers) name
  record_leaves None name h = tt
  record_leaves (Some k) name h = (h, (h, tt))

  -- the record after it was written
  pub record_holds : (name : List ℕ) (file : Option (List ℕ)) → file_after (record_script (Some name) numbers) name file ≡ Some (schedule_text numbers)
  record_holds name file = rw ((bytes_decides name name).1 refl) refl

-- ---- the whole

module _ (asked : Asked) where
  -- what comes before the answer
  abbrev pub before_answer : List Write
  before_answer = run_script asked.session ++ record_script asked.record_file (asked_run asked).numbers

  pub script_is : asked_script asked ≡ before_answer ++ Put (answer_text asked) ∷ []
  script_is = sym (append_assoc (run_script asked.session) (record_script asked.record_file (asked_run asked).numbers) (Put (answer_text asked) ∷ []))

  pub before_puts : put_by before_answer ≡ told_text asked.session
  before_puts =
      put_by-append (run_script asked.session) (record_script asked.record_file (asked_run asked).numbers)
      ∙ ap (λ t. put_by (run_script asked.session) ++ t) (record_puts (asked_run asked).numbers asked.record_file)
      ∙ append-nil (put_by (run_script asked.session)) ∙ whole_puts asked.session

  pub asked_puts : put_by (asked_script asked) ≡ told_text asked.session ++ answer_text asked
  asked_puts =
      ap put_by script_is ∙ put_by-append before_answer (Put (answer_text asked) ∷ [])
      ∙ ap (λ t. put_by before_answer ++ t) (append-nil (answer_text asked)) ∙ ap (λ t. t ++ answer_text asked) before_puts

  pub asked_leaves : (name : List ℕ) → (asked.session.log ≡ name → ⊥) → IfSome asked.record_file (λ k. k ≡ name → ⊥) → LeavesAlone (asked_script asked) name
  asked_leaves name other h =
      leaves-append name (run_script asked.session) (record_script asked.record_file (asked_run asked).numbers ++ Put (answer_text asked) ∷ []) (whole_leaves asked.session name other)
      (leaves-append name (record_script asked.record_file (asked_run asked).numbers) (Put (answer_text asked) ∷ []) (record_leaves (asked_run asked).numbers asked.record_file name h) ((λ t. t), tt))
