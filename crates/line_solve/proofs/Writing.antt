-- What the rounds of a search write, one after the other.
use Rattle.std.proofs.Common.{◌≡◌, ◌⊎◌, ℕ, zero, suc, ◌+◌, ◌<◌, Bool, true, false, if◌then◌else◌, List, [], ◌++◌, Option, Some, refl, sym, ap, ◌∙◌, subst, arith, inl, inr, append_assoc, append-nil}
use Rattle.std.specs.Prelude.{ℤ}
use Rattle.dcsp_script.specs.Scripts.{Write, file_after, put_by}
use Rattle.dcsp_script.specs.Ways.{IsPartOf}
use Rattle.dcsp_script.specs.Texts.{LeavesAlone}
use Rattle.dcsp_script.proofs.After.{put_by-append, file_after-append}
use Rattle.dcsp_script.proofs.Parts.{part_splits, left_alone}
use Rattle.ngd_log.specs.Logs.{log_text}
use Rattle.dcsp_rule.specs.Problems.{Contents}
use Rattle.line_replay.specs.Solutions.{solution_text}
use Rattle.abt_defs.specs.declared.end.End.{End}
use Rattle.abt_defs.specs.declared.end.End.TheVariants.{Solved, Refuted, Spent, Capped}
use Rattle.line_replay.specs.Endings.{assigned}
use Rattle.abt_session.specs.Sessions.{run_script}
use Rattle.abt_session.specs.Order.{told_text}
use Rattle.abt_session.proofs.InOrder.{leaves-append, whole_puts, whole_leaves, log_whole}
use Rattle.line_solve.specs.Searching.{AskedSearch, next_end, search_after, session_after, steps_after}
use Rattle.line_solve.specs.SearchScripts.{round_line, line_script, found_text, found_script, solution_script, round_script, rounds_script}
use Rattle.line_solve.specs.BestHeadline.{line_text, solution_put, puts_of_first, log_after}

-- ---- the line of a round

line_puts : (trace : Bool) (number : ℕ) → put_by (line_script trace number) ≡ (if trace then round_line number else [])
line_puts true number = append-nil (round_line number)
line_puts false number = refl

line_leaves : (trace : Bool) (number : ℕ) (name : List ℕ) → LeavesAlone (line_script trace number) name
line_leaves true number name = ((λ t. t), tt)
line_leaves false number name = tt

-- ---- the solution of a round

found_puts : (each : Bool) (p : Contents) (end : End (List ℤ)) → put_by (found_script each p end) ≡ found_text each p end
found_puts true p (Solved values) = append-nil (solution_text p (assigned values))
found_puts true p Refuted = refl
found_puts true p Spent = refl
found_puts true p Capped = refl
found_puts false p end = refl

pub found_leaves : (each : Bool) (p : Contents) (end : End (List ℤ)) (name : List ℕ) → LeavesAlone (found_script each p end) name
found_leaves true p (Solved values) name = ((λ t. t), tt)
found_leaves true p Refuted name = tt
found_leaves true p Spent name = tt
found_leaves true p Capped name = tt
found_leaves false p end name = tt

module _ (asked : AskedSearch) where
  pub puts_line : (n : ℕ) → put_by (line_script asked.set.trace (n + 1)) ≡ line_text asked n
  puts_line n = line_puts asked.set.trace (n + 1)

  pub leaves_line : (n : ℕ) (name : List ℕ) → LeavesAlone (line_script asked.set.trace (n + 1)) name
  leaves_line n name = line_leaves asked.set.trace (n + 1) name

  pub puts_solution : (n : ℕ) → put_by (solution_script asked n) ≡ solution_put asked n
  puts_solution n = found_puts asked.set.each asked.problem (next_end asked (search_after asked n))

  pub leaves_solution : (n : ℕ) (name : List ℕ) → LeavesAlone (solution_script asked n) name
  leaves_solution n name = found_leaves asked.set.each asked.problem (next_end asked (search_after asked n)) name

  -- ---- one round

  -- its run, and its solution
  abbrev pub run_and_solution : ℕ → List Write
  run_and_solution n = run_script (session_after asked n) ++ solution_script asked n

  pub round_puts : (n : ℕ) → put_by (round_script asked n) ≡ line_text asked n ++ (told_text (session_after asked n) ++ solution_put asked n)
  round_puts n =
      put_by-append (line_script asked.set.trace (n + 1)) (run_and_solution n)
      ∙ ap (λ t. t ++ put_by (run_and_solution n)) (puts_line n)
      ∙ ap (λ t. line_text asked n ++ t) (
      put_by-append (run_script (session_after asked n)) (solution_script asked n)
      ∙ ap (λ t. t ++ put_by (solution_script asked n)) (whole_puts (session_after asked n))
      ∙ ap (λ t. told_text (session_after asked n) ++ t) (puts_solution n)
      )

  pub round_leaves : (n : ℕ) (name : List ℕ) → (asked.log ≡ name → ⊥) → LeavesAlone (round_script asked n) name
  round_leaves n name other = leaves-append name (line_script asked.set.trace (n + 1)) (run_and_solution n) (leaves_line n name)
      (leaves-append name (run_script (session_after asked n)) (solution_script asked n) (whole_leaves (session_after asked n) name other) (leaves_solution n name))

  pub round_log : (n : ℕ) (file : Option (List ℕ)) → file_after (round_script asked n) asked.log file ≡ Some (log_text (steps_after asked n))
  round_log n file =
      let before = file_after (line_script asked.set.trace (n + 1)) asked.log file in
      let made = file_after (run_script (session_after asked n)) asked.log before in
      file_after-append (line_script asked.set.trace (n + 1)) (run_and_solution n) asked.log file
      ∙ file_after-append (run_script (session_after asked n)) (solution_script asked n) asked.log before
      ∙ left_alone (solution_script asked n) asked.log made (leaves_solution n asked.log)
      ∙ log_whole (session_after asked n) before

  -- ---- the first rounds

  pub none_is : rounds_script asked 0 ≡ []
  unfolding rounds_script
  none_is = refl

  pub more_is : (n : ℕ) → rounds_script asked (suc n) ≡ rounds_script asked n ++ round_script asked n
  unfolding rounds_script
  more_is n = refl

  traces_none : puts_of_first asked 0 ≡ []
  unfolding puts_of_first
  traces_none = refl

  pub puts_more : (n : ℕ) → puts_of_first asked (suc n) ≡ puts_of_first asked n ++ (line_text asked n ++ (told_text (session_after asked n) ++ solution_put asked n))
  unfolding puts_of_first
  puts_more n = refl

  pub rounds_put : (n : ℕ) → put_by (rounds_script asked n) ≡ puts_of_first asked n
  rounds_put zero = ap put_by none_is ∙ sym traces_none
  rounds_put (suc n) =
      ap put_by (more_is n) ∙ put_by-append (rounds_script asked n) (round_script asked n) ∙ ap (λ t. t ++ put_by (round_script asked n)) (rounds_put n)
      ∙ ap (λ t. puts_of_first asked n ++ t) (round_puts n) ∙ sym (puts_more n)

  pub rounds_leave : (n : ℕ) (name : List ℕ) → (asked.log ≡ name → ⊥) → LeavesAlone (rounds_script asked n) name
  rounds_leave zero name other = subst (λ s. LeavesAlone s name) (sym none_is) tt
  rounds_leave (suc n) name other = subst (λ s. LeavesAlone s name) (sym (more_is n)) (leaves-append name (rounds_script asked n) (round_script asked n) (rounds_leave n name other) (round_leaves n name other))

  pub rounds_log : (n : ℕ) (file : Option (List ℕ)) → file_after (rounds_script asked n) asked.log file ≡ log_after asked n file
  rounds_log zero file = ap (λ s. file_after s asked.log file) none_is
  rounds_log (suc n) file =
      ap (λ s. file_after s asked.log file) (more_is n) ∙ file_after-append (rounds_script asked n) (round_script asked n) asked.log file
      ∙ round_log n (file_after (rounds_script asked n) asked.log file)

  -- the script of more rounds begins with that of fewer
  pub rounds_begin : (n k : ℕ) → (later : List Write) × (rounds_script asked (k + n) ≡ rounds_script asked n ++ later)
  rounds_begin n zero = let z : 0 + n ≡ n = omega arith in ([], ap (rounds_script asked) z ∙ sym (append-nil (rounds_script asked n)))
  rounds_begin n (suc k) =
      let z : suc k + n ≡ suc (k + n) = omega arith in
      let rest = rounds_begin n k in (
        rest.0 ++ round_script asked (k + n),
        ap (rounds_script asked) z ∙ more_is (k + n) ∙ ap (λ s. s ++ round_script asked (k + n)) rest.1 ∙ append_assoc (rounds_script asked n) rest.0 (round_script asked (k + n)),
      )

  -- ---- where a part of it ends

  -- so many rounds are whole, and of the next one this is a part
  pub record EndsIn (part : List Write) (count : ℕ) : Type 0 where
    pub n : ℕ
    pub below : n < count
    pub more : List Write
    pub is : part ≡ rounds_script asked n ++ more
    pub part_of : IsPartOf more (round_script asked n)

  -- all rounds are whole, and this is a part of what follows them
  pub record EndsBehind (part : List Write) (count : ℕ) (rest : List Write) : Type 0 where
    pub more : List Write
    pub is : part ≡ rounds_script asked count ++ more
    pub part_of : IsPartOf more rest

  one_longer : (part : List Write) (count : ℕ) → EndsIn part count → EndsIn part (suc count)
  one_longer part count h = let l = h.below in record { n = h.n; below = omega arith; more = h.more; is = h.is; part_of = h.part_of }

  pub ends : (count : ℕ) (part rest : List Write) → IsPartOf part (rounds_script asked count ++ rest) → EndsIn part count ⊎ EndsBehind part count rest
  ends zero part rest h =
      let is = subst (λ s. IsPartOf part (s ++ rest)) none_is h in
      inr (record { more = part; is = ap (λ s. s ++ part) (sym none_is); part_of = is })
  ends (suc n) part rest h =
      let is = subst (λ s. IsPartOf part s) (ap (λ s. s ++ rest) (more_is n) ∙ append_assoc (rounds_script asked n) (round_script asked n) rest) h in
      elim (ends n part (round_script asked n ++ rest) is) [
        | inl x ↦ inl (one_longer part n x)
        | inr x ↦ elim (part_splits x.more (round_script asked n) rest x.part_of) [
          | inl y ↦ inl (record { n = n; below = omega arith; more = x.more; is = x.is; part_of = y })
          | inr y ↦ inr (record {
            more = y.0;
            is = x.is ∙ ap (λ s. rounds_script asked n ++ s) y.1 ∙ sym (append_assoc (rounds_script asked n) (round_script asked n) y.0) ∙ ap (λ s. s ++ y.0) (sym (more_is n));
            part_of = y.2;
          })
        ]
      ]
