-- What is under the file's name once a starved run was written.
use Rattle.std.proofs.Common.{◌≡◌, ℕ, List, [], ◌++◌, Option, Some, None, Ok, refl, sym, ap, subst, ◌∙◌, append-nil}
use Rattle.std.specs.Prelude.{if◌then◌else◌}
use Rattle.std.specs.Cmp.Lexicographic.{bytes_decides}
use Rattle.dcsp_outside.specs.Outside.{Place, Stream, Told, bytes_of}
use Rattle.dcsp_outside.proofs.Changes.{Told-weaker}
use Rattle.dcsp_rule.specs.Problems.{Contents}
use Rattle.dcsp_script.specs.Scripts.{Append, World, Write, outside, after_write, file_after, FilesAfter, PutAfter}
use Rattle.dcsp_script.specs.Ways.{Wrote}
use Rattle.dcsp_script.specs.Texts.{LeavesAlone}
use Rattle.dcsp_script.proofs.Parts.{left_alone}
use Rattle.abt_defs.specs.Runs.{Run}
use Rattle.abt_schedule.specs.Schedules.{schedule_text}
use Rattle.dcsp_script.specs.Promises.{IsHeld}
use Rattle.dcsp_order.specs.Told.{ordered}
use Rattle.abt_input.specs.Inputs.{IsModelOf, IsOrderIn}
use Rattle.abt_input.proofs.Once.{one_problem}
use Rattle.line_replay.proofs.HeldOrders.{IsOrderHeld, one_order}
use Rattle.line_starve.specs.StarvePromise.{most_starved, starving_run, choices_of, starve_script, starved_script, agent_of}
use Rattle.line_starve.proofs.Agents.{StarvesRightly}
use Rattle.line_starve.specs.Starving.{WritesStarved, HoldsStarved, TellsStarved, EachStarved, line_of_run}

module _ (file choices : List ℕ) (run : Run) where
  -- the file is the schedule
  file_is : (before : Option (List ℕ)) → file_after (starve_script file choices run) file before ≡ Some (schedule_text choices)
  file_is before =
      let own = (bytes_decides file file).1 refl in
      ap (λ b. after_write (Append file (schedule_text choices)) file (if b then Some [] else before)) own
      ∙ ap (λ b. if b then Some ([] ++ schedule_text choices) else Some []) own

  leaves : (other : List ℕ) → (file ≡ other → ⊥) → LeavesAlone (starve_script file choices run) other
  leaves other unlike = (unlike, (unlike, ((λ u. u), tt)))

-- ---- the runs that are asked for

-- what holds of the run of this problem under this order holds of each run that is asked for
each_starved : (files : List ℕ → Option (List ℕ)) (m : List ℕ) (from to : ℕ) (order_file : Option (List ℕ)) (p : Contents) (order : Option (List ℕ)) (model : List ℕ) (P : Option (List ℕ) → Contents → ℕ → ℕ → Type 0)
    → model ≡ bytes_of (files m) → IsModelOf model p → IsOrderIn files order_file p order → P order p (agent_of order from) (agent_of order to) → EachStarved m from to order_file files P
each_starved files m from to order_file p order model P same is ordered_so h = λ other is_other given is_given.
    let problem : p ≡ other = one_problem (bytes_of (files m)) p other (subst (λ b. IsModelOf b p) same is) is_other in
    let named : order ≡ given = one_order files order_file order given other (subst (λ x. IsOrderIn files order_file x order) problem ordered_so) is_given in
    subst (λ (o : Option (List ℕ)). P o other (agent_of o from) (agent_of o to)) named (subst (λ (x : Contents). P order x (agent_of order from) (agent_of order to)) problem h)

-- ---- what is written

module _ (m : List ℕ) (from to : ℕ) (file : List ℕ) (order_file : Option (List ℕ)) (p : Contents) (order : Option (List ℕ)) where
  abbrev run_script : List Write
  run_script = starved_script file (ordered order p) (agent_of order from) (agent_of order to)

  writes_starved : StarvesRightly (ordered order p) (agent_of order from) (agent_of order to) → (files now : List ℕ → Option (List ℕ)) → FilesAfter run_script files now → WritesStarved order p (agent_of order from) (agent_of order to) file files now
  writes_starved h files now after =
      let q = ordered order p in
      let choices = choices_of q (agent_of order from) (agent_of order to) most_starved in
      let run = starving_run q (agent_of order from) (agent_of order to) most_starved in
      record {
        written = after file ∙ file_is file choices run (files file);
        others = λ other unlike. after other ∙ left_alone run_script other (files other) (leaves file choices run other (λ e. unlike (sym e)));
        schedule = h.schedule;
        replayed = λ log trace. h.replayed log trace;
        bound = h.bound;
      }

  told_starved : (files now : Option (List ℕ → Option (List ℕ))) → (model : List ℕ) × IsHeld files m model × IsModelOf model p → IsOrderHeld files order_file p order
      → StarvesRightly (ordered order p) (agent_of order from) (agent_of order to) → Told files now (FilesAfter run_script) → HoldsStarved m from to file order_file files now
  told_starved None None h o w t = tt
  told_starved None (Some now) h o w t = t
  told_starved (Some files) None h o w t = t
  told_starved (Some files) (Some now) h o w t = each_starved files m from to order_file p order h.0 (λ o q a b. WritesStarved o q a b file files now) h.1 h.2 o (writes_starved w files now t)

  -- in a folder that told the same when the model and the order were read
  pub holds_starved : {T : Type 0} (files : Option (List ℕ → Option (List ℕ))) (q : Place) (out : Stream) (w : World) (x : T) → q.held ≡ files → (model : List ℕ) × IsHeld files m model × IsModelOf model p → IsOrderHeld files order_file p order
      → StarvesRightly (ordered order p) (agent_of order from) (agent_of order to) → Wrote run_script (outside q out) w (Ok x) → HoldsStarved m from to file order_file files w.folder.held
  holds_starved files q out w x same h o right wrote = told_starved files w.folder.held h o right (subst (λ f. Told f w.folder.held (FilesAfter run_script)) same wrote.ended.after.files)

  -- ---- what was put

  tells_line : (files : Option (List ℕ → Option (List ℕ))) (before now : Option (List ℕ)) → (model : List ℕ) × IsHeld files m model × IsModelOf model p → IsOrderHeld files order_file p order
      → Told before now (λ old new. new ≡ old ++ line_of_run (ordered order p) (agent_of order from) (agent_of order to)) → TellsStarved m from to order_file files before now
  tells_line None before now h o t = tt
  tells_line (Some files) before now h o t = each_starved files m from to order_file p order h.0 (λ o q a b. Told before now (λ old new. new ≡ old ++ line_of_run (ordered o q) a b)) h.1 h.2 o t

  pub tells_starved : {T : Type 0} (files : Option (List ℕ → Option (List ℕ))) (q : Place) (out : Stream) (w : World) (x : T) → (model : List ℕ) × IsHeld files m model × IsModelOf model p → IsOrderHeld files order_file p order
      → Wrote run_script (outside q out) w (Ok x) → TellsStarved m from to order_file files out.written w.out.written
  tells_starved files q out w x h o wrote =
      let line = line_of_run (ordered order p) (agent_of order from) (agent_of order to) in
      tells_line files out.written w.out.written h o
      (Told-weaker (PutAfter run_script) (λ old new. new ≡ old ++ line) (λ old new e. e ∙ ap (λ t. old ++ t) (append-nil line)) out.written w.out.written wrote.ended.after.out)
