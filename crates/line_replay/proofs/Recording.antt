-- A record is a schedule, which is read again.
use Rattle.std.proofs.Common.{◌≡◌, ◌∙◌, ℕ, suc, ◌*◌, ◌^◌, ◌<◌, ◌≤◌, ◌%◌, false, List, [], ◌∷◌, ◌++◌, length, slice_get, Option, Some, None, Ok, refl, sym, subst, arith, mul-le-mul_right, slice_index_or}
use Rattle.std.specs.Prelude.{IfSome}
use Rattle.std.specs.List.{AllByRecursion}
use Rattle.std.proofs.Math.Nat.{mod-lt}
use Rattle.std.proofs.lemmas.Option.{slice_get_within, slice_get-get_or}
use Rattle.dcsp_defs.specs.Csp.{Csp, count}
use Rattle.dcsp_rule.specs.Problems.{Contents, csp_of}
use Rattle.dcsp_order.specs.Told.{ordered, IsOrderFor}
use Rattle.dcsp_outside.specs.Outside.{Place, Stream, Told, bytes_of}
use Rattle.dcsp_problem.specs.WellFormed.{IsProblem}
use Rattle.dcsp_script.specs.Promises.{IsHeld}
use Rattle.dcsp_script.specs.Scripts.{Write, Put, World, outside, file_after, FilesAfter}
use Rattle.dcsp_script.specs.Ways.{Wrote}
use Rattle.dcsp_script.proofs.After.{file_after-append}
use Rattle.abt_defs.specs.Network.{ready, is_empty}
use Rattle.abt_defs.specs.Runs.{whole}
use Rattle.law_runs.specs.Stops.{Stops, after}
use Rattle.law_runs.proofs.Choices.{few_ready}
use Rattle.law_runs.proofs.Stopping.{stops}
use Rattle.abt_schedule.specs.Answers.{word_at, generator_of}
use Rattle.abt_schedule.specs.Schedules.{schedule_text, AreChoices}
use Rattle.abt_schedule.proofs.ScheduleLaws.{schedule_or_bad_line}
use Rattle.abt_session.specs.Answers.{first_answers}
use Rattle.abt_input.specs.Inputs.{IsModelOf, IsOrderIn}
use Rattle.abt_input.proofs.Once.{one_problem}
use Rattle.line_replay.specs.Asked.{record_script, most_deliveries}
use Rattle.line_replay.specs.Settings.{Settings}
use Rattle.line_replay.specs.Recorded.{RecordsAreSchedules, RecordsAreWhole, HasRecord, EachRecord, HoldsRecord, recorded_run}
use Rattle.line_replay.proofs.HeldOrders.{IsOrderHeld, one_order}
use Rattle.line_replay.proofs.Scripts.{record_holds}
use Rattle.line_replay.proofs.UnderOrder.{ordered_count}
use Rattle.line_replay.proofs.Verdicts.{records_replay}

-- ---- numbers are choices

each_is : {X : Type 0} (P : X → Type 0) (xs : List X) → ((k : ℕ) (x : X) → slice_get xs k ≡ Some x → P x) → AllByRecursion P xs
each_is P [] h = tt
each_is P (x ∷ xs) h = (h 0 x refl, each_is P xs (λ k y e. h (suc k) y e))

one : {X : Type 0} {x y : X} → Some x ≡ Some y → x ≡ y
one e = cc

some_there : {X : Type 0} (xs : List X) → is_empty xs ≡ false → 0 < length xs
some_there [] h = cc
some_there (x ∷ xs) h = omega arith

-- each number is below that of the pairs of agents
pub numbers_fit : (p : Csp) (most : ℕ) (choices : List ℕ) → count p ≤ 4096 → AreChoices (whole p most choices).numbers
numbers_fit p most choices few = each_is (λ n. n < 2 ^ 32) (whole p most choices).numbers small
  where
    small : (k n : ℕ) → slice_get (whole p most choices).numbers k ≡ Some n → n < 2 ^ 32
    small k n e =
        let h : Stops p most choices (whole p most choices) = stops p most choices in
        let within = slice_get_within (whole p most choices).numbers k n e in
        let numbers = h.numbers in
        let chosen = h.chosen in
        let l : k < (whole p most choices).net.deliveries = omega (arith, within, numbers) in
        let c = slice_index_or choices k 0 in
        let d = h.delivers k c l (slice_get-get_or choices k 0 (omega (arith, l, chosen))) in
        let same : n ≡ c % length (ready p (after p choices k)) = one (sym e ∙ d.number) in
        let some = some_there (ready p (after p choices k)) (h.open_before k l).in_transit in
        let below = mod-lt c some in
        let lists = few_ready p (after p choices k) in
        let square : count p * count p ≤ 4096 * count p = mul-le-mul_right (count p) few in
        omega (arith, same, below, lists, square, few)

-- ---- the record

pub records_are_schedules : (p : Contents) (s : Settings) → RecordsAreSchedules p s
records_are_schedules p s ok few order good log round =
    let choices = first_answers s.choices (λ k. Some (word_at (generator_of s.seed) k)) in
    let q = csp_of (ordered order p) in
    let run = whole q s.choices choices in
    let h : Stops q s.choices choices run = stops q s.choices choices in
    let variables = ok.few_variables in
    let as_many = ordered_count order p ok good in
    let fit = numbers_fit q s.choices choices (omega (arith, variables, as_many)) in
    record {
      schedule = record { in_range = fit; same = refl };
      counted = h.numbers;
      read = λ short. record { short = short; reads = record { in_range = fit; same = refl } };
      alone = λ others is. (schedule_or_bad_line (schedule_text run.numbers)).one_schedule others run.numbers is.reads (record { in_range = fit; same = refl });
      replayed = λ again trace. records_replay p s few order log again trace;
    }

-- ---- its file

pub records_are_whole : RecordsAreWhole
records_are_whole name numbers answer before files now is =
    let recorded = record_script (Some name) numbers in
    let last : List Write = Put answer ∷ [] in
    is name ∙ file_after-append before (recorded ++ last) name (files name) ∙ file_after-append recorded last name (file_after before name (files name))
    ∙ record_holds numbers name (file_after before name (files name))

-- ---- the folder behind a line

-- the order that a folder holds is one of the problem's variables
order_fits : (files : List ℕ → Option (List ℕ)) (order_file order : Option (List ℕ)) (p : Contents) → IsOrderIn files order_file p order → IsOrderFor order p
order_fits files None None p h = tt
order_fits files None (Some order) p h = absurd h
order_fits files (Some name) None p h = absurd h
order_fits files (Some name) (Some order) p h = h.reads.is_order

module _ (m log : List ℕ) (s : Settings) (p : Contents) (order : Option (List ℕ)) (ok : IsProblem p) (few : s.choices ≤ most_deliveries) (before : List Write) (answer : List ℕ) where
  -- the script of a line that records this run and then puts its answer
  abbrev line_script : Option (List ℕ) → List Write
  line_script record_file = before ++ (record_script record_file (recorded_run order p log s).numbers ++ Put answer ∷ [])

  each_record : (name model : List ℕ) (files now : List ℕ → Option (List ℕ)) → model ≡ bytes_of (files m) → IsModelOf model p → IsOrderIn files s.order_file p order
      → FilesAfter (line_script (Some name)) files now → EachRecord m log s files (now name)
  each_record name model files now same is ordered_so after = λ other is_other given is_given.
      let problem : p ≡ other = one_problem (bytes_of (files m)) p other (subst (λ b. IsModelOf b p) same is) is_other in
      let named : order ≡ given = one_order files s.order_file order given other (subst (λ x. IsOrderIn files s.order_file x order) problem ordered_so) is_given in
      let run = recorded_run order p log s in
      let here : HasRecord order p run (now name) = record {
        written = records_are_whole name run.numbers answer before files now after;
        is_record = records_are_schedules p s ok few order (order_fits files s.order_file order p ordered_so) log None;
      } in
      subst (λ (o : Option (List ℕ)). HasRecord o other (recorded_run o other log s) (now name)) named
      (subst (λ (x : Contents). HasRecord order x (recorded_run order x log s) (now name)) problem here)

  asked_record : (kept : Option (List ℕ)) (model : List ℕ) (files now : List ℕ → Option (List ℕ)) → model ≡ bytes_of (files m) → IsModelOf model p → IsOrderIn files s.order_file p order
      → FilesAfter (line_script kept) files now → IfSome kept (λ name. EachRecord m log s files (now name))
  asked_record None model files now same is ordered_so after = tt
  asked_record (Some name) model files now same is ordered_so after = each_record name model files now same is ordered_so after

  told_record : (files now : Option (List ℕ → Option (List ℕ))) → (model : List ℕ) × IsHeld files m model × IsModelOf model p → IsOrderHeld files s.order_file p order
      → Told files now (FilesAfter (line_script s.record_file)) → HoldsRecord m log s files now
  told_record None None h o t = tt
  told_record None (Some now) h o t = t
  told_record (Some files) None h o t = t
  told_record (Some files) (Some now) h o t = asked_record s.record_file h.0 files now h.1 h.2 o t

  -- in a folder that told the same when the model and the order were read
  pub holds_record : {T : Type 0} (files : Option (List ℕ → Option (List ℕ))) (q : Place) (out : Stream) (w : World) (x : T) → q.held ≡ files → (model : List ℕ) × IsHeld files m model × IsModelOf model p → IsOrderHeld files s.order_file p order
      → Wrote (line_script s.record_file) (outside q out) w (Ok x) → HoldsRecord m log s files w.folder.held
  holds_record files q out w x same h o wrote = told_record files w.folder.held h o (subst (λ f. Told f w.folder.held (FilesAfter (line_script s.record_file))) same wrote.ended.after.files)
