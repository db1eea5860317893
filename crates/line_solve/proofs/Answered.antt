-- A search whose answer was begun wrote all its rounds and its record before.
use Rattle.std.proofs.Common.{◌≡◌, ℕ, zero, suc, ◌+◌, ◌-◌, ◌<◌, ◌≤◌, List, ◌++◌, length, Option, Some, None, sym, ap, ◌∙◌, subst, arith, length-append}
use Rattle.std.specs.Prelude.{◌≢◌, IfSome}
use Rattle.dcsp_outside.specs.Outside.{Told}
use Rattle.dcsp_outside.proofs.Changes.{Told-trans, Told-weaker}
use Rattle.dcsp_script.specs.Scripts.{World, PutAfter, put_by}
use Rattle.dcsp_script.proofs.After.{put_by-append}
use Rattle.dcsp_script.proofs.Parts.{prefix_short}
use Rattle.abt_session.specs.Order.{told_text}
use Rattle.abt_session.specs.Sessions.{run_script}
use Rattle.abt_session.proofs.InOrder.{whole_puts}
use Rattle.line_solve.specs.Searching.{AskedSearch, round_count, session_after}
use Rattle.line_solve.specs.SearchScripts.{line_script}
use Rattle.line_solve.specs.BestHeadline.{line_text, solution_put, puts_of_first, HoldsRounds, HoldsSearch, KeepsEnding, MadeRounds, WritesEnding, WritesRound, in_line, in_run, in_solution, SearchOrdered, in_round, in_ending}
use Rattle.line_solve.proofs.Writing.{puts_line, puts_more}
use Rattle.line_solve.proofs.Headlines.{OwnsRecord, last_log}

flipped : (log : List ℕ) (o : Option (List ℕ)) → IfSome o (λ k. k ≡ log → ⊥) → IfSome o (λ k. log ≢ k)
flipped log None h = tt
flipped log (Some k) h = λ e. h (sym e)

module _ (asked : AskedSearch) where
  -- ---- how much is put

  -- what the round with so many before it puts
  abbrev round_put : ℕ → List ℕ
  round_put n = line_text asked n ++ (told_text (session_after asked n) ++ solution_put asked n)

  round_size : (n : ℕ) → length (round_put n) ≡ length (line_text asked n) + (length (told_text (session_after asked n)) + length (solution_put asked n))
  round_size n = length-append (line_text asked n) (told_text (session_after asked n) ++ solution_put asked n) ∙ ap (λ k. length (line_text asked n) + k) (length-append (told_text (session_after asked n)) (solution_put asked n))

  one_more : (n : ℕ) → length (puts_of_first asked (suc n)) ≡ length (puts_of_first asked n) + length (round_put n)
  one_more n = ap length (puts_more asked n) ∙ length-append (puts_of_first asked n) (round_put n)

  puts_grow : (n more : ℕ) → length (puts_of_first asked n) ≤ length (puts_of_first asked (more + n))
  puts_grow n zero = let e : zero + n ≡ n = omega arith in let same = ap (λ k. length (puts_of_first asked k)) e in omega (arith, same)
  puts_grow n (suc more) =
      let e : suc more + n ≡ suc (more + n) = omega arith in
      let same = ap (λ k. length (puts_of_first asked k)) e in
      let before = puts_grow n more in
      let size = one_more (more + n) in
      omega (arith, before, size, same)

  puts_within : (n m : ℕ) → n ≤ m → length (puts_of_first asked n) ≤ length (puts_of_first asked m)
  puts_within n m l = let e : (m - n) + n ≡ m = omega (arith, l) in subst (λ k. length (puts_of_first asked n) ≤ length (puts_of_first asked k)) e (puts_grow n (m - n))

  -- ---- a round that was stopped

  -- no more bytes than these were put
  abbrev PutAtMost : ℕ → List ℕ → List ℕ → Type 0
  PutAtMost most before now = length now ≤ length before + most

  round_few : (n : ℕ) (a b : World) → WritesRound asked n a b → Told a.out.written b.out.written (PutAtMost (length (round_put n)))
  round_few n a b (in_line adds) =
      let part = prefix_short adds.gained (line_text asked n) adds.begins in
      let whole = round_size n in
      Told-weaker (λ before now. now ≡ before ++ adds.gained) (PutAtMost (length (round_put n))) (λ before now e. let size = ap length e ∙ length-append before adds.gained in omega (arith, size, part, whole)) a.out.written b.out.written adds.out
  round_few n a b (in_run moment did writes) =
      let script = line_script asked.set.trace (n + 1) in
      let part = prefix_short writes.gained (told_text (session_after asked n)) writes.told_part in
      let whole = round_size n in
      Told-trans (PutAfter script) (λ before now. now ≡ before ++ writes.gained) (PutAtMost (length (round_put n))) (λ x y z e f.
      let one = ap length e ∙ length-append x (put_by script) ∙ ap (λ t. length x + length t) (puts_line asked n) in
      let two = ap length f ∙ length-append y writes.gained in
      omega (arith, one, two, part, whole)) a.out.written moment.out.written b.out.written did.after.out writes.out
  round_few n a b (in_solution moment did adds) =
      let line = line_script asked.set.trace (n + 1) in
      let run = run_script (session_after asked n) in
      let part = prefix_short adds.gained (solution_put asked n) adds.begins in
      let whole = round_size n in
      let puts = put_by-append line run ∙ ap (λ t. t ++ put_by run) (puts_line asked n) ∙ ap (λ t. line_text asked n ++ t) (whole_puts (session_after asked n)) in
      let both = length-append (line_text asked n) (told_text (session_after asked n)) in
      Told-trans (PutAfter (line ++ run)) (λ before now. now ≡ before ++ adds.gained) (PutAtMost (length (round_put n))) (λ x y z e f.
      let one = ap length e ∙ length-append x (put_by (line ++ run)) ∙ ap (λ t. length x + length t) puts in
      let two = ap length f ∙ length-append y adds.gained in
      omega (arith, one, two, both, part, whole)) a.out.written moment.out.written b.out.written did.after.out adds.out

  -- it and the rounds before put no more than all rounds
  rounds_few : (n : ℕ) → n < round_count asked → (a moment b : World) → MadeRounds asked n a moment → WritesRound asked n moment b → Told a.out.written b.out.written (PutAtMost (length (puts_of_first asked (round_count asked))))
  rounds_few n l a moment b made round =
      let next = one_more n in
      let within = puts_within (suc n) (round_count asked) (omega (arith, l)) in
      Told-trans (λ before now. now ≡ before ++ puts_of_first asked n) (PutAtMost (length (round_put n))) (PutAtMost (length (puts_of_first asked (round_count asked)))) (λ x y z e most.
      let size = ap length e ∙ length-append x (puts_of_first asked n) in
      omega (arith, size, next, within, most)) a.out.written moment.out.written b.out.written made.out (round_few n moment b round)

  -- ---- the end

  module _ (own : OwnsRecord asked) where
    ended : (a moment b : World) (made : MadeRounds asked (round_count asked) a moment) (ending : WritesEnding asked moment b) → 0 < length ending.gained → Told a.folder.held b.folder.held (HoldsSearch asked)
    ended a moment b made ending some = Told-trans (HoldsRounds asked (round_count asked)) (KeepsEnding asked ending.names ending.gained) (HoldsSearch asked) (λ f g h rounds keeps. record {
      log = keeps.others asked.log (flipped asked.log asked.set.record_file own) ∙ rounds.log ∙ last_log asked (f asked.log);
      recorded = keeps.answer_last some;
      others = λ name other. keeps.others name other.1 ∙ rounds.others name other.0;
    }) a.folder.held moment.folder.held b.folder.held made.files ending.files

    -- once a byte was put past what the rounds put, the folder holds the whole search
    pub answer_stands : (a b : World) → SearchOrdered asked a b
        → Told a.out.written b.out.written (λ before now. length before + length (puts_of_first asked (round_count asked)) < length now → Told a.folder.held b.folder.held (HoldsSearch asked))
    answer_stands a b (in_round n l moment made round) =
        Told-weaker (PutAtMost (length (puts_of_first asked (round_count asked)))) (λ before now. length before + length (puts_of_first asked (round_count asked)) < length now → Told a.folder.held b.folder.held (HoldsSearch asked))
        (λ before now most long. absurd (omega (arith, most, long))) a.out.written b.out.written (rounds_few n l a moment b made round)
    answer_stands a b (in_ending moment made ending) =
        Told-trans (λ before now. now ≡ before ++ puts_of_first asked (round_count asked)) (λ before now. now ≡ before ++ ending.gained) (λ before now. length before + length (puts_of_first asked (round_count asked)) < length now → Told a.folder.held b.folder.held (HoldsSearch asked)) (λ x y z e f long.
        let one = ap length e ∙ length-append x (puts_of_first asked (round_count asked)) in
        let two = ap length f ∙ length-append y ending.gained in
        ended a moment b made ending (omega (arith, one, two, long))) a.out.written moment.out.written b.out.written made.out ending.out
