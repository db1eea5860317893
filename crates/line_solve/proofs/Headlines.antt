-- A search whose script was made in whole or in part: what it wrote, and in which order.
use Rattle.std.proofs.Common.{◌≡◌, ◌≢◌, ℕ, zero, suc, ◌+◌, ◌-◌, ◌<◌, ◌≤◌, Bool, true, false, List, [], ◌∷◌, ◌++◌, length, Option, Some, None, refl, sym, ap, ◌∙◌, subst, append-nil, append_assoc, inl, inr, arith, length-append}
use Rattle.std.specs.Prelude.{ℤ, Contains, IfSome}
use Rattle.std.specs.Cmp.Lexicographic.{bytes_decides}
use Rattle.dcsp_outside.specs.Outside.{IsPrefixOf}
use Rattle.dcsp_outside.proofs.Changes.{Told-weaker}
use Rattle.dcsp_script.specs.Scripts.{Write, Create, Empty, Append, Put, World, file_after, put_by, created_by, FilesAfter, PutAfter, IsAfter}
use Rattle.dcsp_script.specs.Ways.{IsPartOf, IsPieceOf, Did, DidPartOf}
use Rattle.dcsp_script.specs.Texts.{LeavesAlone, HoldsPartOf, appended_by}
use Rattle.dcsp_script.proofs.After.{put_by-append, file_after-append}
use Rattle.dcsp_script.proofs.Parts.{part_splits, part_past, part_leaves, left_alone, put_of_part}
use Rattle.dcsp_script.proofs.Texts.{holds_part}
use Rattle.ngd_log.specs.Logs.{log_text}
use Rattle.abt_schedule.specs.Schedules.{schedule_text}
use Rattle.abt_session.specs.Sessions.{run_script}
use Rattle.abt_session.proofs.InOrder.{leaves-append, part_in_order}
use Rattle.dcsp_script.specs.declared.status.Status.{Status}
use Rattle.line_replay.specs.Asked.{record_script}
use Rattle.line_replay.proofs.Scripts.{record_puts, record_leaves, record_holds}
use Rattle.line_replay.specs.Solutions.{solution_text}
use Rattle.line_replay.specs.Endings.{assigned}
use Rattle.abt_optimum.specs.declared.round.Round.{Round}
use Rattle.abt_defs.specs.declared.end.End.{End}
use Rattle.abt_defs.specs.declared.end.End.TheVariants.{Solved, Refuted, Spent, Capped}
use Rattle.abt_optimum.specs.Rounds.{most_rounds_at}
use Rattle.abt_optimum.specs.Searches.{SearchState}
use Rattle.dcsp_rule.specs.Problems.{Contents}
use Rattle.dcsp_rule.specs.Aims.{aimed_at}
use Rattle.line_solve.specs.Searching.{AskedSearch, next_end, search_after, round_count, session_after, first_run, last_steps}
use Rattle.line_solve.specs.BestAnswers.{answer_text, search_status}
use Rattle.line_solve.specs.SearchScripts.{round_line, line_script, found_script, solution_script, round_script, rounds_script, ending_script, search_script}
use Rattle.line_solve.specs.BestHeadline.{line_text, solution_put, puts_of_first, whole_text, HoldsSearch, IsSearched, log_after, HoldsRounds, MadeRounds, AddsBytes, WritesRound, in_line, in_run, in_solution, KeepsEnding, WritesEnding, SearchOrdered, in_round, in_ending}
use Rattle.line_solve.proofs.Moments.{after_script, did_then, after_then}
use Rattle.line_solve.proofs.Rounds.{starts, goes_on, stops, is_over}
use Rattle.line_solve.proofs.Writing.{puts_line, leaves_line, puts_solution, leaves_solution, rounds_put, rounds_leave, rounds_log, ends}

-- the record has a name of its own
abbrev pub OwnsRecord : AskedSearch → Type 0
OwnsRecord asked = IfSome asked.set.record_file (λ k. k ≡ asked.log → ⊥)

-- ---- there is a round

pub positive : (o : Option ℕ) (p : Contents) → (m : ℕ) × (most_rounds_at o p ≡ suc m)
positive None p = (0, refl)
positive (Some var) p = (_, let e : most_rounds_at (Some var) p ≡ suc (most_rounds_at (Some var) p - 1) = omega arith in e)

with_one : (rounds : List Round) (round : Round) → 1 ≤ length (rounds ++ round ∷ [])
with_one rounds round = let l = length-append rounds (round ∷ []) in omega (arith, l)

module _ (asked : AskedSearch) where
  one_turn : (n : ℕ) (over : Bool) → is_over (search_after asked n) ≡ over → 1 ≤ length (search_after asked n).rounds → 1 ≤ length (search_after asked (suc n)).rounds
  one_turn n true e h = subst (λ (s : SearchState). 1 ≤ length s.rounds) (sym (stops asked n e)) h
  one_turn n false e h = subst (λ (s : SearchState). 1 ≤ length s.rounds) (sym (goes_on asked n e)) (with_one (search_after asked n).rounds _)

  first_turn : 1 ≤ length (search_after asked 1).rounds
  first_turn =
      let open_ : is_over (search_after asked 0) ≡ false = ap is_over (starts asked) in
      subst (λ (s : SearchState). 1 ≤ length s.rounds) (sym (goes_on asked 0 open_)) (with_one (search_after asked 0).rounds _)

  some_rounds : (n : ℕ) → 1 ≤ length (search_after asked (suc n)).rounds
  some_rounds zero = first_turn
  some_rounds (suc n) = one_turn (suc n) (is_over (search_after asked (suc n))) refl (some_rounds n)

  pub has_round : 1 ≤ round_count asked
  has_round = let m = positive (aimed_at asked.problem.aim) asked.problem in subst (λ (n : ℕ). 1 ≤ length (search_after asked n).rounds) (sym m.1) (some_rounds m.0)

  -- what the log holds after all rounds
  pub last_log : (file : Option (List ℕ)) → log_after asked (round_count asked) file ≡ Some (log_text (last_steps asked))
  last_log file = let h = has_round in let e : round_count asked ≡ suc (round_count asked - 1) = omega arith in ap (λ (n : ℕ). log_after asked n file) e

-- ---- the whole script was made

module _ (asked : AskedSearch) where
  -- the record's writes, and the answer's
  abbrev record_writes : List Write
  record_writes = record_script asked.set.record_file (first_run asked).numbers

  abbrev answer_write : List Write
  answer_write = Put (answer_text asked) ∷ []

  ending_puts : put_by (ending_script asked) ≡ answer_text asked
  ending_puts = put_by-append record_writes answer_write ∙ ap (λ t. t ++ put_by answer_write) (record_puts (first_run asked).numbers asked.set.record_file) ∙ append-nil (answer_text asked)

  pub search_puts : put_by (search_script asked) ≡ whole_text asked
  search_puts =
      put_by-append (rounds_script asked (round_count asked)) (ending_script asked) ∙ ap (λ t. t ++ put_by (ending_script asked)) (rounds_put asked (round_count asked))
      ∙ ap (λ t. puts_of_first asked (round_count asked) ++ t) ending_puts

  ending_leaves : (name : List ℕ) → IfSome asked.set.record_file (λ k. k ≡ name → ⊥) → LeavesAlone (ending_script asked) name
  ending_leaves name h = leaves-append name record_writes answer_write (record_leaves (first_run asked).numbers asked.set.record_file name h) ((λ t. t), tt)

  pub search_leaves : (name : List ℕ) → (asked.log ≡ name → ⊥) → IfSome asked.set.record_file (λ k. k ≡ name → ⊥) → LeavesAlone (search_script asked) name
  search_leaves name other h = leaves-append name (rounds_script asked (round_count asked)) (ending_script asked) (rounds_leave asked (round_count asked) name other) (ending_leaves name h)

  turned : (name : List ℕ) (kept : Option (List ℕ)) → IfSome kept (λ k. name ≢ k) → IfSome kept (λ k. k ≡ name → ⊥)
  turned name None g = tt
  turned name (Some k) g = λ e. g (sym e)

  -- the record behind its own writes and a part of the answer
  recorded : (kept : Option (List ℕ)) → asked.set.record_file ≡ kept → (more : List Write) → IsPartOf more answer_write → (files now : List ℕ → Option (List ℕ)) → FilesAfter (record_writes ++ more) files now → IfSome kept (λ name. now name ≡ Some (schedule_text (first_run asked).numbers))
  recorded None e more h files now after = tt
  recorded (Some name) e more h files now after =
      after name ∙ file_after-append record_writes more name (files name)
      ∙ left_alone more name (file_after record_writes name (files name)) (part_leaves more answer_write name h ((λ t. t), tt))
      ∙ ap (λ k. file_after (record_script k (first_run asked).numbers) name (files name)) e ∙ record_holds (first_run asked).numbers name (files name)

part_self : (s : List Write) → IsPartOf s s
part_self [] = tt
part_self (w ∷ s) = inl (refl, part_self s)

module _ (asked : AskedSearch) (own : OwnsRecord asked) where
  module _ (files now : List ℕ → Option (List ℕ)) (after : FilesAfter (search_script asked) files now) where
    -- the files after the last round
    abbrev between : List ℕ → Option (List ℕ)
    between name = file_after (rounds_script asked (round_count asked)) name (files name)

    later : FilesAfter (ending_script asked) between now
    later name = after name ∙ file_after-append (rounds_script asked (round_count asked)) (ending_script asked) name (files name)

    holds_search : HoldsSearch asked files now
    holds_search = record {
      log = later asked.log ∙ left_alone (ending_script asked) asked.log (between asked.log) (ending_leaves asked asked.log own) ∙ rounds_log asked (round_count asked) (files asked.log) ∙ last_log asked (files asked.log);
      recorded = recorded asked asked.set.record_file refl (answer_write asked) (part_self (answer_write asked)) between now later;
      others = λ name other. after name ∙ left_alone (search_script asked) name (files name) (search_leaves asked name (λ e. other.0 (sym e)) (turned asked name asked.set.record_file other.1));
    }

  pub is_searched : (a b : World) (status : Status) → status ≡ search_status asked → Did (search_script asked) a b → IsSearched asked status a b
  is_searched a b status is did = record {
    status_is = is;
    out = Told-weaker (PutAfter (search_script asked)) (λ before now. now ≡ before ++ whole_text asked) (λ before now h. h ∙ ap (λ t. before ++ t) (search_puts asked)) a.out.written b.out.written did.after.out;
    files = Told-weaker (FilesAfter (search_script asked)) (HoldsSearch asked) holds_search a.folder.held b.folder.held did.after.files;
  }

  -- ---- a part of it was made

  made_rounds : (n : ℕ) (a : World) → MadeRounds asked n a (after_script (rounds_script asked n) a)
  made_rounds n a =
      let did = did_then (rounds_script asked n) a in
      let b = after_script (rounds_script asked n) a in
      record {
        did = did;
        out = Told-weaker (PutAfter (rounds_script asked n)) (λ before now. now ≡ before ++ puts_of_first asked n) (λ before now h. h ∙ ap (λ t. before ++ t) (rounds_put asked n)) a.out.written b.out.written did.after.out;
        files = Told-weaker (FilesAfter (rounds_script asked n)) (HoldsRounds asked n) (λ files now after. record {
          log = after asked.log ∙ rounds_log asked n (files asked.log);
          others = λ name other. after name ∙ left_alone (rounds_script asked n) name (files name) (rounds_leave asked n name (λ e. other (sym e)));
        }) a.folder.held b.folder.held did.after.files;
      }

  -- a part of a line creates nothing
  put_creates : (w : Write) (text : List ℕ) → IsPieceOf w (Put text) → created_by (w ∷ []) ≡ []
  put_creates (Put bytes) text h = refl
  put_creates (Create name) text h = absurd h
  put_creates (Empty name) text h = absurd h
  put_creates (Append name bytes) text h = absurd h

  one_creates : (part : List Write) (text : List ℕ) → IsPartOf part (Put text ∷ []) → created_by part ≡ []
  one_creates [] text h = refl
  one_creates (w ∷ []) text h = elim h [ inl x ↦ ap (λ (v : Write). created_by (v ∷ [])) x.0 | inr x ↦ put_creates w _ x.0 ]
  one_creates (w ∷ v ∷ part) text h = elim h [ inl x ↦ absurd x.1 | inr x ↦ absurd (let e = x.1 in cc) ]

  none_creates : (part : List Write) → IsPartOf part [] → created_by part ≡ []
  none_creates [] h = refl
  none_creates (w ∷ part) h = absurd h

  line_creates : (part : List Write) (trace : Bool) (number : ℕ) → IsPartOf part (line_script trace number) → created_by part ≡ []
  line_creates part false number h = none_creates part h
  line_creates part true number h = one_creates part (round_line number) h

  found_creates : (part : List Write) (each : Bool) (p : Contents) (end : End (List ℤ)) → IsPartOf part (found_script each p end) → created_by part ≡ []
  found_creates part true p (Solved values) h = one_creates part (solution_text p (assigned values)) h
  found_creates part true p Refuted h = none_creates part h
  found_creates part true p Spent h = none_creates part h
  found_creates part true p Capped h = none_creates part h
  found_creates part false p end h = none_creates part h

  module _ (a b : World) (more : List Write) (after : IsAfter more a b) where
    -- a part of a script that only puts
    adds_text : (s : List Write) (text : List ℕ) → put_by s ≡ text → ((name : List ℕ) → LeavesAlone s name) → created_by more ≡ [] → IsPartOf more s → AddsBytes text a b
    adds_text s text puts leaves none h = record {
      gained = put_by more;
      begins = subst (λ t. IsPrefixOf (put_by more) t) puts (put_of_part more s h);
      out = after.out;
      created = after.created ∙ ap (λ l. a.folder.created ++ l) none ∙ append-nil a.folder.created;
      files = Told-weaker (FilesAfter more) (λ files now. (name : List ℕ) → now name ≡ files name) (λ files now is name. is name ∙ left_alone more name (files name) (part_leaves more s name h (leaves name))) a.folder.held b.folder.held after.files;
    }

  adds_line : (n : ℕ) (a b : World) (more : List Write) → IsAfter more a b → IsPartOf more (line_script asked.set.trace (n + 1)) → AddsBytes (line_text asked n) a b
  adds_line n a b more after h = adds_text a b more after (line_script asked.set.trace (n + 1)) (line_text asked n) (puts_line asked n) (leaves_line asked n) (line_creates more asked.set.trace (n + 1) h) h

  adds_solution : (n : ℕ) (a b : World) (more : List Write) → IsAfter more a b → IsPartOf more (solution_script asked n) → AddsBytes (solution_put asked n) a b
  adds_solution n a b more after h = adds_text a b more after (solution_script asked n) (solution_put asked n) (puts_solution asked n) (leaves_solution asked n) (found_creates more asked.set.each asked.problem (next_end asked (search_after asked n)) h) h

  module _ (n : ℕ) (a b : World) (more : List Write) (after : IsAfter more a b) where
    abbrev the_line : List Write
    the_line = line_script asked.set.trace (n + 1)

    abbrev the_run : List Write
    the_run = run_script (session_after asked n)

    -- behind the line a part of the run, or the whole of it and a part of the solution
    behind_line : (part : List Write) → more ≡ the_line ++ part → IsPartOf part (the_run ++ solution_script asked n) → WritesRound asked n a b
    behind_line part is h = elim (part_splits part the_run (solution_script asked n) h) [
      | inl y ↦ in_run (after_script the_line a) (did_then the_line a) (part_in_order (session_after asked n) (after_script the_line a) b (record { part = part; is_part = y; after = after_then the_line part a b (subst (λ s. IsAfter s a b) is after) }))
      | inr y ↦
          let whole : more ≡ (the_line ++ the_run) ++ y.0 = is ∙ ap (λ s. the_line ++ s) y.1 ∙ sym (append_assoc the_line the_run y.0) in
          in_solution (after_script (the_line ++ the_run) a) (did_then (the_line ++ the_run) a) (adds_solution n (after_script (the_line ++ the_run) a) b y.0 (after_then (the_line ++ the_run) y.0 a b (subst (λ s. IsAfter s a b) whole after)) y.2)
    ]

    pub writes_round : IsPartOf more (round_script asked n) → WritesRound asked n a b
    writes_round h = elim (part_splits more the_line (the_run ++ solution_script asked n) h) [
      | inl y ↦ in_line (adds_line n a b more after y)
      | inr y ↦ behind_line y.0 y.1 y.2
    ]

  module _ (part : List Write) (inside : IsPartOf part (ending_script asked)) (files now : List ℕ → Option (List ℕ)) (after : FilesAfter part files now) where
    record_part : (kept : Option (List ℕ)) → asked.set.record_file ≡ kept → IfSome kept (λ name. HoldsPartOf name (schedule_text (first_run asked).numbers) (Contains (created_by part) name) (files name) (now name))
    record_part None e = tt
    record_part (Some name) e =
        let text = schedule_text (first_run asked).numbers in
        let behind : List Write = Append name text ∷ (answer_write asked) in
        let there : IsPartOf part (Create name ∷ behind) = subst (λ k. IsPartOf part (record_script k (first_run asked).numbers ++ (answer_write asked))) e inside in
        let h = holds_part part [] behind name (files name) tt (tt, (tt, tt)) there in
        let is : appended_by behind name ≡ text = rw ((bytes_decides name name).1 refl) (append-nil text) in
        subst (λ f. HoldsPartOf name text (Contains (created_by part) name) (files name) f) (sym (after name))
        (subst (λ t. HoldsPartOf name t (Contains (created_by part) name) (files name) (file_after part name (files name))) is h)

    answer_last : 0 < length (put_by part) → IfSome asked.set.record_file (λ name. now name ≡ Some (schedule_text (first_run asked).numbers))
    answer_last long =
        let none : length (put_by (record_writes asked)) ≡ 0 = ap length (record_puts (first_run asked).numbers asked.set.record_file) in
        let past = part_past part (record_writes asked) (answer_write asked) inside (omega arith) in
        recorded asked asked.set.record_file refl past.0 past.2 files now (subst (λ s. FilesAfter s files now) past.1 after)

    pub keeps_ending : KeepsEnding asked (created_by part) (put_by part) files now
    keeps_ending = record {
      record_part = record_part asked.set.record_file refl;
      answer_last = answer_last;
      others = λ name other. after name ∙ left_alone part name (files name) (part_leaves part (ending_script asked) name inside (ending_leaves asked name (turned asked name asked.set.record_file other)));
    }

  writes_ending : (a b : World) (part : List Write) → IsPartOf part (ending_script asked) → IsAfter part a b → WritesEnding asked a b
  writes_ending a b part inside after = record {
    names = created_by part;
    created = after.created;
    gained = put_by part;
    out = after.out;
    begins = subst (λ t. IsPrefixOf (put_by part) t) (ending_puts asked) (put_of_part part (ending_script asked) inside);
    files = Told-weaker (FilesAfter part) (KeepsEnding asked (created_by part) (put_by part)) (λ files now is. keeps_ending part inside files now is) a.folder.held b.folder.held after.files;
  }

  pub part_ordered : (a b : World) → DidPartOf (search_script asked) a b → SearchOrdered asked a b
  part_ordered a b d = elim (ends asked (round_count asked) d.part (ending_script asked) d.is_part) [
    | inl x ↦
        let first = rounds_script asked x.n in
        in_round x.n x.below (after_script first a) (made_rounds x.n a) (writes_round x.n (after_script first a) b x.more (after_then first x.more a b (subst (λ s. IsAfter s a b) x.is d.after)) x.part_of)
    | inr x ↦
        let first = rounds_script asked (round_count asked) in
        in_ending (after_script first a) (made_rounds (round_count asked) a) (writes_ending (after_script first a) b x.more x.part_of (after_then first x.more a b (subst (λ s. IsAfter s a b) x.is d.after)))
  ]
