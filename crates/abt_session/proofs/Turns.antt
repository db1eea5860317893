-- The turns of a run's loop.
use Rattle.std.proofs.Common.{◌≡◌, ℕ, ◌+◌, ◌<◌, ◌≤◌, ◌^◌, Bool, true, false, cond, inl, inr, List, [], ◌∷◌, ◌++◌, take, length, Option, Some, None, slice_get, Result, Ok, Err, refl, sym, ap, subst, ◌∙◌, append_assoc, append-nil, arith}
use Rattle.std.specs.Prelude.{IsErr, IsErrAnd, IfOk}
use Rattle.std.proofs.lemmas.List.{take_all, drop_all}
use Rattle.dcsp_defs.specs.Csp.{Csp}
use Rattle.abt_defs.specs.Network.{Network, ready, deliver, run, start, is_empty}
use Rattle.law_runs.specs.Stops.{IsOpen, Stops, list_number}
use Rattle.law_runs.proofs.Stopping.{stops}
use Rattle.dcsp_script.specs.declared.stop.Stop.{Stop}
use Rattle.dcsp_script.specs.Scripts.{World}
use Rattle.dcsp_script.specs.Ways.{Wrote}
use Rattle.dcsp_script.specs.Left.{HasLeft}
use Rattle.dcsp_script.proofs.Ways.{did_nothing}
use Rattle.dcsp_script.proofs.Left.{left_all, left_more, left_ends, left_stopped}
use Rattle.abt_network.specs.declared.Standing.TheVariants as standing
use Rattle.abt_network.specs.Standing.{NetworkState, StandsAt, standing_of}
use Rattle.abt_session.specs.Answers.{first_answers}
use Rattle.abt_session.specs.declared.telling.Telling.{Telling}
use Rattle.abt_session.specs.Sessions.{Session, run_of, network_after, choice_writes, deliveries_write}
use Rattle.dcsp_rule.specs.Problems.{Contents, csp_of}
use Rattle.abt_session.specs.Running.{kept, session_of, IsOnRun}
use Rattle.abt_session.specs.Ends.{BareEnd, end_of}
use Rattle.abt_session.specs.Runners.{Finishes, Leaves, SameTask}
use Rattle.abt_session.specs.declared.runner.Runner.{Runner}
use Rattle.abt_defs.specs.declared.end.End.TheVariants as ends
use Rattle.abt_session.proofs.Places.{answers_at, at_place, past_end}
use Rattle.abt_session.proofs.Stopping.{ComesTo, after_next, not_fewer, one_more, stops_here, ends_here}
use Rattle.abt_session.proofs.Writing.{left_from, is_made, first_left, none_left, all_left}

-- how a network stands, read off the answer
pub is_open : (q p : Csp) → q ≡ p → (net : Network) → standing.Open ≡ standing_of q net → IsOpen p net
is_open q p e net h = subst (λ x. IsOpen x net) e (by_test net.refuted (is_empty (ready q net)) refl refl h)
  where
    by_test : (a b : Bool) → net.refuted ≡ a → is_empty (ready q net) ≡ b → standing.Open ≡ cond a standing.Refuted (cond b standing.Quiet standing.Open) → IsOpen q net
    by_test true b x y h = cc
    by_test false true x y h = cc
    by_test false false x y h = record { alive = x; in_transit = y }

pub is_refuted : (q : Csp) (net : Network) → standing.Refuted ≡ standing_of q net → net.refuted ≡ true
is_refuted q net h = by_test net.refuted (is_empty (ready q net)) refl h
  where
    by_test : (a b : Bool) → net.refuted ≡ a → standing.Refuted ≡ cond a standing.Refuted (cond b standing.Quiet standing.Open) → net.refuted ≡ true
    by_test true b x h = x
    by_test false true x h = cc
    by_test false false x h = cc

pub is_quiet : (q : Csp) (net : Network) → standing.Quiet ≡ standing_of q net → (net.refuted ≡ false) × (is_empty (ready q net) ≡ true)
is_quiet q net h = by_test net.refuted (is_empty (ready q net)) refl refl h
  where
    by_test : (a b : Bool) → net.refuted ≡ a → is_empty (ready q net) ≡ b → standing.Quiet ≡ cond a standing.Refuted (cond b standing.Quiet standing.Open) → (net.refuted ≡ false) × (is_empty (ready q net) ≡ true)
    by_test true b x y h = cc
    by_test false true x y h = (x, y)
    by_test false false x y h = cc

-- what is taken down of two lists
kept-append : (keep : Bool) (xs ys : List ℕ) → kept keep (xs ++ ys) ≡ kept keep xs ++ kept keep ys
kept-append true xs ys = refl
kept-append false xs ys = refl

-- the loop has made k deliveries
pub record Turns (s : Session) (keep : Bool) (k : ℕ) (network : NetworkState) (taken now : List ℕ) (answers to_come : ℕ → Option ℕ) (a b : World) : Type 0 where
  pub comes : ComesTo s k
  pub stands : StandsAt network (network_after s k)
  pub left : HasLeft (deliveries_write s) (left_from s k) a b
  pub takes : now ≡ taken ++ kept keep (take k (run_of s).numbers)
  pub behind : (j : ℕ) → to_come j ≡ answers (k + j)

module _ (s : Session) where
  law : Stops s.problem s.most s.choices (run_of s)
  law = stops s.problem s.most s.choices

  -- no delivery was made
  pub first_turn : (keep : Bool) (network : NetworkState) (taken : List ℕ) (answers : ℕ → Option ℕ) (a : World) → StandsAt network (start s.problem) → Turns s keep 0 network taken taken answers answers a a
  first_turn keep network taken answers a h = record {
    comes = record { opened = λ j l. absurd (omega arith); chosen = omega arith; room = omega arith };
    stands = h;
    left = subst (λ l. HasLeft (deliveries_write s) l a a) (sym (all_left s)) (left_all (deliveries_write s) a);
    takes = no_more keep;
    behind = λ j. let e : j ≡ 0 + j = omega arith in ap answers e;
  }
    where
      no_more : (b : Bool) → taken ≡ taken ++ kept b []
      no_more true = sym (append-nil taken)
      no_more false = sym (append-nil taken)

  module _ (keep : Bool) (k c : ℕ) (network : NetworkState) (taken now : List ℕ) (answers to_come : ℕ → Option ℕ) (a b : World) (h : Turns s keep k network taken now answers to_come a b)
      (open_ : IsOpen s.problem (network_after s k)) (found : slice_get s.choices k ≡ Some c) (room : k < s.most) (q : Csp) (same : q ≡ s.problem) where
    made : k < (run_of s).net.deliveries
    made = is_made s k c h.comes open_ found room

    writes : left_from s k ≡ choice_writes s.order q s.log s.telling ((network_after s k).deliveries + 1) c (network_after s k) ++ left_from s (k + 1)
    writes =
        let counted : k ≡ (network_after s k).deliveries = let m = made in sym (law.counted k (omega arith)) in
        first_left s k c h.comes open_ found room
        ∙ ap (λ n. choice_writes s.order s.problem s.log s.telling (n + 1) c (network_after s k) ++ left_from s (k + 1)) counted
        ∙ ap (λ x. choice_writes s.order x s.log s.telling ((network_after s k).deliveries + 1) c (network_after s k) ++ left_from s (k + 1)) (sym same)

    -- one delivery more
    pub next_turn : {T : Type 0} (x : T) (network' : NetworkState) (now' : List ℕ) (to_come' : ℕ → Option ℕ) (b' : World)
        → Wrote (choice_writes s.order q s.log s.telling ((network_after s k).deliveries + 1) c (network_after s k)) b b' (Ok x) → StandsAt network' (deliver q c (network_after s k))
        → now' ≡ now ++ kept keep (list_number q c (network_after s k) ∷ []) → ((j : ℕ) → to_come' j ≡ to_come (j + 1)) → Turns s keep (k + 1) network' taken now' answers to_come' a b'
    next_turn x network' now' to_come' b' wrote stands' takes' rest =
        let next : deliver q c (network_after s k) ≡ network_after s (k + 1) =
        ap (λ p. deliver p c (network_after s k)) same ∙ sym (after_next s.problem s.choices k c open_ found) in
        let number = list_number s.problem c (network_after s k) in
        let numbers : take (k + 1) (run_of s).numbers ≡ take k (run_of s).numbers ++ number ∷ [] = (at_place (run_of s).numbers k number (law.delivers k c made found).number).front in
        let mine = kept keep (take k (run_of s).numbers) in
        record {
          comes = one_more s k c h.comes open_ found room;
          stands = subst (StandsAt network') next stands';
          left = left_more (left_from s k) writes h.left wrote;
          takes = takes' ∙ ap (λ l. l ++ kept keep (list_number q c (network_after s k) ∷ [])) h.takes ∙ append_assoc taken mine (kept keep (list_number q c (network_after s k) ∷ []))
              ∙ ap (λ p. taken ++ (mine ++ kept keep (list_number p c (network_after s k) ∷ []))) same
              ∙ ap (λ l. taken ++ l) (sym (kept-append keep (take k (run_of s).numbers) (number ∷ [])) ∙ ap (kept keep) (sym numbers));
          behind = λ j. let e : k + (j + 1) ≡ k + 1 + j = omega arith in rest j ∙ h.behind (j + 1) ∙ ap answers e;
        }

    -- the delivery was stopped
    turn_stopped : {T U : Type 0} (e : Stop) (r : Result U Stop) (b' : World) → Wrote {T = T} (choice_writes s.order q s.log s.telling ((network_after s k).deliveries + 1) c (network_after s k)) b b' (Err e)
        → IsErr r × IsErrAnd r (λ y. y ≡ e) → Wrote (deliveries_write s) a b' r
    turn_stopped {T = T} e r b' wrote is = left_stopped {T = T} (left_from s (k + 1)) (left_from s k) r writes is h.left wrote

    -- what was left of the run then
    pub cut_off : {T : Type 0} (e : Stop) (r : Result BareEnd Stop) (network' : NetworkState) (to_come' : ℕ → Option ℕ) (now' : List ℕ) (b' : World) → Wrote {T = T} (choice_writes s.order q s.log s.telling ((network_after s k).deliveries + 1) c (network_after s k)) b b' (Err e) → IsErr r × IsErrAnd r (λ y. y ≡ e)
        → Leaves s (deliveries_write s) keep taken now' answers to_come' network' a b' r
    cut_off {T = T} e r network' to_come' now' b' wrote is = record {
      wrote = turn_stopped {T = T} e r b' wrote is;
      finishes = no_result r is.0;
    }
      where
        no_result : (r : Result BareEnd Stop) → IsErr r → IfOk r (Finishes s keep taken now' answers to_come' network')
        no_result (Ok x) h = absurd (let no = h in cc)
        no_result (Err y) h = tt

  module _ (keep : Bool) (k : ℕ) (network : NetworkState) (taken now : List ℕ) (answers to_come : ℕ → Option ℕ) (a b : World) (h : Turns s keep k network taken now answers to_come a b) (last : k ≡ (run_of s).net.deliveries) where
    all_written : {T : Type 0} (x : T) → Wrote (deliveries_write s) a b (Ok x)
    all_written x = left_ends (left_from s k) (none_left s k last) h.left (record { ended = did_nothing b; handed = refl })

    takes_all : now ≡ taken ++ kept keep (run_of s).numbers
    takes_all =
        let long : length (run_of s).numbers ≤ k = let e = law.numbers in omega arith in
        h.takes ∙ ap (λ l. taken ++ kept keep l) (take_all k (run_of s).numbers long)

    -- the run has ended
    pub finished : (told : BareEnd) → (run_of s).end ≡ end_of told → network.spent ≡ false → Leaves s (deliveries_write s) keep taken now answers to_come network a b (Ok told)
    finished told end sound = record {
      wrote = all_written told;
      finishes = record {
        end = end;
        stands = subst (StandsAt network) (ap (network_after s) last ∙ sym law.net) h.stands;
        sound = sound;
        takes = takes_all;
        behind = λ j. h.behind j ∙ ap (λ n. answers (n + j)) last;
      };
    }

  module _ (keep : Bool) (k : ℕ) (network : NetworkState) (taken now : List ℕ) (answers to_come : ℕ → Option ℕ) (a b : World) (h : Turns s keep k network taken now answers to_come a b) (sound : network.spent ≡ false) where
    here : k ≡ (run_of s).net.deliveries → (run_of s).net ≡ network_after s k
    here last = law.net ∙ ap (network_after s) (sym last)

    -- it was refuted
    pub halts_refuted : (q : Csp) → standing.Refuted ≡ standing_of q (network_after s k) → Leaves s (deliveries_write s) keep taken now answers to_come network a b (Ok ends.Refuted)
    halts_refuted q st =
        let refuted = is_refuted q (network_after s k) st in
        let last = stops_here s k h.comes (λ o. let alive = o.alive in cc) in
        finished keep k network taken now answers to_come a b h last ends.Refuted (law.ends.refuted.1 (ap (λ (n : Network). n.refuted) (here last) ∙ refuted)) sound

    -- nothing is in transit
    pub halts_solved : (q : Csp) → q ≡ s.problem → standing.Quiet ≡ standing_of q (network_after s k) → Leaves s (deliveries_write s) keep taken now answers to_come network a b (Ok (ends.Solved tt))
    halts_solved q same st =
        let quiet = is_quiet q (network_after s k) st in
        let empty : is_empty (ready s.problem (network_after s k)) ≡ true = ap (λ p. is_empty (ready p (network_after s k))) (sym same) ∙ quiet.1 in
        let last = stops_here s k h.comes (λ o. let full = o.in_transit in cc) in
        finished keep k network taken now answers to_come a b h last (ends.Solved tt)
        (law.ends.solved.1 (ap (λ (n : Network). n.refuted) (here last) ∙ quiet.0, ap (λ (n : Network). is_empty (ready s.problem n)) (here last) ∙ empty)) sound

    -- the choices are used up
    pub halts_spent : IsOpen s.problem (network_after s k) → k < s.most → length s.choices ≤ k → Leaves s (deliveries_write s) keep taken now answers to_come network a b (Ok ends.Spent)
    halts_spent o room used =
        let last = ends_here s k h.comes (inr used) in
        finished keep k network taken now answers to_come a b h last ends.Spent
        (law.ends.spent.1 (subst (IsOpen s.problem) (sym (here last)) o, (omega arith, law.left ∙ drop_all (run_of s).net.deliveries s.choices (omega arith)))) sound

    -- the greatest number was delivered
    pub halts_capped : IsOpen s.problem (network_after s k) → k ≡ s.most → Leaves s (deliveries_write s) keep taken now answers to_come network a b (Ok ends.Capped)
    halts_capped o full =
        let last = ends_here s k h.comes (inl (omega arith)) in
        finished keep k network taken now answers to_come a b h last ends.Capped
        (law.ends.capped.1 (subst (IsOpen s.problem) (sym (here last)) o, omega arith)) sound

-- what the loop keeps
pub record Loop (s : Session) (k : ℕ) (old new : Runner) (answers to_come : ℕ → Option ℕ) (a b : World) : Type 0 where
  pub turns : Turns s old.task.keep k new.network old.taken new.taken answers to_come a b
  pub same : SameTask old new
  pub sound : new.network.spent ≡ false
  pub begun : new.network.begun ≡ true
  pub created : b.folder.created ≡ a.folder.created

-- the same answers to come
pub with_answers : {s : Session} {keep : Bool} {k : ℕ} {network : NetworkState} {taken now : List ℕ} {answers to_come : ℕ → Option ℕ} {a b : World} (others : ℕ → Option ℕ)
    → Turns s keep k network taken now answers to_come a b → ((j : ℕ) → others j ≡ to_come j) → Turns s keep k network taken now answers others a b
with_answers others h e = record { comes = h.comes; stands = h.stands; left = h.left; takes = h.takes; behind = λ j. e j ∙ h.behind j }

-- the same log, and told in the same way: the same writes
pub task_writes : (q : Csp) (number c : ℕ) (net : Network) {order same_order : Option (List ℕ)} {log same_log : List ℕ} {telling same : Telling} → order ≡ same_order → log ≡ same_log → telling ≡ same
    → choice_writes order q log telling number c net ≡ choice_writes same_order q same_log same number c net
task_writes q number c net {order} {same_order} {log} {same_log} {telling} {same} d e f =
    ap (λ o. choice_writes o q log telling number c net) d ∙ ap (λ l. choice_writes same_order q l telling number c net) e ∙ ap (λ t. choice_writes same_order q same_log t number c net) f

-- the same numbers are kept
pub keeps_same : (now new numbers : List ℕ) {keep same : Bool} → keep ≡ same → new ≡ now ++ kept keep numbers → new ≡ now ++ kept same numbers
keeps_same now new numbers e h = h ∙ ap (λ b. now ++ kept b numbers) e

-- what the loop has after each answer of its choices
module _ (order : Option (List ℕ)) (P : Contents) (most : ℕ) (answers : ℕ → Option ℕ) (log : List ℕ) (telling : Telling) (keep : Bool) (k : ℕ) (network : NetworkState) (taken now : List ℕ) (to_come : ℕ → Option ℕ) (a b : World)
    (h : Turns (session_of order P most answers log telling) keep k network taken now answers to_come a b) (room : k < most) where
  abbrev s : Session
  s = session_of order P most answers log telling

  answer_here : slice_get (first_answers most answers) k ≡ to_come 0
  answer_here = let e : k ≡ k + 0 = omega arith in answers_at most answers k room h.comes.chosen ∙ ap answers e ∙ sym (h.behind 0)

  -- it is a choice
  pub choice_found : (o : Option ℕ) (c : ℕ) → o ≡ to_come 0 → o ≡ Some c → slice_get (first_answers most answers) k ≡ Some c
  choice_found o c first is = answer_here ∙ sym first ∙ is

  -- there is none
  pub none_found : (o : Option ℕ) → o ≡ to_come 0 → o ≡ None → length (first_answers most answers) ≤ k
  none_found o first is = past_end (first_answers most answers) k (answer_here ∙ sym first ∙ is)

  -- the network can deliver
  pub few_made : most ≤ 2 ^ 40 → network.deliveries < 2 ^ 48
  few_made small =
      let e = h.stands.deliveries in
      let l = not_fewer s k h.comes in
      let f = (stops s.problem s.most s.choices).counted k l in
      omega arith

  pub on_run : network.problem ≡ P → IsOnRun network
  on_run e = (take k (first_answers most answers), subst (λ q. StandsAt network (run (csp_of q) (take k (first_answers most answers)) (start (csp_of q)))) (sym e) h.stands)
