-- The loop of a run that starves a link, and what it comes to.
use Rattle.std.proofs.Common.{◌≡◌, ◌≢◌, ℕ, zero, suc, ◌+◌, ◌<◌, ◌≤◌, ◌^◌, ◌⊎◌, inl, inr, Bool, true, false, cond, List, [], ◌∷◌, ◌++◌, Some, None, is_some, ◌==◌, refl, sym, ap, ◌∙◌, subst, arith, append-nil, append_assoc}
use Rattle.dcsp_defs.specs.Csp.{Csp}
use Rattle.abt_defs.specs.Network.{Network, ready, deliver, start, is_empty}
use Rattle.abt_defs.specs.Runs.{End, Refuted, Solved, Capped, Spent, Run, stop, go, starved_choice, starved_choices, starved}
use Rattle.law_runs.specs.Replay.{Verdicts}
use Rattle.law_runs.specs.Stops.{IsOpen, Stops}
use Rattle.law_runs.proofs.Again.{Goes}
use Rattle.law_runs.proofs.Whole.{delivers_one}
use Rattle.law_runs.proofs.Stopping.{stops}
use Rattle.dcsp_rule.specs.Problems.{Contents, csp_of}
use Rattle.abt_network.specs.declared.Standing.{Standing}
use Rattle.abt_network.specs.declared.Standing.TheVariants as standing
use Rattle.abt_network.specs.Standing.{NetworkState, StandsAt, CanDeliver, standing_in, standing_of}
use Rattle.abt_session.specs.Running.{TakesPart}
use Rattle.abt_session.specs.Ends.{BareEnd, end_of}
use Rattle.abt_session.specs.Starving.{end_at, end_by, starving_choices, AreNear, IsStarved}
use Rattle.abt_defs.specs.declared.end.End.TheVariants as told
use Rattle.abt_session.specs.declared.starved_run.Starved.{Starved}
use Rattle.abt_session.proofs.Turns.{is_open, is_refuted, is_quiet}
use Rattle.abt_session.proofs.Nearest.{choices_small, choices_few}
use Rattle.abt_session.proofs.Links.{goes_on, one_turn, stays, not_spent}

module _ (p : Csp) (a b most : ℕ) (old : List ℕ) where
  -- so many deliveries were made, these choices were pushed, and what is left of the run is the run from this network
  pub record StarvedSoFar (made : ℕ) (now : List ℕ) (net : Network) : Type 0 where
    pub rest : ℕ
    pub room : made + rest ≡ most
    pub counted : net.deliveries ≡ made
    pub took : List ℕ
    pub taken : now ≡ old ++ took
    pub choices : took ++ starved_choices p a b rest net ≡ starving_choices p a b most
    pub ends : (go p rest (starved_choices p a b rest net) net).net ≡ (starved p a b most).net

  pub at_start : StarvedSoFar 0 old (start p)
  at_start = record {
    rest = most;
    room = omega arith;
    counted = (stops p 0 []).counted 0 (omega arith);
    took = [];
    taken = sym (append-nil old);
    choices = refl;
    ends = refl;
  }

  module _ (made : ℕ) (now : List ℕ) (net : Network) (h : StarvedSoFar made now net) where
    pub part_taken : TakesPart true (starving_choices p a b most) old now
    part_taken = record { part = h.took; begins = (starved_choices p a b h.rest net, h.choices); added = h.taken }

    -- one delivery more
    next_by : (rest : ℕ) → rest ≡ h.rest → made < most → IsOpen p net → (more : List ℕ) → more ≡ now ++ starved_choice p a b net ∷ [] → StarvedSoFar (made + 1) more (deliver p (starved_choice p a b net) net)
    next_by zero e below open_ more is = absurd (let r = h.room in omega arith)
    next_by (suc rest) e below open_ more is =
        let c = starved_choice p a b net in
        let g : Goes p (suc rest) net = record { alive = open_.alive; transit = open_.in_transit; left = λ z. omega arith } in
        let turn : starved_choices p a b h.rest net ≡ c ∷ starved_choices p a b rest (deliver p c net) = ap (λ n. starved_choices p a b n net) (sym e) ∙ goes_on p a b rest net g in
        record {
          rest = rest;
          room = (let r = h.room in omega arith);
          counted = (let d = (delivers_one p c net open_.in_transit).0 in let k = h.counted in omega arith);
          took = h.took ++ c ∷ [];
          taken = is ∙ ap (λ l. l ++ c ∷ []) h.taken ∙ append_assoc old h.took (c ∷ []);
          choices = append_assoc h.took (c ∷ []) (starved_choices p a b rest (deliver p c net)) ∙ ap (λ l. h.took ++ l) (sym turn) ∙ h.choices;
          ends = sym (ap (λ (r : Run). r.net) (one_turn p a b rest net g)) ∙ ap (λ n. (go p n (starved_choices p a b n net) net).net) e ∙ h.ends;
        }

    pub next_turn : made < most → IsOpen p net → (more : List ℕ) → more ≡ now ++ starved_choice p a b net ∷ [] → StarvedSoFar (made + 1) more (deliver p (starved_choice p a b net) net)
    next_turn = next_by h.rest refl

    -- no choice is left
    none_left : is_some (stop p h.rest net) ≡ true → starved_choices p a b h.rest net ≡ []
    none_left s = stays p a b h.rest net s

    stopped_here : is_some (stop p h.rest net) ≡ true → (go p h.rest (starved_choices p a b h.rest net) net).net ≡ net
    stopped_here s = ap (λ cs. (go p h.rest cs net).net) (none_left s)

    all_by : is_some (stop p h.rest net) ≡ true → now ≡ old ++ starving_choices p a b most
    all_by s = h.taken ∙ ap (λ l. old ++ l) (sym (append-nil h.took) ∙ ap (λ l. h.took ++ l) (sym (none_left s)) ∙ h.choices)

    ended_by : is_some (stop p h.rest net) ≡ true → net ≡ (starved p a b most).net
    ended_by s = sym (stopped_here s) ∙ h.ends

    -- it is refuted, nothing is in transit, or the most were made
    stop_if : (IsOpen p net → made ≡ most) → is_some (stop p h.rest net) ≡ true
    stop_if f = by_tests net.refuted (is_empty (ready p net)) refl refl
      where
        none_rest : made ≡ most → (h.rest == 0) ≡ true
        none_rest e = let r = h.room in let z : h.rest ≡ 0 = omega arith in rw z refl

        by_tests : (x y : Bool) → net.refuted ≡ x → is_empty (ready p net) ≡ y → is_some (cond x (Some Refuted) (cond y (Some Solved) (cond (h.rest == 0) (Some Capped) None))) ≡ true
        by_tests true y s t = refl
        by_tests false true s t = refl
        by_tests false false s t = rw (none_rest (f (record { alive = s; in_transit = t }))) refl

    pub all_taken : (IsOpen p net → made ≡ most) → now ≡ old ++ starving_choices p a b most
    all_taken f = all_by (stop_if f)

    pub ended : (IsOpen p net → made ≡ most) → net ≡ (starved p a b most).net
    ended f = ended_by (stop_if f)

-- no test is both
not_both : (x : Bool) → x ≡ true → x ≡ false → ⊥
not_both true h k = cc
not_both false h k = cc

-- what is told of the network in the end is told of the run
module _ (p : Csp) (a b most : ℕ) where
  law : Stops p most (starving_choices p a b most) (starved p a b most)
  law = stops p most (starving_choices p a b most)

  abbrev last : Network
  last = (starved p a b most).net

  one_end : (e : End) → e ≢ Spent → e ≢ Refuted → e ≢ Solved → e ≡ Capped
  one_end Refuted f g h = absurd (g refl)
  one_end Solved f g h = absurd (h refl)
  one_end Capped f g h = refl
  one_end Spent f g h = absurd (f refl)

  capped : IsOpen p last → (starved p a b most).end ≡ Capped
  capped o = one_end (starved p a b most).end (not_spent p a b most (start p))
      (λ e. not_both last.refuted (law.ends.refuted.0 e) o.alive) (λ e. not_both (is_empty (ready p last)) (law.ends.solved.0 e).1 o.in_transit)

  end_is : (x y : Bool) → last.refuted ≡ x → is_empty (ready p last) ≡ y → (starved p a b most).end ≡ end_of (end_by x y)
  end_is true y s t = law.ends.refuted.1 s
  end_is false true s t = law.ends.solved.1 (s, t)
  end_is false false s t = capped (record { alive = s; in_transit = t })

  open_is : (x y : Bool) → last.refuted ≡ x → is_empty (ready p last) ≡ y → end_by x y ≡ told.Capped → IsOpen p last
  open_is true y s t e = cc
  open_is false true s t e = cc
  open_is false false s t e = record { alive = s; in_transit = t }

  is_told : (x y : Bool) → last.refuted ≡ x → is_empty (ready p last) ≡ y → IsOpen p last → end_by x y ≡ told.Capped
  is_told true y s t o = absurd (not_both last.refuted s o.alive)
  is_told false true s t o = absurd (not_both (is_empty (ready p last)) t o.in_transit)
  is_told false false s t o = refl

  never_spent : (x y : Bool) → end_by x y ≡ told.Spent → ⊥
  never_spent true y e = cc
  never_spent false true e = cc
  never_spent false false e = cc

  pub is_starved : (t : Starved) → t.end ≡ end_at p last → t.deliveries ≡ last.deliveries → Verdicts p most (starved p a b most) → IsStarved p a b most t
  is_starved t e d v = record {
    end = end_is last.refuted (is_empty (ready p last)) refl refl ∙ ap (λ (x : BareEnd). end_of x) (sym e);
    deliveries = d;
    open_ = (λ o. let open_ = open_is last.refuted (is_empty (ready p last)) refl refl (sym e ∙ o) in (open_, d ∙ (law.ends.capped.0 (capped open_)).1), λ o. e ∙ is_told last.refuted (is_empty (ready p last)) refl refl o.0);
    never_spent = λ o. never_spent last.refuted (is_empty (ready p last)) (sym e ∙ o);
    bound = (let b = v.bound in omega arith);
  }

-- ---- the loop

-- what the loop keeps
pub record Delays (a b most made : ℕ) (first now : NetworkState) (old taken : List ℕ) : Type 0 where
  pub net : Network
  pub so_far : StarvedSoFar (csp_of first.problem) a b most old made taken net
  pub stands : StandsAt now net
  pub problem : now.problem ≡ first.problem
  pub sound : now.spent ≡ false
  pub begun : now.begun ≡ true

module _ (a b most : ℕ) (first : NetworkState) (old : List ℕ) where
  pub no_delay : StandsAt first (start (csp_of first.problem)) → first.spent ≡ false → first.begun ≡ true → Delays a b most 0 first first old old
  no_delay stands sound begun = record { net = start (csp_of first.problem); so_far = at_start (csp_of first.problem) a b most old; stands = stands; problem = refl; sound = sound; begun = begun }

  module _ (made : ℕ) (now : NetworkState) (taken : List ℕ) (h : Delays a b most made first now old taken) where
    pub may_deliver : made < most → most ≤ 2 ^ 40 → standing_in now ≡ standing.Open → CanDeliver now
    may_deliver below small open_ = record { begun = h.begun; open_ = open_; few = (let d = h.stands.deliveries in let k = h.so_far.counted in omega arith) }

    pub next_delay : (next : NetworkState) (more : List ℕ) → made < most → standing.Open ≡ standing_of (csp_of now.problem) h.net
        → StandsAt next (deliver (csp_of now.problem) (starved_choice (csp_of now.problem) a b h.net) h.net) → more ≡ taken ++ starved_choice (csp_of now.problem) a b h.net ∷ []
        → next.problem ≡ now.problem → next.spent ≡ false → next.begun ≡ true → Delays a b most (made + 1) first next old more
    next_delay next more below open_ stands took problem sound begun =
        let same : csp_of now.problem ≡ csp_of first.problem = ap csp_of h.problem in
        record {
          net = deliver (csp_of first.problem) (starved_choice (csp_of first.problem) a b h.net) h.net;
          so_far = next_turn (csp_of first.problem) a b most old made taken h.net h.so_far below (is_open (csp_of now.problem) (csp_of first.problem) same h.net open_) more
              (subst (λ p. more ≡ taken ++ starved_choice p a b h.net ∷ []) same took);
          stands = subst (λ p. StandsAt next (deliver p (starved_choice p a b h.net) h.net)) same stands;
          problem = problem ∙ h.problem;
          sound = sound;
          begun = begun;
        }

    module _ (last : IsOpen (csp_of first.problem) h.net → made ≡ most) where
      pub stands_last : StandsAt now (starved (csp_of first.problem) a b most).net
      stands_last = subst (StandsAt now) (ended (csp_of first.problem) a b most old made taken h.net h.so_far last) h.stands

      pub takes_all : taken ≡ old ++ starving_choices (csp_of first.problem) a b most
      takes_all = all_taken (csp_of first.problem) a b most old made taken h.net h.so_far last

    pub takes_some : TakesPart true (starving_choices (csp_of first.problem) a b most) old taken
    takes_some = part_taken (csp_of first.problem) a b most old made taken h.net h.so_far

    -- it is not open
    pub not_open : (s : Standing) → s ≡ standing_of (csp_of now.problem) h.net → (s ≡ standing.Refuted) ⊎ (s ≡ standing.Quiet) → IsOpen (csp_of first.problem) h.net → made ≡ most
    not_open s is (inl e) o = absurd (not_both h.net.refuted (is_refuted (csp_of now.problem) h.net (sym e ∙ is)) o.alive)
    not_open s is (inr e) o =
        let quiet = (is_quiet (csp_of now.problem) h.net (sym e ∙ is)).1 in
        absurd (not_both (is_empty (ready (csp_of first.problem) h.net)) (subst (λ p. is_empty (ready (csp_of p) h.net) ≡ true) h.problem quiet) o.in_transit)

-- what is told of the last network is told of the run
pub told_of : (p q : Contents) (a b most : ℕ) (network : NetworkState) → q ≡ p → network.problem ≡ q → StandsAt network (starved (csp_of q) a b most).net
    → (end : BareEnd) → ((net : Network) → StandsAt network net → end ≡ end_at (csp_of network.problem) net) → (deliveries : ℕ) → deliveries ≡ network.deliveries
    → Verdicts (csp_of p) most (starved (csp_of p) a b most) → IsStarved (csp_of p) a b most (record { end = end; deliveries = deliveries })
told_of p q a b most network e f stands end ends deliveries d verdicts =
    let here = subst (λ r. StandsAt network (starved (csp_of r) a b most).net) e stands in
    is_starved (csp_of p) a b most (record { end = end; deliveries = deliveries }) (ends (starved (csp_of p) a b most).net here ∙ ap (λ r. end_at (csp_of r) (starved (csp_of p) a b most).net) (f ∙ e)) (d ∙ here.deliveries) verdicts

-- its choices are near
pub are_near : (p : Csp) (a b most : ℕ) → AreNear most (starving_choices p a b most)
are_near p a b most = record { few = choices_few p a b most (start p); each = choices_small p a b most (start p) }
