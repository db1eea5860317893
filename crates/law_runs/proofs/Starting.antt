-- What agents do in the start: each settles from its fresh state, in order, up to and with the first that refutes.
use Rattle.std.proofs.Common.{◌≡◌, ◌≢◌, ℕ, zero, suc, ◌+◌, ◌<◌, ◌≤◌, ◌⊎◌, inl, inr, Bool, true, false, cond, List, [], ◌∷◌, ◌++◌, find, filter, filter_map, length, map, Option, Some, None, ℤ, pos, refl, sym, ap, ◌∙◌, arith, subst, append-nil, option_to_list}
use Rattle.std.specs.Prelude.{not}
use Rattle.std.specs.List.{cons_option, enumerate_from, list_any}
use Rattle.std.proofs.lemmas.Bool.Decides.{eqb_tells}
use Rattle.std.proofs.lemmas.List.{map-append}
use Rattle.dcsp_defs.specs.Words.{below}
use Rattle.dcsp_defs.specs.Csp.{Csp, Constraint, count, domain}
use Rattle.dcsp_defs.specs.declared.Step.{Step}
use Rattle.abt_defs.specs.Agents.{Tell, Record, Stamped, StampedNogood, fresh, is_among, known, plain}
use Rattle.abt_defs.specs.Reasons.{Item, blamed, causes, derived, ruled_out, step_of}
use Rattle.abt_defs.specs.Steps.{Outcome, refuse, settle, take_or_refuse, to_each}
use Rattle.abt_defs.specs.Network.{Network, acted, empty_network, is_empty, is_false, next_number, refutes, sent_to, settle_below, start, start_by}
use Rattle.abt_defs.specs.Events.{Act, act_of, settlings_below, start_acts, start_acts_by}
use Rattle.law_runs.specs.Starts.{first_act, first_outcome, settled_in, settled_with, StartsInOrder, StartsWith, TellsFirst}

-- where nothing is known of others, no nogood names others
derived_none : (p : Csp) (i : ℕ) (recorded : List Record) (ks : List ℕ) → filter_map (blamed p i (λ k. None) recorded) ks ≡ []
derived_none p i recorded [] = refl
derived_none p i recorded (k ∷ ks) =
    ap (λ (o : Option (ℕ × Stamped)). cons_option o (filter_map (blamed p i (λ j. None) recorded) ks)) (by_test (list_any (λ (x : Item). is_among k x.variables) (causes p i (λ j. None) recorded)))
    ∙ derived_none p i recorded ks
  where
    by_test : (b : Bool) → ◌≡◌ {A = Option (ℕ × Stamped)} (cond b None None) None
    by_test true = refl
    by_test false = refl

none_passes : (ks : List ℕ) → filter (λ k. false) ks ≡ []
none_passes [] = refl
none_passes (k ∷ ks) = none_passes ks

-- a step that refutes
record Refutes (i : ℕ) (o : Outcome) : Type 0 where
  step : Step
  made : o.step ≡ Some step
  mine : step.variable ≡ Some i
  empty : step.nogood ≡ []

record First (p : Csp) (i : ℕ) (o : Outcome) : Type 0 where
  recorded : o.agent.recorded ≡ []
  tells : TellsFirst (count p) o.sent
  step : (o.step ≡ None) ⊎ Refutes i o

first : (p : Csp) (i : ℕ) → First p i (first_outcome p i)
first p i = by_choice (find (λ v. not (ruled_out p i (known (fresh p i)) [] v)) (domain p i))
  where
    refused : (d : StampedNogood) → d ≡ [] → First p i (refuse 1 (fresh p i) (step_of p i (λ k. None) []) d)
    refused [] e = record {
      recorded = refl;
      tells = record { told = record { value = pos 0; stamp = 0 }; tells = λ k. false; sent_is = ap (to_each (Tell (record { value = pos 0; stamp = 0 }))) (sym (none_passes (below (count p)))) };
      step = inr (record { step = step_of p i (λ k. None) []; made = refl; mine = refl; empty = ap plain (derived_none p i [] (below i)) });
    }
    refused (x ∷ xs) e = absurd (let h = e in cc)

    by_choice : (o : Option ℤ) → First p i (take_or_refuse p i 1 (fresh p i) o)
    by_choice (Some v) = record {
      recorded = refl;
      tells = record { told = record { value = v; stamp = 1 }; tells = (fresh p i).tells; sent_is = refl };
      step = inl refl;
    }
    by_choice None = refused (derived p i (λ k. None) []) (derived_none p i [] (below i))

module _ (p : Csp) where
  -- nobody has refuted
  record Alive (i m : ℕ) (net : Network) : Type 0 where
    refuted : net.refuted ≡ false
    all : m ≡ i
    steps : net.steps ≡ []

  -- the last one has
  record Over (m : ℕ) (net : Network) : Type 0 where
    refuted : net.refuted ≡ true
    last : ℕ
    is_last : m ≡ last + 1
    step : Step
    steps : net.steps ≡ step ∷ []
    mine : step.variable ≡ Some last

  -- so many of i agents have settled
  record Below (i : ℕ) (acts : List Act) (net : Network) : Type 0 where
    m : ℕ
    few : m ≤ i
    acts_are : acts ≡ map (first_act p) (below m)
    agents : (j : ℕ) → j < m → net.agents j ≡ (first_outcome p j).agent
    fresh_agents : (j : ℕ) → m ≤ j → net.agents j ≡ fresh p j
    sent : (a b : ℕ) → a < m → net.links a b ≡ sent_to b (first_outcome p a).sent
    others : (a b : ℕ) → m ≤ a → net.links a b ≡ []
    recorded : (j : ℕ) → (net.agents j).recorded ≡ []
    state : Alive i m net ⊎ Over m net

  -- one more settles
  more : (i : ℕ) (acts : List Act) (net : Network) (h : Below i acts net) → Alive i h.m net → Below (suc i) (acts ++ first_act p i ∷ []) (acted i (first_outcome p i) net)
  more i acts net h a = record {
    m = i + 1;
    few = omega arith;
    acts_are =
        let n : i + 1 ≡ suc i = omega arith in
        ap (λ l. l ++ first_act p i ∷ []) (h.acts_are ∙ ap (λ k. map (first_act p) (below k)) a.all) ∙ sym (map-append (first_act p) (below i) (i ∷ [])) ∙ ap (λ k. map (first_act p) (below k)) (sym n);
    agents = λ j l. elim (eqb_tells j i) [
      | inl t ↦ rw t.0 (ap (λ k. (first_outcome p k).agent) (sym t.1))
      | inr t ↦ rw t.0 (h.agents j (let e = a.all in let ne : j ≢ i = t.1 in omega arith))
    ];
    fresh_agents = λ j l. elim (eqb_tells j i) [
      | inl t ↦ absurd (let e = t.1 in omega arith)
      | inr t ↦ rw t.0 (h.fresh_agents j (let e = a.all in omega arith))
    ];
    sent = λ x y l. elim (eqb_tells x i) [
      | inl t ↦ rw t.0 (ap (λ z. z ++ sent_to y (first_outcome p i).sent) (h.others x y (let e = a.all in let d = t.1 in omega arith)) ∙ ap (λ k. sent_to y (first_outcome p k).sent) (sym t.1))
      | inr t ↦ rw t.0 (h.sent x y (let e = a.all in let ne : x ≢ i = t.1 in omega arith))
    ];
    others = λ x y l. elim (eqb_tells x i) [
      | inl t ↦ absurd (let e = t.1 in omega arith)
      | inr t ↦ rw t.0 (h.others x y (let e = a.all in omega arith))
    ];
    recorded = λ j. elim (eqb_tells j i) [
      | inl t ↦ rw t.0 (first p i).recorded
      | inr t ↦ rw t.0 (h.recorded j)
    ];
    state = elim (first p i).step [
      | inl e ↦ inl (record { refuted = ap refutes e; all = omega arith; steps = ap (λ l. l ++ option_to_list (first_outcome p i).step) a.steps ∙ ap option_to_list e })
      | inr r ↦
          inr (record {
            refuted = ap refutes r.made ∙ ap is_empty r.empty;
            last = i;
            is_last = refl;
            step = r.step;
            steps = ap (λ l. l ++ option_to_list (first_outcome p i).step) a.steps ∙ ap option_to_list r.made;
            mine = r.mine;
          })
    ];
  }

  settled : (i : ℕ) → Below i (settlings_below p i) (settle_below p i (empty_network p))
  settled zero = record {
    m = 0;
    few = omega arith;
    acts_are = refl;
    agents = λ j l. absurd (omega arith);
    fresh_agents = λ j l. refl;
    sent = λ a b l. absurd (omega arith);
    others = λ a b l. refl;
    recorded = λ j. refl;
    state = inl (record { refuted = refl; all = refl; steps = refl });
  }
  settled (suc i) = by_state (settled i) (settled i).state
    where
      before : Network
      before = settle_below p i (empty_network p)

      act : Act
      act = act_of i None (before.agents i) (settle p i (next_number before) (before.agents i))

      after : Network
      after = acted i (settle p i (next_number before) (before.agents i)) before

      by_state : (h : Below i (settlings_below p i) before) → Alive i h.m before ⊎ Over h.m before → Below (suc i) (settlings_below p (suc i)) (settle_below p (suc i) (empty_network p))
      by_state h (inr o) = subst (λ b. Below (suc i) (settlings_below p i ++ cond b [] (act ∷ [])) (cond b before after)) (sym o.refuted) (record {
        m = h.m;
        few = (let l = h.few in omega arith);
        acts_are = append-nil (settlings_below p i) ∙ h.acts_are;
        agents = h.agents;
        fresh_agents = h.fresh_agents;
        sent = h.sent;
        others = h.others;
        recorded = h.recorded;
        state = inr o;
      })
      by_state h (inl a) =
          let number : next_number before ≡ 1 = ap (λ (l : List Step). length l + 1) a.steps in
          let mine : before.agents i ≡ fresh p i = h.fresh_agents i (let e = a.all in omega arith) in
          let same : settle p i (next_number before) (before.agents i) ≡ first_outcome p i = ap (λ n. settle p i n (before.agents i)) number ∙ ap (settle p i 1) mine in
          let one : Below (suc i) (settlings_below p i ++ act_of i None (fresh p i) (settle p i (next_number before) (before.agents i)) ∷ []) after =
          subst (λ o. Below (suc i) (settlings_below p i ++ act_of i None (fresh p i) o ∷ []) (acted i o before)) (sym same) (more i (settlings_below p i) before h a) in
          let two : Below (suc i) (settlings_below p i ++ act ∷ []) after = subst (λ x. Below (suc i) (settlings_below p i ++ act_of i None x (settle p i (next_number before) (before.agents i)) ∷ []) after) (sym mine) one in
          subst (λ b. Below (suc i) (settlings_below p i ++ cond b [] (act ∷ [])) (cond b before after)) (sym a.refuted) two

  told : (n m : ℕ) (net : Network) → Alive n m net ⊎ Over m net → m ≡ settled_in n net.steps
  told n m net (inl a) = a.all ∙ sym (ap (settled_in n) a.steps)
  told n m net (inr o) = o.is_last ∙ sym (ap (settled_in n) o.steps ∙ ap settled_with o.mine)

  whole : (acts : List Act) (net : Network) → Below (count p) acts net → start_acts p ≡ acts → start p ≡ net → StartsInOrder p
  whole acts net h ea en =
      subst (StartsWith p) (told (count p) h.m net h.state ∙ ap (λ (n : Network). settled_in (count p) n.steps) (sym en)) (record {
        few = h.few;
        acts = ea ∙ h.acts_are;
        agents = λ i l. ap (λ (n : Network). n.agents i) en ∙ h.agents i l;
        sent = λ i j l. ap (λ (n : Network). n.links i j) en ∙ h.sent i j l;
        others = λ i j l. ap (λ (n : Network). n.links i j) en ∙ h.others i j l;
        recorded = λ i. ap (λ (n : Network). (n.agents i).recorded) en ∙ h.recorded i;
        tells = λ i. (first p i).tells;
      })

  by_start : (o : Option (ℕ × Constraint)) → find (λ (x : ℕ × Constraint). is_false x.1) (enumerate_from 0 p.constraints) ≡ o → StartsInOrder p
  by_start None e = whole (settlings_below p (count p)) (settle_below p (count p) (empty_network p)) (settled (count p)) (ap (start_acts_by p) e) (ap (start_by p) e)
  by_start (Some x) e =
      let en : start p ≡ start_by p (Some x) = ap (start_by p) e in
      subst (StartsWith p) (sym (ap (λ (n : Network). settled_in (count p) n.steps) en)) (record {
        few = omega arith;
        acts = ap (start_acts_by p) e;
        agents = λ i l. absurd (omega arith);
        sent = λ i j l. absurd (omega arith);
        others = λ i j l. ap (λ (n : Network). n.links i j) en;
        recorded = λ i. ap (λ (n : Network). (n.agents i).recorded) en;
        tells = λ i. (first p i).tells;
      })

pub starts_in_order : (p : Csp) → StartsInOrder p
starts_in_order p = by_start p (find (λ (x : ℕ × Constraint). is_false x.1) (enumerate_from 0 p.constraints)) refl
