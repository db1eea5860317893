-- The code's start is that of the definitions.
use Rattle.std.proofs.Common.{◌≡◌, ◌≢◌, ℕ, zero, suc, ◌+◌, ◌<◌, ◌≤◌, List, [], ◌∷◌, ◌++◌, length, cond, eqb, eq-eqb, refl, sym, ◌∙◌, ap, subst, true, false, inl, inr, Option, Some, None, is_some, arith, option_to_list}
use Rattle.std.specs.Prelude.{find}
use Rattle.std.specs.List.{enumerate_from}
use Rattle.std.specs.Option.{option_map}
use Rattle.std.proofs.lemmas.Bool.{cases_eq, ne_eqb, cond-true, cond-false}
use Rattle.std.proofs.lemmas.List.{get_or_append_left, get_or_push}
use Rattle.dcsp_defs.specs.Words.{In}
use Rattle.dcsp_defs.specs.Csp.{Csp, Constraint, IsCsp, count}
use Rattle.dcsp_defs.specs.Derivation.{IsDerivation}
use Rattle.dcsp_defs.specs.declared.Step.{Step}
use Rattle.dcsp_defs.specs.declared.Reason.TheVariants.{Rule}
use Rattle.abt_defs.specs.Agents.{Agent, Message, fresh}
use Rattle.abt_defs.specs.Steps.{Outcome, settle}
use Rattle.abt_defs.specs.Network.{Network, acted, next_number, sent_to, refutes, is_empty, is_false, empty_network, settle_below, start, start_by}
use Rattle.law_agent.proofs.Runs.{start_kept}
use Rattle.law_agent.proofs.StepRuns.{steps_right}
use Rattle.law_runs.proofs.Sends.{settle_reaches}
use Rattle.law_runs.proofs.Joins.{tells_lower}
use Rattle.dcsp_rule.specs.Problems.{Contents, csp_of}
use Rattle.abt_parts.specs.declared.message.Sent.{Sent}
use Rattle.abt_parts.specs.Messages.{messages_of}
use Rattle.abt_agent.specs.declared.Turn.{Turn}
use Rattle.abt_agent.specs.declared.Turn.TheVariants.{Quiet, Announced, Derived, Empty}
use Rattle.abt_agent.specs.Turns.{IsTurn, IsFirstTurn}
use Rattle.abt_agent.specs.States.{State, stands_for, IsFresh}
use Rattle.abt_links.specs.Transit.{Transit}
use Rattle.std.specs.List.{AllByRecursion}
use Rattle.dcsp_problem.specs.WellFormed.{IsProblem}
use Rattle.ngd_log.specs.StepText.{IsInRange}
use Rattle.abt_network.proofs.InRange.{right_in}
use Rattle.abt_network.specs.declared.Begun.{Begun}
use Rattle.abt_network.specs.declared.Begun.TheVariants as begun
use Rattle.abt_network.specs.Standing.{NetworkState, messages_on, no_state, state_at, Stands, Starts, steps_of, is_refuted}
use Rattle.abt_network.specs.Passing.{step_in}
use Rattle.abt_network.specs.Settling.{first_false, IsRuleStep, HasSettled, HaveSettled}

-- ---- one agent

-- its receivers exist
pub settle_exists : (p : Csp) → IsCsp p → (i number : ℕ) (a : Agent) → i < count p → a ≡ fresh p i → (x : ℕ × Message) → In x (settle p i number a).sent → x.0 < count p
settle_exists p ok i number a l e = (settle_reaches p i l number a (subst (λ (b : Agent). (j : ℕ) → b.tells j ≡ true → i < j) (sym e) (tells_lower p 0 (empty_network p) (start_kept p ok) i))).exists

-- what it does is what the definitions' agent does
pub same_settle : (p : Contents) (i number : ℕ) (s : State) → IsFresh p i s → settle (csp_of s.problem) s.me number (stands_for s) ≡ settle (csp_of p) i number (stands_for s)
same_settle p i number s h =
    ap (λ (q : Contents). settle (csp_of q) s.me number (stands_for s)) h.problem
    ∙ ap (λ j. settle (csp_of p) j number (stands_for s)) h.me

-- a first step refutes
first_refutes : (a : Agent) (o : Outcome) (turn : Turn) → IsTurn a o turn → IsFirstTurn turn → refutes (step_in turn) ≡ is_some (step_in turn)
first_refutes a o Quiet t f = absurd f
first_refutes a o Announced t f = refl
first_refutes a o (Derived s) t f = absurd f
first_refutes a o (Empty s) t f = ap is_empty t.1

turn_step : (a : Agent) (o : Outcome) (turn : Turn) → IsTurn a o turn → o.step ≡ step_in turn
turn_step a o Quiet h = h.0
turn_step a o Announced h = h.0
turn_step a o (Derived s) h = h.0
turn_step a o (Empty s) h = h.0

module _ (p : Contents) (agents agents' : List State) (t t' : Transit) (net : Network) (i : ℕ) (went : List Sent) (turn : Turn) (step : Option Step)
    (stands : Stands p agents t net) (l : i < length p.domains)
    (agent : stands_for (state_at agents' i) ≡ (settle (csp_of p) i (next_number net) (stands_for (state_at agents i))).agent)
    (sent : messages_of went ≡ (settle (csp_of p) i (next_number net) (stands_for (state_at agents i))).sent)
    (is_turn : IsTurn (stands_for (state_at agents i)) (settle (csp_of p) i (next_number net) (stands_for (state_at agents i))) turn) (first : IsFirstTurn turn) (is_step : step ≡ step_in turn)
    (others : (k : ℕ) → k ≢ i → state_at agents' k ≡ state_at agents k)
    (posts : (k j : ℕ) → messages_on t' k j ≡ cond (eqb k i) (messages_on t k j ++ sent_to j (messages_of went)) (messages_on t k j)) where
  o : Outcome
  o = settle (csp_of p) i (next_number net) (stands_for (state_at agents i))

  there : Stands p agents' t' (acted i (settle (csp_of p) i (next_number net) (stands_for (state_at agents i))) net)
  there = record {
    states = λ k w. elim (cases_eq k i) [
      | inl here ↦ ap (λ z. stands_for (state_at agents' z)) here ∙ agent ∙ sym (cond-true (eqb k i) (settle (csp_of p) i (next_number net) (stands_for (state_at agents i))).agent (net.agents k) (eq-eqb k i here))
      | inr other ↦ ap stands_for (others k other) ∙ stands.states k w ∙ sym (cond-false (eqb k i) (settle (csp_of p) i (next_number net) (stands_for (state_at agents i))).agent (net.agents k) (ne_eqb k i other))
    ];
    lists = λ k j.
        posts k j
        ∙ ap (λ (z : List Message). cond (eqb k i) (z ++ sent_to j (messages_of went)) z) (stands.lists k j)
        ∙ ap (λ s. cond (eqb k i) (net.links k j ++ sent_to j s) (net.links k j)) sent;
  }

  pub has_settled : HasSettled p agents' t' net i step
  has_settled =
      let same = stands.states i l in
      record {
        stands = subst (λ (a : Agent). Stands p agents' t' (acted i (settle (csp_of p) i (next_number net) a) net)) same there;
        made = subst (λ (a : Agent). (settle (csp_of p) i (next_number net) a).step ≡ step) same (turn_step (stands_for (state_at agents i)) (settle (csp_of p) i (next_number net) (stands_for (state_at agents i))) turn is_turn ∙ sym is_step);
        refutes = ap refutes is_step ∙ first_refutes (stands_for (state_at agents i)) (settle (csp_of p) i (next_number net) (stands_for (state_at agents i))) turn is_turn first ∙ ap (λ (z : Option Step). is_some z) (sym is_step);
      }

-- ---- fresh agents

pub fresh_more : (p : Contents) (agents : List State) (n : ℕ) (s : State) → length agents ≡ n → ((k : ℕ) → k < n → IsFresh p k (state_at agents k)) → IsFresh p n s → (k : ℕ) → k < n + 1 → IsFresh p k (state_at (agents ++ s ∷ []) k)
fresh_more p agents n s long h new k l = elim (cases_eq k n) [
  | inl e ↦ subst (IsFresh p k) (sym (get_or_push agents s no_state k (long ∙ sym e))) (subst (λ j. IsFresh p j s) (sym e) new)
  | inr ne ↦ subst (IsFresh p k) (sym (get_or_append_left agents (s ∷ []) no_state k (omega arith))) (h k (omega arith))
]

-- ---- all agents

-- an agent more, where nothing is refuted
settle_more : (p : Csp) (i : ℕ) → (settle_below p i (empty_network p)).refuted ≡ false
    → settle_below p (suc i) (empty_network p) ≡ acted i (settle p i (next_number (settle_below p i (empty_network p))) ((settle_below p i (empty_network p)).agents i)) (settle_below p i (empty_network p))
settle_more p i f = ap (λ b. cond b (settle_below p i (empty_network p)) (acted i (settle p i (next_number (settle_below p i (empty_network p))) ((settle_below p i (empty_network p)).agents i)) (settle_below p i (empty_network p)))) f

-- and none more, where something is
settle_stays : (p : Csp) (i : ℕ) (n : ℕ) → (settle_below p i (empty_network p)).refuted ≡ true → i ≤ n → settle_below p n (empty_network p) ≡ settle_below p i (empty_network p)
settle_stays p i zero f l = let e : i ≡ 0 = omega arith in ap (λ k. settle_below p k (empty_network p)) (sym e)
settle_stays p i (suc n) f l = elim (cases_eq i (suc n)) [
  | inl e ↦ ap (λ k. settle_below p k (empty_network p)) (sym e)
  | inr ne ↦
      let ih = settle_stays p i n f (omega arith) in
      let g : (settle_below p n (empty_network p)).refuted ≡ true = ap (λ (x : Network). x.refuted) ih ∙ f in
      ap (λ b. cond b (settle_below p n (empty_network p)) (acted n (settle p n (next_number (settle_below p n (empty_network p))) ((settle_below p n (empty_network p)).agents n)) (settle_below p n (empty_network p)))) g ∙ ih
]

-- one agent more has settled
pub settled_more : (p : Contents) (agents agents' : List State) (t t' : Transit) (i : ℕ) (step : Option Step)
    → HaveSettled p agents t (settle_below (csp_of p) i (empty_network (csp_of p))) None
    → HasSettled p agents' t' (settle_below (csp_of p) i (empty_network (csp_of p))) i step
    → HaveSettled p agents' t' (settle_below (csp_of p) (i + 1) (empty_network (csp_of p))) step
settled_more p agents agents' t t' i step h s =
    let e = settle_more (csp_of p) i h.refuted in
    let more : HaveSettled p agents' t' (settle_below (csp_of p) (suc i) (empty_network (csp_of p))) step = record {
      stands = subst (Stands p agents' t') (sym e) s.stands;
      steps = ap (λ (x : Network). x.steps) e ∙ ap (λ z. z ++ option_to_list (settle (csp_of p) i (next_number (settle_below (csp_of p) i (empty_network (csp_of p)))) ((settle_below (csp_of p) i (empty_network (csp_of p))).agents i)).step) h.steps ∙ ap option_to_list s.made;
      refuted = ap (λ (x : Network). x.refuted) e ∙ ap refutes s.made ∙ s.refutes;
      deliveries = ap (λ (x : Network). x.deliveries) e ∙ h.deliveries;
    } in
    let next : suc i ≡ i + 1 = omega arith in
    subst (λ k. HaveSettled p agents' t' (settle_below (csp_of p) k (empty_network (csp_of p))) step) next more

-- the rest does not settle after a step
pub settled_stays : (p : Contents) (agents : List State) (t : Transit) (i n : ℕ) (s : Step) → i ≤ n
    → HaveSettled p agents t (settle_below (csp_of p) i (empty_network (csp_of p))) (Some s) → HaveSettled p agents t (settle_below (csp_of p) n (empty_network (csp_of p))) (Some s)
settled_stays p agents t i n s l h = subst (λ (x : Network). HaveSettled p agents t x (Some s)) (sym (settle_stays (csp_of p) i n h.refuted l)) h

-- before the first agent
pub settled_none : (p : Contents) (agents : List State) (t : Transit) → Stands p agents t (empty_network (csp_of p)) → HaveSettled p agents t (settle_below (csp_of p) 0 (empty_network (csp_of p))) None
settled_none p agents t h = record { stands = h; steps = refl; refuted = refl; deliveries = refl }

-- ---- the start

found : (p : Csp) (o : Option (ℕ × Constraint)) (rule : ℕ) → find (λ (x : ℕ × Constraint). is_false x.1) (enumerate_from 0 p.constraints) ≡ o → option_map (λ (x : ℕ × Constraint). x.0) o ≡ Some rule
    → start p ≡ record (empty_network p) { steps = record { variable = None; nogood = []; reasons = Rule rule ∷ [] } ∷ []; refuted = true }
found p None rule e h = cc
found p (Some x) rule e h =
    let same : x.0 ≡ rule = cc in
    ap (start_by p) e ∙ ap (λ k. record (empty_network p) { steps = record { variable = None; nogood = []; reasons = Rule k ∷ [] } ∷ []; refuted = true }) same

pub begins_rule : (p : Contents) (agents : List State) (t : Transit) (rule : ℕ) (s : Step) → Stands p agents t (empty_network (csp_of p)) → Some rule ≡ first_false (csp_of p) → IsRuleStep rule s
    → HaveSettled p agents t (start (csp_of p)) (Some s)
begins_rule p agents t rule s st h is =
    let e = found (csp_of p) (find (λ (x : ℕ × Constraint). is_false x.1) (enumerate_from 0 (csp_of p).constraints)) rule refl (sym h) in
    record {
      stands = subst (Stands p agents t) (sym e) (record { states = st.states; lists = st.lists });
      steps = ap (λ (x : Network). x.steps) e ∙ ap (λ (z : Step). z ∷ []) (sym is);
      refuted = ap (λ (x : Network). x.refuted) e;
      deliveries = ap (λ (x : Network). x.deliveries) e;
    }

not_found : (p : Csp) (o : Option (ℕ × Constraint)) → find (λ (x : ℕ × Constraint). is_false x.1) (enumerate_from 0 p.constraints) ≡ o → option_map (λ (x : ℕ × Constraint). x.0) o ≡ None
    → start p ≡ settle_below p (count p) (empty_network p)
not_found p None e h = ap (start_by p) e
not_found p (Some x) e h = cc

pub begins_all : (p : Contents) (agents : List State) (t : Transit) (step : Option Step) → None ≡ first_false (csp_of p)
    → HaveSettled p agents t (settle_below (csp_of p) (length p.domains) (empty_network (csp_of p))) step → HaveSettled p agents t (start (csp_of p)) step
begins_all p agents t step h s =
    subst (λ (x : Network). HaveSettled p agents t x step) (sym (not_found (csp_of p) (find (λ (x : ℕ × Constraint). is_false x.1) (enumerate_from 0 (csp_of p).constraints)) refl (sym h))) s

-- what is told of the start
in_range_of : (p : Contents) → IsProblem p → (told : Begun) → IsDerivation (csp_of p) (steps_of told) → AllByRecursion IsInRange (steps_of told)
in_range_of p ok begun.Running h = tt
in_range_of p ok (begun.Refuted s) h = (right_in p ok [] (omega arith) s (h 0 s refl), tt)

pub starts_of : (p : Contents) (s : NetworkState) (told : Begun) (step : Option Step) → IsCsp (csp_of p) → IsProblem p → HaveSettled p s.agents s.links (start (csp_of p)) step → steps_of told ≡ option_to_list step → is_refuted told ≡ is_some step
    → s.problem ≡ p → s.refuted ≡ is_some step → s.deliveries ≡ 0 → s.steps ≡ length (option_to_list step) → Starts p s told
starts_of p s told step ok whole h steps refuted problem r d n =
    let same : (start (csp_of p)).steps ≡ steps_of told = h.steps ∙ sym steps in
    let right = subst (IsDerivation (csp_of p)) same (steps_right (csp_of p) ok []) in
    record {
      stands = record {
        parts = subst (λ (q : Contents). Stands q s.agents s.links (start (csp_of p))) (sym problem) h.stands;
        refuted = r ∙ sym h.refuted;
        deliveries = d ∙ sym h.deliveries;
        steps = n ∙ ap length (sym h.steps);
      };
      steps = same;
      refuted = h.refuted ∙ sym refuted;
      right = right;
      in_range = in_range_of p whole told right;
    }
