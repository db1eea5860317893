-- The deliveries of a run, read off its lines.
use Rattle.std.proofs.Common.{◌≡◌, ◌∙◌, ℕ, zero, suc, ◌≤◌, List, [], ◌∷◌, ◌++◌, map, slice_get, slice_index, take, Option, Some, None, refl, sym, ap, arith, append-nil, append_assoc}
use Rattle.std.specs.List.{flat_map}
use Rattle.std.proofs.lemmas.Grind.{flat_map-append}
use Rattle.std.proofs.lemmas.List.{take_all}
use Rattle.dcsp_defs.specs.declared.Step.{Step}
use Rattle.dcsp_defs.specs.Words.{below}
use Rattle.dcsp_defs.specs.Csp.{Csp, count, domain}
use Rattle.abt_defs.specs.Agents.{Agent, Message, fresh}
use Rattle.abt_defs.specs.Events.{Act, act_of, start_acts}
use Rattle.abt_defs.specs.Steps.{Outcome}
use Rattle.abt_defs.specs.Network.{Network, start}
use Rattle.abt_defs.specs.Runs.{Delivery, cargo_of, delivery, delivery_at, head_on, whole}
use Rattle.law_runs.specs.Starts.{first_act, first_outcome, settled_in}
use Rattle.law_runs.specs.Stops.{after, Stops}
use Rattle.law_runs.proofs.Starting.{starts_in_order}
use Rattle.law_runs.proofs.Stopping.{stops}
use Rattle.abt_story.specs.Facts.{Fact, Line}
use Rattle.abt_story.specs.Numbers.{deliveries_told}
use Rattle.abt_story.specs.Telling.{agentless, came_with, delivery_facts, facts, first_step, lines, made_by_none, named_in, reason, reason_before, receives, start_facts, step_between, steps_of}
use Rattle.abt_story.specs.Retelling.{deliveries_in, delivery_of, fold, DeliveriesAreTold}
use Rattle.abt_story.proofs.Segments.{in_parts, pass_answers, pass_drops, pass_learns, pass_makes, pass_rules_out, pass_sends, pass_takes}
use Rattle.abt_story.proofs.Numbers.{told_in}
use Rattle.abt_story.proofs.Runs.{Chosen, facts_more, facts_so_far, find_chosen, lines_are, lines_tell, next, next_is, o as outcome_of}

-- each delivery that is told goes last
gathers : ℕ → Fact → List Delivery → List Delivery
gathers i f ds = ds ++ delivery_of (Some i) f

of_agent : (e i : ℕ) (fs : List Fact) (ds : List Delivery) → ds ++ deliveries_in (lines e i fs) ≡ fold (gathers i) ds fs
unfolding gathers
of_agent e i [] ds = append-nil ds
of_agent e i (f ∷ fs) ds = sym (append_assoc ds (delivery_of (Some i) f) (deliveries_in (lines e i fs))) ∙ of_agent e i fs (ds ++ delivery_of (Some i) f)

-- what comes to agent i
abbrev coming : ℕ → Option (ℕ × Message) → List Delivery
coming i None = []
coming i (Some x) = record { sender = x.0; receiver = i; cargo = cargo_of x.1 } ∷ []

act_tells : (order : Option (List ℕ)) (p : Csp) (made : Option ℕ) (e i : ℕ) (came : Option (ℕ × Message)) (b : Agent) (o : Outcome) → deliveries_in (lines e i (facts order p made (act_of i came b o))) ≡ coming i came
unfolding gathers
act_tells order p made e i came b o =
    let f = gathers i in
    let a : Act = act_of i came b o in
    of_agent e i (facts order p made a) [] ∙ in_parts f order p made a [] ∙ pass_sends f (λ k c x. append-nil x) o.sent _ ∙ pass_makes f (λ s x. append-nil x) made _ ∙ pass_takes f (λ v x. append-nil x) b.stamp o.agent.stamp o.agent.value _
    ∙ pass_rules_out f (λ v x. append-nil x) (domain p i) (reason_before p i came b) (reason p i o.agent) _ ∙ pass_answers f (λ s x. append-nil x) (λ s x. append-nil x) (came_with came) (steps_of o.agent) _
    ∙ pass_drops f (λ s x. append-nil x) (steps_of b) (steps_of o.agent) _ ∙ pass_learns f (λ k v x. append-nil x) (named_in order came) b o.agent _ ∙ by_came came
  where
    by_came : (c : Option (ℕ × Message)) → fold (gathers i) [] (receives (came_with c)) ≡ coming i c
    by_came None = refl
    by_came (Some x) = refl

both_tell : (xs ys : List Line) → deliveries_in (xs ++ ys) ≡ deliveries_in xs ++ deliveries_in ys
both_tell xs ys = flat_map-append (λ (l : Line). delivery_of l.agent l.fact) xs ys

-- the start tells none
start_tells : (order : Option (List ℕ)) (p : Csp) → deliveries_in (start_facts order p) ≡ []
start_tells order p =
    both_tell (agentless (start p).steps) (flat_map (λ (a : Act). lines 0 a.agent (facts order p (first_step a.after) a)) (start_acts p)) ∙ ap (λ l. l ++ deliveries_in (flat_map (λ (a : Act). lines 0 a.agent (facts order p (first_step a.after) a)) (start_acts p))) (by_steps (start p).steps)
    ∙ ap (λ l. deliveries_in (flat_map (λ (a : Act). lines 0 a.agent (facts order p (first_step a.after) a)) l)) (starts_in_order p).acts ∙ all (below (settled_in (count p) (start p).steps))
  where
    by_variable : (o : Option ℕ) → deliveries_in (made_by_none o) ≡ []
    by_variable None = refl
    by_variable (Some i) = refl

    by_steps : (steps : List Step) → deliveries_in (agentless steps) ≡ []
    by_steps [] = refl
    by_steps (s ∷ steps) = by_variable s.variable

    all : (is : List ℕ) → deliveries_in (flat_map (λ (a : Act). lines 0 a.agent (facts order p (first_step a.after) a)) (map (first_act p) is)) ≡ []
    all [] = refl
    all (i ∷ is) =
        both_tell (lines 0 i (facts order p (first_step (first_outcome p i).agent) (first_act p i))) (flat_map (λ (a : Act). lines 0 a.agent (facts order p (first_step a.after) a)) (map (first_act p) is))
        ∙ ap (λ l. l ++ deliveries_in (flat_map (λ (a : Act). lines 0 a.agent (facts order p (first_step a.after) a)) (map (first_act p) is))) (act_tells order p (first_step (first_outcome p i).agent) 0 i None (fresh p i) (first_outcome p i)) ∙ all is

-- a delivery tells itself
delivery_tells : (order : Option (List ℕ)) (p : Csp) (c : ℕ) (net : Network) → Chosen p c net → deliveries_in (delivery_facts order p c net) ≡ delivery p c net
delivery_tells order p c net s =
    ap deliveries_in (lines_are p c net s order) ∙ act_tells order p (step_between net (next p c net s)) (next p c net s).deliveries s.receiver (Some (s.sender, s.message)) (net.agents s.receiver) (outcome_of p c net s)
    ∙ sym (ap (λ x. delivery_at x net) s.chosen ∙ ap (head_on s.sender s.receiver) s.head)

take_more : {X : Type 0} (xs : List X) (k : ℕ) (x : X) → slice_get xs k ≡ Some x → take (suc k) xs ≡ take k xs ++ x ∷ []
take_more [] k x h = cc
take_more (y ∷ ys) zero x h = let e : y ≡ x = cc in ap (λ z. z ∷ []) e
take_more (y ∷ ys) (suc k) x h = ap (λ l. y ∷ l) (take_more ys k x h)

module _ (order : Option (List ℕ)) (p : Csp) (most : ℕ) (choices : List ℕ) where
  told_so_far : (k : ℕ) → k ≤ (whole p most choices).net.deliveries → deliveries_in (facts_so_far p most choices order k) ≡ take k (whole p most choices).trace
  told_so_far zero l = ap deliveries_in (append-nil (start_facts order p)) ∙ start_tells order p
  told_so_far (suc k) l =
      let n = next_is p most choices k (omega arith) in
      let c = slice_index choices k in
      let net = after p choices k in
      let here = delivery_facts order p c net in
      ap deliveries_in (facts_more p most choices order k) ∙ both_tell (facts_so_far p most choices order k) here ∙ ap (λ l. l ++ deliveries_in here) (told_so_far k (omega arith))
      ∙ ap (λ l. take k (whole p most choices).trace ++ l) (delivery_tells order p c net (find_chosen p c net n.made n.is_made) ∙ n.is_made) ∙ sym (take_more (whole p most choices).trace k n.made n.traced)

pub deliveries_are_told : (order : Option (List ℕ)) (p : Csp) → DeliveriesAreTold order p
deliveries_are_told order p most choices =
    let r = whole p most choices in
    let law : Stops p most choices r = stops p most choices in
    let e = law.trace in
    ap deliveries_in (lines_tell p most choices order r.net.deliveries) ∙ told_in order (facts_so_far p most choices order r.net.deliveries)
    ∙ ap (deliveries_told order) (told_so_far order p most choices r.net.deliveries (omega arith) ∙ take_all r.net.deliveries r.trace (omega arith))
