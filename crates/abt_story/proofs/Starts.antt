-- The start, as the code tells it.
use Rattle.std.proofs.Common.{◌≡◌, ◌∙◌, ℕ, ℤ, ◌≤◌, Bool, true, false, cond, not, ◌&&◌, inl, inr, List, [], ◌∷◌, ◌++◌, ◌==◌, filter, filter_map, find, map, nat_lt, Option, Some, None, refl, sym, ap, arith}
use Rattle.std.specs.List.{cons_option, flat_map, list_any}
use Rattle.std.proofs.lemmas.Bool.{cases_lt}
use Rattle.std.proofs.lemmas.Bool.Decides.{nat_tests}
use Rattle.std.proofs.lemmas.Grind.{flat_map-append}
use Rattle.dcsp_defs.specs.Words.{below}
use Rattle.dcsp_defs.specs.Csp.{Csp, count, domain}
use Rattle.dcsp_problem.specs.Lower.{joins, lower_owners}
use Rattle.abt_defs.specs.Agents.{Tell, Record, Stamped, StampedNogood, fresh, is_among, known, shares}
use Rattle.abt_defs.specs.Events.{Act, start_acts}
use Rattle.abt_defs.specs.Network.{start}
use Rattle.abt_defs.specs.Reasons.{Item, blamed, causes, derived, ruled_out, step_of}
use Rattle.abt_defs.specs.Steps.{Outcome, refuse, take_or_refuse, to_each}
use Rattle.law_agent.specs.OneAgent.{Sound}
use Rattle.law_runs.specs.Starts.{first_act, first_outcome, StartsWith}
use Rattle.abt_parts.specs.Messages.{told_sent}
use Rattle.dcsp_defs.specs.declared.Step.{Step}
use Rattle.abt_story.specs.Numbers.{lines_told}
use Rattle.abt_story.specs.Telling.{agentless, facts, first_step, lines, made_by_none, start_lines}
use Rattle.abt_story.specs.Texts.{line_text, lines_text}
use Rattle.abt_story.specs.Looking.{first_text, tell_to}
use Rattle.abt_story.proofs.Carrying.{Carries, numbered, settle_carries}
use Rattle.abt_story.proofs.Growing.{lines_are_facts}
use Rattle.abt_story.proofs.Numbers.{lines_append}

filter_on : (f g : ℕ → Bool) (xs : List ℕ) → ((x : ℕ) → f x ≡ g x) → filter f xs ≡ filter g xs
filter_on f g [] h = refl
filter_on f g (x ∷ xs) h = ap (λ b. cond b (x ∷ filter f xs) (filter f xs)) (h x) ∙ ap (λ l. cond (g x) (x ∷ l) l) (filter_on f g xs h)

derived_none : (p : Csp) (i : ℕ) (recorded : List Record) (ks : List ℕ) → filter_map (blamed p i (λ k. None) recorded) ks ≡ []
derived_none p i recorded [] = refl
derived_none p i recorded (k ∷ ks) =
    ap (λ (o : Option (ℕ × Stamped)). cons_option o (filter_map (blamed p i (λ j. None) recorded) ks)) (by_test (list_any (λ (x : Item). is_among k x.variables) (causes p i (λ j. None) recorded)))
    ∙ derived_none p i recorded ks
  where
    by_test : (b : Bool) → ◌≡◌ {A = Option (ℕ × Stamped)} (cond b None None) None
    by_test true = refl
    by_test false = refl

module _ (p : Csp) (sound : (i : ℕ) → Sound p i (fresh p i)) (i : ℕ) where
  -- those that are told are the lower owners
  lower_told : filter (λ j. shares p j i) (below (count p)) ≡ lower_owners p i
  lower_told = filter_on (λ j. shares p j i) (λ j. nat_lt i j && list_any (joins j i) p.constraints) (below (count p)) each
    where
      each : (j : ℕ) → shares p j i ≡ (nat_lt i j && list_any (joins j i) p.constraints)
      each j = elim (cases_lt i j) [
        | inl l ↦ let e : not (i == j) ≡ nat_lt i j = grind (arith, nat_tests) in ap (λ b. b && list_any (joins j i) p.constraints) e
        | inr l ↦ let e : nat_lt i j ≡ false = grind (arith, nat_tests) in by_test (shares p j i) refl l ∙ sym (ap (λ b. b && list_any (joins j i) p.constraints) e)
      ]
        where
          by_test : (b : Bool) → shares p j i ≡ b → j ≤ i → shares p j i ≡ false
          by_test true e l = absurd (let s = (sound j).higher i e in omega arith)
          by_test false e l = e

  each_told : (s : Stamped) (ks : List ℕ) → map told_sent (to_each (Tell s) ks) ≡ map tell_to ks
  each_told s [] = refl
  each_told s (k ∷ ks) = ap (λ l. tell_to k ∷ l) (each_told s ks)

  -- an agent that has a value tells it
  pub sent_some : (v : ℤ) → (first_outcome p i).agent.value ≡ Some v → map told_sent (first_outcome p i).sent ≡ map tell_to (lower_owners p i)
  sent_some v e = by_choice (find (λ w. not (ruled_out p i (known (fresh p i)) [] w)) (domain p i)) e
    where
      refused : (d : StampedNogood) → (refuse 1 (fresh p i) (step_of p i (λ k. None) []) d).agent.value ≡ None
      refused [] = refl
      refused (x ∷ xs) = refl

      by_choice : (o : Option ℤ) → (take_or_refuse p i 1 (fresh p i) o).agent.value ≡ Some v → map told_sent (take_or_refuse p i 1 (fresh p i) o).sent ≡ map tell_to (lower_owners p i)
      by_choice (Some w) f = each_told (record { value = w; stamp = 1 }) (filter (λ j. shares p j i) (below (count p))) ∙ ap (map tell_to) lower_told
      by_choice None f = absurd (let g = refused (derived p i (λ k. None) []) in cc)

  -- one that has none sends nothing
  pub sent_none : (first_outcome p i).agent.value ≡ None → map told_sent (first_outcome p i).sent ≡ []
  sent_none e = by_choice (find (λ w. not (ruled_out p i (known (fresh p i)) [] w)) (domain p i)) e
    where
      refused : (d : StampedNogood) → d ≡ [] → map told_sent (refuse 1 (fresh p i) (step_of p i (λ k. None) []) d).sent ≡ []
      refused [] f = refl
      refused (x ∷ xs) f = absurd (let g = f in cc)

      by_choice : (o : Option ℤ) → (take_or_refuse p i 1 (fresh p i) o).agent.value ≡ None → map told_sent (take_or_refuse p i 1 (fresh p i) o).sent ≡ []
      by_choice (Some w) f = absurd (let g = f in cc)
      by_choice None f = refused (derived p i (λ k. None) []) (derived_none p i [] (below i))

-- what is sent carries the value, or the first step
pub first_carries : (p : Csp) (i : ℕ) → Carries (first_outcome p i).sent (first_outcome p i).agent.value (first_step (first_outcome p i).agent)
first_carries p i = by_choice (find (λ w. not (ruled_out p i (known (fresh p i)) [] w)) (domain p i)) (settle_carries p i 1 (fresh p i))
  where
    refused : (d : StampedNogood) → d ≡ [] → let o : Outcome = refuse 1 (fresh p i) (step_of p i (λ k. None) []) d in Carries o.sent o.agent.value (first_step o.agent)
    refused [] f = refl
    refused (x ∷ xs) f = absurd (let g = f in cc)

    by_choice : (c : Option ℤ) → let o : Outcome = take_or_refuse p i 1 (fresh p i) c in Carries o.sent o.agent.value (numbered 1 o.step) → Carries o.sent o.agent.value (first_step o.agent)
    by_choice (Some v) h = h
    by_choice None h = refused (derived p i (λ k. None) []) (derived_none p i [] (below i))

-- a step that is no agent's is told as it is
agentless_told : (order : Option (List ℕ)) (steps : List Step) → lines_told order (agentless steps) ≡ agentless steps
agentless_told None steps = refl
agentless_told (Some order) [] = refl
agentless_told (Some order) (s ∷ steps) = by_variable s.variable
  where
    by_variable : (o : Option ℕ) → lines_told (Some order) (made_by_none o) ≡ made_by_none o
    by_variable None = refl
    by_variable (Some i) = refl

-- the lines of the start as text
pub start_text : (order : Option (List ℕ)) (p : Csp) (settled : ℕ) → StartsWith p settled → lines_text (start_lines order p) ≡ lines_text (agentless (start p).steps) ++ flat_map (first_text order p) (below settled)
start_text order p settled h =
    ap lines_text (lines_append order (agentless (start p).steps) (flat_map (λ (a : Act). lines 0 a.agent (facts order p (first_step a.after) a)) (start_acts p)))
    ∙ flat_map-append line_text (lines_told order (agentless (start p).steps)) (lines_told order (flat_map (λ (a : Act). lines 0 a.agent (facts order p (first_step a.after) a)) (start_acts p)))
    ∙ ap (λ l. lines_text l ++ lines_text (lines_told order (flat_map (λ (a : Act). lines 0 a.agent (facts order p (first_step a.after) a)) (start_acts p)))) (agentless_told order (start p).steps)
    ∙ ap (λ l. lines_text (agentless (start p).steps) ++ lines_text (lines_told order (flat_map (λ (a : Act). lines 0 a.agent (facts order p (first_step a.after) a)) l))) h.acts
    ∙ ap (λ t. lines_text (agentless (start p).steps) ++ t) (all (below settled))
  where
    none : (o : Option (List ℕ)) → lines_text (lines_told o []) ≡ []
    none None = refl
    none (Some order) = refl

    all : (is : List ℕ) → lines_text (lines_told order (flat_map (λ (a : Act). lines 0 a.agent (facts order p (first_step a.after) a)) (map (first_act p) is))) ≡ flat_map (first_text order p) is
    all [] = none order
    all (i ∷ is) =
        let mine = lines 0 i (facts order p (first_step (first_outcome p i).agent) (first_act p i)) in
        let rest = flat_map (λ (a : Act). lines 0 a.agent (facts order p (first_step a.after) a)) (map (first_act p) is) in
        ap lines_text (lines_append order mine rest) ∙ flat_map-append line_text (lines_told order mine) (lines_told order rest)
        ∙ ap (λ t. t ++ lines_text (lines_told order rest)) (lines_are_facts order 0 i (facts order p (first_step (first_outcome p i).agent) (first_act p i))) ∙ ap (λ t. first_text order p i ++ t) (all is)
