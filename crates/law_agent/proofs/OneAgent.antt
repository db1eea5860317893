-- The steps that one agent makes are right, whatever their numbers.
use Rattle.std.proofs.Common.{◌≡◌, ℕ, ◌+◌, true, false, cond, not, ◌&&◌, List, [], ◌∷◌, length, Option, Some, None, ℤ, refl, subst, arith}
use Rattle.dcsp_defs.specs.Csp.{Csp}
use Rattle.dcsp_defs.specs.declared.Step.{Step}
use Rattle.abt_defs.specs.Agents.{Agent, Stamped, StampedNogood, Tell, Refuse}
use Rattle.abt_defs.specs.Reasons.{derived, step_of}
use Rattle.abt_defs.specs.Steps.{is_newer, is_news, is_free, choice, refuse, take_or_refuse, settle, learn, heed, stay, receive}
use Rattle.law_agent.specs.Sources.{AreOfSteps}
use Rattle.law_agent.specs.OneAgentSteps.{IsRightIfMade, AgentsStepRight}
use Rattle.law_agent.proofs.StepRuns.{Rooted, settled, received}

-- ---- no step's number matters to what the step is

refuse_same : (n m : ℕ) (a : Agent) (s : Step) (d : StampedNogood) → (refuse n a s d).step ≡ (refuse m a s d).step
refuse_same n m a s [] = refl
refuse_same n m a s (first ∷ rest) = refl

taken_same : (p : Csp) (i n m : ℕ) (a : Agent) (o : Option ℤ) → (take_or_refuse p i n a o).step ≡ (take_or_refuse p i m a o).step
taken_same p i n m a (Some v) = refl
taken_same p i n m a None = refuse_same n m a (step_of p i a.view a.recorded) (derived p i a.view a.recorded)

settle_same : (p : Csp) (i n m : ℕ) (a : Agent) → (settle p i n a).step ≡ (settle p i m a).step
settle_same p i n m a = elim (not a.waits && is_free p i a a.value) as (λ b. (cond b (stay a) (take_or_refuse p i n a (choice p i a))).step ≡ (cond b (stay a) (take_or_refuse p i m a (choice p i a))).step) [
  | true ↦ refl
  | false ↦ taken_same p i n m a (choice p i a)
]

told_same : (p : Csp) (i n m k : ℕ) (a : Agent) (s : Stamped) → (receive p i n a k (Tell s)).step ≡ (receive p i m a k (Tell s)).step
told_same p i n m k a s = elim (is_newer (a.view k) s.stamp) as (λ b. (cond b (settle p i n (learn k s a)) (stay a)).step ≡ (cond b (settle p i m (learn k s a)) (stay a)).step) [
  | true ↦ settle_same p i n m (learn k s a)
  | false ↦ refl
]

refused_same : (p : Csp) (i n m k : ℕ) (a : Agent) (step : ℕ) (pairs : StampedNogood) → (receive p i n a k (Refuse step pairs)).step ≡ (receive p i m a k (Refuse step pairs)).step
refused_same p i n m k a step pairs = elim (a.waits && not (is_news i pairs a)) as (λ b. (cond b (stay (heed i step pairs a)) (settle p i n (heed i step pairs a))).step ≡ (cond b (stay (heed i step pairs a)) (settle p i m (heed i step pairs a))).step) [
  | true ↦ refl
  | false ↦ settle_same p i n m (heed i step pairs a)
]

-- ---- so each is right as that with the next number is

rooted : (steps : List Step) (a : Agent) → AreOfSteps steps a.recorded → Rooted steps a
rooted steps a h x u = let r = h x u in record { step = r.0; there = r.1; same = r.2 }

pub agents_step_right : (p : Csp) → AgentsStepRight p
agents_step_right p ok i l steps a h r = record {
  settled = λ number.
      subst (IsRightIfMade p steps) (settle_same p i (length steps + 1) number a) (settled p ok steps i l a h (rooted steps a r)).right;
  told = λ number k s higher there.
      subst (IsRightIfMade p steps) (told_same p i (length steps + 1) number k a s)
      (received p ok steps i l a k (Tell s) h (rooted steps a r) ((omega arith), there) higher tt).right;
  refused = λ number k step pairs proper of_step.
      subst (IsRightIfMade p steps) (refused_same p i (length steps + 1) number k a step pairs)
      (received p ok steps i l a k (Refuse step pairs) h (rooted steps a r) proper tt
      (record { step = of_step.0; there = of_step.1; same = of_step.2 })).right;
}
