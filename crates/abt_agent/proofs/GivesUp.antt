-- A step, and the nogood that is sent.
use Rattle.std.proofs.Common.{◌≡◌, ℕ, suc, ◌-◌, Bool, true, List, [], ◌∷◌, length, Some, None, refl, sym, ap, subst, ◌∙◌, arith}
use Rattle.std.specs.Prelude.{slice_get}
use Rattle.std.proofs.lemmas.Option.{slice_get-get_or}
use Rattle.dcsp_defs.specs.declared.nogood.Pair.{Pair}
use Rattle.dcsp_defs.specs.declared.Step.{Step}
use Rattle.abt_defs.specs.Agents.{Agent, Stamped, Refuse, lowest}
use Rattle.abt_defs.specs.Reasons.{derived, step_of}
use Rattle.abt_defs.specs.Steps as steps
use Rattle.dcsp_defs.specs.Csp.{Csp}
use Rattle.dcsp_rule.specs.Problems.{csp_of}
use Rattle.abt_parts.specs.declared.message.Sent.{Sent}
use Rattle.abt_parts.specs.Messages.{with_stamps}
use Rattle.abt_parts.specs.Outgoing.{Posts}
use Rattle.abt_parts.proofs.Posting.{posts_none}
use Rattle.abt_parts.specs.Views.{view_of}
use Rattle.abt_parts.specs.Stores.{records_of}
use Rattle.abt_agent.specs.declared.body.AgentBody.{AgentBody}
use Rattle.abt_agent.specs.declared.Turn.TheVariants.{Derived, Empty}
use Rattle.abt_agent.specs.Bodies.{agent_of, IsSized, Does}

last_none : (ps : List Pair) → None ≡ slice_get ps (length ps - 1) → ps ≡ []
last_none [] e = refl
last_none (p ∷ ps) e = let there = slice_get-get_or (p ∷ ps) (length (p ∷ ps) - 1) p (omega arith) in cc

last_some : (ps : List Pair) (last : Pair) → Some last ≡ slice_get ps (length ps - 1) → ps ≡ [] → ⊥
last_some ps last e z = let there : Some last ≡ slice_get [] (length ps - 1) = e ∙ ap (λ (y : List Pair). slice_get y (length ps - 1)) z in cc

lowest_is : (q : Pair) (v : Stamped) (qs : List Pair) (ss : List ℕ) (last : Pair) → Some last ≡ slice_get (q ∷ qs) (length qs) → lowest (q.var, v) (with_stamps qs ss) ≡ last.var
lowest_is q v [] ss last e = let same : q ≡ last = cc in ap (λ (z : Pair). z.var) same
lowest_is q v (r ∷ rs) [] last e = lowest_is r (record { value = r.value; stamp = 0 }) rs [] last e
lowest_is q v (r ∷ rs) (s ∷ ss) last e = lowest_is r (record { value = r.value; stamp = s }) rs ss last e

refused : (number : ℕ) (a : Agent) (step : Step) (ps : List Pair) (ss : List ℕ) (last : Pair) → Some last ≡ slice_get ps (length ps - 1)
    → steps.refuse number a step (with_stamps ps ss) ≡ record { agent = record a { waits = true }; sent = (last.var, Refuse number (with_stamps ps ss)) ∷ []; step = Some step }
refused number a step [] ss last e = cc
refused number a step (q ∷ qs) [] last e =
    let l : suc (length qs) - 1 ≡ length qs = omega arith in
    ap (λ (k : ℕ). record { agent = record a { waits = true }; sent = (k, Refuse number (with_stamps (q ∷ qs) [])) ∷ []; step = Some step })
    (lowest_is q (record { value = q.value; stamp = 0 }) qs [] last (subst (λ (z : ℕ). Some last ≡ slice_get (q ∷ qs) z) l e))
refused number a step (q ∷ qs) (s ∷ ss) last e =
    let l : suc (length qs) - 1 ≡ length qs = omega arith in
    ap (λ (k : ℕ). record { agent = record a { waits = true }; sent = (k, Refuse number (with_stamps (q ∷ qs) (s ∷ ss))) ∷ []; step = Some step })
    (lowest_is q (record { value = q.value; stamp = s }) qs ss last (subst (λ (z : ℕ). Some last ≡ slice_get (q ∷ qs) z) l e))

module _ (number : ℕ) (b : AgentBody) (sized : IsSized b) (out : List Sent) (s : Step) (stamps : List ℕ)
    (step : s ≡ step_of (csp_of b.known.problem.now) b.known.me (view_of b.known.view) (records_of b.known.store)) (pairs : with_stamps s.nogood stamps ≡ derived (csp_of b.known.problem.now) b.known.me (view_of b.known.view) (records_of b.known.store)) where
  abbrev p : Csp
  p = csp_of b.known.problem.now

  abbrev me : ℕ
  me = b.known.me

  same_step : s ≡ step_of p me (agent_of b).view (agent_of b).recorded
  same_step = step

  same_pairs : with_stamps s.nogood stamps ≡ derived p me (agent_of b).view (agent_of b).recorded
  same_pairs = pairs

  still : {room : List Bool} {waits : Bool} → IsSized (record b { waits = waits; room = room })
  still = record { in_step = sized.in_step; linked = sized.linked; tells = sized.tells; told_exist = sized.told_exist }

  -- what is refused, in the code's words
  same_outcome : steps.take_or_refuse p me number (agent_of b) None ≡ steps.refuse number (agent_of b) s (with_stamps s.nogood stamps)
  same_outcome = λ x. steps.refuse number (agent_of b) (sym same_step x) (sym same_pairs x)

  pub gives_up_empty : (room : List Bool) (went : List Sent) → went ≡ out → None ≡ slice_get s.nogood (length s.nogood - 1)
      → Does (steps.take_or_refuse p me number (agent_of b) None) b (record b { room = room }) out went (Empty s)
  gives_up_empty room went same e =
      let none = last_none s.nogood e in
      let all : steps.take_or_refuse p me number (agent_of b) None ≡ record { agent = agent_of b; sent = []; step = Some s } =
      same_outcome ∙ ap (λ z. steps.refuse number (agent_of b) s (with_stamps z stamps)) none in
      subst (λ o. Does o b (record b { room = room }) out went (Empty s)) (sym all) (record { agent = refl; sent = subst (λ (w : List Sent). Posts out w []) (sym same) (posts_none out); turn_is = (refl, none); sized = still })

  pub gives_up : (room : List Bool) (last : Pair) (copy : List Pair) (before went : List Sent) → before ≡ out → Some last ≡ slice_get s.nogood (length s.nogood - 1) → copy ≡ s.nogood
      → Posts before went ((last.var, Refuse number (with_stamps copy stamps)) ∷ [])
      → Does (steps.take_or_refuse p me number (agent_of b) None) b (record b { waits = true; room = room }) out went (Derived s)
  gives_up room last copy before went same e c m =
      let all : steps.take_or_refuse p me number (agent_of b) None ≡ record { agent = record (agent_of b) { waits = true }; sent = (last.var, Refuse number (with_stamps s.nogood stamps)) ∷ []; step = Some s } =
      same_outcome ∙ refused number (agent_of b) s s.nogood stamps last e in
      subst (λ o. Does o b (record b { waits = true; room = room }) out went (Derived s)) (sym all) (record {
        agent = refl;
        sent = subst (λ (o : List Sent). Posts o went ((last.var, Refuse number (with_stamps s.nogood stamps)) ∷ [])) same (subst (λ z. Posts before went ((last.var, Refuse number (with_stamps z stamps)) ∷ [])) c m);
        turn_is = (refl, last_some s.nogood last e);
        sized = still;
      })
