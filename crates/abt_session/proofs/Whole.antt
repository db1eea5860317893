-- A whole run, from the creation of its log to the log's end.
use Rattle.std.proofs.Common.{◌≡◌, ℕ, Bool, List, [], ◌∷◌, ◌++◌, codes, Option, Result, Ok, Err, OnOk, ap, subst, ◌∙◌}
use Rattle.std.specs.Prelude.{Contains, IsErr, IsErrAnd, IfOk}
use Rattle.std.proofs.lemmas.List.Elements.{Contains-push}
use Rattle.dcsp_rule.specs.Problems.{Contents}
use Rattle.dcsp_script.specs.declared.stop.Stop.{Stop}
use Rattle.dcsp_script.specs.Scripts.{Append, World}
use Rattle.dcsp_script.specs.Ways.{Wrote}
use Rattle.dcsp_script.proofs.Lines.{then_rest, then_stopped}
use Rattle.abt_network.specs.Standing.{NetworkState}
use Rattle.abt_session.specs.Sessions.{Session, begun_script, deliveries_write, run_script}
use Rattle.abt_session.specs.declared.telling.Telling.{Telling}
use Rattle.abt_session.specs.declared.session.RunTask.{RunTask}
use Rattle.abt_session.specs.Running.{order_of, session_of, session_for}
use Rattle.abt_session.specs.Runners.{Leaves, SameTask}
use Rattle.abt_session.specs.Ends.{BareEnd}
use Rattle.abt_session.specs.declared.runner.Runner.{Runner}
use Rattle.dcsp_script.proofs.StepLines.{stopped_so}
use Rattle.abt_session.proofs.Pieces.{wrote_as}

-- a name was created, and is so still
pub created_here : (before : List (List ℕ)) {now : List (List ℕ)} (name : List ℕ) → now ≡ before ++ name ∷ [] → Contains now name
created_here before name e = rw e (Contains-push before name)

pub created_still : (before : List (List ℕ)) {now later : List (List ℕ)} (name : List ℕ) → now ≡ before ++ name ∷ [] → later ≡ now → Contains later name
created_still before name e f = rw f (created_here before name e)

pub on_ok : {T : Type 0} {P : Type 0} (r : Result T Stop) → P → OnOk r P
on_ok (Ok x) p = p
on_ok (Err e) p = tt

-- what failed has no result
pub no_result : (P : BareEnd → Type 0) (r : Result BareEnd Stop) → IsErr r → IfOk r P
no_result P (Ok x) h = absurd (let no = h in cc)
no_result P (Err y) h = tt

-- the same session, the same is left
left_as : {s t : Session} {keep keeps : Bool} {taken takes now : List ℕ} {answers to_come : ℕ → Option ℕ} {network : NetworkState} {a b : World} {r : Result BareEnd Stop} → s ≡ t → keep ≡ keeps → taken ≡ takes
    → Leaves s (deliveries_write s) keep taken now answers to_come network a b r → Leaves t (deliveries_write t) keeps takes now answers to_come network a b r
left_as {s} {t} {keep} {keeps} {taken} {takes} {now} {answers} {to_come} {network} {a} {b} {r} e f g h =
    let at_session = subst (λ (x : Session). Leaves x (deliveries_write x) keep taken now answers to_come network a b r) e h in
    let at_keep = subst (λ (k : Bool). Leaves t (deliveries_write t) k taken now answers to_come network a b r) f at_session in
    subst (λ (l : List ℕ). Leaves t (deliveries_write t) keeps l now answers to_come network a b r) g at_keep

-- the same task, the same session
same_session : (answers : ℕ → Option ℕ) {old mid : Runner} → SameTask old mid → session_for mid.network.problem answers mid.task ≡ session_for old.network.problem answers old.task
same_session answers {old} {mid} same =
    ap (λ (p : Contents). session_of (order_of mid.task) p mid.task.most answers mid.task.log.now mid.task.telling) same.problem
    ∙ ap (λ (n : ℕ). session_of (order_of mid.task) old.network.problem n answers mid.task.log.now mid.task.telling) same.most
    ∙ ap (λ (l : List ℕ). session_of (order_of mid.task) old.network.problem old.task.most answers l mid.task.telling) same.log
    ∙ ap (λ (t : Telling). session_of (order_of mid.task) old.network.problem old.task.most answers old.task.log.now t) same.telling
    ∙ ap (λ (o : Option (List ℕ)). session_of o old.network.problem old.task.most answers old.task.log.now old.task.telling) same.order

-- the same task, the same is left
pub leaves_as : (answers : ℕ → Option ℕ) {old mid : Runner} {now : List ℕ} {to_come : ℕ → Option ℕ} {network : NetworkState} {a b : World} {r : Result BareEnd Stop} → SameTask old mid → mid.taken ≡ old.taken
    → Leaves (session_for mid.network.problem answers mid.task) (deliveries_write (session_for mid.network.problem answers mid.task)) mid.task.keep mid.taken now answers to_come network a b r
    → Leaves (session_for old.network.problem answers old.task) (deliveries_write (session_for old.network.problem answers old.task)) old.task.keep old.taken now answers to_come network a b r
leaves_as answers {old} {mid} same taken h = left_as (same_session answers {old = old} {mid = mid} same) same.keep taken h

module _ (s : Session) where
  -- it was stopped before its first delivery
  pub begin_stopped : {T : Type 0} {e : Stop} (keep : Bool) (taken now : List ℕ) (answers : ℕ → Option ℕ) (network : NetworkState) (a b : World) → (r : Result BareEnd Stop) → IsErr r × IsErrAnd r (λ y. y ≡ e)
      → Wrote {T = T} (begun_script s.order s.problem s.log) a b (Err e) → Leaves s (run_script s) keep taken now answers answers network a b r
  begin_stopped {T = T} keep taken now answers network a b r is w = record {
    wrote = then_stopped {T = T} (deliveries_write s ++ Append s.log (codes "end\n") ∷ []) is w;
    finishes = no_result _ r is.0;
  }

  -- it was stopped among its deliveries
  pub deliveries_stopped : {T : Type 0} {x : T} {e : Stop} {keep : Bool} {taken now : List ℕ} {answers to_come : ℕ → Option ℕ} {network : NetworkState} {a b c : World} (r : Result BareEnd Stop) → IsErr r × IsErrAnd r (λ y. y ≡ e)
      → Wrote {T = T} (begun_script s.order s.problem s.log) a b (Ok x) → Leaves s (deliveries_write s) keep taken now answers to_come network b c (Err e) → Leaves s (run_script s) keep taken now answers to_come network a c r
  deliveries_stopped r is w h = record {
    wrote = then_rest w (then_stopped (Append s.log (codes "end\n") ∷ []) is h.wrote);
    finishes = no_result _ r is.0;
  }

  module _ {T U : Type 0} {x : T} {end : BareEnd} {keep : Bool} {taken now log : List ℕ} {answers to_come : ℕ → Option ℕ} {network : NetworkState} {a b c d : World} where
    -- its log's end was not written
    pub tail_stopped : {e : Stop} (r : Result BareEnd Stop) → IsErr r × IsErrAnd r (λ y. y ≡ e) → Wrote {T = T} (begun_script s.order s.problem s.log) a b (Ok x)
        → Leaves s (deliveries_write s) keep taken now answers to_come network b c (Ok end) → log ≡ s.log → Wrote {T = U} (Append log (codes "end\n") ∷ []) c d (Err e)
        → Leaves s (run_script s) keep taken now answers to_come network a d r
    tail_stopped r is w h same tail = record {
      wrote = then_rest w (then_rest h.wrote (wrote_as (ap (λ l. Append l (codes "end\n") ∷ []) same) (stopped_so {T = U} r is tail)));
      finishes = no_result _ r is.0;
    }

    -- it was made whole
    pub whole_run : {y : U} → Wrote {T = T} (begun_script s.order s.problem s.log) a b (Ok x) → Leaves s (deliveries_write s) keep taken now answers to_come network b c (Ok end) → log ≡ s.log
        → Wrote {T = U} (Append log (codes "end\n") ∷ []) c d (Ok y) → Leaves s (run_script s) keep taken now answers to_come network a d (Ok end)
    whole_run w h same tail = record {
      wrote = then_rest w (then_rest h.wrote (wrote_as (ap (λ l. Append l (codes "end\n") ∷ []) same) (record { ended = tail.ended; handed = tail.handed })));
      finishes = h.finishes;
    }

-- the problem that the network was made of
pub leaves_at : {P Q : Contents} (answers : ℕ → Option ℕ) (task : RunTask) {keep : Bool} {taken now : List ℕ} {to_come : ℕ → Option ℕ} {network : NetworkState} {a b : World} {r : Result BareEnd Stop} → P ≡ Q
    → Leaves (session_for P answers task) (run_script (session_for P answers task)) keep taken now answers to_come network a b r
    → Leaves (session_for Q answers task) (run_script (session_for Q answers task)) keep taken now answers to_come network a b r
leaves_at answers task {keep} {taken} {now} {to_come} {network} {a} {b} {r} e h =
    subst (λ (p : Contents). Leaves (session_for p answers task) (run_script (session_for p answers task)) keep taken now answers to_come network a b r) e h
