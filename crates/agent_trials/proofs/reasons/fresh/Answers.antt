use Rattle.std.proofs.Common.{◌≡◌, sym, subst, List, Ok, Result, Err, None, []}
use Rattle.std.specs.Prelude.{IfOk}
use Rattle.abt_defs.specs.Agents.{View, values_in}
use Rattle.abt_parts.specs.Views.{view_of}
use Rattle.abt_parts.specs.declared.recorded.Recorded.{Recorded}
use Rattle.abt_reason.specs.Cached.{Cached, StandsFor}
use Rattle.agent_trials.proofs.reasons.fresh.Goals as goal

in_ok : {A E : Type 0} (P : A → Type 0) (r : Result A E) (x : A) → IfOk r P → r ≡ Ok x → P x
in_ok P (Ok y) x h e = let same : y ≡ x = cc in subst P same h
in_ok P (Err y) x h e = cc

pub returns-clause-stands : goal.returns-clause-stands
returns-clause-stands g c =
    let stands = in_ok (λ (r : Cached). StandsFor r (λ k. None) []) c.new.result c.expect.result c.new.ensures.stands c.expect.ensures in
    subst (λ (items : List Recorded). StandsFor c.expect.result (values_in (view_of c.args._view.now)) items) (sym c.requires.none)
    (subst (λ (view : View). StandsFor c.expect.result (values_in view) []) (sym c.requires.empty) stands)
