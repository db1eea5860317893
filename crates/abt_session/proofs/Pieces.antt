-- A piece that is written is the line that it was made of.
use Rattle.std.proofs.Common.{◌≡◌, ℕ, ◌<◌, ◌^◌, length, length-append, Option, Some, None, IfSome, option_to_list, arith, Bool, true, false, not, cond, map, List, [], ◌∷◌, ◌++◌, Result, Ok, Err, refl, sym, ap, subst, ◌∙◌, append-nil}
use Rattle.std.proofs.lemmas.List.{map-append}
use Rattle.std.specs.Prelude.{IsErr, IsErrAnd, OnErr}
use Rattle.dcsp_defs.specs.declared.Step.{Step}
use Rattle.ngd_log.specs.StepText.{IsStepNumber}
use Rattle.abt_defs.specs.Runs.{Delivery}
use Rattle.dcsp_script.specs.declared.stop.Stop.{Stop}
use Rattle.dcsp_script.specs.declared.stop.Stop.TheVariants.{Memory}
use Rattle.dcsp_script.specs.Scripts.{Write, Append, Put, World}
use Rattle.dcsp_script.specs.Ways.{Wrote}
use Rattle.dcsp_script.proofs.Ways.{did_nothing, stop_wrote}
use Rattle.abt_session.specs.declared.telling.Telling.{Telling}
use Rattle.abt_session.specs.Traces.{trace_texts, progress_texts, delivery_texts}
use Rattle.abt_session.specs.Sessions.{telling_writes}

pub line_appended : {T : Type 0} {a b : World} {r : Result T Stop} (log : List ℕ) {piece cleared : List ℕ} (made line : List ℕ) → piece ≡ made → made ≡ cleared ++ line → cleared ≡ []
    → Wrote (Append log piece ∷ []) a b r → Wrote (Append log line ∷ []) a b r
line_appended {a = a} {b = b} {r = r} log made line e f g h = subst (λ (t : List ℕ). Wrote (Append log t ∷ []) a b r) (e ∙ f ∙ ap (λ (t : List ℕ). t ++ line) g) h

pub line_put : {T : Type 0} {a b : World} {r : Result T Stop} {piece cleared : List ℕ} (made line : List ℕ) → piece ≡ made → made ≡ cleared ++ line → cleared ≡ []
    → Wrote (Put piece ∷ []) a b r → Wrote (Put line ∷ []) a b r
line_put {a = a} {b = b} {r = r} made line e f g h = subst (λ (t : List ℕ). Wrote (Put t ∷ []) a b r) (e ∙ f ∙ ap (λ (t : List ℕ). t ++ line) g) h

-- a text is put where it is asked for
pub put_where : {T : Type 0} {a b : World} {r : Result T Stop} (asked : Bool) (text : List ℕ) → asked ≡ true → Wrote (Put text ∷ []) a b r → Wrote (map Put (cond asked (text ∷ []) [])) a b r
put_where true text e h = h
put_where false text e h = cc

pub is_asked : (b : Bool) → not b ≡ false → b ≡ true
is_asked true e = refl
is_asked false e = cc

-- both kinds of texts of one delivery
pub both_put : (telling : Telling) (number steps : ℕ) (d : Delivery) → map Put (trace_texts telling number d) ++ map Put (progress_texts telling number steps) ≡ telling_writes telling number steps (d ∷ [])
both_put telling number steps d =
    sym (ap (map Put) (append-nil (delivery_texts telling number steps d)) ∙ map-append Put (trace_texts telling number d) (progress_texts telling number steps))

-- memory is wanted once a script was made
pub made_then_memory : {T U : Type 0} {s : List Write} {a b : World} {x : T} (r : Result U Stop) → OnErr r (r ≡ Err Memory) → Wrote {T = T} s a b (Ok x) → Wrote s a b r
made_then_memory (Ok y) h w = record { ended = w.ended; handed = w.handed }
made_then_memory {s = s} {a = a} {b = b} (Err e) h w = rw h (record { ended = record { start = s; rest = []; is_script = append-nil s; did = w.ended }; handed = w.handed })

-- memory is wanted before anything was made
pub memory_at_once : {T : Type 0} (s : List Write) (a : World) → Wrote {T = T} s a a (Err Memory)
memory_at_once s a = record { ended = record { start = []; rest = s; is_script = refl; did = did_nothing a }; handed = refl }

-- the same stop, told by `?`
pub stopped_so : {T U : Type 0} {s : List Write} {a b : World} {e : Stop} (r : Result U Stop) → IsErr r × IsErrAnd r (λ y. y ≡ e) → Wrote {T = T} s a b (Err e) → Wrote s a b r
stopped_so {T = T} {U = U} {s = s} {a = a} {b = b} {e = e} r is w = subst (λ t. Wrote t a b r) (append-nil s) (stop_wrote {T = T} {U = U} {s = s} {a = a} {b = b} {e = e} [] r is w)

-- memory is wanted before anything was made, told by `?`
pub memory_told : {T : Type 0} (s : List Write) (a : World) (r : Result T Stop) → IsErr r × IsErrAnd r (λ y. y ≡ Memory) → Wrote s a a r
memory_told s a r is = stopped_so {T = Unit {0}} r is (memory_at_once s a)

-- the number of a step that was made
pub numbered : (step : Option Step) {number steps : ℕ} → number ≡ steps → number < 2 ^ 62 → IfSome step (λ s. 0 < steps) → IfSome step (λ s. IsStepNumber number)
numbered None e few h = tt
numbered (Some s) e few h = record { positive = omega arith; bounded = omega arith }

-- a step that was made is counted
pub made_counts : (before : List Step) (step : Option Step) (after : List Step) (steps : ℕ) → after ≡ before ++ option_to_list step → steps ≡ length after → IfSome step (λ s. 0 < steps)
made_counts before None after steps e f = tt
made_counts before (Some s) after steps e f = let g = length-append before (s ∷ []) in let h = ap (λ (l : List Step). length l) e in omega arith

-- an equal script came to the same
pub wrote_as : {T : Type 0} {s t : List Write} {a b : World} {r : Result T Stop} → s ≡ t → Wrote s a b r → Wrote t a b r
wrote_as {a = a} {b = b} {r = r} e w = subst (λ l. Wrote l a b r) e w
