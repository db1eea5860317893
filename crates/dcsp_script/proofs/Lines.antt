-- Straight lines of code: what each call and each `?` adds to a script.
use Rattle.std.proofs.Common.{◌≡◌, List, [], ◌∷◌, ◌++◌, Result, Ok, Err, refl, ◌∙◌}
use Rattle.std.specs.Prelude.{IsErr, IsErrAnd}
use Rattle.dcsp_script.specs.declared.stop.Stop.{Stop}
use Rattle.dcsp_script.specs.Scripts.{Write, World}
use Rattle.dcsp_script.specs.Ways.{Wrote}
use Rattle.dcsp_script.proofs.Ways.{did_nothing, then_ended, stop_wrote}

-- nothing was to be made
pub wrote_nothing : {T : Type 0} {a : World} {x : T} → Wrote [] a a (Ok x)
wrote_nothing {a = a} = record { ended = did_nothing a; handed = refl }

-- one write, and then the rest
pub first_wrote : {T U : Type 0} {w : Write} {t : List Write} {a b c : World} {x : T} {r : Result U Stop} → Wrote {T = T} (w ∷ []) a b (Ok x) → Wrote t b c r → Wrote (w ∷ t) a c r
first_wrote {w = w} {t = t} {a = a} {b = b} {c = c} {r = r} p q = record { ended = then_ended (w ∷ []) t a b c r p.ended q.ended; handed = q.handed ∙ p.handed }

-- one write was stopped, and so the rest was
pub first_stopped : {T U : Type 0} {w : Write} {t : List Write} {a b : World} {e : Stop} {r : Result U Stop} → IsErr r × IsErrAnd r (λ y. y ≡ e) → Wrote {T = T} (w ∷ []) a b (Err e) → Wrote (w ∷ t) a b r
first_stopped {T = T} {w = w} {t = t} {r = r} is p = stop_wrote {T = T} {s = w ∷ []} t r is p

-- a script, and then the rest
pub then_rest : {T U : Type 0} {s t : List Write} {a b c : World} {x : T} {r : Result U Stop} → Wrote {T = T} s a b (Ok x) → Wrote t b c r → Wrote (s ++ t) a c r
then_rest {s = s} {t = t} {a = a} {b = b} {c = c} {r = r} p q = record { ended = then_ended s t a b c r p.ended q.ended; handed = q.handed ∙ p.handed }

-- a script was stopped, and so the rest was
pub then_stopped : {T U : Type 0} {s : List Write} (t : List Write) {a b : World} {e : Stop} {r : Result U Stop} → IsErr r × IsErrAnd r (λ y. y ≡ e) → Wrote {T = T} s a b (Err e) → Wrote (s ++ t) a b r
then_stopped {T = T} {s = s} t {r = r} is p = stop_wrote {T = T} {s = s} t r is p
