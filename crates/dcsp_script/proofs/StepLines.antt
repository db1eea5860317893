-- A piece that is written is the line that it was made of.
use Rattle.std.proofs.Common.{◌≡◌, ℕ, List, [], ◌∷◌, Result, Err, refl, subst, append-nil}
use Rattle.std.specs.Prelude.{IsErr, IsErrAnd}
use Rattle.dcsp_script.specs.declared.stop.Stop.{Stop}
use Rattle.dcsp_script.specs.declared.stop.Stop.TheVariants.{Memory}
use Rattle.dcsp_script.specs.Scripts.{Write, Append, World}
use Rattle.dcsp_script.specs.Ways.{Wrote}
use Rattle.dcsp_script.proofs.Ways.{did_nothing, stop_wrote}

pub line_appended : {T : Type 0} {a b : World} {r : Result T Stop} (log : List ℕ) {piece line : List ℕ} → piece ≡ line → Wrote (Append log piece ∷ []) a b r → Wrote (Append log line ∷ []) a b r
line_appended {a = a} {b = b} {r = r} log e w = subst (λ (t : List ℕ). Wrote (Append log t ∷ []) a b r) e w

-- memory is wanted before anything was made
pub memory_at_once : {T : Type 0} (s : List Write) (a : World) → Wrote {T = T} s a a (Err Memory)
memory_at_once s a = record { ended = record { start = []; rest = s; is_script = refl; did = did_nothing a }; handed = refl }

-- the same stop, told by `?`
pub stopped_so : {T U : Type 0} {s : List Write} {a b : World} {e : Stop} (r : Result U Stop) → IsErr r × IsErrAnd r (λ y. y ≡ e) → Wrote {T = T} s a b (Err e) → Wrote s a b r
stopped_so {T = T} {U = U} {s = s} {a = a} {b = b} {e = e} r is w = subst (λ t. Wrote t a b r) (append-nil s) (stop_wrote {T = T} {U = U} {s = s} {a = a} {b = b} {e = e} [] r is w)

-- memory is wanted before anything was made, told by `?`
pub memory_told : {T : Type 0} (s : List Write) (a : World) (r : Result T Stop) → IsErr r × IsErrAnd r (λ y. y ≡ Memory) → Wrote s a a r
memory_told s a r is = stopped_so {T = Unit {0}} r is (memory_at_once s a)
