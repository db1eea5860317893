-- Rows and kinds.
use Rattle.std.proofs.Common.{◌≡◌, ◌∙◌, ℕ, ap, arith}
use Rattle.abt_defs.specs.Measures as measures
use Rattle.abt_measure.specs.Rows.{no_kinds, more_kinds}

pub same_kinds : (a b : measures.Kinds) → a.ok ≡ b.ok → a.nogood ≡ b.nogood → a.link ≡ b.link → a ≡ b
same_kinds a b e f g =
    let mk = λ (x y z : ℕ). (let k : measures.Kinds = record { ok = x; nogood = y; link = z } in k) in
    let one : mk a.ok a.nogood a.link ≡ mk b.ok a.nogood a.link = ap (λ x. mk x a.nogood a.link) e in
    let two : mk b.ok a.nogood a.link ≡ mk b.ok b.nogood a.link = ap (λ y. mk b.ok y a.link) f in
    let three : mk b.ok b.nogood a.link ≡ mk b.ok b.nogood b.link = ap (mk b.ok b.nogood) g in
    one ∙ two ∙ three

pub kinds_assoc : (a b c : measures.Kinds) → more_kinds (more_kinds a b) c ≡ more_kinds a (more_kinds b c)
kinds_assoc a b c = same_kinds _ _ (omega arith) (omega arith) (omega arith)

pub kinds_none : (a : measures.Kinds) → more_kinds a no_kinds ≡ a
kinds_none a = same_kinds _ _ (omega arith) (omega arith) (omega arith)
