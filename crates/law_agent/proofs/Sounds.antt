-- Each agent stays sound, also where the run is refuted.
use Rattle.std.proofs.Common.{◌≡◌, ℕ, zero, suc, ◌<◌, ◌≤◌, ◌%◌, true, false, cond, inl, inr, List, [], ◌∷◌, find, length, slice_get, Option, Some, None, refl, sym, subst, arith}
use Rattle.std.proofs.lemmas.Bool.Decides.{eqb_tells}
use Rattle.std.specs.List.{enumerate_from}
use Rattle.dcsp_defs.specs.Words.{In, below}
use Rattle.dcsp_defs.specs.Csp.{Csp, Constraint, count, IsCsp}
use Rattle.abt_defs.specs.Agents.{Message}
use Rattle.abt_defs.specs.Steps.{Outcome, settle, receive}
use Rattle.abt_defs.specs.Network.{Network, acted, left, next_number, deliver_head, deliver_at, deliver, ready, run, start, start_by, empty_network, settle_below, is_false, pairs}
use Rattle.dcsp_defs.proofs.Lists.{In-below, get-In, filter-from}
use Rattle.law_agent.specs.OneAgent.{Sound}
use Rattle.law_agent.proofs.Facts.{Kept}
use Rattle.law_agent.proofs.Settles.{settles}
use Rattle.law_agent.proofs.Receives.{received_sound}
use Rattle.law_agent.proofs.Runs.{delivered, expected, settled_below, start_kept, In-pairs}

-- what holds of each network that a run reaches
pub record Sounds (p : Csp) (net : Network) : Type 0 where
  pub kept : net.refuted ≡ false → Kept p (count p) net
  pub sound : (i : ℕ) → Sound p i (net.agents i)

sound_act : (p : Csp) (i : ℕ) (o : Outcome) (net : Network) → ((j : ℕ) → Sound p j (net.agents j)) → Sound p i o.agent → (j : ℕ) → Sound p j ((acted i o net).agents j)
sound_act p i o net h s j = elim (eqb_tells j i) [
  | inl t ↦ rw t.0 (subst (λ (x : ℕ). Sound p x o.agent) (sym t.1) s)
  | inr t ↦ rw t.0 (h j)
]

sounds_head : (p : Csp) (net : Network) (k i : ℕ) (ms : List Message) → i < count p → net.refuted ≡ false → Sounds p net → net.links k i ≡ ms → Sounds p (deliver_head p k i ms net)
sounds_head p net k i [] l f h e = h
sounds_head p net k i (m ∷ rest) l f h e =
    let kept = h.kept f in
    record {
      kept = λ r. delivered p net k i (m ∷ rest) l kept e (inl r);
      sound = sound_act p i (receive p i (next_number net) (net.agents i) k m) (left k i rest net) h.sound
          (received_sound p i (net.agents i) (kept.sound i) l k (next_number net) m (kept.fine k i m (subst (In m) (sym e) (inl refl))) (expected p (count p) net k i m rest (kept.sound i) l kept e));
    }

sounds_at : (p : Csp) (net : Network) (o : Option (ℕ × ℕ)) → ((x : ℕ × ℕ) → o ≡ Some x → x.1 < count p) → net.refuted ≡ false → Sounds p net → Sounds p (deliver_at p o net)
sounds_at p net None l f h = h
sounds_at p net (Some x) l f h = sounds_head p net x.0 x.1 (net.links x.0 x.1) (l x refl) f h refl

sounds_on : (p : Csp) (c : ℕ) (net : Network) → net.refuted ≡ false → Sounds p net → Sounds p (deliver p c net)
sounds_on p c net f h = sounds_at p net (slice_get (ready p net) (c % length (ready p net))) inside f h
  where
    inside : (x : ℕ × ℕ) → slice_get (ready p net) (c % length (ready p net)) ≡ Some x → x.1 < count p
    inside x e = In-below (count p) x.1 (In-pairs (count p) x (below (count p)) (filter-from _ x (pairs (count p)) (get-In (ready p net) _ x e)).0).0

sounds_run : (p : Csp) (cs : List ℕ) (net : Network) → Sounds p net → Sounds p (run p cs net)
sounds_run p [] net h = h
sounds_run p (c ∷ cs) net h = (elim net.refuted as (λ b. net.refuted ≡ b → Sounds p (cond b net (run p cs (deliver p c net)))) [
  | true ↦ λ e. h
  | false ↦ λ e. sounds_run p cs (deliver p c net) (sounds_on p c net e h)
]) refl

sound_below : (p : Csp) → IsCsp p → (n : ℕ) → n ≤ count p → (j : ℕ) → Sound p j ((settle_below p n (empty_network p)).agents j)
sound_below p ok zero l j = (start_kept p ok).sound j
sound_below p ok (suc i) l j =
    let net = settle_below p i (empty_network p) in
    elim net.refuted as (λ b. Sound p j ((cond b net (acted i (settle p i (next_number net) (net.agents i)) net)).agents j)) [
      | true ↦ sound_below p ok i (omega arith) j
      | false ↦ sound_act p i (settle p i (next_number net) (net.agents i)) net (sound_below p ok i (omega arith))
          (settles p i (omega arith) (net.agents i) (sound_below p ok i (omega arith) i) (next_number net)).sound j
    ]

sounds_start : (p : Csp) → IsCsp p → (o : Option (ℕ × Constraint)) → Sounds p (start_by p o)
sounds_start p ok None = record { kept = λ f. settled_below p ok (count p) (omega arith) f; sound = sound_below p ok (count p) (omega arith) }
sounds_start p ok (Some x) = record { kept = λ f. cc; sound = (start_kept p ok).sound }

-- whatever the choices were
pub sounds : (p : Csp) → IsCsp p → (cs : List ℕ) → Sounds p (run p cs (start p))
sounds p ok cs = sounds_run p cs (start p) (sounds_start p ok (find (λ (x : ℕ × Constraint). is_false x.1) (enumerate_from 0 p.constraints)))
