-- Each message in transit can be taken.
use Rattle.std.proofs.Common.{◌≡◌, ℕ, suc, ◌+◌, ◌-◌, ◌<◌, ◌≤◌, Bool, true, false, inl, inr, List, [], ◌∷◌, length, Some, refl, sym, ap, ◌∙◌, arith}
use Rattle.std.specs.Prelude.{slice_get}
use Rattle.std.specs.Option.{option_map}
use Rattle.dcsp_defs.specs.declared.nogood.Pair.{Pair}
use Rattle.dcsp_defs.specs.Pairs.{pair_of}
use Rattle.dcsp_defs.specs.Words.{In, IsRising}
use Rattle.dcsp_defs.specs.Csp.{Csp, Nogood, names, count}
use Rattle.abt_defs.specs.Agents.{Message, Tell, Refuse, AddLink, plain}
use Rattle.abt_defs.specs.Network.{Network, run, start}
use Rattle.law_agent.specs.OneAgent.{Proper}
use Rattle.law_agent.proofs.Nogoods.{value_at-In}
use Rattle.law_agent.proofs.Facts.{asks, bit, Kept}
use Rattle.law_agent.proofs.StepRuns.{AllRooted, rights}
use Rattle.law_runs.specs.Sizes.{Sizes}
use Rattle.law_runs.proofs.SizeRuns.{sizes_hold}
use Rattle.law_runs.specs.Deliverable.{HasLowest, IsDeliverable, Deliverable, AllDeliverable}
use Rattle.law_runs.proofs.Joins.{tells_lower}

-- ---- the lowest variable of a nogood for an agent is the agent

last_is : (pairs : Nogood) (i : ℕ) (y : Pair) → IsRising (names pairs) → In y pairs → y.var ≡ i → ((z : Pair) → In z pairs → z.var ≤ i) → HasLowest pairs i
last_is [] i y rising h e others = absurd h
last_is (x ∷ []) i y rising (inl same) e others = ap Some (sym (ap (λ (z : Pair). z.var) same) ∙ e)
last_is (x ∷ []) i y rising (inr h) e others = absurd h
last_is (x ∷ z ∷ zs) i y rising (inl same) e others =
    let v : y.var ≡ x.var = ap (λ (w : Pair). w.var) same in
    let a = rising.0 z.var (inl refl) in
    let b = others z (inr (inl refl)) in
    absurd (omega arith)
last_is (x ∷ z ∷ zs) i y rising (inr h) e others =
    let shift : suc (suc (length zs)) - 1 ≡ suc (suc (length zs) - 1) = omega arith in
    ap (λ k. option_map (λ (w : Pair). w.var) (slice_get (x ∷ z ∷ zs) k)) shift ∙ last_is (z ∷ zs) i y rising.1 h e (λ w u. others w (inr u))

lowest_is : (p : Csp) (i : ℕ) (pairs : Nogood) → Proper p i pairs → HasLowest pairs i
lowest_is p i pairs h = last_is pairs i (pair_of i h.own) h.rising (value_at-In pairs i h.own h.has) refl h.others

-- ---- messages

-- a list with a link request
asked_by : (ms : List Message) → In AddLink ms → 0 < asks ms
asked_by [] h = absurd h
asked_by (Tell s ∷ ms) (inl e) = cc
asked_by (Tell s ∷ ms) (inr h) = asked_by ms h
asked_by (Refuse step pairs ∷ ms) (inl e) = cc
asked_by (Refuse step pairs ∷ ms) (inr h) = asked_by ms h
asked_by (AddLink ∷ ms) h = omega arith

bit_of : (x : ℕ) (b : Bool) (n : ℕ) → n + x ≡ bit b → 0 < n → b ≡ true
bit_of x true n e h = refl
bit_of x false n e h = absurd (omega arith)

module _ (p : Csp) (net : Network) (h : Kept p (count p) net) (r : AllRooted p net) where
  message : (from to : ℕ) (m : Message) → In m (net.links from to) → IsDeliverable p net.steps from to m
  message from to (Tell s) u = record {
    higher = tells_lower p (count p) net h from to (h.tells_first from to s u);
    value_in = (h.fine from to (Tell s) u).1;
    stamped = (h.dated from to (Tell s) u).positive;
  }
  message from to (Refuse number pairs) u =
      let proper = h.fine from to (Refuse number pairs) u in
      let source = r.links from to (Refuse number pairs) u in
      record {
        lowest = lowest_is p to (plain pairs) proper;
        values = λ y v. (proper.in_domains y v).value;
        stamped = λ y v. (h.dated from to (Refuse number pairs) u y v).positive;
        of_step = (source.step, source.there, source.same);
      }
  message from to AddLink u = record {
    lower = (h.sound from).higher to (bit_of (bit ((net.agents to).tells from)) ((net.agents from).linked to) (asks (net.links from to)) (h.asked from to) (asked_by (net.links from to) u));
    exists = h.fine from to AddLink u;
  }

  takes : Sizes p net → net.refuted ≡ false → Deliverable p net
  takes s f = record {
    messages = message;
    stamps = λ i l. let v = s.values f i l in (h.sound i).stamped v.0 v.1;
    views = λ i k t e. (h.dated_views i k t e).positive;
    recorded = λ i x u. let source = r.agents i x u in (source.step, source.there, source.same);
  }

pub all_deliverable : (p : Csp) → AllDeliverable p
all_deliverable p ok cs f =
    let right = rights p ok cs in
    takes p (run p cs (start p)) (right.kept f) (right.rooted f) (sizes_hold p ok cs) f
