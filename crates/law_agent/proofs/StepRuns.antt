-- Each recorded nogood is that of its step, and each step is right.
use Rattle.std.proofs.Common.{◌≡◌, ℕ, zero, suc, ◌+◌, ◌<◌, ◌≤◌, Bool, true, false, cond, not, ◌&&◌, inl, inr, List, [], ◌∷◌, ◌++◌, find, length, slice_get, ◌==◌, nat_lt, Option, Some, None, ℤ, pos, refl, sym, ap, ◌∙◌, subst, arith, append-nil, option_to_list, ◌%◌, add-one, zero-add}
use Rattle.std.proofs.lemmas.Bool.Decides.{eqb_tells}
use Rattle.std.specs.List.{enumerate_from}
use Rattle.dcsp_common.proofs.Items.{get_front}
use Rattle.dcsp_defs.specs.Words.{In, below}
use Rattle.dcsp_defs.specs.Csp.{Csp, Constraint, Nogood, domain, count, IsCsp}
use Rattle.dcsp_defs.specs.declared.Step.{Step}
use Rattle.dcsp_defs.specs.Derivation.{step_at, IsDerivation}
use Rattle.abt_defs.specs.Agents.{Agent, Message, Tell, Refuse, AddLink, Record, StampedNogood, plain, lowest, known}
use Rattle.abt_defs.specs.Reasons.{ruled_out, derived, step_of}
use Rattle.abt_defs.specs.Steps.{Outcome, stay, to_each, is_free, choice, refuse, take_or_refuse, settle, is_newer, learn, learn_all, is_news, is_named, unlinked, ask, heed, first_sent, own_value, receive}
use Rattle.abt_defs.specs.Network.{Network, sent_to, acted, left, next_number, deliver_head, deliver_at, deliver, ready, run, start, start_by, empty_network, settle_below, is_empty, is_false, pairs}
use Rattle.dcsp_defs.proofs.Derivations.{no_steps, derivation_push}
use Rattle.dcsp_defs.proofs.Lists.{find-found, In-split, In-below, and_left, and_right, get-In, get-last, filter-from}
use Rattle.law_agent.proofs.Sent.{In-cond, sent_to-each, sent_to-append}
use Rattle.law_agent.proofs.Facts.{Fine, Sound, Kept}
use Rattle.law_agent.proofs.Learns.{learns_one, learns_all, keeps}
use Rattle.law_agent.proofs.Receives.{announced, heeded, IsExpected}
use Rattle.law_agent.proofs.Runs.{delivered, expected, settled_below, In-pairs}
use Rattle.law_agent.specs.StepsRight.{StepsRight}
use Rattle.law_agent.specs.OneAgentSteps.{IsRightIfMade}
use Rattle.law_agent.proofs.Reasons.{Source, step_right, enumerate-at}

-- each nogood that the agent has recorded is that of its step
abbrev pub Rooted : List Step → Agent → Type 0
Rooted steps a = (x : Record) → In x a.recorded → Source steps x.step x.pairs

-- and the one in a message
abbrev pub IsRooted : List Step → Message → Type 0
IsRooted steps (Tell s) = Unit {0}
IsRooted steps (Refuse number pairs) = Source steps number (plain pairs)
IsRooted steps AddLink = Unit {0}

pub record AllRooted (p : Csp) (net : Network) : Type 0 where
  pub agents : (i : ℕ) → Rooted net.steps (net.agents i)
  pub links : (k j : ℕ) (m : Message) → In m (net.links k j) → IsRooted net.steps m

-- ---- more steps

step_at-more : (steps more : List Step) (n : ℕ) (s : Step) → step_at steps n ≡ Some s → step_at (steps ++ more) n ≡ Some s
step_at-more steps more zero s h = cc
step_at-more steps more (suc n) s h = get_front steps more n s h

Source-more : (steps more : List Step) (n : ℕ) (pairs : Nogood) → Source steps n pairs → Source (steps ++ more) n pairs
Source-more steps more n pairs h = record { step = h.step; there = step_at-more steps more n h.step h.there; same = h.same }

Rooted-more : (steps more : List Step) (a : Agent) → Rooted steps a → Rooted (steps ++ more) a
Rooted-more steps more a h = λ x u. Source-more steps more x.step x.pairs (h x u)

IsRooted-more : (steps more : List Step) (m : Message) → IsRooted steps m → IsRooted (steps ++ more) m
IsRooted-more steps more (Tell s) h = tt
IsRooted-more steps more (Refuse number pairs) h = Source-more steps more number (plain pairs) h
IsRooted-more steps more AddLink h = tt

-- ---- one agent

-- what an outcome leaves, after these steps
pub record Grown (p : Csp) (steps : List Step) (o : Outcome) : Type 0 where
  pub agent : Rooted (steps ++ option_to_list o.step) o.agent
  pub sent : (j : ℕ) (m : Message) → In m (sent_to j o.sent) → IsRooted (steps ++ option_to_list o.step) m
  pub right : IsRightIfMade p steps o.step

-- the value to take is none only where each value is ruled out
choice_none : (p : Csp) (i : ℕ) (a : Agent) → choice p i a ≡ None → find (λ v. not (ruled_out p i (known a) a.recorded v)) (domain p i) ≡ None
choice_none p i a e = own (is_free p i a a.value) refl e
  where
    has_none : (o : Option ℤ) → is_free p i a o ≡ true → o ≡ None → find (λ v. not (ruled_out p i (known a) a.recorded v)) (domain p i) ≡ None
    has_none None f g = cc
    has_none (Some v) f g = cc

    own : (b : Bool) → is_free p i a a.value ≡ b → cond b a.value (find (λ v. not (ruled_out p i (known a) a.recorded v)) (domain p i)) ≡ None → find (λ v. not (ruled_out p i (known a) a.recorded v)) (domain p i) ≡ None
    own true f g = has_none a.value f g
    own false f g = g

module _ (p : Csp) (ok : IsCsp p) (steps : List Step) (i : ℕ) (l : i < count p) where
  stays : (a : Agent) → Rooted steps a → Grown p steps (stay a)
  stays a r = record { agent = Rooted-more steps [] a r; sent = λ j m u. absurd u; right = tt }

  pub settled : (a : Agent) → Sound p i a → Rooted steps a → Grown p steps (settle p i (length steps + 1) a)
  settled a h r =
      elim (not a.waits && is_free p i a a.value) as (λ b. Grown p steps (cond b (stay a) (take_or_refuse p i (length steps + 1) a (choice p i a)))) [
        | true ↦ stays a r
        | false ↦ taken (choice p i a) refl
      ]
    where
      of_step : (d : StampedNogood) → derived p i a.view a.recorded ≡ d → choice p i a ≡ None → Grown p steps (refuse (length steps + 1) a (step_of p i a.view a.recorded) d)
      of_step [] e n = record {
        agent = Rooted-more steps _ a r;
        sent = λ j m u. absurd u;
        right = step_right p ok steps i a h r l (choice_none p i a n);
      }
      of_step (first ∷ rest) e n = record {
        agent = λ x u. Source-more steps _ x.step x.pairs (r x u);
        sent = λ j m u. subst (IsRooted (steps ++ step_of p i a.view a.recorded ∷ [])) (sym (In-cond (lowest first rest == j) m (Refuse (length steps + 1) (first ∷ rest)) u))
            (record { step = step_of p i a.view a.recorded; there = (rw add-one (get-last steps (step_of p i a.view a.recorded))); same = ap plain e });
        right = step_right p ok steps i a h r l (choice_none p i a n);
      }

      taken : (o : Option ℤ) → choice p i a ≡ o → Grown p steps (take_or_refuse p i (length steps + 1) a o)
      taken None e = of_step (derived p i a.view a.recorded) refl e
      taken (Some v) e = record {
        agent = λ x u. Source-more steps [] x.step x.pairs (r x u);
        sent = λ j m. rw (sent_to-each (Tell (record { value = v; stamp = a.stamp + 1 })) a.tells j (count p)) (λ u. subst (IsRooted (steps ++ [])) (sym (In-cond (nat_lt j (count p) && a.tells j) m (Tell (record { value = v; stamp = a.stamp + 1 })) u)) tt);
        right = tt;
      }

  pub received : (a : Agent) (k : ℕ) (m : Message) → (h : Sound p i a) → Rooted steps a → Fine p k i m → IsExpected p i a h l k m → IsRooted steps m → Grown p steps (receive p i (length steps + 1) a k m)
  received a k (Tell s) h r f n g =
      elim (is_newer (a.view k) s.stamp) as (λ b. Grown p steps (cond b (settle p i (length steps + 1) (learn k s a)) (stay a))) [
        | true ↦ settled (learn k s a) (announced p i a h l k s n f).sound (λ x u. r x ((learns_one i k s a n).recorded x u))
        | false ↦ stays a r
      ]
  received a k (Refuse number pairs) h r f n g =
      elim (a.waits && not (is_news i pairs a)) as (λ b. Grown p steps (first_sent (to_each AddLink (unlinked i (plain pairs) a)) (cond b (stay (heed i number pairs a)) (settle p i (length steps + 1) (heed i number pairs a))))) [
        | true ↦ asks_first (stay (heed i number pairs a)) (stays (heed i number pairs a) rooted)
        | false ↦ asks_first (settle p i (length steps + 1) (heed i number pairs a)) (settled (heed i number pairs a) (heeded p i a h l k number pairs f).sound rooted)
      ]
    where
      rooted : Rooted steps (heed i number pairs a)
      rooted x u = elim ((keeps i (record { step = number; pairs = plain pairs }) (learn_all i pairs (ask i (plain pairs) a))).recorded x u) [
        | inl v ↦ r x ((learns_all i pairs (ask i (plain pairs) a)).recorded x v)
        | inr e ↦ subst (λ (z : Record). Source steps z.step z.pairs) (sym e) g
      ]

      asks_first : (o : Outcome) → Grown p steps o → Grown p steps (first_sent (to_each AddLink (unlinked i (plain pairs) a)) o)
      asks_first o x = record {
        agent = x.agent;
        sent = λ j m u. elim (In-split m (sent_to j (to_each AddLink (unlinked i (plain pairs) a))) (sent_to j o.sent) (subst (In m) (sent_to-append j (to_each AddLink (unlinked i (plain pairs) a)) o.sent) u)) [
          | inl v ↦ subst (IsRooted (steps ++ option_to_list o.step)) (sym (In-cond _ m AddLink (rw (sent_to-each AddLink (λ k. is_named k (plain pairs) && not (a.linked k)) j i) at v))) tt
          | inr v ↦ x.sent j m v
        ];
        right = x.right;
      }
  received a k AddLink h r f n g = record {
    agent = λ x u. Source-more steps [] x.step x.pairs (r x u);
    sent = λ j m u. told (a.value) j m u;
    right = tt;
  }
    where
      told : (o : Option ℤ) → (j : ℕ) (m : Message) → In m (sent_to j (own_value k a o)) → IsRooted (steps ++ []) m
      told None j m u = absurd u
      told (Some v) j m u = subst (IsRooted (steps ++ [])) (sym (In-cond (k == j) m (Tell (record { value = v; stamp = a.stamp })) u)) tt

-- ---- the network

-- the steps so far are right
pub record Right (p : Csp) (net : Network) : Type 0 where
  pub right : IsDerivation p net.steps
  pub kept : net.refuted ≡ false → Kept p (count p) net
  pub rooted : net.refuted ≡ false → AllRooted p net

right-more : (p : Csp) (steps : List Step) (o : Option Step) → IsDerivation p steps → IsRightIfMade p steps o → IsDerivation p (steps ++ option_to_list o)
right-more p steps None h r = subst (IsDerivation p) (sym (append-nil steps)) h
right-more p steps (Some s) h r = derivation_push p steps s h r

grown : (p : Csp) (i : ℕ) (net : Network) (links : ℕ → ℕ → List Message) (d : ℕ) (o : Outcome) → ((k j : ℕ) (m : Message) → In m (links k j) → IsRooted net.steps m) → AllRooted p net → Grown p net.steps o → AllRooted p (acted i o (record net { links = links; deliveries = d }))
grown p i net links d o g h x = record {
  agents = λ j. elim (j == i) as (λ b. Rooted (net.steps ++ option_to_list o.step) (cond b o.agent (net.agents j))) [ true ↦ x.agent | false ↦ Rooted-more net.steps _ (net.agents j) (h.agents j) ];
  links = λ k j m. elim (eqb_tells k i) [
    | inl t ↦ rw t.0 (λ u. elim (In-split m (links k j) (sent_to j o.sent) u) [
      | inl v ↦ IsRooted-more net.steps _ m (g k j m v)
      | inr v ↦ x.sent j m v
    ])
    | inr t ↦ rw t.0 (λ u. IsRooted-more net.steps _ m (g k j m u))
  ];
}

right_head : (p : Csp) (ok : IsCsp p) (net : Network) (k i : ℕ) (ms : List Message) → i < count p → net.refuted ≡ false → Right p net → net.links k i ≡ ms → Right p (deliver_head p k i ms net)
right_head p ok net k i [] l f h e = h
right_head p ok net k i (m ∷ rest) l f h e =
    let kept = h.kept f in
    let rooted = h.rooted f in
    let x = received p ok net.steps i l (net.agents i) k m (kept.sound i) (rooted.agents i) (kept.fine k i m (subst (In m) (sym e) (inl refl))) (expected p (count p) net k i m rest (kept.sound i) l kept e) (rooted.links k i m (subst (In m) (sym e) (inl refl))) in
    record {
      right = right-more p net.steps _ h.right x.right;
      kept = λ r. delivered p net k i (m ∷ rest) l kept e (inl r);
      rooted = λ r. grown p i net (left k i rest net).links (left k i rest net).deliveries (receive p i (next_number net) (net.agents i) k m) (in_rest rooted) rooted x;
    }
  where
    in_rest : AllRooted p net → (y j : ℕ) (z : Message) → In z ((left k i rest net).links y j) → IsRooted net.steps z
    in_rest rooted y j z = elim (eqb_tells y k) [
      | inl t ↦ rw t.0 (elim (eqb_tells j i) [
        | inl u ↦ rw u.0 (λ v. rooted.links k i z (subst (In z) (sym e) (inr v)))
        | inr u ↦ rw u.0 (λ v. rooted.links k j z v)
      ])
      | inr t ↦ rw t.0 (λ v. rooted.links y j z v)
    ]

right_at : (p : Csp) (ok : IsCsp p) (net : Network) (o : Option (ℕ × ℕ)) → ((x : ℕ × ℕ) → o ≡ Some x → x.1 < count p) → net.refuted ≡ false → Right p net → Right p (deliver_at p o net)
right_at p ok net None l f h = h
right_at p ok net (Some x) l f h = right_head p ok net x.0 x.1 (net.links x.0 x.1) (l x refl) f h refl

right_on : (p : Csp) (ok : IsCsp p) (c : ℕ) (net : Network) → net.refuted ≡ false → Right p net → Right p (deliver p c net)
right_on p ok c net f h = right_at p ok net (slice_get (ready p net) (c % length (ready p net))) inside f h
  where
    inside : (x : ℕ × ℕ) → slice_get (ready p net) (c % length (ready p net)) ≡ Some x → x.1 < count p
    inside x e = In-below (count p) x.1 (In-pairs (count p) x (below (count p)) (filter-from _ x (pairs (count p)) (get-In (ready p net) _ x e)).0).0

right_run : (p : Csp) (ok : IsCsp p) (cs : List ℕ) (net : Network) → Right p net → Right p (run p cs net)
right_run p ok [] net h = h
right_run p ok (c ∷ cs) net h = (elim net.refuted as (λ b. net.refuted ≡ b → Right p (cond b net (run p cs (deliver p c net)))) [
  | true ↦ λ e. h
  | false ↦ λ e. right_run p ok cs (deliver p c net) (right_on p ok c net e h)
]) refl

-- during the start
pub record Begun (p : Csp) (net : Network) : Type 0 where
  pub right : IsDerivation p net.steps
  pub rooted : net.refuted ≡ false → AllRooted p net

begun : (p : Csp) → IsCsp p → (n : ℕ) → n ≤ count p → Begun p (settle_below p n (empty_network p))
begun p ok zero l = record { right = no_steps p; rooted = λ f. record { agents = λ i x u. absurd u; links = λ k j m u. absurd u } }
begun p ok (suc i) l =
    let net = settle_below p i (empty_network p) in
    let b = begun p ok i (omega arith) in
    (elim net.refuted as (λ c. net.refuted ≡ c → Begun p (cond c net (acted i (settle p i (next_number net) (net.agents i)) net))) [
      | true ↦ λ e. b
      | false ↦ λ e.
          let h = settled_below p ok i (omega arith) e in
          let r = b.rooted e in
          let x = settled p ok net.steps i (omega arith) (net.agents i) (h.sound i) (r.agents i) in
          record {
            right = right-more p net.steps _ b.right x.right;
            rooted = λ f. grown p i net net.links net.deliveries (settle p i (next_number net) (net.agents i)) r.links r x;
          }
    ]) refl

right_start_by : (p : Csp) → IsCsp p → (o : Option (ℕ × Constraint)) → find (λ (x : ℕ × Constraint). is_false x.1) (enumerate_from 0 p.constraints) ≡ o → Right p (start_by p o)
right_start_by p ok None e =
    let b = begun p ok (count p) (omega arith) in
    record { right = b.right; kept = λ f. settled_below p ok (count p) (omega arith) f; rooted = b.rooted }
right_start_by p ok (Some x) e =
    let f = find-found (λ (x : ℕ × Constraint). is_false x.1) x (enumerate_from 0 p.constraints) e in
    let q = enumerate-at 0 p.constraints x f.0 in
    record {
      right = right-more p [] (Some _) (no_steps p) (record {
        nogood = refl;
        number = x.0;
        reasons = refl;
        alone = record {
          constraint = x.1;
          there = ap (slice_get p.constraints) (q.1 ∙ zero-add q.0) ∙ q.2;
          scope = empty x.1.scope (and_left _ _ f.1);
          violated = out (x.1.test (λ k. pos 0)) (and_right _ _ f.1);
        };
      });
      kept = λ f. cc;
      rooted = λ f. cc;
    }
  where
    empty : (xs : List ℕ) → is_empty xs ≡ true → xs ≡ []
    empty [] h = refl
    empty (y ∷ ys) h = cc

    out : (b : Bool) → not b ≡ true → b ≡ false
    out true h = cc
    out false h = refl

-- the right steps so far, whatever the choices were
pub rights : (p : Csp) → IsCsp p → (cs : List ℕ) → Right p (run p cs (start p))
rights p ok cs = right_run p ok cs (start p) (right_start_by p ok (find (λ (x : ℕ × Constraint). is_false x.1) (enumerate_from 0 p.constraints)) refl)

pub steps_right : (p : Csp) → StepsRight p
steps_right p ok cs = (rights p ok cs).right
