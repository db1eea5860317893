-- What an agent puts out, and the agents after it has acted.
use Rattle.std.proofs.Common.{◌≡◌, ◌≢◌, ℕ, zero, suc, ◌<◌, List, [], ◌∷◌, ◌++◌, length, get_or, false, sym, ◌∙◌, ap, subst, inl, inr, arith, refl}
use Rattle.std.specs.Prelude.{All}
use Rattle.std.proofs.lemmas.Bool.{cases_eq}
use Rattle.dcsp_defs.specs.Words.{In}
use Rattle.abt_defs.specs.Agents as machine
use Rattle.dcsp_rule.specs.Problems.{Contents}
use Rattle.abt_parts.specs.declared.message.Sent.{Sent}
use Rattle.abt_parts.specs.Messages.{messages_of, sent_of}
use Rattle.abt_parts.specs.Outgoing.{IsStamped, Posts}
use Rattle.abt_agent.specs.States.{State, IsFresh}
use Rattle.abt_network.specs.Standing.{state_at}
use Rattle.abt_network.specs.Bodies.{IsSeated}

-- ---- an outbox that was empty

all_new : (out went : List Sent) (sent : List (ℕ × machine.Message)) (h : Posts out went sent) → out ≡ [] → went ≡ h.new
all_new out went sent h none = h.kept ∙ ap (λ z. z ++ h.new) none

pub went_is : (out went : List Sent) (sent : List (ℕ × machine.Message)) → Posts out went sent → out ≡ [] → messages_of went ≡ sent
went_is out went sent h none = ap messages_of (all_new out went sent h none) ∙ h.meaning

pub went_stamped : (out went : List Sent) (sent : List (ℕ × machine.Message)) → Posts out went sent → out ≡ [] → All (λ (x : Sent). IsStamped x.message) went
went_stamped out went sent h none = subst (λ (l : List Sent). All (λ (x : Sent). IsStamped x.message) l) (sym (all_new out went sent h none)) h.stamped

In-went : (went : List Sent) (k : ℕ) (d : Sent) → k < length went → In (sent_of (get_or went k d)) (messages_of went)
In-went [] k d h = absurd (omega arith)
In-went (x ∷ xs) zero d h = inl refl
In-went (x ∷ xs) (suc k) d h = inr (In-went xs k d (omega arith))

pub receivers_exist : (out went : List Sent) (sent : List (ℕ × machine.Message)) (n m : ℕ) → Posts out went sent → out ≡ [] → ((x : ℕ × machine.Message) → In x sent → x.0 < n) → n ≡ m → All (λ (x : Sent). x.to < m) went
receivers_exist out went sent n m h none inside e k d l =
    let q = inside (sent_of (get_or went k d)) (subst (In (sent_of (get_or went k d))) (went_is out went sent h none) (In-went went k d l)) in
    omega arith

-- ---- agents

pub seated_after : (p : Contents) (before after : List State) (i : ℕ) → IsSeated p before → i < length p.domains → (state_at after i).problem ≡ (state_at before i).problem → (state_at after i).me ≡ (state_at before i).me
    → (state_at after i).spent ≡ false → ((k : ℕ) → k ≢ i → state_at after k ≡ state_at before k) → IsSeated p after
seated_after p before after i h l problem me good others = record {
  problems = λ k w. elim (cases_eq k i) [
    | inl e ↦ ap (λ j. (state_at after j).problem) e ∙ problem ∙ h.problems i l
    | inr ne ↦ ap (λ (s : State). s.problem) (others k ne) ∙ h.problems k w
  ];
  seats = λ k w. elim (cases_eq k i) [
    | inl e ↦ ap (λ j. (state_at after j).me) e ∙ me ∙ h.seats i l ∙ sym e
    | inr ne ↦ ap (λ (s : State). s.me) (others k ne) ∙ h.seats k w
  ];
  sound = λ k w. elim (cases_eq k i) [
    | inl e ↦ ap (λ j. (state_at after j).spent) e ∙ good
    | inr ne ↦ ap (λ (s : State). s.spent) (others k ne) ∙ h.sound k w
  ];
}

-- a fresh agent by its own words
pub own_fresh : (p : Contents) (i : ℕ) (s : State) → IsFresh p i s → IsFresh s.problem s.me s
own_fresh p i s h = subst (λ (q : Contents). IsFresh q s.me s) (sym h.problem) (subst (λ j. IsFresh p j s) (sym h.me) h)
