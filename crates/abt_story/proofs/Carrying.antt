-- What an agent sends carries the value that it has then, or the number of the step that it made.
use Rattle.std.proofs.Common.{◌≡◌, ◌∙◌, ℕ, ℤ, ◌+◌, true, false, cond, not, ◌&&◌, List, [], ◌∷◌, ◌++◌, map, Option, Some, None, refl, sym, ap}
use Rattle.std.proofs.lemmas.List.{map-append}
use Rattle.dcsp_defs.specs.declared.Step.{Step}
use Rattle.dcsp_defs.specs.Csp.{Csp}
use Rattle.abt_defs.specs.Agents.{Agent, Tell, Refuse, AddLink, Message, StampedNogood, plain}
use Rattle.abt_defs.specs.Reasons.{derived, step_of}
use Rattle.abt_defs.specs.Steps.{Outcome, choice, first_sent, heed, is_free, is_newer, is_news, learn, own_value, receive, refuse, settle, stay, take_or_refuse, to_each, unlinked}
use Rattle.abt_parts.specs.declared.message.SentTo.{SentTo}
use Rattle.abt_parts.specs.Messages.{told_sent}
use Rattle.abt_defs.specs.Runs as runs
use Rattle.abt_defs.specs.Runs.{cargo_of}
use Rattle.abt_story.specs.Facts.{Sends}
use Rattle.abt_story.specs.Telling.{sends}
use Rattle.abt_story.specs.Looking.{cargo_by, sent_facts}

-- the number of a step that is made
abbrev pub numbered : ℕ → Option Step → Option ℕ
numbered number None = None
numbered number (Some s) = Some number

-- what is told of the messages gives what they carry
abbrev pub Carries : List (ℕ × Message) → Option ℤ → Option ℕ → Type 0
Carries sent value made = sent_facts (map told_sent sent) value made ≡ sends sent

told_each : (v : ℤ) (stamp : ℕ) (ks : List ℕ) (made : Option ℕ) → Carries (to_each (Tell (record { value = v; stamp = stamp })) ks) (Some v) made
told_each v stamp [] made = refl
told_each v stamp (k ∷ ks) made = ap (λ l. Sends k (runs.Tell v) ∷ l) (told_each v stamp ks made)

asked_each : (ks : List ℕ) (value : Option ℤ) (made : Option ℕ) → Carries (to_each AddLink ks) value made
asked_each [] value made = refl
asked_each (k ∷ ks) value made = ap (λ l. Sends k runs.AddLink ∷ l) (asked_each ks value made)

both : (xs ys : List (ℕ × Message)) (value : Option ℤ) (made : Option ℕ) → Carries xs value made → Carries ys value made → Carries (xs ++ ys) value made
both [] ys value made h g = g
both (x ∷ xs) ys value made h g =
    ap (λ l. sent_facts l value made) (map-append told_sent (x ∷ xs) ys) ∙ map-append (λ (z : SentTo). Sends z.to (cargo_by z.kind value made)) (map told_sent (x ∷ xs)) (map told_sent ys) ∙ ap (λ l. l ++ sent_facts (map told_sent ys) value made) h ∙ ap (λ l. sends (x ∷ xs) ++ l) g
    ∙ sym (map-append (λ (z : ℕ × Message). Sends z.0 (cargo_of z.1)) (x ∷ xs) ys)

pub settle_carries : (p : Csp) (i number : ℕ) (a : Agent) → Carries (settle p i number a).sent (settle p i number a).agent.value (numbered number (settle p i number a).step)
settle_carries p i number a =
    elim (not a.waits && is_free p i a a.value) as (λ b. let o : Outcome = cond b (stay a) (take_or_refuse p i number a (choice p i a)) in Carries o.sent o.agent.value (numbered number o.step)) [
      | true ↦ refl
      | false ↦ by_choice (choice p i a)
    ]
  where
    refused : (d : StampedNogood) → let o : Outcome = refuse number a (step_of p i a.view a.recorded) d in Carries o.sent o.agent.value (numbered number o.step)
    refused [] = refl
    refused (x ∷ xs) = refl

    by_choice : (c : Option ℤ) → let o : Outcome = take_or_refuse p i number a c in Carries o.sent o.agent.value (numbered number o.step)
    by_choice (Some v) = told_each v (a.stamp + 1) _ None
    by_choice None = refused (derived p i a.view a.recorded)

pub receive_carries : (p : Csp) (i number : ℕ) (a : Agent) (k : ℕ) (m : Message) → let o : Outcome = receive p i number a k m in Carries o.sent o.agent.value (numbered number o.step)
receive_carries p i number a k (Tell s) =
    elim (is_newer (a.view k) s.stamp) as (λ b. let o : Outcome = cond b (settle p i number (learn k s a)) (stay a) in Carries o.sent o.agent.value (numbered number o.step)) [
      | true ↦ settle_carries p i number (learn k s a)
      | false ↦ refl
    ]
receive_carries p i number a k (Refuse step pairs) =
    let b = heed i step pairs a in
    let links = to_each AddLink (unlinked i (plain pairs) a) in
    elim (a.waits && not (is_news i pairs a)) as (λ t. let o : Outcome = first_sent links (cond t (stay b) (settle p i number b)) in Carries o.sent o.agent.value (numbered number o.step)) [
      | true ↦ both links [] b.value None (asked_each (unlinked i (plain pairs) a) b.value None) refl
      | false ↦
          let o : Outcome = settle p i number b in
          both links o.sent o.agent.value (numbered number o.step) (asked_each (unlinked i (plain pairs) a) o.agent.value (numbered number o.step)) (settle_carries p i number b)
    ]
receive_carries p i number a k AddLink = by_value a.value
  where
    by_value : (v : Option ℤ) → Carries (own_value k a v) v None
    by_value None = refl
    by_value (Some v) = refl
