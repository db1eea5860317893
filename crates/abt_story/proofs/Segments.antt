-- The facts of an act, part by part: a fold passes over those that it does not look at.
use Rattle.std.proofs.Common.{◌≡◌, ◌∙◌, ℕ, ℤ, true, false, cond, not, List, [], ◌∷◌, ◌++◌, ◌==◌, Option, Some, None, refl, ap}
use Rattle.std.specs.List.{list_any}
use Rattle.dcsp_defs.specs.declared.Reason.{Reason}
use Rattle.dcsp_defs.specs.Csp.{Csp, domain}
use Rattle.abt_defs.specs.Agents.{Agent, Message, Stamped, is_among}
use Rattle.abt_defs.specs.Events.{Act}
use Rattle.abt_defs.specs.Runs.{Cargo, Tell, Refuse, AddLink, cargo_of}
use Rattle.abt_story.specs.Facts.{RuledOut, Fact, Receives, Knows, Forgets, Keeps, Declines, Out, Takes, Makes, Sends}
use Rattle.abt_story.specs.Telling.{answers, came_with, drops, enters, facts, is_later, learns, makes, named_in, reason, reason_before, receives, ruled_out, rules_out, same_reasons, sends, stamp_in, steps_of, takes, takes_value}
use Rattle.abt_story.specs.Retelling.{fold}
use Rattle.abt_story.proofs.Folds.{fold_append}

module _ {X : Type 0} (change : Fact → X → X) where
  -- it does not look at facts of a kind
  abbrev pub SkipsReceives : Type 0
  SkipsReceives = (from : ℕ) (cargo : Cargo) (x : X) → change (Receives from cargo) x ≡ x

  abbrev pub SkipsKnows : Type 0
  SkipsKnows = (k : ℕ) (value : ℤ) (x : X) → change (Knows k value) x ≡ x

  abbrev pub SkipsSteps : (ℕ → Fact) → Type 0
  SkipsSteps fact = (step : ℕ) (x : X) → change (fact step) x ≡ x

  abbrev pub SkipsOut : Type 0
  SkipsOut = (values : List RuledOut) (x : X) → change (Out values) x ≡ x

  abbrev pub SkipsTakes : Type 0
  SkipsTakes = (value : ℤ) (x : X) → change (Takes value) x ≡ x

  abbrev pub SkipsSends : Type 0
  SkipsSends = (to : ℕ) (cargo : Cargo) (x : X) → change (Sends to cargo) x ≡ x

  pub pass_receives : SkipsReceives → (o : Option (ℕ × Cargo)) (x : X) → fold change x (receives o) ≡ x
  pass_receives h None x = refl
  pass_receives h (Some y) x = h y.0 y.1 x

  pub pass_learns : SkipsKnows → (named : List ℕ) (before after : Agent) (x : X) → fold change x (learns named before after) ≡ x
  pass_learns h [] before after x = refl
  pass_learns h (k ∷ named) before after x =
      fold_append change x (enters k (stamp_in (before.view k)) (after.view k)) (learns named before after) ∙ ap (λ y. fold change y (learns named before after)) (one (after.view k))
      ∙ pass_learns h named before after x
    where
      one : (o : Option Stamped) → fold change x (enters k (stamp_in (before.view k)) o) ≡ x
      one None = refl
      one (Some s) = elim (is_later (stamp_in (before.view k)) s.stamp) as (λ b. fold change x (cond b (Knows k s.value ∷ []) []) ≡ x) [ true ↦ h k s.value x | false ↦ refl ]

  pub pass_drops : SkipsSteps Forgets → (before after : List ℕ) (x : X) → fold change x (drops before after) ≡ x
  pass_drops h [] after x = refl
  pass_drops h (step ∷ steps) after x =
      fold_append change x (cond (is_among step after) [] (Forgets step ∷ [])) (drops steps after)
      ∙ ap (λ y. fold change y (drops steps after)) (elim (is_among step after) as (λ b. fold change x (cond b [] (Forgets step ∷ [])) ≡ x) [ true ↦ refl | false ↦ h step x ]) ∙ pass_drops h steps after x

  pub pass_answers : SkipsSteps Keeps → SkipsSteps Declines → (o : Option (ℕ × Cargo)) (after : List ℕ) (x : X) → fold change x (answers o after) ≡ x
  pass_answers h g None after x = refl
  pass_answers h g (Some (k, Tell value)) after x = refl
  pass_answers h g (Some (k, Refuse step)) after x = elim (is_among step after) as (λ b. change (cond b (Keeps step) (Declines step)) x ≡ x) [ true ↦ h step x | false ↦ g step x ]
  pass_answers h g (Some (k, AddLink)) after x = refl

  pub pass_rules_out : SkipsOut → (values : List ℤ) (before after : ℤ → Option Reason) (x : X) → fold change x (rules_out values before after) ≡ x
  pass_rules_out h values before after x = elim (list_any (λ v. not (same_reasons (before v) (after v))) values) as (λ b. fold change x (cond b (Out (ruled_out values after) ∷ []) []) ≡ x) [
    | true ↦ h (ruled_out values after) x
    | false ↦ refl
  ]

  pub pass_takes : SkipsTakes → (before stamp : ℕ) (value : Option ℤ) (x : X) → fold change x (takes before stamp value) ≡ x
  pass_takes h before stamp value x = elim (stamp == before) as (λ b. fold change x (cond b [] (takes_value value)) ≡ x) [ true ↦ refl | false ↦ one value ]
    where
      one : (o : Option ℤ) → fold change x (takes_value o) ≡ x
      one None = refl
      one (Some v) = h v x

  pub pass_makes : SkipsSteps Makes → (made : Option ℕ) (x : X) → fold change x (makes made) ≡ x
  pass_makes h None x = refl
  pass_makes h (Some step) x = h step x

  pub pass_sends : SkipsSends → (sent : List (ℕ × Message)) (x : X) → fold change x (sends sent) ≡ x
  pass_sends h [] x = refl
  pass_sends h (y ∷ sent) x = ap (λ z. fold change z (sends sent)) (h y.0 (cargo_of y.1) x) ∙ pass_sends h sent x

  -- part by part
  pub in_parts : (order : Option (List ℕ)) (p : Csp) (made : Option ℕ) (a : Act) (x : X) → fold change x (facts order p made a)
      ≡ fold change (fold change (fold change (fold change (fold change (fold change (fold change (fold change x (receives (came_with a.came))) (learns (named_in order a.came) a.before a.after)) (drops (steps_of a.before) (steps_of a.after))) (answers (came_with a.came) (steps_of a.after)))
      (rules_out (domain p a.agent) (reason_before p a.agent a.came a.before) (reason p a.agent a.after))) (takes a.before.stamp a.after.stamp a.after.value)) (makes made)) (sends a.sent)
  in_parts order p made a x =
      let r = receives (came_with a.came) in
      let l = learns (named_in order a.came) a.before a.after in
      let d = drops (steps_of a.before) (steps_of a.after) in
      let n = answers (came_with a.came) (steps_of a.after) in
      let o = rules_out (domain p a.agent) (reason_before p a.agent a.came a.before) (reason p a.agent a.after) in
      let t = takes a.before.stamp a.after.stamp a.after.value in
      let m = makes made in
      let s = sends a.sent in
      fold_append change x (r ++ l ++ d ++ n ++ o ++ t ++ m) s
      ∙ ap (λ y. fold change y s) (fold_append change x (r ++ l ++ d ++ n ++ o ++ t) m
      ∙ ap (λ y. fold change y m) (fold_append change x (r ++ l ++ d ++ n ++ o) t
      ∙ ap (λ y. fold change y t) (fold_append change x (r ++ l ++ d ++ n) o
      ∙ ap (λ y. fold change y o) (fold_append change x (r ++ l ++ d) n
      ∙ ap (λ y. fold change y n) (fold_append change x (r ++ l) d
      ∙ ap (λ y. fold change y d) (fold_append change x r l))))))
