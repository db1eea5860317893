-- What the facts of an act tell of its agent and of the lists.
use Rattle.std.proofs.Common.{◌≡◌, ◌≢◌, ◌∙◌, ℕ, ℤ, ◌+◌, Bool, true, false, cond, not, ◌&&◌, ◌||◌, ◌⊎◌, inl, inr, List, [], ◌∷◌, ◌++◌, ◌==◌, map, drop, Option, Some, None, refl, sym, ap, arith, nat_lt, append_assoc, append-nil}
use Rattle.std.proofs.lemmas.Bool.Decides.{eqb_tells, nat_tests}
use Rattle.std.specs.List.{list_any}
use Rattle.dcsp_defs.specs.declared.Step.{Step}
use Rattle.dcsp_defs.specs.declared.Reason.{Reason}
use Rattle.dcsp_defs.specs.declared.Reason.TheVariants.{Rule, Earlier}
use Rattle.dcsp_defs.specs.Words.{In}
use Rattle.dcsp_defs.specs.Csp.{Csp, domain}
use Rattle.abt_defs.specs.Agents.{Agent, Message, Stamped, known, value_in}
use Rattle.abt_defs.specs.Events.{Act, act_of}
use Rattle.abt_defs.specs.Steps.{Outcome}
use Rattle.abt_defs.specs.Network.{is_empty, sent_to}
use Rattle.abt_defs.specs.Runs.{Cargo, cargo_of}
use Rattle.abt_story.specs.Facts.{RuledOut, Fact, Knows, Out, Takes}
use Rattle.abt_story.specs.Telling.{came_with, enters, facts, is_later, learns, makes, named_in, reason, reason_before, receives, ruled_by, ruled_out, rules_out, same_reason, same_reasons, sends, stamp_in, steps_of, takes, takes_value}
use Rattle.abt_story.specs.Retelling.{fold, known_after, list_after, ruled_after, value_after, waits_after}
use Rattle.abt_story.proofs.Folds.{fold_append}
use Rattle.abt_story.proofs.Segments.{in_parts, pass_answers, pass_drops, pass_learns, pass_makes, pass_receives, pass_rules_out, pass_sends, pass_takes}
use Rattle.abt_story.proofs.Outcomes.{Enters, Moves}

module _ (order : Option (List ℕ)) (p : Csp) (made : Option ℕ) (a : Act) where
  -- only the value that is taken tells of the value
  value_part : (x : Option ℤ) → fold value_after x (facts order p made a) ≡ fold value_after x (takes a.before.stamp a.after.stamp a.after.value)
  value_part x =
      let f = value_after in
      let t = takes a.before.stamp a.after.stamp a.after.value in
      in_parts f order p made a x ∙ pass_sends f (λ k c y. refl) a.sent _ ∙ pass_makes f (λ s y. refl) made _
      ∙ ap (λ y. fold f y t) (pass_rules_out f (λ s y. refl) (domain p a.agent) (reason_before p a.agent a.came a.before) (reason p a.agent a.after) _
      ∙ pass_answers f (λ s y. refl) (λ s y. refl) (came_with a.came) (steps_of a.after) _ ∙ pass_drops f (λ s y. refl) (steps_of a.before) (steps_of a.after) _
      ∙ pass_learns f (λ k v y. refl) (named_in order a.came) a.before a.after _ ∙ pass_receives f (λ k c y. refl) (came_with a.came) x)

  -- of the mark also the step that is made
  waits_part : (x : Bool) → fold waits_after x (facts order p made a) ≡ fold waits_after (fold waits_after x (takes a.before.stamp a.after.stamp a.after.value)) (makes made)
  waits_part x =
      let f = waits_after in
      let t = takes a.before.stamp a.after.stamp a.after.value in
      in_parts f order p made a x ∙ pass_sends f (λ k c y. refl) a.sent _
      ∙ ap (λ y. fold f (fold f y t) (makes made)) (pass_rules_out f (λ s y. refl) (domain p a.agent) (reason_before p a.agent a.came a.before) (reason p a.agent a.after) _
      ∙ pass_answers f (λ s y. refl) (λ s y. refl) (came_with a.came) (steps_of a.after) _ ∙ pass_drops f (λ s y. refl) (steps_of a.before) (steps_of a.after) _
      ∙ pass_learns f (λ k v y. refl) (named_in order a.came) a.before a.after _ ∙ pass_receives f (λ k c y. refl) (came_with a.came) x)

  -- of the view what entered it
  known_part : (k : ℕ) (x : Option ℤ) → fold (known_after k) x (facts order p made a) ≡ fold (known_after k) x (learns (named_in order a.came) a.before a.after)
  known_part k x =
      let f = known_after k in
      let l = learns (named_in order a.came) a.before a.after in
      in_parts f order p made a x ∙ pass_sends f (λ j c y. refl) a.sent _ ∙ pass_makes f (λ s y. refl) made _ ∙ pass_takes f (λ v y. refl) a.before.stamp a.after.stamp a.after.value _
      ∙ pass_rules_out f (λ s y. refl) (domain p a.agent) (reason_before p a.agent a.came a.before) (reason p a.agent a.after) _
      ∙ pass_answers f (λ s y. refl) (λ s y. refl) (came_with a.came) (steps_of a.after) _ ∙ pass_drops f (λ s y. refl) (steps_of a.before) (steps_of a.after) _
      ∙ ap (λ y. fold f y l) (pass_receives f (λ j c y. refl) (came_with a.came) x)

  -- of the values that are ruled out the list of them
  ruled_part : (x : List RuledOut) → fold ruled_after x (facts order p made a) ≡ fold ruled_after x (rules_out (domain p a.agent) (reason_before p a.agent a.came a.before) (reason p a.agent a.after))
  ruled_part x =
      let f = ruled_after in
      let o = rules_out (domain p a.agent) (reason_before p a.agent a.came a.before) (reason p a.agent a.after) in
      in_parts f order p made a x ∙ pass_sends f (λ j c y. refl) a.sent _ ∙ pass_makes f (λ s y. refl) made _ ∙ pass_takes f (λ v y. refl) a.before.stamp a.after.stamp a.after.value _
      ∙ ap (λ y. fold f y o) (pass_answers f (λ s y. refl) (λ s y. refl) (came_with a.came) (steps_of a.after) _ ∙ pass_drops f (λ s y. refl) (steps_of a.before) (steps_of a.after) _
      ∙ pass_learns f (λ k v y. refl) (named_in order a.came) a.before a.after _ ∙ pass_receives f (λ k c y. refl) (came_with a.came) x)

  -- of a list what is received and sent
  list_part : (k j : ℕ) (x : List Cargo) → fold (list_after k j a.agent) x (facts order p made a) ≡ fold (list_after k j a.agent) (fold (list_after k j a.agent) x (receives (came_with a.came))) (sends a.sent)
  list_part k j x =
      let f = list_after k j a.agent in
      in_parts f order p made a x
      ∙ ap (λ y. fold f y (sends a.sent)) (pass_makes f (λ s y. refl) made _ ∙ pass_takes f (λ v y. refl) a.before.stamp a.after.stamp a.after.value _
      ∙ pass_rules_out f (λ s y. refl) (domain p a.agent) (reason_before p a.agent a.came a.before) (reason p a.agent a.after) _
      ∙ pass_answers f (λ s y. refl) (λ s y. refl) (came_with a.came) (steps_of a.after) _ ∙ pass_drops f (λ s y. refl) (steps_of a.before) (steps_of a.after) _
      ∙ pass_learns f (λ i v y. refl) (named_in order a.came) a.before a.after _)

-- ---- values and marks

no_more : (n : ℕ) → (n + 1 == n) ≡ false
no_more n = grind (arith, nat_tests)

taken_facts : (before stamp : ℕ) (value : Option ℤ) (v : ℤ) → stamp ≡ before + 1 → value ≡ Some v → takes before stamp value ≡ Takes v ∷ []
taken_facts before stamp value v e f = ap (λ n. takes before n value) e ∙ ap (takes before (before + 1)) f ∙ ap (λ (b : Bool). cond b [] (Takes v ∷ [])) (no_more before)

kept_facts : (before stamp : ℕ) (value : Option ℤ) → stamp ≡ before → takes before stamp value ≡ []
kept_facts before stamp value e = elim (eqb_tells stamp before) [ inl t ↦ ap (λ (b : Bool). cond b [] (takes_value value)) t.0 | inr t ↦ absurd (t.1 e) ]

pub value_told : (order : Option (List ℕ)) (p : Csp) (made : Option ℕ) (i : ℕ) (came : Option (ℕ × Message)) (a : Agent) (o : Outcome) → Moves a o → fold value_after a.value (facts order p made (act_of i came a o)) ≡ o.agent.value
value_told order p made i came a o h = value_part order p made (act_of i came a o) a.value ∙ by_move h
  where
    by_move : Moves a o → fold value_after a.value (takes a.stamp o.agent.stamp o.agent.value) ≡ o.agent.value
    by_move (inl s) = ap (fold value_after a.value) (kept_facts a.stamp o.agent.stamp o.agent.value s.same.stamp) ∙ sym s.same.value
    by_move (inr (inl t)) = ap (fold value_after a.value) (taken_facts a.stamp o.agent.stamp o.agent.value t.value t.stamp t.is) ∙ sym t.is
    by_move (inr (inr g)) = ap (fold value_after a.value) (kept_facts a.stamp o.agent.stamp o.agent.value g.stamp) ∙ sym g.value

waited : (o : Outcome) (s : Step) → (o.agent.waits ≡ true) ⊎ (is_empty s.nogood ≡ true) → is_empty s.nogood ≡ false → o.agent.waits ≡ true
waited o s (inl e) f = e
waited o s (inr e) f = cc

-- the step that is made is told, and does not refute
pub record MadeFits (made : Option ℕ) (o : Outcome) : Type 0 where
  pub none : o.step ≡ None → made ≡ None
  pub some : (s : Step) → o.step ≡ Some s → (n : ℕ) × (made ≡ Some n) × (is_empty s.nogood ≡ false)

pub waits_told : (order : Option (List ℕ)) (p : Csp) (made : Option ℕ) (i : ℕ) (came : Option (ℕ × Message)) (a : Agent) (o : Outcome) → Moves a o → MadeFits made o → fold waits_after a.waits (facts order p made (act_of i came a o)) ≡ o.agent.waits
waits_told order p made i came a o h fits = waits_part order p made (act_of i came a o) a.waits ∙ by_move h
  where
    by_move : Moves a o → fold waits_after (fold waits_after a.waits (takes a.stamp o.agent.stamp o.agent.value)) (makes made) ≡ o.agent.waits
    by_move (inl s) =
        ap (λ l. fold waits_after (fold waits_after a.waits l) (makes made)) (kept_facts a.stamp o.agent.stamp o.agent.value s.same.stamp)
        ∙ ap (λ m. fold waits_after a.waits (makes m)) (fits.none s.step) ∙ sym s.same.waits
    by_move (inr (inl t)) =
        ap (λ l. fold waits_after (fold waits_after a.waits l) (makes made)) (taken_facts a.stamp o.agent.stamp o.agent.value t.value t.stamp t.is)
        ∙ ap (λ m. fold waits_after false (makes m)) (fits.none t.step) ∙ sym t.waits
    by_move (inr (inr g)) =
        let s = fits.some g.step g.is in
        ap (λ l. fold waits_after (fold waits_after a.waits l) (makes made)) (kept_facts a.stamp o.agent.stamp o.agent.value g.stamp)
        ∙ ap (λ m. fold waits_after a.waits (makes m)) s.1 ∙ sym (waited o g.step g.waits s.2)

-- ---- the view

module _ (k : ℕ) (before after : Agent) where
  abbrev entry : ℕ → List Fact
  entry j = enters j (stamp_in (before.view j)) (after.view j)

  -- nothing newer is known of k
  unchanged : after.view k ≡ before.view k → (j : ℕ) (x : Option ℤ) → fold (known_after k) x (entry j) ≡ x
  unchanged e j x = elim (eqb_tells j k) [
    | inl t ↦ rw t.1 (ap (λ o. fold (known_after k) x (enters k (stamp_in (before.view k)) o)) e ∙ same (before.view k))
    | inr t ↦ other t.0 (after.view j)
  ]
    where
      same : (o : Option Stamped) → fold (known_after k) x (enters k (stamp_in o) o) ≡ x
      same None = refl
      same (Some s) = let no : nat_lt s.stamp s.stamp ≡ false = grind (arith, nat_tests) in ap (λ (b : Bool). fold (known_after k) x (cond b (Knows k s.value ∷ []) [])) no

      other : (j == k) ≡ false → (o : Option Stamped) → fold (known_after k) x (enters j (stamp_in (before.view j)) o) ≡ x
      other ne None = refl
      other ne (Some s) = elim (is_later (stamp_in (before.view j)) s.stamp) as (λ b. fold (known_after k) x (cond b (Knows j s.value ∷ []) []) ≡ x) [
        | true ↦ ap (λ (b : Bool). cond b (Some s.value) x) ne
        | false ↦ refl
      ]

  -- it has this, which is newer
  module _ (s : Stamped) (is : after.view k ≡ Some s) (later : is_later (stamp_in (before.view k)) s.stamp ≡ true) where
    own : (x : Option ℤ) → fold (known_after k) x (entry k) ≡ Some s.value
    own x =
        ap (λ o. fold (known_after k) x (enters k (stamp_in (before.view k)) o)) is ∙ ap (λ (b : Bool). fold (known_after k) x (cond b (Knows k s.value ∷ []) [])) later
        ∙ elim (eqb_tells k k) [ inl t ↦ ap (λ (b : Bool). cond b (Some s.value) x) t.0 | inr t ↦ absurd (t.1 refl) ]

    others : (j : ℕ) (x : Option ℤ) → (j == k) ≡ false → fold (known_after k) x (entry j) ≡ x
    others j x ne = by_view (after.view j)
      where
        by_view : (o : Option Stamped) → fold (known_after k) x (enters j (stamp_in (before.view j)) o) ≡ x
        by_view None = refl
        by_view (Some t) = elim (is_later (stamp_in (before.view j)) t.stamp) as (λ b. fold (known_after k) x (cond b (Knows j t.value ∷ []) []) ≡ x) [
          | true ↦ ap (λ (b : Bool). cond b (Some t.value) x) ne
          | false ↦ refl
        ]

    entered : (named : List ℕ) (x : Option ℤ) → (x ≡ Some s.value) ⊎ In k named → fold (known_after k) x (learns named before after) ≡ Some s.value
    entered [] x (inl e) = e
    entered [] x (inr h) = absurd h
    entered (j ∷ named) x h = fold_append (known_after k) x (entry j) (learns named before after) ∙ by_agent (entered named) (eqb_tells j k) h
      where
        by_agent : ((y : Option ℤ) → (y ≡ Some s.value) ⊎ In k named → fold (known_after k) y (learns named before after) ≡ Some s.value) → (((j == k) ≡ true) × (j ≡ k)) ⊎ (((j == k) ≡ false) × (j ≢ k)) → (x ≡ Some s.value) ⊎ In k (j ∷ named) → fold (known_after k) (fold (known_after k) x (entry j)) (learns named before after) ≡ Some s.value
        by_agent ih (inl t) g = ih (fold (known_after k) x (entry j)) (inl (rw t.1 (own x)))
        by_agent ih (inr t) (inl e) = ih (fold (known_after k) x (entry j)) (inl (others j x t.0 ∙ e))
        by_agent ih (inr t) (inr (inl e)) = absurd (t.1 (sym e))
        by_agent ih (inr t) (inr (inr g)) = ih (fold (known_after k) x (entry j)) (inr g)

  nothing_entered : after.view k ≡ before.view k → (named : List ℕ) (x : Option ℤ) → fold (known_after k) x (learns named before after) ≡ x
  nothing_entered e [] x = refl
  nothing_entered e (j ∷ named) x = fold_append (known_after k) x (entry j) (learns named before after) ∙ ap (λ y. fold (known_after k) y (learns named before after)) (unchanged e j x) ∙ nothing_entered e named x

  view_told : (named : List ℕ) → Enters (In k named) (before.view k) (after.view k) → fold (known_after k) (known before k) (learns named before after) ≡ known after k
  view_told named (inl e) = nothing_entered e named (known before k) ∙ ap value_in (sym e)
  view_told named (inr (h, s, e, l)) = entered s e l named (known before k) (inr h) ∙ ap value_in (sym e)

pub known_told : (order : Option (List ℕ)) (p : Csp) (made : Option ℕ) (i : ℕ) (came : Option (ℕ × Message)) (a : Agent) (o : Outcome) (k : ℕ) → Enters (In k (named_in order came)) (a.view k) (o.agent.view k)
    → fold (known_after k) (known a k) (facts order p made (act_of i came a o)) ≡ known o.agent k
known_told order p made i came a o k h = known_part order p made (act_of i came a o) k (known a k) ∙ view_told k a o.agent (named_in order came) h

-- ---- the values that are ruled out

same_is : (a b : Reason) → same_reason a b ≡ true → a ≡ b
same_is (Rule m) (Rule n) h = elim (eqb_tells m n) [ inl t ↦ ap Rule t.1 | inr t ↦ absurd (let e = t.0 in cc) ]
same_is (Rule m) (Earlier n) h = cc
same_is (Earlier m) (Rule n) h = cc
same_is (Earlier m) (Earlier n) h = elim (eqb_tells m n) [ inl t ↦ ap Earlier t.1 | inr t ↦ absurd (let e = t.0 in cc) ]

same_are : (a b : Option Reason) → same_reasons a b ≡ true → a ≡ b
same_are None None h = refl
same_are None (Some b) h = cc
same_are (Some a) None h = cc
same_are (Some a) (Some b) h = ap Some (same_is a b h)

none_changed : (values : List ℤ) (before after : ℤ → Option Reason) → list_any (λ v. not (same_reasons (before v) (after v))) values ≡ false → ruled_out values before ≡ ruled_out values after
none_changed [] before after h = refl
none_changed (v ∷ values) before after h = by_value (none_changed values before after) (same_reasons (before v) (after v)) refl h
  where
    by_value : (list_any (λ w. not (same_reasons (before w) (after w))) values ≡ false → ruled_out values before ≡ ruled_out values after) → (b : Bool) → same_reasons (before v) (after v) ≡ b → (not b || list_any (λ w. not (same_reasons (before w) (after w))) values) ≡ false → ruled_out (v ∷ values) before ≡ ruled_out (v ∷ values) after
    by_value ih true e g = ap (λ o. ruled_by v o ++ ruled_out values before) (same_are (before v) (after v) e) ∙ ap (λ l. ruled_by v (after v) ++ l) (ih g)
    by_value ih false e g = cc

list_ruled : (values : List ℤ) (before after : ℤ → Option Reason) → fold ruled_after (ruled_out values before) (rules_out values before after) ≡ ruled_out values after
list_ruled values before after = by_test (list_any (λ v. not (same_reasons (before v) (after v))) values) refl
  where
    by_test : (b : Bool) → list_any (λ v. not (same_reasons (before v) (after v))) values ≡ b → fold ruled_after (ruled_out values before) (cond b (Out (ruled_out values after) ∷ []) []) ≡ ruled_out values after
    by_test true e = refl
    by_test false e = none_changed values before after e

pub ruled_told : (order : Option (List ℕ)) (p : Csp) (made : Option ℕ) (i : ℕ) (came : Option (ℕ × Message)) (a : Agent) (o : Outcome) (x : List RuledOut) → x ≡ ruled_out (domain p i) (reason_before p i came a)
    → fold ruled_after x (facts order p made (act_of i came a o)) ≡ ruled_out (domain p i) (reason p i o.agent)
ruled_told order p made i came a o x e =
    ruled_part order p made (act_of i came a o) x ∙ ap (λ y. fold ruled_after y (rules_out (domain p i) (reason_before p i came a) (reason p i o.agent))) e ∙ list_ruled (domain p i) (reason_before p i came a) (reason p i o.agent)

pub none_ruled : (values : List ℤ) → ruled_out values (λ v. None) ≡ []
none_ruled [] = refl
none_ruled (v ∷ values) = none_ruled values

-- ---- lists

sends_told : (k j i : ℕ) (sent : List (ℕ × Message)) (x : List Cargo) → fold (list_after k j i) x (sends sent) ≡ cond (k == i) (x ++ map cargo_of (sent_to j sent)) x
sends_told k j i [] x = elim (k == i) as (λ b. x ≡ cond b (x ++ []) x) [ true ↦ sym (append-nil x) | false ↦ refl ]
sends_told k j i (y ∷ sent) x = sends_told k j i sent (cond (k == i && y.0 == j) (x ++ cargo_of y.1 ∷ []) x) ∙ by_sender (k == i) (y.0 == j)
  where
    by_sender : (b c : Bool) → cond b (cond (b && c) (x ++ cargo_of y.1 ∷ []) x ++ map cargo_of (sent_to j sent)) (cond (b && c) (x ++ cargo_of y.1 ∷ []) x) ≡ cond b (x ++ map cargo_of (cond c (y.1 ∷ sent_to j sent) (sent_to j sent))) x
    by_sender true true = append_assoc x (cargo_of y.1 ∷ []) (map cargo_of (sent_to j sent))
    by_sender true false = refl
    by_sender false c = refl

-- the list, without its head where that came
abbrev pub shorter : ℕ → ℕ → ℕ → Option (ℕ × Message) → List Cargo → List Cargo
shorter k j i None x = x
shorter k j i (Some y) x = cond (k == y.0 && j == i) (drop 1 x) x

pub list_told_by : (order : Option (List ℕ)) (p : Csp) (made : Option ℕ) (i : ℕ) (came : Option (ℕ × Message)) (a : Agent) (o : Outcome) (k j : ℕ) (x : List Cargo)
    → fold (list_after k j i) x (facts order p made (act_of i came a o)) ≡ cond (k == i) (shorter k j i came x ++ map cargo_of (sent_to j o.sent)) (shorter k j i came x)
list_told_by order p made i came a o k j x = list_part order p made (act_of i came a o) k j x ∙ ap (λ y. fold (list_after k j i) y (sends o.sent)) (by_came came) ∙ sends_told k j i o.sent (shorter k j i came x)
  where
    by_came : (c : Option (ℕ × Message)) → fold (list_after k j i) x (receives (came_with c)) ≡ shorter k j i c x
    by_came None = refl
    by_came (Some y) = refl
