-- What an event makes of the recorded nogoods of an agent, and what the lines tell of them.
use Rattle.std.proofs.Common.{◌≡◌, ◌≢◌, ◌∙◌, ℕ, Bool, true, false, cond, not, ◌&&◌, ◌||◌, ◌⊎◌, inl, inr, List, [], ◌∷◌, ◌++◌, ◌==◌, filter, map, nat_lt, Option, Some, None, refl, sym, ap, subst, append-nil, ℤ}
use Rattle.std.proofs.lemmas.Bool.Decides.{eqb_tells}
use Rattle.std.proofs.lemmas.List.{map-append}
use Rattle.std.specs.List.{list_all}
use Rattle.std.specs.Ordering.{int_eq}
use Rattle.dcsp_defs.specs.declared.nogood.Pair.{Pair}
use Rattle.dcsp_defs.specs.Words.{In, update}
use Rattle.dcsp_defs.specs.Csp.{Csp, Nogood, domain}
use Rattle.dcsp_defs.specs.Pairs.{value_at}
use Rattle.dcsp_defs.proofs.Lists.{In-filter, In-left, In-list_any, In-map, In-right, In-split, filter-from, list_any-In}
use Rattle.abt_defs.specs.Agents.{Agent, Tell, Refuse, AddLink, Message, Record, Stamped, StampedNogood, is_among, plain}
use Rattle.abt_defs.specs.Events.{Act, act_of}
use Rattle.abt_defs.specs.Reasons.{derived, step_of}
use Rattle.abt_defs.specs.Steps.{Outcome, ask, choice, fits, forget, heed, is_free, is_newer, is_news, is_refused, learn, learn_all, receive, refuse, settle, stay, take_or_refuse}
use Rattle.abt_story.specs.Facts.{Forgets, Keeps, Declines}
use Rattle.abt_story.specs.Telling.{answers, came_with, drops, facts, named_in, reason, reason_before, steps_of}
use Rattle.abt_story.specs.Retelling.{fold, recorded_after}
use Rattle.abt_story.proofs.Folds.{fold_append}
use Rattle.abt_story.proofs.Segments.{in_parts, pass_learns, pass_makes, pass_receives, pass_rules_out, pass_sends, pass_takes}

-- ---- lists

filter_all : {X : Type 0} (xs : List X) → filter (λ x. true) xs ≡ xs
filter_all [] = refl
filter_all (x ∷ xs) = ap (λ l. x ∷ l) (filter_all xs)

filter_twice : {X : Type 0} (q r : X → Bool) (xs : List X) → filter r (filter q xs) ≡ filter (λ x. q x && r x) xs
filter_twice q r [] = refl
filter_twice q r (x ∷ xs) = elim (q x) as (λ b. filter r (cond b (x ∷ filter q xs) (filter q xs)) ≡ cond (b && r x) (x ∷ filter (λ y. q y && r y) xs) (filter (λ y. q y && r y) xs)) [
  | true ↦ elim (r x) as (λ b. cond b (x ∷ filter r (filter q xs)) (filter r (filter q xs)) ≡ cond b (x ∷ filter (λ y. q y && r y) xs) (filter (λ y. q y && r y) xs)) [
    | true ↦ ap (λ l. x ∷ l) (filter_twice q r xs)
    | false ↦ filter_twice q r xs
  ]
  | false ↦ filter_twice q r xs
]

filter_same : {X : Type 0} (q r : X → Bool) (xs : List X) → ((x : X) → In x xs → q x ≡ r x) → filter q xs ≡ filter r xs
filter_same q r [] h = refl
filter_same q r (x ∷ xs) h = ap (λ b. cond b (x ∷ filter q xs) (filter q xs)) (h x (inl refl)) ∙ ap (λ l. cond (r x) (x ∷ l) l) (filter_same q r xs (λ y u. h y (inr u)))

filter_map : {X Y : Type 0} (f : X → Y) (q : Y → Bool) (xs : List X) → filter q (map f xs) ≡ map f (filter (λ x. q (f x)) xs)
filter_map f q [] = refl
filter_map f q (x ∷ xs) = elim (q (f x)) as (λ b. cond b (f x ∷ filter q (map f xs)) (filter q (map f xs)) ≡ map f (cond b (x ∷ filter (λ y. q (f y)) xs) (filter (λ y. q (f y)) xs))) [
  | true ↦ ap (λ l. f x ∷ l) (filter_map f q xs)
  | false ↦ filter_map f q xs
]

In-from-map : {X Y : Type 0} (f : X → Y) (y : Y) (xs : List X) → In y (map f xs) → (x : X) × In x xs × (y ≡ f x)
In-from-map f y [] h = absurd h
In-from-map f y (x ∷ xs) (inl e) = (x, inl refl, e)
In-from-map f y (x ∷ xs) (inr h) = let r = In-from-map f y xs h in (r.0, inr r.1, r.2)

among : (n : ℕ) (ns : List ℕ) → In n ns → is_among n ns ≡ true
among n ns h = list_any-In (λ x. n == x) n ns h (elim (eqb_tells n n) [ inl t ↦ t.0 | inr t ↦ absurd (t.1 refl) ])

from_among : (n : ℕ) (ns : List ℕ) → is_among n ns ≡ true → In n ns
from_among n ns h =
    let r = In-list_any (λ x. n == x) ns h in
    elim (eqb_tells n r.0) [
      | inl t ↦ subst (λ x. In x ns) (sym t.1) r.1
      | inr t ↦ absurd (let e = t.0 in let f = r.2 in cc)
    ]

not_among : (n : ℕ) (ns : List ℕ) → (In n ns → ⊥) → is_among n ns ≡ false
not_among n ns h = by_test (is_among n ns) refl
  where
    by_test : (b : Bool) → is_among n ns ≡ b → is_among n ns ≡ false
    by_test true e = absurd (h (from_among n ns e))
    by_test false e = e

-- ---- the recorded nogoods

-- some are dropped, by their pairs
abbrev pub Sieved : List Record → List Record → Type 0
Sieved before after = (q : Nogood → Bool) × (after ≡ filter (λ (x : Record). q x.pairs) before)

sieved_all : (xs : List Record) → Sieved xs xs
sieved_all xs = (λ pairs. true, sym (filter_all xs))

sieved_twice : (xs ys zs : List Record) → Sieved xs ys → Sieved ys zs → Sieved xs zs
sieved_twice xs ys zs (q, e) (r, f) = (λ pairs. q pairs && r pairs, f ∙ ap (filter (λ (x : Record). r x.pairs)) e ∙ filter_twice (λ (x : Record). q x.pairs) (λ (x : Record). r x.pairs) xs)

learn_sieves : (k : ℕ) (s : Stamped) (a : Agent) → Sieved a.recorded (learn k s a).recorded
learn_sieves k s a = elim (is_newer (a.view k) s.stamp) as (λ t. Sieved a.recorded (cond t (record a { view = update a.view k (Some s); recorded = forget k s.value a.recorded }) a).recorded) [
  | true ↦ (λ pairs. list_all (λ (y : Pair). not (k == y.var) || int_eq y.value s.value) pairs, refl)
  | false ↦ sieved_all a.recorded
]

learned_sieves : (i : ℕ) (pairs : StampedNogood) (a : Agent) → Sieved a.recorded (learn_all i pairs a).recorded
learned_sieves i [] a = sieved_all a.recorded
learned_sieves i (y ∷ ys) a = elim (nat_lt y.0 i) as (λ t. Sieved a.recorded (learn_all i ys (cond t (learn y.0 y.1 a) a)).recorded) [
  | true ↦ sieved_twice a.recorded (learn y.0 y.1 a).recorded _ (learn_sieves y.0 y.1 a) (learned_sieves i ys (learn y.0 y.1 a))
  | false ↦ learned_sieves i ys a
]

pub settle_keeps : (p : Csp) (i number : ℕ) (a : Agent) → (settle p i number a).agent.recorded ≡ a.recorded
settle_keeps p i number a = elim (not a.waits && is_free p i a a.value) as (λ b. (cond b (stay a) (take_or_refuse p i number a (choice p i a))).agent.recorded ≡ a.recorded) [ true ↦ refl | false ↦ by_choice (choice p i a) ]
  where
    refused : (d : StampedNogood) → (refuse number a (step_of p i a.view a.recorded) d).agent.recorded ≡ a.recorded
    refused [] = refl
    refused (x ∷ xs) = refl

    by_choice : (o : Option ℤ) → (take_or_refuse p i number a o).agent.recorded ≡ a.recorded
    by_choice (Some v) = refl
    by_choice None = refused (derived p i a.view a.recorded)

-- what a message can add
abbrev pub Added : Message → List Record → Type 0
Added (Tell told) more = more ≡ []
Added (Refuse step pairs) more = (more ≡ []) ⊎ (more ≡ record { step = step; pairs = plain pairs } ∷ [])
Added AddLink more = more ≡ []

-- some are dropped, and what came may be added
pub record Changes (m : Message) (before after : List Record) : Type 0 where
  pub passes : Nogood → Bool
  pub more : List Record
  pub is : after ≡ filter (λ (x : Record). passes x.pairs) before ++ more
  pub added : Added m more

pub receive_changes : (p : Csp) (i number : ℕ) (a : Agent) (k : ℕ) (m : Message) → Changes m a.recorded (receive p i number a k m).agent.recorded
receive_changes p i number a k (Tell s) = elim (is_newer (a.view k) s.stamp) as (λ t. Changes (Tell s) a.recorded (cond t (settle p i number (learn k s a)) (stay a)).agent.recorded) [
  | true ↦
      let l = learn_sieves k s a in
      record { passes = l.0; more = []; is = settle_keeps p i number (learn k s a) ∙ l.1 ∙ sym (append-nil _); added = refl }
  | false ↦ record { passes = λ pairs. true; more = []; is = sym (append-nil _ ∙ filter_all a.recorded); added = refl }
]
receive_changes p i number a k (Refuse step pairs) =
    let b = heed i step pairs a in
    let c = learn_all i pairs (ask i (plain pairs) a) in
    let l = learned_sieves i pairs (ask i (plain pairs) a) in
    let x : Record = record { step = step; pairs = plain pairs } in
    let heeded : Changes (Refuse step pairs) a.recorded b.recorded = elim (fits i x.pairs c && not (is_refused i c.recorded (value_at x.pairs i))) as (λ t. Changes (Refuse step pairs) a.recorded (cond t (record c { recorded = c.recorded ++ x ∷ [] }) c).recorded) [
      | true ↦ record { passes = l.0; more = x ∷ []; is = ap (λ r. r ++ x ∷ []) l.1; added = inr refl }
      | false ↦ record { passes = l.0; more = []; is = l.1 ∙ sym (append-nil _); added = inl refl }
    ] in
    elim (a.waits && not (is_news i pairs a)) as (λ t. Changes (Refuse step pairs) a.recorded (cond t (stay b) (settle p i number b)).agent.recorded) [
      | true ↦ heeded
      | false ↦ subst (Changes (Refuse step pairs) a.recorded) (sym (settle_keeps p i number b)) heeded
    ]
receive_changes p i number a k AddLink = record { passes = λ pairs. true; more = []; is = sym (append-nil _ ∙ filter_all a.recorded); added = refl }

-- the nogood that came is of this step
abbrev pub HasNew : Message → ℕ → Type 0
HasNew (Tell told) n = ⊥
HasNew (Refuse step pairs) n = n ≡ step
HasNew AddLink n = ⊥

of_added : (m : Message) (more : List Record) (r : Record) → Added m more → In r more → HasNew m r.step
of_added (Tell told) more r e u = absurd (subst (In r) e u)
of_added (Refuse step pairs) more r (inl e) u = absurd (subst (In r) e u)
of_added (Refuse step pairs) more r (inr e) u = elim (subst (In r) e u) [ inl f ↦ ap (λ (x : Record). x.step) f | inr w ↦ absurd w ]
of_added AddLink more r e u = absurd (subst (In r) e u)

-- what is recorded then was before, or came
pub receive_records : (p : Csp) (i number : ℕ) (a : Agent) (k : ℕ) (m : Message) (n : ℕ) → In n (steps_of (receive p i number a k m).agent) → In n (steps_of a) ⊎ HasNew m n
receive_records p i number a k m n u = by_change (receive_changes p i number a k m)
  where
    by_change : Changes m a.recorded (receive p i number a k m).agent.recorded → In n (steps_of a) ⊎ HasNew m n
    by_change c =
        let r = In-from-map (λ (x : Record). x.step) n _ u in
        elim (In-split r.0 (filter (λ (x : Record). c.passes x.pairs) a.recorded) c.more (subst (In r.0) c.is r.1)) [
          | inl v ↦ inl (subst (λ x. In x (steps_of a)) (sym r.2) (In-map (λ (x : Record). x.step) r.0 a.recorded (filter-from _ r.0 a.recorded v).0))
          | inr v ↦ inr (subst (HasNew m) (sym r.2) (of_added m c.more r.0 c.added v))
        ]

-- ---- what the lines tell of them

-- drops take out of a list all that are no longer among these
drops_told : (bs after xs : List ℕ) → fold recorded_after xs (drops bs after) ≡ filter (λ n. not (is_among n bs && not (is_among n after))) xs
drops_told [] after xs = sym (filter_all xs)
drops_told (b ∷ bs) after xs = fold_append recorded_after xs (cond (is_among b after) [] (Forgets b ∷ [])) (drops bs after) ∙ by_test (drops_told bs after) (is_among b after) refl
  where
    both_true : (x y : Bool) → not (x && false) ≡ not (y && false)
    both_true true true = refl
    both_true true false = refl
    both_true false true = refl
    both_true false false = refl

    stays : is_among b after ≡ true → (n : ℕ) → (((n == b) ≡ true) × (n ≡ b)) ⊎ (((n == b) ≡ false) × (n ≢ b)) → not (is_among n bs && not (is_among n after)) ≡ not ((n == b || is_among n bs) && not (is_among n after))
    stays e n (inl t) = rw (t.1, e) (both_true (is_among b bs) (b == b || is_among b bs))
    stays e n (inr t) = rw t.0 refl

    goes : is_among b after ≡ false → (n : ℕ) → (((n == b) ≡ true) × (n ≡ b)) ⊎ (((n == b) ≡ false) × (n ≢ b)) → (not (n == b) && not (is_among n bs && not (is_among n after))) ≡ not ((n == b || is_among n bs) && not (is_among n after))
    goes e n (inl t) = rw t.0 (rw t.1 (rw e refl))
    goes e n (inr t) = rw t.0 refl

    by_test : ((ys : List ℕ) → fold recorded_after ys (drops bs after) ≡ filter (λ n. not (is_among n bs && not (is_among n after))) ys) → (t : Bool) → is_among b after ≡ t
        → fold recorded_after (fold recorded_after xs (cond t [] (Forgets b ∷ []))) (drops bs after) ≡ filter (λ n. not ((n == b || is_among n bs) && not (is_among n after))) xs
    by_test told true e = told xs ∙ filter_same (λ n. not (is_among n bs && not (is_among n after))) _ xs (λ n u. stays e n (eqb_tells n b))
    by_test told false e =
        told (filter (λ n. not (n == b)) xs) ∙ filter_twice (λ n. not (n == b)) (λ n. not (is_among n bs && not (is_among n after))) xs
        ∙ filter_same (λ n. not (n == b) && not (is_among n bs && not (is_among n after))) _ xs (λ n u. goes e n (eqb_tells n b))

-- nogoods of one step are one, and none is of the step of what came
pub record Clear (m : Message) (before : List Record) : Type 0 where
  pub one : (x y : Record) → In x before → In y before → x.step ≡ y.step → x.pairs ≡ y.pairs
  pub new : (n : ℕ) → HasNew m n → In n (map (λ (x : Record). x.step) before) → ⊥

module _ (m : Message) (before after : List Record) (c : Changes m before after) (clear : Clear m before) where
  abbrev steps : List Record → List ℕ
  steps xs = map (λ (x : Record). x.step) xs

  abbrev rest : List Record
  rest = filter (λ (x : Record). c.passes x.pairs) before

  after_is : steps after ≡ steps rest ++ steps c.more
  after_is = ap steps c.is ∙ map-append (λ (x : Record). x.step) rest c.more

  there : (x : Record) → In x before → c.passes x.pairs ≡ true → is_among x.step (steps after) ≡ true
  there x u e = among x.step (steps after) (subst (In x.step) (sym after_is) (In-left x.step (steps rest) (steps c.more) (In-map (λ (y : Record). y.step) x rest (In-filter (λ (y : Record). c.passes y.pairs) x before u e))))

  gone : (x : Record) → In x before → c.passes x.pairs ≡ false → In x.step (steps after) → ⊥
  gone x u e v = elim (In-split x.step (steps rest) (steps c.more) (subst (In x.step) after_is v)) [
    | inl w ↦
        let r = In-from-map (λ (y : Record). y.step) x.step rest w in
        let s = filter-from (λ (y : Record). c.passes y.pairs) r.0 before r.1 in
        let same : c.passes x.pairs ≡ true = ap c.passes (clear.one x r.0 u s.0 r.2) ∙ s.1 in
        cc
    | inr w ↦
        let r = In-from-map (λ (y : Record). y.step) x.step c.more w in
        clear.new x.step (subst (HasNew m) (sym r.2) (of_added m c.more r.0 c.added r.1)) (In-map (λ (y : Record). y.step) x before u)
  ]

  -- what is told to be dropped is what was
  dropped : fold recorded_after (steps before) (drops (steps before) (steps after)) ≡ steps rest
  dropped =
      drops_told (steps before) (steps after) (steps before) ∙ filter_map (λ (x : Record). x.step) (λ n. not (is_among n (steps before) && not (is_among n (steps after)))) before
      ∙ ap steps (filter_same (λ (x : Record). not (is_among x.step (steps before) && not (is_among x.step (steps after)))) (λ (x : Record). c.passes x.pairs) before (λ x u. by_test x u (c.passes x.pairs) refl))
    where
      by_test : (x : Record) → In x before → (b : Bool) → c.passes x.pairs ≡ b → not (is_among x.step (steps before) && not (is_among x.step (steps after))) ≡ c.passes x.pairs
      by_test x u true e = rw (among x.step (steps before) (In-map (λ (y : Record). y.step) x before u), there x u e) (sym e)
      by_test x u false e = rw (among x.step (steps before) (In-map (λ (y : Record). y.step) x before u), not_among x.step (steps after) (gone x u e)) (sym e)

  old_step : (n : ℕ) → In n (steps rest) → In n (steps before)
  old_step n u =
      let r = In-from-map (λ (y : Record). y.step) n rest u in
      subst (λ x. In x (steps before)) (sym r.2) (In-map (λ (y : Record). y.step) r.0 before (filter-from (λ (y : Record). c.passes y.pairs) r.0 before r.1).0)

  -- what is told to be recorded is what was added
  answered : (k : ℕ) (xs : List ℕ) → fold recorded_after xs (answers (came_with (Some (k, m))) (steps after)) ≡ xs ++ steps c.more
  answered k xs = by_message m refl c.added
    where
      by_message : (x : Message) → m ≡ x → Added x c.more → fold recorded_after xs (answers (came_with (Some (k, x))) (steps after)) ≡ xs ++ steps c.more
      by_message (Tell told) e g = sym (ap (λ l. xs ++ steps l) g ∙ append-nil xs)
      by_message (Refuse step pairs) e (inl g) =
          let old : In step (steps after) → In step (steps before) = λ u. old_step step (subst (In step) (after_is ∙ ap (λ l. steps rest ++ steps l) g ∙ append-nil (steps rest)) u) in
          let no : is_among step (steps after) ≡ false = not_among step (steps after) (λ u. clear.new step (subst (λ y. HasNew y step) (sym e) refl) (old u)) in
          ap (λ (b : Bool). recorded_after (cond b (Keeps step) (Declines step)) xs) no ∙ sym (ap (λ l. xs ++ steps l) g ∙ append-nil xs)
      by_message (Refuse step pairs) e (inr g) =
          let yes : is_among step (steps after) ≡ true = among step (steps after) (subst (In step) (sym (after_is ∙ ap (λ l. steps rest ++ steps l) g)) (In-right step (steps rest) (step ∷ []) (inl refl))) in
          ap (λ (b : Bool). recorded_after (cond b (Keeps step) (Declines step)) xs) yes ∙ sym (ap (λ l. xs ++ steps l) g)
      by_message AddLink e g = sym (ap (λ l. xs ++ steps l) g ∙ append-nil xs)

  both_told : (k : ℕ) → fold recorded_after (fold recorded_after (steps before) (drops (steps before) (steps after))) (answers (came_with (Some (k, m))) (steps after)) ≡ steps after
  both_told k = ap (λ xs. fold recorded_after xs (answers (came_with (Some (k, m))) (steps after))) dropped ∙ answered k (steps rest) ∙ sym after_is

-- only what is dropped and recorded tells of them
recorded_part : (order : Option (List ℕ)) (p : Csp) (made : Option ℕ) (a : Act) (x : List ℕ)
    → fold recorded_after x (facts order p made a) ≡ fold recorded_after (fold recorded_after x (drops (steps_of a.before) (steps_of a.after))) (answers (came_with a.came) (steps_of a.after))
recorded_part order p made a x =
    let f = recorded_after in
    let d = drops (steps_of a.before) (steps_of a.after) in
    let n = answers (came_with a.came) (steps_of a.after) in
    in_parts f order p made a x ∙ pass_sends f (λ k c y. refl) a.sent _ ∙ pass_makes f (λ s y. refl) made _ ∙ pass_takes f (λ v y. refl) a.before.stamp a.after.stamp a.after.value _
    ∙ pass_rules_out f (λ s y. refl) (domain p a.agent) (reason_before p a.agent a.came a.before) (reason p a.agent a.after) _
    ∙ ap (λ y. fold f (fold f y d) n) (pass_learns f (λ k v y. refl) (named_in order a.came) a.before a.after _ ∙ pass_receives f (λ k c y. refl) (came_with a.came) x)

pub recorded_told : (order : Option (List ℕ)) (p : Csp) (made : Option ℕ) (i number : ℕ) (a : Agent) (k : ℕ) (m : Message) → Clear m a.recorded
    → fold recorded_after (steps_of a) (facts order p made (act_of i (Some (k, m)) a (receive p i number a k m))) ≡ steps_of (receive p i number a k m).agent
recorded_told order p made i number a k m clear =
    let o = receive p i number a k m in
    recorded_part order p made (act_of i (Some (k, m)) a o) (steps_of a) ∙ both_told m a.recorded o.agent.recorded (receive_changes p i number a k m) clear k

-- where nothing comes, and nothing is recorded
pub none_told : (order : Option (List ℕ)) (p : Csp) (made : Option ℕ) (i : ℕ) (a : Agent) (o : Outcome) → a.recorded ≡ [] → o.agent.recorded ≡ [] → fold recorded_after [] (facts order p made (act_of i None a o)) ≡ []
none_told order p made i a o e f = recorded_part order p made (act_of i None a o) [] ∙ ap (λ l. fold recorded_after [] (drops (map (λ (x : Record). x.step) l) (steps_of o.agent))) e
