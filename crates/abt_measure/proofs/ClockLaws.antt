-- The code's clocks after an event.
use Rattle.std.proofs.Common.{◌≡◌, ℕ, ◌<◌, ◌==◌, ◌&&◌, cond, inl, inr, List, ◌++◌, length, get_or, set, max, Result, Ok, Err, ap, ◌∙◌}
use Rattle.std.specs.Prelude.{OnOk}
use Rattle.std.proofs.lemmas.Bool.Decides.{eqb_tells}
use Rattle.std.proofs.lemmas.List.{get_or-set_same, get_or-set_other}
use Rattle.std.proofs.Math.Path.{fun_ext}
use Rattle.dcsp_defs.specs.Words.{update}
use Rattle.abt_defs.specs.Clocks.{Clocks, Event, rest_of, is_from, clock_after, carried_after, tick}
use Rattle.abt_measure.specs.declared.carried.Carried.{Carried}
use Rattle.abt_measure.specs.Carrying.{clocks_on, sent_with}
use Rattle.abt_measure.specs.Clocks.{ClockState, clocks_of}

replaced : (xs : List ℕ) (i y k : ℕ) → i < length xs → get_or (set xs i y) k 0 ≡ cond (k == i) y (get_or xs k 0)
replaced xs i y k l = elim (eqb_tells k i) [
  | inl t ↦ rw t.0 (ap (λ z. get_or (set xs i y) z 0) t.1 ∙ get_or-set_same xs i y 0 l)
  | inr t ↦ rw t.0 (get_or-set_other xs i k y 0 t.1)
]

alike : (f g : ℕ → ℕ) (h k : ℕ → ℕ → List ℕ) (x y : ℕ) → f ≡ g → h ≡ k → x ≡ y
    → (let a : Clocks = record { of_agent = f; carried = h; greatest = x } in let b : Clocks = record { of_agent = g; carried = k; greatest = y } in a ≡ b)
alike f g h k x y p q r =
    let mk = λ (f : ℕ → ℕ) (h : ℕ → ℕ → List ℕ) (x : ℕ). (let c : Clocks = record { of_agent = f; carried = h; greatest = x } in c) in
    let one : mk f h x ≡ mk g h x = ap (λ (z : ℕ → ℕ). mk z h x) p in
    let two : mk g h x ≡ mk g k x = ap (λ (z : ℕ → ℕ → List ℕ). mk g z x) q in
    let three : mk g k x ≡ mk g k y = ap (mk g k) r in
    one ∙ two ∙ three

module _ (old new : ClockState) (mid : List (List Carried)) (latency : ℕ) (e : Event) (clock : ℕ) where
  pub ticked : e.agent < length old.agents → clock ≡ clock_after latency e (clocks_of old) → new.agents ≡ set old.agents e.agent clock → new.greatest ≡ max old.greatest clock
      → ((a b : ℕ) → clocks_on mid a b ≡ cond (is_from a e.sender && b == e.agent) (rest_of (clocks_on old.lists a b)) (clocks_on old.lists a b))
      → ((a b : ℕ) → clocks_on new.lists a b ≡ clocks_on mid a b ++ sent_with e.agent clock e.receivers a b)
      → clocks_of new ≡ tick latency e (clocks_of old)
  ticked inside is agents greatest taken sent =
      alike (λ k. get_or new.agents k 0) (update (λ k. get_or old.agents k 0) e.agent (clock_after latency e (clocks_of old))) (clocks_on new.lists) (carried_after latency e (clocks_of old)) new.greatest (max old.greatest (clock_after latency e (clocks_of old)))
      (fun_ext (λ k. ap (λ l. get_or l k 0) agents ∙ replaced old.agents e.agent clock k inside ∙ ap (λ z. cond (k == e.agent) z (get_or old.agents k 0)) is))
      (fun_ext (λ a. fun_ext (λ b. sent a b ∙ ap (λ l. l ++ sent_with e.agent clock e.receivers a b) (taken a b)
      ∙ ap (λ z. cond (is_from a e.sender && b == e.agent) (rest_of (clocks_on old.lists a b)) (clocks_on old.lists a b) ++ sent_with e.agent z e.receivers a b) is)))
      (greatest ∙ ap (max old.greatest) is)

-- what follows where there is an answer
pub on_ok : {T E A B : Type 0} → (r : Result T E) → OnOk r A → (A → B) → OnOk r B
on_ok (Ok x) h f = f h
on_ok (Err e) h f = tt

pub on_two : {T E A B C : Type 0} → (r : Result T E) → OnOk r A → OnOk r B → (A → B → C) → OnOk r C
on_two (Ok x) h g f = f h g
on_two (Err e) h g f = tt
