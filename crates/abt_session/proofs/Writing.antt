-- What the deliveries of a run write.
use Rattle.std.proofs.Common.{◌≡◌, ℕ, suc, ◌+◌, ◌-◌, ◌<◌, List, [], ◌∷◌, ◌++◌, drop, length, map, flat_map, Option, Some, slice_get, option_to_list, None, IfSome, ◌%◌, refl, sym, ap, ◌∙◌, length-append, arith}
use Rattle.std.specs.List.{range_with_len}
use Rattle.std.proofs.Math.Seq.{drop-append_seam}
use Rattle.std.proofs.lemmas.Option.{get_or_from_slice_get}
use Rattle.dcsp_defs.specs.Csp.{Csp}
use Rattle.dcsp_defs.specs.declared.Step.{Step}
use Rattle.abt_defs.specs.Agents.{Message}
use Rattle.abt_defs.specs.Network.{Network, ready, deliver, deliver_at, deliver_head}
use Rattle.abt_defs.specs.Runs.{Delivery, delivery, delivery_at, head_on}
use Rattle.law_runs.specs.Stops.{IsOpen}
use Rattle.dcsp_script.specs.Scripts.{Write}
use Rattle.abt_session.specs.declared.telling.Telling.{Telling}
use Rattle.dcsp_order.specs.Told.{steps_told}
use Rattle.abt_session.specs.Traces.{delivery_told}
use Rattle.abt_session.specs.Sessions.{Session, run_of, network_after, step_writes, telling_writes, steps_made, choice_writes, delivery_writes}
use Rattle.abt_session.proofs.Stopping.{ComesTo, one_more, not_fewer}

-- what a choice writes, by the step and the delivery that it makes
pub choice_writes_are : (order : Option (List ℕ)) (p : Csp) (log : List ℕ) (telling : Telling) (number c : ℕ) (net : Network) (d : Delivery) (made : Option Step) → delivery p c net ≡ d ∷ [] → (deliver p c net).steps ≡ net.steps ++ option_to_list made
    → choice_writes order p log telling number c net ≡ step_writes log (length net.steps + 1) (steps_told order (option_to_list made)) ++ telling_writes telling number (length (deliver p c net).steps) (delivery_told order d ∷ [])
choice_writes_are order p log telling number c net d made told steps =
    let fresh : steps_made p c net ≡ option_to_list made = ap (drop (length net.steps)) steps ∙ drop-append_seam net.steps (option_to_list made) in
    let after = length (deliver p c net).steps in
    ap (λ l. step_writes log (length net.steps + 1) (steps_told order l) ++ telling_writes telling number after (map (delivery_told order) (delivery p c net))) fresh
    ∙ ap (λ l. step_writes log (length net.steps + 1) (steps_told order (option_to_list made)) ++ telling_writes telling number after (map (delivery_told order) l)) told

-- the deliveries from number k on write
abbrev pub left_from : Session → ℕ → List Write
left_from s k = flat_map (delivery_writes s) (range_with_len k ((run_of s).net.deliveries - k))

module _ (s : Session) (k c : ℕ) (comes : ComesTo s k) (open_ : IsOpen s.problem (network_after s k)) (found : slice_get s.choices k ≡ Some c) (room : k < s.most) where
  -- the run makes this delivery
  pub is_made : k < (run_of s).net.deliveries
  is_made = let l = not_fewer s (k + 1) (one_more s k c comes open_ found room) in omega arith

  -- and then the later ones
  pub first_left : left_from s k ≡ choice_writes s.order s.problem s.log s.telling (k + 1) c (network_after s k) ++ left_from s (k + 1)
  first_left =
      let count = (run_of s).net.deliveries - (k + 1) in
      let more : (run_of s).net.deliveries - k ≡ suc count = let l = is_made in omega arith in
      ap (λ n. flat_map (delivery_writes s) (range_with_len k n)) more
      ∙ ap (λ x. choice_writes s.order s.problem s.log s.telling (k + 1) x (network_after s k) ++ flat_map (delivery_writes s) (range_with_len (k + 1) count)) (get_or_from_slice_get s.choices k c 0 found)

-- where the run ends none is left
pub none_left : (s : Session) (k : ℕ) → k ≡ (run_of s).net.deliveries → left_from s k ≡ []
none_left s k e =
    let none : (run_of s).net.deliveries - k ≡ 0 = omega arith in
    ap (λ n. flat_map (delivery_writes s) (range_with_len k n)) none

-- at first all are left
pub all_left : (s : Session) → left_from s 0 ≡ flat_map (delivery_writes s) (range_with_len 0 (run_of s).net.deliveries)
all_left s = let e : (run_of s).net.deliveries - 0 ≡ (run_of s).net.deliveries = omega arith in ap (λ n. flat_map (delivery_writes s) (range_with_len 0 n)) e

-- a choice that delivers is counted
pub told_counts : (p : Csp) (c : ℕ) (net : Network) (d : Delivery) → delivery p c net ≡ d ∷ [] → (deliver p c net).deliveries ≡ net.deliveries + 1
told_counts p c net d told = by_pair (slice_get (ready p net) (c % length (ready p net))) told
  where
    by_list : (x : ℕ × ℕ) (ms : List Message) → head_on x.0 x.1 ms ≡ d ∷ [] → (deliver_head p x.0 x.1 ms net).deliveries ≡ net.deliveries + 1
    by_list x [] e = cc
    by_list x (m ∷ ms) e = refl

    by_pair : (o : Option (ℕ × ℕ)) → delivery_at o net ≡ d ∷ [] → (deliver_at p o net).deliveries ≡ net.deliveries + 1
    by_pair None e = cc
    by_pair (Some x) e = by_list x (net.links x.0 x.1) e

-- no step is told where none was made, and one where one was
pub none_told : (order : Option (List ℕ)) → steps_told order [] ≡ []
none_told None = refl
none_told (Some order) = refl

-- a step that was made is told where one was
pub told_where : (P : Type 0) (order : Option (List ℕ)) (made told : Option Step) → option_to_list told ≡ steps_told order (option_to_list made) → IfSome made (λ s. P) → IfSome told (λ s. P)
told_where P order made None e h = tt
told_where P order (Some s) (Some t) e h = h
told_where P order None (Some t) e h = absurd (let none = e ∙ none_told order in cc)

-- the same writes by the numbers that the code has after the delivery, and by what it tells
pub writes_by_number : (order : Option (List ℕ)) (p : Csp) (log : List ℕ) (telling : Telling) (c : ℕ) (net : Network) (d seen : Delivery) (made told : Option Step) (steps deliveries : ℕ)
    → delivery p c net ≡ d ∷ [] → (deliver p c net).steps ≡ net.steps ++ option_to_list made → steps ≡ length (deliver p c net).steps → deliveries ≡ (deliver p c net).deliveries
    → seen ≡ delivery_told order d → option_to_list told ≡ steps_told order (option_to_list made)
    → step_writes log steps (option_to_list told) ++ telling_writes telling deliveries steps (seen ∷ []) ≡ choice_writes order p log telling (net.deliveries + 1) c net
writes_by_number order p log telling c net d seen made told steps deliveries is_told is n m e f =
    ap (λ l. step_writes log steps l ++ telling_writes telling deliveries steps (seen ∷ [])) f
    ∙ ap (λ x. step_writes log steps (steps_told order (option_to_list made)) ++ telling_writes telling deliveries steps (x ∷ [])) e
    ∙ ap (λ k. step_writes log steps (steps_told order (option_to_list made)) ++ telling_writes telling k steps (delivery_told order d ∷ [])) (m ∙ told_counts p c net d is_told)
    ∙ ap (λ j. step_writes log steps (steps_told order (option_to_list made)) ++ telling_writes telling (net.deliveries + 1) j (delivery_told order d ∷ [])) n
    ∙ ap (λ l. l ++ telling_writes telling (net.deliveries + 1) (length (deliver p c net).steps) (delivery_told order d ∷ [])) (by_step made (n ∙ ap length is))
    ∙ sym (choice_writes_are order p log telling (net.deliveries + 1) c net d made is_told is)
  where
    by_step : (o : Option Step) → steps ≡ length (net.steps ++ option_to_list o) → step_writes log steps (steps_told order (option_to_list o)) ≡ step_writes log (length net.steps + 1) (steps_told order (option_to_list o))
    by_step None e = ap (λ l. step_writes log steps l) (none_told order) ∙ sym (ap (λ l. step_writes log (length net.steps + 1) l) (none_told order))
    by_step (Some s) e = let f = length-append net.steps (s ∷ []) in let same : steps ≡ length net.steps + 1 = omega arith in ap (λ k. step_writes log k (steps_told order (s ∷ []))) same

-- the same numbers, the same writes
pub same_writes : (log : List ℕ) (telling : Telling) (made : Option Step) (ds : List Delivery) (steps others count counted : ℕ) → steps ≡ others → count ≡ counted
    → step_writes log steps (option_to_list made) ++ telling_writes telling count steps ds ≡ step_writes log others (option_to_list made) ++ telling_writes telling counted others ds
same_writes log telling made ds steps others count counted e f =
    ap (λ k. step_writes log steps (option_to_list made) ++ telling_writes telling k steps ds) f ∙ ap (λ n. step_writes log n (option_to_list made) ++ telling_writes telling counted n ds) e
