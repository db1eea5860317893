-- Runs with different deliveries have different stories.
use Rattle.std.proofs.Common.{◌≡◌, ◌∙◌, ℕ, zero, suc, ◌+◌, ◌<◌, ◌≤◌, ◌^◌, false, true, List, [], ◌∷◌, length, map, slice_get, slice_index, take, Option, Some, None, inl, refl, sym, ap, subst, arith, codes, ◌++◌}
use Rattle.std.specs.List.{AllByRecursion, concat}
use Rattle.std.specs.Prelude.{◌≢◌, slice_index_or}
use Rattle.std.specs.Str.{byte}
use Rattle.std.proofs.lemmas.List.{length-map, take_all}
use Rattle.dcsp_defs.specs.Words.{In}
use Rattle.dcsp_defs.specs.Csp.{Csp, IsCsp, count}
use Rattle.abt_defs.specs.Agents.{Tell, Refuse, AddLink, Message}
use Rattle.abt_defs.specs.Runs.{Delivery, cargo_of, delivery_at, head_on, whole}
use Rattle.law_runs.specs.Deliverable.{AreTwoAgents, IsDeliverable}
use Rattle.law_runs.specs.Stops.{after, Stops}
use Rattle.law_runs.proofs.Joins.{links_join}
use Rattle.law_runs.proofs.SizeRuns.{sizes_hold}
use Rattle.law_runs.proofs.Stopping.{stops}
use Rattle.law_runs.proofs.Takes.{all_deliverable}
use Rattle.abt_session.specs.Order.{texts_from, told_text}
use Rattle.abt_session.specs.Running.{trace_told}
use Rattle.abt_session.specs.Sessions.{Session, network_after, run_of}
use Rattle.abt_session.specs.Traces.{delivery_texts, delivery_told, trace_line}
use Rattle.abt_session.specs.Tracing.{CargoFits, DeliveryFits, IsTraced, trace_text}
use Rattle.abt_session.specs.declared.telling.Telling.{Telling}
use Rattle.abt_session.proofs.Tracing.{traces_tell_deliveries}
use Rattle.abt_story.specs.Numbers.{deliveries_told, IsOrderOn}
use Rattle.abt_story.specs.Differing.{HasNames, StoriesDiffer, TellsTrace, TracesDiffer}
use Rattle.abt_story.specs.Retelling.{deliveries_in, lines_of}
use Rattle.abt_story.proofs.Bytes.{lines_differ}
use Rattle.abt_story.proofs.Numbers.{told_low, told_once}
use Rattle.abt_story.proofs.Once.{once_holds, steps_in}
use Rattle.abt_story.proofs.Runs.{Chosen, find_chosen, next_is}
use Rattle.abt_story.proofs.Traces.{deliveries_are_told}

within : {X : Type 0} (xs : List X) (k : ℕ) (x : X) → slice_get xs k ≡ Some x → k < length xs
within [] k x h = cc
within (y ∷ ys) zero x h = omega arith
within (y ∷ ys) (suc k) x h = let l = within ys k x h in omega arith

each_is : {X : Type 0} (P : X → Type 0) (xs : List X) → ((k : ℕ) (x : X) → slice_get xs k ≡ Some x → P x) → AllByRecursion P xs
each_is P [] h = tt
each_is P (x ∷ xs) h = (h 0 x refl, each_is P xs (λ k y e. h (suc k) y e))

one : {X : Type 0} {x y : X} → Some x ≡ Some y → x ≡ y
one e = cc

head : {X : Type 0} {x y : X} → x ∷ [] ≡ y ∷ [] → x ≡ y
head e = cc

module _ (p : Csp) (ok : IsCsp p) (names : HasNames p) (most : ℕ) (small : most ≤ 2 ^ 40) (choices : List ℕ) where
  -- a delivery's numbers are small
  fits : (k : ℕ) → k < (whole p most choices).net.deliveries → (s : Chosen p (slice_index choices k) (after p choices k)) → (after p choices k).refuted ≡ false → DeliveryFits (record { sender = s.sender; receiver = s.receiver; cargo = cargo_of s.message })
  fits k l s alive = record {
    sender = (let a = two.sender in let b = names.few in omega arith);
    receiver = (let a = two.receiver in let b = names.few in omega arith);
    cargo = by_message s.message refl;
  }
    where
      there : In s.message ((after p choices k).links s.sender s.receiver)
      there = subst (In s.message) (sym s.head) (inl refl)

      two : AreTwoAgents p s.sender s.receiver
      two = links_join p ok (take k choices) s.sender s.receiver s.message there

      deliverable : IsDeliverable p (after p choices k).steps s.sender s.receiver s.message
      deliverable = (all_deliverable p ok (take k choices) alive).messages s.sender s.receiver s.message there

      steps : length (after p choices k).steps ≤ k
      steps =
          let law : Stops p most choices (whole p most choices) = stops p most choices in
          let few = (sizes_hold p ok (take k choices)).fewer alive in
          let counted = law.counted k (omega arith) in omega arith

      by_message : (m : Message) → s.message ≡ m → CargoFits (cargo_of m)
      by_message (Tell told) e = let telling = subst (IsDeliverable p (after p choices k).steps s.sender s.receiver) e deliverable in names.values s.sender told.value two.sender telling.value_in
      by_message (Refuse step pairs) e =
          let in_list : In step (steps_in ((after p choices k).links s.sender s.receiver)) = subst (λ ms. In step (steps_in ms)) (sym (s.head ∙ ap (λ m. m ∷ s.rest) e)) (inl refl) in
          let made = (once_holds p (take k choices)).made s.sender s.receiver step in_list in
          let law : Stops p most choices (whole p most choices) = stops p most choices in
          let capped = law.at_most in
          let few = steps in omega arith
      by_message AddLink e = tt

  -- the delivery with number k
  record Place (k : ℕ) (d : Delivery) : Type 0 where
    inside : k < (whole p most choices).net.deliveries
    seat : Chosen p (slice_index choices k) (after p choices k)
    alive : (after p choices k).refuted ≡ false
    same : record { sender = seat.sender; receiver = seat.receiver; cargo = cargo_of seat.message } ≡ d

  place_of : (k : ℕ) (d : Delivery) → slice_get (whole p most choices).trace k ≡ Some d → Place k d
  place_of k d e =
      let law : Stops p most choices (whole p most choices) = stops p most choices in
      let long = law.trace in
      let inside = within (whole p most choices).trace k d e in
      let l : k < (whole p most choices).net.deliveries = omega arith in
      let n = next_is p most choices k l in
      let net = after p choices k in
      let s = find_chosen p (slice_index choices k) net n.made n.is_made in
      record {
        inside = l;
        seat = s;
        alive = n.alive;
        same = head (sym (ap (λ x. delivery_at x net) s.chosen ∙ ap (head_on s.sender s.receiver) s.head) ∙ n.is_made) ∙ one (sym n.traced ∙ e);
      }

  trace_fits : AllByRecursion DeliveryFits (whole p most choices).trace
  trace_fits = each_is DeliveryFits (whole p most choices).trace (λ k d e. let x = place_of k d e in subst DeliveryFits x.same (fits k x.inside x.seat x.alive))

  -- its agents are those of the problem
  abbrev IsLow : Delivery → Type 0
  IsLow d = (d.sender < count p) × (d.receiver < count p)

  low_at : (k : ℕ) (d : Delivery) → slice_get (whole p most choices).trace k ≡ Some d → IsLow d
  low_at k d e =
      let x = place_of k d e in
      let there : In x.seat.message ((after p choices k).links x.seat.sender x.seat.receiver) = subst (In x.seat.message) (sym x.seat.head) (inl refl) in
      let two = links_join p ok (take k choices) x.seat.sender x.seat.receiver x.seat.message there in
      subst IsLow x.same (two.sender, two.receiver)

  moved_fits : (order : List ℕ) → IsOrderOn (Some order) p → (d : Delivery) → IsLow d → DeliveryFits d → DeliveryFits (delivery_told (Some order) d)
  moved_fits order h d low f = record {
    sender = (let a = told_low (Some order) p h d.sender low.0 in let b = names.few in omega arith);
    receiver = (let a = told_low (Some order) p h d.receiver low.1 in let b = names.few in omega arith);
    cargo = f.cargo;
  }

  renumbered : (order : List ℕ) → IsOrderOn (Some order) p → (ds : List Delivery) → AllByRecursion IsLow ds → AllByRecursion DeliveryFits ds → AllByRecursion DeliveryFits (map (delivery_told (Some order)) ds)
  renumbered order h [] low f = tt
  renumbered order h (d ∷ ds) low f = (moved_fits order h d low.0 f.0, renumbered order h ds low.1 f.1)

  -- and so they are in its lines
  trace_low : AllByRecursion IsLow (whole p most choices).trace
  trace_low = each_is IsLow (whole p most choices).trace low_at

  trace_told_fits : (order : Option (List ℕ)) → IsOrderOn order p → AllByRecursion DeliveryFits (deliveries_told order (whole p most choices).trace)
  trace_told_fits None h = trace_fits
  trace_told_fits (Some order) h = renumbered order h (whole p most choices).trace trace_low trace_fits

  told_fits : (order : Option (List ℕ)) → IsOrderOn order p → AllByRecursion DeliveryFits (deliveries_in (lines_of order p choices (whole p most choices)))
  told_fits order h = subst (AllByRecursion DeliveryFits) (sym (deliveries_are_told order p most choices)) (trace_told_fits order h)

pub stories_differ : (order : Option (List ℕ)) (p : Csp) → StoriesDiffer order p
stories_differ order p ok h names most small choices others rest more e =
    told_once order p h (whole p most choices).trace (whole p most others).trace
    (sym (deliveries_are_told order p most choices)
    ∙ lines_differ (lines_of order p choices (whole p most choices)) (lines_of order p others (whole p most others)) (codes "nd " ++ rest) (codes "nd " ++ more) (told_fits p ok names most small choices order h) (told_fits p ok names most small others order h) e
    ∙ deliveries_are_told order p most others)

-- ---- traces

-- what tells of deliveries is their trace
texts_traced : (s : Session) → s.telling ≡ trace_told true → (k : ℕ) (ds : List Delivery) → concat (texts_from s k ds) ≡ trace_text k (map (delivery_told s.order) ds)
texts_traced s h k [] = refl
texts_traced s h k (d ∷ ds) =
    ap (λ (t : Telling). concat (delivery_texts t k (length (network_after s k).steps) (delivery_told s.order d) ++ texts_from s (k + 1) ds)) h
    ∙ ap (λ l. trace_line k (delivery_told s.order d) ++ l) (texts_traced s h (k + 1) ds)

all_told : (order : Option (List ℕ)) (ds : List Delivery) → map (delivery_told order) ds ≡ deliveries_told order ds
all_told None [] = refl
all_told None (d ∷ ds) = ap (λ l. d ∷ l) (all_told None ds)
all_told (Some order) ds = refl

told_long : (order : Option (List ℕ)) (ds : List Delivery) → length (deliveries_told order ds) ≡ length ds
told_long None ds = refl
told_long (Some order) ds = length-map ds (delivery_told (Some order))

module _ (s : Session) (tells : TellsTrace s) where
  abbrev traced : List Delivery
  traced = deliveries_told s.order (run_of s).trace

  trace_is : told_text s ≡ trace_text 1 traced
  trace_is =
      let law : Stops s.problem s.most s.choices (run_of s) = stops s.problem s.most s.choices in
      let long = law.trace in
      ap (λ ds. concat (texts_from s 1 ds)) (take_all (run_of s).net.deliveries (run_of s).trace (omega (arith, long)))
      ∙ texts_traced s tells.trace 1 (run_of s).trace ∙ ap (trace_text 1) (all_told s.order (run_of s).trace)

  is_traced : (answer : List ℕ) → slice_index_or answer 0 0 ≢ byte "%" → IsTraced traced answer
  is_traced answer other =
      let law : Stops s.problem s.most s.choices (run_of s) = stops s.problem s.most s.choices in
      let long = law.trace in
      let most = law.at_most in
      let few = tells.few in
      record {
        few = omega (arith, told_long s.order (run_of s).trace, long, most, few);
        fit = trace_told_fits s.problem tells.problem tells.names s.most tells.few s.choices s.order tells.order;
        other = other;
      }

pub traces_differ : TracesDiffer
traces_differ s t one_tells other_tells problem order answer other first second e =
    let same = (traces_tell_deliveries (traced s one_tells) (traced t other_tells) answer other (is_traced s one_tells answer first) (is_traced t other_tells other second)).0
    (ap (λ l. l ++ answer) (sym (trace_is s one_tells)) ∙ e ∙ ap (λ l. l ++ other) (trace_is t other_tells)) in
    (told_once s.order s.problem one_tells.order (run_of s).trace (run_of t).trace (same.0 ∙ ap (λ o. deliveries_told o (run_of t).trace) order), same.1)
