-- Whatever part of a run's script was made is in order.
use Rattle.std.proofs.Common.{◌≡◌, ◌≢◌, ℕ, zero, suc, ◌+◌, ◌-◌, ◌<◌, ◌≤◌, ◌%◌, List, [], ◌∷◌, ◌++◌, length, map, flat_map, take, drop, codes, Option, Some, None, slice_get, Result, refl, sym, ap, subst, ◌∙◌, append_assoc, append-nil, arith}
use Rattle.std.specs.Prelude.{Contains, slice_index}
use Rattle.std.specs.List.{concat, range_with_len}
use Rattle.std.specs.Cmp.Lexicographic.{bytes_decides}
use Rattle.std.proofs.Math.Seq.{drop-append_seam}
use Rattle.std.proofs.lemmas.Option.{get_or_from_slice_get}
use Rattle.std.proofs.lemmas.List.Folds.{concat-append}
use Rattle.dcsp_defs.specs.Csp.{Csp}
use Rattle.dcsp_defs.specs.declared.Step.{Step}
use Rattle.abt_defs.specs.Agents.{Message}
use Rattle.abt_defs.specs.Network.{Network, start, ready, deliver, deliver_at, deliver_head}
use Rattle.abt_defs.specs.Runs.{Delivery, delivery}
use Rattle.law_runs.specs.Stops.{Stops}
use Rattle.law_runs.proofs.Stopping.{stops}
use Rattle.ngd_log.specs.Logs.{step_lines, log_text}
use Rattle.ngd_log.specs.StepText.{step_line}
use Rattle.dcsp_outside.specs.Outside.{IsPrefixOf, Told}
use Rattle.dcsp_script.specs.declared.stop.Stop.{Stop}
use Rattle.dcsp_script.specs.Scripts.{Write, Create, Append, Put, World, file_after, put_by, created_by, FilesAfter}
use Rattle.dcsp_script.specs.Ways.{IsPartOf, DidPartOf, Wrote}
use Rattle.dcsp_script.specs.Texts.{LeavesAlone, OnlyAppends, HoldsPartOf, appended_by}
use Rattle.dcsp_script.proofs.After.{put_by-append}
use Rattle.dcsp_script.proofs.Parts.{wrote_part, put_of_part, part_within, part_past, part_leaves, left_alone}
use Rattle.dcsp_script.proofs.Texts.{appended_by-append, appends_to, part_appends, holds_part}
use Rattle.dcsp_order.specs.Told.{steps_told}
use Rattle.dcsp_order.proofs.Telling.{length-told, told-append}
use Rattle.abt_session.specs.Traces.{delivery_told, delivery_texts}
use Rattle.abt_session.specs.Sessions.{Session, run_of, network_after, step_writes, steps_made, delivery_writes, deliveries_write, run_script}
use Rattle.abt_session.specs.Order.{texts_from, told_of_first, told_text, log_of_first, IsShortOf, IsPast, HoldsAtMost, HoldsAtLeast, KeepsUp, WritesInOrder}
use Rattle.abt_session.proofs.Places.{at_place, some_at}
use Rattle.abt_session.proofs.Stopping.{after_next}

-- ---- scripts

only_appends-append : (log : List ℕ) (s t : List Write) → OnlyAppends s log → OnlyAppends t log → OnlyAppends (s ++ t) log
only_appends-append log [] t h k = k
only_appends-append log (w ∷ s) t h k = (h.0, only_appends-append log s t h.1 k)

pub leaves-append : (name : List ℕ) (s t : List Write) → LeavesAlone s name → LeavesAlone t name → LeavesAlone (s ++ t) name
leaves-append name [] t h k = k
leaves-append name (w ∷ s) t h k = (h.0, leaves-append name s t h.1 k)

module _ (log : List ℕ) where
  -- appends of lines
  append_lines_put : (lines : List (List ℕ)) → put_by (map (Append log) lines) ≡ []
  append_lines_put [] = refl
  append_lines_put (line ∷ lines) = append_lines_put lines

  append_lines : (lines : List (List ℕ)) → appended_by (map (Append log) lines) log ≡ concat lines
  append_lines [] = refl
  append_lines (line ∷ lines) = rw ((bytes_decides log log).1 refl) (ap (λ l. line ++ l) (append_lines lines))

  append_lines_only : (lines : List (List ℕ)) → OnlyAppends (map (Append log) lines) log
  append_lines_only [] = tt
  append_lines_only (line ∷ lines) = (tt, append_lines_only lines)

  pub append_lines_leave : (name : List ℕ) → (log ≡ name → ⊥) → (lines : List (List ℕ)) → LeavesAlone (map (Append log) lines) name
  append_lines_leave name other [] = tt
  append_lines_leave name other (line ∷ lines) = (other, append_lines_leave name other lines)

  -- puts of texts
  put_texts_put : (texts : List (List ℕ)) → put_by (map Put texts) ≡ concat texts
  put_texts_put [] = refl
  put_texts_put (text ∷ texts) = ap (λ l. text ++ l) (put_texts_put texts)

  put_texts_append : (texts : List (List ℕ)) → appended_by (map Put texts) log ≡ []
  put_texts_append [] = refl
  put_texts_append (text ∷ texts) = put_texts_append texts

  put_texts_only : (texts : List (List ℕ)) → OnlyAppends (map Put texts) log
  put_texts_only [] = tt
  put_texts_only (text ∷ texts) = (tt, put_texts_only texts)

  put_texts_leave : (name : List ℕ) (texts : List (List ℕ)) → LeavesAlone (map Put texts) name
  put_texts_leave name [] = tt
  put_texts_leave name (text ∷ texts) = ((λ e. e), put_texts_leave name texts)

-- ---- lines

pub step_lines-append : (number : ℕ) (a b : List Step) → step_lines number (a ++ b) ≡ step_lines number a ++ step_lines (number + length a) b
step_lines-append number [] b = let e : number ≡ number + 0 = omega arith in ap (λ n. step_lines n b) e
step_lines-append number (x ∷ a) b = let e : number + 1 + length a ≡ number + suc (length a) = omega arith in ap (λ l. step_line number x ∷ l) (step_lines-append (number + 1) a b ∙ ap (λ n. step_lines (number + 1) a ++ step_lines n b) e)

texts_from-append : (s : Session) (number : ℕ) (a b : List Delivery) → texts_from s number (a ++ b) ≡ texts_from s number a ++ texts_from s (number + length a) b
texts_from-append s number [] b = let e : number ≡ number + 0 = omega arith in ap (λ n. texts_from s n b) e
texts_from-append s number (x ∷ a) b =
    let e : number + 1 + length a ≡ number + suc (length a) = omega arith in
    let mine = delivery_texts s.telling number (length (network_after s number).steps) (delivery_told s.order x) in
    ap (λ l. mine ++ l) (texts_from-append s (number + 1) a b ∙ ap (λ n. texts_from s (number + 1) a ++ texts_from s n b) e)
    ∙ sym (append_assoc mine (texts_from s (number + 1) a) (texts_from s (number + suc (length a)) b))

-- ---- lists

length_first : {X : Type 0} (xs : List X) (n : ℕ) → n ≤ length xs → length (take n xs) ≡ n
length_first xs zero l = refl
length_first [] (suc n) l = absurd (omega arith)
length_first (x ∷ xs) (suc n) l = ap suc (length_first xs n (omega arith))

range_splits : (f : ℕ → List Write) (k n m : ℕ) → flat_map f (range_with_len k (n + m)) ≡ flat_map f (range_with_len k n) ++ flat_map f (range_with_len (k + n) m)
range_splits f k zero m = let e : k ≡ k + 0 = omega arith in let z : 0 + m ≡ m = omega arith in ap (λ i. flat_map f (range_with_len k i)) z ∙ ap (λ j. flat_map f (range_with_len j m)) e
range_splits f k (suc n) m =
    let z : suc n + m ≡ suc (n + m) = omega arith in
    let e : k + 1 + n ≡ k + suc n = omega arith in
    ap (λ i. flat_map f (range_with_len k i)) z ∙ ap (λ l. f k ++ l) (range_splits f (k + 1) n m ∙ ap (λ j. flat_map f (range_with_len (k + 1) n) ++ flat_map f (range_with_len j m)) e)
    ∙ sym (append_assoc (f k) (flat_map f (range_with_len (k + 1) n)) (flat_map f (range_with_len (k + suc n) m)))

first_range : (f : ℕ → List Write) (n m : ℕ) → flat_map f (range_with_len 0 (n + m)) ≡ flat_map f (range_with_len 0 n) ++ flat_map f (range_with_len n m)
first_range f n m = let e : 0 + n ≡ n = omega arith in range_splits f 0 n m ∙ ap (λ j. flat_map f (range_with_len 0 n) ++ flat_map f (range_with_len j m)) e

-- ---- the steps of a delivery

steps_grow : (p : Csp) (c : ℕ) (net : Network) → (made : List Step) × ((deliver p c net).steps ≡ net.steps ++ made)
steps_grow p c net = by_pair (slice_get (ready p net) (c % length (ready p net)))
  where
    by_list : (x : ℕ × ℕ) (ms : List Message) → (made : List Step) × ((deliver_head p x.0 x.1 ms net).steps ≡ net.steps ++ made)
    by_list x [] = ([], sym (append-nil net.steps))
    by_list x (m ∷ ms) = (_, refl)

    by_pair : (o : Option (ℕ × ℕ)) → (made : List Step) × ((deliver_at p o net).steps ≡ net.steps ++ made)
    by_pair None = ([], sym (append-nil net.steps))
    by_pair (Some x) = by_list x (net.links x.0 x.1)

steps_then : (p : Csp) (c : ℕ) (net : Network) → (deliver p c net).steps ≡ net.steps ++ steps_made p c net
steps_then p c net = let g = steps_grow p c net in g.1 ∙ ap (λ l. net.steps ++ l) (sym (ap (drop (length net.steps)) g.1 ∙ drop-append_seam net.steps g.0))

module _ (s : Session) where
  law : Stops s.problem s.most s.choices (run_of s)
  law = stops s.problem s.most s.choices

  -- what the first deliveries write, and what the later ones do and the log's end
  abbrev first_writes : ℕ → List Write
  first_writes n = flat_map (delivery_writes s) (range_with_len 0 n)

  abbrev later_writes : ℕ → List Write
  later_writes n = flat_map (delivery_writes s) (range_with_len n ((run_of s).net.deliveries - n)) ++ Append s.log (codes "end\n") ∷ []

  -- from the head of the log on
  abbrev front : ℕ → List Write
  front n = Append s.log (codes "ngd 1\n") ∷ (step_writes s.log 1 (steps_told s.order (start s.problem).steps) ++ first_writes n)

  cut : (n : ℕ) → n ≤ (run_of s).net.deliveries → run_script s ≡ (Create s.log ∷ front n) ++ later_writes n
  cut n l =
      let starts = step_writes s.log 1 (steps_told s.order (start s.problem).steps) in
      let last : List Write = Append s.log (codes "end\n") ∷ [] in
      let later = flat_map (delivery_writes s) (range_with_len n ((run_of s).net.deliveries - n)) in
      let e : (run_of s).net.deliveries ≡ n + ((run_of s).net.deliveries - n) = omega arith in
      let z : flat_map (delivery_writes s) (range_with_len 0 (run_of s).net.deliveries) ≡ first_writes n ++ later = ap (λ m. flat_map (delivery_writes s) (range_with_len 0 m)) e ∙ first_range (delivery_writes s) n ((run_of s).net.deliveries - n) in
      ap (λ l. Create s.log ∷ Append s.log (codes "ngd 1\n") ∷ (starts ++ l)) (ap (λ l. l ++ last) z ∙ append_assoc (first_writes n) later last)
      ∙ ap (λ l. Create s.log ∷ Append s.log (codes "ngd 1\n") ∷ l) (sym (append_assoc starts (first_writes n) (later ++ last)))

  -- one delivery more
  first_more : (n : ℕ) → first_writes (n + 1) ≡ first_writes n ++ delivery_writes s n
  first_more n = first_range (delivery_writes s) n 1 ∙ ap (λ l. first_writes n ++ l) (append-nil (delivery_writes s n))

  -- what is known of a delivery of the run
  record Made (k : ℕ) : Type 0 where
    told : Delivery
    is_told : delivery s.problem (slice_index s.choices k) (network_after s k) ≡ told ∷ []
    traced : take (k + 1) (run_of s).trace ≡ take k (run_of s).trace ++ told ∷ []
    next : network_after s (k + 1) ≡ deliver s.problem (slice_index s.choices k) (network_after s k)

  made_at : (k : ℕ) → k < (run_of s).net.deliveries → Made k
  made_at k l =
      let c = some_at s.choices k (let m = law.chosen in omega arith) in
      let d = law.delivers k c.0 l c.1 in
      let same : slice_index s.choices k ≡ c.0 = get_or_from_slice_get s.choices k c.0 0 c.1 in
      record {
        told = d.made;
        is_told = ap (λ x. delivery s.problem x (network_after s k)) same ∙ d.is_made;
        traced = (at_place (run_of s).trace k d.made d.traced).front;
        next = after_next s.problem s.choices k c.0 (law.open_before k l) c.1 ∙ ap (λ x. deliver s.problem x (network_after s k)) (sym same);
      }

  -- the steps that delivery k makes
  abbrev fresh : ℕ → List Step
  fresh k = steps_made s.problem (slice_index s.choices k) (network_after s k)

  abbrev fresh_lines : ℕ → List (List ℕ)
  fresh_lines k = step_lines (length (network_after s k).steps + 1) (steps_told s.order (fresh k))

  abbrev told_by : ℕ → List Delivery
  told_by k = map (delivery_told s.order) (delivery s.problem (slice_index s.choices k) (network_after s k))

  -- the texts that tell of it
  abbrev texts_by : ℕ → List (List ℕ)
  texts_by k = flat_map (delivery_texts s.telling (k + 1) (length (deliver s.problem (slice_index s.choices k) (network_after s k)).steps)) (told_by k)

  -- what a delivery puts and appends
  delivery_puts : (k : ℕ) → (m : Made k) → put_by (delivery_writes s k) ≡ concat (delivery_texts s.telling (k + 1) (length (network_after s (k + 1)).steps) (delivery_told s.order m.told))
  delivery_puts k m =
      put_by-append (map (Append s.log) (fresh_lines k)) (map Put (texts_by k))
      ∙ ap (λ l. l ++ put_by (map Put (texts_by k))) (append_lines_put s.log (fresh_lines k))
      ∙ put_texts_put s.log (texts_by k)
      ∙ ap (λ ds. concat (flat_map (delivery_texts s.telling (k + 1) (length (deliver s.problem (slice_index s.choices k) (network_after s k)).steps)) (map (delivery_told s.order) ds))) m.is_told
      ∙ ap concat (append-nil (delivery_texts s.telling (k + 1) (length (deliver s.problem (slice_index s.choices k) (network_after s k)).steps) (delivery_told s.order m.told)))
      ∙ ap (λ (x : Network). concat (delivery_texts s.telling (k + 1) (length x.steps) (delivery_told s.order m.told))) (sym m.next)

  delivery_appends : (k : ℕ) → appended_by (delivery_writes s k) s.log ≡ concat (fresh_lines k)
  delivery_appends k =
      appended_by-append (map (Append s.log) (fresh_lines k)) (map Put (texts_by k)) s.log
      ∙ ap (λ l. appended_by (map (Append s.log) (fresh_lines k)) s.log ++ l) (put_texts_append s.log (texts_by k))
      ∙ append-nil (appended_by (map (Append s.log) (fresh_lines k)) s.log) ∙ append_lines s.log (fresh_lines k)

  delivery_only : (k : ℕ) → OnlyAppends (delivery_writes s k) s.log
  delivery_only k = only_appends-append s.log (map (Append s.log) (fresh_lines k)) (map Put (texts_by k)) (append_lines_only s.log (fresh_lines k)) (put_texts_only s.log (texts_by k))

  delivery_leaves : (name : List ℕ) → (s.log ≡ name → ⊥) → (k : ℕ) → LeavesAlone (delivery_writes s k) name
  delivery_leaves name other k = leaves-append name (map (Append s.log) (fresh_lines k)) (map Put (texts_by k)) (append_lines_leave s.log name other (fresh_lines k)) (put_texts_leave s.log name (texts_by k))

  range_only : (k n : ℕ) → OnlyAppends (flat_map (delivery_writes s) (range_with_len k n)) s.log
  range_only k zero = tt
  range_only k (suc n) = only_appends-append s.log (delivery_writes s k) (flat_map (delivery_writes s) (range_with_len (k + 1) n)) (delivery_only k) (range_only (k + 1) n)

  range_leaves : (name : List ℕ) → (s.log ≡ name → ⊥) → (k n : ℕ) → LeavesAlone (flat_map (delivery_writes s) (range_with_len k n)) name
  range_leaves name other k zero = tt
  range_leaves name other k (suc n) = leaves-append name (delivery_writes s k) (flat_map (delivery_writes s) (range_with_len (k + 1) n)) (delivery_leaves name other k) (range_leaves name other (k + 1) n)

  -- the texts
  first_puts : (n : ℕ) → n ≤ (run_of s).net.deliveries → put_by (first_writes n) ≡ told_of_first s n
  first_puts zero l = refl
  first_puts (suc n) l =
      let m = made_at n (omega arith) in
      let e : suc n ≡ n + 1 = omega arith in
      let first = take n (run_of s).trace in
      let long : n ≤ length (run_of s).trace = let t = law.trace in omega arith in
      let count : 1 + length first ≡ n + 1 = let z = length_first (run_of s).trace n long in omega arith in
      let mine = delivery_texts s.telling (n + 1) (length (network_after s (n + 1)).steps) (delivery_told s.order m.told) in
      ap (λ i. put_by (first_writes i)) e ∙ ap put_by (first_more n) ∙ put_by-append (first_writes n) (delivery_writes s n)
      ∙ ap (λ l. l ++ put_by (delivery_writes s n)) (first_puts n (omega arith)) ∙ ap (λ l. told_of_first s n ++ l) (delivery_puts n m)
      ∙ sym (ap (λ ds. concat (texts_from s 1 ds)) m.traced ∙ ap concat (texts_from-append s 1 first (m.told ∷ [])) ∙ concat-append (texts_from s 1 first) (texts_from s (1 + length first) (m.told ∷ []))
      ∙ ap (λ i. concat (texts_from s 1 first) ++ concat (texts_from s i (m.told ∷ []))) count ∙ ap (λ t. concat (texts_from s 1 first) ++ concat t) (append-nil mine))
      ∙ ap (told_of_first s) (sym e)

  first_appends : (n : ℕ) → n ≤ (run_of s).net.deliveries → concat (step_lines 1 (steps_told s.order (start s.problem).steps)) ++ appended_by (first_writes n) s.log ≡ concat (step_lines 1 (steps_told s.order (network_after s n).steps))
  first_appends zero l = append-nil (concat (step_lines 1 (steps_told s.order (start s.problem).steps)))
  first_appends (suc n) l =
      let m = made_at n (omega arith) in
      let e : suc n ≡ n + 1 = omega arith in
      let starts = concat (step_lines 1 (steps_told s.order (start s.problem).steps)) in
      let here = steps_told s.order (network_after s n).steps in
      let made = steps_told s.order (fresh n) in
      let count : 1 + length here ≡ length (network_after s n).steps + 1 = let z = length-told s.order (network_after s n).steps in omega arith in
      let steps : steps_told s.order (network_after s (n + 1)).steps ≡ here ++ made =
      ap (λ (x : Network). steps_told s.order x.steps) m.next ∙ ap (steps_told s.order) (steps_then s.problem (slice_index s.choices n) (network_after s n)) ∙ told-append s.order (network_after s n).steps (fresh n)
      in
      ap (λ i. starts ++ appended_by (first_writes i) s.log) e ∙ ap (λ w. starts ++ appended_by w s.log) (first_more n) ∙ ap (λ l. starts ++ l) (appended_by-append (first_writes n) (delivery_writes s n) s.log)
      ∙ sym (append_assoc starts (appended_by (first_writes n) s.log) (appended_by (delivery_writes s n) s.log)) ∙ ap (λ l. l ++ appended_by (delivery_writes s n) s.log) (first_appends n (omega arith))
      ∙ ap (λ l. concat (step_lines 1 here) ++ l) (delivery_appends n)
      ∙ sym (ap (λ l. concat (step_lines 1 l)) steps ∙ ap concat (step_lines-append 1 here made) ∙ concat-append (step_lines 1 here) (step_lines (1 + length here) made) ∙ ap (λ i. concat (step_lines 1 here) ++ concat (step_lines i made)) count)
      ∙ ap (λ i. concat (step_lines 1 (steps_told s.order (network_after s i).steps))) (sym e)

  front_puts : (n : ℕ) → n ≤ (run_of s).net.deliveries → put_by (front n) ≡ told_of_first s n
  front_puts n l = put_by-append (step_writes s.log 1 (steps_told s.order (start s.problem).steps)) (first_writes n) ∙ ap (λ l. l ++ put_by (first_writes n)) (append_lines_put s.log (step_lines 1 (steps_told s.order (start s.problem).steps))) ∙ first_puts n l

  front_only : (n : ℕ) → OnlyAppends (front n) s.log
  front_only n = (tt, only_appends-append s.log (step_writes s.log 1 (steps_told s.order (start s.problem).steps)) (first_writes n) (append_lines_only s.log (step_lines 1 (steps_told s.order (start s.problem).steps))) (range_only 0 n))

  front_appends : (n : ℕ) → n ≤ (run_of s).net.deliveries → appended_by (front n) s.log ≡ log_of_first s n
  front_appends n l =
      let starts = step_lines 1 (steps_told s.order (start s.problem).steps) in
      rw ((bytes_decides s.log s.log).1 refl) (ap (λ t. codes "ngd 1\n" ++ t) (appended_by-append (step_writes s.log 1 (steps_told s.order (start s.problem).steps)) (first_writes n) s.log ∙ ap (λ t. t ++ appended_by (first_writes n) s.log) (append_lines s.log starts) ∙ first_appends n l))

  -- of the whole script
  whole_is : run_script s ≡ Create s.log ∷ (front (run_of s).net.deliveries ++ Append s.log (codes "end\n") ∷ [])
  whole_is =
      let all : (run_of s).net.deliveries ≤ (run_of s).net.deliveries = omega arith in
      let none : (run_of s).net.deliveries - (run_of s).net.deliveries ≡ 0 = omega arith in
      cut (run_of s).net.deliveries all ∙ ap (λ m. (Create s.log ∷ front (run_of s).net.deliveries) ++ (flat_map (delivery_writes s) (range_with_len (run_of s).net.deliveries m) ++ Append s.log (codes "end\n") ∷ [])) none

  pub whole_puts : put_by (run_script s) ≡ told_text s
  whole_puts =
      let d = (run_of s).net.deliveries in
      let all : (run_of s).net.deliveries ≤ (run_of s).net.deliveries = omega arith in
      ap put_by whole_is ∙ put_by-append (front d) (Append s.log (codes "end\n") ∷ []) ∙ append-nil (put_by (front d)) ∙ front_puts d all

  whole_appends : appended_by (front (run_of s).net.deliveries ++ Append s.log (codes "end\n") ∷ []) s.log ≡ log_text (steps_told s.order (run_of s).net.steps)
  whole_appends =
      let d = (run_of s).net.deliveries in
      let all : (run_of s).net.deliveries ≤ (run_of s).net.deliveries = omega arith in
      let last : appended_by (Append s.log (codes "end\n") ∷ []) s.log ≡ codes "end\n" = rw ((bytes_decides s.log s.log).1 refl) refl in
      appended_by-append (front d) (Append s.log (codes "end\n") ∷ []) s.log ∙ ap (λ t. t ++ appended_by (Append s.log (codes "end\n") ∷ []) s.log) (front_appends d all) ∙ ap (λ t. log_of_first s d ++ t) last
      ∙ ap (λ (x : Network). log_text (steps_told s.order x.steps)) (sym law.net)

  later_only : (n : ℕ) → OnlyAppends (later_writes n) s.log
  later_only n = only_appends-append s.log (flat_map (delivery_writes s) (range_with_len n ((run_of s).net.deliveries - n))) (Append s.log (codes "end\n") ∷ []) (range_only n ((run_of s).net.deliveries - n)) (tt, tt)

  pub whole_leaves : (name : List ℕ) → (s.log ≡ name → ⊥) → LeavesAlone (run_script s) name
  whole_leaves name other =
      let d = (run_of s).net.deliveries in (
        other,
        (
          other,
          leaves-append name (step_writes s.log 1 (steps_told s.order (start s.problem).steps)) (deliveries_write s ++ Append s.log (codes "end\n") ∷ []) (append_lines_leave s.log name other (step_lines 1 (steps_told s.order (start s.problem).steps)))
              (leaves-append name (deliveries_write s) (Append s.log (codes "end\n") ∷ []) (range_leaves name other 0 d) (other, tt)),
        ),
      )

  -- the log after its creation
  log_after : (w : List Write) (file : Option (List ℕ)) → OnlyAppends w s.log → file_after (Create s.log ∷ w) s.log file ≡ Some (appended_by w s.log)
  log_after w file k = rw ((bytes_decides s.log s.log).1 refl) (appends_to w s.log [] k)

  -- and a first log is a first part of the whole log
  pub log_begins : (n : ℕ) → n ≤ (run_of s).net.deliveries → IsPrefixOf (log_of_first s n) (log_text (steps_told s.order (run_of s).net.steps))
  log_begins n l = (
    appended_by (later_writes n) s.log,
    ap (λ t. t ++ appended_by (later_writes n) s.log) (sym (front_appends n l)) ∙ sym (appended_by-append (Create s.log ∷ front n) (later_writes n) s.log)
        ∙ ap (λ w. appended_by w s.log) (sym (cut n l)) ∙ ap (λ w. appended_by w s.log) whole_is ∙ whole_appends,
  )

  -- the log after the whole script
  pub log_whole : (file : Option (List ℕ)) → file_after (run_script s) s.log file ≡ Some (log_text (steps_told s.order (run_of s).net.steps))
  log_whole file =
      let d = (run_of s).net.deliveries in
      let last : List Write = Append s.log (codes "end\n") ∷ [] in
      let only : OnlyAppends (front d ++ last) s.log = only_appends-append s.log (front d) last (front_only d) (tt, tt) in
      ap (λ w. file_after w s.log file) whole_is ∙ log_after (front d ++ last) file only ∙ ap Some whole_appends

  -- the front with one delivery more is a script that ends with the line of its step, and then puts
  abbrev with_step : ℕ → List Write
  with_step k = front k ++ map (Append s.log) (fresh_lines k)

  front_more : (k : ℕ) → front (k + 1) ≡ with_step k ++ map Put (texts_by k)
  front_more k =
      let starts = step_writes s.log 1 (steps_told s.order (start s.problem).steps) in
      let lines = map (Append s.log) (fresh_lines k) in
      let last = map Put (texts_by k) in
      ap (λ l. Append s.log (codes "ngd 1\n") ∷ l) (ap (λ l. starts ++ l) (first_more k) ∙ sym (append_assoc starts (first_writes k) (lines ++ last)) ∙ sym (append_assoc (starts ++ first_writes k) lines last))

  with_step_puts : (k : ℕ) → k ≤ (run_of s).net.deliveries → put_by (with_step k) ≡ told_of_first s k
  with_step_puts k l = put_by-append (front k) (map (Append s.log) (fresh_lines k)) ∙ ap (λ t. put_by (front k) ++ t) (append_lines_put s.log (fresh_lines k)) ∙ append-nil (put_by (front k)) ∙ front_puts k l

  with_step_appends : (k : ℕ) → k < (run_of s).net.deliveries → appended_by (with_step k) s.log ≡ log_of_first s (k + 1)
  with_step_appends k l =
      let within : k + 1 ≤ (run_of s).net.deliveries = omega arith in
      sym (append-nil (appended_by (with_step k) s.log)) ∙ ap (λ t. appended_by (with_step k) s.log ++ t) (sym (put_texts_append s.log (texts_by k)))
      ∙ sym (appended_by-append (with_step k) (map Put (texts_by k)) s.log) ∙ ap (λ w. appended_by w s.log) (sym (front_more k)) ∙ front_appends (k + 1) within

  with_step_only : (k : ℕ) → OnlyAppends (with_step k) s.log
  with_step_only k = only_appends-append s.log (front k) (map (Append s.log) (fresh_lines k)) (front_only k) (append_lines_only s.log (fresh_lines k))

  module _ (part : List Write) (is_part : IsPartOf part (run_script s)) where
    told_part : IsPrefixOf (put_by part) (told_text s)
    told_part = subst (λ t. IsPrefixOf (put_by part) t) whole_puts (put_of_part part (run_script s) is_part)

    -- what tells of the first deliveries is a first part of what tells of all
    pub first_begins : (n : ℕ) → n ≤ (run_of s).net.deliveries → IsPrefixOf (told_of_first s n) (told_text s)
    first_begins n l = (put_by (later_writes n), ap (λ t. t ++ put_by (later_writes n)) (sym (front_puts n l)) ∙ sym (put_by-append (front n) (later_writes n)) ∙ ap put_by (sym (cut n l)) ∙ whole_puts)

    module _ (files now : List ℕ → Option (List ℕ)) (holds : FilesAfter part files now) where
      log_part : HoldsPartOf s.log (log_text (steps_told s.order (run_of s).net.steps)) (Contains (created_by part) s.log) (files s.log) (now s.log)
      log_part =
          let d = (run_of s).net.deliveries in
          let body = front d ++ Append s.log (codes "end\n") ∷ [] in
          let only : OnlyAppends (front d ++ Append s.log (codes "end\n") ∷ []) s.log = only_appends-append s.log (front d) (Append s.log (codes "end\n") ∷ []) (front_only d) (tt, tt) in
          let h = holds_part part [] body s.log (files s.log) tt only (subst (λ l. IsPartOf part l) whole_is is_part) in
          subst (λ f. HoldsPartOf s.log (log_text (steps_told s.order (run_of s).net.steps)) (Contains (created_by part) s.log) (files s.log) f) (sym (holds s.log))
          (subst (λ t. HoldsPartOf s.log t (Contains (created_by part) s.log) (files s.log) (file_after part s.log (files s.log))) whole_appends h)

      others : (name : List ℕ) → name ≢ s.log → now name ≡ files name
      others name ne = holds name ∙ left_alone part name (files name) (part_leaves part (run_script s) name is_part (whole_leaves name (λ e. ne (sym e))))

      not_ahead : (n : ℕ) → IsShortOf s n (put_by part) → Contains (created_by part) s.log → HoldsAtMost (now s.log) (log_of_first s n)
      not_ahead n short created =
          let within : n ≤ (run_of s).net.deliveries = short.0 in
          let few : length (put_by part) < length (put_by (front n)) = subst (λ t. length (put_by part) < length t) (sym (front_puts n within)) short.1 in
          let inside = part_within part (Create s.log ∷ front n) (later_writes n) (subst (λ l. IsPartOf part l) (cut n within) is_part) few in
          let c = (holds_part part [] (front n) s.log (files s.log) tt (front_only n) inside).created created in
          (c.0, subst (λ t. IsPrefixOf c.0 t) (front_appends n within) c.1, holds s.log ∙ c.2)

      not_behind : (n : ℕ) → IsPast s n (put_by part) → HoldsAtLeast (now s.log) (log_of_first s (n + 1))
      not_behind n past =
          let below : n < (run_of s).net.deliveries = past.0 in
          let within : n + 1 ≤ (run_of s).net.deliveries = omega arith in
          let few : n ≤ (run_of s).net.deliveries = omega arith in
          let rest = map Put (texts_by n) ++ later_writes (n + 1) in
          let split : run_script s ≡ (Create s.log ∷ with_step n) ++ rest =
          cut (n + 1) within ∙ ap (λ l. Create s.log ∷ (l ++ later_writes (n + 1))) (front_more n) ∙ ap (λ l. Create s.log ∷ l) (append_assoc (with_step n) (map Put (texts_by n)) (later_writes (n + 1))) in
          let more : length (put_by (with_step n)) < length (put_by part) = subst (λ t. length t < length (put_by part)) (sym (with_step_puts n few)) past.1 in
          let at = part_past part (Create s.log ∷ with_step n) rest (subst (λ l. IsPartOf part l) split is_part) more in
          let later : OnlyAppends rest s.log = only_appends-append s.log (map Put (texts_by n)) (later_writes (n + 1)) (put_texts_only s.log (texts_by n)) (later_only (n + 1)) in
          let only : OnlyAppends (with_step n ++ at.0) s.log = only_appends-append s.log (with_step n) at.0 (with_step_only n) (part_appends at.0 rest s.log at.2 later) in
          let text : appended_by (with_step n ++ at.0) s.log ≡ log_of_first s (n + 1) ++ appended_by at.0 s.log = appended_by-append (with_step n) at.0 s.log ∙ ap (λ t. t ++ appended_by at.0 s.log) (with_step_appends n below) in
          (log_of_first s (n + 1) ++ appended_by at.0 s.log, (appended_by at.0 s.log, refl), holds s.log ∙ ap (λ l. file_after l s.log (files s.log)) at.1 ∙ log_after (with_step n ++ at.0) (files s.log) only ∙ ap Some text)

      pub keeps_up : KeepsUp s (put_by part) (Contains (created_by part) s.log) files now
      keeps_up = record { log_part = log_part; others = others; not_ahead = not_ahead; not_behind = not_behind }

  pub told_so : {A : Type 0} (x y : Option A) (P Q : A → A → Type 0) → ((a b : A) → P a b → Q a b) → Told x y P → Told x y Q
  told_so (Some a) (Some b) P Q f h = f a b h
  told_so (Some a) None P Q f h = h
  told_so None (Some b) P Q f h = h
  told_so None None P Q f h = h

  -- the same of the outside before and after
  pub part_in_order : (a b : World) → DidPartOf (run_script s) a b → WritesInOrder s a b
  part_in_order a b d = record {
    names = created_by d.part;
    created = d.after.created;
    gained = put_by d.part;
    out = d.after.out;
    told_part = told_part d.part d.is_part;
    files = told_so a.folder.held b.folder.held (FilesAfter d.part) (KeepsUp s (put_by d.part) (Contains (created_by d.part) s.log)) (λ files now holds. keeps_up d.part d.is_part files now holds) d.after.files;
  }

  pub wrote_in_order : {T : Type 0} {a b : World} {r : Result T Stop} → Wrote (run_script s) a b r → WritesInOrder s a b
  wrote_in_order {T = T} {a = a} {b = b} {r = r} w = part_in_order a b (wrote_part {T = T} {s = run_script s} {a = a} {b = b} {r = r} w)
