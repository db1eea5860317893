-- The loop of a run that is told, and its whole script.
use Rattle.std.proofs.Common.{◌≡◌, ◌∙◌, ℕ, zero, suc, ◌+◌, ◌-◌, ◌<◌, ◌≤◌, ◌^◌, List, [], ◌∷◌, ◌++◌, take, map, slice_get, flat_map, Option, Some, None, Result, Ok, Err, ◌⊎◌, inl, inr, refl, sym, ap, subst, arith, append_assoc}
use Rattle.std.specs.Prelude.{IsErr, IsErrAnd}
use Rattle.std.specs.List.{range_with_len}
use Rattle.std.proofs.lemmas.Option.{get_or_from_slice_get}
use Rattle.dcsp_defs.specs.Words.{below}
use Rattle.dcsp_outside.specs.Outside.{Place, Stream}
use Rattle.dcsp_rule.specs.Problems.{Contents, csp_of}
use Rattle.dcsp_script.specs.declared.stop.Stop.{Stop}
use Rattle.dcsp_script.specs.Scripts.{Write, Append, Create, Put, World, outside}
use Rattle.dcsp_script.specs.Ways.{Wrote}
use Rattle.dcsp_script.specs.Left.{HasLeft}
use Rattle.dcsp_script.proofs.Lines.{first_stopped, first_wrote, then_rest, then_stopped, wrote_nothing}
use Rattle.dcsp_script.proofs.Ways.{did_nothing}
use Rattle.dcsp_script.proofs.Left.{left_all, left_ends, left_more, left_stopped}
use Rattle.abt_defs.specs.Network.{Network, run, start}
use Rattle.abt_defs.specs.Runs.{whole}
use Rattle.law_runs.specs.Stops.{IsOpen, Stops}
use Rattle.law_runs.proofs.Stopping.{stops}
use Rattle.abt_network.specs.declared.Standing.{Standing}
use Rattle.abt_network.specs.declared.Standing.TheVariants as standing
use Rattle.abt_network.specs.Standing.{NetworkState, StandsAt, standing_of}
use Rattle.abt_session.specs.Answers.{first_answers}
use Rattle.abt_session.specs.Sessions.{Session, network_after, run_of}
use Rattle.abt_session.specs.Running.{nothing_told, session_of}
use Rattle.abt_session.proofs.Pieces.{wrote_as}
use Rattle.abt_session.proofs.Places.{answers_at, at_place, past_end}
use Rattle.abt_session.proofs.Stopping.{ComesTo, ends_here, not_fewer, one_more, stops_here}
use Rattle.abt_session.proofs.Turns.{is_open, is_quiet, is_refuted}
use Rattle.abt_story.specs.Telling.{delivery_lines, lines_at, start_lines}
use Rattle.line_story.specs.StoryPromise.{end_line, end_script, event_write, head, listed, most_told, some_write, story_line, story_script, told_end, told_events, told_run}
use Rattle.line_story.specs.Telling.{begin_script, deliveries_write}

module _ (P : Contents) (most : ℕ) (answers : ℕ → Option ℕ) (file : List ℕ) (order : Option (List ℕ)) where
  abbrev pub s : Session
  s = session_of None P most answers [] nothing_told

  law : Stops s.problem s.most s.choices (run_of s)
  law = stops s.problem s.most s.choices

  abbrev pub writes : ℕ → List Write
  writes k = event_write file (lines_at order (csp_of P) (first_answers most answers) k)

  abbrev pub all_writes : List Write
  all_writes = deliveries_write file order (csp_of P) most (first_answers most answers)

  -- the deliveries from number k on write
  abbrev pub left_from : ℕ → List Write
  left_from k = flat_map writes (range_with_len k ((run_of s).net.deliveries - k))

  -- so many deliveries were made
  pub record Far (k : ℕ) (to_come : ℕ → Option ℕ) (network : NetworkState) (a b : Place) : Type 0 where
    pub comes : ComesTo s k
    pub stands : StandsAt network (network_after s k)
    pub left : (out : Stream) → HasLeft all_writes (left_from k) (outside a out) (outside b out)
    pub behind : (j : ℕ) → to_come j ≡ answers (k + j)

  pub at_start : (network : NetworkState) (a : Place) → StandsAt network (start (csp_of P)) → Far 0 answers network a a
  at_start network a h = record {
    comes = record { opened = λ j l. absurd (omega arith); chosen = omega arith; room = omega arith };
    stands = h;
    left = λ out. let e : (run_of s).net.deliveries - 0 ≡ (run_of s).net.deliveries = omega arith in subst (λ n. HasLeft all_writes (flat_map writes (range_with_len 0 n)) (outside a out) (outside a out)) (sym e) (left_all all_writes (outside a out));
    behind = λ j. let n : j ≡ 0 + j = omega arith in ap answers n;
  }

  module _ (k : ℕ) (to_come : ℕ → Option ℕ) (network : NetworkState) (a b : Place) (h : Far k to_come network a b) where
    -- the run has ended
    abbrev pub Ends : Type 0
    Ends = k ≡ (run_of s).net.deliveries

    -- all was written
    pub wrote_all : {T : Type 0} (x : T) (out : Stream) → Ends → Wrote all_writes (outside a out) (outside b out) (Ok x)
    wrote_all x out e =
        let none : (run_of s).net.deliveries - k ≡ 0 = omega arith in
        left_ends (left_from k) (ap (λ n. flat_map writes (range_with_len k n)) none) (h.left out) (record { ended = did_nothing (outside b out); handed = refl })

    -- the network stands where the run ends
    pub stands_last : Ends → StandsAt network (run_of s).net
    stands_last e = subst (StandsAt network) (ap (network_after s) e ∙ sym law.net) h.stands

    pub few : most ≤ 2 ^ 40 → network.deliveries < 2 ^ 48
    few small = let e = h.stands.deliveries in let l = not_fewer s k h.comes in let c = law.counted k l in let m = law.at_most in omega arith

    pub ends_refuted : standing.Refuted ≡ standing_of (csp_of P) (network_after s k) → Ends
    ends_refuted e = let f = is_refuted (csp_of P) (network_after s k) e in stops_here s k h.comes (λ o. let z = o.alive in cc)

    pub ends_quiet : standing.Quiet ≡ standing_of (csp_of P) (network_after s k) → Ends
    ends_quiet e = let f = is_quiet (csp_of P) (network_after s k) e in stops_here s k h.comes (λ o. let z = o.in_transit in let y = f.1 in cc)

    pub ends_closed : (end : Standing) → end ≡ standing_of (csp_of P) (network_after s k) → (end ≡ standing.Refuted) ⊎ (end ≡ standing.Quiet) → Ends
    ends_closed end is (inl e) = ends_refuted (sym e ∙ is)
    ends_closed end is (inr e) = ends_quiet (sym e ∙ is)

    answer_here : k < most → slice_get (first_answers most answers) k ≡ to_come 0
    answer_here room = let e : k ≡ k + 0 = omega arith in answers_at most answers k room h.comes.chosen ∙ ap answers e ∙ sym (h.behind 0)

    pub ends_spent : k < most → (o : Option ℕ) → o ≡ to_come 0 → o ≡ None → Ends
    ends_spent room o e f = ends_here s k h.comes (inr (past_end (first_answers most answers) k (answer_here room ∙ sym e ∙ f)))

    pub ends_capped : most ≤ k → Ends
    ends_capped l = ends_here s k h.comes (inl l)

    module _ (room : k < most) (c : ℕ) (o : Option ℕ) (first : o ≡ to_come 0) (is : o ≡ Some c) (open_ : standing.Open ≡ standing_of (csp_of P) (network_after s k)) where
      found : slice_get (first_answers most answers) k ≡ Some c
      found = answer_here room ∙ sym first ∙ is

      opened : IsOpen (csp_of P) (network_after s k)
      opened = is_open (csp_of P) (csp_of P) refl (network_after s k) open_

      one : ComesTo s (k + 1)
      one = one_more s k c h.comes opened found room

      first_left : left_from k ≡ event_write file (delivery_lines order (csp_of P) c (network_after s k)) ++ left_from (k + 1)
      first_left =
          let count = (run_of s).net.deliveries - (k + 1) in
          let more : (run_of s).net.deliveries - k ≡ suc count = let l = not_fewer s (k + 1) one in omega arith in
          ap (λ n. flat_map writes (range_with_len k n)) more
          ∙ ap (λ x. event_write file (delivery_lines order (csp_of P) x (network_after s k)) ++ flat_map writes (range_with_len (k + 1) count)) (get_or_from_slice_get (first_answers most answers) k c 0 found)

      abbrev pub one_write : List Write
      one_write = event_write file (delivery_lines order (csp_of P) c (network_after s k))

      -- one delivery more
      pub goes_on : {T : Type 0} (x : T) (network' : NetworkState) (later : ℕ → Option ℕ) (b' : Place) → ((out : Stream) → Wrote one_write (outside b out) (outside b' out) (Ok x))
          → StandsAt network' (run (csp_of P) (take k (first_answers most answers) ++ c ∷ []) (start (csp_of P))) → ((j : ℕ) → later j ≡ to_come (j + 1)) → Far (k + 1) later network' a b'
      goes_on x network' later b' wrote stands' rest = record {
        comes = one;
        stands = subst (λ l. StandsAt network' (run (csp_of P) l (start (csp_of P)))) (sym (at_place (first_answers most answers) k c found).front) stands';
        left = λ out. left_more (left_from k) first_left (h.left out) (wrote out);
        behind = λ j. let n : k + (j + 1) ≡ k + 1 + j = omega arith in rest j ∙ h.behind (j + 1) ∙ ap answers n;
      }

      -- the delivery was stopped
      pub cut_off : {T U : Type 0} (e : Stop) (r : Result U Stop) (b' : Place) (out : Stream) → Wrote {T = T} one_write (outside b out) (outside b' out) (Err e) → IsErr r × IsErrAnd r (λ y. y ≡ e) → Wrote all_writes (outside a out) (outside b' out) r
      cut_off {T = T} e r b' out wrote same = left_stopped {T = T} (left_from (k + 1)) (left_from k) r first_left same (h.left out) wrote

-- the lines of a delivery, by the problem that the network was made of
pub event_as : {file file' : List ℕ} {o o' : Option (List ℕ)} {P Q R : Contents} (c : ℕ) (choices : List ℕ) → file ≡ file' → o ≡ o' → Q ≡ P → R ≡ P
    → event_write file (delivery_lines o (csp_of Q) c (run (csp_of R) choices (start (csp_of R)))) ≡ event_write file' (delivery_lines o' (csp_of P) c (run (csp_of P) choices (start (csp_of P))))
event_as {file} {file'} {o} {o'} {P} {Q} {R} c choices e d f g =
    ap (λ (l : List ℕ). event_write l (delivery_lines o (csp_of Q) c (run (csp_of R) choices (start (csp_of R))))) e
    ∙ ap (λ x. event_write file' (delivery_lines x (csp_of Q) c (run (csp_of R) choices (start (csp_of R))))) d
    ∙ ap (λ (q : Contents). event_write file' (delivery_lines o' (csp_of q) c (run (csp_of R) choices (start (csp_of R))))) f
    ∙ ap (λ (r : Contents). event_write file' (delivery_lines o' (csp_of P) c (run (csp_of r) choices (start (csp_of r))))) g

-- ---- an event's lines

-- there are none
pub none_appended : {T : Type 0} (file text : List ℕ) (a : World) (x : T) → text ≡ [] → Wrote (some_write file text) a a (Ok x)
none_appended file text a x e = subst (λ (t : List ℕ). Wrote (some_write file t) a a (Ok x)) (sym e) wrote_nothing

-- there are some
pub some_appended : {T : Type 0} {a b : World} {r : Result T Stop} (file text : List ℕ) → (text ≡ [] → ⊥) → Wrote (Append file text ∷ []) a b r → Wrote (some_write file text) a b r
some_appended file [] some w = absurd (some refl)
some_appended file (x ∷ xs) some w = w

-- what is appended is what was made
pub text_appended : {T : Type 0} {a b : World} {r : Result T Stop} (file : List ℕ) {piece cleared : List ℕ} (made text : List ℕ) → piece ≡ made → made ≡ cleared ++ text → cleared ≡ []
    → Wrote (some_write file piece) a b r → Wrote (some_write file text) a b r
text_appended {a = a} {b = b} {r = r} file made text e f g h = subst (λ (t : List ℕ). Wrote (some_write file t) a b r) (e ∙ f ∙ ap (λ (t : List ℕ). t ++ text) g) h

-- ---- the whole

range_last : (a n : ℕ) → range_with_len a (suc n) ≡ range_with_len a n ++ (a + n) ∷ []
range_last a zero = let e : a ≡ a + 0 = omega arith in ap (λ k. k ∷ []) e
range_last a (suc n) = let e : a + 1 + n ≡ a + suc n = omega arith in ap (λ l. a ∷ l) (range_last (a + 1) n ∙ ap (λ k. range_with_len (a + 1) n ++ k ∷ []) e)

below_range : (n : ℕ) → below n ≡ range_with_len 0 n
below_range zero = refl
below_range (suc n) = let e : n ≡ 0 + n = omega arith in ap (λ l. l ++ n ∷ []) (below_range n) ∙ ap (λ k. range_with_len 0 n ++ k ∷ []) e ∙ sym (range_last 0 n)

flat_mapped : {X Y Z : Type 0} (f : Y → List Z) (g : X → Y) (xs : List X) → flat_map f (map g xs) ≡ flat_map (λ x. f (g x)) xs
flat_mapped f g [] = refl
flat_mapped f g (x ∷ xs) = ap (λ l. f (g x) ++ l) (flat_mapped f g xs)

-- begun, with its deliveries, and ended
pub whole_script : (order : Option (List ℕ)) (p : Contents) (choices file : List ℕ)
    → begin_script file order (csp_of p) ++ (deliveries_write file order (csp_of p) most_told (listed choices) ++ end_script file (csp_of p) (told_run (csp_of p) choices)) ≡ story_script order p choices file
unfolding told_run told_events
whole_script order p choices file =
    let q = csp_of p in
    let d = (told_run q choices).net.deliveries in
    let e : deliveries_write file order q most_told (listed choices) ≡ flat_map (event_write file) (map (lines_at order q (listed choices)) (below d)) =
    ap (flat_map (λ k. event_write file (lines_at order q (listed choices) k))) (sym (below_range d)) ∙ sym (flat_mapped (event_write file) (lines_at order q (listed choices)) (below d)) in
    ap (λ l. begin_script file order q ++ (l ++ end_script file q (told_run q choices))) e
    ∙ ap (λ (l : List Write). Create file ∷ Append file head ∷ l) (sym (append_assoc (event_write file (start_lines order q)) (flat_map (event_write file) (map (lines_at order q (listed choices)) (below d))) (end_script file q (told_run q choices))))

-- ---- the problem and the file that a teller has are those that it was made of

pub deliveries_as : {file file' : List ℕ} {o o' : Option (List ℕ)} {P Q : Contents} (most : ℕ) (choices : List ℕ) → file ≡ file' → o ≡ o' → Q ≡ P → deliveries_write file o (csp_of Q) most choices ≡ deliveries_write file' o' (csp_of P) most choices
deliveries_as {file} {file'} {o} {o'} {P} {Q} most choices e d f =
    ap (λ (l : List ℕ). deliveries_write l o (csp_of Q) most choices) e ∙ ap (λ x. deliveries_write file' x (csp_of Q) most choices) d ∙ ap (λ (q : Contents). deliveries_write file' o' (csp_of q) most choices) f

pub begin_as : (file : List ℕ) (order : Option (List ℕ)) {P Q : Contents} → Q ≡ P → begin_script file order (csp_of Q) ≡ begin_script file order (csp_of P)
begin_as file order e = ap (λ (q : Contents). begin_script file order (csp_of q)) e

pub stands_as : {P Q : Contents} (choices : List ℕ) (network : NetworkState) → Q ≡ P → StandsAt network (whole (csp_of Q) most_told (listed choices)).net → StandsAt network (told_run (csp_of P) choices).net
unfolding told_run
stands_as choices network e h = subst (λ (q : Contents). StandsAt network (whole (csp_of q) most_told (listed choices)).net) e h

pub last_as : {file file' : List ℕ} {P Q : Contents} (net : Network) → file ≡ file' → Q ≡ P → Append file (end_line (standing_of (csp_of Q) net)) ∷ [] ≡ Append file' (end_line (standing_of (csp_of P) net)) ∷ []
last_as {file} {file'} {P} {Q} net e f = ap (λ (l : List ℕ). Append l (end_line (standing_of (csp_of Q) net)) ∷ []) e ∙ ap (λ (q : Contents). Append file' (end_line (standing_of (csp_of q) net)) ∷ []) f

pub answer_as : {P Q : Contents} (net : Network) → Q ≡ P → Put (story_line (standing_of (csp_of Q) net) net.deliveries) ∷ [] ≡ Put (story_line (standing_of (csp_of P) net) net.deliveries) ∷ []
answer_as net f = ap (λ (q : Contents). Put (story_line (standing_of (csp_of q) net) net.deliveries) ∷ []) f

-- ---- where the script was stopped

module _ (order : Option (List ℕ)) (p : Contents) (choices file : List ℕ) where
  -- before the first delivery
  pub begin_stopped : {T U : Type 0} {a b : World} {e : Stop} (r : Result U Stop) → IsErr r × IsErrAnd r (λ y. y ≡ e) → Wrote {T = T} (begin_script file order (csp_of p)) a b (Err e) → Wrote (story_script order p choices file) a b r
  begin_stopped r is w = wrote_as (whole_script order p choices file) (then_stopped (deliveries_write file order (csp_of p) most_told (listed choices) ++ end_script file (csp_of p) (told_run (csp_of p) choices)) is w)

  module _ {T : Type 0} {x : T} {a b : World} (begun : Wrote (begin_script file order (csp_of p)) a b (Ok x)) where
    -- among the deliveries
    pub deliveries_stopped : {U V : Type 0} {c : World} {e : Stop} (r : Result V Stop) → IsErr r × IsErrAnd r (λ y. y ≡ e) → Wrote {T = U} (deliveries_write file order (csp_of p) most_told (listed choices)) b c (Err e) → Wrote (story_script order p choices file) a c r
    deliveries_stopped r is w = wrote_as (whole_script order p choices file) (then_rest begun (then_stopped (end_script file (csp_of p) (told_run (csp_of p) choices)) is w))

    module _ {U : Type 0} {y : U} {c : World} (delivered : Wrote (deliveries_write file order (csp_of p) most_told (listed choices)) b c (Ok y)) where
      -- at the last line
      pub last_stopped : {V W : Type 0} {d : World} {e : Stop} (r : Result W Stop) → IsErr r × IsErrAnd r (λ y. y ≡ e) → Wrote {T = V} (Append file (end_line (told_end (csp_of p) choices)) ∷ []) c d (Err e) → Wrote (story_script order p choices file) a d r
      last_stopped r is w = wrote_as (whole_script order p choices file) (then_rest begun (then_rest delivered (first_stopped is w)))

      module _ {V : Type 0} {z : V} {d : World} (ended : Wrote (Append file (end_line (told_end (csp_of p) choices)) ∷ []) c d (Ok z)) where
        -- at the answer
        pub answer_stopped : {W X : Type 0} {e : World} {why : Stop} (r : Result X Stop) → IsErr r × IsErrAnd r (λ y. y ≡ why) → Wrote {T = W} (Put (story_line (told_end (csp_of p) choices) (told_run (csp_of p) choices).net.deliveries) ∷ []) d e (Err why) → Wrote (story_script order p choices file) a e r
        answer_stopped r is w = wrote_as (whole_script order p choices file) (then_rest begun (then_rest delivered (first_wrote ended (first_stopped is w))))

        -- nowhere
        pub told_whole : {W X : Type 0} {e : World} {u : W} (v : X) → Wrote (Put (story_line (told_end (csp_of p) choices) (told_run (csp_of p) choices).net.deliveries) ∷ []) d e (Ok u) → Wrote (story_script order p choices file) a e (Ok v)
        told_whole v w = wrote_as (whole_script order p choices file) (then_rest begun (then_rest delivered (first_wrote ended (first_wrote w wrote_nothing))))
