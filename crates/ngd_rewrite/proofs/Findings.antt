-- The finding on a derivation is that on its entries with deletions.
use Rattle.std.proofs.Common.{◌≡◌, ℕ, zero, suc, ◌+◌, ◌-◌, ◌<◌, ◌≤◌, ◌⊎◌, ◌↔◌, Bool, true, false, cond, ◌&&◌, ◌||◌, eqb, ltb, List, [], ◌∷◌, ◌++◌, length, take, slice_get, Option, Some, None, is_some, MatchOption, ℤ, inl, inr, refl, sym, ap, subst, ◌∙◌, append_assoc, arith}
use Rattle.std.specs.List.{list_any, AllZip}
use Rattle.std.specs.Option.{option_map}
use Rattle.std.proofs.lemmas.Bool.{eqb-true, eq-eqb, ne_eqb, lt-ltb, le-ltb, cases_order}
use Rattle.std.proofs.lemmas.List.{append-nil, length-append}
use Rattle.dcsp_defs.specs.declared.Reason.{Reason}
use Rattle.dcsp_defs.specs.declared.Reason.TheVariants.{Rule, Earlier}
use Rattle.dcsp_defs.specs.declared.Step.{Step}
use Rattle.dcsp_defs.specs.Csp.{Csp, Nogood, domain}
use Rattle.dcsp_defs.specs.Derivation.{IsRight, IsRightNowhere, IsDerivation, EndsEmpty}
use Rattle.dcsp_defs.specs.declared.entry.Entry.{Entry}
use Rattle.dcsp_defs.specs.declared.entry.Entry.TheVariants.{Step as A_step, Delete}
use Rattle.ngd_check.specs.declared.Finding.{Finding}
use Rattle.ngd_check.specs.declared.Finding.TheVariants.{Verified, BadStep, BadDeletion, NotEmpty}
use Rattle.ngd_check.specs.Citing.{Cited, IsReasonCiting, IsRightAtCiting, IsRightCiting, nogood_at}
use Rattle.ngd_check.specs.Entries.{steps_of, is_deleted, cited_after, IsRightDeletion, IsRightEntry, AreRight}
use Rattle.ngd_check.specs.Findings.{IsFirstWrong, IsFinding, IsFindingOf}
use Rattle.ngd_check.proofs.Citing.{right_more, right_to, right_from}
use Rattle.ngd_check.proofs.Forms.{cited_nogood, entries_derive}
use Rattle.ngd_check.proofs.Growing.{steps_more, steps_same, deleted_same, deleted_more}
use Rattle.ngd_rewrite.specs.Upgrade.{cites, end_of, numbers, ending, as_deletion, upgraded_from, upgraded}
use Rattle.ngd_rewrite.proofs.Numbers.{in_numbers, in_filter, any_filter, is_numbered, any_numbers}
use Rattle.ngd_rewrite.proofs.EndLaws.{end_after, end_late}

-- ---- right steps

-- reasons that cite alike what is among them
reasons_where : (p : Csp) (cited more : Cited) (pairs : Nogood) (x : ℕ) (vs : List ℤ) (rs : List Reason) → ((n : ℕ) → cites n rs ≡ true → (g : Nogood) → cited n ≡ Some g → more n ≡ Some g)
    → AllZip (IsReasonCiting p cited pairs x) vs rs → AllZip (IsReasonCiting p more pairs x) vs rs
reasons_where p cited more pairs x [] [] w h = tt
reasons_where p cited more pairs x [] (r ∷ rs) w h = absurd h
reasons_where p cited more pairs x (v ∷ vs) [] w h = absurd h
reasons_where p cited more pairs x (v ∷ vs) (Rule n ∷ rs) w h = (h.0, reasons_where p cited more pairs x vs rs w h.1)
reasons_where p cited more pairs x (v ∷ vs) (Earlier n ∷ rs) w h =
    let here : cites n (Earlier n ∷ rs) ≡ true = ap (λ b. b || cites n rs) (eq-eqb n n refl) in
    ((h.0.0, w n here h.0.0 h.0.1, h.0.2), reasons_where p cited more pairs x vs rs (λ m c g e. w m (later (eqb n m) (cites m rs) c) g e) h.1)
  where
    later : (a b : Bool) → b ≡ true → (a || b) ≡ true
    later true b e = refl
    later false b e = e

-- a right step stays right where what it cites is cited alike
right_where : (p : Csp) (cited more : Cited) (s : Step) → ((n : ℕ) → cites n s.reasons ≡ true → (g : Nogood) → cited n ≡ Some g → more n ≡ Some g) → IsRightCiting p cited s → IsRightCiting p more s
right_where p cited more s w h = by_variable s.variable h
  where
    by_variable : (o : Option ℕ) → MatchOption o (IsRightNowhere p s) (λ x. IsRightAtCiting p cited x s) → MatchOption o (IsRightNowhere p s) (λ x. IsRightAtCiting p more x s)
    by_variable None k = k
    by_variable (Some x) k = record {
      variable = k.variable;
      rising = k.rising;
      pairs = k.pairs;
      other = k.other;
      reasons = reasons_where p cited more s.nogood x (domain p x) s.reasons w k.reasons;
    }

-- ---- where a walk over the steps stands

-- whether a step ended before the step with this number
abbrev is_over : List Step → ℕ → ℕ → Bool
is_over steps next number = is_numbered (length steps) number && ltb (end_of steps number) next

-- the entries have these steps, and delete those that ended before the next
record Reaches (steps : List Step) (entries : List Entry) (done : List Step) : Type 0 where
  same : steps_of entries ≡ done
  deleted : (number : ℕ) → is_deleted entries number ≡ is_over steps (length done + 1) number

-- a test that adds the numbers at a bound
over_more : (steps : List Step) (k number : ℕ) → is_over steps (k + 1) number ≡ (is_over steps k number || list_any (λ d. eqb number d) (ending steps k))
over_more steps k number =
    by_order (is_numbered (length steps) number) (cases_order (end_of steps number) k)
    ∙ ap (λ b. is_over steps k number || b) (sym (any_filter (λ n. eqb (end_of steps n) k) (numbers (length steps)) number ∙ ap (λ b. eqb (end_of steps number) k && b) (any_numbers (length steps) number)))
  where
    by_order : (b : Bool) → (end_of steps number ≡ k) ⊎ ((end_of steps number < k) ⊎ (k < end_of steps number)) → (b && ltb (end_of steps number) (k + 1)) ≡ ((b && ltb (end_of steps number) k) || (eqb (end_of steps number) k && b))
    by_order true (inl e) =
        let a : ltb (end_of steps number) (k + 1) ≡ true = lt-ltb (end_of steps number) (k + 1) (omega (arith, e)) in
        let c : ltb (end_of steps number) k ≡ false = le-ltb (end_of steps number) k (omega (arith, e)) in
        let d : eqb (end_of steps number) k ≡ true = eq-eqb (end_of steps number) k e in
        rw (a, c, d) refl
    by_order true (inr (inl lt)) =
        let a : ltb (end_of steps number) (k + 1) ≡ true = lt-ltb (end_of steps number) (k + 1) (omega (arith, lt)) in
        let c : ltb (end_of steps number) k ≡ true = lt-ltb (end_of steps number) k lt in
        rw (a, c) refl
    by_order true (inr (inr gt)) =
        let a : ltb (end_of steps number) (k + 1) ≡ false = le-ltb (end_of steps number) (k + 1) (omega (arith, gt)) in
        let c : ltb (end_of steps number) k ≡ false = le-ltb (end_of steps number) k (omega (arith, gt)) in
        let d : eqb (end_of steps number) k ≡ false = ne_eqb (end_of steps number) k (λ e. omega (arith, e, gt)) in
        rw (a, c, d) refl
    by_order false o = and_false (eqb (end_of steps number) k)
      where
        and_false : (b : Bool) → false ≡ (b && false)
        and_false true = refl
        and_false false = refl

-- nothing is over before the first step ends
nothing_over : (steps : List Step) (number : ℕ) → false ≡ is_over steps 1 number
nothing_over steps zero = refl
nothing_over steps (suc k) =
    let e = end_after steps (suc k) in
    let l : ltb (end_of steps (suc k)) 1 ≡ false = le-ltb (end_of steps (suc k)) 1 (omega (arith, e)) in
    rw l (and_false (is_numbered (length steps) (suc k)))
  where
    and_false : (b : Bool) → false ≡ (b && false)
    and_false true = refl
    and_false false = refl

-- a number that the next step cites is not over
cited_open : (done : List Step) (s : Step) (others : List Step) (number : ℕ) → cites number s.reasons ≡ true → is_over (done ++ s ∷ others) (length done + 1) number ≡ false
cited_open done s others number c =
    let steps = done ++ s ∷ others in
    let late = end_late done s others number c in
    let l : ltb (end_of steps number) (length done + 1) ≡ false = le-ltb (end_of steps number) (length done + 1) late in
    rw l (and_false (is_numbered (length steps) number))
  where
    and_false : (b : Bool) → (b && false) ≡ false
    and_false true = refl
    and_false false = refl

-- ---- entries that are right where the steps are

-- what is right of an entry after others: a deletion is, and a step where it is right after their steps
abbrev IsGood : Csp → List Entry → Entry → Type 0
IsGood p before (A_step s) = IsRight p (steps_of before) s → IsRightEntry p before (A_step s)
IsGood p before (Delete ns) = IsRightDeletion before ns

-- each of the entries after these is good
abbrev AreGood : Csp → List Entry → List Entry → Type 0
AreGood p before [] = Unit {0}
AreGood p before (e ∷ es) = IsGood p before e × AreGood p (before ++ e ∷ []) es

-- the next step
good_step : (p : Csp) (done : List Step) (s : Step) (others : List Step) (before : List Entry) → Reaches (done ++ s ∷ others) before done → IsGood p before (A_step s)
good_step p done s others before r h =
    right_where p (nogood_at (steps_of before)) (cited_after before) s
    (λ n c g e. ap (λ b. cond b None (nogood_at (steps_of before) n)) (r.deleted n ∙ cited_open done s others n c) ∙ e)
    (right_to p (steps_of before) s h)

-- a step more is reached
reaches_step : (steps done : List Step) (s : Step) (before : List Entry) → Reaches steps before done → (number : ℕ) → is_deleted (before ++ A_step s ∷ []) number ≡ is_over steps (length done + 1) number
reaches_step steps done s before r number = deleted_same before s number ∙ r.deleted number

-- there is a nogood of each step
nogood_there : (steps : List Step) (number : ℕ) → 0 < number → number ≤ length steps → is_some (nogood_at steps number) ≡ true
nogood_there steps zero p le = absurd (omega (arith, p))
nogood_there steps (suc k) p le = there steps k (omega (arith, le))
  where
    there : (ss : List Step) (k : ℕ) → k < length ss → is_some (option_map (λ (s : Step). s.nogood) (slice_get ss k)) ≡ true
    there [] k lt = absurd (omega (arith, lt))
    there (s ∷ ss) zero lt = refl
    there (s ∷ ss) (suc k) lt = there ss k (omega (arith, lt))

-- the steps that end after a step are deleted rightly
good_deletion : (p : Csp) (steps done : List Step) (s : Step) (before : List Entry) → Reaches steps before done → IsRightDeletion (before ++ A_step s ∷ []) (ending steps (length done + 1))
good_deletion p steps done s before r = λ number i.
    let h = in_filter (λ n. eqb (end_of steps n) (length done + 1)) (numbers (length steps)) number i in
    let among = in_numbers (length steps) number h.0 in
    let at_end : end_of steps number ≡ length done + 1 = eqb-true (end_of steps number) (length done + 1) h.1 in
    let late = end_after steps number in
    let open_still : is_over steps (length done + 1) number ≡ false = (let l : ltb (end_of steps number) (length done + 1) ≡ false = le-ltb (end_of steps number) (length done + 1) (omega (arith, at_end)) in rw l (and_false (is_numbered (length steps) number))) in
    let first = among.0 in
    let here : steps_of (before ++ A_step s ∷ []) ≡ done ++ s ∷ [] = steps_more before s ∙ ap (λ (xs : List Step). xs ++ s ∷ []) r.same in
    let count : length (steps_of (before ++ A_step s ∷ [])) ≡ length done + 1 = ap length here ∙ length-append done (s ∷ []) in
    ap is_some (ap (λ b. cond b None (nogood_at (steps_of (before ++ A_step s ∷ [])) number)) (reaches_step steps done s before r number ∙ open_still))
    ∙ nogood_there (steps_of (before ++ A_step s ∷ [])) number first (omega (arith, count, at_end, late))
  where
    and_false : (b : Bool) → (b && false) ≡ false
    and_false true = refl
    and_false false = refl

-- after the step and its deletion, if there is one
reaches_next : (steps done : List Step) (s : Step) (before : List Entry) (ns : List ℕ) → ns ≡ ending steps (length done + 1) → Reaches steps before done → Reaches steps ((before ++ A_step s ∷ []) ++ as_deletion ns) (done ++ s ∷ [])
reaches_next steps done s before ns e r = record {
  same = steps_kept ns ∙ steps_more before s ∙ ap (λ (xs : List Step). xs ++ s ∷ []) r.same;
  deleted = λ number.
      let count : length (done ++ s ∷ []) ≡ length done + 1 = length-append done (s ∷ []) in
      deleted_there ns number ∙ ap (λ b. b || list_any (λ d. eqb number d) ns) (reaches_step steps done s before r number)
      ∙ ap (λ (ms : List ℕ). is_over steps (length done + 1) number || list_any (λ d. eqb number d) ms) e
      ∙ sym (over_more steps (length done + 1) number) ∙ ap (λ (k : ℕ). is_over steps (k + 1) number) (sym count);
}
  where
    steps_kept : (ms : List ℕ) → steps_of ((before ++ A_step s ∷ []) ++ as_deletion ms) ≡ steps_of (before ++ A_step s ∷ [])
    steps_kept [] = ap steps_of (append-nil (before ++ A_step s ∷ []))
    steps_kept (m ∷ ms) = steps_same (before ++ A_step s ∷ []) (m ∷ ms)

    or_false : (b : Bool) → b ≡ (b || false)
    or_false true = refl
    or_false false = refl

    deleted_there : (ms : List ℕ) (number : ℕ) → is_deleted ((before ++ A_step s ∷ []) ++ as_deletion ms) number ≡ (is_deleted (before ++ A_step s ∷ []) number || list_any (λ d. eqb number d) ms)
    deleted_there [] number = ap (λ (es : List Entry). is_deleted es number) (append-nil (before ++ A_step s ∷ [])) ∙ or_false (is_deleted (before ++ A_step s ∷ []) number)
    deleted_there (m ∷ ms) number = deleted_more (before ++ A_step s ∷ []) (m ∷ ms) number

-- good entries, one list after the other
good_append : (p : Csp) (before xs ys : List Entry) → AreGood p before xs → AreGood p (before ++ xs) ys → AreGood p before (xs ++ ys)
good_append p before [] ys g h = subst (λ (es : List Entry). AreGood p es ys) (append-nil before) h
good_append p before (x ∷ xs) ys g h = (g.0, good_append p (before ++ x ∷ []) xs ys g.1 (subst (λ (es : List Entry). AreGood p es ys) (sym (append_assoc before (x ∷ []) xs)) h))

-- all entries from here on are good
good_from : (p : Csp) (steps done others : List Step) (before : List Entry) → steps ≡ done ++ others → Reaches steps before done → AreGood p before (upgraded_from steps (length done + 1) others)
good_from p steps done [] before e r = tt
good_from p steps done (s ∷ []) before e r = (good_step p done s [] before (subst (λ (ss : List Step). Reaches ss before done) e r), tt)
good_from p steps done (s ∷ t ∷ others) before e r =
    let ns = ending steps (length done + 1) in
    let after = before ++ A_step s ∷ [] in
    let count : length (done ++ s ∷ []) ≡ length done + 1 = length-append done (s ∷ []) in
    let rest : AreGood p (after ++ as_deletion ns) (upgraded_from steps (length (done ++ s ∷ []) + 1) (t ∷ others)) =
    good_from p steps (done ++ s ∷ []) (t ∷ others) (after ++ as_deletion ns) (e ∙ sym (append_assoc done (s ∷ []) (t ∷ others))) (reaches_next steps done s before ns refl r) in (
      good_step p done s (t ∷ others) before (subst (λ (ss : List Step). Reaches ss before done) e r),
      good_append p after (as_deletion ns) (upgraded_from steps (length done + 1 + 1) (t ∷ others)) (deletion ns (good_deletion p steps done s before r))
          (subst (λ (k : ℕ). AreGood p (after ++ as_deletion ns) (upgraded_from steps (k + 1) (t ∷ others))) count rest),
    )
  where
    deletion : (ms : List ℕ) → IsRightDeletion (before ++ A_step s ∷ []) ms → AreGood p (before ++ A_step s ∷ []) (as_deletion ms)
    deletion [] h = tt
    deletion (m ∷ ms) h = (h, tt)

-- all entries are good
pub all_good : (p : Csp) (steps : List Step) → AreGood p [] (upgraded steps)
all_good p steps = good_from p steps [] steps [] refl (record { same = refl; deleted = nothing_over steps })

-- ---- places

-- a good entry at its place
good_at : (p : Csp) (before es : List Entry) → AreGood p before es → (place : ℕ) (e : Entry) → slice_get es place ≡ Some e → IsGood p (before ++ take place es) e
good_at p before [] g place e there = absurd cc
good_at p before (x ∷ es) g zero e there =
    let same : x ≡ e = cc in
    subst (λ (bs : List Entry). IsGood p bs e) (sym (append-nil before)) (subst (λ (y : Entry). IsGood p before y) same g.0)
good_at p before (x ∷ es) g (suc place) e there = subst (λ (bs : List Entry). IsGood p bs e) (append_assoc before (x ∷ []) (take place es)) (good_at p (before ++ x ∷ []) es g.1 place e there)

-- the first of good entries are good
good_take : (p : Csp) (before es : List Entry) (m : ℕ) → AreGood p before es → AreGood p before (take m es)
good_take p before es zero g = tt
good_take p before [] (suc m) g = tt
good_take p before (x ∷ es) (suc m) g = (g.0, good_take p (before ++ x ∷ []) es m g.1)

-- where a step stands among the entries
step_place : (es : List Entry) (k : ℕ) (s : Step) → slice_get (steps_of es) k ≡ Some s → (j : ℕ) × (slice_get es j ≡ Some (A_step s)) × (steps_of (take j es) ≡ take k (steps_of es))
step_place [] k s h = cc
step_place (A_step t ∷ es) zero s h = let e : t ≡ s = cc in (0, ap (λ (x : Step). Some (A_step x)) e, refl)
step_place (A_step t ∷ es) (suc k) s h = let r = step_place es k s h in (suc r.0, r.1, ap (λ (xs : List Step). t ∷ xs) r.2)
step_place (Delete ns ∷ es) k s h = let r = step_place es k s h in (suc r.0, r.1, r.2)

-- which step stands at a place
place_step : (es : List Entry) (place : ℕ) (s : Step) → slice_get es place ≡ Some (A_step s)
    → (slice_get (steps_of es) (length (steps_of (take place es))) ≡ Some s) × (take (length (steps_of (take place es))) (steps_of es) ≡ steps_of (take place es))
place_step [] place s h = absurd cc
place_step (A_step t ∷ es) zero s h = let e : t ≡ s = cc in (ap (λ (x : Step). Some x) e, refl)
place_step (A_step t ∷ es) (suc place) s h = let r = place_step es place s h in (r.0, ap (λ (xs : List Step). t ∷ xs) r.1)
place_step (Delete ns ∷ es) zero s h = absurd cc
place_step (Delete ns ∷ es) (suc place) s h = place_step es place s h

-- a right step among entries is right after their steps
back : (p : Csp) (es : List Entry) (s : Step) → IsRightEntry p es (A_step s) → IsRight p (steps_of es) s
back p es s h = right_from p (steps_of es) s (right_more p (cited_after es) (nogood_at (steps_of es)) (cited_nogood es) s h)

-- good entries are right where their steps are
good_right : (p : Csp) (es : List Entry) → AreGood p [] es → IsDerivation p (steps_of es) → AreRight p es
good_right p es g d = λ place e there. by_kind place e there (good_at p [] es g place e there)
  where
    by_kind : (place : ℕ) (e : Entry) → slice_get es place ≡ Some e → IsGood p (take place es) e → IsRightEntry p (take place es) e
    by_kind place (A_step s) there good =
        let q = place_step es place s there in
        good (subst (λ (ts : List Step). IsRight p ts s) q.1 (d (length (steps_of (take place es))) s q.0))
    by_kind place (Delete ns) there good = good

-- the steps of the entries
steps_from : (steps : List Step) (k : ℕ) (others : List Step) → steps_of (upgraded_from steps k others) ≡ others
steps_from steps k [] = refl
steps_from steps k (s ∷ []) = refl
steps_from steps k (s ∷ t ∷ others) = ap (λ (xs : List Step). s ∷ xs) (no_step (ending steps k) ∙ steps_from steps (k + 1) (t ∷ others))
  where
    no_step : (ms : List ℕ) → steps_of (as_deletion ms ++ upgraded_from steps (k + 1) (t ∷ others)) ≡ steps_of (upgraded_from steps (k + 1) (t ∷ others))
    no_step [] = refl
    no_step (m ∷ ms) = refl

pub steps_same_as : (steps : List Step) → steps_of (upgraded steps) ≡ steps
steps_same_as steps = steps_from steps 1 steps

-- so many of the first
length_first : {X : Type 0} (xs : List X) (k : ℕ) (x : X) → slice_get xs k ≡ Some x → length (take k xs) ≡ k
length_first [] k x h = absurd cc
length_first (y ∷ xs) zero x h = refl
length_first (y ∷ xs) (suc k) x h = ap suc (length_first xs k x h)

-- ---- findings

-- the finding on a derivation is found on its entries
finding_to : (p : Csp) (steps : List Step) (f : Finding) → IsFinding p steps f → IsFindingOf p (upgraded steps) f
finding_to p steps Verified h = record {
  right = good_right p (upgraded steps) (all_good p steps) (subst (IsDerivation p) (sym (steps_same_as steps)) h.right);
  ends = subst EndsEmpty (sym (steps_same_as steps)) h.ends;
}
finding_to p steps (BadDeletion after) h = absurd h
finding_to p steps NotEmpty h = record {
  right = good_right p (upgraded steps) (all_good p steps) (subst (IsDerivation p) (sym (steps_same_as steps)) h.right);
  not_empty = λ e. h.not_empty (subst EndsEmpty (steps_same_as steps) e);
}
finding_to p steps (BadStep zero) h = absurd (let t = h.there in cc)
finding_to p steps (BadStep (suc k)) h =
    let es = upgraded steps in
    let s = h.step in
    let less : suc k - 1 ≡ k = omega arith in
    let r = step_place es k s (ap (λ (ss : List Step). slice_get ss k) (steps_same_as steps) ∙ h.there) in
    let before : steps_of (take r.0 es) ≡ take k steps = r.2 ∙ ap (take k) (steps_same_as steps) in
    let right : IsDerivation p (take k steps) = subst (λ (n : ℕ). IsDerivation p (take n steps)) less h.right_before in
    let count : length (take k steps) ≡ k = length_first steps k s h.there in
    let same_count = ap length before in
    record {
      place = r.0;
      step = s;
      first = record {
        there = r.1;
        right_before = good_right p (take r.0 es) (good_take p [] es r.0 (all_good p steps)) (subst (IsDerivation p) (sym before) right);
        wrong = λ e. h.wrong (subst (λ (n : ℕ). IsRight p (take n steps) s) (sym less) (subst (λ (ts : List Step). IsRight p ts s) before (back p (take r.0 es) s e)));
      };
      numbered = omega (arith, count, same_count);
    }

-- the finding on the entries is that on the derivation
finding_from : (p : Csp) (steps : List Step) (f : Finding) → IsFindingOf p (upgraded steps) f → IsFinding p steps f
finding_from p steps Verified h = record { right = subst (IsDerivation p) (steps_same_as steps) (entries_derive p (upgraded steps) h.right); ends = subst EndsEmpty (steps_same_as steps) h.ends }
finding_from p steps (BadDeletion after) h = h.first.wrong (good_at p [] (upgraded steps) (all_good p steps) h.place (Delete h.numbers) h.first.there)
finding_from p steps NotEmpty h = record {
  right = subst (IsDerivation p) (steps_same_as steps) (entries_derive p (upgraded steps) h.right);
  not_empty = λ e. h.not_empty (subst EndsEmpty (sym (steps_same_as steps)) e);
}
finding_from p steps (BadStep number) h =
    let es = upgraded steps in
    let s = h.step in
    let before = take h.place es in
    let n = length (steps_of before) in
    let q = place_step es h.place s h.first.there in
    let front : steps_of before ≡ take n steps = sym q.1 ∙ ap (take n) (steps_same_as steps) in
    let less : suc n - 1 ≡ n = omega arith in
    let next : suc n ≡ number = omega (arith, h.numbered) in
    subst (λ (m : ℕ). IsFirstWrong p steps m) next (record {
      step = s;
      there = ap (λ (ss : List Step). slice_get ss n) (sym (steps_same_as steps)) ∙ q.0;
      right_before = subst (λ (m : ℕ). IsDerivation p (take m steps)) (sym less) (subst (IsDerivation p) front (entries_derive p before h.first.right_before));
      wrong = λ r. h.first.wrong (good_at p [] es (all_good p steps) h.place (A_step s) h.first.there (subst (λ (ts : List Step). IsRight p ts s) (sym front) (subst (λ (m : ℕ). IsRight p (take m steps) s) less r)));
    })

-- the findings are one
pub one_finding : (p : Csp) (steps : List Step) (f : Finding) → IsFinding p steps f ↔ IsFindingOf p (upgraded steps) f
one_finding p steps f = (finding_to p steps f, finding_from p steps f)
