-- What more events bring, and the lines of their steps.
use Rattle.std.proofs.Common.{◌≡◌, ℕ, zero, suc, ◌+◌, ◌<◌, ◌≤◌, true, false, cond, inl, inr, List, [], ◌∷◌, ◌++◌, length, length-append, map, drop, Option, append-nil, append_assoc, refl, sym, ap, ◌∙◌, arith}
use Rattle.std.proofs.Math.Seq.{drop-append_seam}
use Rattle.std.proofs.lemmas.List.{drop_all, drop-append-le, map-append}
use Rattle.std.proofs.lemmas.Bool.{cases_lt}
use Rattle.dcsp_defs.specs.Csp.{Csp}
use Rattle.dcsp_defs.specs.Words.{below}
use Rattle.dcsp_defs.specs.declared.Step.{Step}
use Rattle.dcsp_problem.proofs.OwnerLists.{length-map_below}
use Rattle.dcsp_order.specs.Told.{steps_told}
use Rattle.dcsp_order.proofs.Telling.{told-append}
use Rattle.dcsp_script.specs.Scripts.{Append}
use Rattle.abt_defs.specs.Network.{Network}
use Rattle.ngd_log.specs.Logs.{step_lines}
use Rattle.law_runs.specs.Worlds.{World, event, after}
use Rattle.law_runs.specs.LossyEnds.{has_verdict, used, calm_word, calm_words}
use Rattle.law_runs.proofs.Events.{effect}
use Rattle.abt_session.specs.Sessions.{step_writes}
use Rattle.abt_session.proofs.InOrder.{step_lines-append}
use Rattle.line_lossy.specs.Runners.{new_writes}

-- ---- worlds

-- a refuted world has no events any more
pub stuck : (p : Csp) (words : List ℕ) (w : World) → w.network.refuted ≡ true → after p words w ≡ w
stuck p [] w h = refl
stuck p (x ∷ xs) w h = ap (λ b. cond b w (after p xs (event p x w))) h

-- some events, and then others
pub after_both : (p : Csp) (xs ys : List ℕ) (w : World) → after p (xs ++ ys) w ≡ after p ys (after p xs w)
after_both p [] ys w = refl
after_both p (x ∷ xs) ys w =
    (elim w.network.refuted as (λ b. w.network.refuted ≡ b → cond b w (after p (xs ++ ys) (event p x w)) ≡ after p ys (cond b w (after p xs (event p x w)))) [
      | true ↦ λ e. sym (stuck p ys w e)
      | false ↦ λ e. after_both p xs ys (event p x w)
    ]) refl

-- ---- steps

-- the second list begins with the first
abbrev pub Grown : List Step → List Step → Type 0
Grown s t = (made : List Step) × (t ≡ s ++ made)

pub grown_both : (s t u : List Step) → Grown s t → Grown t u → Grown s u
grown_both s t u h k = (h.0 ++ k.0, k.1 ∙ ap (λ l. l ++ k.0) h.1 ∙ append_assoc s h.0 k.0)

event_grows : (p : Csp) (word : ℕ) (w : World) → Grown w.network.steps (event p word w).network.steps
event_grows p word w = elim (effect p word w) [
  | inl n ↦ ([], ap (λ (x : Network). x.steps) n.network ∙ sym (append-nil w.network.steps))
  | inr o ↦ (_, ap (λ (x : Network). x.steps) o.network)
]

pub after_grows : (p : Csp) (words : List ℕ) (w : World) → Grown w.network.steps (after p words w).network.steps
after_grows p [] w = ([], sym (append-nil w.network.steps))
after_grows p (x ∷ xs) w = elim w.network.refuted as (λ b. Grown w.network.steps (cond b w (after p xs (event p x w))).network.steps) [
  | true ↦ ([], sym (append-nil w.network.steps))
  | false ↦ grown_both w.network.steps (event p x w).network.steps (after p xs (event p x w)).network.steps (event_grows p x w) (after_grows p xs (event p x w))
]

-- more events, more steps
pub more_grows : (p : Csp) (xs ys : List ℕ) (w : World) → Grown (after p xs w).network.steps (after p (xs ++ ys) w).network.steps
more_grows p xs ys w = let g = after_grows p ys (after p xs w) in (g.0, ap (λ (v : World). v.network.steps) (after_both p xs ys w) ∙ g.1)

-- told in own numbers, they grow in the same way
pub told_grown : (order : Option (List ℕ)) (s t : List Step) → Grown s t → Grown (steps_told order s) (steps_told order t)
told_grown order s t g = (steps_told order g.0, ap (steps_told order) g.1 ∙ told-append order s g.0)

-- ---- lines

pub writes_both : (log : List ℕ) (number : ℕ) (a b : List Step) → step_writes log number (a ++ b) ≡ step_writes log number a ++ step_writes log (number + length a) b
writes_both log number a b = ap (map (Append log)) (step_lines-append number a b) ∙ map-append (Append log) (step_lines number a) (step_lines (number + length a) b)

-- what is new of a list that grew
pub new_made : (log : List ℕ) (s made : List Step) → new_writes log s (s ++ made) ≡ step_writes log (length s + 1) made
new_made log s made = ap (step_writes log (length s + 1)) (drop-append_seam s made)

pub new_of : (log : List ℕ) (s t made : List Step) → t ≡ s ++ made → new_writes log s t ≡ step_writes log (length s + 1) made
new_of log s t made e = ap (λ l. new_writes log s l) e ∙ new_made log s made

-- what is new in two turns
pub new_both : (log : List ℕ) (s t u : List Step) → Grown s t → Grown t u → new_writes log s u ≡ new_writes log s t ++ new_writes log t u
new_both log s t u h k =
    let whole : u ≡ s ++ (h.0 ++ k.0) = k.1 ∙ ap (λ l. l ++ k.0) h.1 ∙ append_assoc s h.0 k.0 in
    let long : length t ≡ length s + length h.0 = ap length h.1 ∙ length-append s h.0 in
    let number : length s + 1 + length h.0 ≡ length t + 1 = omega (arith, long) in
    new_of log s u (h.0 ++ k.0) whole ∙ writes_both log (length s + 1) h.0 k.0
    ∙ ap (λ n. step_writes log (length s + 1) h.0 ++ step_writes log n k.0) number
    ∙ ap (λ l. l ++ step_writes log (length t + 1) k.0) (sym (new_of log s t h.0 h.1))
    ∙ ap (λ l. new_writes log s t ++ l) (sym (new_of log t u k.0 k.1))

-- nothing is new of the same
pub none_new : (log : List ℕ) (s : List Step) → new_writes log s s ≡ []
none_new log s = let l : length s ≤ length s = omega arith in ap (step_writes log (length s + 1)) (drop_all (length s) s l)

-- all lines, from the first
pub all_new : (log : List ℕ) (s t : List Step) → Grown s t → step_writes log 1 t ≡ step_writes log 1 s ++ new_writes log s t
all_new log s t h =
    let number : 1 + length s ≡ length s + 1 = omega arith in
    ap (step_writes log 1) h.1 ∙ writes_both log 1 s h.0 ∙ ap (λ n. step_writes log 1 s ++ step_writes log n h.0) number ∙ ap (λ l. step_writes log 1 s ++ l) (sym (new_of log s t h.0 h.1))

-- ---- words

-- the words from number k on
pub first_left : (f : ℕ → ℕ) (n k : ℕ) → k < n → drop k (map f (below n)) ≡ f k ∷ drop (k + 1) (map f (below n))
first_left f zero k l = absurd (omega (arith, l))
first_left f (suc n) k l = elim (cases_lt k n) [
  | inl m ↦
      ap (drop k) whole ∙ drop-append-le k (map f (below n)) (f n ∷ []) (omega (arith, long, m)) ∙ ap (λ (r : List ℕ). r ++ f n ∷ []) (first_left f n k m)
      ∙ ap (λ (r : List ℕ). f k ∷ r) (sym (drop-append-le (k + 1) (map f (below n)) (f n ∷ []) (omega (arith, long, m))) ∙ sym (ap (drop (k + 1)) whole))
  | inr m ↦
      let last : k ≡ n = omega (arith, l, m) in
      let end : length (map f (below (suc n))) ≡ suc n = length-map_below f (suc n) in
      ap (drop k) whole ∙ ap (λ i. drop i (map f (below n) ++ f n ∷ [])) (last ∙ sym long) ∙ drop-append_seam (map f (below n)) (f n ∷ [])
      ∙ ap (λ i. f i ∷ []) (sym last) ∙ ap (λ (r : List ℕ). f k ∷ r) (sym (drop_all (k + 1) (map f (below (suc n))) (omega (arith, end, last))))
]
  where
    whole : map f (below (suc n)) ≡ map f (below n) ++ f n ∷ []
    whole = map-append f (below n) (n ∷ [])

    long : length (map f (below n)) ≡ n
    long = length-map_below f n

-- no word is used where a verdict stands
pub none_used : (p : Csp) (words : List ℕ) (w : World) → has_verdict p w ≡ true → used p words w ≡ []
none_used p [] w h = refl
none_used p (x ∷ xs) w h = ap (λ b. cond b [] (x ∷ used p xs (event p x w))) h

pub first_used : (p : Csp) (word : ℕ) (words : List ℕ) (w : World) → has_verdict p w ≡ false → used p (word ∷ words) w ≡ word ∷ used p words (event p word w)
first_used p word words w h = ap (λ b. cond b [] (word ∷ used p words (event p word w))) h

pub none_calm : (p : Csp) (n : ℕ) (w : World) → has_verdict p w ≡ true → calm_words p n w ≡ []
none_calm p zero w h = refl
none_calm p (suc n) w h = ap (λ b. cond b [] (calm_word w ∷ calm_words p n (event p (calm_word w) w))) h

pub first_calm : (p : Csp) (n : ℕ) (w : World) → has_verdict p w ≡ false → calm_words p (suc n) w ≡ calm_word w ∷ calm_words p n (event p (calm_word w) w)
first_calm p n w h = ap (λ b. cond b [] (calm_word w ∷ calm_words p n (event p (calm_word w) w))) h
