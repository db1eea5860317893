-- The events of a run over a medium that loses, repeats and reorders.
use Rattle.std.proofs.Common.{◌≡◌, ℕ, zero, suc, ◌≤◌, Bool, true, false, cond, ◌||◌, ◌⊎◌, inl, inr, List, [], ◌∷◌, ◌++◌, length, refl, sym, ap, ◌∙◌, arith}
use Rattle.dcsp_defs.specs.Csp.{Csp}
use Rattle.law_runs.specs.Worlds.{World, begin, event, after}
use Rattle.law_runs.specs.LossyEnds.{is_quiet, has_verdict, used, calm_word, calm_words}
use Rattle.law_subjects.specs.Losing.{AreCalm, EventsEndAtVerdict}

nothing_there : {X : Type 0} (before later : List X) (word : X) → [] ≡ before ++ word ∷ later → ⊥
nothing_there [] later word h = cc
nothing_there (w ∷ before) later word h = cc

not_refuted : (p : Csp) (w : World) → has_verdict p w ≡ false → w.network.refuted ≡ false
not_refuted p w h = (elim w.network.refuted as (λ r. (r || is_quiet p w) ≡ false → r ≡ false) [ true ↦ λ e. cc | false ↦ λ e. refl ]) h

after_one : (p : Csp) (word : ℕ) (words : List ℕ) (w : World) → has_verdict p w ≡ false → after p (word ∷ words) w ≡ after p words (event p word w)
after_one p word words w h = ap (λ r. cond r w (after p words (event p word w))) (not_refuted p w h)

-- words before each of which no verdict stands
abbrev NoneBefore : Csp → List ℕ → World → Type 0
NoneBefore p words w = (before later : List ℕ) (word : ℕ) → words ≡ before ++ word ∷ later → has_verdict p (after p before w) ≡ false

none_before_more : (p : Csp) (word : ℕ) (words : List ℕ) (w : World) → has_verdict p w ≡ false → NoneBefore p words (event p word w) → NoneBefore p (word ∷ words) w
none_before_more p word words w h rest [] later next e = h
none_before_more p word words w h rest (x ∷ before) later next e =
    let same : x ≡ word = cc in
    let more : words ≡ before ++ next ∷ later = cc in
    rw same (rw (after_one p word before w h) (rest before later next more))

-- the words that were used, and then others
used_before : (p : Csp) (given : List ℕ) (others : List ℕ) (w : World) → NoneBefore p others (after p (used p given w) w) → NoneBefore p (used p given w ++ others) w
used_before p [] others w h = h
used_before p (word ∷ given) others w h =
    (elim (has_verdict p w) as (λ b. has_verdict p w ≡ b → NoneBefore p others (after p (cond b [] (word ∷ used p given (event p word w))) w) → NoneBefore p (cond b [] (word ∷ used p given (event p word w)) ++ others) w) [
      | true ↦ λ is g. g
      | false ↦ λ is g. none_before_more p word (used p given (event p word w) ++ others) w is (used_before p given others (event p word w) (rw (after_one p word (used p given (event p word w)) w is) at g))
    ]) refl h

calm_before : (p : Csp) (n : ℕ) (w : World) → NoneBefore p (calm_words p n w) w
calm_before p zero w = λ before later word e. absurd (nothing_there before later word e)
calm_before p (suc n) w =
    (elim (has_verdict p w) as (λ b. has_verdict p w ≡ b → NoneBefore p (cond b [] (calm_word w ∷ calm_words p n (event p (calm_word w) w))) w) [
      | true ↦ λ is before later word e. absurd (nothing_there before later word e)
      | false ↦ λ is. none_before_more p (calm_word w) (calm_words p n (event p (calm_word w) w)) w is (calm_before p n (event p (calm_word w) w))
    ]) refl

-- ---- which words

calm_more : (p : Csp) (words : List ℕ) (w : World) → has_verdict p w ≡ false → AreCalm p words (event p (calm_word w) w) → AreCalm p (calm_word w ∷ words) w
calm_more p words w h rest [] later word e = let same : word ≡ calm_word w = cc in same
calm_more p words w h rest (x ∷ before) later word e =
    let same : x ≡ calm_word w = cc in
    let more : words ≡ before ++ word ∷ later = cc in
    rest before later word more ∙ ap calm_word (sym (ap (λ y. after p (y ∷ before) w) same ∙ after_one p (calm_word w) before w h))

are_calm : (p : Csp) (n : ℕ) (w : World) → AreCalm p (calm_words p n w) w
are_calm p zero w = λ before later word e. absurd (nothing_there before later word e)
are_calm p (suc n) w =
    (elim (has_verdict p w) as (λ b. has_verdict p w ≡ b → AreCalm p (cond b [] (calm_word w ∷ calm_words p n (event p (calm_word w) w))) w) [
      | true ↦ λ is before later word e. absurd (nothing_there before later word e)
      | false ↦ λ is. calm_more p (calm_words p n (event p (calm_word w) w)) w is (are_calm p n (event p (calm_word w) w))
    ]) refl

few_calm : (p : Csp) (n : ℕ) (w : World) → length (calm_words p n w) ≤ n
few_calm p zero w = omega arith
few_calm p (suc n) w = let rest = few_calm p n (event p (calm_word w) w) in elim (has_verdict p w) as (λ b. length (cond b [] (calm_word w ∷ calm_words p n (event p (calm_word w) w))) ≤ suc n) [ true ↦ omega arith | false ↦ omega (arith, rest) ]

no_calm : (p : Csp) (n : ℕ) (w : World) → has_verdict p w ≡ true → calm_words p n w ≡ []
no_calm p zero w h = refl
no_calm p (suc n) w h = ap (λ b. cond b [] (calm_word w ∷ calm_words p n (event p (calm_word w) w))) h

-- what was used, and what was not; where something was not, a verdict stands
record IsFront (p : Csp) (given : List ℕ) (w : World) : Type 0 where
  unused : List ℕ
  parts : used p given w ++ unused ≡ given
  all : (unused ≡ []) ⊎ (has_verdict p (after p (used p given w) w) ≡ true)

front_more : (p : Csp) (word : ℕ) (given : List ℕ) (w : World) → IsFront p given (event p word w) → (b : Bool) → has_verdict p w ≡ b → IsFront p (word ∷ given) w
front_more p word given w rest true is =
    let none : used p (word ∷ given) w ≡ [] = ap (λ b. cond b [] (word ∷ used p given (event p word w))) is in
    record { unused = word ∷ given; parts = ap (λ (ws : List ℕ). ws ++ word ∷ given) none; all = inr (ap (λ (ws : List ℕ). has_verdict p (after p ws w)) none ∙ is) }
front_more p word given w rest false is =
    let one : used p (word ∷ given) w ≡ word ∷ used p given (event p word w) = ap (λ b. cond b [] (word ∷ used p given (event p word w))) is in
    record {
      unused = rest.unused;
      parts = ap (λ (ws : List ℕ). ws ++ rest.unused) one ∙ ap (λ ws. word ∷ ws) rest.parts;
      all = elim rest.all [
        | inl none ↦ inl none
        | inr verdict ↦ inr (ap (λ (ws : List ℕ). has_verdict p (after p ws w)) one ∙ ap (λ (v : World). has_verdict p v) (after_one p word (used p given (event p word w)) w is) ∙ verdict)
      ];
    }

front : (p : Csp) (given : List ℕ) (w : World) → IsFront p given w
front p [] w = record { unused = []; parts = refl; all = inl refl }
front p (word ∷ given) w = front_more p word given w (front p given (event p word w)) (has_verdict p w) refl

pub events_end_at_verdict : (p : Csp) (given : List ℕ) (most : ℕ) → EventsEndAtVerdict p given most
events_end_at_verdict p given most =
    let first = used p given (begin p) in
    let world = after p first (begin p) in
    let f = front p given (begin p) in
    record {
      none_before = used_before p given (calm_words p most world) (begin p) (calm_before p most world);
      words = record {
        first = first;
        unused = f.unused;
        are_given = f.parts;
        calm = calm_words p most world;
        all = refl;
        few = few_calm p most world;
        are_calm = are_calm p most world;
        used_first = elim f.all [ inl none ↦ inr none | inr verdict ↦ inl (no_calm p most world verdict) ];
      };
    }
