-- First bad lines, of whatever texts are whole.
use Rattle.std.proofs.Common.{◌≡◌, ℕ, suc, ◌+◌, ◌-◌, ◌<◌, ◌≤◌, true, false, ◌⊎◌, List, [], ◌∷◌, ◌++◌, length, take, drop, inl, inr, refl, sym, ap, subst, ◌∙◌, append_assoc, arith}
use Rattle.std.specs.Str.{bytes_eq}
use Rattle.std.proofs.lemmas.Bool.{false≢true, cases_lt}
use Rattle.std.proofs.lemmas.List.{append-nil, length-append, take_at, take-take, take-append-drop}
use Rattle.std.proofs.lemmas.Slice.Eq.{bytes_eq-Decides}
use Rattle.ngd_log.specs.Lines.{lines, Begin, IsFirstBadOf}

-- ---- one answer

-- fewer lines of those with which a whole text begins
begins_fewer : (whole : List (List ℕ) → Type 0) (ls : List (List ℕ)) (m n : ℕ) → m ≤ n → Begin whole (take n ls) → Begin whole (take m ls)
begins_fewer whole ls m n le b =
    let front : take m (take n ls) ≡ take m ls = take-take m n ls le in
    let split : take n ls ≡ take m ls ++ drop m (take n ls) = sym (take-append-drop m (take n ls)) ∙ ap (λ (x : List (List ℕ)). x ++ drop m (take n ls)) front in
    let all : take n ls ++ b.0 ≡ take m ls ++ (drop m (take n ls) ++ b.0) = ap (λ (x : List (List ℕ)). x ++ b.0) split ∙ append_assoc (take m ls) (drop m (take n ls)) b.0 in
    (drop m (take n ls) ++ b.0, subst whole all b.1)

-- no line is the first bad one before another
not_before : (whole : List (List ℕ) → Type 0) (text : List ℕ) (m n : ℕ) → IsFirstBadOf whole text m → IsFirstBadOf whole text n → m < n → ⊥
not_before whole text m n a b lt =
    elim a.bad [
      | inl w ↦ w.wrong (begins_fewer whole (lines text) m (n - 1) (omega arith) b.before)
      | inr s ↦ let last = s.after_last in elim b.bad [ inl w ↦ let there = w.there in absurd (omega arith) | inr t ↦ let after = t.after_last in absurd (omega arith) ]
    ]

-- one first bad line
pub one_line : (whole : List (List ℕ) → Type 0) (text : List ℕ) (m n : ℕ) → IsFirstBadOf whole text m → IsFirstBadOf whole text n → m ≡ n
one_line whole text m n a b =
    elim (cases_lt m n) [
      | inl lt ↦ absurd (not_before whole text m n a b lt)
      | inr le ↦ elim (cases_lt n m) [ inl lt ↦ absurd (not_before whole text n m b a lt) | inr ge ↦ omega arith ]
    ]

-- a whole text has no bad line
pub not_both : (whole : List (List ℕ) → Type 0) (text : List ℕ) (number : ℕ) → whole (lines text) → IsFirstBadOf whole text number → ⊥
not_both whole text number is b =
    elim b.bad [
      | inl w ↦ w.wrong (drop number (lines text), subst whole (sym (take-append-drop number (lines text))) is)
      | inr m ↦ m.not_whole is
    ]

-- ---- some answer

-- the first lines of a text
take_front : (text : List ℕ) (front others : List (List ℕ)) (n : ℕ) → lines text ≡ front ++ others → n ≡ length front → take n (lines text) ≡ front
take_front text front others n e k = ap (take n) e ∙ take_at front others n (sym k)

-- the line after these is bad where there is none
bad_stop : (whole : List (List ℕ) → Type 0) (text : List ℕ) (front : List (List ℕ)) → Begin whole front → (whole front → ⊥) → lines text ≡ front → IsFirstBadOf whole text (length front + 1)
bad_stop whole text front begins none e =
    let count : length (lines text) ≡ length front = ap length e in
    record {
      positive = omega arith;
      before = subst (Begin whole) (sym (take_front text front [] (length front + 1 - 1) (e ∙ sym (append-nil front)) (omega arith))) begins;
      bad = inr (record { after_last = omega arith; not_whole = λ w. none (subst whole e w) });
    }

-- the line after these is bad where no whole text goes on with it
bad_line : (whole : List (List ℕ) → Type 0) (text : List ℕ) (front : List (List ℕ)) (line : List ℕ) (others : List (List ℕ)) → Begin whole front
    → ((more : List (List ℕ)) → whole (front ++ line ∷ more) → ⊥) → lines text ≡ front ++ line ∷ others → IsFirstBadOf whole text (length front + 1)
bad_line whole text front line others begins none e =
    let count : length (lines text) ≡ length front + suc (length others) = ap length e ∙ length-append front (line ∷ others) in
    let longer : length (front ++ line ∷ []) ≡ length front + 1 = length-append front (line ∷ []) in
    record {
      positive = omega arith;
      before = subst (Begin whole) (sym (take_front text front (line ∷ others) (length front + 1 - 1) e (omega arith))) begins;
      bad = inl (record {
        there = omega arith;
        wrong = λ b.
            let t : take (length front + 1) (lines text) ≡ front ++ line ∷ [] = take_front text (front ++ line ∷ []) others (length front + 1) (e ∙ sym (append_assoc front (line ∷ []) others)) (sym longer) in
            none b.0 (subst whole (ap (λ (x : List (List ℕ)). x ++ b.0) t ∙ append_assoc front (line ∷ []) b.0) b.1);
      });
    }

-- the lines of whole texts: a first line, lines that may follow those before them, and a last line
pub record AreFronts {F : Type 0} (whole : List (List ℕ) → Type 0) (last : List ℕ) (front : F → List (List ℕ)) : Type 0 where
  pub some : (others : List (List ℕ)) × whole others
  pub none : whole [] → ⊥
  pub first : (line : List ℕ) → ((f : F) × (front f ≡ line ∷ [])) ⊎ ((more : List (List ℕ)) → whole (line ∷ more) → ⊥)
  pub next : (f : F) (line : List ℕ) → (line ≡ last → ⊥) → ((g : F) × (front g ≡ front f ++ line ∷ [])) ⊎ ((more : List (List ℕ)) → whole (front f ++ line ∷ more) → ⊥)
  pub ends : (f : F) → whole (front f ++ last ∷ [])
  pub ends_there : (f : F) (line : List ℕ) (more : List (List ℕ)) → whole (front f ++ last ∷ line ∷ more) → ⊥
  pub goes_on : (f : F) → whole (front f) → ⊥

-- the first line is bad where no whole text has it
pub bad_first : {F : Type 0} (whole : List (List ℕ) → Type 0) (last : List ℕ) (front : F → List (List ℕ)) → AreFronts whole last front → (text : List ℕ)
    → ((f : F) (others : List (List ℕ)) → lines text ≡ front f ++ others → ⊥) → IsFirstBadOf whole text 1
bad_first whole last front are text n =
    (elim (lines text) as (λ ls. lines text ≡ ls → IsFirstBadOf whole text 1) [
      | [] ↦ λ e. bad_stop whole text [] are.some are.none e
      | line ∷ others ↦ λ e. elim (are.first line) [
        | inl f ↦ absurd (n f.0 others (e ∙ ap (λ (x : List (List ℕ)). x ++ others) (sym f.1)))
        | inr none ↦ bad_line whole text [] line others are.some none e
      ]
    ]) refl

-- the line after a front is bad where there is none
pub bad_end : {F : Type 0} (whole : List (List ℕ) → Type 0) (last : List ℕ) (front : F → List (List ℕ)) → AreFronts whole last front → (text : List ℕ) (f : F) → lines text ≡ front f ++ [] → IsFirstBadOf whole text (length (front f) + 1)
bad_end whole last front are text f e = bad_stop whole text (front f) (last ∷ [], are.ends f) (are.goes_on f) (e ∙ append-nil (front f))

-- the line after a front is bad where it is not the last one and no whole text goes on with it
pub bad_next : {F : Type 0} (whole : List (List ℕ) → Type 0) (last : List ℕ) (front : F → List (List ℕ)) → AreFronts whole last front → (text : List ℕ) (f : F) (line : List ℕ) (others : List (List ℕ))
    → lines text ≡ front f ++ line ∷ others → ((more : List (List ℕ)) → whole (front f ++ line ∷ more) → ⊥) → IsFirstBadOf whole text (length (front f) + 1)
bad_next whole last front are text f line others e none = bad_line whole text (front f) line others (last ∷ [], are.ends f) none e

-- a line after the last one is bad
pub bad_beyond : {F : Type 0} (whole : List (List ℕ) → Type 0) (last : List ℕ) (front : F → List (List ℕ)) → AreFronts whole last front → (text : List ℕ) (f : F) (line : List ℕ) (others : List (List ℕ))
    → lines text ≡ front f ++ last ∷ line ∷ others → IsFirstBadOf whole text (length (front f) + 2)
bad_beyond whole last front are text f line others e =
    let longer : length (front f ++ last ∷ []) + 1 ≡ length (front f) + 2 = let l = length-append (front f) (last ∷ []) in omega arith in
    subst (λ (n : ℕ). IsFirstBadOf whole text n) longer
    (bad_line whole text (front f ++ last ∷ []) line others ([], subst whole (sym (append-nil (front f ++ last ∷ []))) (are.ends f))
    (λ more w. are.ends_there f line more (subst whole (append_assoc (front f) (last ∷ []) (line ∷ more)) w)) (e ∙ sym (append_assoc (front f) (last ∷ []) (line ∷ others))))

-- from the lines of a front on
from_front : {F : Type 0} (whole : List (List ℕ) → Type 0) (last : List ℕ) (front : F → List (List ℕ)) → AreFronts whole last front → (text : List ℕ) (others : List (List ℕ)) (f : F)
    → lines text ≡ front f ++ others → whole (lines text) ⊎ ((number : ℕ) × IsFirstBadOf whole text number)
from_front whole last front are text [] f e = inr (length (front f) + 1, bad_end whole last front are text f e)
from_front {F} whole last front are text (line ∷ others) f e =
    let d = bytes_eq-Decides line last in
    (elim (bytes_eq line last) as (λ t. bytes_eq line last ≡ t → whole (lines text) ⊎ ((number : ℕ) × IsFirstBadOf whole text number)) [
      | true ↦ λ same. at_end others (subst (λ (l : List ℕ). lines text ≡ front f ++ l ∷ others) (d.0 same) e)
      | false ↦ λ other. elim (are.next f line (λ same. false≢true (sym other ∙ d.1 same))) [
        | inl g ↦ from_front whole last front are text others g.0 (e ∙ sym (append_assoc (front f) (line ∷ []) others) ∙ ap (λ (x : List (List ℕ)). x ++ others) (sym g.1))
        | inr none ↦ inr (length (front f) + 1, bad_next whole last front are text f line others e none)
      ]
    ]) refl
  where
    at_end : (rest : List (List ℕ)) → lines text ≡ front f ++ last ∷ rest → whole (lines text) ⊎ ((number : ℕ) × IsFirstBadOf whole text number)
    at_end [] g = inl (subst whole (sym g) (are.ends f))
    at_end (l ∷ ls) g = inr (length (front f) + 2, bad_beyond whole last front are text f l ls g)

-- each text is whole or has a first bad line
pub whole_or_bad : {F : Type 0} (whole : List (List ℕ) → Type 0) (last : List ℕ) (front : F → List (List ℕ)) → AreFronts whole last front → (text : List ℕ) → whole (lines text) ⊎ ((number : ℕ) × IsFirstBadOf whole text number)
whole_or_bad whole last front are text =
    (elim (lines text) as (λ ls. lines text ≡ ls → whole (lines text) ⊎ ((number : ℕ) × IsFirstBadOf whole text number)) [
      | [] ↦ λ e. inr (1, bad_stop whole text [] are.some are.none e)
      | line ∷ others ↦ λ e. elim (are.first line) [
        | inl f ↦ from_front whole last front are text others f.0 (e ∙ ap (λ (x : List (List ℕ)). x ++ others) (sym f.1))
        | inr none ↦ inr (1, bad_line whole text [] line others are.some none e)
      ]
    ]) refl
