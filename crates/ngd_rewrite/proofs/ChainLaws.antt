-- Chains of the steps that end at one step.
use Rattle.std.proofs.Common.{◌≡◌, ℕ, zero, suc, ◌+◌, ◌-◌, ◌<◌, ◌≤◌, Bool, true, false, cond, eqb, List, [], ◌∷◌, ◌++◌, length, drop, get_or, inl, inr, refl, sym, ap, subst, ◌∙◌, append-nil, append_assoc, arith}
use Rattle.std.specs.List.{filter}
use Rattle.std.proofs.lemmas.Bool.{cases_eq, cases_lt, eq-eqb, ne_eqb}
use Rattle.std.proofs.lemmas.List.{drop_all}
use Rattle.ngd_rewrite.specs.Upgrade.{numbers}
use Rattle.ngd_rewrite.specs.Endings.{Follows, LeadLater}
use Rattle.ngd_rewrite.proofs.Numbers.{length-numbers}

-- ---- numbers from a place on

drop_push : (xs : List ℕ) (i y : ℕ) → i ≤ length xs → drop i (xs ++ y ∷ []) ≡ drop i xs ++ y ∷ []
drop_push xs zero y le = refl
drop_push [] (suc i) y le = absurd (omega (arith, le))
drop_push (x ∷ xs) (suc i) y le = drop_push xs i y (omega (arith, le))

-- the first of the numbers from a place on
drop_numbers : (n i : ℕ) → i < n → drop i (numbers n) ≡ (i + 1) ∷ drop (i + 1) (numbers n)
drop_numbers zero i lt = absurd (omega (arith, lt))
drop_numbers (suc n) i lt =
    let l = length-numbers n in
    elim (cases_lt i n) [
      | inl below ↦
          drop_push (numbers n) i (suc n) (omega (arith, l, below)) ∙ ap (λ (xs : List ℕ). xs ++ suc n ∷ []) (drop_numbers n i below)
          ∙ ap (λ (xs : List ℕ). (i + 1) ∷ xs) (sym (drop_push (numbers n) (i + 1) (suc n) (omega (arith, l, below))))
      | inr at ↦
          let whole = length-numbers (suc n) in
          let e : suc n ≡ i + 1 = omega (arith, lt, at) in
          drop_push (numbers n) i (suc n) (omega (arith, l, lt)) ∙ ap (λ (xs : List ℕ). xs ++ suc n ∷ []) (drop_all i (numbers n) (omega (arith, l, at)))
          ∙ ap (λ (x : ℕ). x ∷ []) e ∙ ap (λ (xs : List ℕ). (i + 1) ∷ xs) (sym (drop_all (i + 1) (numbers (suc n)) (omega (arith, whole, e))))
    ]

-- ---- chains

-- a chain that begins later is as before where one place was changed
chain_beside : (old new : List ℕ) (place s : ℕ) (xs : List ℕ) → length new ≡ length old → ((k : ℕ) → (k ≡ place → ⊥) → get_or new k 0 ≡ get_or old k 0) → LeadLater old → place < s → Follows old s xs → Follows new s xs
chain_beside old new place s [] count same later lt f = omega (arith, count, f)
chain_beside old new place s (x ∷ xs) count same later lt f =
    let within : s < length old = f.1 in
    let next : get_or new s 0 ≡ get_or old s 0 = same s (λ e. absurd (omega (arith, e, lt))) in
    let beyond : s < get_or old s 0 = later s within in (
      f.0,
      omega (arith, count, within),
      subst (λ (n : ℕ). Follows new n xs) (sym next) (chain_beside old new place (get_or old s 0) xs count same later (omega (arith, beyond, lt)) f.2),
    )

-- whether a step ends at the one at this place
abbrev pub ends_at : List ℕ → ℕ → ℕ → Bool
ends_at ends k number = eqb (get_or ends (number - 1) 0) (k + 1)

-- the chains have the steps from this place on
pub record AreLinked (ends firsts nexts : List ℕ) (place : ℕ) : Type 0 where
  pub within : place ≤ length ends
  pub as_many : length firsts ≡ length ends
  pub so_many : length nexts ≡ length ends
  pub later : LeadLater nexts
  pub late : (k : ℕ) → k < length ends → place ≤ get_or firsts k 0
  pub each : (k : ℕ) → k < length ends → Follows nexts (get_or firsts k 0) (filter (ends_at ends k) (drop place (numbers (length ends))))

-- no step is linked
pub none_linked : (ends firsts nexts : List ℕ) → length firsts ≡ length ends → length nexts ≡ length ends
    → ((k : ℕ) → k < length ends → get_or firsts k 0 ≡ length ends) → ((i : ℕ) → i < length ends → get_or nexts i 0 ≡ length ends) → AreLinked ends firsts nexts (length ends)
none_linked ends firsts nexts f n none past =
    let l = length-numbers (length ends) in
    record {
      within = omega arith;
      as_many = f;
      so_many = n;
      later = λ i lt. let e = past i (omega (arith, lt, n)) in omega (arith, e, lt, n);
      late = λ k lt. let e = none k lt in omega (arith, e);
      each = λ k lt.
          let e = none k lt in
          subst (λ (xs : List ℕ). Follows nexts (get_or firsts k 0) (filter (ends_at ends k) xs)) (sym (drop_all (length ends) (numbers (length ends)) (omega (arith, l)))) (omega (arith, e, n));
    }

-- one step more is linked
pub one_linked : (ends firsts nexts firsts2 nexts2 : List ℕ) (place end : ℕ) → place < length ends → 0 < get_or ends place 0 → get_or ends place 0 ≤ length ends → end ≡ get_or ends place 0 - 1
    → get_or nexts2 place 0 ≡ get_or firsts end 0 → ((k : ℕ) → (k ≡ place → ⊥) → get_or nexts2 k 0 ≡ get_or nexts k 0) → length nexts2 ≡ length nexts
    → get_or firsts2 end 0 ≡ place → ((k : ℕ) → (k ≡ end → ⊥) → get_or firsts2 k 0 ≡ get_or firsts k 0) → length firsts2 ≡ length firsts
    → AreLinked ends firsts nexts (place + 1) → AreLinked ends firsts2 nexts2 place
one_linked ends firsts nexts firsts2 nexts2 place end lt some most is here beside as_many first others so_many h =
    let en = h.so_many in
    record {
      within = omega (arith, lt);
      as_many = so_many ∙ h.as_many;
      so_many = as_many ∙ h.so_many;
      later = λ i within. elim (cases_eq i place) [
        | inl same ↦
            let at : get_or nexts2 i 0 ≡ get_or firsts end 0 = ap (λ (j : ℕ). get_or nexts2 j 0) same ∙ here in
            let far = h.late end (omega (arith, is, some, most)) in
            omega (arith, at, far, same)
        | inr unlike ↦ let at = beside i unlike in let far = h.later i (omega (arith, within, as_many)) in omega (arith, at, far)
      ];
      late = λ k within. elim (cases_eq k end) [
        | inl same ↦ let at : get_or firsts2 k 0 ≡ place = ap (λ (j : ℕ). get_or firsts2 j 0) same ∙ first in omega (arith, at)
        | inr unlike ↦ let at = others k unlike in let far = h.late k within in omega (arith, at, far)
      ];
      each = λ k within.
          let old = chain_beside nexts nexts2 place (get_or firsts k 0) (filter (ends_at ends k) (drop (place + 1) (numbers (length ends)))) as_many beside h.later
          (let far = h.late k within in omega (arith, far)) (h.each k within) in
          let all : filter (ends_at ends k) (drop place (numbers (length ends))) ≡ filter (ends_at ends k) ((place + 1) ∷ drop (place + 1) (numbers (length ends))) =
          ap (filter (ends_at ends k)) (drop_numbers (length ends) place lt) in
          let back : place + 1 - 1 ≡ place = omega arith in
          let tested : ends_at ends k (place + 1) ≡ eqb (get_or ends place 0) (k + 1) = ap (λ (n : ℕ). eqb (get_or ends n 0) (k + 1)) back in
          let rest = filter (ends_at ends k) (drop (place + 1) (numbers (length ends))) in
          elim (cases_eq k end) [
            | inl same ↦
                let yes : ends_at ends k (place + 1) ≡ true = tested ∙ eq-eqb (get_or ends place 0) (k + 1) (omega (arith, same, is, some)) in
                let at : get_or firsts2 k 0 ≡ place = ap (λ (j : ℕ). get_or firsts2 j 0) same ∙ first in
                let next : get_or firsts k 0 ≡ get_or nexts2 place 0 = ap (λ (j : ℕ). get_or firsts j 0) same ∙ sym here in
                subst (λ (xs : List ℕ). Follows nexts2 (get_or firsts2 k 0) xs) (sym (all ∙ ap (λ (b : Bool). cond b ((place + 1) ∷ rest) rest) yes))
                (subst (λ (s : ℕ). Follows nexts2 s ((place + 1) ∷ rest)) (sym at) (refl, omega (arith, lt, as_many, en), subst (λ (s : ℕ). Follows nexts2 s rest) next old))
            | inr unlike ↦
                let no_pick : ends_at ends k (place + 1) ≡ false = tested ∙ ne_eqb (get_or ends place 0) (k + 1) (λ e. unlike (omega (arith, e, is))) in
                subst (λ (xs : List ℕ). Follows nexts2 (get_or firsts2 k 0) xs) (sym (all ∙ ap (λ (b : Bool). cond b ((place + 1) ∷ rest) rest) no_pick))
                (subst (λ (s : ℕ). Follows nexts2 s rest) (sym (others k unlike)) old)
          ];
    }

-- ---- walks along a chain

-- the numbers so far and those of the rest of the chain are all
abbrev pub HasRest : List ℕ → ℕ → List ℕ → List ℕ → Type 0
HasRest nexts place so_far all = (rest : List ℕ) × Follows nexts place rest × (so_far ++ rest ≡ all)

-- one place further
pub rest_more : (nexts : List ℕ) (place : ℕ) (old new all : List ℕ) → place < length nexts → new ≡ old ++ (place + 1) ∷ [] → HasRest nexts place old all → HasRest nexts (get_or nexts place 0) new all
rest_more nexts place old new all lt e h = by_rest h.0 h.1 h.2
  where
    by_rest : (rest : List ℕ) → Follows nexts place rest → old ++ rest ≡ all → HasRest nexts (get_or nexts place 0) new all
    by_rest [] f g = absurd (omega (arith, lt, f))
    by_rest (x ∷ xs) f g = (xs, f.2, ap (λ (y : List ℕ). y ++ xs) e ∙ append_assoc old ((place + 1) ∷ []) xs ∙ ap (λ (n : ℕ). old ++ n ∷ xs) (sym f.0) ∙ g)

-- past the last place
pub rest_done : (nexts : List ℕ) (place : ℕ) (so_far all : List ℕ) → length nexts ≤ place → HasRest nexts place so_far all → so_far ≡ all
rest_done nexts place so_far all le h = by_rest h.0 h.1 h.2
  where
    by_rest : (rest : List ℕ) → Follows nexts place rest → so_far ++ rest ≡ all → so_far ≡ all
    by_rest [] f g = sym (append-nil so_far) ∙ g
    by_rest (x ∷ xs) f g = let w = f.1 in absurd (omega (arith, le, w))
