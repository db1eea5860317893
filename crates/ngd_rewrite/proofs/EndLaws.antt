-- Where steps end.
use Rattle.std.proofs.Common.{◌≡◌, ℕ, ◌+◌, ◌<◌, ◌≤◌, Bool, true, false, cond, List, [], ◌∷◌, ◌++◌, length, get_or, max, inl, inr, sym, ap, ◌∙◌, arith}
use Rattle.std.proofs.Math.Nat.{le-max_left, le-max_right, max-zero, zero-max, max_comm, max-eq_left, max-eq_right}
use Rattle.std.proofs.lemmas.Bool.{cases_lt}
use Rattle.std.proofs.lemmas.List.{length-append, get_or_append_left, get_or-append-add}
use Rattle.dcsp_defs.specs.declared.Reason.{Reason}
use Rattle.dcsp_defs.specs.declared.Step.{Step}
use Rattle.ngd_rewrite.specs.Upgrade.{cites, last_citing, end_of}
use Rattle.ngd_rewrite.specs.Endings.{AreEnds}

-- a step ends no earlier than itself
pub end_after : (steps : List Step) (number : ℕ) → number ≤ end_of steps number
end_after steps number = le-max_left number (last_citing 1 steps number)

-- the last step that cites is no earlier than one that does
citing_late : (first : ℕ) (done : List Step) (step : Step) (others : List Step) (number : ℕ) → cites number step.reasons ≡ true → first + length done ≤ last_citing first (done ++ step ∷ others) number
citing_late first [] step others number c =
    let m : max first (last_citing (first + 1) others number) ≡ last_citing first (step ∷ others) number = ap (λ b. max (cond b first 0) (last_citing (first + 1) others number)) (sym c) in
    let l = le-max_left first (last_citing (first + 1) others number) in
    omega (arith, m, l)
citing_late first (d ∷ done) step others number c =
    let h = citing_late (first + 1) done step others number c in
    let r = le-max_right (cond (cites number d.reasons) first 0) (last_citing (first + 1) (done ++ step ∷ others) number) in
    omega (arith, h, r)

-- nor does a step end earlier than one that cites it
pub end_late : (done : List Step) (step : Step) (others : List Step) (number : ℕ) → cites number step.reasons ≡ true → length done + 1 ≤ end_of (done ++ step ∷ others) number
end_late done step others number c =
    let h = citing_late 1 done step others number c in
    let r = le-max_right number (last_citing 1 (done ++ step ∷ others) number) in
    omega (arith, h, r)

-- the greater of two is no more than a bound of both
pub max_most : (a b n : ℕ) → a ≤ n → b ≤ n → max a b ≤ n
max_most a b n p q =
    elim (cases_lt a b) [
      | inl lt ↦ let e : max a b ≡ b = max-eq_right {n = a} {m = b} (omega arith) in omega (arith, e, q)
      | inr le ↦ let e : max a b ≡ a = max-eq_left {n = a} {m = b} le in omega (arith, e, p)
    ]

-- the greatest of three
max_assoc : (a b c : ℕ) → max (max a b) c ≡ max a (max b c)
max_assoc a b c =
    let ab = le-max_left a b in
    let ba = le-max_right a b in
    let lc = le-max_left (max a b) c in
    let rc = le-max_right (max a b) c in
    let bc = le-max_left b c in
    let cb = le-max_right b c in
    let la = le-max_left a (max b c) in
    let ra = le-max_right a (max b c) in
    let up = max_most (max a b) c (max a (max b c)) (max_most a b (max a (max b c)) la (omega (arith, bc, ra))) (omega (arith, cb, ra)) in
    let down = max_most a (max b c) (max (max a b) c) (omega (arith, ab, lc)) (max_most b c (max (max a b) c) (omega (arith, ba, lc)) rc) in
    omega (arith, up, down)

-- the last step that cites is one of them
citing_most : (first : ℕ) (steps : List Step) (number : ℕ) → 0 < first → last_citing first steps number + 1 ≤ first + length steps
citing_most first [] number p = omega (arith, p)
citing_most first (step ∷ steps) number p =
    let h = citing_most (first + 1) steps number (omega arith) in
    let m = max_most (cond (cites number step.reasons) first 0) (last_citing (first + 1) steps number) (first + length steps) (chosen (cites number step.reasons)) (omega (arith, h)) in
    omega (arith, m)
  where
    chosen : (c : Bool) → cond c first 0 ≤ first + length steps
    chosen true = omega arith
    chosen false = omega arith

-- a step ends at one of the steps
pub end_most : (steps : List Step) (number : ℕ) → number ≤ length steps → end_of steps number ≤ length steps
end_most steps number le =
    let c = citing_most 1 steps number (omega arith) in
    max_most number (last_citing 1 steps number) (length steps) le (omega (arith, c))

-- the last step that cites, with one step more
pub citing_more : (first : ℕ) (steps : List Step) (step : Step) (number : ℕ) → last_citing first (steps ++ step ∷ []) number ≡ max (last_citing first steps number) (cond (cites number step.reasons) (first + length steps) 0)
citing_more first [] step number =
    let k : first + 0 ≡ first = omega arith in
    max-zero (cond (cites number step.reasons) first 0) ∙ ap (λ (n : ℕ). cond (cites number step.reasons) n 0) (sym k) ∙ sym (zero-max (cond (cites number step.reasons) (first + 0) 0))
citing_more first (d ∷ steps) step number =
    let k : first + 1 + length steps ≡ first + length (d ∷ steps) = omega arith in
    ap (max (cond (cites number d.reasons) first 0)) (citing_more (first + 1) steps step number ∙ ap (λ (n : ℕ). max (last_citing (first + 1) steps number) (cond (cites number step.reasons) n 0)) k)
    ∙ sym (max_assoc (cond (cites number d.reasons) first 0) (last_citing (first + 1) steps number) (cond (cites number step.reasons) (first + length (d ∷ steps)) 0))

-- where a step ends, with one step more
pub end_more : (steps : List Step) (step : Step) (number : ℕ) → end_of (steps ++ step ∷ []) number ≡ cond (cites number step.reasons) (max (length steps + 1) (end_of steps number)) (end_of steps number)
end_more steps step number =
    ap (max number) (citing_more 1 steps step number) ∙ sym (max_assoc number (last_citing 1 steps number) (cond (cites number step.reasons) (1 + length steps) 0)) ∙ by_test (cites number step.reasons)
  where
    by_test : (c : Bool) → max (end_of steps number) (cond c (1 + length steps) 0) ≡ cond c (max (length steps + 1) (end_of steps number)) (end_of steps number)
    by_test true = let k : 1 + length steps ≡ length steps + 1 = omega arith in rw k (max_comm (end_of steps number) (length steps + 1))
    by_test false = max-zero (end_of steps number)

-- the last step ends at itself
end_last : (steps : List Step) (step : Step) → end_of (steps ++ step ∷ []) (length steps + 1) ≡ length steps + 1
end_last steps step =
    let count = length-append steps (step ∷ []) in
    let low = end_after (steps ++ step ∷ []) (length steps + 1) in
    let high = end_most (steps ++ step ∷ []) (length steps + 1) (omega (arith, count)) in
    omega (arith, count, low, high)

-- the steps that the next one cites end at it, and it ends at itself
pub ends_more : (steps : List Step) (step : Step) (reasons : List Reason) (number : ℕ) (before after : List ℕ) → step.reasons ≡ reasons → number ≡ length before + 1 → AreEnds steps before → length after ≡ length before
    → ((i : ℕ) → i < length before → get_or after i 0 ≡ cond (cites (i + 1) reasons) number (get_or before i 0)) → AreEnds (steps ++ step ∷ []) (after ++ number ∷ [])
ends_more steps step reasons number before after same next are count each =
    let whole = length-append steps (step ∷ []) in
    let all = length-append after (number ∷ []) in
    let many = are.count in
    record {
      count = omega (arith, whole, all, many, count);
      each = λ i lt. elim (cases_lt i (length after)) [
        | inl early ↦
            get_or_append_left after (number ∷ []) 0 i early ∙ each i (omega (arith, early, count)) ∙ moved i (omega (arith, early, count, many)) (cites (i + 1) reasons)
            ∙ ap (λ (rs : List Reason). cond (cites (i + 1) rs) (max (length steps + 1) (end_of steps (i + 1))) (end_of steps (i + 1))) (sym same) ∙ sym (end_more steps step (i + 1))
        | inr late ↦
            let at : i ≡ length after + 0 = omega (arith, late, lt, whole, count, many, all) in
            let is : number ≡ length steps + 1 = omega (arith, next, many) in
            let last : length steps + 1 ≡ i + 1 = omega (arith, at, count, many) in
            ap (λ (j : ℕ). get_or (after ++ number ∷ []) j 0) at ∙ get_or-append-add after (number ∷ []) 0 0 ∙ is ∙ sym (end_last steps step) ∙ ap (end_of (steps ++ step ∷ [])) last
      ];
    }
  where
    moved : (i : ℕ) → i < length steps → (c : Bool) → cond c number (get_or before i 0) ≡ cond c (max (length steps + 1) (end_of steps (i + 1))) (end_of steps (i + 1))
    moved i lt true =
        let many = are.count in
        let most = end_most steps (i + 1) (omega (arith, lt)) in
        let greater : max (length steps + 1) (end_of steps (i + 1)) ≡ length steps + 1 = max-eq_left {n = length steps + 1} {m = end_of steps (i + 1)} (omega (arith, most)) in
        omega (arith, next, many, greater)
    moved i lt false = are.each i lt
