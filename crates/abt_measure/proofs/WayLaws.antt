-- Messages in transit by receiver, and the clocks of agents.
use Rattle.std.proofs.Common.{◌≡◌, ℕ, zero, suc, ◌+◌, ◌<◌, ◌==◌, ◌&&◌, true, false, cond, inl, inr, List, [], ◌∷◌, ◌++◌, length, get_or, set, drop, ◌≤◌, add-one, refl, sym, ap, ◌∙◌, arith, append_assoc, append-nil}
use Rattle.std.proofs.lemmas.Bool.Decides.{eqb_tells}
use Rattle.std.proofs.lemmas.List.{get_or-set_same, get_or-set_other}
use Rattle.std.proofs.Math.Seq.{drop-cons}
use Rattle.abt_defs.specs.Clocks.{rest_of, copies}
use Rattle.abt_parts.specs.declared.message.SentTo.{SentTo}
use Rattle.abt_measure.specs.declared.carried.Carried.{Carried}
use Rattle.abt_measure.specs.Carrying.{clocks_from, clocks_on, receivers_of, sent_with}

-- one list was changed for one sender
set_one : (f : List ℕ → List ℕ) (from to : ℕ) (lists : List (List Carried)) (list : List Carried) → to < length lists
    → ((a : ℕ) → clocks_from a list ≡ cond (a == from) (f (clocks_on lists a to)) (clocks_on lists a to))
    → (a b : ℕ) → clocks_on (set lists to list) a b ≡ cond (a == from && b == to) (f (clocks_on lists a b)) (clocks_on lists a b)
set_one f from to lists list l h a b = elim (eqb_tells b to) [
  | inl t ↦
      let e : clocks_on (set lists to list) a b ≡ clocks_from a list = ap (λ z. clocks_from a (get_or (set lists to list) z [])) t.1 ∙ ap (clocks_from a) (get_or-set_same lists to list [] l) in
      let back : clocks_on lists a to ≡ clocks_on lists a b = ap (clocks_on lists a) (sym t.1) in
      elim (eqb_tells a from) [
        | inl u ↦ rw (u.0, t.0) (e ∙ h a ∙ rw u.0 (ap f back))
        | inr u ↦ rw u.0 (e ∙ h a ∙ rw u.0 back)
      ]
  | inr t ↦
      let e : clocks_on (set lists to list) a b ≡ clocks_on lists a b = ap (clocks_from a) (get_or-set_other lists to b list [] t.1) in
      elim (eqb_tells a from) [ inl u ↦ rw (u.0, t.0) e | inr u ↦ rw u.0 e ]
]

pub set_taken : (from to : ℕ) (lists : List (List Carried)) (list : List Carried) → to < length lists
    → ((a : ℕ) → clocks_from a list ≡ cond (a == from) (rest_of (clocks_on lists a to)) (clocks_on lists a to))
    → (a b : ℕ) → clocks_on (set lists to list) a b ≡ cond (a == from && b == to) (rest_of (clocks_on lists a b)) (clocks_on lists a b)
set_taken from to lists list l h = set_one rest_of from to lists list l h

pub set_added : (from to clock : ℕ) (lists : List (List Carried)) (list : List Carried) → to < length lists
    → ((a : ℕ) → clocks_from a list ≡ cond (a == from) (clocks_on lists a to ++ clock ∷ []) (clocks_on lists a to))
    → (a b : ℕ) → clocks_on (set lists to list) a b ≡ cond (a == from && b == to) (clocks_on lists a b ++ clock ∷ []) (clocks_on lists a b)
set_added from to clock lists list l h = set_one (λ z. z ++ clock ∷ []) from to lists list l h

-- one message more is sent
pub one_more : (from clock to : ℕ) (rest : List ℕ) (a b : ℕ) (old new : List ℕ) → new ≡ cond (a == from && b == to) (old ++ clock ∷ []) old
    → new ++ sent_with from clock rest a b ≡ old ++ sent_with from clock (to ∷ rest) a b
one_more from clock to rest a b old new e = elim (eqb_tells a from) [
  | inl t ↦ elim (eqb_tells b to) [
    | inl u ↦
        let n : new ≡ old ++ clock ∷ [] = e ∙ rw (t.0, u.0) refl in
        let back : (to == b) ≡ true = elim (eqb_tells to b) [ inl v ↦ v.0 | inr v ↦ absurd (v.1 (sym u.1)) ] in
        rw (t.0, back) (ap (λ z. z ++ copies clock b rest) n ∙ append_assoc old (clock ∷ []) (copies clock b rest))
    | inr u ↦
        let n : new ≡ old = e ∙ rw (t.0, u.0) refl in
        let back : (to == b) ≡ false = elim (eqb_tells to b) [ inl v ↦ absurd (u.1 (sym v.1)) | inr v ↦ v.0 ] in
        rw (t.0, back) (ap (λ z. z ++ copies clock b rest) n)
  ]
  | inr t ↦ let n : new ≡ old = e ∙ rw t.0 refl in rw t.0 (ap (λ z. z ++ []) n)
]

pub blank_more : (lists : List (List Carried)) → ((b : ℕ) → get_or lists b [] ≡ []) → (b : ℕ) → get_or (lists ++ [] ∷ []) b [] ≡ []
blank_more [] h zero = refl
blank_more [] h (suc b) = refl
blank_more (x ∷ xs) h zero = h 0
blank_more (x ∷ xs) h (suc b) = blank_more xs (λ k. h (suc k)) b

pub none_on : (lists : List (List Carried)) → ((b : ℕ) → get_or lists b [] ≡ []) → (a b : ℕ) → clocks_on lists a b ≡ []
none_on lists h a b = ap (clocks_from a) (h b)

pub sent_step : (from clock : ℕ) (sent : List SentTo) (i : ℕ) (x : SentTo) (old new : List ℕ) (a b : ℕ) → i < length sent → x ≡ get_or sent i x → new ≡ cond (a == from && b == x.to) (old ++ clock ∷ []) old
    → new ++ sent_with from clock (receivers_of (drop (i + 1) sent)) a b ≡ old ++ sent_with from clock (receivers_of (drop i sent)) a b
sent_step from clock sent i x old new a b l e h =
    let d : drop i sent ≡ x ∷ drop (i + 1) sent = rw (add-one) (drop-cons sent i x l ∙ ap (λ y. y ∷ drop (suc i) sent) (sym e)) in
    one_more from clock x.to (receivers_of (drop (i + 1) sent)) a b old new h ∙ ap (λ z. old ++ sent_with from clock (receivers_of z) a b) (sym d)

pub sent_end : (from clock : ℕ) (sent : List SentTo) (i : ℕ) (new : List ℕ) (a b : ℕ) → length sent ≤ i → new ++ sent_with from clock (receivers_of (drop i sent)) a b ≡ new
sent_end from clock sent i new a b l =
    ap (λ z. new ++ sent_with from clock (receivers_of z) a b) (drop_past sent i l) ∙ elim (eqb_tells a from) [ inl t ↦ rw t.0 (append-nil new) | inr t ↦ rw t.0 (append-nil new) ]
  where
    drop_past : (xs : List SentTo) (i : ℕ) → length xs ≤ i → drop i xs ≡ []
    drop_past [] zero l = refl
    drop_past [] (suc i) l = refl
    drop_past (x ∷ xs) zero l = absurd (omega arith)
    drop_past (x ∷ xs) (suc i) l = drop_past xs i (omega arith)
