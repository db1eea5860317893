-- One message more that agents were told.
use Rattle.std.proofs.Common.{◌≡◌, ◌≢◌, ◌∙◌, ℕ, zero, suc, ◌<◌, ◌==◌, true, false, cond, not, inl, inr, List, [], ◌∷◌, ◌++◌, filter, length, set, Some, refl, sym, ap, append-nil}
use Rattle.std.specs.List.{flat_map}
use Rattle.std.proofs.lemmas.Bool.Decides.{eqb_tells}
use Rattle.std.proofs.lemmas.Grind.{flat_map-append}
use Rattle.std.proofs.lemmas.List.{get_or-set_same, get_or-set_other}
use Rattle.std.proofs.lemmas.List.Elements.{filter-append}
use Rattle.dcsp_defs.specs.declared.nogood.Pair.{Pair}
use Rattle.abt_defs.specs.Agents.{Message}
use Rattle.abt_defs.specs.Events.{Act}
use Rattle.abt_defs.specs.Measures.{acts_by, learned_pairs, once, told, told_in}
use Rattle.law_runs.proofs.ActsGoing.{once-append}
use Rattle.abt_measure.specs.Learning.{others, others_told, pairs_at, AreLearned, Learns}

learned_here : (acts : List Act) (a : Act) (i : ℕ) → a.agent ≡ i → learned_pairs (acts ++ a ∷ []) i ≡ once (learned_pairs acts i) (told a)
learned_here acts a i e =
    let t : (a.agent == i) ≡ true = elim (eqb_tells a.agent i) [ inl u ↦ u.0 | inr u ↦ absurd (u.1 e) ] in
    ap (λ l. once [] (flat_map told l)) (filter-append (λ (x : Act). x.agent == i) acts (a ∷ []) ∙ ap (λ b. acts_by i acts ++ cond b (a ∷ []) []) t)
    ∙ ap (once []) (flat_map-append told (acts_by i acts) (a ∷ []) ∙ ap (λ l. flat_map told (acts_by i acts) ++ l) (append-nil (told a)))
    ∙ once-append [] (flat_map told (acts_by i acts)) (told a)

learned_elsewhere : (acts : List Act) (a : Act) (i : ℕ) → (a.agent ≡ i → ⊥) → learned_pairs (acts ++ a ∷ []) i ≡ learned_pairs acts i
learned_elsewhere acts a i ne =
    let t : (a.agent == i) ≡ false = elim (eqb_tells a.agent i) [ inl u ↦ absurd (ne u.1) | inr u ↦ u.0 ] in
    ap (λ l. once [] (flat_map told l)) (filter-append (λ (x : Act). x.agent == i) acts (a ∷ []) ∙ ap (λ b. acts_by i acts ++ cond b (a ∷ []) []) t ∙ append-nil (acts_by i acts))

-- an act that is told
pub learned_more : (acts : List Act) (a : Act) (agent from : ℕ) (m : Message) (old new : List (List Pair)) → AreLearned acts old → a.agent ≡ agent → a.came ≡ Some (from, m) → Learns agent (others_told agent from m) old new → AreLearned (acts ++ a ∷ []) new
learned_more acts a agent from m old new h ea em l = record {
  each = λ i. elim (eqb_tells i agent) [
    | inl t ↦
        let tells : told a ≡ others_told agent from m = ap (λ k. filter (λ (y : Pair). not (y.var == k)) (told_in a.came)) ea ∙ ap (λ o. others agent (told_in o)) em in
        ap (pairs_at new) t.1 ∙ l.here ∙ ap (λ z. once z (others_told agent from m)) (ap (pairs_at old) (sym t.1) ∙ h.each i) ∙ ap (once (learned_pairs acts i)) (sym tells)
        ∙ sym (learned_here acts a i (ea ∙ sym t.1))
    | inr t ↦ l.elsewhere i t.1 ∙ h.each i ∙ sym (learned_elsewhere acts a i (λ e. t.1 (sym e ∙ ea)))
  ];
}

-- an act that is told nothing, as one of the start
pub learned_same : (acts : List Act) (a : Act) (lists : List (List Pair)) → AreLearned acts lists → told a ≡ [] → AreLearned (acts ++ a ∷ []) lists
learned_same acts a lists h e = record {
  each = λ i. elim (eqb_tells a.agent i) [
    | inl t ↦ h.each i ∙ sym (learned_here acts a i t.1 ∙ ap (once (learned_pairs acts i)) e)
    | inr t ↦ h.each i ∙ sym (learned_elsewhere acts a i t.1)
  ];
}

-- one list was changed
pub learns_one : (old : List (List Pair)) (i : ℕ) (pairs : List Pair) (list : List Pair) → i < length old → list ≡ once (pairs_at old i) pairs → Learns i pairs old (set old i list)
learns_one old i pairs list l e = record {
  here = get_or-set_same old i list [] l ∙ e;
  elsewhere = λ k ne. get_or-set_other old i k list [] ne;
}

pub learns_none : (old : List (List Pair)) (i : ℕ) → Learns i [] old old
learns_none old i = record { here = refl; elsewhere = λ k ne. refl }

-- one after the other
pub learns_both : (i : ℕ) (xs ys : List Pair) (old mid new : List (List Pair)) → Learns i xs old mid → Learns i ys mid new → Learns i (xs ++ ys) old new
learns_both i xs ys old mid new h g = record {
  here = g.here ∙ ap (λ z. once z ys) h.here ∙ sym (once-append (pairs_at old i) xs ys);
  elsewhere = λ k ne. g.elsewhere k ne ∙ h.elsewhere k ne;
}

pub others_same : (i : ℕ) (pair : Pair) → pair.var ≡ i → others i (pair ∷ []) ≡ []
others_same i pair e = elim (eqb_tells pair.var i) [ inl t ↦ ap (λ b. cond (not b) (pair ∷ []) []) t.0 | inr t ↦ absurd (t.1 e) ]

pub others_one : (i : ℕ) (pair : Pair) → pair.var ≢ i → others i (pair ∷ []) ≡ pair ∷ []
others_one i pair ne = elim (eqb_tells pair.var i) [ inl t ↦ absurd (ne t.1) | inr t ↦ ap (λ b. cond (not b) (pair ∷ []) []) t.0 ]

pub others_append : (i : ℕ) (xs ys : List Pair) → others i (xs ++ ys) ≡ others i xs ++ others i ys
others_append i xs ys = filter-append (λ (y : Pair). not (y.var == i)) xs ys

pub blank_lists : (lists : List (List Pair)) → ((k : ℕ) → pairs_at lists k ≡ []) → (k : ℕ) → pairs_at (lists ++ [] ∷ []) k ≡ []
blank_lists [] h zero = refl
blank_lists [] h (suc k) = refl
blank_lists (x ∷ xs) h zero = h 0
blank_lists (x ∷ xs) h (suc k) = blank_lists xs (λ j. h (suc j)) k
