-- With nothing in transit, nobody waits and the values are a solution.
use Rattle.std.proofs.Common.{◌≡◌, ◌≢◌, ℕ, zero, suc, ◌+◌, ◌<◌, ◌≤◌, Bool, true, false, cond, not, ◌||◌, ◌⊎◌, inl, inr, List, [], ◌∷◌, find, ◌==◌, Option, Some, None, ℤ, pos, is_some, unwrap_or, refl, sym, ap, ◌∙◌, subst, arith}
use Rattle.std.proofs.lemmas.Bool.Decides.{eqb_tells}
use Rattle.std.specs.List.{list_any, list_all, enumerate_from}
use Rattle.dcsp_defs.specs.Words.{In}
use Rattle.dcsp_defs.specs.Csp.{Csp, Constraint, PartialAssignment, filled, with_value, count, IsCsp, is_violated}
use Rattle.abt_defs.specs.Agents.{Agent, Message, Refuse, Stamped, StampedNogood, lowest, known, value_in}
use Rattle.abt_defs.specs.Reasons.{Item, items, constraint_item, ruled_out}
use Rattle.dcsp_defs.specs.Csp.{owns}
use Rattle.abt_defs.specs.Network.{Network, IsQuiet, IsSolved, values, run, start, is_false, is_empty, deliver, start_by}
use Rattle.dcsp_defs.proofs.Lists.{In-left, In-map, In-filter, In-list_all, list_any-In, find-some, and_both}
use Rattle.law_agent.proofs.Facts.{asks, bit, Chosen, Kept}
use Rattle.law_agent.proofs.Owners.{owner_in, has_owner}
use Rattle.law_agent.proofs.Runs.{runs, started}
use Rattle.law_runs.specs.NoStall.{NoStall}

In-enumerate : {X : Type 0} → (x : X) (n : ℕ) (xs : List X) → In x xs → (k : ℕ) × In (k, x) (enumerate_from n xs)
In-enumerate x n [] h = absurd h
In-enumerate x n (y ∷ ys) (inl e) = (n, inl (ap (λ z. (n, z)) e))
In-enumerate x n (y ∷ ys) (inr h) = let r = In-enumerate x (n + 1) ys h in (r.0, inr r.1)

constraint_rules_out : (p : Csp) (i : ℕ) (a : Agent) (v : ℤ) (r : Constraint) → In r p.constraints → owns i r ≡ true → is_violated (with_value i v (known a)) r ≡ true → ruled_out p i (known a) a.recorded v ≡ true
constraint_rules_out p i a v r h o e =
    let q = In-enumerate r 0 p.constraints h in
    find-some (λ (z : Item). z.violated (with_value i v (known a))) (constraint_item (q.0, r)) (items p i a.recorded)
    (In-left (constraint_item (q.0, r)) _ _ (In-map constraint_item (q.0, r) _ (In-filter (λ (x : ℕ × Constraint). owns i x.1) (q.0, r) _ q.1 o))) e

module _ (p : Csp) (net : Network) (h : Kept p (count p) net) (quiet : IsQuiet p net) where
  -- a linked agent's value is in the view, with its stamp
  linked_seen : (i k : ℕ) (v : ℤ) → i < count p → (net.agents i).linked k ≡ true → (net.agents k).value ≡ Some v → (net.agents i).view k ≡ Some (record { value = v; stamp = (net.agents k).stamp })
  linked_seen i k v l e has =
      let lt = (h.sound i).higher k e in
      let q : net.links k i ≡ [] = quiet k i (omega arith) l in
      let r : net.links i k ≡ [] = quiet i k l (omega arith) in
      let t : (net.agents k).tells i ≡ true = both ((net.agents k).tells i) ((net.agents i).linked k) (subst (λ (z : List Message). asks z + bit ((net.agents k).tells i) ≡ bit ((net.agents i).linked k)) r (h.asked i k)) e in
      elim (h.present k i v t has) [ inl u ↦ u | inr u ↦ absurd (subst (In _) q u) ]
    where
      both : (x y : Bool) → 0 + bit x ≡ bit y → y ≡ true → x ≡ true
      both true y a b = refl
      both false true a b = absurd (omega arith)
      both false false a b = b

  -- what the view has is not old
  not_passed : (i k : ℕ) (s : Stamped) (v : ℤ) → i < count p → (net.agents i).view k ≡ Some s → (net.agents k).value ≡ Some v → s.stamp < (net.agents k).stamp → ⊥
  not_passed i k s v l e g f =
      let q : Some s ≡ Some (record { value = v; stamp = (net.agents k).stamp }) = sym e ∙ linked_seen i k v l (h.seen i k s e) g in
      let q2 : s ≡ record { value = v; stamp = (net.agents k).stamp } = cc in
      let q3 : s.stamp ≡ (net.agents k).stamp = ap (λ (z : Stamped). z.stamp) q2 in
      omega arith

  -- An agent does not wait if none above it does.
  free_if_above : (i : ℕ) → i < count p → ((k : ℕ) → k < i → (net.agents k).waits ≡ false) → (net.agents i).waits ≡ true → ⊥
  free_if_above i l above w =
      let b = h.backed i w in
      let j = lowest b.first b.rest in
      let u : j < i = low b.first b.rest b.higher in
      elim b.there [
        | inl t ↦ absurd (subst (In (Refuse b.step (b.first ∷ b.rest))) (quiet i j l (omega arith)) t)
        | inr t ↦ elim t [
          | inl x ↦ let y : true ≡ false = sym x ∙ above j u in cc
          | inr x ↦
              let lt = b.higher x.pair x.named in
              let c = h.chosen x.pair.0 (omega arith) (above x.pair.0 lt) in
              not_passed i x.pair.0 x.pair.1 c.value l (b.seen x.pair x.named) c.is x.later
        ]
      ]
    where
      low : (first : ℕ × Stamped) (rest : StampedNogood) → ((y : ℕ × Stamped) → In y (first ∷ rest) → y.0 < i) → lowest first rest < i
      low first [] g = g first (inl refl)
      low first (next ∷ rest) g = low next rest (λ y v. g y (inr v))

  none_below : (n : ℕ) → n ≤ count p → (k : ℕ) → k < n → (net.agents k).waits ≡ false
  none_below zero l k u = absurd (omega arith)
  none_below (suc n) l k u = last_one (none_below n (omega arith)) (eqb_tells k n)
    where
      at : (b : Bool) → (net.agents k).waits ≡ b → ((j : ℕ) → j < k → (net.agents j).waits ≡ false) → (net.agents k).waits ≡ false
      at true e above = absurd (free_if_above k (omega arith) above e)
      at false e above = e

      last_one : ((j : ℕ) → j < n → (net.agents j).waits ≡ false) → (((k == n) ≡ true) × (k ≡ n)) ⊎ (((k == n) ≡ false) × (k ≢ n)) → (net.agents k).waits ≡ false
      last_one ih (inl t) = at ((net.agents k).waits) refl (λ j v. ih j (omega arith))
      last_one ih (inr t) = let ne = t.1 in ih k (grind arith)

  nobody : (i : ℕ) → i < count p → (net.agents i).waits ≡ false
  nobody i l = none_below (count p) (omega arith) i l

  chosen_at : (i : ℕ) → i < count p → Chosen p i (net.agents i)
  chosen_at i l = h.chosen i l (nobody i l)

  value_is : (i : ℕ) (l : i < count p) → (net.agents i).value ≡ Some (values net i)
  value_is i l = let c = chosen_at i l in c.is ∙ ap Some (sym (ap (λ o. unwrap_or o (pos 0)) c.is))

  -- the owner's view, with its own value, has the value of each variable of a rule that it owns
  value_known : (i : ℕ) (l : i < count p) (r : Constraint) → In r p.constraints → owns i r ≡ true → (k : ℕ) → In k r.scope → k < count p → with_value i (chosen_at i l).value (known (net.agents i)) k ≡ Some (values net k)
  value_known i l r here o k g lk = elim (eqb_tells k i) [
    | inl t ↦ rw t.0 (sym (chosen_at i l).is ∙ (ap (λ z. (net.agents z).value) (sym t.1) ∙ value_is k lk))
    | inr t ↦ rw t.0 (elim ((h.sound i).constraints r here o k g) [
      | inl e ↦ absurd (t.1 e)
      | inr e ↦ ap value_in (linked_seen i k (values net k) l e (value_is k lk))
    ])
  ]

  owned_holds : (ok : IsCsp p) (i : ℕ) (l : i < count p) (r : Constraint) → In r p.constraints → owns i r ≡ true → r.test (values net) ≡ true
  owned_holds ok i l r here o = by_test (r.test (values net)) refl
    where
      by_test : (b : Bool) → r.test (values net) ≡ b → r.test (values net) ≡ true
      by_test true e = e
      by_test false e =
          let held : PartialAssignment = with_value i (chosen_at i l).value (known (net.agents i)) in
          let all : list_all (λ k. is_some (held k)) r.scope ≡ true = In-list_all (λ k. is_some (held k)) r.scope (λ k g. ap is_some (value_known i l r here o k g ((ok.constraints r here).inside k g))) in
          let same : r.test (filled held) ≡ r.test (values net) = (ok.constraints r here).local (filled held) (values net) (λ k g. ap (λ o. unwrap_or o (pos 0)) (value_known i l r here o k g ((ok.constraints r here).inside k g))) in
          let broken : is_violated held r ≡ true = and_both _ _ all (ap not (same ∙ e)) in
          let f : false ≡ true = sym (chosen_at i l).free ∙ constraint_rules_out p i (net.agents i) (chosen_at i l).value r here o broken in cc

  pub solved : IsCsp p → list_any is_false p.constraints ≡ false → IsSolved p net
  solved ok no_false = record {
    nobody_waits = nobody;
    have_values = value_is;
    solution = record {
      domains = λ i l. (h.sound i).in_domain (values net i) (value_is i l);
      constraints = λ r here. rule_at r here (r.scope) refl;
    };
  }
    where
      rule_at : (r : Constraint) → In r p.constraints → (scope : List ℕ) → r.scope ≡ scope → r.test (values net) ≡ true
      rule_at r here [] e = by_test (r.test (λ k. pos 0)) refl
        where
          local : r.test (λ k. pos 0) ≡ r.test (values net)
          local = (ok.constraints r here).local (λ k. pos 0) (values net) (λ k u. absurd (subst (In k) e u))

          by_test : (b : Bool) → r.test (λ k. pos 0) ≡ b → r.test (values net) ≡ true
          by_test true q = sym local ∙ q
          by_test false q = let any : list_any is_false p.constraints ≡ true = list_any-In is_false r p.constraints here (and_both _ _ (ap is_empty e) (ap not q)) in cc
      rule_at r here (k ∷ ks) e =
          let o = has_owner r k ks e in
          owned_holds ok o.0 ((ok.constraints r here).inside o.0 (owner_in o.0 r o.1)) r here o.1

-- a run that is not refuted started so
run_started : (p : Csp) (cs : List ℕ) (net : Network) → (run p cs net).refuted ≡ false → net.refuted ≡ false
run_started p [] net h = h
run_started p (c ∷ cs) net h = (elim net.refuted as (λ b. net.refuted ≡ b → (cond b net (run p cs (deliver p c net))).refuted ≡ false → net.refuted ≡ false) [
  | true ↦ λ e g. g
  | false ↦ λ e g. e
]) refl h

none_false : (n : ℕ) (rs : List Constraint) → find (λ (x : ℕ × Constraint). is_false x.1) (enumerate_from n rs) ≡ None → list_any is_false rs ≡ false
none_false n [] h = refl
none_false n (r ∷ rs) h = (elim (is_false r) as (λ b. cond b (Some (n, r)) (find (λ (x : ℕ × Constraint). is_false x.1) (enumerate_from (n + 1) rs)) ≡ None → (b || list_any is_false rs) ≡ false) [
  | true ↦ λ g. cc
  | false ↦ λ g. none_false (n + 1) rs g
]) h

no_false_rule : (p : Csp) → (start p).refuted ≡ false → list_any is_false p.constraints ≡ false
no_false_rule p h = by_find (find (λ (x : ℕ × Constraint). is_false x.1) (enumerate_from 0 p.constraints)) refl h
  where
    by_find : (o : Option (ℕ × Constraint)) → find (λ (x : ℕ × Constraint). is_false x.1) (enumerate_from 0 p.constraints) ≡ o → (start_by p o).refuted ≡ false → list_any is_false p.constraints ≡ false
    by_find None e g = none_false 0 p.constraints e
    by_find (Some x) e g = cc

pub no_stall : (p : Csp) → NoStall p
no_stall p ok cs f quiet =
    let s = run_started p cs (start p) f in
    solved p (run p cs (start p)) (runs p cs (start p) (λ g. started p ok g) f) quiet ok (no_false_rule p s)
