-- What a run has done so far, as numbers. Most of them nothing stores; how many values an agent took is its stamp.
use Rattle.std.proofs.Common.{◌≡◌, ℕ, zero, suc, ◌+◌, ◌-◌, ◌*◌, ◌≤◌, Bool, true, false, ◌||◌, ◌⊎◌, inl, inr, List, [], ◌∷◌, ◌++◌, length, Option, Some, None, ℤ, refl, sym, ap, ◌∙◌, arith, length-append}
use Rattle.dcsp_defs.specs.Words.{sum_below, is_value}
use Rattle.dcsp_defs.specs.Csp.{Csp, domain, count}
use Rattle.abt_defs.specs.Agents.{Agent, Message, Tell, Refuse, AddLink, Stamped, shares, known}
use Rattle.abt_defs.specs.Reasons.{ruled_out}
use Rattle.abt_defs.specs.Network.{Network}
use Rattle.law_agent.proofs.Facts.{asks, bit, Sound}
use Rattle.law_agent.proofs.Moves.{Moves}
use Rattle.law_runs.proofs.Sums.{how_many, how_many-all, sum-add, sum-same}

abbrev pub announces_in : List Message → ℕ
announces_in [] = 0
announces_in (Tell s ∷ ms) = suc (announces_in ms)
announces_in (Refuse step pairs ∷ ms) = announces_in ms
announces_in (AddLink ∷ ms) = announces_in ms

abbrev pub nogoods_in : List Message → ℕ
nogoods_in [] = 0
nogoods_in (Tell s ∷ ms) = nogoods_in ms
nogoods_in (Refuse step pairs ∷ ms) = suc (nogoods_in ms)
nogoods_in (AddLink ∷ ms) = nogoods_in ms

pub announces-append : (xs ys : List Message) → announces_in (xs ++ ys) ≡ announces_in xs + announces_in ys
announces-append [] ys = omega arith
announces-append (Tell s ∷ xs) ys = let h = announces-append xs ys in omega arith
announces-append (Refuse step pairs ∷ xs) ys = announces-append xs ys
announces-append (AddLink ∷ xs) ys = announces-append xs ys

pub nogoods-append : (xs ys : List Message) → nogoods_in (xs ++ ys) ≡ nogoods_in xs + nogoods_in ys
nogoods-append [] ys = omega arith
nogoods-append (Tell s ∷ xs) ys = nogoods-append xs ys
nogoods-append (Refuse step pairs ∷ xs) ys = let h = nogoods-append xs ys in omega arith
nogoods-append (AddLink ∷ xs) ys = nogoods-append xs ys

kinds : (ms : List Message) → length ms ≡ announces_in ms + nogoods_in ms + asks ms
kinds [] = omega arith
kinds (Tell s ∷ ms) = let h = kinds ms in omega arith
kinds (Refuse step pairs ∷ ms) = let h = kinds ms in omega arith
kinds (AddLink ∷ ms) = let h = kinds ms in omega arith

-- the values of the domain that are ruled out, or are the agent's own
abbrev pub marked : Csp → ℕ → Agent → ℕ
marked p i a = how_many (λ v. ruled_out p i (known a) a.recorded v || is_value a.value v) (domain p i)

abbrev pub stamp_in : Option Stamped → ℕ
stamp_in None = 0
stamp_in (Some s) = s.stamp

-- the sum of the stamps in i's view
abbrev pub stamps : ℕ → Agent → ℕ
stamps i a = sum_below (λ k. stamp_in (a.view k)) i

-- changes: how often an agent's view changed. told, refused: the values and nogoods sent. done: the messages delivered
pub record Counted (p : Csp) (net : Network) : Type 0 where
  pub changes : ℕ → ℕ
  pub told : ℕ → ℕ → ℕ
  pub refused : ℕ → ℕ → ℕ
  pub done : ℕ → ℕ → ℕ
  pub flow : (k j : ℕ) → done k j + length (net.links k j) + bit (shares p k j) ≡ told k j + refused k j + bit ((net.agents k).linked j)
  pub changed : (i : ℕ) → changes i ≤ stamps i (net.agents i)
  pub fewer : (k j : ℕ) → told k j ≤ (net.agents k).stamp
  pub untold : (k j : ℕ) → (net.agents k).tells j ≡ false → told k j ≡ 0
  pub refusals : (i : ℕ) → sum_below (refused i) (count p) ≤ changes i
  pub rests : (i : ℕ) → (net.agents i).waits ≡ false → sum_below (refused i) (count p) ≤ changes i - 1
  pub takes : (i : ℕ) → (net.agents i).stamp ≤ length (domain p i) * changes i + marked p i (net.agents i)
  pub blank : (i : ℕ) → changes i ≡ 0 → (k : ℕ) → (net.agents i).view k ≡ None
  pub total : net.deliveries ≡ sum_below (λ k. sum_below (done k) (count p)) (count p)

-- the agent sends one nogood, waits, and has something in its view
pub record RefusesOnce (p : Csp) (a b : Agent) (changed : Bool) (went : ℕ → List Message) : Type 0 where
  pub once : sum_below (λ j. nogoods_in (went j)) (count p) ≤ 1
  pub waits : b.waits ≡ true
  pub fresh : (changed ≡ true) ⊎ (a.waits ≡ false)
  pub about : ℕ
  pub value : Stamped
  pub seen : b.view about ≡ Some value

-- what one agent's act costs: whether it took a value, and whether its view changed
pub record Costs (p : Csp) (i : ℕ) (a b : Agent) (went : ℕ → List Message) : Type 0 where
  pub took : Bool
  pub changed : Bool
  pub stamp : b.stamp ≡ a.stamp + bit took
  pub same : changed ≡ false → (k : ℕ) → b.view k ≡ a.view k
  pub rises : bit changed + stamps i a ≤ stamps i b
  pub tells_more : (j : ℕ) → (announces_in (went j) ≤ bit took) ⊎ ((a.tells j ≡ false) × (announces_in (went j) ≤ 1) × (v : ℤ) × (a.value ≡ Some v))
  pub tells_none : (j : ℕ) → b.tells j ≡ false → announces_in (went j) ≡ 0
  pub refusals : (sum_below (λ j. nogoods_in (went j)) (count p) ≡ 0) ⊎ RefusesOnce p a b changed went
  pub rests : b.waits ≡ false → changed ≡ false → a.waits ≡ false
  pub marks : changed ≡ false → marked p i a + bit took ≤ marked p i b
  pub marks_one : bit took ≤ marked p i b

module _ (p : Csp) (r : ℕ) (net new : Network) (m : Moves p r net new) (h : Counted p net) (sound : (i : ℕ) → Sound p i (net.agents i))
    (costs : (i : ℕ) → Costs p i (net.agents i) (new.agents i) (m.went i))
    (counts : new.deliveries ≡ net.deliveries + sum_below (λ k. sum_below (λ j. length (m.came k j)) (count p)) (count p)) where
  flow_after : (k j : ℕ) → h.done k j + length (m.came k j) + length (new.links k j) + bit (shares p k j) ≡ h.told k j + announces_in (m.went k j) + (h.refused k j + nogoods_in (m.went k j)) + bit ((new.agents k).linked j)
  flow_after k j =
      let a : length (new.links k j) ≡ length (m.mid k j) + length (m.went k j) = ap length (m.after k j) ∙ length-append (m.mid k j) (m.went k j) in
      let b : length (net.links k j) ≡ length (m.came k j) + length (m.mid k j) = ap length (m.before k j) ∙ length-append (m.came k j) (m.mid k j) in
      let c = kinds (m.went k j) in
      let d = (m.acts k).linked j in
      let e = h.flow k j in
      omega arith

  fewer_after : (k j : ℕ) → h.told k j + announces_in (m.went k j) ≤ (new.agents k).stamp
  fewer_after k j = elim ((costs k).tells_more j) [
    | inl l ↦ let f = h.fewer k j in let s = (costs k).stamp in omega arith
    | inr l ↦ let z = h.untold k j l.0 in let o = (sound k).stamped l.2 l.3 in let one = l.1 in let s = (costs k).stamp in omega arith
  ]

  bit_false : (x y : Bool) (n : ℕ) → bit x ≡ n + bit y → x ≡ false → y ≡ false
  bit_false x true n e f = absurd (let g : bit x ≡ 0 = ap bit f in omega arith)
  bit_false x false n e f = refl

  untold_after : (k j : ℕ) → (new.agents k).tells j ≡ false → h.told k j + announces_in (m.went k j) ≡ 0
  untold_after k j f =
      let a : (net.agents k).tells j ≡ false = bit_false _ _ _ ((m.acts k).tells j) f in
      let z = h.untold k j a in let w = (costs k).tells_none j f in omega arith

  refusals_after : (i : ℕ) → (sum_below (λ j. h.refused i j + nogoods_in (m.went i j)) (count p) ≤ h.changes i + bit (costs i).changed) × ((new.agents i).waits ≡ false → sum_below (λ j. h.refused i j + nogoods_in (m.went i j)) (count p) ≤ h.changes i + bit (costs i).changed - 1)
  refusals_after i =
      let s = sum-add (h.refused i) (λ j. nogoods_in (m.went i j)) (count p) in
      rw s (elim ((costs i).refusals) [
        | inl z ↦ rw z (none (costs i).changed refl)
        | inr o ↦ (some (costs i).changed refl o, λ f. let t : true ≡ false = sym o.waits ∙ f in cc)
      ])
    where
      none : (c : Bool) → (costs i).changed ≡ c → (sum_below (h.refused i) (count p) + 0 ≤ h.changes i + bit c) × ((new.agents i).waits ≡ false → sum_below (h.refused i) (count p) + 0 ≤ h.changes i + bit c - 1)
      none true e = let b = h.refusals i in (omega arith, λ f. omega arith)
      none false e = let b = h.refusals i in (omega arith, λ f. let q = h.rests i ((costs i).rests f e) in omega arith)

      some : (c : Bool) → (costs i).changed ≡ c → RefusesOnce p (net.agents i) (new.agents i) (costs i).changed (m.went i) → sum_below (h.refused i) (count p) + sum_below (λ j. nogoods_in (m.went i j)) (count p) ≤ h.changes i + bit c
      some true e o = let b = h.refusals i in let w = o.once in omega arith
      some false e o = elim o.fresh [
        | inl t ↦ let x : true ≡ false = sym t ∙ e in cc
        | inr t ↦
            let q = h.rests i t in let w = o.once in
            positive (h.changes i) refl q w o e
      ]
        where
          positive : (c : ℕ) → h.changes i ≡ c → sum_below (h.refused i) (count p) ≤ h.changes i - 1 → sum_below (λ j. nogoods_in (m.went i j)) (count p) ≤ 1 → RefusesOnce p (net.agents i) (new.agents i) (costs i).changed (m.went i) → (costs i).changed ≡ false → sum_below (h.refused i) (count p) + sum_below (λ j. nogoods_in (m.went i j)) (count p) ≤ h.changes i + bit false
          positive zero e q w o f = let x : None ≡ Some o.value = sym (h.blank i e o.about) ∙ (sym ((costs i).same f o.about) ∙ o.seen) in cc
          positive (suc c) e q w o f = omega arith

  takes_after : (i : ℕ) → (new.agents i).stamp ≤ length (domain p i) * (h.changes i + bit (costs i).changed) + marked p i (new.agents i)
  takes_after i = by_change (costs i).changed refl
    where
      by_change : (c : Bool) → (costs i).changed ≡ c → (new.agents i).stamp ≤ length (domain p i) * (h.changes i + bit c) + marked p i (new.agents i)
      by_change true e =
          let t = h.takes i in let s = (costs i).stamp in
          let a : marked p i (net.agents i) ≤ length (domain p i) = how_many-all _ (domain p i) in
          let o = (costs i).marks_one in
          omega arith
      by_change false e = let t = h.takes i in let s = (costs i).stamp in let o = (costs i).marks e in omega arith

  blank_after : (i : ℕ) → h.changes i + bit (costs i).changed ≡ 0 → (k : ℕ) → (new.agents i).view k ≡ None
  blank_after i e k = by_change (costs i).changed refl e
    where
      by_change : (c : Bool) → (costs i).changed ≡ c → h.changes i + bit c ≡ 0 → (new.agents i).view k ≡ None
      by_change true f g = absurd (omega arith)
      by_change false f g = (costs i).same f k ∙ h.blank i (omega arith) k

  pub counted_after : Counted p new
  counted_after = record {
    changes = λ i. h.changes i + bit (costs i).changed;
    told = λ k j. h.told k j + announces_in (m.went k j);
    refused = λ k j. h.refused k j + nogoods_in (m.went k j);
    done = λ k j. h.done k j + length (m.came k j);
    flow = flow_after;
    changed = λ i. let a = h.changed i in let b = (costs i).rises in omega arith;
    fewer = fewer_after;
    untold = untold_after;
    refusals = λ i. (refusals_after i).0;
    rests = λ i. (refusals_after i).1;
    takes = takes_after;
    blank = blank_after;
    total = counts ∙ both;
  }
    where
      both : net.deliveries + sum_below (λ k. sum_below (λ j. length (m.came k j)) (count p)) (count p) ≡ sum_below (λ k. sum_below (λ j. h.done k j + length (m.came k j)) (count p)) (count p)
      both =
          let s = sum-same (λ k. sum_below (λ j. h.done k j + length (m.came k j)) (count p)) (λ k. sum_below (h.done k) (count p) + sum_below (λ j. length (m.came k j)) (count p)) (count p) (λ k l. sum-add (h.done k) (λ j. length (m.came k j)) (count p)) in
          let t = sum-add (λ k. sum_below (h.done k) (count p)) (λ k. sum_below (λ j. length (m.came k j)) (count p)) (count p) in
          let u = h.total in
          omega arith
