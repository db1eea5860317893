-- The last announcement is the present one.
use Rattle.std.proofs.Common.{◌≡◌, ℕ, true, ◌⊎◌, inl, inr, List, [], ◌∷◌, ◌++◌, Option, Some, ℤ, refl, sym, ap, ◌∙◌, subst}
use Rattle.dcsp_defs.specs.Words.{In}
use Rattle.dcsp_defs.specs.Csp.{Csp}
use Rattle.abt_defs.specs.Agents.{Agent, Message, Tell, Refuse, AddLink, Stamped}
use Rattle.abt_defs.specs.Network.{Network}
use Rattle.law_agent.proofs.Facts.{AtLeast, Kept}
use Rattle.law_agent.proofs.Moves.{Moves, up_to_date, stamped-same}
use Rattle.law_agent.specs.Invariants.{last_told}

last-append : (xs ys : List Message) (o : Option Stamped) → last_told (xs ++ ys) o ≡ last_told ys (last_told xs o)
last-append [] ys o = refl
last-append (Tell s ∷ xs) ys o = last-append xs ys (Some s)
last-append (Refuse step pairs ∷ xs) ys o = last-append xs ys o
last-append (AddLink ∷ xs) ys o = last-append xs ys o

-- a list has an announcement that is its last, or none
abbrev Last : List Message → Type 0
Last ms = ((s : Stamped) × In (Tell s) ms × ((o : Option Stamped) → last_told ms o ≡ Some s)) ⊎ (((s : Stamped) → In (Tell s) ms → ⊥) × ((o : Option Stamped) → last_told ms o ≡ o))

last : (ms : List Message) → Last ms
last [] = inr (λ s u. u, λ o. refl)
last (Tell s ∷ ms) = elim (last ms) [ inl r ↦ inl (r.0, inr r.1, λ o. r.2 (Some s)) | inr n ↦ inl (s, inl refl, λ o. n.1 (Some s)) ]
last (Refuse step pairs ∷ ms) = elim (last ms) [ inl r ↦ inl (r.0, inr r.1, r.2) | inr n ↦ inr (λ s u. elim u [ inl e ↦ cc | inr v ↦ n.0 s v ], n.1) ]
last (AddLink ∷ ms) = elim (last ms) [ inl r ↦ inl (r.0, inr r.1, r.2) | inr n ↦ inr (λ s u. elim u [ inl e ↦ cc | inr v ↦ n.0 s v ], n.1) ]

-- where each announcement is of s
all_of : (s : Stamped) (ms : List Message) → ((t : Stamped) → In (Tell t) ms → t ≡ s) → (o : Option Stamped) → In (Tell s) ms ⊎ (o ≡ Some s) → last_told ms o ≡ Some s
all_of s ms same o h = elim (last ms) [
  | inl r ↦ r.2 o ∙ ap Some (same r.0 r.1)
  | inr n ↦ elim h [ inl u ↦ absurd (n.0 s u) | inr e ↦ n.1 o ∙ e ]
]

-- the present value of each agent is the last that it told
abbrev pub Lasts : Network → Type 0
Lasts net = (k i : ℕ) (v : ℤ) → (net.agents k).tells i ≡ true → (net.agents k).value ≡ Some v → last_told (net.links k i) ((net.agents i).view k) ≡ Some (record { value = v; stamp = (net.agents k).stamp })

some-same : (s t : Stamped) → Some s ≡ Some t → s ≡ t
some-same s t e = cc

-- a value that the agent has now
abbrev stamped : Agent → ℤ → Stamped
stamped a v = record { value = v; stamp = a.stamp }

pub lasts_after : (p : Csp) (s r : ℕ) (net new : Network) → Kept p s net → (m : Moves p r net new) → Lasts net → Lasts new
lasts_after p s r net new h m old k i v t e =
    ap (λ (z : List Message). last_told z ((new.agents i).view k)) (m.after k i) ∙ (last-append (m.mid k i) (m.went k i) ((new.agents i).view k) ∙ (elim ((m.acts k).told i v t e) [
      | inr u ↦ all_of (stamped (new.agents k) v) (m.went k i) same (last_told (m.mid k i) ((new.agents i).view k)) (inl u)
      | inl o ↦ all_of (stamped (new.agents k) v) (m.went k i) same (last_told (m.mid k i) ((new.agents i).view k)) (inr (middle o.0 o.1 o.2))
    ]))
  where
    same : (x : Stamped) → In (Tell x) (m.went k i) → x ≡ (stamped (new.agents k) v)
    same x u =
        let a = (m.acts k).announced i x u in
        let f : Some x.value ≡ Some v = sym a.1 ∙ e in
        let g : x.value ≡ v = cc in
        stamped-same x v (new.agents k).stamp g a.2

    -- what was on its way, and is not taken
    middle : (net.agents k).tells i ≡ true → (net.agents k).value ≡ Some v → (new.agents k).stamp ≡ (net.agents k).stamp → last_told (m.mid k i) ((new.agents i).view k) ≡ Some (stamped (new.agents k) v)
    middle told has same_stamp =
        let before : last_told (m.mid k i) (last_told (m.came k i) ((net.agents i).view k)) ≡ Some (stamped (new.agents k) v) =
        sym (last-append (m.came k i) (m.mid k i) ((net.agents i).view k)) ∙ (ap (λ (z : List Message). last_told z ((net.agents i).view k)) (sym (m.before k i)) ∙ (old k i v told has ∙ ap (λ (n : ℕ). Some (let t : Stamped = record { value = v; stamp = n } in t)) (sym same_stamp))) in
        elim (last (m.mid k i)) [
          | inl x ↦ x.2 _ ∙ (sym (x.2 (last_told (m.came k i) ((net.agents i).view k))) ∙ before)
          | inr n ↦ n.1 _ ∙ up_to_date p s r net new h m i k v e (seen (sym (n.1 (last_told (m.came k i) ((net.agents i).view k))) ∙ before))
        ]
      where
        stamp_same : (x : Stamped) → x ≡ (stamped (new.agents k) v) → x.stamp ≡ (new.agents k).stamp
        stamp_same x f = ap (λ (z : Stamped). z.stamp) f

        seen : last_told (m.came k i) ((net.agents i).view k) ≡ Some (stamped (new.agents k) v) → AtLeast ((new.agents i).view k) (new.agents k).stamp
        seen q = elim (last (m.came k i)) [
          | inl x ↦ let f : x.0 ≡ (stamped (new.agents k) v) = some-same x.0 (stamped (new.agents k) v) (sym (x.2 ((net.agents i).view k)) ∙ q) in subst (AtLeast ((new.agents i).view k)) (stamp_same x.0 f) ((m.acts i).hears k x.0 x.1)
          | inr n ↦ (m.acts i).view_up k (stamped (new.agents k) v) (sym (n.1 ((net.agents i).view k)) ∙ q)
        ]
