-- The network's ready pairs are those of the definitions, since they are as many.
use Rattle.std.proofs.Common.{◌≡◌, ℕ, zero, suc, ◌≤◌, Bool, true, false, cond, not, inl, inr, List, [], ◌∷◌, ◌++◌, append-nil, map, filter, flat_map, length, refl, sym, ap, ◌∙◌, subst, arith}
use Rattle.std.proofs.lemmas.Bool.{cases_lt}
use Rattle.dcsp_defs.specs.Words.{below}
use Rattle.dcsp_defs.specs.Csp.{count}
use Rattle.dcsp_rule.specs.Problems.{csp_of}
use Rattle.abt_defs.specs.Network.{Network as Net, pairs, ready, is_empty}
use Rattle.abt_parts.specs.declared.message.Message.{Message as CodeMessage}
use Rattle.abt_parts.specs.Messages.{message_of}
use Rattle.abt_links.specs.Transit.{link_of, ready_pairs}
use Rattle.abt_network.specs.Standing.{NetworkState, StandsAt}

-- the first list is the second with some items left out
data Within {X : Type 0} : List X → List X → Type 0 where
  Both_end : Within [] []
  Kept : (x : X) → {xs ys : List X} → Within xs ys → Within (x ∷ xs) (x ∷ ys)
  Left_out : (y : X) → {xs ys : List X} → Within xs ys → Within xs (y ∷ ys)

within_all : {X : Type 0} → (xs : List X) → Within xs xs
within_all [] = Both_end
within_all (x ∷ xs) = Kept x (within_all xs)

within_none : {X : Type 0} → (ys : List X) → Within [] ys
within_none [] = Both_end
within_none (y ∷ ys) = Left_out y (within_none ys)

within_length : {X : Type 0} → {xs ys : List X} → Within xs ys → length xs ≤ length ys
within_length Both_end = omega arith
within_length (Kept x w) = let l = within_length w in omega arith
within_length (Left_out y w) = let l = within_length w in omega arith

within_same : {X : Type 0} → {xs ys : List X} → Within xs ys → length xs ≡ length ys → xs ≡ ys
within_same Both_end e = refl
within_same (Kept x w) e = ap (λ l. x ∷ l) (within_same w (omega arith))
within_same (Left_out y w) e = let l = within_length w in absurd (omega arith)

within_append : {X : Type 0} → {xs ys us vs : List X} → Within xs ys → Within us vs → Within (xs ++ us) (ys ++ vs)
within_append Both_end v = v
within_append (Kept x w) v = Kept x (within_append w v)
within_append (Left_out y w) v = Left_out y (within_append w v)

within_map : {X Y : Type 0} → (f : X → Y) → {xs ys : List X} → Within xs ys → Within (map f xs) (map f ys)
within_map f Both_end = Both_end
within_map f (Kept x w) = Kept (f x) (within_map f w)
within_map f (Left_out y w) = Left_out (f y) (within_map f w)

within_filter : {X : Type 0} → (q : X → Bool) → {xs ys : List X} → Within xs ys → Within (filter q xs) (filter q ys)
within_filter q Both_end = Both_end
within_filter q (Kept x {xs} {ys} w) = elim (q x) as (λ b. Within (cond b (x ∷ filter q xs) (filter q xs)) (cond b (x ∷ filter q ys) (filter q ys))) [ true ↦ Kept x (within_filter q w) | false ↦ within_filter q w ]
within_filter q (Left_out y {xs} {ys} w) = elim (q y) as (λ b. Within (filter q xs) (cond b (y ∷ filter q ys) (filter q ys))) [ true ↦ Left_out y (within_filter q w) | false ↦ within_filter q w ]

within_flat_map : {X Y : Type 0} → (f g : X → List Y) → ((x : X) → Within (f x) (g x)) → {xs ys : List X} → Within xs ys → Within (flat_map f xs) (flat_map g ys)
within_flat_map f g h Both_end = Both_end
within_flat_map f g h (Kept x w) = within_append (h x) (within_flat_map f g h w)
within_flat_map f g h (Left_out y w) = within_append (within_none (g y)) (within_flat_map f g h w)

within_below : (a b : ℕ) → a ≤ b → Within (below a) (below b)
within_below a zero l = let e : a ≡ 0 = omega arith in subst (λ n. Within (below n) []) (sym e) Both_end
within_below a (suc b) l = elim (cases_lt b a) [
  | inl t ↦ let e : a ≡ suc b = omega arith in subst (λ n. Within (below n) (below (suc b))) (sym e) (within_all (below (suc b)))
  | inr t ↦ subst (λ xs. Within xs (below b ++ b ∷ [])) (append-nil (below a)) (within_append (within_below a b t) (within_none (b ∷ [])))
]

within_pairs : (a b : ℕ) → a ≤ b → Within (pairs a) (pairs b)
within_pairs a b l = within_flat_map (λ k. map (λ i. (k, i)) (below a)) (λ k. map (λ i. (k, i)) (below b)) (λ k. within_map (λ i. (k, i)) (within_below a b l)) (within_below a b l)

filter_as : {X : Type 0} → (f g : X → Bool) (xs : List X) → ((x : X) → f x ≡ g x) → filter f xs ≡ filter g xs
filter_as f g [] h = refl
filter_as f g (x ∷ xs) h = let r : filter f xs ≡ filter g xs = filter_as f g xs h in ap (λ b. cond b (x ∷ filter f xs) (filter f xs)) (h x) ∙ ap (λ l. cond (g x) (x ∷ l) l) r

same_empty : (l : List CodeMessage) → is_empty (map message_of l) ≡ is_empty l
same_empty [] = refl
same_empty (x ∷ xs) = refl

pub ready_are : (s : NetworkState) (net : Net) → StandsAt s net → length (ready_pairs s.links) ≡ length (ready (csp_of s.problem) net) → ready_pairs s.links ≡ ready (csp_of s.problem) net
ready_are s net h e =
    let here : ℕ × ℕ → Bool = λ x. not (is_empty (link_of s.links x.0 x.1)) in
    let there : ℕ × ℕ → Bool = λ x. not (is_empty (net.links x.0 x.1)) in
    let n = count (csp_of s.problem) in
    let same : filter there (pairs n) ≡ filter here (pairs n) = filter_as there here (pairs n) (λ x. ap (λ l. not (is_empty l)) (sym (h.parts.lists x.0 x.1)) ∙ ap not (same_empty (link_of s.links x.0 x.1))) in
    let long : length (filter here (pairs s.links.agents)) ≡ length (filter here (pairs n)) = e ∙ ap length same in
    elim (cases_lt n s.links.agents) [
      | inl l ↦ sym (within_same (within_filter here (within_pairs n s.links.agents (omega arith))) (sym long)) ∙ sym same
      | inr l ↦ within_same (within_filter here (within_pairs s.links.agents n l)) long ∙ sym same
    ]
