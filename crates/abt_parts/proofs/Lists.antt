-- Lists of messages, of pairs with stamps, and of the numbers below one.
use Rattle.std.proofs.Common.{◌≡◌, ℕ, zero, suc, ◌+◌, ◌<◌, Bool, true, false, cond, List, [], ◌∷◌, ◌++◌, drop, get_or, take, length, filter, Option, Some, None, option_to_list, refl, sym, ap, ◌∙◌, arith}
use Rattle.std.specs.Prelude.{filter_map}
use Rattle.std.specs.List.{cons_option}
use Rattle.std.proofs.lemmas.List.{map-append, drop_more, take_more}
use Rattle.std.proofs.lemmas.List.Elements.{filter_map-append}
use Rattle.dcsp_defs.specs.declared.nogood.Pair.{Pair}
use Rattle.dcsp_defs.specs.Words.{below}
use Rattle.abt_defs.specs.Agents.{Message, Stamped, plain}
use Rattle.abt_defs.specs.Steps.{to_each}
use Rattle.abt_parts.specs.Messages.{with_stamps}

-- one message to each of the first agents of a list, and one agent more
pub each_next : (m : Message) (ts : List ℕ) (k d : ℕ) → k < length ts → to_each m (take (k + 1) ts) ≡ to_each m (take k ts) ++ (get_or ts k d, m) ∷ []
each_next m ts k d within = ap (to_each m) (take_more ts k d within) ∙ map-append (λ (j : ℕ). (j, m)) (take k ts) (get_or ts k d ∷ [])

pub with_stamps-push : (ps : List Pair) (ss : List ℕ) (q : Pair) (s : ℕ) → length ss ≡ length ps → with_stamps (ps ++ q ∷ []) (ss ++ s ∷ []) ≡ with_stamps ps ss ++ (q.var, record { value = q.value; stamp = s }) ∷ []
with_stamps-push [] [] q s e = refl
with_stamps-push [] (t ∷ ss) q s e = absurd (omega arith)
with_stamps-push (p ∷ ps) [] q s e = absurd (omega arith)
with_stamps-push (p ∷ ps) (t ∷ ss) q s e = ap (λ (z : List (ℕ × Stamped)). (p.var, record { value = p.value; stamp = t }) ∷ z) (with_stamps-push ps ss q s (omega arith))

pub plain-with_stamps : (ps : List Pair) (ss : List ℕ) → plain (with_stamps ps ss) ≡ ps
plain-with_stamps [] ss = refl
plain-with_stamps (p ∷ ps) [] = ap (λ (z : List Pair). p ∷ z) (plain-with_stamps ps [])
plain-with_stamps (p ∷ ps) (s ∷ ss) = ap (λ (z : List Pair). p ∷ z) (plain-with_stamps ps ss)

pub stamps_step : (ps : List Pair) (ss : List ℕ) (k : ℕ) (d : Pair) → k < length ps → length ss ≡ length ps
    → with_stamps (drop k ps) (drop k ss) ≡ ((get_or ps k d).var, record { value = (get_or ps k d).value; stamp = get_or ss k 0 }) ∷ with_stamps (drop (k + 1) ps) (drop (k + 1) ss)
stamps_step ps ss k d h l = let e = drop_more ps k d h in let f = drop_more ss k 0 (omega arith) in λ x. with_stamps (e x) (f x)

pub one : {X : Type 0} → (o : Option X) → cons_option o [] ≡ option_to_list o
one None = refl
one (Some x) = refl

-- two functions that agree below n
pub map_below : {X : Type 0} → (f g : ℕ → Option X) (n : ℕ) → ((k : ℕ) → k < n → f k ≡ g k) → filter_map f (below n) ≡ filter_map g (below n)
map_below f g zero h = refl
map_below {X} f g (suc n) h =
    filter_map-append f (below n) (n ∷ [])
    ∙ ap (λ (z : List X). z ++ cons_option (f n) []) (map_below f g n (λ k l. h k (omega arith)))
    ∙ ap (λ (o : Option X). filter_map g (below n) ++ cons_option o []) (h n (omega arith))
    ∙ sym (filter_map-append g (below n) (n ∷ []))

-- what is made of those that pass a test
pub mapped_filter : {X : Type 0} → (f : ℕ → Option X) (q : ℕ → Bool) (xs : List ℕ) → filter_map f (filter q xs) ≡ filter_map (λ k. cond (q k) (f k) None) xs
mapped_filter f q [] = refl
mapped_filter {X} f q (x ∷ xs) =
    elim (q x) as (λ b. filter_map f (cond b (x ∷ filter q xs) (filter q xs)) ≡ cons_option (cond b (f x) None) (filter_map (λ k. cond (q k) (f k) None) xs)) [
      | true ↦ ap (cons_option (f x)) (mapped_filter f q xs)
      | false ↦ mapped_filter f q xs
    ]
