-- Whether the pairs of a nogood are as the view has them, while they are learned.
use Rattle.std.proofs.Common.{◌≡◌, ◌≢◌, ◌==◌, ℕ, zero, suc, ◌+◌, ◌<◌, Bool, true, false, cond, not, ◌&&◌, ◌||◌, List, [], ◌∷◌, length, take, drop, get_or, Some, ℤ, nat_lt, int_eq, inl, inr, refl, sym, ap, subst, ◌∙◌, arith}
use Rattle.std.proofs.Math.Bool.{and-true}
use Rattle.std.proofs.lemmas.Bool.{ne_eqb}
use Rattle.std.proofs.lemmas.Bool.Decides.{eqb_tells, Decides-ltb, Decides-int_eq}
use Rattle.dcsp_defs.specs.declared.nogood.Pair.{Pair}
use Rattle.dcsp_defs.specs.Pairs.{no_pair, pair_of, IsRising as PairsRise}
use Rattle.dcsp_defs.specs.Words.{IsRising, update, is_value}
use Rattle.dcsp_defs.specs.Csp.{names}
use Rattle.abt_defs.specs.Agents.{Agent, Stamped, StampedNogood, known, value_in}
use Rattle.abt_defs.specs.Steps.{is_newer, is_news, forget, learn, learn_all, fits}
use Rattle.abt_parts.specs.Messages.{with_stamps}
use Rattle.abt_parts.proofs.Lists.{stamps_step}
use Rattle.abt_parts.proofs.Members.{In-get_or, In-map}
use Rattle.abt_agent.proofs.Proper.{names_rise}

-- what a variable is told leaves the view at the others
pub view_elsewhere : (me k j : ℕ) (s : Stamped) (a : Agent) → j ≢ k → (cond (nat_lt k me) (learn k s a) a).view j ≡ a.view j
view_elsewhere me k j s a other = by (nat_lt k me) (is_newer (a.view k) s.stamp)
  where
    by : (low newer : Bool) → (cond low (cond newer (record a { view = update a.view k (Some s); recorded = forget k s.value a.recorded }) a) a).view j ≡ a.view j
    by false newer = refl
    by true false = refl
    by true true = rw (ne_eqb j k other) refl

swap_and : (a b c : Bool) → (a && (b && c)) ≡ (b && (a && c))
swap_and true b c = refl
swap_and false true c = refl
swap_and false false c = refl

-- one pair more, where the view has changed at its variable alone
pub fits_more : (me place : ℕ) (pairs : List Pair) (a b : Agent) → place < length pairs → IsRising (names pairs)
    → ((j : ℕ) → j ≢ (get_or pairs place no_pair).var → b.view j ≡ a.view j)
    → fits me (take (suc place) pairs) b ≡ (fits me (get_or pairs place no_pair ∷ []) b && fits me (take place pairs) a)
fits_more me place [] a b l r e = absurd (omega arith)
fits_more me zero (y ∷ ys) a b l r e = sym (and-true (fits me (y ∷ []) b))
fits_more me (suc place) (y ∷ ys) a b l r e =
    let x = get_or ys place no_pair in
    let within : place < length ys = omega arith in
    let below : y.var < x.var = r.0 x.var (In-map (λ (z : Pair). z.var) x ys (In-get_or ys place no_pair within)) in
    let same : b.view y.var ≡ a.view y.var = e y.var (λ z. omega arith) in
    let first : fits me (y ∷ take (suc place) ys) b ≡ ((not (nat_lt y.var me) || is_value (known a y.var) y.value) && fits me (take (suc place) ys) b) =
    ap (λ o. (not (nat_lt y.var me) || is_value (value_in o) y.value) && fits me (take (suc place) ys) b) same in
    first
    ∙ ap (λ z. (not (nat_lt y.var me) || is_value (known a y.var) y.value) && z) (fits_more me place ys a b within r.1 e)
    ∙ swap_and (not (nat_lt y.var me) || is_value (known a y.var) y.value) (fits me (x ∷ []) b) (fits me (take place ys) a)

-- a higher agent fits exactly if the view has the value
pub fits_higher : (me var : ℕ) (value : ℤ) (a : Agent) → var < me → is_value (known a var) value ≡ fits me (pair_of var value ∷ []) a
fits_higher me var value a l = rw ((Decides-ltb var me).1 l) (sym (and-true (is_value (known a var) value)))

same_int : (v : ℤ) → int_eq v v ≡ true
same_int v = (Decides-int_eq v v).1 refl

same_nat : (k : ℕ) → (k == k) ≡ true
same_nat k = elim (eqb_tells k k) [ inl t ↦ t.0 | inr t ↦ absurd (t.1 refl) ]

-- what is newer and enters the view fits
pub fits_learnt : (me var : ℕ) (s : Stamped) (a b : Agent) → var < me → b ≡ learn var s a → is_newer (a.view var) s.stamp ≡ true → true ≡ fits me (pair_of var s.value ∷ []) b
fits_learnt me var s a b l e newer =
    subst (λ (z : Agent). true ≡ fits me (pair_of var s.value ∷ []) z) (sym e)
    (rw newer (rw (same_nat var) (sym (same_int s.value))) ∙ fits_higher me var s.value (learn var s a) l)

-- one pair more of a nogood, that is learned if its agent is higher
pub fits_next : (me place : ℕ) (pairs : List Pair) (s : Stamped) (a b : Agent) (one so_far : Bool) → place < length pairs → PairsRise pairs → s.value ≡ (get_or pairs place no_pair).value
    → b ≡ cond (nat_lt (get_or pairs place no_pair).var me) (learn (get_or pairs place no_pair).var s a) a
    → one ≡ fits me (pair_of (get_or pairs place no_pair).var s.value ∷ []) b → so_far ≡ fits me (take place pairs) a
    → (one && so_far) ≡ fits me (take (place + 1) pairs) b
fits_next me place pairs s a b one so_far l r value learnt fits_one fits_so_far =
    let x = get_or pairs place no_pair in
    let elsewhere : (j : ℕ) → j ≢ x.var → b.view j ≡ a.view j = λ j other. ap (λ (z : Agent). z.view j) learnt ∙ view_elsewhere me x.var j s a other in
    let here : one ≡ fits me (x ∷ []) b = fits_one ∙ ap (λ (v : ℤ). fits me (pair_of x.var v ∷ []) b) value in
    let one_more : suc place ≡ place + 1 = omega arith in
    ap (λ z. z && so_far) here
    ∙ ap (λ z. fits me (x ∷ []) b && z) fits_so_far
    ∙ sym (fits_more me place pairs a b l (names_rise pairs r) elsewhere)
    ∙ ap (λ n. fits me (take n pairs) b) one_more

-- learning what is left of a nogood is learning its next pair, and then the rest
pub learn_next : (me place : ℕ) (pairs : List Pair) (stamps : List ℕ) (v : ℤ) (a b : Agent) → place < length pairs → length stamps ≡ length pairs → v ≡ (get_or pairs place no_pair).value
    → b ≡ cond (nat_lt (get_or pairs place no_pair).var me) (learn (get_or pairs place no_pair).var (record { value = v; stamp = get_or stamps place 0 }) a) a
    → learn_all me (with_stamps (drop (place + 1) pairs) (drop (place + 1) stamps)) b ≡ learn_all me (with_stamps (drop place pairs) (drop place stamps)) a
learn_next me place pairs stamps v a b l many value learnt =
    let x = get_or pairs place no_pair in
    let s = get_or stamps place 0 in
    let rest = with_stamps (drop (place + 1) pairs) (drop (place + 1) stamps) in
    ap (learn_all me rest) (learnt ∙ ap (λ (z : ℤ). cond (nat_lt x.var me) (learn x.var (record { value = z; stamp = s }) a) a) value)
    ∙ ap (λ z. learn_all me z a) (sym (stamps_step pairs stamps place no_pair l many))

no_news : (me k : ℕ) (s : Stamped) (rest : StampedNogood) (a : Agent) → (is_news me rest a ≡ false → learn_all me rest a ≡ a) → is_news me ((k, s) ∷ rest) a ≡ false → learn_all me ((k, s) ∷ rest) a ≡ a
no_news me k s rest a later = by (nat_lt k me) (is_newer (a.view k) s.stamp)
  where
    by : (low newer : Bool) → ((low && newer) || is_news me rest a) ≡ false → learn_all me rest (cond low (cond newer (record a { view = update a.view k (Some s); recorded = forget k s.value a.recorded }) a) a) ≡ a
    by true true none = absurd cc
    by true false none = later none
    by false newer none = later none

-- where nothing is newer, nothing is learned
pub learns_nothing : (me : ℕ) (pairs : StampedNogood) (a : Agent) → is_news me pairs a ≡ false → learn_all me pairs a ≡ a
learns_nothing me [] a none = refl
learns_nothing me (y ∷ ys) a none = no_news me y.0 y.1 ys a (learns_nothing me ys a) none

pub is_quiet : (news : Bool) → true ≡ not news → news ≡ false
is_quiet false e = refl
is_quiet true e = absurd cc
