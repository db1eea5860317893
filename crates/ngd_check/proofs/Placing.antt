-- Pairs with the places of their values.
use Rattle.std.proofs.Common.{◌≡◌, ℕ, ◌+◌, ◌<◌, ℤ, pos, List, [], ◌∷◌, ◌++◌, length, take, get_or, slice_get, Some, sym, ap, ◌∙◌, subst}
use Rattle.std.proofs.lemmas.List.{take_more, map-append}
use Rattle.std.proofs.lemmas.List.Elements.{All-append, All-cons, All-nil}
use Rattle.std.proofs.lemmas.Option.{slice_get-get_or, get_or_from_slice_get}
use Rattle.dcsp_defs.specs.declared.nogood.Pair.{Pair}
use Rattle.dcsp_defs.specs.Pairs.{no_pair}
use Rattle.dcsp_defs.specs.Words.{In}
use Rattle.dcsp_defs.specs.Csp.{Csp, Nogood, domain, count}
use Rattle.dcsp_defs.specs.Derivation.{IsKnownPair}
use Rattle.dcsp_defs.proofs.Lists.{get-In}
use Rattle.ngd_store.specs.declared.arena.Placed.{Placed}
use Rattle.ngd_store.specs.declared.arena.TheConstants.{NO_VAR}
use Rattle.ngd_check.specs.Places.{pair_of, IsPlaced, IsPlacedAt, ArePlaced}
use Rattle.ngd_check.proofs.Parts.{within}

-- a pair with a place is known
pub placed_known : (p : Csp) (pair : Pair) (placed : Placed) → IsPlacedAt p pair placed → IsKnownPair p pair
placed_known p pair placed h =
    let values = domain p placed.var in
    let here : In (get_or values placed.place (pos 0)) values = get-In _ _ _ (slice_get-get_or values placed.place (pos 0) h.there.place) in
    subst (IsKnownPair p) h.same (record { variable = h.there.variable; value = here })

-- the place of a pair's value
pub found_place : (p : Csp) (pair : Pair) (placed : Placed) → placed.var ≡ pair.var → pair.var < count p → pair.var < NO_VAR → slice_get (domain p pair.var) placed.place ≡ Some pair.value → IsPlacedAt p pair placed
found_place p pair placed e l n h = subst (λ (v : ℕ). IsPlacedAt p pair (record { var = v; place = placed.place })) (sym e) (record {
  there = record { variable = l; place = within (domain p pair.var) placed.place pair.value h; named = n };
  same = ap (λ (v : ℤ). record { var = pair.var; value = v }) (get_or_from_slice_get (domain p pair.var) placed.place pair.value (pos 0) h);
})

-- one pair more
pub placed_more : (p : Csp) (pairs : Nogood) (i : ℕ) (placed : List Placed) (one : Placed) → i < length pairs → ArePlaced p (take i pairs) placed → IsPlacedAt p (get_or pairs i no_pair) one → ArePlaced p (take (i + 1) pairs) (placed ++ one ∷ [])
placed_more p pairs i placed one l h o = record {
  each = All-append (IsPlaced p) placed (one ∷ []) h.each (All-cons (IsPlaced p) one [] o.there (All-nil (IsPlaced p)));
  same = map-append (pair_of p) placed (one ∷ []) ∙ (ap (λ (ps : Nogood). ps ++ pair_of p one ∷ []) h.same ∙ (ap (λ (y : Pair). take i pairs ++ y ∷ []) o.same ∙ sym (take_more pairs i no_pair l)));
}
