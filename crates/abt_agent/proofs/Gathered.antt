-- What a view tells of rising agents rises.
use Rattle.std.proofs.Common.{◌≡◌, ℕ, zero, suc, ◌+◌, ◌<◌, List, [], ◌∷◌, length, filter, Option, Some, None, inl, inr, refl, sym, ap, subst, ◌∙◌, arith}
use Rattle.std.specs.Prelude.{Bool, filter_map}
use Rattle.std.specs.List.{cons_option}
use Rattle.dcsp_defs.specs.declared.nogood.Pair.{Pair}
use Rattle.dcsp_defs.specs.Pairs.{IsRising, var_at}
use Rattle.dcsp_defs.specs.Words.{In, below}
use Rattle.dcsp_defs.specs.Words as numbers
use Rattle.abt_defs.specs.Agents.{View, Stamped, plain}
use Rattle.abt_defs.specs.Reasons.{pair_at}
use Rattle.abt_parts.specs.Messages.{with_stamps}
use Rattle.abt_agent.specs.Causes.{told_of}
use Rattle.abt_parts.proofs.Lists.{plain-with_stamps}
use Rattle.abt_parts.proofs.Insertion.{rising-filter_below}

-- pairs of some of these agents, which rise
record RiseAmong (pairs : List Pair) (agents : List ℕ) : Type 0 where
  rising : IsRising pairs
  among : (k : ℕ) → k < length pairs → In (var_at pairs k) agents

told_rise : (view : View) (agents : List ℕ) → numbers.IsRising agents → RiseAmong (plain (filter_map (told_of view) agents)) agents
told_rise view [] up = record { rising = λ k l. absurd (omega (arith, l)); among = λ k l. absurd (omega (arith, l)) }
told_rise view (agent ∷ agents) up = by (view agent) (told_rise view agents up.1) where
  by : (o : Option Stamped) → RiseAmong (plain (filter_map (told_of view) agents)) agents → RiseAmong (plain (cons_option (pair_at agent o) (filter_map (told_of view) agents))) (agent ∷ agents)
  by None rest = record { rising = rest.rising; among = λ k l. inr (rest.among k l) }
  by (Some told) rest = record { rising = rising; among = among }
    where
      rising : IsRising (plain (cons_option (pair_at agent (Some told)) (filter_map (told_of view) agents)))
      rising zero l = up.0 (var_at (plain (filter_map (told_of view) agents)) 0) (rest.among 0 (omega (arith, l)))
      rising (suc k) l =
          let next : suc (k + 1) ≡ suc k + 1 = omega arith in
          let pairs = plain (cons_option (pair_at agent (Some told)) (filter_map (told_of view) agents)) in
          subst (λ j. var_at pairs (suc k) < var_at pairs j) next (rest.rising k (omega (arith, l)))

      among : (k : ℕ) → k < length (plain (cons_option (pair_at agent (Some told)) (filter_map (told_of view) agents))) → In (var_at (plain (cons_option (pair_at agent (Some told)) (filter_map (told_of view) agents))) k) (agent ∷ agents)
      among zero l = inl refl
      among (suc k) l = inr (rest.among k (omega (arith, l)))

-- so pairs with stamps that are what it tells of marked agents rise
pub told_rises : (view : View) (has : ℕ → Bool) (from : ℕ) (pairs : List Pair) (stamps : List ℕ) → with_stamps pairs stamps ≡ filter_map (told_of view) (filter has (below from)) → IsRising pairs
told_rises view has from pairs stamps same = subst IsRising (sym (ap plain same) ∙ plain-with_stamps pairs stamps) (told_rise view (filter has (below from)) (rising-filter_below has from)).rising
