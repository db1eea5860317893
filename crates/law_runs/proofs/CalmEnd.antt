-- Each fact of the calm run by itself, since each computes the run anew.
use Rattle.std.proofs.Common.{◌≡◌, true, false, [], ◌∷◌, refl, pos}
use Rattle.dcsp_defs.specs.declared.Reason.TheVariants.{Rule, Earlier}
use Rattle.dcsp_defs.specs.Pairs.{pair_of}
use Rattle.law_runs.specs.Models.{clash, step}
use Rattle.law_runs.specs.Worlds.{begin}
use Rattle.law_runs.specs.LossyEnds.{calm, calm_words}
use Rattle.law_runs.specs.LossyRows.{end}

pub ten : end clash 10 ≡ (false, false, 3, 1)
ten = refl

pub eleven : end clash 11 ≡ (true, true, 4, 0)
eleven = refl

pub words : calm_words clash 12 (begin clash) ≡ 0 ∷ 1 ∷ 1 ∷ 0 ∷ 1 ∷ 1 ∷ 0 ∷ 1 ∷ 1 ∷ 0 ∷ 1 ∷ []
words = refl

pub steps : (calm clash 11 (begin clash)).network.steps ≡ step 1 (pair_of 0 (pos 0) ∷ []) (Rule 0 ∷ Rule 1 ∷ []) ∷ step 1 (pair_of 0 (pos 1) ∷ []) (Rule 1 ∷ Rule 0 ∷ []) ∷ step 0 [] (Earlier 1 ∷ Earlier 2 ∷ []) ∷ []
steps = refl
