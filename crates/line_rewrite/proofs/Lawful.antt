-- The plan of `upgrade` is sound, and so its promise is lawful.
use Rattle.std.proofs.Common.{ℕ, List, [], ◌∷◌, ◌++◌}
use Rattle.std.proofs.lemmas.List.Elements.{Contains-push}
use Rattle.ngd_log.specs.declared.standing.Version.TheVariants.{Two}
use Rattle.ngd_log.specs.EntryTexts.{text_lines}
use Rattle.ngd_rewrite.specs.Upgrade.{upgraded}
use Rattle.dcsp_script.specs.Clauses.{IsLawful}
use Rattle.abt_input.specs.Plans.{WritesOwn, IsSoundPlan}
use Rattle.abt_input.proofs.ExactKinds.{log_exact}
use Rattle.abt_input.proofs.OwnWrites.{own_none, own_put, own_create, own_both, own_appends}
use Rattle.abt_input.proofs.PlanLaws.{plan_lawful}
use Rattle.dcsp_script.specs.Scripts.{Put}
use Rattle.line_rewrite.specs.UpgradePromise.{file_script, upgrade_text, upgrade_plan, upgrade_promise}

-- a file is written under its name, line by line, and then a text is put
pub file_own : (name : List ℕ) (lines : List (List ℕ)) (text : List ℕ) → WritesOwn (name ∷ []) (file_script name lines ++ Put text ∷ [])
file_own name lines text =
    let here = Contains-push [] name in own_both (own_create here (own_appends name (λ line. line) lines here)) (own_put own_none)

pub upgrade_sound : (log new : List ℕ) → IsSoundPlan (log ∷ []) (new ∷ []) (upgrade_plan new)
upgrade_sound log new = (log_exact, λ steps. record { final = tt; no_refusal = λ h. h; names = file_own new (text_lines Two (upgraded steps)) (upgrade_text steps) })

pub upgrade_lawful : (log new : List ℕ) → IsLawful (upgrade_promise log new)
upgrade_lawful log new = plan_lawful (upgrade_plan new) (upgrade_sound log new)
