-- An upgrade is a log of the same finding.
use Rattle.std.proofs.Common.{List, refl, subst}
use Rattle.std.specs.Prelude.{◌↔◌}
use Rattle.dcsp_defs.specs.declared.Step.{Step}
use Rattle.ngd_log.specs.declared.standing.Version.TheVariants.{Two}
use Rattle.ngd_log.specs.Logs.{AreWritable}
use Rattle.ngd_log.specs.EntryTexts.{IsTextOf}
use Rattle.ngd_log.proofs.EntryLaws.{entries_or_bad_line}
use Rattle.ngd_check.specs.Findings.{IsFinding, IsFindingOf}
use Rattle.ngd_rewrite.specs.Upgrade.{upgraded}
use Rattle.ngd_rewrite.proofs.Findings.{one_finding}
use Rattle.ngd_rewrite.proofs.Texts.{have_text}
use Rattle.line_rewrite.specs.Upgrading.{new_text, IsUpgradeOf}

pub is_upgrade : (steps : List Step) → AreWritable steps → IsUpgradeOf steps (new_text steps)
is_upgrade steps h =
    let text : IsTextOf (new_text steps) Two (upgraded steps) = record { writable = have_text steps h; same = refl } in
    record {
      text = text;
      finding = λ p entries finding is.
          subst (λ es. IsFinding p steps finding ↔ IsFindingOf p es finding) ((entries_or_bad_line (new_text steps)).one_list (upgraded steps) entries (Two, text) is) (one_finding p steps finding);
    }
