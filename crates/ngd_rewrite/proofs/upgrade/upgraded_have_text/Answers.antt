use Rattle.ngd_rewrite.proofs.Texts.{have_text}
use Rattle.ngd_rewrite.proofs.upgrade.upgraded_have_text.Goals as goal

pub returns : goal.returns
returns c = have_text
