use Rattle.ngd_rewrite.proofs.Findings.{one_finding}
use Rattle.ngd_rewrite.proofs.Texts.{have_text}
use Rattle.ngd_rewrite.proofs.upgrade.upgraded.Goals as goal

pub returns-in_err-endings-clause-finding : goal.returns-in_err-endings-clause-finding
returns-in_err-endings-clause-finding c = λ p f. one_finding p c.args.derivation.now f

pub returns-in_err-endings-clause-writable : goal.returns-in_err-endings-clause-writable
returns-in_err-endings-clause-writable c = have_text c.args.derivation.now

pub returns-clause-finding : goal.returns-clause-finding
returns-clause-finding c = λ p f. one_finding p c.args.derivation.now f

pub returns-clause-writable : goal.returns-clause-writable
returns-clause-writable c = have_text c.args.derivation.now
