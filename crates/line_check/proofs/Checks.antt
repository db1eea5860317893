-- What checking means.
use Rattle.std.proofs.Common.{◌≡◌, ℕ, List, Option, Some, None, refl, subst}
use Rattle.dcsp_defs.specs.Csp.{HasNoSolution}
use Rattle.dcsp_outside.specs.Outside.{bytes_of}
use Rattle.dcsp_rule.specs.Problems.{Contents, csp_of}
use Rattle.ngd_check.specs.declared.Finding.{Finding}
use Rattle.ngd_check.specs.declared.Finding.TheVariants.{Verified, BadStep, BadDeletion, NotEmpty}
use Rattle.dcsp_script.specs.declared.status.Status.TheVariants.{Good}
use Rattle.dcsp_script.specs.Promises.{IsHeld}
use Rattle.line_check.specs.Taking.{Taking}
use Rattle.line_check.specs.Checks.{IsRefutedBy, finding_status}

-- the problem that was taken of a model is the one that is taken of it
pub refuted : (t : Taking) → ((model : List ℕ) (p q : Contents) → t.Is model p → t.Is model q → p ≡ q) → (files : Option (List ℕ → Option (List ℕ))) (name : List ℕ) (p : Contents) → ((model : List ℕ) × IsHeld files name model × t.Is model p) → HasNoSolution (csp_of p) → IsRefutedBy t files name
refuted t one None name p h none = tt
refuted t one (Some files) name p h none =
    let is : t.Is (bytes_of (files name)) p = subst (λ m. t.Is m p) h.1 h.2 in
    record { taken = (p, is); none = λ q k. subst (λ x. HasNoSolution (csp_of x)) (one (bytes_of (files name)) p q is k) none }

-- status 0 is that of one finding
pub good_verified : (finding : Finding) → finding_status finding ≡ Good → finding ≡ Verified
good_verified Verified e = refl
good_verified (BadStep step) e = absurd (let f = e in cc)
good_verified (BadDeletion after) e = absurd (let f = e in cc)
good_verified NotEmpty e = absurd (let f = e in cc)
