use Rattle.std.proofs.Common.{◌≡◌, ◌<◌, ℕ, length}
use Rattle.std.specs.Prelude.{slice_index_or}
use Rattle.dcsp_rule.specs.declared.form.Form.TheVariants as form
use Rattle.dcsp_rule.specs.Rules.{no_rule}
use Rattle.dcsp_rule.specs.Forms.{IsFormOf}
use Rattle.dcsp_rule.proofs.form.forms_of.Given as goal

abbrev pub invariant-loop-place : goal.invariant-loop-place
invariant-loop-place l = record {
  many : length l.forms.items ≡ l.place;
  each : (k : ℕ) → k < l.place → IsFormOf (slice_index_or l.forms.items k form.Plain) (slice_index_or l.rules k no_rule);
}
