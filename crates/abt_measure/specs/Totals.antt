-- What all agents did together.
use Rattle.std.specs.Prelude.{◌≡◌, List, sum_by}
use Rattle.dcsp_defs.specs.Csp.{Csp}
use Rattle.abt_defs.specs.Events.{Act}
use Rattle.abt_defs.specs.Measures as measures
use Rattle.abt_defs.specs.Measures.{total}
use Rattle.abt_measure.specs.declared.row.Row.{Row}
use Rattle.abt_measure.specs.declared.totals.Totals.{Totals}

-- the sums over these rows
pub record AreSums (rows : List Row) (t : Totals) : Type 0 where
  pub ok : t.got.ok ≡ sum_by (λ (r : Row). r.got.ok) rows
  pub nogood : t.got.nogood ≡ sum_by (λ (r : Row). r.got.nogood) rows
  pub link : t.got.link ≡ sum_by (λ (r : Row). r.got.link) rows
  pub constraints : t.constraints ≡ sum_by (λ (r : Row). r.constraints) rows
  pub nogoods : t.nogoods ≡ sum_by (λ (r : Row). r.nogoods) rows

-- the totals of these acts
abbrev pub totals_of : Csp → List Act → Totals
totals_of p acts = record {
  got = record {
    ok = total p acts (λ (r : measures.Row). r.got.ok);
    nogood = total p acts (λ (r : measures.Row). r.got.nogood);
    link = total p acts (λ (r : measures.Row). r.got.link);
  };
  constraints = total p acts (λ (r : measures.Row). r.constraints);
  nogoods = total p acts (λ (r : measures.Row). r.nogoods);
}
