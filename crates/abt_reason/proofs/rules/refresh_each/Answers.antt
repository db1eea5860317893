use Rattle.std.proofs.Common.{◌≢◌, ◌≡◌, ◌∙◌, sym, subst, ℕ, List, Bool, below_more, get_or, inl, inr}
use Rattle.std.proofs.lemmas.Bool.{cases_eq}
use Rattle.abt_defs.specs.Agents.{values_in}
use Rattle.abt_parts.specs.Views.{view_of}
use Rattle.dcsp_rule.specs.Problems.{Contents}
use Rattle.dcsp_defs.specs.Csp.{PartialAssignment}
use Rattle.std.proofs.lemmas.List.{get_or_default}
use Rattle.abt_reason.specs.declared.named.Naming.{Naming}
use Rattle.abt_reason.specs.Named.{naming}
use Rattle.abt_reason.specs.Grids.{marks, rows_of}
use Rattle.abt_reason.specs.Cached.{IsRightAt, size_of}
use Rattle.abt_reason.proofs.rules.refresh_each.Goals as goal

one_right : (p : Contents) (agent : ℕ) (known : PartialAssignment) (old new : List (List Bool)) (here : ℕ) → IsRightAt p agent known new here → ((other value : ℕ) → other ≢ here → marks new value other ≡ marks old value other)
    → (j : ℕ) → IsRightAt p agent known old j → IsRightAt p agent known new j
one_right p agent known old new here right others j was k l = elim (cases_eq j here) [
  | inl same ↦ subst (IsRightAt p agent known new) (sym same) right k l
  | inr apart ↦ others j k apart ∙ was k l
]

-- what stands past the end of a list
abbrev no_naming : Naming
no_naming = naming 0 0

pub loop-naming-preserved : goal.loop-naming-preserved
loop-naming-preserved c =
    let p = c.args.owner.now.problem.now in
    let agent = c.args.owner.now.agent in
    let known = values_in (view_of c.args.owner.now.view.now) in
    let namings = c.args.namings.now in
    let k = c.loop-naming.naming-index in
    let new = rows_of (size_of p agent) c.refresh.new.ruled_out.rows.items in
    let here = (get_or namings k no_naming).place in
    let step = one_right p agent known (rows_of (size_of p agent) c.loop-naming.ruled_out.rows.items) new here c.refresh.ensures.right c.refresh.ensures.others in
    record {
      room = c.refresh.ensures.room;
      rows = c.refresh.ensures.rows;
      kept = λ j was. step j (c.loop-naming.invariant.kept j was);
      right = λ n d below. below_more (λ n. IsRightAt p agent known new (get_or namings n d).place) k
          (λ n before. step (get_or namings n d).place (c.loop-naming.invariant.right n d before))
          (subst (λ (x : Naming). IsRightAt p agent known new x.place) (get_or_default namings k no_naming d c.loop-naming-test.true) c.refresh.ensures.right) n below;
    }
