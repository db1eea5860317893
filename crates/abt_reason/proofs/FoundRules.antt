-- The first of the owned rules that is false for a value, and the first value that nothing rules out.
use Rattle.std.proofs.Common.{◌≡◌, ◌<◌, ◌≤◌, ◌+◌, ◌∙◌, true, ap, sym, subst, length, get_or, arith, Some, None, Option, ℕ, List, Bool, false, refl, not, is_some, inl, inr}
use Rattle.std.specs.Option.{option_map, IfSome}
use Rattle.std.proofs.lemmas.List.{get_or-map, get_or_past, length-map}
use Rattle.dcsp_rule.specs.Problems.{constraint_at}
use Rattle.abt_reason.specs.declared.grid.ValueRun.{ValueRun}
use Rattle.abt_reason.specs.Named.{only_other, others_of}
use Rattle.std.proofs.lemmas.Bool.{cases_lt}
use Rattle.dcsp_defs.specs.declared.Reason.{Reason}
use Rattle.dcsp_defs.specs.declared.Reason.TheVariants.{Earlier}
use Rattle.dcsp_defs.specs.Csp.{PartialAssignment}
use Rattle.abt_parts.specs.declared.recorded.Recorded.{Recorded}
use Rattle.abt_reason.specs.Firsts.{IsFirst, IsFirstBetween}
use Rattle.abt_reason.specs.declared.named.Naming.{Naming}
use Rattle.dcsp_row.specs.declared.marks.Marks.{Marks}
use Rattle.abt_reason.specs.Grids.{marks, rows_of, HaveFirst, IsGrid, IsValueRun}
use Rattle.abt_reason.proofs.FirstLaws.{between_alike, first_alike}
use Rattle.abt_reason.specs.Causes.{is_false, is_free_at, known_at, value_at}
use Rattle.abt_reason.specs.Cached.{Cached, StandsFor, IsCache, IsOtherIn, IsOwner, other_at, rules_of, size_of}
use Rattle.abt_reason.proofs.CauseLaws.{reason_rule, reason_step}

-- the option has a rule's place
record IsSomeRule (o : Option ℕ) : Type 0 where
  at : ℕ
  is : o ≡ Some at

-- the run of the rows is one of the owned rules
pub run_found : (r : Cached) (owned : List ℕ) (others : List (Option ℕ)) (rows : List Marks) (counts : List ℕ) (firsts : List (Option ℕ)) (namings : List Naming) (room : Marks) (values place : ℕ) (first : Option ℕ) (end : ℕ) → IsCache r owned others rows counts firsts namings room → values ≡ size_of r.problem r.agent
    → IsValueRun (rows_of values rows) (length rows) values place first end → IsValueRun r.rows (rules_of r.problem r.agent) (size_of r.problem r.agent) place first end
run_found r owned others rows counts firsts namings room values place first end inv size run =
    let sized = subst (λ n. IsValueRun (rows_of n rows) (length rows) n place first end) size run in
    let counted = subst (λ n. IsValueRun (rows_of (size_of r.problem r.agent) rows) n (size_of r.problem r.agent) place first end) inv.for_rules.are_rows.each_rule sized in
    subst (λ (rs : List (List Bool)). IsValueRun rs (rules_of r.problem r.agent) (size_of r.problem r.agent) place first end) (sym inv.rows_are) counted

-- the rule is one of the owned ones
pub place_in_range : (r shown : Cached) (owned : List ℕ) (place : ℕ) (first : Option ℕ) (end at : ℕ) → IsOwner r.problem r.agent owned (size_of r.problem r.agent) → r ≡ shown
    → HaveFirst shown.rows (rules_of shown.problem shown.agent) place first end → place < end → first ≡ Some at → at < length owned
place_in_range r shown owned place first end at owner same run below some =
    let here = (subst (IsFirst (marks shown.rows place) (rules_of shown.problem shown.agent)) some (run place (omega arith) below)).0 in
    omega (arith, here, ap length owner.rules_are, ap (λ (x : Cached). rules_of x.problem x.agent) same)

-- the variable that is kept for an owned rule is the one that it names beside the agent
pub other_found : (r shown : Cached) (owned : List ℕ) (others : List (Option ℕ)) (run : ValueRun) (at : ℕ) (found : Option ℕ) → IsOwner r.problem r.agent owned (size_of r.problem r.agent) → others ≡ others_of r.problem r.agent owned → r ≡ shown
    → run.first ≡ Some at → at < length owned → found ≡ get_or others at found → IfSome found (IsOtherIn shown run)
other_found r shown owned others run at found owner are same first below read =
    let is : found ≡ other_at shown at =
    read ∙ ap (λ (xs : List (Option ℕ)). get_or xs at found) are ∙ get_or-map (λ rule. only_other r.agent (constraint_at r.problem rule).scope) owned at 0 found below
    ∙ ap (λ (rules : List ℕ). only_other r.agent (constraint_at r.problem (get_or rules at 0)).scope) owner.rules_are ∙ ap (λ (x : Cached). other_at x at) same in
    by_found found is where
      by_found : (o : Option ℕ) → o ≡ other_at shown at → IfSome o (IsOtherIn shown run)
      by_found None e = tt
      by_found (Some var) e = record { at = at; first = first; other = sym e }

-- it is the first false rule
pub first_rule : (r : Cached) (known : PartialAssignment) (items : List Recorded) → StandsFor r known items → (place : ℕ) (first : Option ℕ) (end : ℕ) → HaveFirst r.rows (rules_of r.problem r.agent) place first end
    → (k : ℕ) → place ≤ k → k < end → k < size_of r.problem r.agent → IsFirst (is_false r.problem r.agent (known_at r.problem r.agent known k)) (rules_of r.problem r.agent) first
first_rule r known items stands place first end run k from below within =
    first_alike (marks r.rows k) (is_false r.problem r.agent (known_at r.problem r.agent known k)) (rules_of r.problem r.agent) first (λ j l. stands.rules j l k within) (run k from below)

module _ (r : Cached) (known : PartialAssignment) (items : List Recorded) (stands : StandsFor r known items) (place : ℕ) (first : Option ℕ) (end : ℕ)
    (run : IsValueRun r.rows (rules_of r.problem r.agent) (size_of r.problem r.agent) place first end) where
  within : (k : ℕ) → k < end → k < size_of r.problem r.agent
  within k below = omega (arith, below, run.most)

  rule_at : (k : ℕ) → place ≤ k → k < end → IsFirst (is_false r.problem r.agent (known_at r.problem r.agent known k)) (rules_of r.problem r.agent) first
  rule_at k from below = first_rule r known items stands place first end run.same k from below (within k below)

  -- a rule rules out each value of the run
  pub none_free : (at : ℕ) → first ≡ Some at → IsFirstBetween (is_free_at r.problem r.agent known items) place end None
  none_free at some = λ k from below.
      let found = subst (IsFirst (is_false r.problem r.agent (known_at r.problem r.agent known k)) (rules_of r.problem r.agent)) some (rule_at k from below) in
      ap (λ (o : Option Reason). not (is_some o)) (reason_rule r.problem r.agent known items (value_at r.problem r.agent k) at found)

  no_rule_then : (o : Option ℕ) → not (is_some (option_map Earlier o)) ≡ not (is_some o)
  no_rule_then None = refl
  no_rule_then (Some n) = refl

  -- no rule does: then the first value with no step is free
  pub free_without : (o : Option ℕ) → first ≡ None → IsFirstBetween (λ k. not (is_some (get_or r.steps k None))) place end o → IsFirstBetween (is_free_at r.problem r.agent known items) place end o
  free_without o none found = between_alike (λ k. not (is_some (get_or r.steps k None))) (is_free_at r.problem r.agent known items) place end o
      (λ k from below.
      let no_rule = subst (IsFirst (is_false r.problem r.agent (known_at r.problem r.agent known k)) (rules_of r.problem r.agent)) none (rule_at k from below) in
      ap (λ (step : Option ℕ). not (is_some step)) (stands.kept.first k (within k below))
      ∙ sym (no_rule_then _)
      ∙ sym (ap (λ (o : Option Reason). not (is_some o)) (reason_step r.problem r.agent known items (value_at r.problem r.agent k) no_rule))) found

  -- none before the run is free, and one of the run is
  pub first_free : (free : ℕ) → ((k : ℕ) → k < place → is_free_at r.problem r.agent known items k ≡ false) → IsFirstBetween (is_free_at r.problem r.agent known items) place end (Some free)
      → IsFirst (is_free_at r.problem r.agent known items) (size_of r.problem r.agent) (Some free)
  first_free free before found =
      let below = found.1 in
      (omega (arith, below, run.most), found.2, λ k l. elim (cases_lt k place) [ inl earlier ↦ before k earlier | inr later ↦ found.3 k later l ])

  -- none before the run is free, and none of the run is
  pub none_yet : ((k : ℕ) → k < place → is_free_at r.problem r.agent known items k ≡ false) → IsFirstBetween (is_free_at r.problem r.agent known items) place end None
      → (k : ℕ) → k < end → is_free_at r.problem r.agent known items k ≡ false
  none_yet before found = λ k l. elim (cases_lt k place) [ inl earlier ↦ before k earlier | inr later ↦ found k later l ]

-- a value that is counted is a run of its own
counted_run : (values : ℕ) (rows : List Marks) (counts : List ℕ) (firsts : List (Option ℕ)) (k : ℕ) → IsGrid (rows_of values rows) values counts firsts → k < length firsts
    → IsValueRun (rows_of values rows) (length rows) values k (get_or firsts k None) (k + 1)
counted_run values rows counts firsts k grid within =
    let counted : k < length counts = omega (arith, within, grid.first_each) in
    let below : k < values = elim grid.counted [
      | inl all ↦ omega (arith, counted, all)
      | inr none ↦ absurd (omega (arith, counted, none))
    ] in
    record {
      later = omega arith;
      most = omega (arith, below);
      same = λ j from until.
          let is : k ≡ j = omega (arith, from, until) in
          subst (λ n. IsFirst (marks (rows_of values rows) n) (length rows) (get_or firsts k None)) is
          (subst (λ n. IsFirst (marks (rows_of values rows) k) n (get_or firsts k None)) (length-map rows _) (grid.right_first k counted));
    }

-- so it is among the owned rules
pub firsts_found : (r : Cached) (owned : List ℕ) (others : List (Option ℕ)) (rows : List Marks) (counts : List ℕ) (firsts : List (Option ℕ)) (namings : List Naming) (room : Marks) → IsCache r owned others rows counts firsts namings room
    → (k : ℕ) → k < length firsts → IsValueRun r.rows (rules_of r.problem r.agent) (size_of r.problem r.agent) k (get_or firsts k None) (k + 1)
firsts_found r owned others rows counts firsts namings room inv k within =
    let size = size_of r.problem r.agent in
    run_found r owned others rows counts firsts namings room size k (get_or firsts k None) (k + 1) inv refl (counted_run size rows counts firsts k inv.for_rules.are_rows.grid within)

has_first : (firsts : List (Option ℕ)) (k : ℕ) → is_some (get_or firsts k None) ≡ true → k < length firsts
has_first firsts k has = elim (cases_lt k (length firsts)) [
  | inl low ↦ low
  | inr past ↦ absurd (let none = sym has ∙ ap is_some (get_or_past firsts k None past) in cc)
]

some_rule : (o : Option ℕ) → is_some o ≡ true → IsSomeRule o
some_rule None has = absurd cc
some_rule (Some at) has = record { at = at; is = refl }

-- none of the values for which a first rule is kept is free
pub passed_free : (r : Cached) (owned : List ℕ) (others : List (Option ℕ)) (rows : List Marks) (counts : List ℕ) (firsts : List (Option ℕ)) (namings : List Naming) (room : Marks) → IsCache r owned others rows counts firsts namings room
    → (k : ℕ) → is_some (get_or firsts k None) ≡ true → (known : PartialAssignment) (items : List Recorded) → StandsFor r known items → is_free_at r.problem r.agent known items k ≡ false
passed_free r owned others rows counts firsts namings room inv k has known items stands =
    let run = firsts_found r owned others rows counts firsts namings room inv k (has_first firsts k has) in
    let rule = some_rule (get_or firsts k None) has in
    none_free r known items stands k (get_or firsts k None) (k + 1) run rule.at rule.is k (omega arith) (omega arith)
