-- Rules whose terms stand one after another in one list, and their numbers in another.
use Rattle.std.specs.Prelude.{◌≡◌, ℕ, ◌+◌, ◌-◌, ◌≤◌, ℤ, pos, List, ◌++◌, map, take, drop, slice_get, slice_index_or}
use Rattle.dcsp_rule.specs.declared.rule.Term.{Term}
use Rattle.dcsp_rule.specs.declared.rule.Term.TheVariants.{Const}
use Rattle.dcsp_rule.specs.declared.rule.Members.TheVariants.{Between, Listed}
use Rattle.dcsp_rule.specs.declared.rule.Rule.{Rule}
use Rattle.dcsp_rule.specs.declared.rule.Rule.TheVariants.{Plain, Sum}
use Rattle.dcsp_rule.specs.declared.flat.HeadKind.{HeadKind}
use Rattle.dcsp_rule.specs.declared.flat.HeadKind.TheVariants.{Listing, Ranging, Summing}
use Rattle.dcsp_rule.specs.declared.flat.RuleHead.{RuleHead}

-- the items from one place on, before another
abbrev pub piece : {X : Type 0} → List X → ℕ → ℕ → List X
piece items start end = take (end - start) (drop start items)

-- the rule that these lists make
abbrev pub rule_of_lists : HeadKind → List Term → List Term → List Term → List ℤ → Rule
rule_of_lists (Listing kind) first second third numbers = Plain kind first second third (Listed numbers)
rule_of_lists (Ranging kind) first second third numbers =
    Plain kind first second third (Between (slice_index_or numbers 0 (pos 0)) (slice_index_or numbers 1 (pos 0)))
rule_of_lists (Summing rel) first second third numbers = Sum rel numbers first (slice_index_or second 0 (Const (pos 0))) (slice_get second 1)

-- the rule whose lists stand at the head's places
abbrev pub rule_in : List Term → List ℤ → RuleHead → Rule
rule_in terms numbers head = rule_of_lists head.kind (piece terms head.first head.second) (piece terms head.second head.third) (piece terms head.third head.end)
    (piece numbers head.numbers head.numbers_end)

-- those of all heads
abbrev pub rules_in : List Term → List ℤ → List RuleHead → List Rule
rules_in terms numbers heads = map (rule_in terms numbers) heads

-- the places do not fall, and lie in so many terms and numbers
pub record IsInside (most_terms most_numbers : ℕ) (head : RuleHead) : Type 0 where
  pub first : head.first ≤ head.second
  pub second : head.second ≤ head.third
  pub third : head.third ≤ head.end
  pub end : head.end ≤ most_terms
  pub numbers : head.numbers ≤ head.numbers_end
  pub numbers_end : head.numbers_end ≤ most_numbers

-- the places of lists that are so long, which come after so many terms and numbers
abbrev pub head_of : HeadKind → ℕ → ℕ → ℕ → ℕ → ℕ → ℕ → RuleHead
head_of kind terms numbers first second third many = record {
  kind = kind;
  first = terms;
  second = terms + first;
  third = terms + first + second;
  end = terms + first + second + third;
  numbers = numbers;
  numbers_end = numbers + many;
}

-- the one list goes on where the other ends
pub record Extends {X : Type 0} (old new : List X) : Type 0 where
  pub more : List X
  pub is : new ≡ old ++ more
