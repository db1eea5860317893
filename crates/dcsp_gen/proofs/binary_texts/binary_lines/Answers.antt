use Rattle.std.proofs.Common.{◌<◌, ◌∙◌, length, List, ℕ, sym, subst}
use Rattle.dcsp_gen.proofs.Selecting.{few_pairs, few_value_pairs}
use Rattle.dcsp_gen.proofs.binary_texts.binary_lines.Goals as goal

pub select-requires : goal.select-requires
select-requires c = subst (λ (z : List (ℕ × ℕ)). length z < 2147483648) (sym (c.deref.ensures.value ∙ c.in_ok-all.ensures)) (few_pairs c.args.sizes.variables c.requires.variables.1)

pub push_tables-requires : goal.push_tables-requires
push_tables-requires c = subst (λ (z : List (ℕ × ℕ)). length z < 2147483648) (sym (c.deref-2.ensures.value ∙ c.in_ok-values.ensures)) (few_value_pairs c.args.sizes.values c.requires.values.1)
