-- The bound on the deliveries of a run. It mentions no run.
use Rattle.std.specs.Prelude.{ℕ, ◌+◌, ◌-◌, ◌*◌, cond, length, suc, zero}
use Rattle.dcsp_defs.specs.Words.{sum_below}
use Rattle.dcsp_defs.specs.Csp.{Csp, domain, count}
use Rattle.abt_defs.specs.Agents.{shares}

-- the product of 1 + the size of the domain, over all variables below i
abbrev pub product_below : Csp → ℕ → ℕ
product_below p zero = 1
product_below p (suc i) = product_below p i * (1 + length (domain p i))

-- the pairs of agents without a link at the start
abbrev pub unlinked_pairs : Csp → ℕ
unlinked_pairs p = sum_below (λ i. sum_below (λ k. cond (shares p i k) 0 1) i) (count p)

-- the greatest number of messages that a run can deliver
abbrev pub message_bound : Csp → ℕ
message_bound p = unlinked_pairs p + sum_below (λ i. (count p - 1 - i) * length (domain p i) * product_below p i + (product_below p i - 1)) (count p)
