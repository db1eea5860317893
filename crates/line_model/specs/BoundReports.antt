-- What `bound MODEL [--order FILE]` promises.
use Rattle.std.specs.Prelude.{ℕ, ◌^◌, List, [], ◌∷◌, ◌++◌, codes, decimal, nat_lt, Option, Some, None, if◌then◌else◌}
use Rattle.dcsp_rule.specs.Problems.{Contents, csp_of}
use Rattle.dcsp_script.specs.Scripts.{Put}
use Rattle.abt_defs.specs.Bound.{message_bound}
use Rattle.dcsp_script.specs.declared.status.Status.TheVariants.{Good}
use Rattle.dcsp_script.specs.Promises.{Promise}
use Rattle.abt_input.specs.Kinds.{a_model}
use Rattle.abt_input.specs.Plans.{Plan, Answer, Read, promise_by, order_then, under_order}
use Rattle.dcsp_order.specs.Told.{ordered}

-- the number, if it is below 2^128
abbrev pub in_128_bits : ℕ → Option ℕ
in_128_bits n = if nat_lt n (2 ^ 128) then Some n else None

-- the line that tells a bound
abbrev pub bound_line : Option ℕ → List ℕ
bound_line None = codes "bound over\n"
bound_line (Some n) = codes "bound " ++ decimal n ++ codes "\n"

-- the line that tells the message bound of a problem
abbrev pub bound_text : Contents → List ℕ
bound_text problem = bound_line (in_128_bits (message_bound (csp_of problem)))

-- the bound of the problem under this order is put on `out`
abbrev pub bound_under : Contents → Option (List ℕ) → Plan
bound_under problem order = Answer Good (Put (bound_text (ordered order problem)) ∷ [])

-- the model is read, and the order where one is named, and the bound of the problem under it is told
abbrev pub bound_plan : Option (List ℕ) → Plan
bound_plan order_file = Read a_model (λ problem. under_order order_file problem (bound_under problem))

-- the line's promise
abbrev pub bound_promise : List ℕ → Option (List ℕ) → Promise
bound_promise model order_file = promise_by (model ∷ order_then order_file []) [] (bound_plan order_file)
