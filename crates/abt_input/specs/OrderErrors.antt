-- What is said of an order that was refused.
use Rattle.std.specs.Prelude.{ℕ, List, ◌++◌, decimal, codes}
use Rattle.abt_input.specs.declared.order_error.OrderRefusal.{OrderRefusal}
use Rattle.abt_input.specs.declared.order_error.OrderRefusal.TheVariants.{Long, Line}

-- the line that says why an order was refused
abbrev pub order_refusal_text : OrderRefusal → List ℕ
order_refusal_text Long = codes "abt: order: too long\n"
order_refusal_text (Line number) = codes "abt: order: line " ++ decimal number ++ codes "\n"
