-- What `order MODEL RULE FILE` promises.
use Rattle.std.specs.Prelude.{ℕ, List, [], ◌∷◌, ◌++◌, length, codes, decimal, if◌then◌else◌}
use Rattle.std.specs.Str.{bytes_eq}
use Rattle.dcsp_rule.specs.Problems.{csp_of}
use Rattle.dcsp_script.specs.Scripts.{Write, Create, Append, Put}
use Rattle.dcsp_order.specs.declared.by_rule.OrderRule.{OrderRule}
use Rattle.dcsp_order.specs.declared.by_rule.OrderRule.TheVariants.{Degree, Links, Reverse}
use Rattle.dcsp_order.specs.ByRule.{IsOrderBy}
use Rattle.dcsp_order.specs.Texts.{order_text}
use Rattle.dcsp_script.specs.declared.status.Status.TheVariants.{Good}
use Rattle.dcsp_script.specs.Promises.{Promise}
use Rattle.abt_input.specs.Kinds.{a_model}
use Rattle.abt_input.specs.Plans.{Plan, Answer, Read, Find, promise_by}

-- the rule in a word
abbrev pub rule_word : OrderRule → List ℕ
rule_word Degree = codes "degree"
rule_word Links = codes "links"
rule_word Reverse = codes "reverse"

-- the rule of a word; any other one than the first two is `reverse`
abbrev pub rule_named : List ℕ → OrderRule
rule_named word = if bytes_eq word (codes "degree") then Degree else (if bytes_eq word (codes "links") then Links else Reverse)

-- the line that tells the rule and how many variables there are, as `order links variables 12`
abbrev pub order_line : OrderRule → ℕ → List ℕ
order_line rule variables = codes "order " ++ rule_word rule ++ codes " variables " ++ decimal variables ++ codes "\n"

-- the file is created, the order's text goes last under it, at once, and then the line is put
abbrev pub order_script : List ℕ → OrderRule → List ℕ → List Write
order_script file rule order = Create file ∷ Append file (order_text order) ∷ Put (order_line rule (length order)) ∷ []

-- the model is read, and the order of its variables by the rule is written
abbrev pub order_plan : OrderRule → List ℕ → Plan
order_plan rule file = Read a_model (λ problem. Find (List ℕ) (IsOrderBy rule (csp_of problem)) (λ order. Answer Good (order_script file rule order)))

-- the line's promise
abbrev pub order_promise : List ℕ → OrderRule → List ℕ → Promise
order_promise model rule file = promise_by (model ∷ []) (file ∷ []) (order_plan rule file)
