-- What a line that wrote an order means to a user.
use Rattle.std.specs.Prelude.{◌≡◌, ◌≢◌, ℕ, List, Option, Some}
use Rattle.dcsp_outside.specs.Outside.{Told, bytes_of}
use Rattle.dcsp_rule.specs.Problems.{Contents, csp_of}
use Rattle.dcsp_order.specs.declared.by_rule.OrderRule.{OrderRule}
use Rattle.dcsp_order.specs.ByRule.{IsOrderBy}
use Rattle.dcsp_order.specs.Texts.{order_text}
use Rattle.abt_input.specs.Inputs.{IsModelOf}

-- the files before and after the order of this problem's variables by the rule was written
pub record WritesOrder (p : Contents) (rule : OrderRule) (file : List ℕ) (files now : List ℕ → Option (List ℕ)) : Type 0 where
  pub order : List ℕ
  pub by_rule : IsOrderBy rule (csp_of p) order
  -- the file holds its text, whole
  pub written : now file ≡ Some (order_text order)
  pub others : (name : List ℕ) → name ≢ file → now name ≡ files name

-- Where the folder tells its files, and the model under the name has a problem, the order of its variables by the rule was written.
abbrev pub HoldsOrder : List ℕ → OrderRule → List ℕ → Option (List ℕ → Option (List ℕ)) → Option (List ℕ → Option (List ℕ)) → Type 0
HoldsOrder model_name rule file files now =
    Told files now (λ before after. (problem : Contents) → IsModelOf (bytes_of (before model_name)) problem → WritesOrder problem rule file before after)
