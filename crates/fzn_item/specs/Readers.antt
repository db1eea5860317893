-- What a reader of a production answers: a form and its rest, or nothing where the tokens begin with none.
use Rattle.std.specs.Prelude.{◌≡◌, ℕ, List, length, Result, Ok, Err, Option, Some, None, MatchOption}
use Rattle.std.specs.Borrow.{Bor}
use Rattle.fzn_token.specs.declared.token.Token.{Token}
use Rattle.fzn_item.specs.Productions.{Production, Fails}
use Rattle.fzn_item.specs.declared.single.Stop.{Stop}
use Rattle.fzn_item.specs.declared.single.Stop.TheVariants as stop

-- a reader that takes memory
abbrev pub Reads : {V : Type 0} → Production V → List Token → Result (V × Bor (List Token)) Stop → Type 0
Reads R ts (Ok x) = R ts x.0 x.1.now
Reads R ts (Err stop.Unread) = Fails R ts
Reads R ts (Err stop.Memory) = Unit {0}

-- a reader that takes none
abbrev pub Finds : {V : Type 0} → Production V → List Token → Option (V × Bor (List Token)) → Type 0
Finds R ts (Some x) = R ts x.0 x.1.now
Finds R ts None = Fails R ts

-- a reader of a production without a value
abbrev pub Skips : Production (Unit {0}) → List Token → Option (Bor (List Token)) → Type 0
Skips R ts r = MatchOption r (Fails R ts) (λ rest. R ts tt rest.now)

-- the tokens begin with a form of R
abbrev pub Begins : {V : Type 0} → Production V → List Token → Type 0
Begins R ts = (v : _) × (rest : List Token) × R ts v rest

-- a reader that lets the value go
abbrev pub Passes : {V : Type 0} → Production V → List Token → Option (Bor (List Token)) → Type 0
Passes R ts (Some rest) = (v : _) × R ts v rest.now
Passes R ts None = Fails R ts

-- the same of a list, whose forms are counted
abbrev pub Counts : {V : Type 0} → Production (List V) → List Token → Option (ℕ × Bor (List Token)) → Type 0
Counts R ts (Some x) = (vs : List _) × R ts vs x.1.now × (length vs ≡ x.0)
Counts R ts None = Fails R ts
