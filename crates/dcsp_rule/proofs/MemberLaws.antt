-- A search that is answered by a place has found one.
use Rattle.std.proofs.Common.{◌≡◌, ℕ, refl}
use Rattle.std.specs.Prelude.{is_some, Result, Ok, Err}
use Rattle.std.specs.Result.{is_ok, result_ok}

pub ok_is_some : (r : Result ℕ ℕ) → is_ok r ≡ is_some (result_ok r)
ok_is_some (Ok place) = refl
ok_is_some (Err place) = refl
