-- Items without predicates are taken as with them.
use Rattle.std.proofs.Common.{ℕ, Bool, true, false, List, [], ◌∷◌, Result, Ok, refl}
use Rattle.fzn_item.specs.declared.item.Item.{Item}
use Rattle.fzn_item.specs.declared.item.Item.TheVariants as item
use Rattle.fzn_token.specs.declared.refusal.Refusal.{Refusal}
use Rattle.fzn_token.specs.declared.refusal.Refusal.TheVariants as refusal
use Rattle.fzn_scope.specs.Checks.{◌>>=◌, refused_if}
use Rattle.fzn_model.specs.Declarations.{SoFar, is_late}
use Rattle.fzn_model.specs.Items.{start, predicate, after, after_all, finished, resolved}
use Rattle.law_inputs.specs.Predicates.{without_predicates, PredicatesAreIgnored}
use Rattle.law_inputs.proofs.Keeping.{Keeps, kept_value, keeps_itself, keeps_bind}

-- what is kept after a check that changes nothing
skipped : (late : Bool) (e : Refusal) (s : SoFar) (f : SoFar → Result SoFar Refusal) (y : Result SoFar Refusal) → Keeps (f s) y → Keeps ((refused_if late e >>= (λ _. Ok s)) >>= f) y
skipped true e s f y h = tt
skipped false e s f y h = h

pub skips_predicate : (s : SoFar) (at : ℕ) (f : SoFar → Result SoFar Refusal) (y : Result SoFar Refusal) → Keeps (f s) y → Keeps (predicate s at >>= f) y
unfolding predicate
skips_predicate s at f y h = skipped (is_late s) (refusal.Misplaced at) s f y h

-- an item that is kept
taken : (text : List ℕ) (s : SoFar) (i : Item) (is js : List Item) → ((t : SoFar) → Keeps (after_all text t is) (after_all text t js)) → Keeps (after_all text s (i ∷ is)) (after_all text s (i ∷ js))
taken text s i is js h = keeps_bind (after text s i) (after text s i) _ _ (keeps_itself (after text s i)) h

all_skipped : (text : List ℕ) (s : SoFar) (is : List Item) → Keeps (after_all text s is) (after_all text s (without_predicates is))
all_skipped text s [] = refl
all_skipped text s (item.Predicate at ∷ is) = skips_predicate s at (λ next. after_all text next is) (after_all text s (without_predicates is)) (all_skipped text s is)
all_skipped text s (item.Declare at isvar index type name_at name_to marked right ∷ is) = taken text s (item.Declare at isvar index type name_at name_to marked right) is (without_predicates is) (λ t. all_skipped text t is)
all_skipped text s (item.Constraint at name_at name_to arguments ∷ is) = taken text s (item.Constraint at name_at name_to arguments) is (without_predicates is) (λ t. all_skipped text t is)
all_skipped text s (item.Solve at goal ∷ is) = taken text s (item.Solve at goal) is (without_predicates is) (λ t. all_skipped text t is)

pub predicates_are_ignored : PredicatesAreIgnored
unfolding resolved
predicates_are_ignored text is p e = kept_value (resolved text is) (resolved text (without_predicates is)) p (keeps_bind (after_all text start is) (after_all text start (without_predicates is)) finished finished (all_skipped text start is) (λ s. keeps_itself (finished s))) e
