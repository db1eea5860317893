-- Lists whose items are changed one by one.
use Rattle.std.proofs.Common.{◌≡◌, ℕ, zero, suc, ◌<◌, List, [], ◌∷◌, ◌++◌, map, length, take, slice_get, get_or, Some, refl, sym, ap, inl, inr, arith, Option, None}
use Rattle.std.specs.Prelude.{All, IfSome}
use Rattle.std.specs.List.{AllZip}
use Rattle.std.specs.Option.{option_to_list}
use Rattle.dcsp_defs.specs.Words.{In}

pub map_item : {X Y : Type 0} → (f : X → Y) (xs : List X) (k : ℕ) (d : Y) (e : X) → k < length xs → get_or (map f xs) k d ≡ f (get_or xs k e)
map_item f [] k d e l = absurd (omega arith)
map_item f (x ∷ xs) zero d e l = refl
map_item f (x ∷ xs) (suc k) d e l = map_item f xs k d e (omega arith)

-- an item of the changed list is a changed item
pub map_get : {X Y : Type 0} → (f : X → Y) (xs : List X) (k : ℕ) (y : Y) → slice_get (map f xs) k ≡ Some y → (x : X) × (slice_get xs k ≡ Some x) × (f x ≡ y)
map_get f [] k y e = cc
map_get f (x ∷ xs) zero y e = let same : f x ≡ y = cc in (x, refl, same)
map_get f (x ∷ xs) (suc k) y e = map_get f xs k y e

pub get_map : {X Y : Type 0} → (f : X → Y) (xs : List X) (k : ℕ) (x : X) → slice_get xs k ≡ Some x → slice_get (map f xs) k ≡ Some (f x)
get_map f [] k x e = cc
get_map f (y ∷ xs) zero x e = let same : y ≡ x = cc in ap (λ z. Some (f z)) same
get_map f (y ∷ xs) (suc k) x e = get_map f xs k x e

pub from_map : {X Y : Type 0} → (f : X → Y) (y : Y) (xs : List X) → In y (map f xs) → (x : X) × In x xs × (f x ≡ y)
from_map f y [] i = absurd i
from_map f y (x ∷ xs) (inl e) = (x, inl refl, sym e)
from_map f y (x ∷ xs) (inr i) = let r = from_map f y xs i in (r.0, inr r.1, r.2)

pub all_zip : {X Y : Type 0} → (P Q : X → Y → Type 0) → ((x : X) (y : Y) → P x y → Q x y) → (xs : List X) (ys : List Y) → AllZip P xs ys → AllZip Q xs ys
all_zip P Q each [] [] h = h
all_zip P Q each [] (y ∷ ys) h = h
all_zip P Q each (x ∷ xs) [] h = h
all_zip P Q each (x ∷ xs) (y ∷ ys) h = (each x y h.0, all_zip P Q each xs ys h.1)

-- the changed first items, with one more
pub map_more : {X Y : Type 0} → (f : X → Y) (xs : List X) (k : ℕ) (x : X) → slice_get xs k ≡ Some x → map f (take (suc k) xs) ≡ map f (take k xs) ++ f x ∷ []
map_more f [] k x e = cc
map_more f (y ∷ xs) zero x e = let same : y ≡ x = cc in ap (λ z. f z ∷ []) same
map_more f (y ∷ xs) (suc k) x e = ap (λ z. f y ∷ z) (map_more f xs k x e)

pub item_of : {X : Type 0} → (xs : List X) (k : ℕ) (d : X) → k < length xs → In (get_or xs k d) xs
item_of [] k d l = absurd (omega arith)
item_of (x ∷ xs) zero d l = inl refl
item_of (x ∷ xs) (suc k) d l = inr (item_of xs k d (omega arith))

-- what holds of each item holds of all
pub all_of : {X : Type 0} → (P : X → Type 0) (xs : List X) → ((x : X) → In x xs → P x) → All P xs
all_of P xs each k d l = each (get_or xs k d) (item_of xs k d l)

pub some_of : {X : Type 0} → (P : X → Type 0) (o : Option X) → ((x : X) → In x (option_to_list o) → P x) → IfSome o P
some_of P None each = tt
some_of P (Some x) each = each x (inl refl)
