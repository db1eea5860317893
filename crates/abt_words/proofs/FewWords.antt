-- Lists of a few words.
use Rattle.std.proofs.Common.{◌≡◌, ℕ, ◌-◌, ◌<◌, ◌≤◌, Bool, true, not, List, [], ◌∷◌, map, take, drop, length, get_or, Option, Some, None, Bor, Ok, Result, refl, arith}
use Rattle.std.proofs.lemmas.List.{take_all}
use Rattle.std.specs.Prelude.{IfSome, is_some, option_copied}

-- a list of one item is this, and so with two, three and four
pub one : {X Y : Type 0} (f : X → Y) (xs : List X) (a : X) → 1 ≤ length xs → length xs < 2 → a ≡ get_or xs 0 a → map f xs ≡ f a ∷ []
one f [] a l m h = absurd (omega arith)
one f (x ∷ []) a l m h = rw h refl
one f (x ∷ y ∷ more) a l m h = absurd (omega arith)

pub two : {X Y : Type 0} (f : X → Y) (xs : List X) (a b : X) → 2 ≤ length xs → length xs < 3 → a ≡ get_or xs 0 a → b ≡ get_or xs 1 b → map f xs ≡ f a ∷ f b ∷ []
two f [] a b l m h j = absurd (omega arith)
two f (x ∷ []) a b l m h j = absurd (omega arith)
two f (x ∷ y ∷ []) a b l m h j = rw (h, j) refl
two f (x ∷ y ∷ z ∷ more) a b l m h j = absurd (omega arith)

pub four : {X Y : Type 0} (f : X → Y) (xs : List X) (a b c d : X) → 4 ≤ length xs → length xs < 5 → a ≡ get_or xs 0 a → b ≡ get_or xs 1 b → c ≡ get_or xs 2 c → d ≡ get_or xs 3 d → map f xs ≡ f a ∷ f b ∷ f c ∷ f d ∷ []
four f [] a b c d l m h i j k = absurd (omega arith)
four f (x ∷ []) a b c d l m h i j k = absurd (omega arith)
four f (x ∷ y ∷ []) a b c d l m h i j k = absurd (omega arith)
four f (x ∷ y ∷ z ∷ []) a b c d l m h i j k = absurd (omega arith)
four f (x ∷ y ∷ z ∷ w ∷ []) a b c d l m h i j k = rw (h, i, j, k) refl
four f (x ∷ y ∷ z ∷ w ∷ v ∷ more) a b c d l m h i j k = absurd (omega arith)

-- an empty list, and one that begins with these
pub empty : {X Y : Type 0} (f : X → Y) (xs : List X) → length xs < 1 → map f xs ≡ []
empty f [] l = refl
empty f (x ∷ xs) l = absurd (omega arith)

-- what is left of a list behind a place
abbrev pub behind : {X : Type 0} → ℕ → List X → List X
behind n xs = take (length xs - n) (drop n xs)

pub begins : {X Y : Type 0} (f : X → Y) (xs : List X) (a : X) → 1 ≤ length xs → a ≡ get_or xs 0 a → map f xs ≡ f a ∷ map f (behind 1 xs)
begins f [] a l h = absurd (omega arith)
begins f (x ∷ xs) a l h = rw (h, take_all (length (x ∷ xs) - 1) xs (omega arith)) refl

-- the first item is there, whatever stands for none
pub first_read : {X : Type 0} (xs : List X) (d : X) → 1 ≤ length xs → get_or xs 0 d ≡ get_or xs 0 (get_or xs 0 d)
first_read [] d l = absurd (omega arith)
first_read (x ∷ xs) d l = refl

pub begins_two : {X Y : Type 0} (f : X → Y) (xs : List X) (a b : X) → 2 ≤ length xs → a ≡ get_or xs 0 a → b ≡ get_or xs 1 b → map f xs ≡ f a ∷ f b ∷ map f (behind 2 xs)
begins_two f [] a b l h k = absurd (omega arith)
begins_two f (x ∷ []) a b l h k = absurd (omega arith)
begins_two f (x ∷ y ∷ xs) a b l h k = rw (h, k, take_all (length (x ∷ y ∷ xs) - 2) xs (omega arith)) refl

-- ---- answers that are there or not

pub if_some : {T : Type 0} {P Q : T → Type 0} (o : Option T) → ((x : T) → P x → Q x) → IfSome o P → IfSome o Q
if_some None to h = tt
if_some (Some x) to h = to x h

pub nothing_there : {T : Type 0} (o : Option T) (b : Bool) → is_some o ≡ not b → b ≡ true → o ≡ None
nothing_there None b e h = refl
nothing_there (Some x) b e h = absurd cc

pub none_copied : {T : Type 0} (o : Option (Bor T)) (b : Bool) → is_some o ≡ not b → b ≡ true → option_copied o ≡ None
none_copied None b e h = refl
none_copied (Some x) b e h = absurd cc

pub that_number : {E : Type 0} (m n : ℕ) → ◌≡◌ {A = Result ℕ E} (Ok m) (Ok n) → m ≡ n
that_number m n h = cc
