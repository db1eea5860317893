-- Two lists side by side, and membership.
use Rattle.std.proofs.Common.{◌≡◌, ℕ, zero, suc, ◌+◌, ◌<◌, ◌≤◌, List, [], ◌∷◌, ◌++◌, length, get_or, take, inl, inr, refl, sym, ap, subst, arith}
use Rattle.std.specs.Prelude.{All}
use Rattle.std.specs.List.{AllZip}
use Rattle.std.proofs.lemmas.List.Elements.{All-head, All-tail, All-cons, All-nil}
use Rattle.std.proofs.lemmas.List.{take_more, take_all}
use Rattle.dcsp_defs.specs.Words.{In}

-- a fact of each element, by membership
pub all_in : {X : Type 0} (P : X → Type 0) (xs : List X) → All P xs → (x : X) → In x xs → P x
all_in P [] h x u = absurd u
all_in P (y ∷ ys) h x (inl e) = subst P (sym e) (All-head P y ys h)
all_in P (y ∷ ys) h x (inr u) = all_in P ys (All-tail P y ys h) x u

pub in_all : {X : Type 0} (P : X → Type 0) (xs : List X) → ((x : X) → In x xs → P x) → All P xs
in_all P [] h = All-nil P
in_all P (y ∷ ys) h = All-cons P y ys (h y (inl refl)) (in_all P ys (λ x u. h x (inr u)))

module _ {A B : Type 0} (R : A → B → Type 0) where
  pub zip_length : (xs : List A) (ys : List B) → AllZip R xs ys → length ys ≡ length xs
  zip_length [] [] h = refl
  zip_length [] (y ∷ ys) h = absurd h
  zip_length (x ∷ xs) [] h = absurd h
  zip_length (x ∷ xs) (y ∷ ys) h = ap suc (zip_length xs ys h.1)

  pub zip_at : (xs : List A) (ys : List B) (k : ℕ) (a : A) (b : B) → AllZip R xs ys → k < length xs → R (get_or xs k a) (get_or ys k b)
  zip_at [] ys k a b h l = absurd (omega arith)
  zip_at (x ∷ xs) [] k a b h l = absurd h
  zip_at (x ∷ xs) (y ∷ ys) zero a b h l = h.0
  zip_at (x ∷ xs) (y ∷ ys) (suc k) a b h l = zip_at xs ys k a b h.1 (omega arith)

  zip_push : (xs : List A) (ys : List B) (x : A) (y : B) → AllZip R xs ys → R x y → AllZip R (xs ++ x ∷ []) (ys ++ y ∷ [])
  zip_push [] [] x y h r = (r, tt)
  zip_push [] (z ∷ ys) x y h r = absurd h
  zip_push (z ∷ xs) [] x y h r = absurd h
  zip_push (z ∷ xs) (w ∷ ys) x y h r = (h.0, zip_push xs ys x y h.1 r)

  -- one place further on
  pub zip_more : (xs : List A) (ys : List B) (k : ℕ) (a : A) (b : B) → k < length xs → k < length ys → AllZip R (take k xs) (take k ys) → R (get_or xs k a) (get_or ys k b) → AllZip R (take (k + 1) xs) (take (k + 1) ys)
  zip_more xs ys k a b l m h r = rw (take_more xs k a l, take_more ys k b m) (zip_push (take k xs) (take k ys) (get_or xs k a) (get_or ys k b) h r)

  pub zip_whole : (xs : List A) (ys : List B) (k : ℕ) → length xs ≤ k → length ys ≤ k → AllZip R (take k xs) (take k ys) → AllZip R xs ys
  zip_whole xs ys k l m h = rw (take_all k xs l, take_all k ys m) at h
