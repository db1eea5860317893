-- The bytes that a line was handed, read after read.
use Rattle.std.proofs.Common.{◌≡◌, ℕ, List, [], ◌∷◌, ◌++◌, Option, Some, None, refl, sym, subst, append-nil}
use Rattle.dcsp_outside.specs.Handed.{Handed}
use Rattle.dcsp_outside.specs.Outside.{Place, bytes_of}
use Rattle.dcsp_script.specs.Promises.{IsHeld, TellOf, AreBytesOf, AreInputsOf, IsFetched, AreFetched, inputs_of}

-- they are those that the folder held, where it tells them
pub fetched_held : (old new : Place) (name bytes : List ℕ) → IsFetched old new name bytes → IsHeld old.held name bytes
fetched_held old new name bytes = by old.held
  where
    by : (files : Option (List ℕ → Option (List ℕ))) → AreBytesOf files old.handed new.handed name bytes → IsHeld files name bytes
    by None h = tt
    by (Some files) h = h

-- they tell of the bytes, and so do more of them
pub tell_both : (name bytes : List ℕ) (some more : List Handed) → TellOf name bytes some → TellOf name bytes more → TellOf name bytes (some ++ more)
tell_both name bytes [] more h k = k
tell_both name bytes (answer ∷ some) more h k = (h.0, h.1, tell_both name bytes some more h.2 k)

-- nothing was handed over: some bytes of a name
some_bytes : (files : Option (List ℕ → Option (List ℕ))) (handed : List Handed) (name : List ℕ) → (bytes : List ℕ) × AreBytesOf files handed handed name bytes
some_bytes None handed name = ([], ([], sym (append-nil handed), tt))
some_bytes (Some files) handed name = (bytes_of (files name), refl)

some_inputs : (files : Option (List ℕ → Option (List ℕ))) (handed : List Handed) (names : List (List ℕ)) → (inputs : List (List ℕ)) × AreInputsOf files handed handed names inputs
some_inputs files handed [] = ([], refl)
some_inputs files handed (name ∷ names) =
    let first = some_bytes files handed name in let more = some_inputs files handed names in (first.0 ∷ more.0, (handed, first.1, more.1))

-- where nothing was handed over, these may be the bytes of the names
pub unread_names : (old new : Place) (names : List (List ℕ)) → new.handed ≡ old.handed → (inputs : List (List ℕ)) × AreFetched old new names inputs
unread_names old new names same = let x = some_inputs old.held old.handed names in (x.0, subst (λ h. AreInputsOf old.held old.handed h names x.0) (sym same) x.1)

-- one name was read, and then the others
pub fetched_then : (old mid new : Place) (name : List ℕ) (names : List (List ℕ)) (bytes : List ℕ) (inputs : List (List ℕ)) → mid.held ≡ old.held → IsFetched old mid name bytes → AreFetched mid new names inputs → AreFetched old new (name ∷ names) (bytes ∷ inputs)
fetched_then old mid new name names bytes inputs same first rest = (mid.handed, first, subst (λ f. AreInputsOf f mid.handed new.handed names inputs) same rest)

told_inputs : (files : List ℕ → Option (List ℕ)) (old new : List Handed) (names inputs : List (List ℕ)) → AreInputsOf (Some files) old new names inputs → inputs ≡ inputs_of files names
told_inputs files old new [] [] h = refl
told_inputs files old new [] (x ∷ inputs) h = absurd h
told_inputs files old new (n ∷ names) [] h = absurd h
told_inputs files old new (n ∷ names) (x ∷ inputs) h = let e = h.1 in let f = told_inputs files h.0 new names inputs h.2 in cc

-- where the folder tells its files, they are the bytes under the names
pub fetched_told : (old new : Place) (files : List ℕ → Option (List ℕ)) (names inputs : List (List ℕ)) → old.held ≡ Some files → AreFetched old new names inputs → inputs ≡ inputs_of files names
fetched_told old new files names inputs told h = told_inputs files old.handed new.handed names inputs (subst (λ f. AreInputsOf f old.handed new.handed names inputs) told h)
