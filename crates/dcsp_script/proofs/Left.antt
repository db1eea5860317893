-- Scripts that are made bit by bit.
use Rattle.std.proofs.Common.{◌≡◌, ℕ, ◌+◌, ◌<◌, ◌≤◌, List, [], ◌∷◌, ◌++◌, length, get_or, drop, Result, Ok, Err, refl, sym, ap, subst, ◌∙◌, append_assoc, drop-cons, add-one}
use Rattle.std.specs.Prelude.{IsErr, IsErrAnd, flat_map}
use Rattle.std.proofs.lemmas.List.{drop_all}
use Rattle.dcsp_script.specs.declared.stop.Stop.{Stop}
use Rattle.dcsp_script.specs.Scripts.{Write, World}
use Rattle.dcsp_script.specs.Ways.{Ended, Wrote}
use Rattle.dcsp_script.specs.Left.{HasLeft}
use Rattle.dcsp_script.proofs.Ways.{did_nothing, did_both, then_ended, stop_ended}

-- all is left
pub left_all : (script : List Write) (a : World) → HasLeft script script a a
left_all script a = record { made = []; is_script = refl; did = did_nothing a; handed = refl }

-- the first of what is left was made
pub left_more : {T : Type 0} {script first rest : List Write} {a b c : World} {x : T} (is : List Write) → is ≡ first ++ rest → HasLeft script is a b → Wrote {T = T} first b c (Ok x) → HasLeft script rest a c
left_more {script = script} {first = first} {rest = rest} {a = a} {b = b} {c = c} is e h w = record {
  made = h.made ++ first;
  is_script = append_assoc h.made first rest ∙ ap (λ l. h.made ++ l) (sym e) ∙ h.is_script;
  did = did_both h.made first a b c h.did w.ended;
  handed = w.handed ∙ h.handed;
}

-- what is left came to this
pub left_wrote : {T : Type 0} {script rest : List Write} {a b c : World} {r : Result T Stop} → HasLeft script rest a b → Wrote rest b c r → Wrote script a c r
left_wrote {T = T} {script = script} {rest = rest} {a = a} {b = b} {c = c} {r = r} h w = record { ended = subst (λ s. Ended s a c r) h.is_script (then_ended h.made rest a b c r h.did w.ended); handed = w.handed ∙ h.handed }

-- the first of what is left was stopped
pub left_stopped : {T U : Type 0} {script first : List Write} {a b c : World} {e : Stop} (rest is : List Write) (r : Result U Stop) → is ≡ first ++ rest → IsErr r × IsErrAnd r (λ y. y ≡ e) → HasLeft script is a b → Wrote {T = T} first b c (Err e) → Wrote script a c r
left_stopped {T = T} {U = U} {script = script} {first = first} {a = a} {b = b} {c = c} {e = e} rest is (Ok x) same err h w = absurd (let no = err.0 in cc)
left_stopped {T = T} {U = U} {script = script} {first = first} {a = a} {b = b} {c = c} {e = e} rest is (Err y) same err h w =
    rw err.1 (left_wrote h (record { ended = subst (λ s. Ended {T = U} s b c (Err e)) (sym same) (stop_ended T U first rest b c e w.ended); handed = w.handed }))

-- what is left is this script, and it came to this
pub left_ends : {T : Type 0} {script rest : List Write} {a b c : World} {r : Result T Stop} (is : List Write) → is ≡ rest → HasLeft script is a b → Wrote rest b c r → Wrote script a c r
left_ends {T = T} {script = script} {rest = rest} {a = a} {b = b} {c = c} {r = r} is e h w = left_wrote (subst (λ s. HasLeft script s a b) e h) w

-- what a loop over items has left before the item at `i`: that item's writes, and those of the later ones
pub turns_left : {A : Type 0} (f : A → List Write) (xs : List A) (i : ℕ) (x : A) (rest : List Write) → i < length xs → x ≡ get_or xs i x → flat_map f (drop i xs) ++ rest ≡ f x ++ (flat_map f (drop (i + 1) xs) ++ rest)
turns_left f xs i x rest below is =
    ap (λ l. flat_map f l ++ rest) (drop-cons xs i x below ∙ ap (λ n. get_or xs i x ∷ drop n xs) (sym (add-one i))) ∙ append_assoc (f (get_or xs i x)) (flat_map f (drop (i + 1) xs)) rest ∙ ap (λ y. f y ++ (flat_map f (drop (i + 1) xs) ++ rest)) (sym is)

-- a loop over items that is done has nothing of them left
pub turns_done : {A : Type 0} (f : A → List Write) (xs : List A) (i : ℕ) (rest : List Write) → length xs ≤ i → flat_map f (drop i xs) ++ rest ≡ rest
turns_done f xs i rest l = ap (λ ys. flat_map f ys ++ rest) (drop_all i xs l)
