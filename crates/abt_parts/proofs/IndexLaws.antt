-- The index after a change of the items.
use Rattle.std.proofs.Common.{◌≡◌, ℕ, ◌+◌, ◌≤◌, Bool, true, false, cond, List, [], ◌∷◌, ◌++◌, length, filter, take, drop, ℤ, Option, Some, None, refl, sym, ap, ◌∙◌, arith, subst}
use Rattle.std.specs.List.{count_by, list_all}
use Rattle.std.proofs.lemmas.List.{length-take, length-take-le, take-append-drop, take_at}
use Rattle.std.proofs.lemmas.List.Elements.{filter-append}
use Rattle.std.specs.Option.{ForSome}
use Rattle.std.specs.Ordering.{int_eq}
use Rattle.std.proofs.lemmas.Bool.Decides.{Decides-int_eq}
use Rattle.dcsp_defs.specs.Words.{is_value}
use Rattle.abt_parts.specs.declared.recorded.Recorded.{Recorded}
use Rattle.abt_parts.specs.Stores.{lowest_value, is_against, is_ruled_out, place_against, IsOncePerValue, places_naming}
use Rattle.abt_parts.specs.Places.{Places, without_last}
use Rattle.abt_parts.specs.Index.{list_of, HaveRoomFrom, IsIndexed}
use Rattle.abt_parts.proofs.Counts.{count_by-cons, count_by-append, count_by-filter, filter_all, none_passed}
use Rattle.abt_parts.proofs.PlaceLaws.{names, with_place, places_push, length-places, unpushed}
use Rattle.abt_parts.proofs.PlacedLaws.{none_is, place_pushed, place_unpushed, some_place}

-- the same items and places
pub same_index : (items now : List Recorded) (places placed : ℤ → Option ℕ) (lists named : List Places) → IsIndexed items places lists
    → now ≡ items → ((v : ℤ) → placed v ≡ places v) → ((var : ℕ) → (list_of named var).items ≡ (list_of lists var).items) → IsIndexed now placed named
same_index items now places placed lists named index e f same = record {
  once = subst IsOncePerValue (sym e) index.once;
  placed = λ v. f v ∙ index.placed v ∙ ap (place_against v) (sym e);
  named = λ var. same var ∙ index.named var ∙ ap (λ z. places_naming z var) (sym e);
}

-- a value that no item's lowest pair has may be that of one more
once_more : (items : List Recorded) (x : Recorded) → IsOncePerValue items → ForSome (lowest_value x.nogood) (λ v. is_ruled_out v items ≡ false) → IsOncePerValue (items ++ x ∷ [])
once_more items x once free v = omega (arith, count_by-append (is_against v) items (x ∷ []), count_by-cons (is_against v) x [], bound (lowest_value x.nogood) free) where
  bound : (o : Option ℤ) → ForSome o (λ w. is_ruled_out w items ≡ false) → count_by (is_against v) items + cond (is_value o v) 1 0 ≤ 1
  bound None none = omega (arith, once v)
  bound (Some w) none = by_test (int_eq w v) refl where
    by_test : (b : Bool) → int_eq w v ≡ b → count_by (is_against v) items + cond b 1 0 ≤ 1
    by_test true t =
        let same : w ≡ v = (Decides-int_eq w v).0 t in
        omega (arith, none_passed (is_against v) items (ap (λ z. is_ruled_out z items) (sym same) ∙ none w refl))
    by_test false t = omega (arith, once v)

-- where no item is against the value of one more, that one alone is
against_alone : (items : List Recorded) (x : Recorded) (v : ℤ) → ForSome (lowest_value x.nogood) (λ w. is_ruled_out w items ≡ false) → is_against v x ≡ true → is_ruled_out v items ≡ false
against_alone items x v free t = by_value (lowest_value x.nogood) free t where
  by_value : (o : Option ℤ) → ForSome o (λ w. is_ruled_out w items ≡ false) → is_value o v ≡ true → is_ruled_out v items ≡ false
  by_value None none clash = absurd cc
  by_value (Some w) none same = ap (λ z. is_ruled_out z items) (sym ((Decides-int_eq w v).0 same)) ∙ none w refl

-- one item more, with its value and its places
pub more_index : (items now : List Recorded) (x : Recorded) (places placed : ℤ → Option ℕ) (lists named : List Places) → IsIndexed items places lists
    → now ≡ items ++ x ∷ []
    → ForSome (lowest_value x.nogood) (λ v. is_ruled_out v items ≡ false)
    → ((v : ℤ) → placed v ≡ cond (is_against v x) (Some (length items)) (places v))
    → ((var : ℕ) → (list_of named var).items ≡ with_place (names var x) (length items) (list_of lists var).items)
    → IsIndexed now placed named
more_index items now x places placed lists named index e free takes adds = record {
  once = subst IsOncePerValue (sym e) (once_more items x index.once free);
  placed = λ v.
      takes v ∙ ap (cond (is_against v x) (Some (length items))) (index.placed v)
      ∙ place_pushed (is_against v) items x (length items) refl (against_alone items x v free) ∙ ap (place_against v) (sym e);
  named = λ var.
      adds var ∙ ap (with_place (names var x) (length items)) (index.named var)
      ∙ sym (ap (λ z. places_naming z var) e ∙ places_push items x var (length items) refl);
}

-- one item less, without its value and its places
pub less_index : (items now : List Recorded) (x : Recorded) (places placed : ℤ → Option ℕ) (lists named : List Places) → IsIndexed items places lists
    → items ≡ now ++ x ∷ []
    → ((v : ℤ) → placed v ≡ cond (is_against v x) None (places v))
    → ((var : ℕ) → (list_of named var).items ≡ cond (names var x) (without_last (list_of lists var).items) (list_of lists var).items)
    → IsIndexed now placed named
less_index items now x places placed lists named index e takes drops =
    let all : IsIndexed (now ++ x ∷ []) places lists = subst (λ z. IsIndexed z places lists) e index in
    record {
      once = λ v. omega (arith, all.once v, count_by-append (is_against v) now (x ∷ []));
      placed = λ v. takes v ∙ ap (cond (is_against v x) None) (all.placed v) ∙ place_unpushed (is_against v) now x (all.once v);
      named = λ var.
          drops var
          ∙ ap (λ (l : List ℕ). cond (names var x) (without_last l) l) (all.named var ∙ places_push now x var (length now) refl)
          ∙ unpushed (names var x) (length now) (places_naming now var);
    }

-- a value that no item's lowest pair has is put in and taken out again
pub back_again : (items : List Recorded) (x : Recorded) (places : ℤ → Option ℕ) (k : ℕ) → ((v : ℤ) → places v ≡ place_against v items) → ForSome (lowest_value x.nogood) (λ v. is_ruled_out v items ≡ false)
    → (v : ℤ) → cond (is_against v x) None (cond (is_against v x) (Some k) (places v)) ≡ places v
back_again items x places k placed free v = by_test (is_against v x) refl where
  by_test : (b : Bool) → is_against v x ≡ b → cond b None (cond b (Some k) (places v)) ≡ places v
  by_test true t = sym (placed v ∙ none_is (place_against v items) (some_place (is_against v) 0 items ∙ against_alone items x v free t))
  by_test false f = refl

-- some of the items
pub fewer_once : (items : List Recorded) (q : Recorded → Bool) → IsOncePerValue items → IsOncePerValue (filter q items)
fewer_once items q once v = omega (arith, count_by-filter (is_against v) q items, once v)

pub fewer_length : (items : List Recorded) (q : Recorded → Bool) (var : ℕ) → length (places_naming (filter q items) var) ≤ length (places_naming items var)
fewer_length items q var = omega (arith, length-places (filter q items) var, length-places items var, count_by-filter (names var) q items)

-- the items before the first that is taken out stay
module _ (items : List Recorded) (q : Recorded → Bool) (first : ℕ) (within : first ≤ length items) (all : list_all q (take first items) ≡ true) where
  pub kept_first : take first (filter q items) ≡ take first items
  kept_first =
      ap (λ z. take first (filter q z)) (sym (take-append-drop first items)) ∙ ap (take first) (filter-append q (take first items) (drop first items))
      ∙ ap (λ z. take first (z ++ filter q (drop first items))) (filter_all q (take first items) all) ∙ take_at (take first items) (filter q (drop first items)) first (length-take-le first items within)

  pub kept_within : first ≤ length (filter q items)
  kept_within = omega (arith, length-take first (filter q items), ap length kept_first, length-take-le first items within)

  pub kept_room : (lists : List Places) → HaveRoomFrom first items lists → HaveRoomFrom first (filter q items) lists
  kept_room lists room var less =
      let fewer = fewer_length items q var in
      let before = ap (λ z. length (places_naming z var)) kept_first in
      omega (arith, fewer, room var (omega (arith, less, fewer, before)))
