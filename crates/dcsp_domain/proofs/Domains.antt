-- Lists that are domains, as the code makes them.
use Rattle.std.proofs.Common.{◌≡◌, ℕ, suc, ◌≤◌, Bool, true, false, List, [], ◌∷◌, length, ap, ◌∙◌, arith, rules}
use Rattle.std.specs.Prelude.{ℤ, IsPermutation, cond, filter}
use Rattle.std.specs.List.{dedup}
use Rattle.std.specs.List.Retain.{IsFiltered, DiffersFromLast}
use Rattle.std.specs.List.Sorted.{IsSorted}
use Rattle.std.specs.Ordering.{int_eq, int_cmp}
use Rattle.std.proofs.lemmas.Bool.Decides.{Decides-int_eq}
use Rattle.std.proofs.lemmas.Cmp.{int_cmp_total, int_eq_equiv}
use Rattle.std.proofs.lemmas.List.Filters.{dedup_is}
use Rattle.std.proofs.lemmas.List.Kept.{IsStrictlySortedBy-dedup, Contains-dedup, Contains-from_dedup}
use Rattle.std.proofs.lemmas.List.Sorted.{Contains-permutation, IsPermutation-sym}
use Rattle.dcsp_domain.specs.declared.TheConstants.{MOST_VALUES}
use Rattle.dcsp_domain.specs.Sets.{IsDomain, IsSetOf, set_of}
use Rattle.dcsp_domain.specs.Ranges.{numbers_from}
use Rattle.dcsp_domain.proofs.Rising.{has_same, rises_from_rising, rises_filter, rising_from_rises}
use Rattle.dcsp_domain.proofs.SetLaws.{set_of_is_set, one_set}
use Rattle.dcsp_domain.proofs.RangeLaws.{rising-numbers_from, length-numbers_from}
use Rattle.dcsp_domain.proofs.Searches.{rising_from_sorted}

-- what is left of sorted values without repeats is their set
dedup_is_set : (values sorted : List ℤ) → IsPermutation values sorted → IsSorted int_cmp sorted → IsSetOf values (dedup int_eq sorted)
dedup_is_set values sorted moved up = record {
  rising = rising_from_sorted _ (IsStrictlySortedBy-dedup int_cmp_total (λ x y. search rules) sorted up);
  members = λ v. has_same _ _ v
      (λ c. Contains-permutation _ _ v (IsPermutation-sym _ _ moved) (Contains-from_dedup int_eq sorted v c))
      (λ c. Contains-dedup int_eq_equiv (λ x y e. (Decides-int_eq x y).0 e) sorted v (Contains-permutation _ _ v moved c));
}

pub sorted_set_is : (values sorted left : List ℤ) → IsPermutation values sorted → IsSorted int_cmp sorted → IsFiltered (DiffersFromLast int_eq) [] sorted left → left ≡ set_of values
sorted_set_is values sorted left moved up kept =
    dedup_is int_eq sorted left kept ∙ one_set values (dedup int_eq sorted) (set_of values) (dedup_is_set values sorted moved up) (set_of_is_set values)

pub domain_of_set : (values list : List ℤ) → list ≡ set_of values → length list ≤ MOST_VALUES → IsDomain list
domain_of_set values list is small = record { rising = rw is (set_of_is_set values).rising; small = small }

pub domain_of_range : (low : ℤ) (n : ℕ) (list : List ℤ) → list ≡ numbers_from low n → n ≤ MOST_VALUES → IsDomain list
domain_of_range low n list is few = record {
  rising = rw is (rising-numbers_from low n);
  small = let size = length-numbers_from low n in let same = ap length is in omega arith;
}

pub length_filter : (p : ℤ → Bool) (xs : List ℤ) → length (filter p xs) ≤ length xs
length_filter p [] = omega arith
length_filter p (x ∷ xs) = kept (p x) (length_filter p xs) where
  kept : (b : Bool) → length (filter p xs) ≤ length xs → length (cond b (x ∷ filter p xs) (filter p xs)) ≤ suc (length xs)
  kept true few = omega arith
  kept false few = omega arith

-- those of a domain's values that pass a test
pub domain_of_filter : (p : ℤ → Bool) (values list : List ℤ) → list ≡ filter p values → IsDomain values → IsDomain list
domain_of_filter p values list is of = record {
  rising = rw is (rising_from_rises (filter p values) (rises_filter p values (rises_from_rising values of.rising)));
  small = let few = length_filter p values in let same = ap length is in let most = of.small in omega arith;
}
