-- What is found of a clause, from the end of propagation.
use Rattle.std.proofs.Common.{◌≡◌, ℕ, ◌≤◌, ◌+◌, List, [], ◌++◌, inl, inr, Bool, length, get_or, sym, ap, ◌∙◌, subst, arith}
use Rattle.std.specs.List.{Contains, All}
use Rattle.std.proofs.lemmas.List.Elements.{All-contains}
use Rattle.std.proofs.Math.Seq.{get_or-append-add}
use Rattle.rup_check.specs.Assignments.{flipped, IsAssignment}
use Rattle.rup_check.specs.Sets.{IsBegun, IsAnswer}
use Rattle.rup_check.specs.Watches.{IsCoveredBySome}
use Rattle.rup_check.specs.Found.{is_good, HasFalseAt, IsFoundAt, IsFound}
use Rattle.rup_check.specs.declared.propagation.Found.{Found}
use Rattle.rup_check.specs.declared.propagation.Found.TheVariants as found
use Rattle.rup_check.proofs.PropagationLaws.{contains_map}

-- a clause that is false by the start covers the one whose negation the start is
covered_of_false : (formula : List (List ℕ)) (before marks : List Bool) (trail clause : List ℕ) → All (λ x. x ≤ 8191) clause → IsAssignment before trail → IsBegun before clause marks → HasFalseAt formula marks → IsCoveredBySome formula trail clause
covered_of_false formula before marks trail clause small a b f = record {
  by = f.number;
  earlier = f.in_range;
  covers = λ x m. (elim (b.only (flipped x) (f.is_false x m)) [
    | inr old ↦ inr (a.listed (flipped x) old)
    | inl h ↦ (let r = contains_map flipped clause (flipped x) h in
        let y_small : r.0 ≤ 8191 = All-contains (λ y. y ≤ 8191) clause r.0 small r.1 in
        let x_small : x ≤ 8191 = All-contains (λ y. y ≤ 8191) (get_or formula f.number []) x f.small m in
        let e : flipped r.0 ≡ flipped x = r.2 in
        let same : r.0 ≡ x = omega (arith, e) in
        inl (subst (λ z. Contains clause z) same r.1))
  ]);
}

-- the same marks, by the trail
pub false_again : (formula : List (List ℕ)) (marks begun : List Bool) (trail trail' : List ℕ) → IsAssignment marks trail → IsAssignment begun trail' → trail ≡ trail' → HasFalseAt formula marks → HasFalseAt formula begun
false_again formula marks begun trail trail' a b e f = record {
  number = f.number;
  in_range = f.in_range;
  small = f.small;
  is_false = λ x m. b.marked (flipped x) (subst (λ z. Contains z (flipped x)) e (a.listed (flipped x) (f.is_false x m)));
}

-- the answer of propagation, and what is still false after it
pub found_answer : (formula : List (List ℕ)) (before begun marks : List Bool) (trail begun_trail marks_trail clause : List ℕ) (conflict : Bool) (f : Found) → All (λ x. x ≤ 8191) clause → IsAssignment before trail → IsAssignment begun begun_trail → IsAssignment marks marks_trail → marks_trail ≡ begun_trail → IsBegun before clause begun → IsAnswer formula clause conflict → IsFoundAt formula marks conflict f → IsFound formula trail clause f
found_answer formula before begun marks trail bt mt clause conflict found.Lacks small a b m e start answer at = subst (λ z. IsAnswer formula clause z) at answer
found_answer formula before begun marks trail bt mt clause conflict found.Has small a b m e start answer at = subst (λ z. IsAnswer formula clause z) at answer
found_answer formula before begun marks trail bt mt clause conflict found.Covered small a b m e start answer at =
    (subst (λ z. IsAnswer formula clause z) at.0 answer, covered_of_false formula before begun trail clause small a start (false_again formula marks begun mt bt m b e at.1))

-- whether the clause has the property
pub answer_of_found : (formula : List (List ℕ)) (units clause : List ℕ) (f : Found) → IsFound formula units clause f → IsAnswer formula clause (is_good f)
answer_of_found formula units clause found.Lacks h = h
answer_of_found formula units clause found.Has h = h
answer_of_found formula units clause found.Covered h = h.0

-- a clause of the proof among all clauses
pub next_clause : (formula proof : List (List ℕ)) (first n : ℕ) → first ≡ length formula → get_or proof n [] ≡ get_or (formula ++ proof) (first + n) []
next_clause formula proof first n e = sym (ap (λ z. get_or (formula ++ proof) (z + n) []) e ∙ get_or-append-add formula proof n [])
