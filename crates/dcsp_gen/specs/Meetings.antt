-- Meeting scheduling: people with calendars of their own agree on hours, and each of them keeps a copy of each of its
-- meetings. People, meetings and hours are numbers from 1 on.
use Rattle.std.specs.Prelude.{ℕ, ◌*◌, Bool, true, false, ◌&&◌, ◌==◌, nat_le, nat_lt, List, [], ◌∷◌, ◌++◌, flat_map, filter, codes, decimal, length}
use Rattle.std.specs.List.{concat, range_with_len, list_any}
use Rattle.dcsp_gen.specs.Lines.{solve_line}
use Rattle.dcsp_gen.specs.Lists.{list_of, pairs_in, neighbours, domain}
use Rattle.dcsp_gen.specs.Selection.{selections, words_after}

-- var {HOURS}: mMEETINGpPERSON :: output_var;
abbrev pub copy_line : List (List ℕ) → ℕ → ℕ → List ℕ
copy_line free meeting person = domain (list_of free person) ++ concat (codes ": m" ∷ decimal meeting ∷ codes "p" ∷ decimal person ∷ codes " :: output_var;\n" ∷ [])

-- the copies of a meeting, in the order of its people
abbrev pub copy_lines : List (List ℕ) → List (List ℕ) → ℕ → List ℕ
copy_lines free groups meeting = flat_map (copy_line free meeting) (list_of groups meeting)

-- the copies of so many meetings, from the first one on
abbrev pub first_copies : List (List ℕ) → List (List ℕ) → ℕ → List ℕ
first_copies free groups count = flat_map (copy_lines free groups) (range_with_len 1 count)

-- constraint int_eq(mMEETINGpFIRST,mMEETINGpSECOND);
abbrev pub tie_line : ℕ → ℕ × ℕ → List ℕ
tie_line meeting (first, second) = concat (
    codes "constraint int_eq(m" ∷ decimal meeting ∷ codes "p" ∷ decimal first ∷ codes ",m" ∷ decimal meeting ∷ codes "p" ∷ decimal second ∷ codes ");\n" ∷ [])

-- each copy of a meeting is equal to the next one
abbrev pub tie_lines : List (List ℕ) → ℕ → List ℕ
tie_lines groups meeting = flat_map (tie_line meeting) (neighbours (list_of groups meeting))

-- constraint int_ne(mFIRSTpPERSON,mSECONDpPERSON);
abbrev pub clash_line : ℕ → ℕ × ℕ → List ℕ
clash_line person (first, second) = concat (
    codes "constraint int_ne(m" ∷ decimal first ∷ codes "p" ∷ decimal person ∷ codes ",m" ∷ decimal second ∷ codes "p" ∷ decimal person ∷ codes ");\n" ∷ [])

-- whether a person is in a meeting
abbrev pub attends : List (List ℕ) → ℕ → ℕ → Bool
attends groups person meeting = list_any (λ other. other == person) (list_of groups meeting)

-- the meetings of a person, in rising order
abbrev pub meetings_of : List (List ℕ) → ℕ → List ℕ
meetings_of groups person = filter (attends groups person) (range_with_len 1 (length groups))

-- no two meetings of a person are at one hour
abbrev pub clash_lines : List (List ℕ) → ℕ → List ℕ
clash_lines groups person = flat_map (clash_line person) (pairs_in (meetings_of groups person))

-- the problem of these people, each with its free hours, and these meetings, each with its people
abbrev pub agenda : List (List ℕ) → List (List ℕ) → List ℕ
agenda free groups =
    let meetings = range_with_len 1 (length groups) in
    flat_map (copy_lines free groups) meetings ++ flat_map (tie_lines groups) meetings
    ++ flat_map (clash_lines groups) (range_with_len 1 (length free)) ++ solve_line

-- so many people, busy at so many of the hours, and so many meetings of so many people each
abbrev pub meetings_text : (people meetings each hours busy : ℕ) → (ℕ → ℕ) → List ℕ
meetings_text people meetings each hours busy words =
    agenda (selections false words busy hours people) (selections true (words_after (people * hours) words) each people meetings)

-- a meeting has at most all people, and each person has a free hour
abbrev pub meetings_fit : (people each hours busy : ℕ) → Bool
meetings_fit people each hours busy = nat_le each people && nat_lt busy hours
