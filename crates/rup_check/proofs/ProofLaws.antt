-- Texts of proofs are read in one way.
use Rattle.std.proofs.Common.{◌≡◌, ℕ, ◌+◌, ◌^◌, ◌<◌, ◌≤◌, ◌⊎◌, inl, inr, List, [], ◌∷◌, ◌++◌, length, Option, Some, None, Result, Ok, Err, refl, sym, ap, ◌∙◌, subst, arith, append_assoc, length-append}
use Rattle.std.specs.Prelude.{ℤ, pos, negsuc, FitsSigned, codes, flat_map, IfOk, IfErr}
use Rattle.std.proofs.Common.{to_z, of_z, w32, suc}
use Rattle.std.proofs.lemmas.Int.{to_z-of_z}
use Rattle.std.specs.List.{AllByRecursion}
use Rattle.std.proofs.lemmas.List.{append-nil}
use Rattle.std.proofs.lemmas.List.Concat.{flat_map-cons}
use Rattle.std.proofs.lemmas.Grind.{flat_map-append}
use Rattle.rup_check.specs.Literals.{IsLiteral}
use Rattle.rup_check.specs.ProofText.{literal_text, clause_line, proof_text, IsClause, IsProofOf, BeginsWithClause, IsFirstBadLine, IsUnlessMemory, IsCause, IsNextClause}
use Rattle.rup_check.specs.Reading.{literal_at, after_byte, after_end}
use Rattle.rup_check.specs.declared.reader.ProofError.{ProofError}
use Rattle.rup_check.specs.declared.reader.ProofError.TheVariants.{Line, Memory}
use Rattle.dcsp_common.proofs.Chosen.{some_is}
use Rattle.rup_check.proofs.ReadingLaws.{literal_takes, literal_again, after_end_takes, after_end_again, end_no_literal}

pub all_push : {X : Type 0} (P : X → Type 0) (xs : List X) (x : X) → AllByRecursion P xs → P x → AllByRecursion P (xs ++ x ∷ [])
all_push P [] x h p = (p, tt)
all_push P (y ∷ xs) x h p = (h.0, all_push P xs x h.1 p)

flat_push : {X : Type 0} (f : X → List ℕ) (xs : List X) (x : X) (rest : List ℕ) → flat_map f (xs ++ x ∷ []) ++ rest ≡ flat_map f xs ++ (f x ++ rest)
flat_push f xs x rest =
    ap (λ w. w ++ rest) (flat_map-append f xs (x ∷ []) ∙ ap (λ w. flat_map f xs ++ w) (flat_map-cons f x [] ∙ append-nil (f x))) ∙ append_assoc (flat_map f xs) (f x) rest

flat_front : {X : Type 0} (f : X → List ℕ) (x : X) (xs : List X) (rest : List ℕ) → flat_map f (x ∷ xs) ++ rest ≡ f x ++ (flat_map f xs ++ rest)
flat_front f x xs rest = ap (λ w. w ++ rest) (flat_map-cons f x xs) ∙ append_assoc (f x) (flat_map f xs) rest

-- ---- one clause

pub literals_more : (clause new : List ℤ) (z : ℤ) (rest others : List ℕ) → IsClause clause → literal_at rest ≡ Some (z, others) → new ≡ clause ++ z ∷ [] → IsClause new
literals_more clause new z rest others h r e = subst IsClause (sym e) (all_push IsLiteral clause z h (literal_takes rest z others r).literal)

pub parts_more : (text rest others : List ℕ) (clause new : List ℤ) (z : ℤ) → text ≡ flat_map literal_text clause ++ rest → literal_at rest ≡ Some (z, others) → new ≡ clause ++ z ∷ [] → text ≡ flat_map literal_text new ++ others
parts_more text rest others clause new z t r e =
    t ∙ ap (λ w. flat_map literal_text clause ++ w) (literal_takes rest z others r).parts ∙ sym (flat_push literal_text clause z others) ∙ sym (ap (λ w. flat_map literal_text w ++ others) e)

pub next_clause : (text rest others : List ℕ) (clause : List ℤ) → IsClause clause → text ≡ flat_map literal_text clause ++ rest → after_end rest ≡ Some others → IsNextClause text clause others
next_clause text rest others clause h t r = record {
  literals = h;
  parts = t ∙ ap (λ w. flat_map literal_text clause ++ w) (after_end_takes rest others r) ∙ sym (append_assoc (flat_map literal_text clause) (codes "0\n") others);
}

-- the first literal of a line
line_front : (z : ℤ) (c : List ℤ) (tail : List ℕ) → clause_line (z ∷ c) ++ tail ≡ literal_text z ++ (clause_line c ++ tail)
line_front z c tail =
    append_assoc (flat_map literal_text (z ∷ c)) (codes "0\n") tail ∙ flat_front literal_text z c (codes "0\n" ++ tail) ∙ ap (λ w. literal_text z ++ w) (sym (append_assoc (flat_map literal_text c) (codes "0\n") tail))

line_read : (z : ℤ) (c : List ℤ) (tail : List ℕ) → IsLiteral z → literal_at (clause_line (z ∷ c) ++ tail) ≡ Some (z, clause_line c ++ tail)
line_read z c tail l = ap literal_at (line_front z c tail) ∙ literal_again z (clause_line c ++ tail) l

abbrev pub literal_there : ℤ → List ℕ → Option (ℤ × List ℕ)
literal_there z rest = Some (z, rest)

same_rest : (y z : ℤ) (a b : List ℕ) → Some (y, a) ≡ literal_there z b → a ≡ b
same_rest y z a b e = ap (λ (p : ℤ × List ℕ). p.1) (some_is (y, a) (z, b) e)

same_literal : (y z : ℤ) (a b : List ℕ) → Some (y, a) ≡ literal_there z b → y ≡ z
same_literal y z a b e = ap (λ (p : ℤ × List ℕ). p.0) (some_is (y, a) (z, b) e)

-- where neither a literal nor the end of a line is next there is no clause
no_clause_here : (read : List ℤ) (rest : List ℕ) → IsClause read → after_end rest ≡ None → literal_at rest ≡ None → (c : List ℤ) (tail : List ℕ) → IsClause c → flat_map literal_text read ++ rest ≡ clause_line c ++ tail → ⊥
no_clause_here [] rest h e l [] tail k parts = (let f : after_end rest ≡ Some tail = ap after_end parts ∙ after_end_again tail in let g : None ≡ Some tail = sym e ∙ f in cc)
no_clause_here [] rest h e l (z ∷ c) tail k parts = (let f : literal_at rest ≡ Some (z, clause_line c ++ tail) = ap literal_at parts ∙ line_read z c tail k.0 in let g : None ≡ Some (z, clause_line c ++ tail) = sym l ∙ f in cc)
no_clause_here (y ∷ read) rest h e l [] tail k parts =
    (let f : literal_at (literal_text y ++ (flat_map literal_text read ++ rest)) ≡ Some (y, flat_map literal_text read ++ rest) = literal_again y (flat_map literal_text read ++ rest) h.0 in
    let g : literal_at (literal_text y ++ (flat_map literal_text read ++ rest)) ≡ None = ap literal_at (sym (flat_front literal_text y read rest) ∙ parts) ∙ end_no_literal tail in
    let i : None ≡ Some (y, flat_map literal_text read ++ rest) = sym g ∙ f in cc)
no_clause_here (y ∷ read) rest h e l (z ∷ c) tail k parts =
    (let f : literal_at (literal_text y ++ (flat_map literal_text read ++ rest)) ≡ Some (y, flat_map literal_text read ++ rest) = literal_again y (flat_map literal_text read ++ rest) h.0 in
    let g : literal_at (literal_text y ++ (flat_map literal_text read ++ rest)) ≡ Some (z, clause_line c ++ tail) = ap literal_at (sym (flat_front literal_text y read rest) ∙ parts) ∙ line_read z c tail k.0 in
    no_clause_here read rest h.1 e l c tail k.1 (same_rest y z (flat_map literal_text read ++ rest) (clause_line c ++ tail) (sym f ∙ g)))

pub no_clause : (text rest : List ℕ) (read : List ℤ) → IsClause read → text ≡ flat_map literal_text read ++ rest → after_end rest ≡ None → literal_at rest ≡ None → BeginsWithClause text → ⊥
no_clause text rest read h t e l b = no_clause_here read rest h e l b.clause b.rest b.literals (sym t ∙ b.parts)

-- two clauses that begin one text are the same
clause_unique : (c d : List ℤ) (a b : List ℕ) → IsClause c → IsClause d → clause_line c ++ a ≡ clause_line d ++ b → (c ≡ d) × (a ≡ b)
clause_unique [] [] a b h k e = (refl, (let f : Some a ≡ Some b = sym (after_end_again a) ∙ ap after_end e ∙ after_end_again b in cc))
clause_unique [] (z ∷ d) a b h k e = absurd (let f : None ≡ Some (z, clause_line d ++ b) = sym (end_no_literal a) ∙ ap literal_at e ∙ line_read z d b k.0 in cc)
clause_unique (y ∷ c) [] a b h k e = absurd (let f : None ≡ Some (y, clause_line c ++ a) = sym (end_no_literal b) ∙ ap literal_at (sym e) ∙ line_read y c a h.0 in cc)
clause_unique (y ∷ c) (z ∷ d) a b h k e =
    let f : Some (y, clause_line c ++ a) ≡ Some (z, clause_line d ++ b) = sym (line_read y c a h.0) ∙ ap literal_at e ∙ line_read z d b k.0 in
    let r = clause_unique c d a b h.1 k.1 (same_rest y z (clause_line c ++ a) (clause_line d ++ b) f) in
    (ap (λ w. w ∷ c) (same_literal y z (clause_line c ++ a) (clause_line d ++ b) f) ∙ ap (λ w. z ∷ w) r.0, r.1)

-- a literal has 32 bits
fits_word : (z : ℤ) → IsLiteral z → FitsSigned w32 z
fits_word (pos n) l = record { sfits = (let b : n ≤ 4096 = l.bounded in omega arith) }
fits_word (negsuc n) l = record { sfits = (let b : suc n ≤ 4096 = l.bounded in omega arith) }

-- and is pushed as it is
pub pushed_literal : (clause new : List ℤ) (z : ℤ) (rest others : List ℕ) → literal_at rest ≡ Some (z, others) → new ≡ clause ++ to_z w32 (of_z w32 z) ∷ [] → new ≡ clause ++ z ∷ []
pushed_literal clause new z rest others r e =
    let fits = fits_word z (literal_takes rest z others r).literal in
    e ∙ ap (λ w. clause ++ w ∷ []) (to_z-of_z w32 z fits)

-- ---- whole texts

pub proof_parts : (text rest others : List ℕ) (proof new : List (List ℤ)) (clause : List ℤ) → text ≡ proof_text proof ++ rest → IsNextClause rest clause others → new ≡ proof ++ clause ∷ [] → text ≡ proof_text new ++ others
proof_parts text rest others proof new clause t n e =
    t ∙ ap (λ w. proof_text proof ++ w) n.parts ∙ sym (flat_push clause_line proof clause others) ∙ sym (ap (λ w. proof_text w ++ others) e)

pub proof_clauses : (rest others : List ℕ) (proof new : List (List ℤ)) (clause : List ℤ) → AllByRecursion IsClause proof → IsNextClause rest clause others → new ≡ proof ++ clause ∷ [] → AllByRecursion IsClause new
proof_clauses rest others proof new clause h n e = subst (AllByRecursion IsClause) (sym e) (all_push IsClause proof clause h n.literals)

nothing_begins : BeginsWithClause [] → ⊥
unfolding literal_at after_end after_byte
nothing_begins b = no_clause_here [] [] tt refl refl b.clause b.rest b.literals b.parts

begins : (c : List ℤ) (more : List (List ℤ)) (rest : List ℕ) → AllByRecursion IsClause (c ∷ more) → BeginsWithClause (proof_text (c ∷ more) ++ rest)
begins c more rest h = record { clause = c; literals = h.0; rest = proof_text more ++ rest; parts = flat_front clause_line c more rest }

-- these clauses more stand in the longer of two fronts
record GoesOn (p q : List (List ℤ)) (a b : List ℕ) : Type 0 where
  more : List (List ℤ)
  clauses : AllByRecursion IsClause more
  longer : q ≡ p ++ more
  parts : a ≡ proof_text more ++ b

goes_on : (c d : List ℤ) (p q : List (List ℤ)) (a b : List ℕ) → c ≡ d → GoesOn p q a b → GoesOn (c ∷ p) (d ∷ q) a b
goes_on c d p q a b e g = record { more = g.more; clauses = g.clauses; longer = ap (λ w. w ∷ q) (sym e) ∙ ap (λ w. c ∷ w) g.longer; parts = g.parts }

-- of two fronts of one text one goes on from the other
two_fronts : (p q : List (List ℤ)) (a b : List ℕ) → AllByRecursion IsClause p → AllByRecursion IsClause q → proof_text p ++ a ≡ proof_text q ++ b → GoesOn p q a b ⊎ GoesOn q p b a
two_fronts [] q a b h k e = inl record { more = q; clauses = k; longer = refl; parts = e }
two_fronts (c ∷ p) [] a b h k e = inr record { more = c ∷ p; clauses = h; longer = refl; parts = sym e }
two_fronts (c ∷ p) (d ∷ q) a b h k e =
    let r = clause_unique c d (proof_text p ++ a) (proof_text q ++ b) h.0 k.0 (sym (flat_front clause_line c p a) ∙ e ∙ flat_front clause_line d q b) in
    (elim (two_fronts p q a b h.1 k.1 r.1) [
      | inl g ↦ inl (goes_on c d p q a b r.0 g)
      | inr g ↦ inr (goes_on d c q p b a (sym r.0) g)
    ])

-- nothing stands after a whole text
ends_here : (p q : List (List ℤ)) (b : List ℕ) → GoesOn p q [] b → (p ≡ q) × (b ≡ [])
ends_here p q b g = of g.more g.clauses g.longer g.parts where
  of : (more : List (List ℤ)) → AllByRecursion IsClause more → q ≡ p ++ more → [] ≡ proof_text more ++ b → (p ≡ q) × (b ≡ [])
  of [] h l e = (sym (l ∙ append-nil p), sym e)
  of (c ∷ more) h l e = absurd (nothing_begins (subst BeginsWithClause (sym e) (begins c more b h)))

whole : (text : List ℕ) (p : List (List ℤ)) → IsProofOf text p → text ≡ proof_text p ++ []
whole text p i = i.same ∙ sym (append-nil (proof_text p))

pub proof_unique : (text : List ℕ) (p q : List (List ℤ)) → IsProofOf text p → IsProofOf text q → p ≡ q
proof_unique text p q i j =
    (elim (two_fronts p q [] [] i.clauses j.clauses (sym (whole text p i) ∙ whole text q j)) [
      | inl g ↦ (ends_here p q [] g).0
      | inr g ↦ sym (ends_here q p [] g).0
    ])

-- what comes after a first bad line's front is no clause, or one too many
one_too_many : (text : List ℕ) (number : ℕ) (f : IsFirstBadLine text number) (c : List ℤ) (more : List (List ℤ)) (b : List ℕ) → AllByRecursion IsClause (c ∷ more) → f.rest ≡ proof_text (c ∷ more) ++ b → length f.before + 1 ≡ 2 ^ 32
one_too_many text number f c more b h e =
    (elim f.bad [
      | inl none ↦ absurd (none (subst BeginsWithClause (sym e) (begins c more b h)))
      | inr n ↦ sym f.counted ∙ n
    ])

longer_by : (p q : List (List ℤ)) (c : List ℤ) (more : List (List ℤ)) → q ≡ p ++ c ∷ more → length p + 1 ≤ length q
longer_by p q c more e = let f : length q ≡ length (p ++ c ∷ more) = ap length e in omega (arith, length-append p (c ∷ more), f)

pub not_both : (text : List ℕ) (p : List (List ℤ)) (number : ℕ) → IsProofOf text p → IsFirstBadLine text number → ⊥
not_both text p number i f =
    (elim (two_fronts f.before p f.rest [] f.clauses i.clauses (sym f.parts ∙ whole text p i)) [
      | inl g ↦ short g.more g.clauses g.longer g.parts
      | inr g ↦ f.there (ends_here p f.before f.rest g).1
    ]) where
      short : (more : List (List ℤ)) → AllByRecursion IsClause more → p ≡ f.before ++ more → f.rest ≡ proof_text more ++ [] → ⊥
      short [] h l e = f.there e
      short (c ∷ more) h l e = let n = one_too_many text number f c more [] h e in let m = longer_by f.before p c more l in let k : length p < 2 ^ 32 = i.count in omega arith

-- the front of a first bad line does not go on to that of another
same_front : (text : List ℕ) (m n : ℕ) (f : IsFirstBadLine text m) (g : IsFirstBadLine text n) → GoesOn f.before g.before f.rest g.rest → m ≡ n
same_front text m n f g o = of o.more o.clauses o.longer o.parts where
  of : (more : List (List ℤ)) → AllByRecursion IsClause more → g.before ≡ f.before ++ more → f.rest ≡ proof_text more ++ g.rest → m ≡ n
  of [] h l e = let k : length g.before ≡ length f.before = ap length (l ∙ append-nil f.before) in let a : m ≡ length f.before + 1 = f.counted in let b : n ≡ length g.before + 1 = g.counted in omega arith
  of (c ∷ more) h l e = absurd (let k = one_too_many text m f c more g.rest h e in let j = longer_by f.before g.before c more l in let b : n ≡ length g.before + 1 = g.counted in let w : n ≤ 2 ^ 32 = g.within in omega arith)

pub bad_unique : (text : List ℕ) (m n : ℕ) → IsFirstBadLine text m → IsFirstBadLine text n → m ≡ n
bad_unique text m n f g =
    (elim (two_fronts f.before g.before f.rest g.rest f.clauses g.clauses (sym f.parts ∙ g.parts)) [
      | inl o ↦ same_front text m n f g o
      | inr o ↦ sym (same_front text n m g f o)
    ])

pub accepted : (text : List ℕ) (r : Result (List (List ℤ)) ProofError) → IfOk r (λ proof. IsProofOf text proof) → IfErr r (IsCause text) → (proof : List (List ℤ)) → IsProofOf text proof → IsUnlessMemory (Ok proof) r
accepted text (Ok p) ok err proof i = inl (ap Ok (proof_unique text p proof ok i))
accepted text (Err (Line number)) ok err proof i = absurd (not_both text proof number i err)
accepted text (Err Memory) ok err proof i = inr refl

pub refused : (text : List ℕ) (r : Result (List (List ℤ)) ProofError) → IfOk r (λ proof. IsProofOf text proof) → IfErr r (IsCause text) → (number : ℕ) → IsFirstBadLine text number → IsUnlessMemory (Err (Line number)) r
refused text (Ok p) ok err number f = absurd (not_both text p number ok f)
refused text (Err (Line n)) ok err number f = inl (ap (λ k. Err (Line k)) (bad_unique text n number err f))
refused text (Err Memory) ok err number f = inr refl
