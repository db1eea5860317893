-- What a formula's text is refused for, and that what stands between words changes nothing.
use Rattle.std.proofs.Common.{◌≡◌, ℕ, zero, suc, ◌+◌, ◌==◌, ◌&&◌, ◌⊎◌, inl, inr, Bool, true, false, if◌then◌else◌, List, [], ◌∷◌, ◌++◌, length, Option, Some, None, Result, Ok, Err, refl, sym, ap, ◌∙◌, subst}
use Rattle.std.specs.Prelude.{ℤ, pos, negsuc, nat_le}
use Rattle.std.specs.Option.{option_map}
use Rattle.dcsp_defs.specs.Words.{In}
use Rattle.dcsp_rule.specs.Problems.{Contents}
use Rattle.dcsp_common.specs.Limits.{most}
use Rattle.dcsp_problem.specs.Limits.{rule_refusal, rule_counts, first_past, limit_of}
use Rattle.dcsp_common.specs.declared.limits.Which.{Which}
use Rattle.dcsp_common.specs.declared.limits.Which.TheVariants.{Variables}
use Rattle.dcsp_problem.specs.declared.limits.BuildError.{BuildError}
use Rattle.dcsp_problem.specs.declared.limits.BuildError.TheVariants as build
use Rattle.cnf_front.specs.declared.header.CnfError.{CnfError}
use Rattle.cnf_front.specs.declared.header.CnfError.TheVariants.{Syntax, Limit, Memory}
use Rattle.cnf_front.specs.declared.header.Mark.{Mark}
use Rattle.cnf_front.specs.declared.header.Mark.TheVariants.{P, Cnf, Clauses}
use Rattle.cnf_front.specs.declared.words.Stand.TheVariants.{Start}
use Rattle.cnf_front.specs.Dimacs.{TextWord, word_at, words}
use Rattle.cnf_front.specs.Formulas.{◌>>=◌, passes, is_end, number_of, literal_in, expect, within_limit, variables_at, header, Clause, no_literals, clause_rule, refused_at, with_clause, with_last, with_word, clauses_from, only_variables, problem_of}
use Rattle.law_subjects.specs.Formulas.{Words, ends, ends_in_comment, word, bytes_of, GapsAreIgnored, IsPlaceOfWord, EachHasAnswer}
use Rattle.law_subjects.proofs.Formulas.{texts_are_words}

-- ---- refusals stand at words

-- the result is no want of memory, and a refusal in it stands at one of the words
abbrev IsPlaced : {X : Type 0} → List TextWord → Result X CnfError → Type 0
IsPlaced ws (Ok x) = Unit {0}
IsPlaced ws (Err Memory) = ⊥
IsPlaced ws (Err (Syntax at)) = (w : TextWord) × In w ws × (at ≡ w.at)
IsPlaced ws (Err (Limit which count at)) = (w : TextWord) × In w ws × (at ≡ w.at)

-- a result, and what is done with it
placed_then : {X Y : Type 0} (ws : List TextWord) (r : Result X CnfError) (f : X → Result Y CnfError) → IsPlaced ws r → ((x : X) → r ≡ Ok x → IsPlaced ws (f x)) → IsPlaced ws (r >>= f)
placed_then ws (Ok x) f h k = k x refl
placed_then ws (Err Memory) f h k = h
placed_then ws (Err (Syntax at)) f h k = h
placed_then ws (Err (Limit which count at)) f h k = h

-- the words are some of all, and the text's end is among them
record AreLeft (all ws : List TextWord) : Type 0 where
  among : (w : TextWord) → In w ws → In w all
  end : (w : TextWord) × In w ws × (w.bytes ≡ [])

-- behind a word that is not the end
left_behind : (all : List TextWord) (w : TextWord) (ws : List TextWord) → AreLeft all (w ∷ ws) → (w.bytes ≡ [] → ⊥) → AreLeft all ws
left_behind all w ws h other = record {
  among = λ v i. h.among v (inr i);
  end = elim h.end.1 [ inl e ↦ absurd (other (ap (λ (x : TextWord). x.bytes) (sym e) ∙ h.end.2)) | inr i ↦ (h.end.0, i, h.end.2) ];
}

ends_fail : (mark : Mark) → passes mark [] ≡ false
ends_fail P = refl
ends_fail Cnf = refl
ends_fail Clauses = refl

-- a word that passes its test goes, and others are left
record Goes (all : List TextWord) (r : Result (List TextWord) CnfError) : Type 0 where
  placed : IsPlaced all r
  left : (ws : List TextWord) → r ≡ Ok ws → AreLeft all ws

expect_goes : (mark : Mark) (all ws : List TextWord) → AreLeft all ws → Goes all (expect (passes mark) ws)
expect_goes mark all [] h = absurd h.end.1
expect_goes mark all (w ∷ ws) h =
    (elim (passes mark w.bytes) as (λ b. passes mark w.bytes ≡ b → Goes all (if b then Ok ws else Err (Syntax w.at))) [
      | true ↦ λ is. record { placed = tt; left = λ vs e. let same : ws ≡ vs = cc in subst (λ (xs : List TextWord). AreLeft all xs) same (left_behind all w ws h (λ none. let is_not : passes mark w.bytes ≡ false = ap (passes mark) none ∙ ends_fail mark in cc)) }
      | false ↦ λ is. record { placed = (w, h.among w (inl refl), refl); left = λ vs e. cc }
    ]) refl

pub no_number : number_of [] ≡ None
unfolding number_of
no_number = refl

-- a number of variables, and the words that are left
record Counts (all : List TextWord) (r : Result (ℕ × List TextWord) CnfError) : Type 0 where
  placed : IsPlaced all r
  left : (x : ℕ × List TextWord) → r ≡ Ok x → AreLeft all x.1

variables_go : (all ws : List TextWord) → AreLeft all ws → Counts all (variables_at ws)
variables_go all [] h = absurd h.end.1
variables_go all (w ∷ ws) h = by_number (number_of w.bytes) refl where
  by_number : (o : Option ℕ) → number_of w.bytes ≡ o → Counts all (within_limit w.at o ws)
  by_number None is = record { placed = (w, h.among w (inl refl), refl); left = λ x e. cc }
  by_number (Some n) is =
      let rest : AreLeft all ws = left_behind all w ws h (λ none. let is_none : number_of w.bytes ≡ None = ap number_of none ∙ no_number in cc) in
      elim (nat_le n (most Variables)) as (λ b. Counts all (if b then Ok (n, ws) else Err (Limit Variables n w.at))) [
        | true ↦ record { placed = tt; left = λ x e. let same : (n, ws) ≡ x = cc in subst (λ (y : ℕ × List TextWord). AreLeft all y.1) same rest }
        | false ↦ record { placed = (w, h.among w (inl refl), refl); left = λ x e. cc }
      ]

after_word : (all : List TextWord) (r : Result (List TextWord) CnfError) (f : List TextWord → Result (ℕ × List TextWord) CnfError) → Goes all r → ((ws : List TextWord) → AreLeft all ws → Counts all (f ws)) → Counts all (r >>= f)
after_word all (Ok ws) f h k = k ws (h.left ws refl)
after_word all (Err Memory) f h k = absurd h.placed
after_word all (Err (Syntax at)) f h k = record { placed = h.placed; left = λ x e. cc }
after_word all (Err (Limit which count at)) f h k = record { placed = h.placed; left = λ x e. cc }

after_number : (all : List TextWord) (r : Result (ℕ × List TextWord) CnfError) (f : ℕ × List TextWord → Result (ℕ × List TextWord) CnfError) → Counts all r → ((x : ℕ × List TextWord) → AreLeft all x.1 → Counts all (f x)) → Counts all (r >>= f)
after_number all (Ok x) f h k = k x (h.left x refl)
after_number all (Err Memory) f h k = absurd h.placed
after_number all (Err (Syntax at)) f h k = record { placed = h.placed; left = λ x e. cc }
after_number all (Err (Limit which count at)) f h k = record { placed = h.placed; left = λ x e. cc }

header_placed : (all ws : List TextWord) → AreLeft all ws → Counts all (header ws)
unfolding header
header_placed all ws h =
    after_word all (expect (passes P) ws) (λ a. expect (passes Cnf) a >>= (λ b. variables_at b >>= (λ v. expect (passes Clauses) v.1 >>= (λ c. Ok (v.0, c))))) (expect_goes P all ws h) (λ a left_a.
    after_word all (expect (passes Cnf) a) (λ b. variables_at b >>= (λ v. expect (passes Clauses) v.1 >>= (λ c. Ok (v.0, c)))) (expect_goes Cnf all a left_a) (λ b left_b.
    after_number all (variables_at b) (λ v. expect (passes Clauses) v.1 >>= (λ c. Ok (v.0, c))) (variables_go all b left_b) (λ v left_v.
    after_word all (expect (passes Clauses) v.1) (λ c. Ok (v.0, c)) (expect_goes Clauses all v.1 left_v) (λ c left_c.
    record { placed = tt; left = λ x e. let same : (v.0, c) ≡ x = cc in subst (λ (y : ℕ × List TextWord). AreLeft all y.1) same left_c }))))

-- a clause is refused for a limit alone
refused_by_limit : (p : Contents) (c : Clause) → (rule_refusal p (clause_rule c) ≡ None) ⊎ ((which : Which) × (count : ℕ) × (rule_refusal p (clause_rule c) ≡ Some (build.Limit which count)))
refused_by_limit p c = by_past (first_past (rule_counts p (clause_rule c))) refl where
  by_past : (o : Option (Which × ℕ)) → first_past (rule_counts p (clause_rule c)) ≡ o → (rule_refusal p (clause_rule c) ≡ None) ⊎ ((which : Which) × (count : ℕ) × (rule_refusal p (clause_rule c) ≡ Some (build.Limit which count)))
  by_past None is = inl (ap (option_map limit_of) is)
  by_past (Some x) is = inr (x.0, x.1, ap (option_map limit_of) is)

clause_placed : (all : List TextWord) (w : TextWord) (p : Contents) (c : Clause) → In w all → IsPlaced all (with_clause w.at p c)
clause_placed all w p c i =
    let q : Contents = record p { rules = p.rules ++ clause_rule c ∷ [] } in
    elim (refused_by_limit p c) [
      | inl none ↦ subst (λ (o : Option BuildError). IsPlaced all (refused_at w.at o q)) (sym none) tt
      | inr r ↦ subst (λ (o : Option BuildError). IsPlaced all (refused_at w.at o q)) (sym r.2) (w, i, refl)
    ]

last_placed : (all : List TextWord) (w : TextWord) (p : Contents) (c : Clause) → In w all → IsPlaced all (with_last w.at p c)
last_placed all w p c i = elim (length c.positive == 0 && length c.negative == 0) as (λ b. IsPlaced all (if b then Ok p else with_clause w.at p c)) [ true ↦ tt | false ↦ clause_placed all w p c i ]

word_placed : (all : List TextWord) (w : TextWord) (p : Contents) (c : Clause) (z : Option ℤ) → In w all → IsPlaced all (with_word w.at p c z)
word_placed all w p c None i = (w, i, refl)
word_placed all w p c (Some (pos zero)) i = placed_then all (with_clause w.at p c) (λ q. Ok (q, no_literals)) (clause_placed all w p c i) (λ q e. tt)
word_placed all w p c (Some (pos (suc n))) i = tt
word_placed all w p c (Some (negsuc n)) i = tt

clauses_placed : (all ws : List TextWord) (variables : ℕ) (p : Contents) (c : Clause) → ((w : TextWord) → In w ws → In w all) → IsPlaced all (clauses_from variables p c ws)
unfolding clauses_from
clauses_placed all [] variables p c among = tt
clauses_placed all (w ∷ ws) variables p c among =
    elim (is_end w.bytes) as (λ b. IsPlaced all (if b then with_last w.at p c else (with_word w.at p c (literal_in variables w.bytes) >>= (λ s. clauses_from variables s.0 s.1 ws)))) [
      | true ↦ last_placed all w p c (among w (inl refl))
      | false ↦ placed_then all (with_word w.at p c (literal_in variables w.bytes)) (λ s. clauses_from variables s.0 s.1 ws) (word_placed all w p c (literal_in variables w.bytes) (among w (inl refl)))
          (λ s e. clauses_placed all ws variables s.0 s.1 (λ v i. among v (inr i)))
    ]

-- the words of a text have an end
pub has_end : (line : Bool) (at : ℕ) (text : List ℕ) (ws : List TextWord) → Words line at text ws → (w : TextWord) × In w ws × (w.bytes ≡ [])
has_end line at text ws (ends after g is) = let e : TextWord = word_at [] (at + length text) in (e, subst (λ (vs : List TextWord). In e vs) (sym is) (inl refl), refl)
has_end line at text ws (ends_in_comment gap last g one parts is) = let e : TextWord = word_at [] (at + length text) in (e, subst (λ (vs : List TextWord). In e vs) (sym is) (inl refl), refl)
has_end line at text ws (word after gap bytes rest more g w end parts is later) =
    let found = has_end false (at + length gap + length bytes) rest more later in
    (found.0, subst (λ (vs : List TextWord). In found.0 vs) (sym is) (inr found.1), found.2)

problem_placed : (text : List ℕ) → IsPlaced (words Start 0 text) (problem_of text)
unfolding problem_of
problem_placed text =
    let all = words Start 0 text in
    let read = (texts_are_words text all).1 refl in
    let left : AreLeft all all = record { among = λ w i. i; end = has_end true 0 text all read } in
    let h = header_placed all all left in
    placed_then all (header all) (λ h. clauses_from h.0 (only_variables h.0) no_literals h.1) h.placed (λ x e. clauses_placed all x.1 x.0 (only_variables x.0) no_literals (h.left x e).among)

pub each_has_answer : EachHasAnswer
each_has_answer text = by_result (problem_of text) refl (problem_placed text) where
  by_result : (r : Result Contents CnfError) → problem_of text ≡ r → IsPlaced (words Start 0 text) r
      → ((p : Contents) × (problem_of text ≡ Ok p)) ⊎ ((at : ℕ) × IsPlaceOfWord text at × (problem_of text ≡ Err (Syntax at))) ⊎ ((which : Which) × (count : ℕ) × (at : ℕ) × IsPlaceOfWord text at × (problem_of text ≡ Err (Limit which count at)))
  by_result (Ok p) is h = inl (p, is)
  by_result (Err Memory) is h = absurd h
  by_result (Err (Syntax at)) is h = inr (inl (at, h, is))
  by_result (Err (Limit which count at)) is h = inr (inr (which, count, at, h, is))

-- ---- what stands between words changes nothing

-- where a result is this, each part was
pub bound : {X Y : Type 0} (r : Result X CnfError) (f : X → Result Y CnfError) (y : Y) → (r >>= f) ≡ Ok y → (x : X) × (r ≡ Ok x) × (f x ≡ Ok y)
bound (Ok x) f y h = (x, refl, h)
bound (Err e) f y h = cc

-- the one is right, and so is the other
bind_both : {X Y : Type 0} (r : Result X CnfError) (f : X → Result Y CnfError) (x : X) (y : Y) → r ≡ Ok x → f x ≡ Ok y → (r >>= f) ≡ Ok y
bind_both r f x y h k = ap (λ s. s >>= f) h ∙ k

-- words that have the same bytes, one by one
abbrev AreSame : List TextWord → List TextWord → Type 0
AreSame ws vs = bytes_of ws ≡ bytes_of vs

-- words of the same bytes are left behind ones of the same bytes
same_rest : (w v : TextWord) (ws vs : List TextWord) → AreSame (w ∷ ws) (v ∷ vs) → (w.bytes ≡ v.bytes) × AreSame ws vs
same_rest w v ws vs h = let first : w.bytes ≡ v.bytes = cc in let rest : bytes_of ws ≡ bytes_of vs = cc in (first, rest)

expect_same : (test : List ℕ → Bool) (ws vs a : List TextWord) → AreSame ws vs → expect test ws ≡ Ok a → (b : List TextWord) × (expect test vs ≡ Ok b) × AreSame a b
expect_same test [] vs a same h = cc
expect_same test (w ∷ ws) [] a same h = cc
expect_same test (w ∷ ws) (v ∷ vs) a same h =
    let both = same_rest w v ws vs same in
    (elim (test w.bytes) as (λ t. test w.bytes ≡ t → (if t then Ok ws else Err (Syntax w.at)) ≡ Ok a → (b : List TextWord) × (expect test (v ∷ vs) ≡ Ok b) × AreSame a b) [
      | true ↦ λ is e.
          let passes : test v.bytes ≡ true = ap test (sym both.0) ∙ is in
          let left : ws ≡ a = cc in
          (vs, ap (λ t. if t then Ok vs else Err (Syntax v.at)) passes, subst (λ (xs : List TextWord). AreSame xs vs) left both.1)
      | false ↦ λ is e. cc
    ]) refl h

limit_same : (at other n : ℕ) (ws vs : List TextWord) (x : ℕ × List TextWord) → AreSame ws vs → (o : Option ℕ) → within_limit at o ws ≡ Ok x → (y : ℕ × List TextWord) × (within_limit other o vs ≡ Ok y) × (x.0 ≡ y.0) × AreSame x.1 y.1
limit_same at other n ws vs x same None h = cc
limit_same at other n ws vs x same (Some m) h =
    (elim (nat_le m (most Variables)) as (λ t. (if t then Ok (m, ws) else Err (Limit Variables m at)) ≡ Ok x → (y : ℕ × List TextWord) × ((if t then Ok (m, vs) else Err (Limit Variables m other)) ≡ Ok y) × (x.0 ≡ y.0) × AreSame x.1 y.1) [
      | true ↦ λ e. let is : (m, ws) ≡ x = cc in ((m, vs), refl, ap (λ (z : ℕ × List TextWord). z.0) (sym is), subst (λ (z : ℕ × List TextWord). AreSame z.1 vs) is same)
      | false ↦ λ e. cc
    ]) h

variables_same : (ws vs : List TextWord) (x : ℕ × List TextWord) → AreSame ws vs → variables_at ws ≡ Ok x → (y : ℕ × List TextWord) × (variables_at vs ≡ Ok y) × (x.0 ≡ y.0) × AreSame x.1 y.1
variables_same [] vs x same h = cc
variables_same (w ∷ ws) [] x same h = cc
variables_same (w ∷ ws) (v ∷ vs) x same h =
    let both = same_rest w v ws vs same in
    limit_same w.at v.at 0 ws vs x both.1 (number_of v.bytes) (ap (λ o. within_limit w.at o ws) (ap number_of (sym both.0)) ∙ h)

header_same : (ws vs : List TextWord) (x : ℕ × List TextWord) → AreSame ws vs → header ws ≡ Ok x → (y : ℕ × List TextWord) × (header vs ≡ Ok y) × (x.0 ≡ y.0) × AreSame x.1 y.1
unfolding header
header_same ws vs x same h =
    let on_c = λ (v : ℕ × List TextWord). expect (passes Clauses) v.1 >>= (λ c. Ok (v.0, c)) in
    let on_v = λ (b : List TextWord). variables_at b >>= on_c in
    let on_b = λ (a : List TextWord). expect (passes Cnf) a >>= on_v in
    let a = bound (expect (passes P) ws) on_b x h in
    let b = bound (expect (passes Cnf) a.0) on_v x a.2 in
    let v = bound (variables_at b.0) on_c x b.2 in
    let c = bound (expect (passes Clauses) v.0.1) (λ (d : List TextWord). Ok (v.0.0, d)) x v.2 in
    let a2 = expect_same (passes P) ws vs a.0 same a.1 in
    let b2 = expect_same (passes Cnf) a.0 a2.0 b.0 a2.2 b.1 in
    let v2 = variables_same b.0 b2.0 v.0 b2.2 v.1 in
    let c2 = expect_same (passes Clauses) v.0.1 v2.0.1 c.0 v2.3 c.1 in
    let is : (v.0.0, c.0) ≡ x = cc in
    let y : ℕ × List TextWord = (v2.0.0, c2.0) in (
      y,
      bind_both (expect (passes P) vs) on_b a2.0 y a2.1 (bind_both (expect (passes Cnf) a2.0) on_v b2.0 y b2.1 (bind_both (variables_at b2.0) on_c v2.0 y v2.1 (bind_both (expect (passes Clauses) v2.0.1) (λ (d : List TextWord). Ok (v2.0.0, d)) c2.0 y c2.1 refl))),
      ap (λ (z : ℕ × List TextWord). z.0) (sym is) ∙ v2.2,
      subst (λ (z : ℕ × List TextWord). AreSame z.1 c2.0) is c2.2,
    )

clause_same : (at other : ℕ) (p q : Contents) (c : Clause) → with_clause at p c ≡ Ok q → with_clause other p c ≡ Ok q
clause_same at other p q c h = by_refusal (rule_refusal p (clause_rule c)) h where
  by_refusal : (o : Option BuildError) → refused_at at o (record p { rules = p.rules ++ clause_rule c ∷ [] }) ≡ Ok q → refused_at other o (record p { rules = p.rules ++ clause_rule c ∷ [] }) ≡ Ok q
  by_refusal None e = e
  by_refusal (Some (build.Limit which count)) e = cc
  by_refusal (Some build.WideSum) e = cc
  by_refusal (Some build.Memory) e = cc

last_same : (at other : ℕ) (p q : Contents) (c : Clause) → with_last at p c ≡ Ok q → with_last other p c ≡ Ok q
last_same at other p q c h = (elim (length c.positive == 0 && length c.negative == 0) as (λ t. (if t then Ok p else with_clause at p c) ≡ Ok q → (if t then Ok p else with_clause other p c) ≡ Ok q) [ true ↦ λ e. e | false ↦ clause_same at other p q c ]) h

word_same : (at other : ℕ) (p : Contents) (c : Clause) (z : Option ℤ) (s : Contents × Clause) → with_word at p c z ≡ Ok s → with_word other p c z ≡ Ok s
word_same at other p c None s h = cc
word_same at other p c (Some (pos zero)) s h =
    let b = bound (with_clause at p c) (λ (q : Contents). Ok (q, no_literals)) s h in
    bind_both (with_clause other p c) (λ (q : Contents). Ok (q, no_literals)) b.0 s (clause_same at other p b.0 c b.1) b.2
word_same at other p c (Some (pos (suc n))) s h = h
word_same at other p c (Some (negsuc n)) s h = h

clauses_same : (ws vs : List TextWord) (variables : ℕ) (p q : Contents) (c : Clause) → AreSame ws vs → clauses_from variables p c ws ≡ Ok q → clauses_from variables p c vs ≡ Ok q
unfolding clauses_from
clauses_same [] [] variables p q c same h = h
clauses_same [] (v ∷ vs) variables p q c same h = cc
clauses_same (w ∷ ws) [] variables p q c same h = cc
clauses_same (w ∷ ws) (v ∷ vs) variables p q c same h =
    let both = same_rest w v ws vs same in
    let on = λ (s : Contents × Clause). clauses_from variables s.0 s.1 ws in
    let on_v = λ (s : Contents × Clause). clauses_from variables s.0 s.1 vs in
    let moved : (if is_end v.bytes then with_last w.at p c else (with_word w.at p c (literal_in variables v.bytes) >>= on)) ≡ Ok q = ap (λ (bytes : List ℕ). if is_end bytes then with_last w.at p c else (with_word w.at p c (literal_in variables bytes) >>= on)) (sym both.0) ∙ h in
    (elim (is_end v.bytes) as (λ t. (if t then with_last w.at p c else (with_word w.at p c (literal_in variables v.bytes) >>= on)) ≡ Ok q → (if t then with_last v.at p c else (with_word v.at p c (literal_in variables v.bytes) >>= on_v)) ≡ Ok q) [
      | true ↦ last_same w.at v.at p q c
      | false ↦ λ e.
          let b = bound (with_word w.at p c (literal_in variables v.bytes)) on q e in
          bind_both (with_word v.at p c (literal_in variables v.bytes)) on_v b.0 q (word_same w.at v.at p c (literal_in variables v.bytes) b.0 b.1) (clauses_same ws vs variables b.0.0 q b.0.1 both.1 b.2)
    ]) moved

pub gaps_are_ignored : GapsAreIgnored
unfolding problem_of
gaps_are_ignored one other same p h =
    let on = λ (h : ℕ × List TextWord). clauses_from h.0 (only_variables h.0) no_literals h.1 in
    let b = bound (header (words Start 0 one)) on p h in
    let c = header_same (words Start 0 one) (words Start 0 other) b.0 same b.1 in
    let rest = clauses_same b.0.1 c.0.1 b.0.0 (only_variables b.0.0) p no_literals c.3 b.2 in
    bind_both (header (words Start 0 other)) on c.0 p c.1 (subst (λ (n : ℕ). clauses_from n (only_variables n) no_literals c.0.1 ≡ Ok p) c.2 rest)
