-- A text has one list of tokens, or one refusal.
use Rattle.std.proofs.Common.{◌≡◌, ℕ, ◌<◌, List, [], ◌∷◌, length, arith, sym, refl, ap, subst, Result, Ok, Err}
use Rattle.fzn_token.specs.declared.token.TokenKind.{TokenKind}
use Rattle.fzn_token.specs.declared.token.TokenKind.TheVariants as kind
use Rattle.fzn_token.specs.declared.token.Token.{Token}
use Rattle.fzn_token.specs.declared.refusal.Refusal.TheVariants as refusal
use Rattle.fzn_token.specs.declared.refusal.ModelError.{ModelError}
use Rattle.fzn_token.specs.declared.refusal.ModelError.TheVariants as errors
use Rattle.fzn_token.specs.Tokens.{Spells, IsLongest, NothingBegins, IsInRange, IsToken, AreTokensTo, AreTokens}
use Rattle.fzn_token.specs.Gaps.{IsGap}
use Rattle.fzn_token.specs.Reading.{IsBad, IsOutside, Answers, HasOneAnswer}
use Rattle.fzn_token.proofs.GapLaws.{same_gap}
use Rattle.fzn_token.proofs.OneKind.{same_kind}

-- two longest tokens at a place end at one place
same_end_longest : (k l : TokenKind) (text : List ℕ) (i j to : ℕ) → IsLongest k text i j → IsLongest l text i to → j ≡ to
same_end_longest k l text i j to p q = let one = p.longest l to q.spelled in let two = q.longest k j p.spelled in omega arith

-- two longest tokens at a place are of one kind
same_longest : (k l : TokenKind) (text : List ℕ) (i j to : ℕ) → IsLongest k text i j → IsLongest l text i to → k ≡ l
same_longest k l text i j to p q = same_kind k l text i j p.spelled (subst (λ x. Spells l text i x) (sym (same_end_longest k l text i j to p q)) q.spelled)

-- two tokens at a place are the same
same_token : (text : List ℕ) (t u : Token) → t.from ≡ u.from → IsToken text t → IsToken text u → t ≡ u
same_token text t u from p q =
    let moved = subst (λ x. IsLongest t.kind text x t.to) from p.longest in
    let kinds = same_longest t.kind u.kind text u.from t.to u.to moved q.longest in
    let ends = same_end_longest t.kind u.kind text u.from t.to u.to moved q.longest in
    λ k. record { kind = kinds k; from = from k; to = ends k }

-- at place p the tokens end: the text ends, or no token in range begins
Stops : List ℕ → ℕ → Type 0
Stops text p = (t : Token) → t.from ≡ p → p < length text → IsToken text t → ⊥

-- two readings that end where they must are the same
same_tokens : (text : List ℕ) (i : ℕ) (ts us : List Token) (j k p q : ℕ) → AreTokensTo text i ts j → IsGap text j p → Stops text p → AreTokensTo text i us k → IsGap text k q → Stops text q → (ts ≡ us) × (p ≡ q)
unfolding Stops
same_tokens text i [] [] j k p q a ga sa b gb sb = (refl, same_gap (subst (λ x. IsGap text x p) (sym a) ga) (subst (λ x. IsGap text x q) (sym b) gb))
same_tokens text i [] (u ∷ us) j k p q a ga sa b gb sb =
    let same = same_gap b.0 (subst (λ x. IsGap text x p) (sym a) ga) in
    absurd (sa u same (omega (arith, b.1, same)) b.2)
same_tokens text i (t ∷ ts) [] j k p q a ga sa b gb sb =
    let same = same_gap a.0 (subst (λ x. IsGap text x q) (sym b) gb) in
    absurd (sb t same (omega (arith, a.1, same)) a.2)
same_tokens text i (t ∷ ts) (u ∷ us) j k p q a ga sa b gb sb =
    let token = same_token text t u (same_gap a.0 b.0) a.2 b.2 in
    let rest = same_tokens text u.to ts us j k p q (subst (λ x. AreTokensTo text x.to ts j) token a.3) ga sa b.3 gb sb in
    ((λ n. token n ∷ rest.0 n), rest.1)

-- at the text's end no token begins
end_stops : (text : List ℕ) → Stops text (length text)
unfolding Stops
end_stops text t from below token = omega arith

-- where nothing begins, no token begins
bad_stops : (text : List ℕ) (at : ℕ) → NothingBegins text at → Stops text at
unfolding Stops
bad_stops text at nothing t from below token = nothing t.kind t.to (subst (λ x. Spells t.kind text x t.to) from token.longest.spelled)

-- where an integer is outside 64 bits, no token in range begins
outside_stops : (text : List ℕ) (at : ℕ) → IsOutside text at → Stops text at
unfolding Stops
outside_stops text at o t from below token =
    let kinds = same_longest t.kind (kind.Whole o.value) text at t.to o.to (subst (λ x. IsLongest t.kind text x t.to) from token.longest) o.longest in
    o.outside (subst IsInRange kinds token.in_range)

-- the tokens, the place where they end, and whether that is the text's end
record Reading (text : List ℕ) : Type 0 where
  tokens : List Token
  end : ℕ
  place : ℕ
  all : AreTokensTo text 0 tokens end
  gap : IsGap text end place
  stops : Stops text place

-- a list of tokens as a reading
of_tokens : (text : List ℕ) (ts : List Token) → AreTokens text ts → Reading text
of_tokens text ts a = record { tokens = ts; end = a.end; place = length text; all = a.all; gap = a.gap; stops = end_stops text }

-- a place where nothing begins as a reading
of_bad : (text : List ℕ) (at : ℕ) → IsBad text at → Reading text
of_bad text at b = record { tokens = b.reached.tokens; end = b.reached.end; place = at; all = b.reached.before; gap = b.reached.gap; stops = bad_stops text at b.nothing }

-- a place of an integer outside 64 bits as a reading
of_outside : (text : List ℕ) (at : ℕ) → IsOutside text at → Reading text
of_outside text at o = record { tokens = o.reached.tokens; end = o.reached.end; place = at; all = o.reached.before; gap = o.reached.gap; stops = outside_stops text at o }

-- two readings have the same tokens and end at one place
agree : (text : List ℕ) (a b : Reading text) → (a.tokens ≡ b.tokens) × (a.place ≡ b.place)
agree text a b = same_tokens text 0 a.tokens b.tokens a.end b.end a.place b.place a.all a.gap a.stops b.all b.gap b.stops

-- nothing begins, or an integer does, and not both
not_both : (text : List ℕ) (at : ℕ) → IsBad text at → IsOutside text at → ⊥
not_both text at b o = b.nothing (kind.Whole o.value) o.to o.longest.spelled

-- the text's end is no place of it
not_at_end : (text : List ℕ) (at : ℕ) → length text ≡ at → at < length text → ⊥
not_at_end text at same below = omega (arith, same, below)

-- an answer beside a list of tokens is that list, want of memory aside
as_tokens : (text : List ℕ) (ts : List Token) (b : Result (List Token) ModelError) → AreTokens text ts → Answers text b → (b ≡ Err errors.Memory → ⊥) → Ok ts ≡ b
unfolding of_tokens of_bad of_outside
as_tokens text ts (Ok us) p q not_q = ap Ok (agree text (of_tokens text ts p) (of_tokens text us q)).0
as_tokens text ts (Err (errors.Refused (refusal.Lex at))) p q not_q = absurd (not_at_end text at (agree text (of_tokens text ts p) (of_bad text at q)).1 q.reached.within)
as_tokens text ts (Err (errors.Refused (refusal.IntRange at))) p q not_q = absurd (not_at_end text at (agree text (of_tokens text ts p) (of_outside text at q)).1 q.reached.within)
as_tokens text ts (Err (errors.Refused _)) p q not_q = absurd q
as_tokens text ts (Err errors.Memory) p q not_q = absurd (not_q refl)

-- an answer beside a place where nothing begins is that refusal
as_bad : (text : List ℕ) (at : ℕ) (b : Result (List Token) ModelError) → IsBad text at → Answers text b → (b ≡ Err errors.Memory → ⊥) → Err (errors.Refused (refusal.Lex at)) ≡ b
unfolding of_bad of_outside
as_bad text at (Ok us) p q not_q = sym (as_tokens text us (Err (errors.Refused (refusal.Lex at))) q p (λ e. cc))
as_bad text at (Err (errors.Refused (refusal.Lex to))) p q not_q = ap (λ x. Err (errors.Refused (refusal.Lex x))) (agree text (of_bad text at p) (of_bad text to q)).1
as_bad text at (Err (errors.Refused (refusal.IntRange to))) p q not_q = absurd (not_both text at p (subst (IsOutside text) (sym (agree text (of_bad text at p) (of_outside text to q)).1) q))
as_bad text at (Err (errors.Refused _)) p q not_q = absurd q
as_bad text at (Err errors.Memory) p q not_q = absurd (not_q refl)

-- and so is one beside a place of an integer outside 64 bits
as_outside : (text : List ℕ) (at : ℕ) (b : Result (List Token) ModelError) → IsOutside text at → Answers text b → (b ≡ Err errors.Memory → ⊥) → Err (errors.Refused (refusal.IntRange at)) ≡ b
unfolding of_outside
as_outside text at (Ok us) p q not_q = sym (as_tokens text us (Err (errors.Refused (refusal.IntRange at))) q p (λ e. cc))
as_outside text at (Err (errors.Refused (refusal.Lex to))) p q not_q = sym (as_bad text to (Err (errors.Refused (refusal.IntRange at))) q p (λ e. cc))
as_outside text at (Err (errors.Refused (refusal.IntRange to))) p q not_q = ap (λ x. Err (errors.Refused (refusal.IntRange x))) (agree text (of_outside text at p) (of_outside text to q)).1
as_outside text at (Err (errors.Refused _)) p q not_q = absurd q
as_outside text at (Err errors.Memory) p q not_q = absurd (not_q refl)

-- two answers are the same, want of memory aside
pub one_answer_lem : HasOneAnswer
one_answer_lem text (Ok ts) b p q not_p not_q = as_tokens text ts b p q not_q
one_answer_lem text (Err (errors.Refused (refusal.Lex at))) b p q not_p not_q = as_bad text at b p q not_q
one_answer_lem text (Err (errors.Refused (refusal.IntRange at))) b p q not_p not_q = as_outside text at b p q not_q
one_answer_lem text (Err (errors.Refused _)) b p q not_p not_q = absurd p
one_answer_lem text (Err errors.Memory) b p q not_p not_q = absurd (not_p refl)
