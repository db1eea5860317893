-- Runs of bytes, gaps and texts between quotes: each has an end, or there is none.
use Rattle.std.proofs.Common.{◌≡◌, ℕ, zero, suc, ◌+◌, ◌<◌, ◌≤◌, ◌⊎◌, inl, inr, Bool, true, false, not, List, length, arith}
use Rattle.std.specs.Prelude.{slice_index, ◌==◌}
use Rattle.std.proofs.lemmas.Bool.{cases_lt, cases_eq, cases_Bool, false≢true}
use Rattle.std.proofs.lemmas.Bool.Decides.{nat_tests}
use Rattle.fzn_token.specs.Bytes.{is_blank, IsRun, IsWholeRun}
use Rattle.fzn_token.specs.Gaps.{IsGap}
use Rattle.fzn_token.specs.Quotes.{IsTextEnd}
use Rattle.fzn_token.proofs.Runs.{run_more}
use Rattle.fzn_token.proofs.GapLaws.{IsGapSoFar, gap_none, gap_blank, gap_comment, gap_whole}
use Rattle.fzn_token.proofs.TextEnds.{end_here, end_plain, end_escaped, after_plain, after_slash, not_at_feed, not_past, is_plain_byte}

-- no bytes are a run
no_run : (p : ℕ → Bool) (text : List ℕ) (i : ℕ) → i ≤ length text → IsRun p text i i
no_run p text i within = record { ordered = omega arith; within = within; each = λ k from before. (let no : ⊥ = omega arith in absurd no) }

-- a run that reaches the text's end is whole
at_end : (p : ℕ → Bool) (text : List ℕ) (i j : ℕ) → IsRun p text i j → length text ≤ j → IsWholeRun p text i j
at_end p text i j run past = record { run = run; stops = λ below. (let no : ⊥ = omega arith in absurd no) }

-- a run goes on until it is whole
run_on : (n : ℕ) (p : ℕ → Bool) (text : List ℕ) (i j : ℕ) → IsRun p text i j → length text ≤ j + n → (to : ℕ) × IsWholeRun p text i to
run_on zero p text i j run past = (j, at_end p text i j run (omega arith))
run_on (suc n) p text i j run past = elim (cases_lt j (length text)) [
  | inl below ↦ elim (cases_Bool (p (slice_index text j))) [
    | inl passes ↦ run_on n p text i (j + 1) (run_more run below passes) (omega arith)
    | inr stops ↦ (j, record { run = run; stops = λ b. stops })
  ]
  | inr over ↦ (j, at_end p text i j run over)
]

-- at each place begins a whole run, if of no bytes
pub whole_run : (p : ℕ → Bool) (text : List ℕ) (i : ℕ) → i ≤ length text → (j : ℕ) × IsWholeRun p text i j
whole_run p text i within = run_on (length text) p text i i (no_run p text i within) (omega arith)

-- a byte of a comment
abbrev in_line : ℕ → Bool
in_line b = not (b == 10)

line_not_feed : (b : ℕ) → in_line b ≡ true → b ≡ 10 → ⊥
line_not_feed b line feed = false≢true (rw feed at line)

feed_is : (b : ℕ) → in_line b ≡ false → b ≡ 10
feed_is b e = grind (arith, nat_tests)

-- a gap that reaches the text's end is whole
gap_at_end : (text : List ℕ) (i j : ℕ) → IsGapSoFar text i j → length text ≤ j → IsGap text i j
gap_at_end text i j so_far past = gap_whole so_far (λ below. (let no : ⊥ = omega arith in absurd no))

-- a gap goes on until it is whole
gap_on : (n : ℕ) (text : List ℕ) (i j : ℕ) → IsGapSoFar text i j → length text ≤ j + n → (to : ℕ) × IsGap text i to
gap_on zero text i j so_far past = (j, gap_at_end text i j so_far (omega arith))
gap_on (suc n) text i j so_far past = elim (cases_lt j (length text)) [
  | inl below ↦ elim (cases_Bool (is_blank (slice_index text j))) [
    | inl blank ↦ gap_on n text i (j + 1) (gap_blank so_far below blank) (omega arith)
    | inr filled ↦ elim (cases_eq (slice_index text j) 37) [
      | inl percent ↦
          let c = whole_run in_line text (j + 1) (omega arith) in
          let ordered = c.1.run.ordered in
          gap_on n text i c.0 (gap_comment so_far percent (omega arith) c.1.run.within
          (λ k from before feed. line_not_feed (slice_index text k) (c.1.run.each k (omega arith) before) feed)
          (λ more. feed_is (slice_index text c.0) (c.1.stops more))) (omega arith)
      | inr other ↦ (j, gap_whole so_far (λ b. (filled, other)))
    ]
  ]
  | inr over ↦ (j, gap_at_end text i j so_far over)
]

-- at each place begins a gap, if of no bytes
pub gap_at : (text : List ℕ) (i : ℕ) → i ≤ length text → (j : ℕ) × IsGap text i j
gap_at text i within = gap_on (length text) text i i (gap_none within) (omega arith)

-- what stands between quotes ends somewhere, or nowhere
abbrev pub EndsOrNot : List ℕ → ℕ → Type 0
EndsOrNot text i = ((j : ℕ) → IsTextEnd text i j → ⊥) ⊎ ((j : ℕ) × IsTextEnd text i j)

-- a plain byte before it changes nothing
before_plain : (text : List ℕ) (i : ℕ) → i < length text → (slice_index text i ≡ 34 → ⊥) → (slice_index text i ≡ 92 → ⊥) → (slice_index text i ≡ 10 → ⊥) → EndsOrNot text (i + 1) → EndsOrNot text i
before_plain text i below a b c e =
    let passes = is_plain_byte (slice_index text i) a b c in
    elim e [
      | inl none ↦ inl (λ j t. none j (after_plain passes t))
      | inr some ↦ inr (some.0, end_plain below passes some.1)
    ]

-- nor does a `\` with its byte
before_escaped : (text : List ℕ) (i : ℕ) → i + 1 < length text → slice_index text i ≡ 92 → (slice_index text (i + 1) ≡ 10 → ⊥) → EndsOrNot text (i + 2) → EndsOrNot text i
before_escaped text i below slash c e = elim e [
  | inl none ↦ inl (λ j t. none j (after_slash slash t).2)
  | inr some ↦ inr (some.0, end_escaped below slash c some.1)
]

-- a `\` at the text's end has no byte
slash_at_end : (text : List ℕ) (i j : ℕ) → length text ≤ i + 1 → slice_index text i ≡ 92 → IsTextEnd text i j → ⊥
slash_at_end text i j past slash t = let a = (after_slash slash t).0 in omega arith

end_on : (n : ℕ) (text : List ℕ) (i : ℕ) → length text ≤ i + n → EndsOrNot text i
end_on zero text i past = inl (λ j t. not_past (omega arith) t)
end_on (suc n) text i past = elim (cases_lt i (length text)) [
  | inr over ↦ inl (λ j t. not_past over t)
  | inl below ↦ elim (cases_eq (slice_index text i) 34) [
    | inl quote ↦ inr (i + 1, end_here below quote)
    | inr no_quote ↦ elim (cases_eq (slice_index text i) 10) [
      | inl feed ↦ inl (λ j t. not_at_feed feed t)
      | inr no_feed ↦ elim (cases_eq (slice_index text i) 92) [
        | inr no_slash ↦ before_plain text i below no_quote no_slash no_feed (end_on n text (i + 1) (omega arith))
        | inl slash ↦ elim (cases_lt (i + 1) (length text)) [
          | inr over ↦ inl (λ j t. slash_at_end text i j over slash t)
          | inl next ↦ elim (cases_eq (slice_index text (i + 1)) 10) [
            | inl feed ↦ inl (λ j t. (after_slash slash t).1 feed)
            | inr plain ↦ before_escaped text i next slash plain (end_on n text (i + 2) (omega arith))
          ]
        ]
      ]
    ]
  ]
]

-- from each place on
pub end_or_not : (text : List ℕ) (i : ℕ) → EndsOrNot text i
end_or_not text i = end_on (length text) text i (omega arith)
