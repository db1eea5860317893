-- The sums over all agents.
use Rattle.std.proofs.Common.{◌≡◌, ◌∙◌, ℕ, zero, suc, ◌+◌, ◌≤◌, List, [], ◌∷◌, ◌++◌, take, length, refl, sym, ap, arith}
use Rattle.std.specs.List.{sum_by}
use Rattle.std.proofs.lemmas.List.{take_all, take_more}
use Rattle.std.proofs.lemmas.List.Sums.{sum_by-append}
use Rattle.dcsp_defs.specs.Words.{sum_below}
use Rattle.dcsp_defs.specs.Csp.{Csp}
use Rattle.abt_defs.specs.Events.{Act}
use Rattle.abt_defs.specs.Measures as measures
use Rattle.abt_defs.specs.Measures.{row, total}
use Rattle.abt_measure.specs.declared.row.Row.{Row}
use Rattle.abt_measure.specs.declared.totals.Totals.{Totals}
use Rattle.abt_measure.specs.Rows.{as_row, blank_row}
use Rattle.abt_measure.specs.Counting.{row_at, AreRows}
use Rattle.abt_measure.specs.Totals.{totals_of, AreSums}

module _ (p : Csp) (acts : List Act) (rows : List Row) (h : AreRows p acts rows) where
  some_rows : (g : Row → ℕ) (f : measures.Row → ℕ) → ((r : Row) → g r ≡ f (as_row r)) → (n : ℕ) → n ≤ length rows → sum_by g (take n rows) ≡ sum_below (λ i. f (row p acts i)) n
  some_rows g f same zero l = refl
  some_rows g f same (suc n) l =
      let m : suc n ≡ n + 1 = omega arith in
      let one : g (row_at rows n) ≡ f (row p acts n) = same (row_at rows n) ∙ ap f (h.each n (let long = h.long in omega arith)) in
      let rest = some_rows g f same n (omega arith) in
      let a : sum_by g (take (suc n) rows) ≡ sum_by g (take n rows ++ row_at rows n ∷ []) = ap (λ k. sum_by g (take k rows)) m ∙ ap (sum_by g) (take_more rows n blank_row (omega arith)) in
      let b = sum_by-append g (take n rows) (row_at rows n ∷ []) in
      omega arith

  all_rows : (g : Row → ℕ) (f : measures.Row → ℕ) → ((r : Row) → g r ≡ f (as_row r)) → sum_by g rows ≡ total p acts f
  all_rows g f same =
      ap (sum_by g) (sym (take_all (length rows) rows (omega arith))) ∙ some_rows g f same (length rows) (omega arith) ∙ ap (sum_below (λ i. f (row p acts i))) h.long

  made : ℕ → ℕ → ℕ → ℕ → ℕ → Totals
  made ok nogood link constraints nogoods = record { got = record { ok = ok; nogood = nogood; link = link }; constraints = constraints; nogoods = nogoods }

  -- the sums are the totals
  pub are_totals : (t : Totals) → AreSums rows t → t ≡ totals_of p acts
  unfolding made
  are_totals t s =
      let a = s.ok ∙ all_rows (λ r. r.got.ok) (λ r. r.got.ok) (λ r. refl) in
      let b = s.nogood ∙ all_rows (λ r. r.got.nogood) (λ r. r.got.nogood) (λ r. refl) in
      let d = s.link ∙ all_rows (λ r. r.got.link) (λ r. r.got.link) (λ r. refl) in
      let e = s.constraints ∙ all_rows (λ r. r.constraints) (λ r. r.constraints) (λ r. refl) in
      let f = s.nogoods ∙ all_rows (λ r. r.nogoods) (λ r. r.nogoods) (λ r. refl) in
      let z = totals_of p acts in
      let one : made t.got.ok t.got.nogood t.got.link t.constraints t.nogoods ≡ made z.got.ok t.got.nogood t.got.link t.constraints t.nogoods = ap (λ x. made x t.got.nogood t.got.link t.constraints t.nogoods) a in
      let two : made z.got.ok t.got.nogood t.got.link t.constraints t.nogoods ≡ made z.got.ok z.got.nogood t.got.link t.constraints t.nogoods = ap (λ x. made z.got.ok x t.got.link t.constraints t.nogoods) b in
      let three : made z.got.ok z.got.nogood t.got.link t.constraints t.nogoods ≡ made z.got.ok z.got.nogood z.got.link t.constraints t.nogoods = ap (λ x. made z.got.ok z.got.nogood x t.constraints t.nogoods) d in
      let four : made z.got.ok z.got.nogood z.got.link t.constraints t.nogoods ≡ made z.got.ok z.got.nogood z.got.link z.constraints t.nogoods = ap (λ x. made z.got.ok z.got.nogood z.got.link x t.nogoods) e in
      one ∙ two ∙ three ∙ four ∙ ap (made z.got.ok z.got.nogood z.got.link z.constraints) f
