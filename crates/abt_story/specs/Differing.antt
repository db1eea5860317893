-- Runs with different deliveries have different stories.
use Rattle.std.specs.Prelude.{◌≡◌, ◌≢◌, ℕ, ◌<◌, ◌≤◌, ◌^◌, ℤ, true, List, ◌++◌, Option, codes, slice_index_or, FitsSigned}
use Rattle.std.specs.Str.{byte}
use Rattle.std.specs.Int.{w64}
use Rattle.dcsp_defs.specs.Words.{In}
use Rattle.dcsp_defs.specs.Csp.{Csp, IsCsp, count, domain}
use Rattle.abt_defs.specs.Runs.{whole}
use Rattle.abt_session.specs.Sessions.{Session, run_of}
use Rattle.abt_session.specs.Running.{trace_told}
use Rattle.abt_session.specs.Order.{told_text}
use Rattle.abt_story.specs.Numbers.{IsOrderOn}
use Rattle.abt_story.specs.Texts.{lines_text}
use Rattle.abt_story.specs.Retelling.{lines_of}

-- its agents and values have numbers that the lines can name
pub record HasNames (p : Csp) : Type 0 where
  pub few : count p < 2 ^ 32
  pub values : (x : ℕ) (v : ℤ) → x < count p → In v (domain p x) → FitsSigned w64 v

-- where two texts begin with the lines of runs under one order, and each goes on with a last line, the texts are equal only if the runs have the same deliveries
abbrev pub StoriesDiffer : Option (List ℕ) → Csp → Type 0
StoriesDiffer order p = IsCsp p → IsOrderOn order p → HasNames p → (most : ℕ) → most ≤ 2 ^ 40 → (choices others rest more : List ℕ)
    → lines_text (lines_of order p choices (whole p most choices)) ++ (codes "end " ++ rest) ≡ lines_text (lines_of order p others (whole p most others)) ++ (codes "end " ++ more)
    → (whole p most choices).trace ≡ (whole p most others).trace

-- a run of a well-formed problem, under an order of its variables or none, which tells its trace and nothing else
pub record TellsTrace (s : Session) : Type 0 where
  pub problem : IsCsp s.problem
  pub order : IsOrderOn s.order s.problem
  pub names : HasNames s.problem
  pub few : s.most ≤ 2 ^ 40
  pub trace : s.telling ≡ trace_told true

-- Two runs of one problem under one order, each with an answer behind its trace that does not begin with the byte of a trace's line, have equal texts only where they have the same deliveries and the same answer.
abbrev pub TracesDiffer : Type 0
TracesDiffer = (s t : Session) → TellsTrace s → TellsTrace t → t.problem ≡ s.problem → t.order ≡ s.order
    → (answer other : List ℕ) → slice_index_or answer 0 0 ≢ byte "%" → slice_index_or other 0 0 ≢ byte "%"
    → told_text s ++ answer ≡ told_text t ++ other → ((run_of s).trace ≡ (run_of t).trace) × (answer ≡ other)
