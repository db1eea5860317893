-- What the options of `solve` set.
use Rattle.std.specs.Prelude.{ℕ, Bool, List, Option, option_copied}
use Rattle.abt_session.specs.declared.telling.Telling.{Telling}
use Rattle.line_replay.specs.declared.solve.Options.{Options}

-- how a run from a seed is made, and each round of a search
pub record Settings : Type 0 where
  pub seed : ℕ
  -- the run has so many choices: the first ones of the seed's
  pub choices : ℕ
  -- the name of the record, where one is asked for
  pub record_file : Option (List ℕ)
  -- the name of the order, where one is given
  pub order_file : Option (List ℕ)
  -- whether the trace is put
  pub trace : Bool
  -- whether it is told every so often how far the run is
  pub progress : Bool
  -- whether a search puts each solution as soon as it is found
  pub each : Bool
  -- whether a search goes by halves
  pub halves : Bool

-- what these options set
abbrev pub settings_of : Options → Settings
settings_of options = record {
  seed = options.seed;
  choices = options.choices;
  record_file = option_copied options.record_file;
  order_file = option_copied options.order_file;
  trace = options.trace;
  progress = options.progress;
  each = options.each;
  halves = options.halves;
}

-- what is put of each delivery of a run that is set so, or of the round of a search with this number
abbrev pub telling_of : Settings → Option ℕ → Telling
telling_of s round = record { trace = s.trace; progress = s.progress; round = round }
