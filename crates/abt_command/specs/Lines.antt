-- The lines of words that the program takes, each with all that is said of it.
use Rattle.std.specs.Prelude.{◌≡◌, ℕ, ◌+◌, ◌-◌, ◌^◌, ℤ, List, Bool, true, nat_lt, Option, Some, None, Result, IfOk, ⊤, option_copied, unwrap_or, codes}
use Rattle.abt_words.specs.declared.rows.LineName.{LineName}
use Rattle.abt_words.specs.declared.rows.LineName.TheVariants as names
use Rattle.abt_words.specs.declared.rows.TheConstants.{SOLVE, REPLAY, CHECK, UPGRADE, CORE, EXPORT, STARVE, LOSSY, MEASURE, SURVEY, STORY, BOUND, ORDER, QUEENS, COLOURING, SPARSE, PIGEONS, BINARY, MEETINGS, SENSORS, DRILL, CNF, RUP, HELP, VERSION, USAGE}
use Rattle.abt_words.specs.Rows.{Row, row_of, the_rows}
use Rattle.abt_words.specs.Saying.{Said, IsSaidBy, value_at, setting_at, name_in, word_in, number_in, given_name, given_number, given_signed, is_given}
use Rattle.abt_words.specs.Texts.{help_text, usage_text}
use Rattle.dcsp_script.specs.Scripts.{World}
use Rattle.dcsp_script.specs.declared.status.Status.{Status}
use Rattle.dcsp_script.specs.Promises.{Promise}
use Rattle.abt_input.specs.declared.error.CommandError.{CommandError}
use Rattle.line_model.specs.BoundReports.{bound_promise}
use Rattle.dcsp_gen.specs.Binary.{sizes_fit}
use Rattle.dcsp_gen.specs.Meetings.{meetings_fit}
use Rattle.dcsp_gen.specs.Sensors.{sensors_fit}
use Rattle.dcsp_order.specs.declared.by_rule.OrderRule.{OrderRule}
use Rattle.line_model.specs.OrderPromise.{order_promise, rule_named}
use Rattle.line_model.specs.Generated.{print_promise, queens_promise, colouring_promise, sparse_promise, pigeons_promise, binary_promise, meetings_promise, sensors_promise}
use Rattle.line_check.specs.Taking.{taking_of}
use Rattle.line_check.specs.CheckReports.{check_promise}
use Rattle.line_replay.specs.Settings.{Settings, settings_of}
use Rattle.line_replay.specs.Asked.{most_deliveries}
use Rattle.line_replay.specs.ReplayPromise.{replay_promise}
use Rattle.line_solve.specs.SolvePromise.{solve_promise}
use Rattle.line_drill.specs.DrillPromise.{drill_promise}
use Rattle.line_rewrite.specs.UpgradePromise.{upgrade_promise}
use Rattle.line_rewrite.specs.CorePromise.{core_promise}
use Rattle.line_export.specs.ExportPromise.{export_promise}
use Rattle.line_starve.specs.StarvePromise.{starve_promise}
use Rattle.line_lossy.specs.LossyPromise.{lossy_promise}
use Rattle.line_measure.specs.MeasurePromise.{measure_promise, survey_promise}
use Rattle.line_story.specs.StoryPromise.{story_promise}
use Rattle.line_cnf.specs.RupPromise.{rup_promise}
use Rattle.line_cnf.specs.CnfPromise.{cnf_promise}
use Rattle.abt_command.specs.Meanings.{means_check, means_solve, means_upgrade, means_core, means_export, means_order, means_starve, means_story, means_rup, means_cnf}
use Rattle.abt_command.specs.declared.plain.TheConstants as plain
use Rattle.abt_command.specs.declared.request.Request.{Request}
use Rattle.abt_command.specs.declared.request.Request.TheVariants as requests

-- what the words ask for: a case for each line, with the names, numbers and settings that it is given
pub data Line : Type 0 where
  Help : Line
  Version : Line
  Usage : Line
  Check : (model log : List ℕ) (better : Option ℤ) → Line
  Replay : (model schedule log : List ℕ) (trace : Bool) (order_file : Option (List ℕ)) → Line
  Solve : (model log : List ℕ) (settings : Settings) → Line
  Bound : (model : List ℕ) (order_file : Option (List ℕ)) → Line
  Order : (model : List ℕ) (rule : OrderRule) (file : List ℕ) → Line
  Queens : (n : ℕ) → Line
  Colouring : (n k seed : ℕ) → Line
  Sparse : (n seed : ℕ) → Line
  Binary : (n d edges forbidden seed : ℕ) → Line
  Meetings : (people meetings each hours busy seed : ℕ) → Line
  Sensors : (side targets sees seed : ℕ) → Line
  Pigeons : (n : ℕ) → Line
  Drill : (seed : ℕ) → Line
  Upgrade : (log new : List ℕ) → Line
  Core : (model log trimmed : List ℕ) (better : Option ℤ) → Line
  Export : (model log cnf proof : List ℕ) (told : Bool) (better : Option ℤ) → Line
  Starve : (model : List ℕ) (from to : ℕ) (file : List ℕ) (order_file : Option (List ℕ)) → Line
  Lossy : (model log : List ℕ) (events seed : ℕ) (record_file order_file : Option (List ℕ)) → Line
  Measure : (model schedule : List ℕ) (order_file : Option (List ℕ)) → Line
  Survey : (model : List ℕ) (count from : ℕ) (order_file : Option (List ℕ)) → Line
  Story : (model schedule file : List ℕ) (order_file : Option (List ℕ)) → Line
  Rup : (cnf proof : List ℕ) → Line
  Cnf : (cnf proof : List ℕ) (seed : ℕ) → Line

-- the name or the number in a place
abbrev pub name_at : Said → ℕ → List ℕ
name_at said place = name_in (value_at said place)

abbrev pub number_at : Said → ℕ → ℕ
number_at said place = number_in (value_at said place)

-- the name of the order, where one is given
abbrev pub order_at : Said → Option (List ℕ)
order_at said = given_name (setting_at said (codes "--order"))

-- what the options of `solve` set; there are as many choices as a run may have deliveries where no number of them is given
abbrev pub settings_at : Said → Settings
settings_at said = record {
  seed = unwrap_or (given_number (setting_at said (codes "--seed"))) 0;
  choices = unwrap_or (given_number (setting_at said (codes "--choices"))) most_deliveries;
  record_file = given_name (setting_at said (codes "--record"));
  order_file = order_at said;
  trace = is_given (setting_at said (codes "--trace"));
  progress = is_given (setting_at said (codes "--progress"));
  each = is_given (setting_at said (codes "--each"));
  halves = is_given (setting_at said (codes "--halves"));
}

-- the line of a row, made from what the words say of it; a seed is 0 where none is given
abbrev pub line_named : LineName → Said → Line
line_named names.Help said = Help
line_named names.Version said = Version
line_named names.Usage said = Usage
line_named names.Check said = Check (name_at said 0) (name_at said 1) (given_signed (setting_at said (codes "--better")))
line_named names.Replay said = Replay (name_at said 0) (name_at said 1) (name_at said 2) (is_given (setting_at said (codes "--trace"))) (order_at said)
line_named names.Solve said = Solve (name_at said 0) (name_at said 1) (settings_at said)
line_named names.Bound said = Bound (name_at said 0) (order_at said)
line_named names.Order said = Order (name_at said 0) (rule_named (word_in (value_at said 1))) (name_at said 2)
line_named names.Queens said = Queens (number_at said 0)
line_named names.Colouring said = Colouring (number_at said 0) (number_at said 1) (number_at said 2)
line_named names.Sparse said = Sparse (number_at said 0) (number_at said 1)
line_named names.Pigeons said = Pigeons (number_at said 0)
line_named names.Binary said = Binary (number_at said 0) (number_at said 1) (number_at said 2) (number_at said 3) (number_at said 4)
line_named names.Meetings said =
    Meetings (number_at said 0) (number_at said 1) (number_at said 2) (number_at said 3) (number_at said 4) (number_at said 5)
line_named names.Sensors said = Sensors (number_at said 0) (number_at said 1) (number_at said 2) (number_at said 3)
line_named names.Drill said = Drill (number_at said 0)
line_named names.Upgrade said = Upgrade (name_at said 0) (name_at said 1)
line_named names.Core said = Core (name_at said 0) (name_at said 1) (name_at said 2) (given_signed (setting_at said (codes "--better")))
line_named names.Export said = Export (name_at said 0) (name_at said 1) (name_at said 2) (name_at said 3) (is_given (setting_at said (codes "--atoms"))) (given_signed (setting_at said (codes "--better")))
line_named names.Starve said = Starve (name_at said 0) (number_at said 1) (number_at said 2) (name_at said 3) (order_at said)
line_named names.Lossy said = Lossy (name_at said 0) (name_at said 1) (number_at said 2) (number_at said 3) (given_name (setting_at said (codes "--record"))) (given_name (setting_at said (codes "--order")))
line_named names.Measure said = Measure (name_at said 0) (name_at said 1) (order_at said)
line_named names.Story said = Story (name_at said 0) (name_at said 1) (name_at said 2) (given_name (setting_at said (codes "--order")))
line_named names.Survey said = Survey (name_at said 0) (number_at said 1) (unwrap_or (given_number (setting_at said (codes "--from"))) 0) (order_at said)
line_named names.Rup said = Rup (name_at said 0) (name_at said 1)
line_named names.Cnf said = Cnf (name_at said 0) (name_at said 1) (unwrap_or (given_number (setting_at said (codes "--seed"))) 0)

-- the line of what the words say
abbrev pub line_by : Said → Line
line_by said = line_named said.row.line said

-- the line that a request stands for
abbrev pub line_of : Request → Line
line_of requests.Help = Help
line_of requests.Version = Version
line_of requests.Usage = Usage
line_of (requests.Check line) = Check line.model.now line.log.now line.better
line_of (requests.Replay line) = Replay line.model.now line.schedule.now line.log.now line.trace (option_copied line.order_file)
line_of (requests.Solve line) = Solve line.model.now line.log.now (settings_of line.options)
line_of (requests.Bound line) = Bound line.model.now (option_copied line.order_file)
line_of (requests.Order line) = Order line.model.now line.rule line.file.now
line_of (requests.GenQueens n) = Queens n
line_of (requests.GenColouring n k seed) = Colouring n k seed
line_of (requests.GenSparse n seed) = Sparse n seed
line_of (requests.GenPigeons n) = Pigeons n
line_of (requests.GenBinary sizes seed) = Binary sizes.variables sizes.values sizes.edges sizes.forbidden seed
line_of (requests.GenMeetings sizes seed) = Meetings sizes.people sizes.meetings sizes.each sizes.hours sizes.busy seed
line_of (requests.GenSensors sizes seed) = Sensors sizes.side sizes.targets sizes.sees seed
line_of (requests.Drill seed) = Drill seed
line_of (requests.Upgrade log new) = Upgrade log.now new.now
line_of (requests.Core line) = Core line.model.now line.log.now line.trimmed.now line.better
line_of (requests.Export line) = Export line.model.now line.log.now line.cnf.now line.proof.now line.atoms line.better
line_of (requests.Starve line) = Starve line.model.now line.from line.to line.file.now (option_copied line.order_file)
line_of (requests.Lossy line) = Lossy line.model.now line.log.now line.events line.seed (option_copied line.record_file) (option_copied line.order_file)
line_of (requests.Measure line) = Measure line.model.now line.schedule.now (option_copied line.order_file)
line_of (requests.Story line) = Story line.model.now line.schedule.now line.file.now (option_copied line.order_file)
line_of (requests.Survey line) = Survey line.model.now line.count line.from (option_copied line.order_file)
line_of (requests.Rup cnf proof) = Rup cnf.now proof.now
line_of (requests.Cnf line) = Cnf line.cnf.now line.proof.now line.seed

-- ---- what is said of a line

-- what an answer of a line means beyond its report: nothing, or that this holds of the outside before and after, and of its status
pub data Meaning : Type 1 where
  Nothing : Meaning
  Holds : (World → World → Status → Type 0) → Meaning

-- an answer means this
abbrev pub AnswerMeans : Meaning → World → World → Status → Type 0
AnswerMeans Nothing old new status = ⊤
AnswerMeans (Holds P) old new status = P old new status

-- if a line came to an answer, it means this
abbrev pub CameMeans : Meaning → World → World → Result Status CommandError → Type 0
CameMeans Nothing old new came = ⊤
CameMeans (Holds P) old new came = IfOk came (P old new)

-- its row of words, its promise, what its answers mean beyond its report, the model of which it makes a run, and whether its numbers go together
pub record LineValue : Type 1 where
  pub row : Row
  pub promise : Promise
  pub meaning : Meaning
  pub runs : Option (List ℕ)
  pub within : Bool

-- a line whose report says all
abbrev pub reporting : Row → Promise → LineValue
reporting row promise = record { row = row; promise = promise; meaning = Nothing; runs = None; within = true }

-- a line whose answers mean more
abbrev pub meaning_more : Row → Promise → (World → World → Status → Type 0) → LineValue
meaning_more row promise P = record { row = row; promise = promise; meaning = Holds P; runs = None; within = true }

-- a line that makes a run of a model
abbrev pub running : List ℕ → LineValue → LineValue
running model value = record value { runs = Some model }

-- the last of so many seeds from this one on
abbrev pub last_seed : ℕ → ℕ → ℕ
last_seed from count = from + (count - 1)

abbrev pub value_of : Line → LineValue
value_of Help = reporting (row_of HELP) (print_promise (help_text the_rows))
value_of Version = reporting (row_of VERSION) (print_promise plain.VERSION.now)
value_of Usage = reporting (row_of USAGE) (print_promise (usage_text the_rows))
value_of (Check model log better) = meaning_more (row_of CHECK) (check_promise (taking_of better) model log) (means_check model better)
value_of (Replay model schedule log trace order_file) = running model (reporting (row_of REPLAY) (replay_promise model schedule log trace order_file))
value_of (Solve model log settings) = running model (meaning_more (row_of SOLVE) (solve_promise model log settings) (means_solve model log settings))
value_of (Bound model order_file) = reporting (row_of BOUND) (bound_promise model order_file)
value_of (Order model rule file) = meaning_more (row_of ORDER) (order_promise model rule file) (means_order model rule file)
value_of (Queens n) = reporting (row_of QUEENS) (queens_promise n)
value_of (Colouring n k seed) = reporting (row_of COLOURING) (colouring_promise n k seed)
value_of (Sparse n seed) = reporting (row_of SPARSE) (sparse_promise n seed)
value_of (Pigeons n) = reporting (row_of PIGEONS) (pigeons_promise n)
value_of (Binary n d edges forbidden seed) =
    record (reporting (row_of BINARY) (binary_promise n d edges forbidden seed)) { within = sizes_fit n d edges forbidden }
value_of (Meetings people meetings each hours busy seed) =
    record (reporting (row_of MEETINGS) (meetings_promise people meetings each hours busy seed)) { within = meetings_fit people each hours busy }
value_of (Sensors side targets sees seed) = record (reporting (row_of SENSORS) (sensors_promise side targets sees seed)) { within = sensors_fit side sees }
value_of (Drill seed) = reporting (row_of DRILL) (drill_promise seed)
value_of (Upgrade log new) = meaning_more (row_of UPGRADE) (upgrade_promise log new) (means_upgrade log new)
value_of (Core model log trimmed better) = meaning_more (row_of CORE) (core_promise (taking_of better) model log trimmed) (means_core model log trimmed better)
value_of (Export model log cnf proof told better) = meaning_more (row_of EXPORT) (export_promise (taking_of better) model log cnf proof told) (means_export model log cnf proof told better)
value_of (Starve model from to file order_file) = meaning_more (row_of STARVE) (starve_promise model from to file order_file) (means_starve model from to file order_file)
value_of (Lossy model log events seed record_file order_file) = reporting (row_of LOSSY) (lossy_promise model order_file log events seed record_file)
value_of (Measure model schedule order_file) = reporting (row_of MEASURE) (measure_promise model schedule order_file)
value_of (Story model schedule file order_file) = meaning_more (row_of STORY) (story_promise model order_file schedule file) (means_story model schedule file order_file)
value_of (Survey model count from order_file) =
    record (reporting (row_of SURVEY) (survey_promise model from count order_file)) { within = nat_lt (last_seed from count) (2 ^ 64) }
value_of (Rup cnf proof) = meaning_more (row_of RUP) (rup_promise cnf proof) (means_rup cnf proof)
value_of (Cnf cnf proof seed) = meaning_more (row_of CNF) (cnf_promise cnf proof seed) (means_cnf cnf proof seed)

-- the words are this line: they say a row, the line is made from what they say, and its numbers go together
pub record IsLine (words : List (List ℕ)) (line : Line) : Type 0 where
  pub said : Said
  pub is_said : IsSaidBy the_rows words said
  pub line_is : line ≡ line_by said
  pub within : (value_of line).within ≡ true

-- some words are this line
abbrev pub IsSomeLine : Line → Type 0
IsSomeLine line = (words : List (List ℕ)) × IsLine words line

-- the words are no line of the program
abbrev pub IsNoLine : List (List ℕ) → Type 0
IsNoLine words = (line : Line) → IsLine words line → ⊥

-- the promise of a line
abbrev pub promise_of : Line → Promise
promise_of line = (value_of line).promise

-- what the line's answer with this status means, with the outside before and after
abbrev pub Means : Line → World → World → Status → Type 0
Means line = AnswerMeans (value_of line).meaning

-- the request stands for this line, whose numbers go together
pub record IsRequest (request : Request) (line : Line) : Type 0 where
  pub line_is : line_of request ≡ line
  pub within : (value_of line).within ≡ true
