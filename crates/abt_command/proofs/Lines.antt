-- Lines of words, and how they end.
use Rattle.std.proofs.Common.{◌≡◌, ◌≢◌, ℕ, ℤ, ◌≤◌, ◌^◌, Bool, true, List, [], ◌∷◌, ◌++◌, get_or, slice_get, Option, Some, None, unwrap_or, Result, Ok, Err, refl, sym, ap, subst, ◌∙◌, arith, codes, ◌+◌, false, nat_lt}
use Rattle.std.specs.Prelude.{IfSome}
use Rattle.std.proofs.lemmas.Bool.Decides.{nat_tests}
use Rattle.dcsp_outside.specs.Outside.{Stream}
use Rattle.dcsp_script.specs.Scripts.{World}
use Rattle.dcsp_script.specs.declared.status.Status.{Status}
use Rattle.dcsp_script.specs.Statuses.{IsFinal, IsRefusal}
use Rattle.dcsp_script.specs.Promises.{IsSaid}
use Rattle.dcsp_script.specs.Runs.{Concludes}
use Rattle.dcsp_script.specs.Clauses.{IsLawful}
use Rattle.abt_input.specs.declared.error.CommandError.{CommandError}
use Rattle.abt_input.specs.declared.error.CommandError.TheVariants.{ModelLong, ModelRefused, NoAim, LogLong, LogLine, ScheduleLong, ScheduleLine, OrderRefused, Clauses, Fault, Memory}
use Rattle.abt_input.specs.Errors.{error_status, error_text, way_of}
use Rattle.abt_input.proofs.Cnfs.{clauses_refuse}
use Rattle.abt_words.specs.declared.rows.LineName.{LineName}
use Rattle.abt_words.specs.declared.row.Content.TheVariants.{Model, Log, Formula, Proof}
use Rattle.abt_words.specs.declared.row.Access.TheVariants.{Read, Written}
use Rattle.abt_words.specs.declared.rows.TheConstants.{SOLVE, REPLAY, EXPORT, LOSSY, STARVE, QUEENS, COLOURING, SPARSE, PIGEONS, BINARY, MEETINGS, SENSORS}
use Rattle.abt_words.specs.Rows.{Number, Place, Row, row_of, run_rows, other_rows, the_rows}
use Rattle.abt_words.specs.Saying.{Value, Absent, Fill, Said, IsSaidBy, names_differ, setting_of, name_in, given_name, given_number, Gives, none_given}
use Rattle.abt_words.proofs.Once.{one_said, rows_are_apart}
use Rattle.abt_words.proofs.Read.{of_each, number_within, given_within, a_name, names_apart, if_name}
use Rattle.line_model.proofs.Lawful.{bound_lawful, order_lawful, print_lawful}
use Rattle.line_replay.specs.Settings.{Settings}
use Rattle.line_replay.specs.Asked.{most_deliveries}
use Rattle.line_replay.proofs.Lawful.{replay_lawful}
use Rattle.line_solve.proofs.Lawful.{solve_lawful}
use Rattle.abt_command.specs.declared.request.Request.{Request}
use Rattle.abt_command.specs.Lines.{Line, Help, Version, Usage, Check, Replay, Solve, Bound, Order, Queens, Colouring, Sparse, Pigeons, Binary, Meetings, Sensors, Drill, Upgrade, Core, Export, Starve, Lossy, Measure, Survey, Story, Rup, Cnf, IsLine, IsNoLine, IsRequest, IsSomeLine, Meaning, Nothing, Holds, AnswerMeans, CameMeans, line_named, line_by, last_seed, line_of, number_at, promise_of, value_of}
use Rattle.line_check.proofs.Lawful.{check_lawful}
use Rattle.line_drill.proofs.Lawful.{drill_lawful}
use Rattle.line_rewrite.proofs.Lawful.{upgrade_lawful}
use Rattle.line_rewrite.proofs.CoreLawful.{core_lawful}
use Rattle.line_export.proofs.Lawful.{export_lawful}
use Rattle.line_starve.proofs.Lawful.{starve_lawful}
use Rattle.line_lossy.proofs.Lawful.{lossy_lawful}
use Rattle.line_measure.proofs.Lawful.{measure_lawful, survey_lawful}
use Rattle.line_story.proofs.Lawful.{story_lawful}
use Rattle.line_cnf.proofs.Lawful.{rup_lawful}
use Rattle.line_cnf.proofs.CnfLawful.{cnf_lawful}

-- words are at most one line
pub one_line : (words : List (List ℕ)) (line other : Line) → IsLine words line → IsLine words other → line ≡ other
one_line words line other h k = h.line_is ∙ (ap line_by (one_said the_rows rows_are_apart words h.said k.said h.is_said k.is_said) ∙ sym k.line_is)

-- a request that stands for what the words say is their line
pub is_line : (words : List (List ℕ)) (said : Said) (request : Request) → IsSaidBy the_rows words said → IsRequest request (line_by said) → IsLine words (line_of request)
is_line words said request is o = record { said = said; is_said = is; line_is = o.line_is; within = ap (λ l. (value_of l).within) o.line_is ∙ o.within }

-- words whose numbers do not go together are no line
pub no_line : (words : List (List ℕ)) (said : Said) → IsSaidBy the_rows words said → (value_of (line_by said)).within ≡ false → IsNoLine words
no_line words said is e line h =
    let same : line ≡ line_by said = h.line_is ∙ ap line_by (one_said the_rows rows_are_apart words h.said said h.is_said is) in
    let within : (value_of line).within ≡ (value_of (line_by said)).within = ap (λ l. (value_of l).within) same in
    let true_there = h.within in cc

-- what holds of a request holds of the one that was made
pub some_order : {X : Type 0} {P Q : X → Type 0} (o : Option X) → ((x : X) → P x → Q x) → IfSome o P → IfSome o Q
some_order None f h = h
some_order (Some x) f h = f x h

-- the same is in both
pub one_some : {T : Type 0} {x y : T} → Some x ≡ Some y → x ≡ y
one_some e = cc

-- ---- rows of lines

-- a row that stands among the rows is that of the line which is made from it
pub its_row : (said : Said) (i : ℕ) (row : Row) → slice_get the_rows i ≡ Some row → row ≡ (value_of (line_named row.line said)).row
unfolding the_rows run_rows other_rows
its_row said = of_each (λ row. row ≡ (value_of (line_named row.line said)).row) the_rows (refl, (refl, (refl, (refl, (refl, (refl, (refl, (refl, (refl, (refl, (refl, (refl, (refl, (refl, (refl, (refl, (refl, (refl, (refl, (refl, (refl, (refl, (refl, (refl, (refl, (refl, tt))))))))))))))))))))))))))

-- what the words of a line say: its row, the values of which fill its places and have names that differ
pub record Spoken (line : Line) : Type 0 where
  pub said : Said
  pub row_is : said.row ≡ (value_of line).row
  pub fill : Fill (value_of line).row.places said.values
  pub options : List (List ℕ)
  pub gives : Gives (value_of line).row.options options (none_given (value_of line).row.options) said.settings
  pub differ : names_differ (said.values ++ said.settings) ≡ true
  pub line_is : line ≡ line_named (value_of line).row.line said

pub spoken : (words : List (List ℕ)) (line : Line) → IsLine words line → Spoken line
spoken words line h =
    let row = its_row h.said h.is_said.place h.said.row h.is_said.row ∙ sym (ap (λ l. (value_of l).row) h.line_is) in
    record {
      said = h.said;
      row_is = row;
      fill = subst (λ (r : Row). Fill r.places h.said.values) row h.is_said.says.fill;
      options = h.is_said.says.options;
      gives = subst (λ (r : Row). Gives r.options h.is_said.says.options (none_given r.options) h.said.settings) row h.is_said.says.gives;
      differ = h.is_said.says.names;
      line_is = h.line_is ∙ ap (λ (r : Row). line_named r.line h.said) row;
    }

-- ---- numbers

-- a number that is said is at most what its row says
pub at_most : (words : List (List ℕ)) (said : Said) → IsSaidBy the_rows words said → (name : LineName) → said.row.line ≡ name
    → (i : ℕ) (place : Place) (least most : ℕ) → slice_get (value_of (line_named name said)).row.places i ≡ Some place → place.kind ≡ Number least most → number_at said i ≤ most
at_most words said is name e i place least most s k =
    let row = its_row said is.place said.row is.row ∙ ap (λ n. (value_of (line_named n said)).row) e in
    (number_within (value_of (line_named name said)).row.places said.values i place least most s k (subst (λ (r : Row). Fill r.places said.values) row is.says.fill)).1

-- and at least what its row says
pub at_least : (words : List (List ℕ)) (said : Said) → IsSaidBy the_rows words said → (name : LineName) → said.row.line ≡ name
    → (i : ℕ) (place : Place) (least most : ℕ) → slice_get (value_of (line_named name said)).row.places i ≡ Some place → place.kind ≡ Number least most → least ≤ number_at said i
at_least words said is name e i place least most s k =
    let row = its_row said is.place said.row is.row ∙ ap (λ n. (value_of (line_named n said)).row) e in
    (number_within (value_of (line_named name said)).row.places said.values i place least most s k (subst (λ (r : Row). Fill r.places said.values) row is.says.fill)).0

-- the seeds of a survey have 64 bits
pub survey_within : (model : List ℕ) (count from : ℕ) (order_file : Option (List ℕ)) → IsSomeLine (Survey model count from order_file) → from + count ≤ 2 ^ 64
survey_within model count from order_file some = let w : nat_lt (last_seed from count) (2 ^ 64) ≡ true = some.1.within in grind (arith, nat_tests)

pub queens_within : (n : ℕ) → IsSomeLine (Queens n) → (1 ≤ n) × (n ≤ 200)
queens_within n some =
    let s = spoken some.0 (Queens n) some.1 in
    let is : n ≡ number_at s.said 0 = the_nodes n (number_at s.said 0) s.line_is in
    subst (λ m. (1 ≤ m) × (m ≤ 200)) (sym is) (number_within (row_of QUEENS).places s.said.values 0 _ 1 200 refl refl s.fill)
  where
    the_nodes : (m n : ℕ) → Queens m ≡ Queens n → m ≡ n
    the_nodes m n e = cc

pub colouring_within : (n k seed : ℕ) → IsSomeLine (Colouring n k seed) → (1 ≤ n) × (n ≤ 200)
colouring_within n k seed some =
    let s = spoken some.0 (Colouring n k seed) some.1 in
    let is : n ≡ number_at s.said 0 = the_nodes _ _ _ _ _ _ s.line_is in
    subst (λ m. (1 ≤ m) × (m ≤ 200)) (sym is) (number_within (row_of COLOURING).places s.said.values 0 _ 1 200 refl refl s.fill)
  where
    the_nodes : (m n k l a b : ℕ) → Colouring m k a ≡ Colouring n l b → m ≡ n
    the_nodes m n k l a b e = cc

pub sparse_within : (n seed : ℕ) → IsSomeLine (Sparse n seed) → (1 ≤ n) × (n ≤ 4096)
sparse_within n seed some =
    let s = spoken some.0 (Sparse n seed) some.1 in
    let is : n ≡ number_at s.said 0 = the_nodes _ _ _ _ s.line_is in
    subst (λ m. (1 ≤ m) × (m ≤ 4096)) (sym is) (number_within (row_of SPARSE).places s.said.values 0 _ 1 4096 refl refl s.fill)
  where
    the_nodes : (m n a b : ℕ) → Sparse m a ≡ Sparse n b → m ≡ n
    the_nodes m n a b e = cc

pub binary_within : (n d edges forbidden seed : ℕ) → IsSomeLine (Binary n d edges forbidden seed) → (1 ≤ n) × (n ≤ 200) × (1 ≤ d) × (d ≤ 100)
binary_within n d edges forbidden seed some =
    let s = spoken some.0 (Binary n d edges forbidden seed) some.1 in
    let one : n ≡ number_at s.said 0 = the_variables _ _ _ _ _ _ _ _ _ _ s.line_is in
    let two : d ≡ number_at s.said 1 = the_domain _ _ _ _ _ _ _ _ _ _ s.line_is in
    let variables = number_within (row_of BINARY).places s.said.values 0 _ 1 200 refl refl s.fill in
    let values = number_within (row_of BINARY).places s.said.values 1 _ 1 100 refl refl s.fill in
    subst (λ m. (1 ≤ m) × (m ≤ 200) × (1 ≤ d) × (d ≤ 100)) (sym one) (subst (λ m. (1 ≤ number_at s.said 0) × (number_at s.said 0 ≤ 200) × (1 ≤ m) × (m ≤ 100)) (sym two) (variables.0, variables.1, values.0, values.1))
  where
    the_variables : (m n a b e f i j k l : ℕ) → Binary m a e i k ≡ Binary n b f j l → m ≡ n
    the_variables m n a b e f i j k l same = cc

    the_domain : (m n a b e f i j k l : ℕ) → Binary m a e i k ≡ Binary n b f j l → a ≡ b
    the_domain m n a b e f i j k l same = cc

pub meetings_within : (people meetings each hours busy seed : ℕ) → IsSomeLine (Meetings people meetings each hours busy seed) → (people ≤ 64) × (meetings ≤ 64) × (hours ≤ 100)
meetings_within people meetings each hours busy seed some =
    let s = spoken some.0 (Meetings people meetings each hours busy seed) some.1 in
    let is = the_sizes _ _ _ _ _ _ _ _ _ _ _ _ s.line_is in
    let within = λ (i : ℕ) (place : Place) (least most : ℕ). number_within (row_of MEETINGS).places s.said.values i place least most in (
      subst (λ m. m ≤ 64) (sym is.0) (within 0 _ 1 64 refl refl s.fill).1,
      subst (λ m. m ≤ 64) (sym is.1) (within 1 _ 1 64 refl refl s.fill).1,
      subst (λ m. m ≤ 100) (sym is.2) (within 3 _ 1 100 refl refl s.fill).1,
    )
  where
    the_sizes : (a b c d e f k l m n o p : ℕ) → Meetings a b c d e f ≡ Meetings k l m n o p → (a ≡ k) × (b ≡ l) × (d ≡ n)
    the_sizes a b c d e f k l m n o p same = (cc, cc, cc)

pub sensors_within : (side targets sees seed : ℕ) → IsSomeLine (Sensors side targets sees seed) → (1 ≤ side) × (side ≤ 16) × (targets ≤ 32)
sensors_within side targets sees seed some =
    let s = spoken some.0 (Sensors side targets sees seed) some.1 in
    let is = the_sizes _ _ _ _ _ _ _ _ s.line_is in
    let rows = number_within (row_of SENSORS).places s.said.values 0 _ 2 16 refl refl s.fill in
    let most = number_within (row_of SENSORS).places s.said.values 1 _ 1 32 refl refl s.fill in
    let first = rows.0 in
    let one : 1 ≤ number_at s.said 0 = omega (arith, first) in
    (subst (λ m. 1 ≤ m) (sym is.0) one, subst (λ m. m ≤ 16) (sym is.0) rows.1, subst (λ m. m ≤ 32) (sym is.1) most.1)
  where
    the_sizes : (a b c d k l m n : ℕ) → Sensors a b c d ≡ Sensors k l m n → (a ≡ k) × (b ≡ l)
    the_sizes a b c d k l m n same = (cc, cc)

pub pigeons_within : (n : ℕ) → IsSomeLine (Pigeons n) → (2 ≤ n) × (n ≤ 200)
pigeons_within n some =
    let s = spoken some.0 (Pigeons n) some.1 in
    let is : n ≡ number_at s.said 0 = the_pigeons n (number_at s.said 0) s.line_is in
    subst (λ m. (2 ≤ m) × (m ≤ 200)) (sym is) (number_within (row_of PIGEONS).places s.said.values 0 _ 2 200 refl refl s.fill)
  where
    the_pigeons : (m n : ℕ) → Pigeons m ≡ Pigeons n → m ≡ n
    the_pigeons m n e = cc

pub starve_within : (model : List ℕ) (from to : ℕ) (file : List ℕ) (order_file : Option (List ℕ)) → IsSomeLine (Starve model from to file order_file) → (1 ≤ from) × (1 ≤ to)
starve_within model from to file order_file some =
    let s = spoken some.0 (Starve model from to file order_file) some.1 in
    let one : from ≡ number_at s.said 1 = the_from _ _ _ _ _ _ _ _ _ _ s.line_is in
    let two : to ≡ number_at s.said 2 = the_to _ _ _ _ _ _ _ _ _ _ s.line_is in (
      subst (λ m. 1 ≤ m) (sym one) (number_within (row_of STARVE).places s.said.values 1 _ 1 4096 refl refl s.fill).0,
      subst (λ m. 1 ≤ m) (sym two) (number_within (row_of STARVE).places s.said.values 2 _ 1 4096 refl refl s.fill).0,
    )
  where
    the_from : (a b : List ℕ) (m n k l : ℕ) (f g : List ℕ) (o p : Option (List ℕ)) → Starve a m k f o ≡ Starve b n l g p → m ≡ n
    the_from a b m n k l f g o p e = cc

    the_to : (a b : List ℕ) (m n k l : ℕ) (f g : List ℕ) (o p : Option (List ℕ)) → Starve a m k f o ≡ Starve b n l g p → k ≡ l
    the_to a b m n k l f g o p e = cc

-- there are few events
pub lossy_within : (model log : List ℕ) (events seed : ℕ) (record_file order_file : Option (List ℕ)) → IsSomeLine (Lossy model log events seed record_file order_file) → events ≤ 1000000
lossy_within model log events seed record_file order_file some =
    let s = spoken some.0 (Lossy model log events seed record_file order_file) some.1 in
    let is : events ≡ number_at s.said 2 = the_events _ _ _ _ _ _ _ _ _ _ _ _ s.line_is in
    subst (λ m. m ≤ 1000000) (sym is) (number_within (row_of LOSSY).places s.said.values 2 _ 0 1000000 refl refl s.fill).1
  where
    the_events : (a b m n : List ℕ) (e f s t : ℕ) (r q o p : Option (List ℕ)) → Lossy a m e s r o ≡ Lossy b n f t q p → e ≡ f
    the_events a b m n e f s t r q o p is = cc

-- a number of choices, where one is given, is at most as many as a run may have deliveries
or_most : (given : Option ℕ) → IfSome given (λ n. n ≤ most_deliveries) → unwrap_or given most_deliveries ≤ most_deliveries
or_most None h = omega arith
or_most (Some n) h = h

the_settings : (m n l k : List ℕ) (a b : Settings) → Solve m l a ≡ Solve n k b → a ≡ b
the_settings m n l k a b e = cc

pub solve_within : (model log : List ℕ) (settings : Settings) → IsSomeLine (Solve model log settings) → settings.choices ≤ most_deliveries
solve_within model log settings some =
    let s = spoken some.0 (Solve model log settings) some.1 in
    let k = ap (λ (r : Row). unwrap_or (given_number (setting_of r.options s.said.settings (codes "--choices"))) most_deliveries) s.row_is in
    let is : settings.choices ≡ unwrap_or (given_number (get_or s.said.settings 1 Absent)) most_deliveries = ap (λ (x : Settings). x.choices) (the_settings _ _ _ _ _ _ s.line_is) ∙ k in
    subst (λ n. n ≤ most_deliveries) (sym is) (or_most (given_number (get_or s.said.settings 1 Absent)) (given_within (row_of SOLVE).options 1 _ _ 0 (2 ^ 40) refl refl refl s.gives))

-- ---- names

solve_apart : (values settings : List Value) → Fill (row_of SOLVE).places values → names_differ (values ++ settings) ≡ true
    → (name_in (get_or values 0 Absent) ≢ name_in (get_or values 1 Absent))
    × IfSome (given_name (get_or settings 2 Absent)) (λ k. name_in (get_or values 0 Absent) ≢ k)
    × IfSome (given_name (get_or settings 2 Absent)) (λ k. k ≡ name_in (get_or values 1 Absent) → ⊥)
solve_apart [] settings h d = absurd h
solve_apart (v ∷ []) settings h d = absurd h.1
solve_apart (v ∷ w ∷ []) settings h d =
    let a = a_name _ v Model Read refl h.0 in
    let b = a_name _ w Log Written refl h.1.0 in (
      names_apart (v ∷ w ∷ settings) d 0 1 (name_in v) (name_in w) (omega arith) a b,
      if_name (get_or settings 2 Absent) (λ k. name_in v ≢ k) (λ k e. names_apart (v ∷ w ∷ settings) d 0 4 (name_in v) k (omega arith) a e),
      if_name (get_or settings 2 Absent) (λ k. k ≡ name_in w → ⊥) (λ k e g. names_apart (v ∷ w ∷ settings) d 1 4 (name_in w) k (omega arith) b e (sym g)),
    )
solve_apart (v ∷ w ∷ x ∷ more) settings h d = absurd h.1.1

-- the names of `solve` differ
pub record SolveNames (model log : List ℕ) (kept : Option (List ℕ)) : Type 0 where
  pub log_is_other : model ≢ log
  pub record_is_other : IfSome kept (λ k. model ≢ k)
  pub record_is_own : IfSome kept (λ k. k ≡ log → ⊥)

same_names : (m n l k : List ℕ) (r s : Option (List ℕ)) → m ≡ n → l ≡ k → r ≡ s → SolveNames n k s → SolveNames m l r
same_names m n l k r s e f g h = rw (e, f, g) h

pub solve_names : (words : List (List ℕ)) (model log : List ℕ) (settings : Settings) → IsLine words (Solve model log settings) → SolveNames model log settings.record_file
solve_names words model log settings h =
    let s = spoken words (Solve model log settings) h in
    let k = ap (λ (r : Row). given_name (setting_of r.options s.said.settings (codes "--record"))) s.row_is in
    let apart = solve_apart s.said.values s.said.settings s.fill s.differ in
    let m : model ≡ name_in (get_or s.said.values 0 Absent) = cc in
    let l : log ≡ name_in (get_or s.said.values 1 Absent) = cc in
    let r : settings.record_file ≡ given_name (get_or s.said.settings 2 Absent) = the_kept s ∙ k in
    same_names _ _ _ _ _ _ m l r (record { log_is_other = apart.0; record_is_other = apart.1; record_is_own = apart.2 })
  where
    the_kept : (s : Spoken (Solve model log settings)) → settings.record_file ≡ given_name (setting_of s.said.row.options s.said.settings (codes "--record"))
    the_kept s = ap (λ (x : Settings). x.record_file) (the_settings _ _ _ _ _ _ s.line_is)

lossy_apart : (values settings : List Value) → Fill (row_of LOSSY).places values → names_differ (values ++ settings) ≡ true
    → (name_in (get_or values 0 Absent) ≢ name_in (get_or values 1 Absent))
    × IfSome (given_name (get_or settings 0 Absent)) (λ k. name_in (get_or values 0 Absent) ≢ k)
    × IfSome (given_name (get_or settings 0 Absent)) (λ k. k ≡ name_in (get_or values 1 Absent) → ⊥)
lossy_apart [] settings h d = absurd h
lossy_apart (v ∷ []) settings h d = absurd h.1
lossy_apart (v ∷ w ∷ []) settings h d = absurd h.1.1
lossy_apart (v ∷ w ∷ x ∷ []) settings h d = absurd h.1.1.1
lossy_apart (v ∷ w ∷ x ∷ y ∷ []) settings h d =
    let a = a_name _ v Model Read refl h.0 in
    let b = a_name _ w Log Written refl h.1.0 in (
      names_apart (v ∷ w ∷ x ∷ y ∷ settings) d 0 1 (name_in v) (name_in w) (omega arith) a b,
      if_name (get_or settings 0 Absent) (λ k. name_in v ≢ k) (λ k e. names_apart (v ∷ w ∷ x ∷ y ∷ settings) d 0 4 (name_in v) k (omega arith) a e),
      if_name (get_or settings 0 Absent) (λ k. k ≡ name_in w → ⊥) (λ k e g. names_apart (v ∷ w ∷ x ∷ y ∷ settings) d 1 4 (name_in w) k (omega arith) b e (sym g)),
    )
lossy_apart (v ∷ w ∷ x ∷ y ∷ z ∷ more) settings h d = absurd h.1.1.1.1

-- the names of `lossy` differ
pub lossy_names : (words : List (List ℕ)) (model log : List ℕ) (events seed : ℕ) (record_file order_file : Option (List ℕ)) → IsLine words (Lossy model log events seed record_file order_file) → SolveNames model log record_file
lossy_names words model log events seed record_file order_file h =
    let s = spoken words (Lossy model log events seed record_file order_file) h in
    let k = ap (λ (r : Row). given_name (setting_of r.options s.said.settings (codes "--record"))) s.row_is in
    let apart = lossy_apart s.said.values s.said.settings s.fill s.differ in
    let m : model ≡ name_in (get_or s.said.values 0 Absent) = cc in
    let l : log ≡ name_in (get_or s.said.values 1 Absent) = cc in
    let r : record_file ≡ given_name (get_or s.said.settings 0 Absent) = the_record s ∙ k in
    same_names _ _ _ _ _ _ m l r (record { log_is_other = apart.0; record_is_other = apart.1; record_is_own = apart.2 })
  where
    the_record : (s : Spoken (Lossy model log events seed record_file order_file)) → record_file ≡ given_name (setting_of s.said.row.options s.said.settings (codes "--record"))
    the_record s = the_given _ _ _ _ _ _ _ _ _ _ _ _ s.line_is
      where
        the_given : (a b m n : List ℕ) (e f s t : ℕ) (r q o p : Option (List ℕ)) → Lossy a m e s r o ≡ Lossy b n f t q p → r ≡ q
        the_given a b m n e f s t r q o p is = cc

replay_apart : (values settings : List Value) → Fill (row_of REPLAY).places values → names_differ (values ++ settings) ≡ true → name_in (get_or values 0 Absent) ≢ name_in (get_or values 2 Absent)
replay_apart [] settings h d = absurd h
replay_apart (v ∷ []) settings h d = absurd h.1
replay_apart (v ∷ w ∷ []) settings h d = absurd h.1.1
replay_apart (v ∷ w ∷ x ∷ []) settings h d = names_apart (v ∷ w ∷ x ∷ settings) d 0 2 (name_in v) (name_in x) (omega arith) (a_name _ v Model Read refl h.0) (a_name _ x Log Written refl h.1.1.0)
replay_apart (v ∷ w ∷ x ∷ y ∷ more) settings h d = absurd h.1.1.1

-- the log of `replay` is not its model
pub replay_names : (words : List (List ℕ)) (model schedule log : List ℕ) (trace : Bool) (order_file : Option (List ℕ)) → IsLine words (Replay model schedule log trace order_file) → model ≢ log
replay_names words model schedule log trace order_file h =
    let s = spoken words (Replay model schedule log trace order_file) h in
    let m : model ≡ name_in (get_or s.said.values 0 Absent) = cc in
    let l : log ≡ name_in (get_or s.said.values 2 Absent) = cc in
    λ e. replay_apart s.said.values s.said.settings s.fill s.differ (sym m ∙ (e ∙ l))

export_apart : (values settings : List Value) → Fill (row_of EXPORT).places values → names_differ (values ++ settings) ≡ true → name_in (get_or values 2 Absent) ≢ name_in (get_or values 3 Absent)
export_apart [] settings h d = absurd h
export_apart (v ∷ []) settings h d = absurd h.1
export_apart (v ∷ w ∷ []) settings h d = absurd h.1.1
export_apart (v ∷ w ∷ x ∷ []) settings h d = absurd h.1.1.1
export_apart (v ∷ w ∷ x ∷ y ∷ []) settings h d = names_apart (v ∷ w ∷ x ∷ y ∷ settings) d 2 3 (name_in x) (name_in y) (omega arith) (a_name _ x Formula Written refl h.1.1.0) (a_name _ y Proof Written refl h.1.1.1.0)
export_apart (v ∷ w ∷ x ∷ y ∷ z ∷ more) settings h d = absurd h.1.1.1.1

-- formula and proof of `export` are under two names
pub export_names : (words : List (List ℕ)) (model log cnf proof : List ℕ) (told : Bool) (better : Option ℤ) → IsLine words (Export model log cnf proof told better) → cnf ≢ proof
export_names words model log cnf proof told better h =
    let s = spoken words (Export model log cnf proof told better) h in
    let c : cnf ≡ name_in (get_or s.said.values 2 Absent) = cc in
    let p : proof ≡ name_in (get_or s.said.values 3 Absent) = cc in
    λ e. export_apart s.said.values s.said.settings s.fill s.differ (sym c ∙ (e ∙ p))

-- ---- promises

-- a line's promise is lawful
pub lawful : (line : Line) → IsLawful (promise_of line)
lawful Help = print_lawful _
lawful Version = print_lawful _
lawful Usage = print_lawful _
lawful (Check m l better) = check_lawful better m l
lawful (Replay m c l t o) = replay_lawful m c l t o
lawful (Solve m l s) = solve_lawful m l s
lawful (Bound m o) = bound_lawful m o
lawful (Order m rule f) = order_lawful m rule f
lawful (Queens n) = print_lawful _
lawful (Colouring n k c) = print_lawful _
lawful (Sparse n c) = print_lawful _
lawful (Binary n d edges forbidden seed) = print_lawful _
lawful (Meetings people meetings each hours busy seed) = print_lawful _
lawful (Sensors side targets sees seed) = print_lawful _
lawful (Pigeons n) = print_lawful _
lawful (Drill c) = drill_lawful c
lawful (Upgrade m o) = upgrade_lawful m o
lawful (Core m o t b) = core_lawful b m o t
lawful (Export m l c r t n) = export_lawful n m l c r t
lawful (Starve m c d f o) = starve_lawful m c d f o
lawful (Lossy m o n c k w) = lossy_lawful m w o n c k
lawful (Measure m c o) = measure_lawful m c o
lawful (Story m c o w) = story_lawful m w c o
lawful (Survey m n c o) = survey_lawful m c n o
lawful (Rup m o) = rup_lawful m o
lawful (Cnf m o c) = cnf_lawful m o c

-- what is said of an error
pub concluded : (e : CommandError) (err now : Stream) (status : Status) → status ≡ error_status e → IsSaid (error_text e) err now → Concludes (way_of (Err e)) err now status
concluded ModelLong err now status s h = (s, h)
concluded (ModelRefused error) err now status s h = (s, h)
concluded LogLong err now status s h = (s, h)
concluded (LogLine number) err now status s h = (s, h)
concluded ScheduleLong err now status s h = (s, h)
concluded (ScheduleLine number) err now status s h = (s, h)
concluded (OrderRefused error) err now status s h = (s, h)
concluded NoAim err now status s h = (s, h)
concluded (Clauses error) err now status s h = (s, h)
concluded Fault err now status s h = (s, h)
concluded Memory err now status s h = (s, h)

-- what stands for no refusal and no stop goes with an answer
pub an_answer : (came : Result Status CommandError) (err now : Stream) (status : Status) → Concludes (way_of came) err now status → IsFinal status → (IsRefusal status → ⊥) → came ≡ Ok status
an_answer (Ok status_is) err now status h f n = ap Ok (sym h.0)
an_answer (Err ModelLong) err now status h f n = absurd (n (subst IsRefusal (sym h.0) tt))
an_answer (Err (ModelRefused error)) err now status h f n = absurd (n (subst IsRefusal (sym h.0) tt))
an_answer (Err LogLong) err now status h f n = absurd (n (subst IsRefusal (sym h.0) tt))
an_answer (Err (LogLine number)) err now status h f n = absurd (n (subst IsRefusal (sym h.0) tt))
an_answer (Err ScheduleLong) err now status h f n = absurd (n (subst IsRefusal (sym h.0) tt))
an_answer (Err (ScheduleLine number)) err now status h f n = absurd (n (subst IsRefusal (sym h.0) tt))
an_answer (Err (OrderRefused error)) err now status h f n = absurd (n (subst IsRefusal (sym h.0) tt))
an_answer (Err NoAim) err now status h f n = absurd (n (subst IsRefusal (sym h.0) tt))
an_answer (Err (Clauses error)) err now status h f n = absurd (n (subst IsRefusal (sym h.0) (clauses_refuse error)))
an_answer (Err Fault) err now status h f n = absurd (subst IsFinal h.0 f)
an_answer (Err Memory) err now status h f n = absurd (subst IsFinal h.0 f)

-- what holds of an answer
pub if_answered : (m : Meaning) (old new : World) (came : Result Status CommandError) (status : Status) → came ≡ Ok status → CameMeans m old new came → AnswerMeans m old new status
if_answered Nothing old new came status e h = tt
if_answered (Holds P) old new (Ok x) status e h = subst (P old new) (let same : x ≡ status = cc in same) h
if_answered (Holds P) old new (Err x) status e h = absurd cc
