-- The measures of a run as text.
use Rattle.std.specs.Prelude.{ℕ, ◌+◌, ◌==◌, List, [], ◌++◌, Option, codes, decimal, filter, flat_map, length, if◌then◌else◌}
use Rattle.dcsp_defs.specs.declared.nogood.Pair.{Pair}
use Rattle.dcsp_defs.specs.Words.{below}
use Rattle.dcsp_defs.specs.Csp.{Csp, count, domain}
use Rattle.abt_defs.specs.Network.{Network}
use Rattle.abt_defs.specs.Runs.{Run}
use Rattle.abt_defs.specs.Events.{Act, acts}
use Rattle.abt_defs.specs.Measures.{Kinds, Row, learned, row}
use Rattle.dcsp_order.specs.Told.{place_told}
use Rattle.abt_network.specs.declared.Standing.{Standing}
use Rattle.abt_network.specs.declared.Standing.TheVariants.{Open, Quiet, Refuted}
use Rattle.line_measure.specs.declared.numbers.Numbers.{Numbers}
use Rattle.line_measure.specs.Numbers.{numbers_of, run_under, used_under}

-- how a run ended, in a word
abbrev pub end_word : Standing → List ℕ
end_word Quiet = codes "solved"
end_word Refuted = codes "refuted"
end_word Open = codes "open"

-- these bytes and a number
abbrev pub numbered : List ℕ → ℕ → List ℕ
numbered before number = before ++ decimal number

-- ---- all agents

-- how the run ended, its deliveries by kind, and its steps
abbrev pub end_lines : Numbers → List ℕ
end_lines n =
    codes "measures 1\nend " ++ end_word n.end ++ numbered (codes "\ndeliveries ") n.deliveries
    ++ numbered (codes " ok ") n.got.ok ++ numbered (codes " nogood ") n.got.nogood ++ numbered (codes " link ") n.got.link ++ numbered (codes "\nsteps ") n.steps

-- its checks, and those that do not wait for each other
abbrev pub checks_lines : Numbers → List ℕ
checks_lines n =
    numbered (codes "\nchecks ") (n.constraints + n.nogoods) ++ numbered (codes " constraints ") n.constraints ++ numbered (codes " nogoods ") n.nogoods
    ++ numbered (codes "\nconcurrent-checks ") n.concurrent ++ numbered (codes " constraints ") n.concurrent_constraints

-- the longest chain of messages, the most that was recorded and in transit, and the links that were added: as many as link requests were delivered
abbrev pub greatest_lines : Numbers → List ℕ
greatest_lines n =
    numbered (codes "\nlongest-chain ") n.longest_chain ++ numbered (codes "\nrecorded ") n.recorded ++ numbered (codes "\ntransit ") n.transit
    ++ numbered (codes "\nlinks-added ") n.got.link ++ codes "\n"

abbrev pub head_text : Numbers → List ℕ
head_text n = end_lines n ++ checks_lines n ++ greatest_lines n

-- ---- each agent, by its variable's own number, in the order of these; in the run it has the number of its place

-- three numbers, each behind a blank
abbrev pub kinds_text : Kinds → List ℕ
kinds_text k = numbered (codes " ") k.ok ++ numbered (codes " ") k.nogood ++ numbered (codes " ") k.link

-- what the agent of variable i sent and received by kind, its checks, the most nogoods that it had recorded, and how many values it took; variables count from 1
abbrev pub agent_line : ℕ → Row → ℕ → List ℕ
agent_line i r values =
    numbered (codes "v") (i + 1) ++ codes " sent" ++ kinds_text r.sent ++ codes " got" ++ kinds_text r.got
    ++ numbered (codes " checks ") r.constraints ++ numbered (codes " ") r.nogoods ++ numbered (codes " recorded ") r.recorded ++ numbered (codes " values ") values ++ codes "\n"

abbrev pub agents_text : Option (List ℕ) → Csp → List Act → Network → List ℕ
agents_text order p done net = flat_map (λ i. agent_line i (row p done (place_told order i)) (net.agents (place_told order i)).stamp) (below (count p))

-- how many values of variable k, of so many, the agent of variable i has learned; nothing where there is none
abbrev pub learned_line : ℕ → ℕ → ℕ → ℕ → List ℕ
learned_line i k values size =
    if values == 0 then []
    else numbered (codes "v") (i + 1) ++ numbered (codes " learned v") (k + 1) ++ numbered (codes " ") values ++ numbered (codes " of ") size ++ codes "\n"

-- what the agent of variable i has learned of each, where it was told these values
abbrev pub learner_lines : Option (List ℕ) → Csp → ℕ → List Pair → List ℕ
learner_lines order p i pairs =
    flat_map (λ k. learned_line i k (length (filter (λ (y : Pair). y.var == place_told order k) pairs)) (length (domain p (place_told order k)))) (below (count p))

abbrev pub learner_text : Option (List ℕ) → Csp → List Act → ℕ → List ℕ
learner_text order p done i =
    flat_map (λ k. learned_line i k (learned done (place_told order i) (place_told order k)) (length (domain p (place_told order k)))) (below (count p))

abbrev pub learned_text : Option (List ℕ) → Csp → List Act → List ℕ
learned_text order p done = flat_map (learner_text order p done) (below (count p))

-- ---- whole texts

-- of each agent, and the last line
abbrev pub each_text : Option (List ℕ) → Csp → List Act → Network → List ℕ
each_text order p done net = agents_text order p done net ++ learned_text order p done ++ codes "end\n"

-- of a run, by its acts
abbrev pub measures_by : Option (List ℕ) → Csp → Numbers → Run → List Act → List ℕ
measures_by order p n r done = head_text n ++ each_text order p done r.net

-- the measures of the run under these choices, of the problem under this order
unfoldable pub measures_text : Option (List ℕ) → Csp → List ℕ → List ℕ
measures_text order p choices = measures_by order p (numbers_of p choices) (run_under p choices) (acts p (used_under p choices))

-- the names of the columns of a survey
abbrev pub survey_head : List ℕ
survey_head = codes "seed,end,deliveries,ok,nogood,link,steps,longest_chain,constraint_checks,nogood_checks,concurrent_checks,recorded,transit,links_added\n"

-- the second half of a line
abbrev pub counts_fields : Numbers → List ℕ
counts_fields n =
    numbered (codes ",") n.longest_chain ++ numbered (codes ",") n.constraints ++ numbered (codes ",") n.nogoods ++ numbered (codes ",") n.concurrent
    ++ numbered (codes ",") n.recorded ++ numbered (codes ",") n.transit ++ numbered (codes ",") n.got.link ++ codes "\n"

-- the line of a seed
abbrev pub survey_line : ℕ → Numbers → List ℕ
survey_line seed n =
    decimal seed ++ codes "," ++ end_word n.end ++ numbered (codes ",") n.deliveries ++ numbered (codes ",") n.got.ok ++ numbered (codes ",") n.got.nogood
    ++ numbered (codes ",") n.got.link ++ numbered (codes ",") n.steps ++ counts_fields n
