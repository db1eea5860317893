-- What the story of a run means to a user.
use Rattle.std.specs.Prelude.{◌≡◌, ◌≢◌, ◌≤◌, ℕ, List, Option, Some}
use Rattle.dcsp_outside.specs.Outside.{Told, bytes_of}
use Rattle.dcsp_defs.specs.Csp.{Csp}
use Rattle.dcsp_rule.specs.Problems.{Contents, csp_of}
use Rattle.dcsp_order.specs.Told.{ordered}
use Rattle.law_runs.specs.Stops.{after}
use Rattle.abt_input.specs.Inputs.{IsModelOf, IsOrderIn, HasChoices}
use Rattle.abt_story.specs.Retelling.{Shows, lines_so_far}
use Rattle.line_story.specs.StoryPromise.{listed, story_text, told_run}

-- nothing is hidden: after each event of the run the lines so far tell how all agents and all lists of messages stand, each agent by its own number
abbrev pub HidesNothing : Option (List ℕ) → Csp → List ℕ → Type 0
HidesNothing order p choices = (k : ℕ) → k ≤ (told_run p choices).net.deliveries → Shows order p (lines_so_far order p (listed choices) k) (after p (listed choices) k)

-- a run of the problem with other deliveries has another story
abbrev pub IsItsOwn : Option (List ℕ) → Csp → List ℕ → Type 0
IsItsOwn order p choices = (others : List ℕ) → story_text order p others ≡ story_text order p choices → (told_run p others).trace ≡ (told_run p choices).trace

-- the files before and after the run of this problem, which may be one under an order, is told
pub record WritesStory (order : Option (List ℕ)) (p : Contents) (choices file : List ℕ) (files now : List ℕ → Option (List ℕ)) : Type 0 where
  -- the file holds the story of the run, whole
  pub written : now file ≡ Some (story_text order (csp_of p) choices)
  pub others : (name : List ℕ) → name ≢ file → now name ≡ files name
  pub hides_nothing : HidesNothing order (csp_of p) choices
  pub its_own : IsItsOwn order (csp_of p) choices

-- Where the folder tells its files, the model under the name has a problem, an order that is named is one of its variables, and the schedule has choices, the
-- run under them was told.
abbrev pub HoldsStory : List ℕ → Option (List ℕ) → List ℕ → List ℕ → Option (List ℕ → Option (List ℕ)) → Option (List ℕ → Option (List ℕ)) → Type 0
HoldsStory model_name order_name schedule_name file files now =
    Told files now (λ before after. (problem : Contents) (order : Option (List ℕ)) (choices : List ℕ) → IsModelOf (bytes_of (before model_name)) problem → IsOrderIn before order_name problem order
    → HasChoices (bytes_of (before schedule_name)) choices → WritesStory order (ordered order problem) choices file before after)
