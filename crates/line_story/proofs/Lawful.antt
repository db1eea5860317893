-- The plan of `story` is sound, and so its promise is lawful.
use Rattle.std.proofs.Common.{ℕ, true, false, cond, List, [], ◌∷◌, Option, flat_map}
use Rattle.std.specs.Prelude.{Contains}
use Rattle.std.proofs.lemmas.List.Elements.{Contains-push}
use Rattle.abt_defs.specs.Network.{is_empty}
use Rattle.abt_network.specs.declared.Standing.{Standing}
use Rattle.abt_network.specs.declared.Standing.TheVariants.{Open, Quiet, Refuted}
use Rattle.dcsp_rule.specs.Problems.{Contents, csp_of}
use Rattle.dcsp_order.specs.Told.{ordered}
use Rattle.dcsp_script.specs.Scripts.{Append}
use Rattle.dcsp_script.specs.Statuses.{IsFinal, IsRefusal}
use Rattle.dcsp_script.specs.Clauses.{IsLawful}
use Rattle.abt_input.specs.Kinds.{a_schedule}
use Rattle.abt_input.specs.Plans.{Read, order_then, IsOwn, IsSoundPlan, WritesOwn}
use Rattle.abt_input.proofs.ExactKinds.{model_exact, schedule_exact}
use Rattle.abt_input.proofs.OwnWrites.{own_none, own_put, own_create, own_append, own_both}
use Rattle.abt_input.proofs.PlanLaws.{ordered_sound, plan_lawful}
use Rattle.abt_story.specs.Facts.{Line}
use Rattle.abt_story.specs.Texts.{lines_text}
use Rattle.line_story.specs.StoryPromise.{event_write, status_at, story_plan, story_promise, story_script, told_end, told_events, told_plan}

final_at : (end : Standing) → IsFinal (status_at end)
final_at Open = tt
final_at Quiet = tt
final_at Refuted = tt

not_refused : (end : Standing) → IsRefusal (status_at end) → ⊥
not_refused Open h = h
not_refused Quiet h = h
not_refused Refuted h = h

own_event : (file text : List ℕ) → Contains (file ∷ []) file → WritesOwn (file ∷ []) (cond (is_empty text) [] (Append file text ∷ []))
own_event file text here = elim (is_empty text) as (λ b. WritesOwn (file ∷ []) (cond b [] (Append file text ∷ []))) [ true ↦ own_none | false ↦ own_append here own_none ]

own_events : (file : List ℕ) (all : List (List Line)) → Contains (file ∷ []) file → WritesOwn (file ∷ []) (flat_map (event_write file) all)
own_events file [] here = own_none
own_events file (lines ∷ all) here = own_both (own_event file (lines_text lines) here) (own_events file all here)

pub story_sound : (model : List ℕ) (order_file : Option (List ℕ)) (schedule file : List ℕ) → IsSoundPlan (model ∷ order_then order_file (schedule ∷ [])) (file ∷ []) (story_plan order_file file)
story_sound model order_file schedule file =
    (model_exact, λ p. ordered_sound (schedule ∷ []) (file ∷ []) (λ order. Read a_schedule (λ choices. told_plan order p choices file)) order_file p (λ order. (schedule_exact, λ choices. own order (ordered order p) choices)))
  where
    own : (order : Option (List ℕ)) (p : Contents) (choices : List ℕ) → IsOwn (file ∷ []) (status_at (told_end (csp_of p) choices)) (story_script order p choices file)
    own order p choices =
        let here = Contains-push [] file in
        record {
          final = final_at (told_end (csp_of p) choices);
          no_refusal = not_refused (told_end (csp_of p) choices);
          names = own_create here (own_append here (own_both (own_events file (told_events order (csp_of p) choices) here) (own_append here (own_put own_none))));
        }

pub story_lawful : (model : List ℕ) (order_file : Option (List ℕ)) (schedule file : List ℕ) → IsLawful (story_promise model order_file schedule file)
story_lawful model order_file schedule file = plan_lawful (story_plan order_file file) (story_sound model order_file schedule file)
