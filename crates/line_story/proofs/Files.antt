-- What is under the file's name once a run was told.
use Rattle.std.proofs.Common.{◌≡◌, ℕ, List, [], ◌∷◌, ◌++◌, drop, flat_map, length, Option, Some, None, Result, Ok, refl, sym, ap, subst, ◌∙◌, append_assoc, append-nil, arith, codes}
use Rattle.std.specs.Prelude.{if◌then◌else◌}
use Rattle.std.specs.Cmp.Lexicographic.{bytes_decides}
use Rattle.dcsp_outside.specs.Outside.{Place, Stream, Told, bytes_of}
use Rattle.dcsp_defs.specs.Csp.{Csp, IsCsp}
use Rattle.std.proofs.lemmas.List.{length-map}
use Rattle.dcsp_rule.specs.Problems.{Contents, csp_of}
use Rattle.dcsp_order.specs.Orders.{IsOrder}
use Rattle.dcsp_order.specs.Told.{ordered}
use Rattle.dcsp_order.specs.Under.{domain_at}
use Rattle.dcsp_script.specs.Scripts.{Append, World, Write, outside, after_write, file_after, FilesAfter}
use Rattle.dcsp_script.specs.Ways.{Wrote}
use Rattle.dcsp_script.specs.Texts.{LeavesAlone}
use Rattle.dcsp_script.proofs.Parts.{left_alone}
use Rattle.ngd_check.specs.Logged.{IsSmall}
use Rattle.dcsp_script.specs.Promises.{IsHeld}
use Rattle.abt_input.specs.Inputs.{IsModelOf, IsOrderIn, HasChoices, HasOrder}
use Rattle.abt_input.specs.Files.{HasOrderRead, ReadsOrder}
use Rattle.abt_input.proofs.Files.{read_held}
use Rattle.abt_input.proofs.Once.{one_list, one_order, one_problem}
use Rattle.abt_story.specs.Differing.{HasNames}
use Rattle.abt_story.specs.Facts.{Line}
use Rattle.abt_story.specs.Numbers.{IsOrderOn}
use Rattle.abt_story.specs.Retelling.{lines_of}
use Rattle.abt_story.specs.Texts.{line_text, lines_text}
use Rattle.abt_story.proofs.Differing.{stories_differ}
use Rattle.abt_story.proofs.Runs.{nothing_is_hidden}
use Rattle.line_story.specs.Stories.{HidesNothing, HoldsStory, IsItsOwn, WritesStory}
use Rattle.line_story.specs.StoryPromise.{end_line, end_script, end_word, event_write, head, listed, most_told, some_write, story_script, story_text, told_end, told_events, told_run}

-- ---- the file

module _ (file : List ℕ) where
  own : (bytes : List ℕ) (before : Option (List ℕ)) → after_write (Append file bytes) file before ≡ Some (bytes_of before ++ bytes)
  own bytes before = ap (λ b. if b then Some (bytes_of before ++ bytes) else before) ((bytes_decides file file).1 refl)

  -- an append of nothing is none
  event_is : (text held : List ℕ) (more : List Write) → file_after (some_write file text ++ more) file (Some held) ≡ file_after more file (Some (held ++ text))
  event_is [] held more = ap (λ l. file_after more file (Some l)) (sym (append-nil held))
  event_is (b ∷ bytes) held more = ap (file_after more file) (own (b ∷ bytes) (Some held))

  events_are : (all : List (List Line)) (held : List ℕ) (more : List Write) → file_after (flat_map (event_write file) all ++ more) file (Some held) ≡ file_after more file (Some (held ++ flat_map lines_text all))
  events_are [] held more = ap (λ l. file_after more file (Some l)) (sym (append-nil held))
  events_are (lines ∷ all) held more =
      ap (λ s. file_after s file (Some held)) (append_assoc (event_write file lines) (flat_map (event_write file) all) more) ∙ event_is (lines_text lines) held (flat_map (event_write file) all ++ more)
      ∙ events_are all (held ++ lines_text lines) more ∙ ap (λ l. file_after more file (Some l)) (append_assoc held (lines_text lines) (flat_map lines_text all))

  -- the file is the story
  file_is : (order : Option (List ℕ)) (p : Contents) (choices : List ℕ) (before : Option (List ℕ)) → file_after (story_script order p choices file) file before ≡ Some (story_text order (csp_of p) choices)
  file_is order p choices before =
      let all = told_events order (csp_of p) choices in
      let rest = end_script file (csp_of p) (told_run (csp_of p) choices) in
      ap (λ f. file_after (flat_map (event_write file) all ++ rest) file (after_write (Append file head) file f)) (ap (λ b. if b then Some [] else before) ((bytes_decides file file).1 refl))
      ∙ ap (file_after (flat_map (event_write file) all ++ rest) file) (own head (Some [])) ∙ events_are all head rest ∙ own (end_line (told_end (csp_of p) choices)) (Some (head ++ flat_map lines_text all))

  module _ (other : List ℕ) (unlike : file ≡ other → ⊥) where
    event_leaves : (text : List ℕ) (more : List Write) → LeavesAlone more other → LeavesAlone (some_write file text ++ more) other
    event_leaves [] more h = h
    event_leaves (b ∷ bytes) more h = (unlike, h)

    events_leave : (all : List (List Line)) (more : List Write) → LeavesAlone more other → LeavesAlone (flat_map (event_write file) all ++ more) other
    events_leave [] more h = h
    events_leave (lines ∷ all) more h =
        subst (λ s. LeavesAlone s other) (sym (append_assoc (event_write file lines) (flat_map (event_write file) all) more)) (event_leaves (lines_text lines) (flat_map (event_write file) all ++ more) (events_leave all more h))

    leaves : (order : Option (List ℕ)) (p : Contents) (choices : List ℕ) → LeavesAlone (story_script order p choices file) other
    leaves order p choices = (unlike, (unlike, events_leave (told_events order (csp_of p) choices) (end_script file (csp_of p) (told_run (csp_of p) choices)) (unlike, ((λ u. u), tt))))

-- ---- the run

names_of : (p : Csp) → IsSmall p → HasNames p
names_of p h = record { few = (let few = h.variables in omega arith); values = h.values }

-- all lines, one event after the other
flattened : (all : List (List Line)) → flat_map lines_text all ≡ lines_text (flat_map (λ l. l) all)
flattened [] = refl
flattened (lines ∷ all) = ap (λ t. lines_text lines ++ t) (flattened all) ∙ sym (both lines (flat_map (λ l. l) all))
  where
    both : (xs ys : List Line) → lines_text (xs ++ ys) ≡ lines_text xs ++ lines_text ys
    both [] ys = refl
    both (x ∷ xs) ys = ap (λ t. line_text x ++ t) (both xs ys) ∙ sym (append_assoc (line_text x) (lines_text xs) (lines_text ys))

hides_nothing : (order : Option (List ℕ)) (p : Csp) → IsCsp p → IsOrderOn order p → (choices : List ℕ) → HidesNothing order p choices
unfolding told_run
hides_nothing order p ok numbers choices k l = nothing_is_hidden order p ok numbers most_told (listed choices) k l

abbrev end_rest : Csp → List ℕ → List ℕ
end_rest p choices = end_word (told_end p choices) ++ codes "\n"

text_is : (order : Option (List ℕ)) (p : Csp) (choices : List ℕ) → story_text order p choices ≡ head ++ (lines_text (lines_of order p (listed choices) (told_run p choices)) ++ (codes "end " ++ end_rest p choices))
unfolding told_run told_events
text_is order p choices =
    append_assoc head (flat_map lines_text (told_events order p choices)) (end_line (told_end p choices))
    ∙ ap (λ t. head ++ (t ++ end_line (told_end p choices))) (flattened (told_events order p choices))

its_own : (order : Option (List ℕ)) (p : Csp) → IsCsp p → IsOrderOn order p → HasNames p → (choices : List ℕ) → IsItsOwn order p choices
unfolding told_run
its_own order p ok numbers names choices others e =
    stories_differ order p ok numbers names most_told (omega arith) (listed others) (listed choices) (end_rest p others) (end_rest p choices) (behind_head (sym (text_is order p others) ∙ e ∙ text_is order p choices))
  where
    behind_head : {xs ys : List ℕ} → head ++ xs ≡ head ++ ys → xs ≡ ys
    behind_head e = ap (drop 8) e

-- ---- the order that was read

-- the folder held it under its name, where one is given
abbrev pub HeldOrder : Option (List ℕ) → Option (List ℕ → Option (List ℕ)) → Contents → Option (List ℕ) → Type 0
HeldOrder None files problem order = order ≡ None
HeldOrder (Some name) files problem None = ⊥
HeldOrder (Some name) files problem (Some order) = (text : List ℕ) × IsHeld files name text × HasOrder (length problem.domains) text order

pub held_order : {o order : Option (List ℕ)} {problem : Contents} {p q : Place} → HasOrderRead o problem p q (Ok order) → HeldOrder o p.held problem order × (q.held ≡ p.held)
held_order {o = o} {order = order} {problem = problem} {p = p} {q = q} h = by o order h.reads
  where
    none : {x y : Option (List ℕ)} {E : Type 0} → ◌≡◌ {A = Result (Option (List ℕ)) E} (Ok x) (Ok y) → x ≡ y
    none e = cc

    by : (o order : Option (List ℕ)) → ReadsOrder o problem p q (Ok order) → HeldOrder o p.held problem order × (q.held ≡ p.held)
    by None order h = (none h.0, ap (λ (x : Place). x.held) h.1)
    by (Some name) None h = absurd h
    by (Some name) (Some order) h = (read_held h, h.held)

-- it was read, by another name
pub order_is : {o x y : Option (List ℕ)} {problem : Contents} {p q : Place} → x ≡ y → HasOrderRead o problem p q (Ok y) → HasOrderRead o problem p q (Ok x)
order_is {o = o} {problem = problem} {p = p} {q = q} e h = subst (λ z. HasOrderRead o problem p q (Ok z)) (sym e) h

-- it is one of the problem that is run
its_order : (o : Option (List ℕ)) (files : Option (List ℕ → Option (List ℕ))) (problem : Contents) (order : Option (List ℕ)) → HeldOrder o files problem order → IsOrderOn order (csp_of (ordered order problem))
its_order None files problem None h = tt
its_order None files problem (Some order) h = absurd (let no = h in cc)
its_order (Some name) files problem None h = absurd h
its_order (Some name) files problem (Some order) h =
    let is = h.2.reads.is_order in subst (λ n. IsOrder n order) (sym is.whole ∙ sym (length-map order (domain_at problem))) is

-- the file says one order
same_order : (o : Option (List ℕ)) (files : List ℕ → Option (List ℕ)) (problem : Contents) (order other : Option (List ℕ)) → HeldOrder o (Some files) problem order → IsOrderIn files o problem other → order ≡ other
same_order None files problem order None h g = h
same_order None files problem order (Some other) h g = absurd g
same_order (Some name) files problem None other h g = absurd h
same_order (Some name) files problem (Some order) None h g = absurd g
same_order (Some name) files problem (Some order) (Some other) h g = ap Some (one_order (length problem.domains) (bytes_of (files name)) order other (subst (λ b. HasOrder (length problem.domains) b order) h.1 h.2) g)

-- ---- both

module _ (m : List ℕ) (o : Option (List ℕ)) (s file : List ℕ) (problem : Contents) (order : Option (List ℕ)) (choices : List ℕ) (ok : IsCsp (csp_of (ordered order problem))) (small : IsSmall (csp_of (ordered order problem))) where
  abbrev p : Contents
  p = ordered order problem

  writes_story : IsOrderOn order (csp_of p) → (files now : List ℕ → Option (List ℕ)) → FilesAfter (story_script order p choices file) files now → WritesStory order p choices file files now
  writes_story numbers files now after = record {
    written = after file ∙ file_is file order p choices (files file);
    others = λ other unlike. after other ∙ left_alone (story_script order p choices file) other (files other) (leaves file other (λ e. unlike (sym e)) order p choices);
    hides_nothing = hides_nothing order (csp_of p) ok numbers choices;
    its_own = its_own order (csp_of p) ok numbers (names_of (csp_of p) small) choices;
  }

  told_story : (files now : Option (List ℕ → Option (List ℕ))) → (model : List ℕ) × IsHeld files m model × IsModelOf model problem → HeldOrder o files problem order → (schedule : List ℕ) × IsHeld files s schedule × HasChoices schedule choices
      → Told files now (FilesAfter (story_script order p choices file)) → HoldsStory m o s file files now
  told_story None None h d g t = tt
  told_story None (Some now) h d g t = t
  told_story (Some files) None h d g t = t
  told_story (Some files) (Some now) h d g t = λ other under list is in_order has.
      let one : problem ≡ other = one_problem (bytes_of (files m)) problem other (subst (λ b. IsModelOf b problem) h.1 h.2) is in
      let two : order ≡ under = same_order o files problem order under d (subst (λ x. IsOrderIn files o x under) (sym one) in_order) in
      let same = one_list (bytes_of (files s)) choices list (subst (λ b. HasChoices b choices) g.1 g.2) has in
      let told = writes_story (its_order o (Some files) problem order d) files now t in
      subst (λ x. WritesStory under (ordered under x) list file files now) one
      (subst (λ x. WritesStory x (ordered x problem) list file files now) two (subst (λ l. WritesStory order p l file files now) same told))

  -- in a folder that told the same when the files were read
  pub holds_story : {T : Type 0} (files : Option (List ℕ → Option (List ℕ))) (q : Place) (out : Stream) (w : World) (x : T) → q.held ≡ files → (model : List ℕ) × IsHeld files m model × IsModelOf model problem → HeldOrder o files problem order
      → (schedule : List ℕ) × IsHeld files s schedule × HasChoices schedule choices → Wrote (story_script order p choices file) (outside q out) w (Ok x) → HoldsStory m o s file files w.folder.held
  holds_story files q out w x same h d g wrote = told_story files w.folder.held h d g (subst (λ f. Told f w.folder.held (FilesAfter (story_script order p choices file))) same wrote.ended.after.files)

-- the same folder holds it
pub held_as : (s choices : List ℕ) {files held : Option (List ℕ → Option (List ℕ))} → held ≡ files → (schedule : List ℕ) × IsHeld held s schedule × HasChoices schedule choices → (schedule : List ℕ) × IsHeld files s schedule × HasChoices schedule choices
held_as s choices e g = subst (λ f. (schedule : List ℕ) × IsHeld f s schedule × HasChoices schedule choices) e g

pub order_as : (o : Option (List ℕ)) (problem : Contents) (order : Option (List ℕ)) {files held : Option (List ℕ → Option (List ℕ))} → held ≡ files → HeldOrder o held problem order → HeldOrder o files problem order
order_as o problem order e g = subst (λ f. HeldOrder o f problem order) e g
