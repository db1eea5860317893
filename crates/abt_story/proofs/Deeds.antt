-- What the code looks at is what the facts of an act speak of.
use Rattle.std.proofs.Common.{◌≡◌, ◌∙◌, ℕ, ℤ, List, [], ◌∷◌, ◌++◌, length, map, replicate, Option, None, refl, sym, ap}
use Rattle.dcsp_defs.specs.declared.Reason.{Reason}
use Rattle.dcsp_defs.specs.Csp.{Csp, domain}
use Rattle.dcsp_rule.specs.Problems.{csp_of}
use Rattle.abt_defs.specs.Agents.{Agent, Record, View}
use Rattle.abt_defs.specs.Events.{Act}
use Rattle.abt_parts.specs.declared.recorded.Recorded.{Recorded}
use Rattle.abt_parts.specs.Stores.{records_of}
use Rattle.abt_agent.specs.States.{State, stands_for}
use Rattle.abt_story.specs.Facts.{Fact}
use Rattle.abt_story.specs.Telling.{answers, came_with, drops, enters, facts, learns, makes, named_in, receives, sends, stamp_in, reason, reason_before, rules_out, steps_of, takes}
use Rattle.abt_story.specs.declared.before.Known.{Known}
use Rattle.abt_story.specs.Numbers.{facts_told}
use Rattle.abt_story.specs.Looking.{entered, known_at, reason_in, steps_in}
use Rattle.abt_story.proofs.Numbers.{answers_stay, drops_stay, facts_append, makes_stay, ruled_stay, takes_stay}

-- what entered the view
pub learned_is : (named : List ℕ) (before after : Agent) (known : List Known) (view : View) → known ≡ map (known_at before.view) named → view ≡ after.view → entered known view ≡ learns named before after
learned_is named before after known view e f = ap (λ l. entered l view) e ∙ ap (entered (map (known_at before.view) named)) f ∙ each named
  where
    each : (ks : List ℕ) → entered (map (known_at before.view) ks) after.view ≡ learns ks before after
    each [] = refl
    each (k ∷ ks) = ap (λ l. enters k (stamp_in (before.view k)) (after.view k) ++ l) (each ks)

-- the steps of the recorded nogoods
pub steps_are : (kept : List Recorded) (a : Agent) → records_of kept ≡ a.recorded → steps_in kept ≡ steps_of a
steps_are kept a e = each kept ∙ ap (map (λ (x : Record). x.step)) e
  where
    each : (xs : List Recorded) → steps_in xs ≡ map (λ (x : Record). x.step) (records_of xs)
    each [] = refl
    each (x ∷ xs) = ap (λ l. x.step ∷ l) (each xs)

-- the values that are ruled out
pub ruled_is : (s : State) (a : Act) → stands_for s ≡ a.after → s.me ≡ a.agent → (told : ℤ → Option Reason)
    → rules_out (domain (csp_of s.problem) s.me) told (reason_in s) ≡ rules_out (domain (csp_of s.problem) a.agent) told (reason (csp_of s.problem) a.agent a.after)
ruled_is s a e f told =
    ap (λ (b : Agent). rules_out (domain (csp_of s.problem) s.me) told (reason (csp_of s.problem) s.me b)) e ∙ ap (λ i. rules_out (domain (csp_of s.problem) i) told (reason (csp_of s.problem) i a.after)) f

-- no reason for each value
pub none_each : (values : List ℤ) (n : ℕ) → n ≡ length values → replicate {A = Option Reason} n None ≡ map (λ v. None) values
none_each values n e = ap (λ k. replicate k None) e ∙ each values
  where
    each : (vs : List ℤ) → replicate {A = Option Reason} (length vs) None ≡ map (λ v. None) vs
    each [] = refl
    each (v ∷ vs) = ap (λ l. None ∷ l) (each vs)

-- two pieces that are told
joined : (order : Option (List ℕ)) (xs ys one other : List Fact) → one ≡ facts_told order xs → other ≡ facts_told order ys → one ++ other ≡ facts_told order (xs ++ ys)
joined order xs ys one other e f = ap (λ l. l ++ other) e ∙ ap (λ l. facts_told order xs ++ l) f ∙ sym (facts_append order xs ys)

-- all facts of an act, from what the code tells of each kind
pub facts_are : (order : Option (List ℕ)) (p : Csp) (made : Option ℕ) (a : Act) (received learned dropped answered ruled taken sent : List Fact)
    → received ≡ receives (came_with a.came) → learned ≡ learns (named_in order a.came) a.before a.after → dropped ≡ drops (steps_of a.before) (steps_of a.after)
    → answered ≡ answers (came_with a.came) (steps_of a.after) → ruled ≡ rules_out (domain p a.agent) (reason_before p a.agent a.came a.before) (reason p a.agent a.after)
    → taken ≡ takes a.before.stamp a.after.stamp a.after.value → sent ≡ sends a.sent
    → facts_told order received ++ facts_told order learned ++ dropped ++ answered ++ ruled ++ taken ++ makes made ++ facts_told order sent ≡ facts_told order (facts order p made a)
facts_are order p made a received learned dropped answered ruled taken sent e1 e2 e3 e4 e5 e6 e7 =
    let r = receives (came_with a.came) in
    let l = learns (named_in order a.came) a.before a.after in
    let d = drops (steps_of a.before) (steps_of a.after) in
    let n = answers (came_with a.came) (steps_of a.after) in
    let o = rules_out (domain p a.agent) (reason_before p a.agent a.came a.before) (reason p a.agent a.after) in
    let t = takes a.before.stamp a.after.stamp a.after.value in
    let m = makes made in
    let s = sends a.sent in
    let f = facts_told order in
    let one : f received ≡ f r = ap f e1 in
    let two : f learned ≡ f l = ap f e2 in
    let three : dropped ≡ f d = e3 ∙ sym (drops_stay order (steps_of a.before) (steps_of a.after)) in
    let four : answered ≡ f n = e4 ∙ sym (answers_stay order (came_with a.came) (steps_of a.after)) in
    let five : ruled ≡ f o = e5 ∙ sym (ruled_stay order (domain p a.agent) (reason_before p a.agent a.came a.before) (reason p a.agent a.after)) in
    let six : taken ≡ f t = e6 ∙ sym (takes_stay order a.before.stamp a.after.stamp a.after.value) in
    let seven : m ≡ f m = sym (makes_stay order made) in
    let eight : f sent ≡ f s = ap f e7 in
    joined order (r ++ l ++ d ++ n ++ o ++ t ++ m) s _ _
    (joined order (r ++ l ++ d ++ n ++ o ++ t) m _ _
    (joined order (r ++ l ++ d ++ n ++ o) t _ _
    (joined order (r ++ l ++ d ++ n) o _ _
    (joined order (r ++ l ++ d) n _ _
    (joined order (r ++ l) d _ _
    (joined order r l _ _ one two) three) four) five) six) seven) eight
