-- What the code finds is what the definitions say.
use Rattle.std.proofs.Common.{◌≡◌, ℕ, ◌+◌, ◌<◌, Bool, true, false, cond, not, ◌||◌, ◌==◌, List, [], ◌∷◌, ◌++◌, length, map, filter, find, take, get_or, slice_get, Option, Some, None, ℤ, is_some, option_map, option_to_list, refl, sym, ap, subst, ◌∙◌, arith}
use Rattle.std.specs.Prelude.{All, IfSome, filter_map, slice_index_or, pos, if◌then◌else◌}
use Rattle.std.specs.Option.{option_or}
use Rattle.std.specs.List.{list_any, cons_option, enumerate_from}
use Rattle.std.proofs.lemmas.List.{get_or_at, append_assoc, length_push, take_more, get_or_default}
use Rattle.std.proofs.lemmas.List.Elements.{All-head, All-tail, filter_map-append}
use Rattle.std.proofs.lemmas.List.Folds.{find-append}
use Rattle.std.proofs.lemmas.Option.{get_or_from_slice_get}
use Rattle.dcsp_defs.specs.declared.nogood.Pair.{Pair}
use Rattle.dcsp_defs.specs.Words.{below}
use Rattle.dcsp_defs.specs.Csp.{Constraint, PartialAssignment, is_violated, agrees, with_value, domain, owned, owns}
use Rattle.dcsp_defs.specs.declared.Reason.{Reason}
use Rattle.dcsp_defs.specs.declared.Reason.TheVariants.{Rule, Earlier}
use Rattle.abt_defs.specs.Agents.{View, plain, known, values_in, is_among}
use Rattle.abt_defs.specs.Reasons.{Item, constraint_item, record_item, cause, ruled_out, causes, blamed, derived, step_of}
use Rattle.dcsp_rule.specs.declared.rule.Rule as rules
use Rattle.dcsp_rule.specs.Rules.{no_rule}
use Rattle.dcsp_rule.specs.Problems.{Contents, csp_of, constraint_of, constraint_at}
use Rattle.dcsp_problem.specs.Index.{owned_rules}
use Rattle.abt_parts.specs.Messages.{with_stamps}
use Rattle.abt_parts.specs.declared.recorded.Recorded.{Recorded}
use Rattle.abt_parts.specs.Stores.{record_of, records_of}
use Rattle.abt_parts.specs.Views.{view_of}
use Rattle.abt_defs.specs.Steps.{is_free, choice, is_named}
use Rattle.abt_agent.specs.declared.body.AgentBody.{AgentBody}
use Rattle.abt_agent.specs.Bodies.{agent_of}
use Rattle.abt_reason.specs.Causes.{is_free_at, reason_for, value_at}
use Rattle.abt_reason.specs.Cached.{size_of}
use Rattle.abt_reason.specs.Firsts.{IsFirst}
use Rattle.abt_reason.proofs.CauseLaws.{first_at}
use Rattle.abt_reason.proofs.FirstLaws.{first_alike}
use Rattle.abt_agent.specs.declared.search.Cause.{Cause}
use Rattle.abt_agent.specs.declared.search.Cause.TheVariants.{OwnedRule, KeptNogood}
use Rattle.abt_agent.specs.Causes.{first_rule, first_kept, cause_for, causes_for, least_free, item_at, no_record, IsCause, blames_one, blames, told_of}
use Rattle.abt_parts.proofs.Lists.{one, plain-with_stamps, map_below, mapped_filter}

-- ---- one item after another

module _ (p : Contents) (i : ℕ) (known : PartialAssignment) (kept : List Recorded) (xs : List ℤ) (k : ℕ) (x : ℤ) (within : k < length xs) (at : slice_get xs k ≡ Some x) where
  pub causes_more : causes_for p i known kept (take (k + 1) xs) ≡ causes_for p i known kept (take k xs) ++ option_to_list (cause_for p i known kept x)
  causes_more =
      ap (causes_for p i known kept) (take_more xs k (pos 0) within)
      ∙ filter_map-append (cause_for p i known kept) (take k xs) (get_or xs k (pos 0) ∷ [])
      ∙ ap (λ z. causes_for p i known kept (take k xs) ++ z) (one (cause_for p i known kept (get_or xs k (pos 0))))
      ∙ ap (λ y. causes_for p i known kept (take k xs) ++ option_to_list (cause_for p i known kept y)) (get_or_from_slice_get xs k x (pos 0) at)

-- ---- places are valid

rule_valid : (p : Contents) (kept : List Recorded) (known : PartialAssignment) (ns : List ℕ) (x : Cause) → All (λ r. r < length p.rules) ns → first_rule p known ns ≡ Some x → IsCause p kept x
rule_valid p kept known [] x h e = cc
rule_valid p kept known (n ∷ ns) x h e =
    (elim (is_violated known (constraint_at p n)) as (λ b. cond b (Some (OwnedRule n)) (first_rule p known ns) ≡ Some x → IsCause p kept x) [
      | true ↦ λ q. let same : OwnedRule n ≡ x = cc in subst (IsCause p kept) same (All-head (λ r. r < length p.rules) n ns h)
      | false ↦ rule_valid p kept known ns x (All-tail (λ r. r < length p.rules) n ns h)
    ]) e

kept_valid : (p : Contents) (kept : List Recorded) (known : PartialAssignment) (k : ℕ) (xs : List Recorded) (x : Cause) → k + length xs ≡ length kept → first_kept known k xs ≡ Some x → IsCause p kept x
kept_valid p kept known k [] x h e = cc
kept_valid p kept known k (y ∷ ys) x h e =
    (elim (agrees known y.nogood) as (λ b. cond b (Some (KeptNogood k)) (first_kept known (k + 1) ys) ≡ Some x → IsCause p kept x) [
      | true ↦ λ q. let same : KeptNogood k ≡ x = cc in subst (IsCause p kept) same (omega arith)
      | false ↦ kept_valid p kept known (k + 1) ys x (omega arith)
    ]) e

or_valid : (P : Cause → Type 0) (a b : Option Cause) (x : Cause) → (a ≡ Some x → P x) → (b ≡ Some x → P x) → option_or a b ≡ Some x → P x
or_valid P None b x f g e = g e
or_valid P (Some y) b x f g e = f e

cause_valid : (p : Contents) (i : ℕ) (known : PartialAssignment) (kept : List Recorded) (v : ℤ) (x : Cause) → All (λ r. r < length p.rules) (owned_rules p i) → cause_for p i known kept v ≡ Some x → IsCause p kept x
cause_valid p i known kept v x inside e =
    let k = with_value i v known in
    or_valid (IsCause p kept) (first_rule p k (owned_rules p i)) (first_kept k 0 kept) x
    (rule_valid p kept k (owned_rules p i) x inside) (kept_valid p kept k 0 kept x (omega arith)) e

-- what is found is a cause
pub found_valid : (p : Contents) (i : ℕ) (known : PartialAssignment) (kept : List Recorded) (v : ℤ) (o : Option Cause) → All (λ r. r < length p.rules) (owned_rules p i) → o ≡ cause_for p i known kept v → IfSome o (IsCause p kept)
found_valid p i known kept v None inside e = tt
found_valid p i known kept v (Some x) inside e = cause_valid p i known kept v x inside (sym e)

-- ---- the owned rules, each with its number

numbered_from : (n i : ℕ) (all pre rs : List rules.Rule) (k : ℕ) → all ≡ pre ++ rs → length pre ≡ k
    → filter (λ (x : ℕ × Constraint). owns i x.1) (enumerate_from k (map (constraint_of n) rs))
    ≡ map (λ (r : ℕ). (r, constraint_of n (slice_index_or all r no_rule))) (map (λ (x : ℕ × Constraint). x.0) (filter (λ (x : ℕ × Constraint). owns i x.1) (enumerate_from k (map (constraint_of n) rs))))
numbered_from n i all pre [] k a e = refl
numbered_from n i all pre (r ∷ rs) k a e =
    let here : slice_index_or all k no_rule ≡ r = ap (λ z. slice_index_or z k no_rule) a ∙ get_or_at pre r rs no_rule k e in
    let later = numbered_from n i all (pre ++ r ∷ []) rs (k + 1) (a ∙ sym (append_assoc pre (r ∷ []) rs)) (let l = length_push pre r in omega arith) in
    by_test (owns i (constraint_of n r)) here later
  where
    by_test : (b : Bool) → slice_index_or all k no_rule ≡ r
        → filter (λ (x : ℕ × Constraint). owns i x.1) (enumerate_from (k + 1) (map (constraint_of n) rs)) ≡ map (λ (r : ℕ). (r, constraint_of n (slice_index_or all r no_rule))) (map (λ (x : ℕ × Constraint). x.0) (filter (λ (x : ℕ × Constraint). owns i x.1) (enumerate_from (k + 1) (map (constraint_of n) rs))))
        → cond b ((k, constraint_of n r) ∷ filter (λ (x : ℕ × Constraint). owns i x.1) (enumerate_from (k + 1) (map (constraint_of n) rs))) (filter (λ (x : ℕ × Constraint). owns i x.1) (enumerate_from (k + 1) (map (constraint_of n) rs)))
        ≡ map (λ (r : ℕ). (r, constraint_of n (slice_index_or all r no_rule))) (map (λ (x : ℕ × Constraint). x.0) (cond b ((k, constraint_of n r) ∷ filter (λ (x : ℕ × Constraint). owns i x.1) (enumerate_from (k + 1) (map (constraint_of n) rs))) (filter (λ (x : ℕ × Constraint). owns i x.1) (enumerate_from (k + 1) (map (constraint_of n) rs)))))
    by_test true here later =
        ap (λ (z : rules.Rule). (k, constraint_of n z) ∷ filter (λ (x : ℕ × Constraint). owns i x.1) (enumerate_from (k + 1) (map (constraint_of n) rs))) (sym here)
        ∙ ap (λ (z : List (ℕ × Constraint)). (k, constraint_of n (slice_index_or all k no_rule)) ∷ z) later
    by_test false here later = later

pub owned_are : (p : Contents) (i : ℕ) → owned (csp_of p) i ≡ map (λ (r : ℕ). (r, constraint_at p r)) (owned_rules p i)
owned_are p i = numbered_from (length p.domains) i p.rules [] p.rules 0 refl refl

-- ---- the cause of a value

rules_found : (p : Contents) (kept : List Recorded) (known : PartialAssignment) (ns : List ℕ)
    → find (λ (x : Item). x.violated known) (map constraint_item (map (λ (r : ℕ). (r, constraint_at p r)) ns)) ≡ option_map (item_at p kept) (first_rule p known ns)
rules_found p kept known [] = refl
rules_found p kept known (n ∷ ns) =
    elim (is_violated known (constraint_at p n)) as (λ b. cond b (Some (constraint_item (n, constraint_at p n))) (find (λ (x : Item). x.violated known) (map constraint_item (map (λ (r : ℕ). (r, constraint_at p r)) ns))) ≡ option_map (item_at p kept) (cond b (Some (OwnedRule n)) (first_rule p known ns))) [
      | true ↦ refl
      | false ↦ rules_found p kept known ns
    ]

kept_found : (p : Contents) (all pre xs : List Recorded) (k : ℕ) (known : PartialAssignment) → all ≡ pre ++ xs → length pre ≡ k
    → find (λ (x : Item). x.violated known) (map record_item (records_of xs)) ≡ option_map (item_at p all) (first_kept known k xs)
kept_found p all pre [] k known a e = refl
kept_found p all pre (x ∷ xs) k known a e =
    let here : slice_index_or all k no_record ≡ x = ap (λ z. slice_index_or z k no_record) a ∙ get_or_at pre x xs no_record k e in
    let later = kept_found p all (pre ++ x ∷ []) xs (k + 1) known (a ∙ sym (append_assoc pre (x ∷ []) xs)) (let l = length_push pre x in omega arith) in
    elim (agrees known x.nogood) as (λ b. cond b (Some (record_item (record_of x))) (find (λ (y : Item). y.violated known) (map record_item (records_of xs))) ≡ option_map (item_at p all) (cond b (Some (KeptNogood k)) (first_kept known (k + 1) xs))) [
      | true ↦ ap (λ z. Some (record_item (record_of z))) (sym here)
      | false ↦ later
    ]

map_or : {X Y : Type 0} → (f : X → Y) (a b : Option X) → option_or (option_map f a) (option_map f b) ≡ option_map f (option_or a b)
map_or f None b = refl
map_or f (Some x) b = refl

-- the cause of a value is what stands at the place that the code finds
pub cause_is : (p : Contents) (i : ℕ) (known : PartialAssignment) (kept : List Recorded) (v : ℤ)
    → cause (csp_of p) i known (records_of kept) v ≡ option_map (item_at p kept) (cause_for p i known kept v)
cause_is p i known kept v =
    let k = with_value i v known in
    find-append (λ (x : Item). x.violated k) (map constraint_item (owned (csp_of p) i)) (map record_item (records_of kept))
    ∙ ap (λ z. option_or (find (λ (x : Item). x.violated k) (map constraint_item z)) (find (λ (x : Item). x.violated k) (map record_item (records_of kept)))) (owned_are p i)
    ∙ ap (λ z. option_or z (find (λ (x : Item). x.violated k) (map record_item (records_of kept)))) (rules_found p kept k (owned_rules p i))
    ∙ ap (λ z. option_or (option_map (item_at p kept) (first_rule p k (owned_rules p i))) z) (kept_found p kept [] kept 0 k refl refl)
    ∙ map_or (item_at p kept) (first_rule p k (owned_rules p i)) (first_kept k 0 kept)

some_map : {X Y : Type 0} → (f : X → Y) (o : Option X) → is_some (option_map f o) ≡ is_some o
some_map f None = refl
some_map f (Some x) = refl

pub ruled_is : (p : Contents) (i : ℕ) (known : PartialAssignment) (kept : List Recorded) (v : ℤ) → ruled_out (csp_of p) i known (records_of kept) v ≡ is_some (cause_for p i known kept v)
ruled_is p i known kept v = ap is_some (cause_is p i known kept v) ∙ some_map (item_at p kept) (cause_for p i known kept v)

pub least_is : (p : Contents) (i : ℕ) (known : PartialAssignment) (kept : List Recorded) (vs : List ℤ)
    → find (λ v. not (ruled_out (csp_of p) i known (records_of kept) v)) vs ≡ least_free p i known kept vs
least_is p i known kept vs = ap (λ (q : ℤ → Bool). find q vs) (λ s v. not (ruled_is p i known kept v s))

-- ---- the step

filtered_map : {X Y Z : Type 0} → (g : Y → Z) (f : X → Option Y) (xs : List X) → filter_map (λ x. option_map g (f x)) xs ≡ map g (filter_map f xs)
filtered_map g f [] = refl
filtered_map {X = X} {Y = Y} {Z = Z} g f (x ∷ xs) =
    elim (f x) as (λ (o : Option Y). cons_option (option_map g o) (filter_map (λ x. option_map g (f x)) xs) ≡ map g (cons_option o (filter_map f xs))) [
      | None ↦ filtered_map g f xs
      | Some y ↦ ap (λ z. g y ∷ z) (filtered_map g f xs)
    ]

pub causes_are : (p : Contents) (i : ℕ) (known : PartialAssignment) (kept : List Recorded)
    → causes (csp_of p) i known (records_of kept) ≡ map (item_at p kept) (causes_for p i known kept (domain (csp_of p) i))
causes_are p i known kept =
    ap (λ (q : ℤ → Option Item). filter_map q (domain (csp_of p) i)) (λ s v. cause_is p i known kept v s)
    ∙ filtered_map (item_at p kept) (cause_for p i known kept) (domain (csp_of p) i)

pub any-map : {X Y : Type 0} → (q : Y → Bool) (f : X → Y) (xs : List X) → list_any q (map f xs) ≡ list_any (λ x. q (f x)) xs
any-map q f [] = refl
any-map q f (x ∷ xs) = ap (λ z. q (f x) || z) (any-map q f xs)

map-map : {X Y Z : Type 0} → (g : Y → Z) (f : X → Y) (xs : List X) → map g (map f xs) ≡ map (λ x. g (f x)) xs
map-map g f [] = refl
map-map g f (x ∷ xs) = ap (λ z. g (f x) ∷ z) (map-map g f xs)

-- whether the nogood at a place names k
pub named_at : (p : Contents) (kept : List Recorded) (at k : ℕ) (d : Recorded) → at < length kept → is_named k (get_or kept at d).nogood ≡ blames_one p kept (KeptNogood at) k
named_at p kept at k d within =
    ap (λ (x : Recorded). is_named k x.nogood) (get_or_default kept at d no_record within)
    ∙ sym (any-map (λ x. k == x) (λ (y : Pair). y.var) (get_or kept at no_record).nogood)

module _ (p : Contents) (i : ℕ) (view : View) (kept : List Recorded) where
  abbrev pub found : List Cause
  found = causes_for p i (values_in view) kept (domain (csp_of p) i)

  blamed_is : (k : ℕ) → blamed (csp_of p) i view (records_of kept) k ≡ (if blames p kept found k then told_of view k else None)
  blamed_is k =
      ap (λ b. if b then told_of view k else None) (
      ap (list_any (λ (x : Item). is_among k x.variables)) (causes_are p i (values_in view) kept)
      ∙ any-map (λ (x : Item). is_among k x.variables) (item_at p kept) found)

  pub reasons_are : map (λ (x : Item). x.reason) (causes (csp_of p) i (values_in view) (records_of kept)) ≡ map (λ (x : Cause). (item_at p kept x).reason) found
  reasons_are = ap (map (λ (x : Item). x.reason)) (causes_are p i (values_in view) kept) ∙ map-map (λ (x : Item). x.reason) (item_at p kept) found

  -- what is gathered of the agents that are blamed is what the definitions derive
  pub derived_is : filter_map (told_of view) (filter (blames p kept found) (below i)) ≡ derived (csp_of p) i view (records_of kept)
  derived_is =
      mapped_filter (told_of view) (blames p kept found) (below i)
      ∙ map_below (λ k. if blames p kept found k then told_of view k else None) (blamed (csp_of p) i view (records_of kept)) i (λ k l. sym (blamed_is k))

  -- the step of the code is the step of the definitions
  pub step_is : (nogood : List Pair) (stamps : List ℕ) (reasons : List Reason) → with_stamps nogood stamps ≡ derived (csp_of p) i view (records_of kept)
      → reasons ≡ map (λ (x : Cause). (item_at p kept x).reason) found
      → record { variable = Some i; nogood = nogood; reasons = reasons } ≡ step_of (csp_of p) i view (records_of kept)
  step_is nogood stamps reasons d r =
      let n : nogood ≡ plain (derived (csp_of p) i view (records_of kept)) = sym (plain-with_stamps nogood stamps) ∙ ap plain d in
      let q : reasons ≡ map (λ (x : Item). x.reason) (causes (csp_of p) i (values_in view) (records_of kept)) = r ∙ sym reasons_are in
      λ s. record { variable = Some i; nogood = n s; reasons = q s }

-- ---- what the kept reasons tell

-- among rules, only rules are found
rule_found : (p : Contents) (known : PartialAssignment) (ns : List ℕ) (x : Cause) → first_rule p known ns ≡ Some x → (r : ℕ) × (x ≡ OwnedRule r)
rule_found p known [] x e = cc
rule_found p known (n ∷ ns) x e =
    (elim (is_violated known (constraint_at p n)) as (λ b. cond b (Some (OwnedRule n)) (first_rule p known ns) ≡ Some x → (r : ℕ) × (x ≡ OwnedRule r)) [
      | true ↦ λ q. let same : x ≡ OwnedRule n = cc in (n, same)
      | false ↦ rule_found p known ns x
    ]) e

-- among nogoods, only nogoods
kept_only : (known : PartialAssignment) (k : ℕ) (xs : List Recorded) (x : Cause) → first_kept known k xs ≡ Some x → (j : ℕ) × (x ≡ KeptNogood j)
kept_only known k [] x e = cc
kept_only known k (y ∷ ys) x e =
    (elim (agrees known y.nogood) as (λ b. cond b (Some (KeptNogood k)) (first_kept known (k + 1) ys) ≡ Some x → (j : ℕ) × (x ≡ KeptNogood j)) [
      | true ↦ λ q. let same : x ≡ KeptNogood k = cc in (k, same)
      | false ↦ kept_only known (k + 1) ys x
    ]) e

abbrev reason_at : Contents → List Recorded → Option Cause → Option Reason
reason_at p kept o = option_map (λ (x : Item). x.reason) (option_map (item_at p kept) o)

-- the reason that is kept, of this problem and agent
pub reason_moved : (p q : Contents) (i j : ℕ) (known : PartialAssignment) (kept : List Recorded) (place : ℕ) (o : Option Reason) → q ≡ p → j ≡ i → o ≡ reason_for q j known kept (value_at q j place) → o ≡ reason_for p i known kept (value_at p i place)
reason_moved p q i j known kept place o e f h =
    h ∙ ap (λ z. reason_for z j known kept (value_at z j place)) e ∙ ap (λ n. reason_for p n known kept (value_at p n place)) f

module _ (p : Contents) (i : ℕ) (known : PartialAssignment) (kept : List Recorded) (v : ℤ) where
  reason_is : reason_for p i known kept v ≡ reason_at p kept (cause_for p i known kept v)
  reason_is = ap (option_map (λ (x : Item). x.reason)) (cause_is p i known kept v)

  some_cited : (o : Option Cause) → is_some (reason_at p kept o) ≡ is_some o
  some_cited None = refl
  some_cited (Some x) = refl

  pub reason_some : is_some (reason_for p i known kept v) ≡ is_some (cause_for p i known kept v)
  reason_some = ap is_some reason_is ∙ some_cited (cause_for p i known kept v)

  pub no_reason : reason_for p i known kept v ≡ None → None ≡ cause_for p i known kept v
  no_reason e = by_place (cause_for p i known kept v) (sym reason_is ∙ e)
    where
      by_place : (o : Option Cause) → reason_at p kept o ≡ None → None ≡ o
      by_place None f = refl
      by_place (Some x) f = cc

  pub rule_reason : (r : ℕ) → reason_for p i known kept v ≡ Some (Rule r) → Some (OwnedRule r) ≡ cause_for p i known kept v
  rule_reason r e = by_rule (first_rule p (with_value i v known) (owned_rules p i)) refl (sym reason_is ∙ e)
    where
      by_kept : (o : Option Cause) → first_kept (with_value i v known) 0 kept ≡ o → reason_at p kept o ≡ Some (Rule r) → Some (OwnedRule r) ≡ o
      by_kept None f g = cc
      by_kept (Some x) f g = let q = kept_only (with_value i v known) 0 kept x f in let h : reason_at p kept (Some (KeptNogood q.0)) ≡ Some (Rule r) = subst (λ (z : Cause). reason_at p kept (Some z) ≡ Some (Rule r)) q.1 g in cc

      by_rule : (o : Option Cause) → first_rule p (with_value i v known) (owned_rules p i) ≡ o → reason_at p kept (option_or o (first_kept (with_value i v known) 0 kept)) ≡ Some (Rule r) → Some (OwnedRule r) ≡ option_or o (first_kept (with_value i v known) 0 kept)
      by_rule None f g = by_kept (first_kept (with_value i v known) 0 kept) refl g
      by_rule (Some x) f g =
          let q = rule_found p (with_value i v known) (owned_rules p i) x f in
          let h : reason_at p kept (Some (OwnedRule q.0)) ≡ Some (Rule r) = subst (λ (z : Cause). reason_at p kept (Some z) ≡ Some (Rule r)) q.1 g in
          let same : q.0 ≡ r = cc in
          ap (λ (n : ℕ). Some (OwnedRule n)) (sym same) ∙ ap Some (sym q.1)

  pub step_reason : (s : ℕ) → reason_for p i known kept v ≡ Some (Earlier s) → first_kept (with_value i v known) 0 kept ≡ cause_for p i known kept v
  step_reason s e = by_rule (first_rule p (with_value i v known) (owned_rules p i)) refl (sym reason_is ∙ e)
    where
      by_rule : (o : Option Cause) → first_rule p (with_value i v known) (owned_rules p i) ≡ o → reason_at p kept (option_or o (first_kept (with_value i v known) 0 kept)) ≡ Some (Earlier s) → first_kept (with_value i v known) 0 kept ≡ option_or o (first_kept (with_value i v known) 0 kept)
      by_rule None f g = refl
      by_rule (Some x) f g =
          let q = rule_found p (with_value i v known) (owned_rules p i) x f in
          let h : reason_at p kept (Some (OwnedRule q.0)) ≡ Some (Earlier s) = subst (λ (z : Cause). reason_at p kept (Some z) ≡ Some (Earlier s)) q.1 g in cc

  -- then a nogood agrees
  pub step_some : (s : ℕ) → reason_for p i known kept v ≡ Some (Earlier s) → is_some (first_kept (with_value i v known) 0 kept) ≡ true
  step_some s e = ap is_some (step_reason s e) ∙ sym reason_some ∙ ap is_some e

-- ---- the least free value

pub free_moved : (p q : Contents) (i j : ℕ) (known : PartialAssignment) (kept : List Recorded) (o : Option ℕ) → q ≡ p → j ≡ i → IsFirst (is_free_at q j known kept) (size_of q j) o → IsFirst (is_free_at p i known kept) (size_of p i) o
free_moved p q i j known kept o e f h = subst (λ n. IsFirst (is_free_at p n known kept) (size_of p n) o) f (subst (λ z. IsFirst (is_free_at z j known kept) (size_of z j) o) e h)

-- it stands at the first place at which nothing rules out the value
pub least_at : (p : Contents) (i : ℕ) (known : PartialAssignment) (kept : List Recorded) (o : Option ℕ) → IsFirst (is_free_at p i known kept) (size_of p i) o → option_map (value_at p i) o ≡ least_free p i known kept (domain (csp_of p) i)
least_at p i known kept o f =
    sym (first_at (λ v. not (is_some (cause_for p i known kept v))) (domain (csp_of p) i) (pos 0) o
    (first_alike (is_free_at p i known kept) (λ k. not (is_some (cause_for p i known kept (value_at p i k)))) (size_of p i) o (λ k l. ap not (reason_some p i known kept (value_at p i k))) f))

-- ---- the choice of a value

pub flip : (a b : Bool) → a ≡ not b → b ≡ not a
flip a true e = ap not (sym e)
flip a false e = ap not (sym e)

-- whether nothing rules out the agent's own value
pub own_is : (p : Contents) (me : ℕ) (b : AgentBody) (v w : ℤ) (free : Bool) → free ≡ not (is_some (cause_for p me (values_in (view_of b.known.view)) b.known.store w)) → w ≡ v → b.value ≡ Some v
    → free ≡ is_free (csp_of p) me (agent_of b) b.value
own_is p me b v w free f same e =
    f
    ∙ ap (λ z. not (is_some (cause_for p me (values_in (view_of b.known.view)) b.known.store z))) same
    ∙ ap not (sym (ruled_is p me (values_in (view_of b.known.view)) b.known.store v))
    ∙ ap (is_free (csp_of p) me (agent_of b)) (sym e)

pub least_chosen : (p : Contents) (me : ℕ) (b : AgentBody) (least : Option ℤ) → least ≡ least_free p me (values_in (view_of b.known.view)) b.known.store (domain (csp_of p) me) → false ≡ is_free (csp_of p) me (agent_of b) b.value
    → least ≡ choice (csp_of p) me (agent_of b)
least_chosen p me b least f n =
    f
    ∙ sym (least_is p me (values_in (view_of b.known.view)) b.known.store (domain (csp_of p) me))
    ∙ ap (λ z. cond z b.value (find (λ v. not (ruled_out (csp_of p) me (known (agent_of b)) (records_of b.known.store) v)) (domain (csp_of p) me))) n
