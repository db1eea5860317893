-- Items have a problem exactly where each passes its checks, and one is a solve item.
use Rattle.std.proofs.Common.{◌≡◌, ℕ, ◌&&◌, ◌||◌, not, inl, inr, Bool, true, false, List, [], ◌∷◌, ◌++◌, Result, Ok, Err, refl, sym, ap, ◌∙◌, subst, append_assoc, append-nil}
use Rattle.std.specs.Prelude.{◌↔◌, flat_map, is_none}
use Rattle.std.specs.List.{list_any}
use Rattle.std.proofs.lemmas.List.Concat.{flat_map-append}
use Rattle.dcsp_defs.proofs.Lists.{and_left, and_right, and_both}
use Rattle.fzn_item.specs.declared.item.Item.{Item}
use Rattle.fzn_item.specs.declared.item.Item.TheVariants as item
use Rattle.fzn_token.specs.declared.refusal.Refusal.{Refusal}
use Rattle.fzn_token.specs.declared.refusal.Refusal.TheVariants as refusal
use Rattle.fzn_scope.specs.Checks.{◌>>=◌}
use Rattle.fzn_scope.specs.Names.{bytes_at}
use Rattle.fzn_model.specs.Declarations.{SoFar, declaration}
use Rattle.fzn_model.specs.Items.{start, declared_by, after, after_all, finished, resolved}
use Rattle.law_inputs.specs.Sorts.{Names, sort_named}
use Rattle.law_inputs.specs.Accepted.{declaration_suits, with_name, with_names, variable_sizes, rule_sizes, all_rule_sizes, are_few, is_solve, is_constraint, suits_after, passes, AcceptedItems, AcceptedTexts}
use Rattle.law_inputs.proofs.Judging.{Judged, judged_bind, judged_choice, judged_test}
use Rattle.law_inputs.proofs.JudgedItems.{Stands, and_assoc, predicate_judged, solve_judged, constraint_judged, declaration_judged, declared_by_judged}

-- ---- one item more

with_names_push : (text : List ℕ) (names : Names) (before : List Item) (i : Item) → with_names text names (before ++ i ∷ []) ≡ with_name text (with_names text names before) i
with_names_push text names [] i = refl
with_names_push text names (x ∷ xs) i = with_names_push text (with_name text names x) xs i

rule_sizes_push : (text : List ℕ) (names : Names) (before : List Item) (i : Item) → all_rule_sizes text names (before ++ i ∷ []) ≡ all_rule_sizes text names before ++ rule_sizes text (with_names text names before) i
rule_sizes_push text names [] i = append-nil (rule_sizes text names i)
rule_sizes_push text names (x ∷ xs) i =
    ap (λ (ns : List ℕ). rule_sizes text names x ++ ns) (rule_sizes_push text (with_name text names x) xs i)
    ∙ sym (append_assoc (rule_sizes text names x) (all_rule_sizes text (with_name text names x) xs) (rule_sizes text (with_names text (with_name text names x) xs) i))

variable_sizes_push : (before : List Item) (i : Item) → flat_map variable_sizes (before ++ i ∷ []) ≡ flat_map variable_sizes before ++ variable_sizes i
variable_sizes_push before i = flat_map-append variable_sizes before (i ∷ []) ∙ ap (λ (ns : List ℕ). flat_map variable_sizes before ++ ns) (append-nil (variable_sizes i))

or_assoc : (a b c : Bool) → (a || (b || c)) ≡ ((a || b) || c)
or_assoc true b c = refl
or_assoc false b c = refl

any_push : (q : Item → Bool) (before : List Item) (i : Item) → list_any q (before ++ i ∷ []) ≡ (list_any q before || q i)
any_push q [] i = alone (q i) where
  alone : (b : Bool) → (b || false) ≡ b
  alone true = refl
  alone false = refl
any_push q (x ∷ xs) i = ap (λ (b : Bool). q x || b) (any_push q xs i) ∙ or_assoc (q x) (list_any q xs) (q i)

-- ---- the items before

-- what there is so far is as these items say
abbrev StandsAfter : List ℕ → List Item → SoFar → Type 0
StandsAfter text before s = Stands (with_names text [] before) (flat_map variable_sizes before) (all_rule_sizes text [] before) (list_any is_solve before) (list_any is_constraint before) s

one_item : (text : List ℕ) (names : Names) (variables rules : List ℕ) (before : List Item) (s : SoFar) (i : Item) → Stands names variables rules (list_any is_solve before) (list_any is_constraint before) s
    → Judged (after text s i) (suits_after text names before i && are_few (variables ++ variable_sizes i) (rules ++ rule_sizes text names i))
    (Stands (with_name text names i) (variables ++ variable_sizes i) (rules ++ rule_sizes text names i) (list_any is_solve before || is_solve i) (list_any is_constraint before || is_constraint i))
one_item text names variables rules before s (item.Predicate at) h = predicate_judged text names variables rules (list_any is_solve before) (list_any is_constraint before) s h at
one_item text names variables rules before s (item.Declare at isvar index type name_at name_to marked right) h =
    let so = list_any is_solve before in
    let co = list_any is_constraint before in
    let name = bytes_at text name_at name_to in
    let i = item.Declare at isvar index type name_at name_to marked right in
    let new = not (so || co) && is_none (sort_named names name) in
    let suits = declaration_suits text names isvar index type marked right in
    let few = are_few (variables ++ variable_sizes i) (rules ++ rule_sizes text names i) in
    let P = Stands (with_name text names i) (variables ++ variable_sizes i) (rules ++ rule_sizes text names i) (so || false) (co || false) in
    let rest : Unit {0} → Result SoFar Refusal = λ _. declared_by text s at isvar index type name_at name marked right in
    judged_test (declaration s at name_at name >>= rest) (new && (suits && few)) ((new && suits) && few) P (and_assoc new suits few)
    (judged_bind (declaration s at name_at name) rest new (suits && few) (λ _. Unit {0}) P (declaration_judged text names variables rules so co s h at name_at name)
    (λ _ _. declared_by_judged text names variables rules so co s h at isvar index type name_at name_to marked right))
one_item text names variables rules before s (item.Constraint at name_at name_to xs) h = constraint_judged text names variables rules (list_any is_solve before) (list_any is_constraint before) s h at name_at (bytes_at text name_at name_to) xs
one_item text names variables rules before s (item.Solve at goal) h = solve_judged text names variables rules (list_any is_solve before) (list_any is_constraint before) s h at goal

item_judged : (text : List ℕ) (before : List Item) (s : SoFar) (i : Item) → StandsAfter text before s → Judged (after text s i) (passes text before i) (StandsAfter text (before ++ i ∷ []))
item_judged text before s i h =
    let names = with_names text [] before in
    let vs = flat_map variable_sizes before in
    let rs = all_rule_sizes text [] before in
    let test = suits_after text names before i in
    let new = before ++ i ∷ [] in
    let x = after text s i in
    let a = sym (with_names_push text [] before i) in
    let b = sym (variable_sizes_push before i) in
    let c = sym (rule_sizes_push text [] before i) in
    let d = sym (any_push is_solve before i) in
    let e = sym (any_push is_constraint before i) in
    let one = one_item text names vs rs before s i h in
    let with_b = subst (λ (z : List ℕ). Judged x (test && are_few z (rs ++ rule_sizes text names i)) (Stands (with_name text names i) z (rs ++ rule_sizes text names i) (list_any is_solve before || is_solve i) (list_any is_constraint before || is_constraint i))) b one in
    let with_c = subst (λ (z : List ℕ). Judged x (test && are_few (flat_map variable_sizes new) z) (Stands (with_name text names i) (flat_map variable_sizes new) z (list_any is_solve before || is_solve i) (list_any is_constraint before || is_constraint i))) c with_b in
    let with_a = subst (λ (z : Names). Judged x (passes text before i) (Stands z (flat_map variable_sizes new) (all_rule_sizes text [] new) (list_any is_solve before || is_solve i) (list_any is_constraint before || is_constraint i))) a with_c in
    let with_d = subst (λ (z : Bool). Judged x (passes text before i) (Stands (with_names text [] new) (flat_map variable_sizes new) (all_rule_sizes text [] new) z (list_any is_constraint before || is_constraint i))) d with_a in
    subst (λ (z : Bool). Judged x (passes text before i) (Stands (with_names text [] new) (flat_map variable_sizes new) (all_rule_sizes text [] new) (list_any is_solve new) z)) e with_d

-- ---- all items

-- whether each of these passes after those
abbrev all_pass : List ℕ → List Item → List Item → Bool
all_pass text before [] = true
all_pass text before (i ∷ rest) = passes text before i && all_pass text (before ++ i ∷ []) rest

all_judged : (text : List ℕ) (before rest : List Item) (s : SoFar) → StandsAfter text before s → Judged (after_all text s rest) (all_pass text before rest) (StandsAfter text (before ++ rest))
all_judged text before [] s h = (refl, subst (λ (is : List Item). StandsAfter text is s) (sym (append-nil before)) h)
all_judged text before (i ∷ rest) s h =
    subst (λ (is : List Item). Judged (after_all text s (i ∷ rest)) (all_pass text before (i ∷ rest)) (StandsAfter text is)) (append_assoc before (i ∷ []) rest)
    (judged_bind (after text s i) (λ t. after_all text t rest) (passes text before i) (all_pass text (before ++ i ∷ []) rest) (StandsAfter text (before ++ i ∷ [])) (StandsAfter text ((before ++ i ∷ []) ++ rest)) (item_judged text before s i h)
    (λ t k. all_judged text (before ++ i ∷ []) rest t k))

starts : (text : List ℕ) → StandsAfter text [] start
starts text = record { sorted = tt; counted = record { variables_are = refl; rules_are = refl; few = refl }; solved_is = refl; constrained_is = refl }

resolved_judged : (text : List ℕ) (items : List Item) → Judged (resolved text items) (all_pass text [] items && list_any is_solve items) (λ _. Unit {0})
unfolding resolved
resolved_judged text items =
    judged_bind (after_all text start items) finished (all_pass text [] items) (list_any is_solve items) (StandsAfter text items) (λ _. Unit {0}) (all_judged text [] items start (starts text))
    (λ t h. judged_test (finished t) t.solved (list_any is_solve items) (λ _. Unit {0}) h.solved_is (judged_choice t.solved t.problem refusal.NoSolve (λ _. Unit {0}) (λ _. tt)))

all_each : (text : List ℕ) (before rest : List Item) → all_pass text before rest ≡ true → (between : List Item) (i : Item) (more : List Item) → rest ≡ between ++ i ∷ more → passes text (before ++ between) i ≡ true
all_each text before rest h [] i more e =
    let k = subst (λ (is : List Item). all_pass text before is ≡ true) e h in
    subst (λ (is : List Item). passes text is i ≡ true) (sym (append-nil before)) (and_left (passes text before i) (all_pass text (before ++ i ∷ []) more) k)
all_each text before rest h (x ∷ xs) i more e =
    let k = subst (λ (is : List Item). all_pass text before is ≡ true) e h in
    let r = and_right (passes text before x) (all_pass text (before ++ x ∷ []) (xs ++ i ∷ more)) k in
    subst (λ (is : List Item). passes text is i ≡ true) (append_assoc before (x ∷ []) xs) (all_each text (before ++ x ∷ []) (xs ++ i ∷ more) r xs i more refl)

each_all : (text : List ℕ) (before rest : List Item) → ((between : List Item) (i : Item) (more : List Item) → rest ≡ between ++ i ∷ more → passes text (before ++ between) i ≡ true) → all_pass text before rest ≡ true
each_all text before [] h = refl
each_all text before (i ∷ rest) h =
    and_both (passes text before i) (all_pass text (before ++ i ∷ []) rest) (subst (λ (is : List Item). passes text is i ≡ true) (append-nil before) (h [] i rest refl))
    (each_all text (before ++ i ∷ []) rest (λ between j more e. subst (λ (is : List Item). passes text is j ≡ true) (sym (append_assoc before (i ∷ []) between)) (h (i ∷ between) j more (ap (λ (is : List Item). i ∷ is) e))))

-- ---- the laws

decided : {X : Type 0} (x : Result X Refusal) (b : Bool) → Judged x b (λ _. Unit {0}) → ((a : X) × (x ≡ Ok a)) ↔ (b ≡ true)
decided (Ok a) b h = ((λ k. h.0), (λ k. (a, refl)))
decided (Err e) b h = ((λ k. absurd (let f = k.1 in cc)), (λ k. absurd (let f = sym h ∙ k in cc)))

pub accepted_items : AcceptedItems
accepted_items text items =
    let d = decided (resolved text items) (all_pass text [] items && list_any is_solve items) (resolved_judged text items) in
    let all = all_pass text [] items in
    let some = list_any is_solve items in (
      (λ k. let t = d.0 k in record { each = all_each text [] items (and_left all some t); solved = and_right all some t }),
      (λ k. d.1 (and_both all some (each_all text [] items k.each) k.solved)),
    )

pub accepted_texts : AcceptedTexts
accepted_texts text = (
  (λ k. elim k.1 [
    | inl lexical ↦ absurd (let e = lexical.1 in cc)
    | inr rest ↦ elim rest [
      | inl unread ↦ absurd (let e = unread.result_is in cc)
      | inr r ↦ record { tokens = r.tokens; items = r.items; lexed = r.lexed; read = r.read; accepted = (accepted_items text r.items).0 (k.0, sym r.result_is) }
    ]
  ]),
  (λ a. let p = (accepted_items text a.items).1 a.accepted in (p.0, inr (inr (record { tokens = a.tokens; items = a.items; lexed = a.lexed; read = a.read; result_is = sym p.1 })))),
)
