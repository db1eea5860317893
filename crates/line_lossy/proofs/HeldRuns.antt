-- The run of the problem that was read of a model, under the order that was read, is that of the model's.
use Rattle.std.proofs.Common.{◌≡◌, ℕ, List, length, Option, Some, None, Result, Ok, sym, ap, subst}
use Rattle.dcsp_outside.specs.Outside.{Place, bytes_of}
use Rattle.dcsp_rule.specs.Problems.{Contents, csp_of}
use Rattle.dcsp_problem.specs.WellFormed.{IsProblem}
use Rattle.dcsp_order.specs.Told.{ordered, IsOrderFor}
use Rattle.dcsp_script.specs.declared.status.Status.{Status}
use Rattle.dcsp_script.specs.Promises.{IsHeld}
use Rattle.abt_input.specs.Inputs.{IsModelOf, IsOrderIn, HasOrder}
use Rattle.abt_input.specs.Files.{HasOrderRead, ReadsOrder}
use Rattle.abt_input.proofs.Files.{read_held}
use Rattle.abt_input.proofs.Once.{one_order, one_problem}
use Rattle.line_replay.specs.Endings.{end_status}
use Rattle.line_lossy.specs.Asked.{lossy, run_world, end_of}
use Rattle.line_lossy.specs.Meaning.{RunsAreRight, HoldsLossyRun, IsLossyRun}

-- the folder held it under its name, where one is given
abbrev pub HeldOrder : Option (List ℕ) → Option (List ℕ → Option (List ℕ)) → Contents → Option (List ℕ) → Type 0
HeldOrder None files problem order = order ≡ None
HeldOrder (Some name) files problem None = ⊥
HeldOrder (Some name) files problem (Some order) = (text : List ℕ) × IsHeld files name text × HasOrder (length problem.domains) text order

pub held_order : {o order : Option (List ℕ)} {problem : Contents} {p q : Place} → HasOrderRead o problem p q (Ok order) → HeldOrder o p.held problem order
held_order {o = o} {order = order} {problem = problem} {p = p} {q = q} h = by o order h.reads
  where
    none : {x y : Option (List ℕ)} {E : Type 0} → ◌≡◌ {A = Result (Option (List ℕ)) E} (Ok x) (Ok y) → x ≡ y
    none e = cc

    by : (o order : Option (List ℕ)) → ReadsOrder o problem p q (Ok order) → HeldOrder o p.held problem order
    by None order h = none h.0
    by (Some name) None h = absurd h
    by (Some name) (Some order) h = read_held h

-- where the folder still told the same
pub order_as : (o : Option (List ℕ)) (problem : Contents) (order : Option (List ℕ)) {files held : Option (List ℕ → Option (List ℕ))} → held ≡ files → HeldOrder o held problem order → HeldOrder o files problem order
order_as o problem order e g = subst (λ f. HeldOrder o f problem order) e g

-- it was read, by another name
pub order_is : {o x y : Option (List ℕ)} {problem : Contents} {p q : Place} → x ≡ y → HasOrderRead o problem p q (Ok y) → HasOrderRead o problem p q (Ok x)
order_is {o = o} {problem = problem} {p = p} {q = q} e h = subst (λ z. HasOrderRead o problem p q (Ok z)) (sym e) h

-- it is one of the problem's variables
its_order : (o : Option (List ℕ)) (files : Option (List ℕ → Option (List ℕ))) (problem : Contents) (order : Option (List ℕ)) → HeldOrder o files problem order → IsOrderFor order problem
its_order None files problem None h = tt
its_order None files problem (Some order) h = absurd (let no = h in cc)
its_order (Some name) files problem None h = absurd h
its_order (Some name) files problem (Some order) h = h.2.reads.is_order

-- the file says one order
same_order : (o : Option (List ℕ)) (files : List ℕ → Option (List ℕ)) (problem : Contents) (order other : Option (List ℕ)) → HeldOrder o (Some files) problem order → IsOrderIn files o problem other → order ≡ other
same_order None files problem order None h g = h
same_order None files problem order (Some other) h g = absurd g
same_order (Some name) files problem None other h g = absurd h
same_order (Some name) files problem (Some order) None h g = absurd g
same_order (Some name) files problem (Some order) (Some other) h g = ap Some (one_order (length problem.domains) (bytes_of (files name)) order other (subst (λ b. HasOrder (length problem.domains) b order) h.1 h.2) g)

pub holds_run : (files : Option (List ℕ → Option (List ℕ))) (name : List ℕ) (o : Option (List ℕ)) (events seed : ℕ) (log : List ℕ) (kept : Option (List ℕ)) (p : Contents) (order : Option (List ℕ))
    → ((model : List ℕ) × IsHeld files name model × IsModelOf model p) → HeldOrder o files p order → IsProblem p → RunsAreRight
    → (status : Status) → status ≡ end_status (end_of (csp_of (ordered order p)) (run_world (lossy order p events seed log kept))) → HoldsLossyRun files name o events seed log kept status
holds_run None name o events seed log kept p order h d ok right status is = tt
holds_run (Some files) name o events seed log kept p order h d ok right status is = λ q under k in_order.
    let one : p ≡ q = one_problem (bytes_of (files name)) p q (subst (λ m. IsModelOf m p) h.1 h.2) k in
    let two : order ≡ under = same_order o files p order under d (subst (λ x. IsOrderIn files o x under) (sym one) in_order) in
    let mine = right p order events seed log kept ok (its_order o (Some files) p order d) status is in
    subst (λ x. IsLossyRun (lossy under x events seed log kept) status) one (subst (λ x. IsLossyRun (lossy x p events seed log kept) status) two mine)
