-- How the ways of two scripts, one made after the other, make one.
use Rattle.std.proofs.Common.{◌≡◌, ℕ, ◌≤◌, List, [], ◌∷◌, ◌++◌, Result, Ok, Err, refl, sym, ap, subst, ◌∙◌, append_assoc}
use Rattle.std.specs.Prelude.{IsErr, IsErrAnd, Contains}
use Rattle.std.proofs.lemmas.List.Elements.{Contains-append_left}
use Rattle.dcsp_outside.specs.Outside.{Rose}
use Rattle.dcsp_script.specs.declared.stop.Stop.{Stop}
use Rattle.dcsp_script.specs.declared.stop.Stop.TheVariants.{Fault, Memory}
use Rattle.dcsp_script.specs.Scripts.{Write, Create, Empty, Append, Put, World, created_by, IsAfter}
use Rattle.dcsp_script.specs.Ways.{CountsStay, NoneFell, RoseAt, Did, DidStartOf, FailedIn, Ended, Wrote}
use Rattle.dcsp_script.proofs.After.{IsAfter-nothing, IsAfter-append}

pub CountsStay-same : (a : World) → CountsStay a a
CountsStay-same a = record { folder = record { reads = refl; writes = refl }; out = refl }

pub CountsStay-trans : (a b c : World) → CountsStay a b → CountsStay b c → CountsStay a c
CountsStay-trans a b c p q = record {
  folder = record { reads = q.folder.reads ∙ p.folder.reads; writes = q.folder.writes ∙ p.folder.writes };
  out = q.out ∙ p.out;
}

-- a count that rose after nothing changed rose
pub RoseAt-after : (w : Write) (a b c : World) → CountsStay a b → RoseAt w b c → RoseAt w a c
RoseAt-after (Create name) a b c n r = subst (λ f. Rose (f name) (c.folder.writes name)) n.folder.writes r
RoseAt-after (Empty name) a b c n r = subst (λ f. Rose (f name) (c.folder.writes name)) n.folder.writes r
RoseAt-after (Append name bytes) a b c n r = subst (λ f. Rose (f name) (c.folder.writes name)) n.folder.writes r
RoseAt-after (Put bytes) a b c n r = subst (λ k. Rose k c.out.faults) n.out r

pub NoneFell-after : (a b c : World) → CountsStay a b → NoneFell b c → NoneFell a c
NoneFell-after a b c n f = record {
  reads = λ name. subst (λ g. g name ≤ c.folder.reads name) n.folder.reads (f.reads name);
  writes = λ name. subst (λ g. g name ≤ c.folder.writes name) n.folder.writes (f.writes name);
  out = subst (λ k. k ≤ c.out.faults) n.out f.out;
}

-- nothing was to be made
pub did_nothing : (a : World) → Did [] a a
did_nothing a = record { after = IsAfter-nothing a; counts = CountsStay-same a }

-- a script, and then another
pub did_both : (s t : List Write) (a b c : World) → Did s a b → Did t b c → Did (s ++ t) a c
did_both s t a b c p q = record { after = IsAfter-append s t a b c p.after q.after; counts = CountsStay-trans a b c p.counts q.counts }

-- what was created stays created
pub still_created : (s : List Write) (a b : World) (name : List ℕ) → Did s a b → Contains a.folder.created name → Contains b.folder.created name
still_created s a b name d h = rw d.after.created (Contains-append_left a.folder.created (created_by s) name h)

-- some first writes, of a script that more comes before or after
start_after : (s t : List Write) (a b c : World) → Did s a b → DidStartOf t b c → DidStartOf (s ++ t) a c
start_after s t a b c p h = record {
  start = s ++ h.start;
  rest = h.rest;
  is_script = append_assoc s h.start h.rest ∙ ap (λ l. s ++ l) h.is_script;
  did = did_both s h.start a b c p h.did;
}

start_longer : (s t : List Write) (a b : World) → DidStartOf s a b → DidStartOf (s ++ t) a b
start_longer s t a b h = record {
  start = h.start;
  rest = h.rest ++ t;
  is_script = sym (append_assoc h.start h.rest t) ∙ ap (λ l. l ++ t) h.is_script;
  did = h.did;
}

-- the same of a write that failed
failed_after : (s t : List Write) (a b c : World) → Did s a b → FailedIn t b c → FailedIn (s ++ t) a c
failed_after s t a b c p h = record {
  start = s ++ h.start;
  write = h.write;
  rest = h.rest;
  is_script = append_assoc s h.start (h.write ∷ h.rest) ∙ ap (λ l. s ++ l) h.is_script;
  left = h.left;
  is_left = h.is_left;
  after = subst (λ l. IsAfter l a c) (sym (append_assoc s h.start h.left)) (IsAfter-append s (h.start ++ h.left) a b c p.after h.after);
  rose = RoseAt-after h.write a b c p.counts h.rose;
  none_fell = NoneFell-after a b c p.counts h.none_fell;
}

failed_longer : (s t : List Write) (a b : World) → FailedIn s a b → FailedIn (s ++ t) a b
failed_longer s t a b h = record {
  start = h.start;
  write = h.write;
  rest = h.rest ++ t;
  is_script = sym (append_assoc h.start (h.write ∷ h.rest) t) ∙ ap (λ l. l ++ t) h.is_script;
  left = h.left;
  is_left = h.is_left;
  after = h.after;
  rose = h.rose;
  none_fell = h.none_fell;
}

-- a script was made, and then another was tried
pub then_ended : {T : Type 0} (s t : List Write) (a b c : World) (r : Result T Stop) → Did s a b → Ended t b c r → Ended (s ++ t) a c r
then_ended s t a b c (Ok x) p q = did_both s t a b c p q
then_ended s t a b c (Err Fault) p q = failed_after s t a b c p q
then_ended s t a b c (Err Memory) p q = start_after s t a b c p q

-- what stops a script stops a longer one
pub stop_ended : (T U : Type 0) (s t : List Write) (a b : World) (e : Stop) → Ended {T = T} s a b (Err e) → Ended {T = U} (s ++ t) a b (Err e)
stop_ended T U s t a b Fault h = failed_longer s t a b h
stop_ended T U s t a b Memory h = start_longer s t a b h

pub then_wrote : {T : Type 0} {s t : List Write} {a b c : World} {r : Result T Stop} → Did s a b → b.folder.handed ≡ a.folder.handed → Wrote t b c r → Wrote (s ++ t) a c r
then_wrote {s = s} {t = t} {a = a} {b = b} {c = c} {r = r} p same q = record { ended = then_ended s t a b c r p q.ended; handed = q.handed ∙ same }

-- the same of a call that hands the stop on
pub stop_wrote : {T U : Type 0} {s : List Write} {a b : World} {e : Stop} (t : List Write) (r : Result U Stop) → IsErr r × IsErrAnd r (λ y. y ≡ e) → Wrote {T = T} s a b (Err e) → Wrote (s ++ t) a b r
stop_wrote {T = T} {U = U} {s = s} {a = a} {b = b} {e = e} t (Ok x) is h = absurd (let no = is.0 in cc)
stop_wrote {T = T} {U = U} {s = s} {a = a} {b = b} {e = e} t (Err y) is h = rw is.1 (record { ended = stop_ended T U s t a b e h.ended; handed = h.handed })
