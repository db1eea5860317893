-- The order that was read is the one under its name, where the folder tells its files.
use Rattle.std.proofs.Common.{◌≡◌, ℕ, List, Option, Some, None, Ok, length, refl, ap, subst}
use Rattle.std.specs.Prelude.{IfSome}
use Rattle.dcsp_outside.specs.Outside.{Place, bytes_of}
use Rattle.dcsp_rule.specs.Problems.{Contents}
use Rattle.dcsp_script.specs.Promises.{IsHeld}
use Rattle.abt_input.specs.Inputs.{HasOrder, IsOrderIn}
use Rattle.abt_input.specs.Files.{HasOrderRead, ReadsOrder}
use Rattle.abt_input.proofs.Files.{read_held}
use Rattle.abt_input.proofs.Once as once

-- an order was read as the one of the file under its name, or none where none is named
abbrev pub IsOrderHeld : Option (List ℕ → Option (List ℕ)) → Option (List ℕ) → Contents → Option (List ℕ) → Type 0
IsOrderHeld held order_file p order = IfSome held (λ files. IsOrderIn files order_file p order)

pub order_held : {order_file order : Option (List ℕ)} {p : Contents} {a b : Place} → HasOrderRead order_file p a b (Ok order) → IsOrderHeld a.held order_file p order
order_held {order_file = order_file} {order = order} {p = p} {a = a} {b = b} h = by order_file order h.reads
  where
    in_files : (held : Option (List ℕ → Option (List ℕ))) (name numbers bytes : List ℕ) → IsHeld held name bytes → HasOrder (length p.domains) bytes numbers → IsOrderHeld held (Some name) p (Some numbers)
    in_files None name numbers bytes is read = tt
    in_files (Some files) name numbers bytes is read = subst (λ (x : List ℕ). HasOrder (length p.domains) x numbers) is read

    unnamed : (held : Option (List ℕ → Option (List ℕ))) → IsOrderHeld held None p None
    unnamed None = tt
    unnamed (Some files) = tt

    by : (order_file order : Option (List ℕ)) → ReadsOrder order_file p a b (Ok order) → IsOrderHeld a.held order_file p order
    by None None h = unnamed a.held
    by None (Some numbers) h = absurd (let no = h.0 in cc)
    by (Some name) None h = absurd h
    by (Some name) (Some numbers) h = let r = read_held h in in_files a.held name numbers r.0 r.1 r.2

-- in files that are told alike
pub order_in : (order_file order : Option (List ℕ)) (p : Contents) {held files : Option (List ℕ → Option (List ℕ))} → held ≡ files → IsOrderHeld held order_file p order → IsOrderHeld files order_file p order
order_in order_file order p same h = subst (λ f. IsOrderHeld f order_file p order) same h

-- reading an order changes nothing of what the folder tells
pub order_kept : {order_file order : Option (List ℕ)} {p : Contents} {a b : Place} → HasOrderRead order_file p a b (Ok order) → b.held ≡ a.held
order_kept {order_file = order_file} {order = order} {p = p} {a = a} {b = b} h = by order_file order h.reads
  where
    by : (order_file order : Option (List ℕ)) → ReadsOrder order_file p a b (Ok order) → b.held ≡ a.held
    by None None h = ap (λ (q : Place). q.held) h.1
    by None (Some numbers) h = absurd (let no = h.0 in cc)
    by (Some name) None h = absurd h
    by (Some name) (Some numbers) h = h.held

-- a name has one order
pub one_order : (files : List ℕ → Option (List ℕ)) (order_file a b : Option (List ℕ)) (p : Contents) → IsOrderIn files order_file p a → IsOrderIn files order_file p b → a ≡ b
one_order files None None None p h k = refl
one_order files None None (Some b) p h k = absurd k
one_order files None (Some a) b p h k = absurd h
one_order files (Some name) None b p h k = absurd h
one_order files (Some name) (Some a) None p h k = absurd k
one_order files (Some name) (Some a) (Some b) p h k = ap (λ (x : List ℕ). Some x) (once.one_order (length p.domains) (bytes_of (files name)) a b h k)
