use Rattle.std.proofs.Common.{◌≡◌, ◌∷◌, [], true, cond, length, ◌∙◌, sym, ap, refl, arith, List}
use Rattle.std.proofs.lemmas.List.{length-append}
use Rattle.dcsp_defs.specs.declared.nogood.Pair.{Pair}
use Rattle.dcsp_defs.specs.Pairs.{var_at}
use Rattle.abt_defs.specs.Steps.{is_named}
use Rattle.abt_parts.specs.Stores.{places_naming}
use Rattle.abt_parts.specs.Places.{without_last}
use Rattle.abt_parts.specs.Index.{list_of}
use Rattle.abt_parts.specs.Values.{place_for}
use Rattle.abt_parts.proofs.PlaceLaws.{names, with_place, places_push}
use Rattle.abt_parts.proofs.NamingLaws.{named_at, in_use}
use Rattle.abt_parts.proofs.IndexLaws.{less_index}
use Rattle.abt_parts.proofs.store.Store.drop_last.Goals as goal

pub unname_item-requires-clause-there : goal.unname_item-requires-clause-there
unname_item-requires-clause-there c = λ j below.
    let rest = c.pop.new.self.items in
    let x = c.in-Some.item in
    let var = var_at c.pairs.result.now j in
    let named : names var x ≡ true = ap (is_named var) (sym c.pairs.ensures.pairs) ∙ named_at c.pairs.result.now j below in
    let is =
    c.self.invariant.named var ∙ ap (λ z. places_naming z var) c.in-Some.ensures.items ∙ places_push rest x var (length rest) refl
    ∙ ap (λ b. with_place b (length rest) (places_naming rest var)) named in
    in_use c.self.inside.lists.items var (omega (arith, ap length is, length-append (places_naming rest var) (length rest ∷ [])))

pub invariant_of-self : goal.invariant_of-self
invariant_of-self c =
    let lists = c.self.inside.lists.items in
    less_index c.self.inside.items.items c.pop.new.self.items c.in-Some.item (place_for c.self.inside.places) (place_for c.release_value.new.places) lists c.unname_item.new.lists.items c.self.invariant
    c.in-Some.ensures.items
    c.release_value.ensures.places
    (λ var.
    c.unname_item.ensures.places var ∙ ap (λ (pairs : List Pair). cond (is_named var pairs) (without_last (list_of lists var).items) (list_of lists var).items) c.pairs.ensures.pairs)
