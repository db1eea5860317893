use Rattle.std.specs.Prelude.{map}
use Rattle.rup_check.specs.Stored.{place_of}
use Rattle.rup_check.proofs.PartLaws.{ends_added}
use Rattle.rup_check.proofs.NumberLaws.{places_small}
use Rattle.rup_check.proofs.places.PlaceList.push.Goals as goal

pub invariant_of-self : goal.invariant_of-self
invariant_of-self c =
    ends_added c.add_part.result c.self.inside.ends.items c.add_part.new.ends.items c.self.inside.literals.items c.add_part.new.places.items (map place_of c.args.numbers.now) c.self.invariant (places_small c.args.numbers.now c.requires) c.add_part.ensures.places c.add_part.ensures.ends c.add_part.ensures.no_places c.add_part.ensures.no_end
