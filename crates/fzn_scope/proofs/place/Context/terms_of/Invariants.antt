use Rattle.std.proofs.Common.{◌≡◌, [], drop}
use Rattle.fzn_scope.specs.Places.{terms_after}
use Rattle.fzn_scope.proofs.place.Context.terms_of.Given as goal

-- what the rest gives, after the terms so far, is what the whole gives
abbrev pub invariant-loop-atom : goal.invariant-loop-atom
invariant-loop-atom l = terms_after l.self.text.now l.self.names.now l.wanted l.terms.items (drop l.atom-index l.atoms) ≡ terms_after l.self.text.now l.self.names.now l.wanted [] l.atoms
