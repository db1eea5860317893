use Rattle.std.proofs.Common.{zero-add}
use Rattle.std.proofs.lemmas.List.FromFn.{get_or-map-range_with_len}
use Rattle.fzn_token.specs.Classes.{class_of}
use Rattle.fzn_token.specs.declared.class.Class.TheVariants as class
use Rattle.fzn_token.proofs.class.class_of.Goals as goal

pub returns : goal.returns
returns c = get_or-map-range_with_len class_of 0 256 c.args.byte c.args.byte class.Letter c.ranges.byte.fits (zero-add c.args.byte)
