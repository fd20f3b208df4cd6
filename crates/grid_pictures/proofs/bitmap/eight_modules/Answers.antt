-- The bits, from the bytes of the modules.
use Rattle.std.proofs.Common.{◌+◌, ◌-◌, ◌∙◌, ap, take, drop, get_or}
use Rattle.grid_pictures.proofs.WordLemmas.{module_within, packed, packed_is}
use Rattle.grid_pictures.proofs.bitmap.eight_modules.Goals as goal

pub returns : goal.returns
returns c =
    ap (packed c.args.scale) c.from_be_bytes-word.ensures
    ∙ packed_is c.args.row c.args.column c.args.scale (λ i. get_or (take (c.args.column + 8 - c.args.column) (drop c.args.column c.args.modules.now)) i 0)
    c.requires.some c.requires.narrow (λ i few. module_within c.args.row c.args.modules.now c.args.column i c.requires.bytes c.requires.inside few)
