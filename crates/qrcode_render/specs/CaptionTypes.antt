-- A text below a picture that the program has laid out. It is not in `Captions`, whose words the
-- contracts of the file that declares the type use: that would be an import cycle.
use Rattle.std.specs.Prelude.{Option, map, option_map}
use Rattle.std.specs.String.{string_bytes}
use Rattle.qrcode_render.specs.Captions.{Block}
use Rattle.qrcode_render.specs.declared.block.Caption.{Caption}

-- A text by its lines and the size of its characters.
abbrev pub block_of : Caption → Block
block_of caption =
    record { lines = map string_bytes caption.lines.items; size = caption.size }

-- The same, if there is one.
abbrev pub option_block : Option Caption → Option Block
option_block caption = option_map block_of caption
