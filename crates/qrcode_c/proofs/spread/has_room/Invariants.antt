-- What is left is the room without the symbols so far.
use Rattle.std.proofs.Common.{◌≡◌, ◌+◌, length, take}
use Rattle.qrcode_c.specs.Spread.{bytes_of_all}
use Rattle.qrcode_c.proofs.spread.has_room.Given as goal

abbrev pub invariant-loop-symbol : goal.invariant-loop-symbol
invariant-loop-symbol l = l.left + length (bytes_of_all (take l.symbol-index l.symbols)) ≡ l.room
