-- The bytes so far were added.
use Rattle.std.proofs.Common.{◌≡◌, ◌++◌, take}
use Rattle.qrcode_render.specs.Zpl.{field_data}
use Rattle.qrcode_render.proofs.zpl_text.push_text.Given as goal

abbrev pub invariant-loop-i : goal.invariant-loop-i
invariant-loop-i l = l.bytes.items ≡ l.initial.bytes.items ++ field_data (take l.i l.text)
