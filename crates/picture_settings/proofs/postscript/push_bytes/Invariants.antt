-- The bytes so far were added.
use Rattle.std.proofs.Common.{◌≡◌, ◌++◌, take}
use Rattle.std.specs.String.{string_bytes}
use Rattle.picture_settings.specs.PostScript.{string_text}
use Rattle.picture_settings.proofs.postscript.push_bytes.Given as goal

abbrev pub invariant-loop-i : goal.invariant-loop-i
invariant-loop-i l = string_bytes l.out ≡ string_bytes l.initial.out ++ string_text (take l.i l.bytes)
