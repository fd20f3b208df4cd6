-- The bytes so far are counted.
use Rattle.std.proofs.Common.{◌≡◌, ◌≤◌, ◌*◌, length, take}
use Rattle.picture_settings.specs.PostScript.{string_text}
use Rattle.picture_settings.proofs.postscript.text_length.Given as goal

abbrev pub invariant-loop-i : goal.invariant-loop-i
invariant-loop-i l = record {
  exact : l.count ≡ length (string_text (take l.i l.bytes));
  few : l.count ≤ 4 * l.i;
}
