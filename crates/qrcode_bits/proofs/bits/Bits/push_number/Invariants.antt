-- What was pushed and the bits that are left are the old ones and the number.
use Rattle.qrcode_bits.proofs.Prelude.{◌≡◌, ◌+◌, ◌*◌, ◌^◌, ◌<◌, ◌≤◌, ◌++◌, vec_len, vec_capacity, byte_bits, number_bits, kept_bits}
use Rattle.qrcode_bits.proofs.bits.Bits.push_number.Given as goal

abbrev pub invariant-loop-left : goal.invariant-loop-left
invariant-loop-left l = record {
  whole : l.wide ≡ l.initial.self-inside.partial * 2 ^ l.width + l.number;
  bits : byte_bits l.self-inside.bytes.items ++ number_bits l.left l.wide
      ≡ kept_bits l.initial.self-inside.bytes.items l.initial.self-inside.used l.initial.self-inside.partial ++ number_bits l.width l.number;
  long : 8 * vec_len l.self-inside.bytes + l.left ≡ 8 * vec_len l.initial.self-inside.bytes + l.initial.self-inside.used + l.width;
  few : l.left < 48;
  grows : vec_capacity l.initial.self-inside.bytes ≤ vec_capacity l.self-inside.bytes;
  version : l.self-inside.version ≡ l.initial.self-inside.version;
  modes : l.self-inside.modes ≡ l.initial.self-inside.modes;
  payload : l.self-inside.payload ≡ l.initial.self-inside.payload;
}

abbrev pub decreases-loop-left : goal.decreases-loop-left
decreases-loop-left l = l.left
