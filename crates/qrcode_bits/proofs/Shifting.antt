-- Bytes after an incomplete byte: each index has the low bits of one byte and the high bits of
-- the next.
use Rattle.qrcode_bits.proofs.Prelude.{◌≡◌, ℕ, ◌+◌, ◌-◌, ◌*◌, ◌/◌, ◌%◌, ◌^◌, ◌<◌, ◌≤◌, List, ◌++◌, length, arith, take, append_assoc, append-nil, add_comm}
use Rattle.qrcode_bits.proofs.Prelude.{slice_index_or, bit_and, pow-add, drop_all, length-drop, take-append_seam, flat_map-append, common_steps}
use Rattle.qrcode_bits.proofs.Prelude.{number_bits, byte_bits, Stream, Appends, kept_bits, room_in, IsKept}
use borrow.Rule.Slice.PartMut.{post_of}
use Rattle.std.{specs.Prelude.slice_set}
use Rattle.qrcode_bits.proofs.Numbers.{number_bits-join, number_bits-cut, number_bits-mod, high_free, length-byte_bits}

low_free : (used before byte : ℕ) → used < 8 → number_bits used (before * 2 ^ 8 + byte) ≡ number_bits used byte
low_free used before byte part = grind (arith, high_free used (before * 2 ^ (8 - used)) byte, pow-add 2 (8 - used) used)

-- one byte more
one_shifted : (used before byte : ℕ) → used < 8 → byte < 2 ^ 8 →
    number_bits used before ++ number_bits 8 byte ≡ number_bits 8 ((before * 2 ^ 8 + byte) / 2 ^ used % 2 ^ 8) ++ number_bits used byte
one_shifted used before byte part small =
    grind (arith, add_comm used 8, low_free used before byte part, number_bits-cut, number_bits-join used 8 before byte small, number_bits-mod)

-- one more index: the bytes up to it and the bits that are left are the bits before and the text up
-- to there
pub shifted_more : (into text : List ℕ) (used partial before wide next i : ℕ) → length into ≡ length text → i < length text → used < 8 →
    wide ≡ before * 2 ^ 8 + next → next ≡ slice_index_or text i 0 → slice_index_or text i 0 < 2 ^ 8 →
    byte_bits (take i into) ++ number_bits used before ≡ number_bits used partial ++ byte_bits (take i text) →
    byte_bits (take (i + 1) (slice_set into i (bit_and (wide / 2 ^ used) 255))) ++ number_bits used next
    ≡ number_bits used partial ++ byte_bits (take (i + 1) text)
shifted_more into text used partial before wide next i long inside part is here small so_far =
    grind (arith, common_steps, one_shifted used before (slice_index_or text i 0) part small)

-- ---- The stream

pub kept_more : (len cap cap' used partial left n word : ℕ) → IsKept len cap used partial → 8 * n ≤ room_in cap len used → cap ≤ cap' → left ≡ word % 2 ^ used →
    IsKept (len + n) cap' used left
kept_more len cap cap' used partial left n word kept room grows is = grind arith

-- the bytes that were there, and these in place of those after them
pub replaced : (bytes text whole filled : List ℕ) (start : ℕ) → whole ≡ bytes ++ text → start ≡ length bytes →
    take start whole ++ (filled ++ post_of start (length whole - start) whole) ≡ bytes ++ filled
replaced bytes text whole filled start is from = grind (arith, take-append_seam, drop_all, length-drop, append-nil)

pub appends_shifted : (old : Stream) (bytes now text filled : List ℕ) (len len' cap cap' used partial before left : ℕ) →
    old.bits ≡ kept_bits bytes used partial → old.room ≡ room_in cap len used → now ≡ bytes ++ filled → len' ≡ len + length text → cap ≤ cap' → used < 8 →
    byte_bits filled ++ number_bits used before ≡ number_bits used partial ++ byte_bits text → left ≡ before % 2 ^ used →
    Appends old (record {
      bits = kept_bits now used left;
      version = old.version;
      modes = old.modes;
      payload = old.payload;
      room =
          room_in cap' len' used;
    }) (byte_bits text)
appends_shifted old bytes now text filled len len' cap cap' used partial before left bits room is longer grows part are last =
    grind (arith, common_steps, length-byte_bits, flat_map-append, append_assoc, number_bits-mod)
