-- CRC-32 (ISO/IEC 15948, annex D) and Adler-32 (RFC 1950, 8.2), as functions on lists of bytes.
use Rattle.std.specs.Prelude.{ℕ, zero, suc, ◌+◌, ◌*◌, ◌/◌, ◌%◌, ◌==◌, List, fold, bit_xor}
use Rattle.std.specs.Prelude.{if◌then◌else◌}

-- The register after one more bit.
abbrev pub crc_bit : ℕ → ℕ
crc_bit c = if (c % 2) == 1 then bit_xor (c / 2) 0xEDB88320 else c / 2

-- The register after `n` more bits.
abbrev pub crc_bits : ℕ → ℕ → ℕ
crc_bits c zero = c
crc_bits c (suc n) = crc_bit (crc_bits c n)

-- The register after one more byte.
abbrev pub crc_step : ℕ → ℕ → ℕ
crc_step register byte = crc_bits (bit_xor register byte) 8

abbrev pub crc_of : List ℕ → ℕ
crc_of bytes = bit_xor (fold crc_step 0xFFFFFFFF bytes) 0xFFFFFFFF

-- The two sums of Adler-32.
pub record Sums : Type 0 where
  pub low : ℕ
  pub high : ℕ

abbrev pub sums_step : Sums → ℕ → Sums
sums_step s byte = record {
  low = (s.low + byte) % 65521;
  high = (s.high + (s.low + byte) % 65521) % 65521;
}

abbrev pub sums_of : List ℕ → Sums
sums_of bytes = fold sums_step (record { low = 1; high = 0 }) bytes

-- The sums after some bytes, from given sums on.
abbrev pub sums_from : ℕ → ℕ → List ℕ → Sums
sums_from low high bytes = fold sums_step (record { low = low; high = high }) bytes

abbrev pub adler_of : List ℕ → ℕ
adler_of bytes = (sums_of bytes).high * 65536 + (sums_of bytes).low
