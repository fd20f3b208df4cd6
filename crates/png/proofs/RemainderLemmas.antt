-- A byte of CRC-32 at once.
use Rattle.std.proofs.Common.{◌≡◌, ℕ, zero, suc, ◌+◌, ◌*◌, ◌/◌, ◌%◌, ◌^◌, ◌==◌, ◌<◌, Bool, true, false}
use Rattle.std.proofs.Common.{map, get_or, refl, sym, ◌∙◌, ap, arith}
use Rattle.std.specs.Prelude.{bit_xor, if◌then◌else◌}
use Rattle.std.specs.List.{range_with_len}
use Rattle.std.specs.Int.Bits.{xor_assoc, xor_shifted, xor_zero_r}
use Rattle.std.proofs.lemmas.List.FromFn.{get_or-map-range_with_len}
use Rattle.std.proofs.lemmas.Nat.{xor_comm, xor_mod, xor_shr}
use Rattle.png.proofs.BitLemmas.{pow_more}
use Rattle.png.specs.Checksums.{crc_bit, crc_bits, crc_step}
use Rattle.png.specs.declared.remainders.TheConstants.{REMAINDERS}

exchanged : (a b c : ℕ) → bit_xor (bit_xor a b) c ≡ bit_xor (bit_xor a c) b
exchanged a b c = xor_assoc a b c ∙ ap (bit_xor a) (xor_comm b c) ∙ sym (xor_assoc a c b)

abbrev divided : Bool → ℕ → ℕ
divided odd half = if odd then bit_xor half 0xEDB88320 else half

apart_by : (odd : Bool) (half h : ℕ) → divided odd (bit_xor half h) ≡ bit_xor (divided odd half) h
apart_by true half h = exchanged half h 0xEDB88320
apart_by false half h = refl

-- what is above the lowest bit moves on as it is
bit_apart : (a h : ℕ) → crc_bit (bit_xor a (2 * h)) ≡ bit_xor (crc_bit a) h
bit_apart a h =
    let none : 2 * h % 2 ^ 1 ≡ 0 = omega arith in
    let halved : 2 * h / 2 ^ 1 ≡ h = omega arith in
    let odd : bit_xor a (2 * h) % 2 ≡ a % 2 =
    xor_mod a (2 * h) 1 ∙ ap (bit_xor (a % 2)) none ∙ xor_zero_r (a % 2) in
    let half : bit_xor a (2 * h) / 2 ≡ bit_xor (a / 2) h = xor_shr a (2 * h) 1 ∙ ap (bit_xor (a / 2)) halved in
    ap (λ (p : ℕ). divided (p == 1) (bit_xor a (2 * h) / 2)) odd
    ∙ ap (divided ((a % 2) == 1)) half
    ∙ apart_by ((a % 2) == 1) (a / 2) h

-- what is above the lowest bits
bits_apart : (n a h : ℕ) → crc_bits (bit_xor a (h * 2 ^ n)) n ≡ bit_xor (crc_bits a n) h
bits_apart zero a h =
    let e : h * 2 ^ zero ≡ h = omega arith in
    ap (bit_xor a) e
bits_apart (suc n) a h =
    let e : h * 2 ^ suc n ≡ 2 * h * 2 ^ n = ap (λ (p : ℕ). h * p) (pow_more n) ∙ omega arith in
    ap (λ (x : ℕ). crc_bit (crc_bits (bit_xor a x) n)) e
    ∙ ap crc_bit (bits_apart n a (2 * h))
    ∙ bit_apart (crc_bits a n) h

-- the table, computed
remainders_are : REMAINDERS ≡ map (λ i. crc_bits i 8) (range_with_len 0 256)
remainders_are = refl

remainder_at : (i : ℕ) → i < 256 → get_or REMAINDERS i 0 ≡ crc_bits i 8
remainder_at i h =
    let at : 0 + i ≡ i = omega arith in
    ap (λ l. get_or l i 0) remainders_are ∙ get_or-map-range_with_len (λ i. crc_bits i 8) 0 256 i i 0 h at

pub step_by_table : (register byte : ℕ) →
    crc_step register byte ≡ bit_xor (bit_xor register byte / 256) (get_or REMAINDERS (bit_xor register byte % 256) 0)
step_by_table register byte =
    let x = bit_xor register byte in
    let low : x % 256 < 2 ^ 8 = omega arith in
    let parts : x / 256 * 2 ^ 8 + x % 256 ≡ x = omega arith in
    let both : bit_xor (x % 256) (x / 256 * 2 ^ 8) ≡ x = xor_comm (x % 256) (x / 256 * 2 ^ 8) ∙ xor_shifted (x / 256) 8 (x % 256) low ∙ parts in
    ap (λ (y : ℕ). crc_bits y 8) (sym both)
    ∙ bits_apart 8 (x % 256) (x / 256)
    ∙ ap (λ (y : ℕ). bit_xor y (x / 256)) (sym (remainder_at (x % 256) low))
    ∙ xor_comm (get_or REMAINDERS (x % 256) 0) (x / 256)
