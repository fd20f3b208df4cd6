-- Words in quotes, byte by byte.
use Rattle.std.proofs.Common.{◌≡◌, ◌+◌, ◌<◌, ◌≤◌, ℕ, Bool, true, false, List, [], ◌∷◌, ◌++◌, length, drop, arith, append_assoc, ◌∙◌, sym, ap, subst}
use Rattle.std.specs.Prelude.{slice_index, not}
use Rattle.std.proofs.lemmas.{Grind.common_steps, List.drop_more}
use Rattle.std.specs.Io.KnownBytes.{Appends}
use Rattle.programs.specs.Devices.{SinkState, Writes, output}
use Rattle.programs.specs.Quotes.{is_shown, quoted_byte, quoted_from}
use Rattle.programs.proofs.DeviceLemmas.{Writes-stopped, Writes-after}

-- what is left after one byte more
abbrev rest_after : List ℕ → ℕ → List ℕ
rest_after bytes i = quoted_from (not (is_shown (slice_index bytes i))) (drop (i + 1) bytes)

quoted_step : (escaped : Bool) (bytes : List ℕ) (i : ℕ) → i < length bytes →
    quoted_from escaped (drop i bytes) ≡ quoted_byte escaped (slice_index bytes i) ++ rest_after bytes i
quoted_step escaped bytes i below = ap (quoted_from escaped) (drop_more bytes i 0 below)

pub quoted_more : (escaped : Bool) (bytes text whole : List ℕ) (i : ℕ) → i < length bytes → text ++ quoted_from escaped (drop i bytes) ≡ whole →
    (text ++ quoted_byte escaped (slice_index bytes i)) ++ rest_after bytes i ≡ whole
quoted_more escaped bytes text whole i below is =
    append_assoc text (quoted_byte escaped (slice_index bytes i)) (rest_after bytes i)
    ∙ sym (ap (λ rest. text ++ rest) (quoted_step escaped bytes i below)) ∙ is

-- writing stopped in a byte
pub byte_stopped : (a b c : SinkState) (escaped : Bool) (bytes text : List ℕ) (i : ℕ) → i < length bytes →
    text ++ quoted_from escaped (drop i bytes) ≡ quoted_from false bytes → c.failed ≡ true → Appends a.written b.written text →
    Writes (output b c) (quoted_byte escaped (slice_index bytes i)) → Writes (output a c) (quoted_from false bytes)
byte_stopped a b c escaped bytes text i below is failed sent writes =
    subst (Writes (output a c)) (quoted_more escaped bytes text (quoted_from false bytes) i below is)
    (Writes-stopped (output a c) (text ++ quoted_byte escaped (slice_index bytes i)) (rest_after bytes i) failed
    (Writes-after a b c text (quoted_byte escaped (slice_index bytes i)) sent writes))

-- all bytes were written, and then the quote
pub quote_last : (a b c : SinkState) (escaped : Bool) (bytes text : List ℕ) (i : ℕ) → length bytes ≤ i →
    text ++ quoted_from escaped (drop i bytes) ≡ quoted_from false bytes → Appends a.written b.written text →
    Writes (output b c) (39 ∷ []) → Writes (output a c) (quoted_from false bytes)
quote_last a b c escaped bytes text i all is sent writes =
    let none : drop i bytes ≡ [] = grind (arith, common_steps, all) in
    subst (Writes (output a c)) (rw none at is) (Writes-after a b c text (39 ∷ []) sent writes)
