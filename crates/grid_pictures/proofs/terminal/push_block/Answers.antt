-- The character, by its bytes.
use Rattle.std.proofs.Common.{◌≡◌, ◌++◌, [], ◌∷◌, List, ℕ, Result, Ok, Err, OnOk, refl, ap, ◌∙◌}
use Rattle.std.specs.Prelude.{if◌then◌else◌, is_ok, encode_utf8}
use Rattle.std.specs.String.{string_bytes}
use Rattle.std.proofs.Math.Utf8.{encode}
use Rattle.grid_pictures.specs.Terminals.{half_blocks}
use Rattle.grid_pictures.proofs.terminal.push_block.Goals as goal

appended : {T E : Type 0} (r : Result T E) (new old piece wanted : List ℕ) → new ≡ (if is_ok r then old ++ piece else old) → piece ≡ wanted →
    OnOk r (new ≡ old ++ wanted)
appended (Ok x) new old piece wanted is same = is ∙ ap (λ l. old ++ l) same
appended (Err e) new old piece wanted is same = tt

pub returns-in-true-true : goal.returns-in-true-true
unfolding encode
returns-in-true-true c =
    appended c.push_str.result (string_bytes c.push_str.new.self) (string_bytes c.args.text.now) (0xE2 ∷ 0x96 ∷ 0x88 ∷ [])
    (encode_utf8 (half_blocks c.args.upper c.args.lower)) c.push_str.ensures.bytes (rw (c.in-true-true.is-0, c.in-true-true.is-1) refl)

pub returns-in-true-false : goal.returns-in-true-false
unfolding encode
returns-in-true-false c =
    appended c.push_str-in-true-false.result (string_bytes c.push_str-in-true-false.new.self) (string_bytes c.args.text.now) (0xE2 ∷ 0x96 ∷ 0x80 ∷ [])
    (encode_utf8 (half_blocks c.args.upper c.args.lower)) c.push_str-in-true-false.ensures.bytes (rw (c.in-true-false.is-0, c.in-true-false.is-1) refl)

pub returns-in-false-true : goal.returns-in-false-true
unfolding encode
returns-in-false-true c =
    appended c.push_str-in-false-true.result (string_bytes c.push_str-in-false-true.new.self) (string_bytes c.args.text.now) (0xE2 ∷ 0x96 ∷ 0x84 ∷ [])
    (encode_utf8 (half_blocks c.args.upper c.args.lower)) c.push_str-in-false-true.ensures.bytes (rw (c.in-false-true.is-0, c.in-false-true.is-1) refl)
