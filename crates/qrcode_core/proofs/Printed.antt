-- The printed symbol of the digits 12345 in M1 is read as these digits: its parts are computed.
use Rattle.qrcode_core.proofs.Prelude.{◌≡◌, ℕ, zero, suc, pos, ◌+◌, ◌*◌, ◌<◌, refl, arith, List, [], ◌∷◌, Bool, true, false, take, rules, Option, Some, None}
use Rattle.qrcode_core.proofs.Prelude.{slice_get, codes, Color, Light, Dark, Version, Micro, byte_bits, blocks, place_in_stream, block_in}
use Rattle.qrcode_core.proofs.Prelude.{codeword_block, AreCodewords, format_word, HasFunctionalColors, functional_color, Reads}
use Rattle.qrcode_core.specs.Headline.{printed, printed_reading}
use Rattle.std.specs.Prelude.{◌≢◌}
use Rattle.std.proofs.lemmas.List.Elements.{All-cons, All-nil}
use Rattle.qrcode_base.specs.{declared.types.EcLevel.TheVariants.L, declared.types.Mode.TheVariants.Numeric, Numbers.number_bits}
use Rattle.qrcode_bits.specs.{Frame.IsFrame, Frame.no_front, Frame.bytes_in_turn, Spelling.Piece, Spelling.IsSpellable}
use Rattle.qrcode_grid.specs.Codes.{value_at, IsSound, double, shift_and_add, product, power}
use Rattle.qrcode_grid.{specs.declared.canvas.MaskPattern.TheVariants.Diamonds, proofs.Tests.all_pass, proofs.Tests.passes}

-- ---- Functional colours, computed

abbrev pub shows : Option Color → Option Color → Bool
shows None seen = true
shows (Some Dark) (Some Dark) = true
shows (Some Light) (Some Light) = true
shows _ _ = false

abbrev pub shows_functional : Version → ℕ → ℕ → List Color → Bool
shows_functional version word w grid =
    all_pass (λ y. all_pass (λ x. shows (functional_color version word x y) (slice_get grid (y * w + x))) 0 w) 0 w

pub functional-of_test : (version : Version) (word w : ℕ) (grid : List Color) → shows_functional version word w grid ≡ true →
    (x y : ℕ) (c : Color) → x < w → y < w → functional_color version word x y ≡ Some c → slice_get grid (y * w + x) ≡ Some c
functional-of_test version word w grid test x y c l m e =
    let row = passes (λ y. all_pass (λ x. shows (functional_color version word x y) (slice_get grid (y * w + x))) 0 w) 0 w y test (omega arith) (omega arith) in
    let here = passes (λ x. shows (functional_color version word x y) (slice_get grid (y * w + x))) 0 w x row (omega arith) (omega arith) in
    grind (arith, here)

-- ---- The symbol

printed_functional : HasFunctionalColors (Micro (pos 1)) L Diamonds printed
printed_functional = functional-of_test (Micro (pos 1)) (format_word (Micro (pos 1)) L Diamonds) 11 printed refl

abbrev words : List ℕ
words = 0xA3 ∷ 0xDA ∷ 0xD0 ∷ []

abbrev checks : List ℕ
checks = 0x6E ∷ 0xC7 ∷ []

printed_sound : (block : ℕ) → block < 1 → IsSound 2 (codeword_block 2 (3 ∷ []) words checks block)
unfolding IsSound value_at power product shift_and_add double block_in place_in_stream
printed_sound zero h zero below = refl
printed_sound zero h (suc zero) below = refl
printed_sound zero h (suc (suc i)) below = absurd (omega arith)
printed_sound (suc block) h i below = absurd (omega arith)

printed_codewords : AreCodewords 2 (3 ∷ []) words words checks
unfolding block_in place_in_stream
printed_codewords = record { stream_length = refl; correction_length = refl; in_order = refl; sound = printed_sound }

abbrev digits : Piece
digits = record { mode = Numeric; text = codes "12345" }

printed_frame : IsFrame (Micro (pos 1)) L no_front (codes "12345") 20 (take 20 (byte_bits words))
unfolding number_bits bytes_in_turn
printed_frame = record {
  limit = 20;
  pieces = digits ∷ [];
  limit_is = refl;
  front_fits = (tt, tt);
  allowed = tt;
  spellable = All-cons (IsSpellable (Micro (pos 1))) digits [] (record { mode = omega arith; valid = search rules; counted = omega arith })
      (All-nil (IsSpellable (Micro (pos 1))));
  nonempty = All-cons (λ (piece : Piece). piece.text ≢ []) digits [] (λ e. cc) (All-nil (λ (piece : Piece). piece.text ≢ []));
  bytes_are = refl;
  payload_is = refl;
  fits = omega arith;
  bits_are = refl;
}

pub printed_reads : Reads printed printed_reading
unfolding number_bits
printed_reads = record {
  frame = take 20 (byte_bits words);
  carries = record {
    blocks = blocks 2 3 1 0 0;
    interleaved = words;
    correction = checks;
    codewords = words;
    drawn = take 20 (byte_bits words);
    has_level = refl;
    has_mask = refl;
    is_square = refl;
    functional = printed_functional;
    cells = refl;
    drawn_is = refl;
    bytes_interleaved = search rules;
    bytes_correction = search rules;
    sound = printed_codewords;
    bits_are = refl;
  };
  framed = printed_frame;
}
