use Rattle.qrcode_grid.proofs.Prelude.{◌≡◌, ◌+◌, ◌*◌, ◌/◌, ◌%◌, ◌<◌, map, length, get_or, ap, ◌∙◌, sym, refl, arith, inl, inr, mul-le-mul_right, cases_lt}
use Rattle.qrcode_grid.proofs.Prelude.{length-map, code_of, masked_code, plane, pattern_of, format_color, is_inverted, bit_at, bit_at_ones, common_steps, w8, ℕ}
use Rattle.qrcode_grid.proofs.Prelude.{byte_of, digit_color, Dark}
use Rattle.qrcode_grid.proofs.Conditions.{byte_under, set_again, is_inverted-repeats_rows, candidate_is}
use Rattle.qrcode_grid.proofs.{WrittenWords.format_shown, MarkedLanes.length-plane, MarkedLanes.plane_at, canvas.masks.write_candidates.Goals.then-eq}
use Rattle.qrcode_grid.proofs.{canvas.masks.write_candidates.Goals.else-eq}
use Rattle.std.proofs.lemmas.Nat.Bits.{bit_at_set_same, bit_at_set_other}
use Rattle.qrcode_grid.proofs.canvas.masks.write_candidates.Goals as goal

pub loop-m-preserved : goal.loop-m-preserved
loop-m-preserved c =
    let m = c.loop-m.m in
    let within : m < 8 = omega arith in
    let here : bit_at c.if-eq.byte m ≡ byte_of (digit_color (bit_at (get_or c.args.words.now m 0) c.loop-k.k)) = elim c.if-eq.branch [
      | then-eq w ↦
          let dark : c.color_of_digit.result ≡ Dark = grind (arith, common_steps) in
          ap (λ d. bit_at d m) w.byte-is ∙ bit_at_set_same w8 c.loop-m.byte m within ∙ sym (ap byte_of (sym c.color_of_digit.ensures ∙ dark))
      | else-eq w ↦ grind (arith, common_steps)
    ] in
    let others : (i : ℕ) → ¬ (i ≡ m) → bit_at c.if-eq.byte i ≡ bit_at c.loop-m.byte i = λ i ne. elim c.if-eq.branch [
      | then-eq w ↦ ap (λ d. bit_at d i) w.byte-is ∙ bit_at_set_other w8 c.loop-m.byte m within i ne
      | else-eq w ↦ ap (λ d. bit_at d i) w.byte-is
    ] in
    record {
      found = λ i h. elim (cases_lt i m) [
        | inl early ↦ others i (omega arith) ∙ c.loop-m.invariant.found i early
        | inr late ↦ grind (arith, common_steps)
      ];
      none = λ i h. others i (omega arith) ∙ c.loop-m.invariant.none i (omega arith);
    }

pub returns : goal.returns
returns c = λ m h.
    let w = c.args.width in let grid = c.write_format.new.cells in let digits = c.loop-k.digits in let codes = map code_of c.args.modules.now in
    let word = get_or c.args.words.now m 0 in
    let coded : length codes ≡ w * w = length-map c.args.modules.now code_of ∙ c.requires.square in
    let long : length (plane m grid) ≡ length codes = length-plane m grid ∙ c.write_format.auto.cells ∙ c.mask_rows.auto.grid ∙ c.requires.long ∙ sym coded in
    candidate_is c.args.version w word (pattern_of m) c.args.modules.now codes (plane m grid) refl long
    (λ k inside.
    let x = k % w in let y = k / w in
    let column : x < w = omega (arith, c.requires.wide.0) in
    let row : y < w = elim (cases_lt y w) [ inl below ↦ below | inr above ↦ absurd (omega (arith, inside, coded, mul-le-mul_right w above)) ] in
    let place : y * w + x ≡ k = omega (arith, c.requires.wide.0) in
    let inverted = set_again (is_inverted (pattern_of m) x (y % 12)) _ (c.write_stripes.ensures m x (y % 12) h column (omega arith))
    ∙ sym (is_inverted-repeats_rows (pattern_of m) x y) in
    let color = format_color c.args.version w word x y in
    sym (ap (λ j. get_or (plane m grid) j 0) place)
    ∙ plane_at m grid (y * w + x) ∙ ap (λ b. bit_at b m) (c.write_format.ensures 0 x y column row)
    ∙ format_shown (λ b. bit_at b m) byte_under (λ j. get_or digits j 0) 255 word
    (λ j b low. c.loop-k.invariant.found m j h (omega (arith, low, c.loop-k-test.false))) (λ b. bit_at_ones 8 m h)
    (λ b. refl) c.args.version w x y (get_or c.mask_rows.new.grid (y * w + x) 0)
    ∙ ap (byte_under color) (c.mask_rows.ensures m x y h column row
    ∙ ap (masked_code (get_or codes (y * w + x) 0)) inverted)
    ∙ ap (λ j. byte_under color (masked_code (get_or codes j 0) (is_inverted (pattern_of m) x y))) place)
