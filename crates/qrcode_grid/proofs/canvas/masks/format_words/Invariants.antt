-- The masks before this number have their words.
use Rattle.qrcode_grid.proofs.Prelude.{◌≡◌, ◌<◌, ℕ, length, get_or, slice_get, Some, MaskPattern, family, normal_number, format_word}
use Rattle.qrcode_grid.proofs.canvas.masks.format_words.Given as goal

abbrev pub invariant-loop-number : goal.invariant-loop-number
invariant-loop-number l = record {
  size : length l.words ≡ 8;
  done : (i : ℕ) (p : MaskPattern) → i < l.number → slice_get (family l.version) i ≡ Some p →
      get_or l.words (normal_number p) 0 ≡ format_word l.version l.level p;
}
