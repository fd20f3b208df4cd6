-- One pixel more, and all of them.
use Rattle.std.proofs.Common.{◌≡◌, ℕ, Bool, ◌*◌, ◌∙◌, ap, arith}
use Rattle.grid_pictures.specs.Texts.{is_dark_text, text_byte, text_of}
use Rattle.grid_pictures.proofs.BitmapLemmas.{spelled}
use Rattle.grid_pictures.proofs.LetteringLemmas.{bit_small, pixel_more, spelled_room}
use Rattle.grid_pictures.proofs.text.text_byte.Goals as goal

pub overflow_mul-byte : goal.overflow_mul-byte
overflow_mul-byte c =
    let f : ℕ → Bool = λ x. is_dark_text (text_of c.args.text.now) x c.args.row in
    omega (arith, spelled_room f (8 * c.args.place) c.loop-i.i c.loop-i-test.true, c.loop-i.invariant)

pub overflow_add-byte : goal.overflow_add-byte
overflow_add-byte c =
    let f : ℕ → Bool = λ x. is_dark_text (text_of c.args.text.now) x c.args.row in
    omega (arith, spelled_room f (8 * c.args.place) c.loop-i.i c.loop-i-test.true, c.loop-i.invariant, c.from.ensures, bit_small c.is_dark_text.result)

pub loop-i-preserved : goal.loop-i-preserved
loop-i-preserved c =
    let f : ℕ → Bool = λ x. is_dark_text (text_of c.args.text.now) x c.args.row in
    pixel_more f (8 * c.args.place) c.loop-i.i c.loop-i.byte c.is_dark_text.result c.from.result c.loop-i.invariant c.is_dark_text.ensures c.from.ensures

pub returns : goal.returns
unfolding text_byte
returns c =
    let f : ℕ → Bool = λ x. is_dark_text (text_of c.args.text.now) x c.args.row in
    let all : c.loop-i.i ≡ 8 = omega arith in
    c.loop-i.invariant ∙ ap (spelled f (8 * c.args.place)) all
