-- The modules and the shape of one symbol more.
use Rattle.std.proofs.Common.{◌≡◌, ◌∙◌, ◌++◌, ◌+◌, sym, ap, map, take, drop, get_or, length, set, arith, add-one}
use Rattle.qrcode_core.specs.Symbol.{DrawnSymbol}
use Rattle.qrcode_grid.specs.Penalty.{byte_of}
use Rattle.qrcode_c.specs.Shapes.{shape_of}
use Rattle.qrcode_c.specs.Spread.{bytes_of, bytes_of_all}
use Rattle.qrcode_c.proofs.Writing.{written_step, flat_step, place_step, piece_length, piece_within}
use Rattle.qrcode_c.proofs.spread.write_all.Goals as goal

pub write_at-requires : goal.write_at-requires
write_at-requires c =
    let symbol = c.index-symbols-i.result in
    let colors : length c.modules-colors.result.now ≡ length symbol.modules = ap length c.modules-colors.ensures.list in
    let same : length symbol.modules ≡ length (get_or c.args.symbols.now c.loop-i.i symbol).modules =
    ap (λ (s : DrawnSymbol). length s.modules) c.index-symbols-i.is in
    omega (
      arith,
      c.loop-i.invariant.0,
      colors,
      same,
      piece_within c.args.symbols.now c.loop-i.i symbol c.loop-i-test.true,
      c.requires.room,
      c.loop-i.auto.modules,
    )

pub loop-i-preserved : goal.loop-i-preserved
loop-i-preserved c =
    let symbols = c.args.symbols.now in
    let i = c.loop-i.i in
    let symbol = c.index-symbols-i.result in
    let colors = c.modules-colors.result.now in
    let done = bytes_of_all (take i symbols) in
    let same : length symbol.modules ≡ length (get_or symbols i symbol).modules = ap (λ (s : DrawnSymbol). length s.modules) c.index-symbols-i.is in
    let one_more : bytes_of_all (take (i + 1) symbols) ≡ done ++ map byte_of colors =
    rw add-one (flat_step bytes_of symbols i symbol c.loop-i-test.true
    ∙ ap (λ (s : DrawnSymbol). done ++ bytes_of s) (sym c.index-symbols-i.is)
    ∙ ap (λ t. done ++ map byte_of t) (sym c.modules-colors.ensures.list)) in (
      omega (arith, c.loop-i.invariant.0, ap length c.modules-colors.ensures.list, same, piece_length symbols i symbol c.loop-i-test.true),
      c.write_at.ensures
          ∙ ap (λ t. take c.loop-i.start t ++ (map byte_of colors ++ drop (length colors) (drop c.loop-i.start t))) c.loop-i.invariant.1
          ∙ place_step done (map byte_of colors) c.args.modules.now c.loop-i.start (length colors) (sym c.loop-i.invariant.0)
          ∙ ap (λ t. t ++ drop (c.loop-i.start + length colors) c.args.modules.now) (sym one_more),
      rw add-one (ap (λ t. set t i c.shape_of.result) c.loop-i.invariant.2
          ∙ ap (λ t. set (map shape_of (take i symbols) ++ drop i c.args.shapes.now) i t) (c.shape_of.ensures ∙ ap shape_of c.index-symbols-i.is)
          ∙ written_step shape_of symbols c.args.shapes.now i symbol c.loop-i-test.true c.requires.places),
    )
