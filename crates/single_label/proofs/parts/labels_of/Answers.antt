-- One label more.
use Rattle.std.proofs.Common.{◌≡◌, ◌++◌, ◌∷◌, [], ◌<◌, rules, length, get_or}
use Rattle.std.specs.Prelude.{None}
use Rattle.single_label.specs.Labels.{ShowsSymbol}
use Rattle.single_label.proofs.PartLemmas.{shown_more}
use Rattle.single_label.proofs.parts.labels_of.Goals as goal

pub loop-symbol-preserved : goal.loop-symbol-preserved
loop-symbol-preserved c =
    let i = c.loop-symbol.symbol-index in
    let more : c.push.new.self.items ≡ c.loop-symbol.drawings.items ++ c.in_ok-drawing.drawing ∷ [] = search rules in
    let within : i < length c.args.symbols.now = search rules in
    let shown : ShowsSymbol c.args.label.now c.args.options.now None None (get_or c.args.symbols.now i c.symbol-item.result) c.in_ok-drawing.drawing.items = search rules in
    rw more (shown_more c.args.label.now c.args.options.now c.args.symbols.now i c.symbol-item.result c.loop-symbol.drawings.items c.in_ok-drawing.drawing within
    c.loop-symbol.invariant shown)
