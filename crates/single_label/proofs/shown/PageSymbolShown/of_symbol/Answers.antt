-- The document of the page alone is the label.
use Rattle.std.specs.Option.{option_copied}
use Rattle.single_label.proofs.ShownLemmas.{shows_page}
use Rattle.single_label.proofs.shown.PageSymbolShown.of_symbol.Goals as goal

pub returns-clause-shown : goal.returns-clause-shown
returns-clause-shown c =
    rw c.in_ok-caption.ensures (shows_page c.args._label.now c.args._options.now (option_copied c.args.said.content)
    (option_copied c.args.said.caption) c.args.symbol c.requires)
