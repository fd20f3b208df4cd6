-- The versions are checked, then the bytes.
use Rattle.qrcode_core.proofs.Prelude.{None, Elements, front_of}
use Rattle.std.proofs.lemmas.Result.{IfErr-weaker}
use Rattle.qrcode_core.proofs.Strongest.{elements_options}
use Rattle.qrcode_core.proofs.symbol.owned.Symbol.elements_with.Goals as goal

pub returns-clause-refusal : goal.returns-clause-refusal
returns-clause-refusal c =
    IfErr-weaker c.symbol_as_asked.result _ _
    (λ e r. elements_options c.args.options.now (front_of None Elements) c.args.elements.now e (rw c.in_default.is at c.first_no_element.ensures) r)
    (rw c.new.ensures at c.symbol_as_asked.ensures.refusal)
