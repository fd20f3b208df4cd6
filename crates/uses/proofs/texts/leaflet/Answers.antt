-- The symbols are those of the cuts that make the fewest parts.
use Rattle.std.proofs.Common.{ℕ, List, subst, sym}
use Rattle.std.proofs.lemmas.Result.{IfOk-weaker}
use Rattle.qrcode_base.specs.declared.types.EcLevel.TheVariants.{M}
use Rattle.smallest_symbols.specs.TextCuts.{AreBestTextCuts}
use Rattle.uses.proofs.texts.leaflet.Goals as goal

pub returns-clause-fewest : goal.returns-clause-fewest
returns-clause-fewest c =
    let best = subst (λ (cuts : List ℕ). AreBestTextCuts c.args.text.now M 40 cuts) (sym c.deref.ensures.value) c.in_ok-cuts.ensures.best in
    IfOk-weaker c.smallest_text_sequence.result _ _ (λ symbols h. (c.deref.result.now, best, h)) c.smallest_text_sequence.ensures.smallest
