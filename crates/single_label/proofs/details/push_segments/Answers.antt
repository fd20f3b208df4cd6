-- The segments are those of a content whose symbol is not the smallest of its text.
use Rattle.std.proofs.Common.{inl, inr, rules}
use Rattle.qrcode_base.specs.Symbols.{HasMicroNumber}
use Rattle.single_label.specs.Contents.{HasText}
use Rattle.single_label.proofs.CaptionLemmas.{on_ok}
use Rattle.single_label.proofs.details.push_segments.Goals as goal

pub returns-in-None-clause-details : goal.returns-in-None-clause-details
returns-in-None-clause-details c =
    let number : HasMicroNumber c.args.version = search rules in
    let plain : HasText c.args.content c.args.bytes.now → ⊥ = search rules in
    on_ok _ _ c.push_plain.result (λ is. (is.0, inl (number, inr (plain, is.1)), is.2)) c.push_plain.ensures.details
