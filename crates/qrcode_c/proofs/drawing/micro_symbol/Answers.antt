-- The best Micro symbol, written or too large for the buffer.
use Rattle.std.proofs.Common.{◌≡◌, ◌∙◌, sym, w32}
use Rattle.std.proofs.lemmas.Int.{to_z-of_z}
use Rattle.qrcode_core.specs.Headline.{IsBestMicroSymbol}
use Rattle.qrcode_c.{specs.Levels.level_argument, proofs.Answering.best_held, proofs.Answering.short_refused}
use Rattle.qrcode_c.proofs.drawing.micro_symbol.Goals as goal

pub returns-in-Ok-clause-held : goal.returns-in-Ok-clause-held
returns-in-Ok-clause-held c =
    let named : c.args.level ≡ level_argument c.in-Some.level = sym (to_z-of_z w32 c.args.level c.ranges.level) ∙ c.in-Some.ensures.level in
    best_held (IsBestMicroSymbol c.args.bytes.now) c.in-Some.level c.args.level c.in-Ok.symbol c.args.modules.now _ c.write.result
    named c.in-Ok.ensures.best c.in-Ok.ensures.reading c.write.ensures.held

pub returns-in-Ok-clause-refusal : goal.returns-in-Ok-clause-refusal
returns-in-Ok-clause-refusal c =
    let named : c.args.level ≡ level_argument c.in-Some.level = sym (to_z-of_z w32 c.args.level c.ranges.level) ∙ c.in-Some.ensures.level in
    short_refused _ _ c.write.result c.write.ensures.short c.write.ensures.short_buffer
    (λ less. (c.in-Some.level, named, (c.in-Ok.symbol.modules, c.in-Ok.ensures.best, less)))
