-- The error is that of the text.
use Rattle.std.proofs.Common.{chars, subst}
use Rattle.single_label.proofs.content.micro_symbol.Goals as goal
use Rattle.smallest_symbols.specs.TextHeadline.{IsMicroTextRefused}
use Rattle.smallest_symbols.specs.declared.micro_texts.MicroTextError.TheVariants.{Symbol}

pub returns-in-Err-Symbol-clause-refusal : goal.returns-in-Err-Symbol-clause-refusal
returns-in-Err-Symbol-clause-refusal c =
    rw (c.from.ensures) (
      c.in-Ok.ensures.utf8,
      subst (λ text. IsMicroTextRefused c.args.level (chars text) (Symbol c.in-Err-Symbol.error)) c.in-Ok.ensures.text
          (rw (c.in-Err-Symbol.field-0-is) at c.in-Err-Symbol.ensures.refusal),
    )
