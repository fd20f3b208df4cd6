-- The symbols of the next manner that has some; where none has, some part is too long in each.
use Rattle.std.proofs.Common.{map}
use Rattle.std.proofs.lemmas.Result.{IfErr-weaker, IfOk-weaker}
use Rattle.qrcode_core.specs.Symbol.{modules_of}
use Rattle.text_plans.specs.declared.rules.Manner.TheVariants.{Paired, Designated}
use Rattle.smallest_symbols.specs.TextParts.{IsSomePartTooLongIn}
use Rattle.smallest_symbols.proofs.TextMessages.{refused_last, smallest_symbols}
use Rattle.smallest_symbols.proofs.text_sequences.beyond_ascii.Goals as goal

pub returns-in-Ok-clause-smallest : goal.returns-in-Ok-clause-smallest
returns-in-Ok-clause-smallest c =
    smallest_symbols Paired c.args.text.now c.args.cuts.now c.args.level c.args.limit (map modules_of c.in-Ok.symbols.items) c.requires.long
    c.in-Ok.ensures.smallest

pub returns-in-Err-DataTooLong-clause-smallest : goal.returns-in-Err-DataTooLong-clause-smallest
returns-in-Err-DataTooLong-clause-smallest c =
    let paired : IsSomePartTooLongIn Paired c.args.text.now c.args.cuts.now c.args.level c.args.limit =
    rw c.in-Err-DataTooLong.field-0-is at c.in-Err-DataTooLong.ensures.refusal in
    IfOk-weaker c.symbols_in-in-Err-DataTooLong.result _ _
    (λ symbols h. smallest_symbols Designated c.args.text.now c.args.cuts.now c.args.level c.args.limit (map modules_of symbols.items)
    (c.requires.long, paired) h) c.symbols_in-in-Err-DataTooLong.ensures.smallest

pub returns-in-Err-DataTooLong-clause-refusal : goal.returns-in-Err-DataTooLong-clause-refusal
returns-in-Err-DataTooLong-clause-refusal c =
    let paired : IsSomePartTooLongIn Paired c.args.text.now c.args.cuts.now c.args.level c.args.limit =
    rw c.in-Err-DataTooLong.field-0-is at c.in-Err-DataTooLong.ensures.refusal in
    IfErr-weaker c.symbols_in-in-Err-DataTooLong.result _ _
    (λ e h. refused_last c.args.text.now c.args.cuts.now c.args.level c.args.limit e c.requires.long paired h)
    c.symbols_in-in-Err-DataTooLong.ensures.refusal
