-- The versions from 1 on are all there are.
use Rattle.qrcode_bits.proofs.Prelude.{IfErr-weaker}
use Rattle.std.proofs.lemmas.Result.{IfOk-weaker}
use Rattle.qrcode_bits.proofs.Classes.{encoding_from_one, refused_from_one}
use Rattle.qrcode_bits.proofs.bits.choice.encode_message.Goals as goal

pub returns-clause-ok : goal.returns-clause-ok
returns-clause-ok c =
    IfOk-weaker c.encode_from.result _ _ (λ bits e. encoding_from_one c.args.front.now c.args.bytes.now c.args.level c.args.limit bits c.requires.from_one e)
    c.encode_from.ensures.ok

pub returns-clause-err : goal.returns-clause-err
returns-clause-err c = IfErr-weaker c.encode_from.result _ _
    (λ e r. refused_from_one _ _ c.args.level c.args.limit e c.requires.from_one r) c.encode_from.ensures.err
