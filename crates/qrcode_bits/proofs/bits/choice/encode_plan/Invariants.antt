-- What was pushed and the parts from here on are the whole plan; each part lies within the data.
use Rattle.qrcode_bits.proofs.{Prelude.All, Prelude.length, Prelude.LiesIn, Encodings.IsPushedTo}
use Rattle.qrcode_bits.proofs.bits.choice.encode_plan.Given as goal

abbrev pub invariant-loop-part : goal.invariant-loop-part
invariant-loop-part l = record {
  within : All (LiesIn (length l.parsed)) l.plan;
  pushed : IsPushedTo l.front l.bytes l.fn.version l.plan l.part-index l.bits;
}
