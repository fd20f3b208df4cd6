use Rattle.qrcode_bits.proofs.Texts.{texts-parsed, texts-plan}
use Rattle.qrcode_bits.proofs.laws.parsed_segments_are_texts.Goals as goal

pub returns : goal.returns
returns c = record { parsed = λ bytes are. texts-parsed bytes are; merged = λ bytes are plan h. texts-plan bytes are plan h }
