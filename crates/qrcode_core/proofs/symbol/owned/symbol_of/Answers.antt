-- The bytes of the bits are all codewords of a symbol's version; their streams are drawn.
use Rattle.qrcode_core.proofs.Prelude.{arith, refl}
use Rattle.qrcode_core.proofs.Codewords.{version_of_all}
use Rattle.qrcode_core.proofs.symbol.owned.symbol_of.Goals as goal

pub symbol_width-requires : goal.symbol_width-requires
symbol_width-requires c = rw c.version-version.ensures (version_of_all c.args.bits.version c.args.level _ (c.requires _ c.into_bytes-codewords.ensures))

pub returns-clause-drawn : goal.returns-clause-drawn
returns-clause-drawn c =
    let version = c.version-version.ensures in
    record {
      codewords = c.into_bytes-codewords.result.items;
      turned = c.into_bytes-codewords.ensures;
      drawn = record {
        version_is = version;
        level_is = refl;
        interleaved = c.in_ok-interleaved.interleaved.items;
        correction = c.in_ok-interleaved.correction.items;
        streams = grind (arith, version, c.deref.ensures.value, c.in_ok-interleaved.ensures);
        carries = rw (version, c.deref-2.ensures.value, c.deref-3.ensures.value) at c.in_ok-modules.ensures.carries;
        best = rw version at c.in_ok-modules.ensures.mask;
      };
    }
