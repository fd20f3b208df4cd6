-- The outcome where there is no symbol.
use Rattle.std.proofs.Common.{◌≡◌, ◌≢◌, ℕ, Option, None, Some, List, false, refl, arith}
use Rattle.std.specs.Prelude.{Err}
use Rattle.std.specs.Io.KnownBytes.{Keeps}
use Rattle.qrcode_base.specs.declared.types.errors.QrError.{QrError}
use Rattle.qrcode_base.specs.declared.types.errors.QrError.TheVariants.{OutOfMemory}
use Rattle.programs.specs.Devices.{SourceState, SinkState, ReadsEnough, input, output}
use Rattle.programs.specs.declared.Fault.TheVariants.{Symbol}
use Rattle.qrtext.specs.Outcome.{IsOutcome}

keeps : (a : Option (List ℕ)) → Keeps a a
keeps None = tt
keeps (Some xs) = refl

-- nothing was written where the bytes have no symbol, or memory ran out
pub refused : (shows : List ℕ → List ℕ → Type 0) (refuses : List ℕ → QrError → Type 0) (r s : SourceState) (w : SinkState) (bytes : List ℕ) (e : QrError) →
    ReadsEnough (input r s) bytes → (e ≢ OutOfMemory → refuses bytes e) → s.failed ≡ false → w.failed ≡ false →
    IsOutcome shows refuses (input r s) (output w w) (Err (Symbol e))
refused shows refuses r s w bytes e read is sound whole = record {
  writes = ((λ other. record { bytes = bytes; read = read; refusal = is other }), keeps w.written);
  read = grind (arith, sound);
  write = grind (arith, whole);
}
