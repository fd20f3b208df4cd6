-- The outcome of a drawing of the whole input.
use Rattle.std.proofs.Common.{◌≡◌, ◌⊎◌, ◌≤◌, ℕ, Option, Some, None, List, length, inl, inr, true, false, refl, arith}
use Rattle.std.specs.Prelude.{Ok, Err}
use Rattle.std.specs.Io.KnownBytes.{Keeps}
use Rattle.programs.proofs.DeviceLemmas.{ReadsAll-short}
use Rattle.programs.specs.Devices.{SourceState, SinkState, ReadsUpTo, Writes, input, output}
use Rattle.programs.specs.declared.Fault.{Fault as FaultOf}
use Rattle.programs.specs.declared.Fault.TheVariants.{Symbol, Read, Write}
use Rattle.qrcode_core.specs.declared.types.errors.QrError.TheVariants.{OutOfMemory}
use Rattle.single_label.specs.declared.stop.{Stop.Stop, Stop.TheVariants.Fault, Stop.TheVariants.Elements, Stop.TheVariants.NotAllowed, Stop.TheVariants.NoLink, Stop.TheVariants.Empty}
use Rattle.single_label.specs.declared.stop.{Stop.TheVariants.NoMicroText, Stop.TheVariants.TooLong, Stop.TheVariants.TooManyParts, Stop.TheVariants.TooManyPages}
use Rattle.labels.specs.Runs.{Drawer, IsLabelOutcome}

keeps : (a : Option (List ℕ)) → Keeps a a
keeps None = tt
keeps (Some xs) = refl

-- nothing was written where there is no drawing
pub writes_none : (drawer : Drawer) (r s : SourceState) (w : SinkState) (bytes : List ℕ) (stop : Stop) →
    ((fault : FaultOf) → (fault ≡ Read) ⊎ (fault ≡ Write) → drawer.stops bytes (Fault fault) → ⊥) →
    ReadsUpTo drawer.most (input r s) bytes → drawer.stops bytes stop → s.failed ≡ false → w.failed ≡ false →
    IsLabelOutcome drawer (input r s) (output w w) (Err stop)
writes_none drawer r s w bytes (Fault Read) no_device read is sound whole = absurd (no_device Read (inl refl) is)
writes_none drawer r s w bytes (Fault Write) no_device read is sound whole = absurd (no_device Write (inr refl) is)
writes_none drawer r s w bytes (Fault (Symbol e)) no_device read is sound whole =
    record { writes = ((λ other. record { bytes = bytes; read = read; stopped = is }), keeps w.written); read = grind (arith, sound); write = grind (arith, whole) }
writes_none drawer r s w bytes (Elements e) no_device read is sound whole =
    record { writes = ((λ other. record { bytes = bytes; read = read; stopped = is }), keeps w.written); read = grind (arith, sound); write = grind (arith, whole) }
writes_none drawer r s w bytes (NotAllowed error) no_device read is sound whole =
    record { writes = ((λ other. record { bytes = bytes; read = read; stopped = is }), keeps w.written); read = grind (arith, sound); write = grind (arith, whole) }
writes_none drawer r s w bytes (NoLink error) no_device read is sound whole =
    record { writes = ((λ other. record { bytes = bytes; read = read; stopped = is }), keeps w.written); read = grind (arith, sound); write = grind (arith, whole) }
writes_none drawer r s w bytes Empty no_device read is sound whole =
    record { writes = ((λ other. record { bytes = bytes; read = read; stopped = is }), keeps w.written); read = grind (arith, sound); write = grind (arith, whole) }
writes_none drawer r s w bytes NoMicroText no_device read is sound whole =
    record { writes = ((λ other. record { bytes = bytes; read = read; stopped = is }), keeps w.written); read = grind (arith, sound); write = grind (arith, whole) }
writes_none drawer r s w bytes (TooLong t) no_device read is sound whole =
    record { writes = ((λ other. record { bytes = bytes; read = read; stopped = is }), keeps w.written); read = grind (arith, sound); write = grind (arith, whole) }
writes_none drawer r s w bytes TooManyParts no_device read is sound whole =
    record { writes = ((λ other. record { bytes = bytes; read = read; stopped = is }), keeps w.written); read = grind (arith, sound); write = grind (arith, whole) }
writes_none drawer r s w bytes TooManyPages no_device read is sound whole =
    record { writes = ((λ other. record { bytes = bytes; read = read; stopped = is }), keeps w.written); read = grind (arith, sound); write = grind (arith, whole) }

-- nothing was written where memory ran out, or there is no drawing
pub writes_none_or : (drawer : Drawer) (r s : SourceState) (w : SinkState) (bytes : List ℕ) (stop : Stop) →
    ((fault : FaultOf) → (fault ≡ Read) ⊎ (fault ≡ Write) → drawer.stops bytes (Fault fault) → ⊥) →
    ReadsUpTo drawer.most (input r s) bytes → (stop ≡ Fault (Symbol OutOfMemory)) ⊎ drawer.stops bytes stop → s.failed ≡ false → w.failed ≡ false →
    IsLabelOutcome drawer (input r s) (output w w) (Err stop)
writes_none_or drawer r s w bytes stop no_device read (inl memory) sound whole =
    rw memory (record { writes = ((λ other. absurd (other refl)), keeps w.written); read = grind (arith, sound); write = grind (arith, whole) })
writes_none_or drawer r s w bytes stop no_device read (inr is) sound whole = writes_none drawer r s w bytes stop no_device read is sound whole

-- all was written, or a beginning
pub writes_all : (drawer : Drawer) (r s : SourceState) (v w : SinkState) (bytes drawing details : List ℕ) → ReadsUpTo drawer.most (input r s) bytes → length bytes ≤ drawer.most →
    drawer.shows bytes drawing → drawer.details bytes details → Writes (output v w) drawing → w.flushed ≡ w.written → s.failed ≡ false → w.failed ≡ false →
    IsLabelOutcome drawer (input r s) (output v w) (Ok details)
writes_all drawer r s v w bytes drawing details read short shows are writes flushed sound whole = record {
  writes = record {
    drawing = drawing;
    is_drawing = record { bytes = bytes; read = ReadsAll-short drawer.most (input r s) bytes read short; shown = (shows, are) };
    appends = writes.whole whole;
    flushed = flushed;
  };
  read = grind (arith, sound);
  write = grind (arith, whole);
}

pub writes_some : (drawer : Drawer) (r s : SourceState) (v w : SinkState) (bytes drawing : List ℕ) → ReadsUpTo drawer.most (input r s) bytes → length bytes ≤ drawer.most →
    drawer.shows bytes drawing → Writes (output v w) drawing → s.failed ≡ false → w.failed ≡ true → IsLabelOutcome drawer (input r s) (output v w) (Err (Fault Write))
writes_some drawer r s v w bytes drawing read short shows writes sound failed = record {
  writes = record {
    drawing = drawing;
    is_drawing = record { bytes = bytes; read = ReadsAll-short drawer.most (input r s) bytes read short; shown = shows };
    beginning = writes.beginning;
  };
  read = grind (arith, sound);
  write = grind (arith, failed);
}
