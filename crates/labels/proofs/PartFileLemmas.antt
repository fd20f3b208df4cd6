-- The labels of the symbols that carry a message together, each in a file of its own.
use Rattle.std.proofs.Common.{◌≡◌, ◌+◌, ◌<◌, ◌⊎◌, ℕ, Option, List, [], ◌∷◌, ◌++◌, length, take, get_or, append-nil}
use Rattle.std.proofs.Common.{inl, inr, true, false, refl, ap, ◌∙◌, arith, subst}
use Rattle.std.specs.Prelude.{Err, Vec, map, vec_items}
use Rattle.std.specs.declared.alloc.Global.{Global}
use Rattle.std.proofs.lemmas.{Grind.common_steps, List.take_more}
use Rattle.programs.specs.Devices.{SourceState, ReadsUpTo, input}
use Rattle.programs.specs.declared.Fault.TheVariants.{Symbol, Read, Write}
use Rattle.qrcode_core.specs.declared.types.errors.QrError.TheVariants.{OutOfMemory}
use Rattle.picture_settings.specs.declared.draw_options.DrawOptions.{DrawOptions}
use Rattle.label_words.specs.declared.command.Label.{Label}
use Rattle.single_label.specs.Parts.{most_together}
use Rattle.single_label.specs.declared.stop.{Stop.Stop, Stop.TheVariants.Fault, Stop.TheVariants.Elements, Stop.TheVariants.NotAllowed, Stop.TheVariants.NoLink, Stop.TheVariants.Empty}
use Rattle.single_label.specs.declared.stop.{Stop.TheVariants.NoMicroText, Stop.TheVariants.TooLong, Stop.TheVariants.TooManyParts, Stop.TheVariants.TooManyPages}
use Rattle.labels.specs.{FileStates.FilesState, FileStates.AddsFiles, Folders.part_files, Folders.PutsSome}
use Rattle.label_words.specs.Names.{Numbering, numbered}
use Rattle.single_label.specs.Parts.{IsMessageStop}
use Rattle.labels.specs.{Runs.AreDrawings, Runs.IsPartsOutcome}
use Rattle.single_label.proofs.PartLemmas.{no_device_message}
use Rattle.labels.proofs.LabelLemmas.{adds_append}

part_files-more : (name : Numbering) (n : ℕ) (ds : List (List ℕ)) (d : List ℕ) →
    part_files name n (ds ++ d ∷ []) ≡ part_files name n ds ++ (numbered name (n + length ds), d) ∷ []
part_files-more name n [] d = ap (λ m. (numbered name m, d) ∷ []) (omega arith)
part_files-more name n (x ∷ xs) d =
    ap (λ rest. (numbered name n, x) ∷ rest)
    (part_files-more name (n + 1) xs d ∙ ap (λ m. part_files name (n + 1) xs ++ (numbered name m, d) ∷ []) (omega arith))

pub adds_none : (a : Option (List (List ℕ × List ℕ))) → AddsFiles a a []
adds_none a = grind (arith, append-nil)

-- no file was written yet
pub parts_none : (name : Numbering) (f : FilesState) (ds : List (List ℕ)) → AddsFiles f.files f.files (part_files name 1 (take 0 ds))
parts_none name f ds = adds_none f.files

-- and one more
pub parts_more : (name : Numbering) (a b c : Option (List (List ℕ × List ℕ))) (ds : List (List ℕ)) (i : ℕ) → i < length ds →
    AddsFiles a b (part_files name 1 (take i ds)) → AddsFiles b c ((numbered name (i + 1), get_or ds i []) ∷ []) →
    AddsFiles a c (part_files name 1 (take (i + 1) ds))
parts_more name a b c ds i within h k =
    let rest : length (take i ds) ≡ i = grind (arith, common_steps) in
    rw (take_more ds i [] within, part_files-more name 1 (take i ds) (get_or ds i []), rest)
    (adds_append a b c (part_files name 1 (take i ds)) ((numbered name (1 + i), get_or ds i []) ∷ []) h
    (subst (λ m. AddsFiles b c ((numbered name m, get_or ds i []) ∷ [])) (omega arith) k))

-- one could not be written
pub parts_stopped : (name : Numbering) (f g e : FilesState) (ds : List (List ℕ)) (i : ℕ) (stop : Stop) (path : List ℕ) → i < length ds →
    AddsFiles f.files g.files (part_files name 1 (take i ds)) → AddsFiles g.files e.files [] →
    ((stop ≡ Fault Write) × (e.failed ≡ true) × (path ≡ numbered name (i + 1))) ⊎ ((stop ≡ Fault (Symbol OutOfMemory)) × (e.failed ≡ false)) →
    PutsSome name ds f e stop path
parts_stopped name f g e ds i stop path within h k why = record {
  count = i;
  some_left = within;
  added = rw (append-nil (part_files name 1 (take i ds))) at (adds_append f.files g.files e.files (part_files name 1 (take i ds)) [] h k);
  why = why;
}

-- no file was written where there are no labels
pub puts_none : (label : Label) (options : DrawOptions) (r s : SourceState) (f : FilesState) (name : Numbering) (path bytes : List ℕ) (stop : Stop) →
    ReadsUpTo (most_together label.content) (input r s) bytes → IsMessageStop label bytes stop → s.failed ≡ false → f.failed ≡ false →
    IsPartsOutcome label options (input r s) f f name path (Err stop)
puts_none label options r s f name path bytes (Fault Read) read is sound whole = absurd (no_device_message label bytes Read (inl refl) is)
puts_none label options r s f name path bytes (Fault Write) read is sound whole = absurd (no_device_message label bytes Write (inr refl) is)
puts_none label options r s f name path bytes (Fault (Symbol e)) read is sound whole =
    record { puts = inl ((λ other. record { bytes = bytes; read = read; stopped = is }), adds_none f.files); read = grind (arith, sound); write = grind (arith, whole) }
puts_none label options r s f name path bytes (Elements e) read is sound whole =
    record { puts = inl ((λ other. record { bytes = bytes; read = read; stopped = is }), adds_none f.files); read = grind (arith, sound); write = grind (arith, whole) }
puts_none label options r s f name path bytes (NotAllowed error) read is sound whole =
    record { puts = inl ((λ other. record { bytes = bytes; read = read; stopped = is }), adds_none f.files); read = grind (arith, sound); write = grind (arith, whole) }
puts_none label options r s f name path bytes (NoLink error) read is sound whole =
    record { puts = inl ((λ other. record { bytes = bytes; read = read; stopped = is }), adds_none f.files); read = grind (arith, sound); write = grind (arith, whole) }
puts_none label options r s f name path bytes Empty read is sound whole =
    record { puts = inl ((λ other. record { bytes = bytes; read = read; stopped = is }), adds_none f.files); read = grind (arith, sound); write = grind (arith, whole) }
puts_none label options r s f name path bytes NoMicroText read is sound whole =
    record { puts = inl ((λ other. record { bytes = bytes; read = read; stopped = is }), adds_none f.files); read = grind (arith, sound); write = grind (arith, whole) }
puts_none label options r s f name path bytes (TooLong t) read is sound whole =
    record { puts = inl ((λ other. record { bytes = bytes; read = read; stopped = is }), adds_none f.files); read = grind (arith, sound); write = grind (arith, whole) }
puts_none label options r s f name path bytes TooManyParts read is sound whole =
    record { puts = inl ((λ other. record { bytes = bytes; read = read; stopped = is }), adds_none f.files); read = grind (arith, sound); write = grind (arith, whole) }
puts_none label options r s f name path bytes TooManyPages read is sound whole =
    record { puts = inl ((λ other. record { bytes = bytes; read = read; stopped = is }), adds_none f.files); read = grind (arith, sound); write = grind (arith, whole) }

-- files of some drawings were written
pub puts_some : (label : Label) (options : DrawOptions) (r s : SourceState) (f e : FilesState) (name : Numbering) (path : List ℕ) (ds : List (List ℕ)) (details : List ℕ) (stop : Stop) →
    AreDrawings label options (input r s) ds details → PutsSome name ds f e stop path → s.failed ≡ false →
    ((stop ≡ Fault Write) × (e.failed ≡ true)) ⊎ ((stop ≡ Fault (Symbol OutOfMemory)) × (e.failed ≡ false)) →
    IsPartsOutcome label options (input r s) f e name path (Err stop)
puts_some label options r s f e name path ds details stop are some sound (inl why) =
    rw (why.0) (record { puts = (ds, details, are, rw (why.0) at some); read = grind (arith, sound); write = grind (arith, why.1) })
puts_some label options r s f e name path ds details stop are some sound (inr why) =
    rw (why.0) (record { puts = inr (ds, details, are, rw (why.0) at some); read = grind (arith, sound); write = grind (arith, why.1) })

-- ---- Lists of what programs hold

-- one of them is an item
pub item_at : (vs : List (Vec ℕ Global)) (i : ℕ) (d : Vec ℕ Global) → i < length vs → get_or (map vec_items vs) i [] ≡ (get_or vs i d).items
item_at vs i d within = grind (arith, common_steps)

pub puts_first : (label : Label) (options : DrawOptions) (r s : SourceState) (f e : FilesState) (name : Numbering) (path : List ℕ) (ds : List (List ℕ)) (details : List ℕ) (stop : Stop) →
    AreDrawings label options (input r s) ds details → PutsSome name ds f e stop path → s.failed ≡ false → IsPartsOutcome label options (input r s) f e name path (Err stop)
puts_first label options r s f e name path ds details stop are some sound =
    puts_some label options r s f e name path ds details stop are some sound (elim some.why [ inl why ↦ inl (why.0, why.1) | inr why ↦ inr why ])
