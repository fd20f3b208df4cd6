-- The labels of the lines of an input, and what is written of them.
use Rattle.std.specs.Prelude.{◌≡◌, ◌≢◌, ◌⊎◌, ◌↔◌, ◌+◌, ℕ, ⊤, Bool, true, false, Option, Result, Ok, Err, is_ok}
use Rattle.std.specs.Prelude.{List, [], ◌∷◌, ◌++◌, length, take, flat_map, IsTrue, IsErrOf}
use Rattle.std.specs.List.{list_all}
use Rattle.std.specs.declared.io.ErrorKind.{ErrorKind}
use Rattle.gs1.specs.declared.error.Gs1Error.{Gs1Error}
use Rattle.gs1.specs.declared.error.Gs1Error.TheVariants.{OutOfMemory as NoMemory}
use Rattle.gs1_links.specs.declared.link_error.LinkError.{LinkError}
use Rattle.gs1_links.specs.declared.link_error.LinkError.TheVariants.{OutOfMemory as NoSpace}
use Rattle.gs1.specs.declared.refusal.CheckError.{CheckError}
use Rattle.gs1.specs.declared.refusal.CheckError.TheVariants.{OutOfMemory as NoRoom}
use Rattle.std.specs.Io.KnownBytes.{Appends, IsAtEnd}
use Rattle.programs.specs.Devices.{Input, Output, Writes}
use Rattle.programs.specs.Lines.{ReadsLine, ReadsLines, BeginsLine}
use Rattle.programs.specs.declared.Fault.TheVariants.{Symbol, Read, Write}
use Rattle.qrcode_core.specs.declared.types.errors.QrError.{QrError}
use Rattle.qrcode_core.specs.declared.types.errors.QrError.TheVariants.{OutOfMemory}
use Rattle.picture_settings.specs.declared.draw_options.DrawOptions.{DrawOptions}
use Rattle.single_label.specs.Contents.{most_bytes}
use Rattle.single_label.specs.Labels.{ShowsLabel, IsLabelStop}
use Rattle.label_words.specs.declared.command.Label.{Label}
use Rattle.labels.specs.declared.stop.LineStop.{LineStop}
use Rattle.single_label.specs.declared.stop.Stop.{Stop}
use Rattle.single_label.specs.declared.stop.Stop.TheVariants.{Fault, Elements, NotAllowed, NoLink}
use Rattle.single_label.specs.declared.stop.Stop.TheVariants.{TooManyPages}
use Rattle.labels.specs.Stops.{numbered_line}

-- ---- Labels in their order

-- What comes of a line: its label, or the reason why it has none.
abbrev pub Made : Type 0
Made = Result (List ℕ) Stop

-- An error other than a lack of memory.
abbrev pub is_of_symbol : QrError → Bool
is_of_symbol OutOfMemory = false
is_of_symbol _ = true

abbrev pub is_of_elements : Gs1Error → Bool
is_of_elements NoMemory = false
is_of_elements _ = true

abbrev pub is_of_values : CheckError → Bool
is_of_values NoRoom = false
is_of_values _ = true

abbrev pub is_of_link : LinkError → Bool
is_of_link NoSpace = false
is_of_link _ = true

-- Whether the line is the reason, and not a device or a lack of memory.
abbrev pub is_of_line : Stop → Bool
is_of_line (Fault (Symbol error)) = is_of_symbol error
is_of_line (Fault fault) = false
is_of_line (Elements at) = is_of_elements at.error
is_of_line (NotAllowed error) = is_of_values error
is_of_line (NoLink error) = is_of_link error
is_of_line TooManyPages = false
is_of_line _ = true

-- A line that has no label is left out, if this is asked for.
pub record IsLineLeftOut (label : Label) (line : List ℕ) (stop : Stop) : Type 0 where
  pub asked : label.keeps_going ≡ true
  pub stopped : IsLabelStop label line stop
  pub of_line : is_of_line stop ≡ true

abbrev pub GivesLine : Label → DrawOptions → List ℕ → Made → Type 0
GivesLine label options line (Ok drawing) = ShowsLabel label options line drawing
GivesLine label options line (Err stop) = IsLineLeftOut label line stop

-- One thing comes of each line, and nothing else.
abbrev pub GiveEach : (List ℕ → Made → Type 0) → List (List ℕ) → List Made → Type 0
GiveEach gives [] [] = ⊤
GiveEach gives (line ∷ lines) (made ∷ results) = gives line made × GiveEach gives lines results
GiveEach gives _ _ = ⊥

-- These come of the lines that were read, one of each, in their order.
pub record AreLabels (label : Label) (options : DrawOptions) (before after : Option (List ℕ))
    (results : List Made) : Type 0 where
  pub lines : List (List ℕ)
  pub read : ReadsLines before after lines
  pub shown : GiveEach (GivesLine label options) lines results

-- ---- Where labels go

-- What is known of a place for labels: that these, and no others, were written there, and the lines
-- that were left out reported; that they were, with what comes after the last label; that they were
-- written, and the next label was not, or not whole; that there was no room for it; that they were
-- written, and what comes after the last was not, or not whole; whether writing there failed, and
-- why it did.
pub record Place : Type 1 where
  pub whole : List Made → Type 0
  pub ended : List Made → Type 0
  pub broken : List Made → List ℕ → Type 0
  pub full : List Made → List ℕ → Type 0
  pub torn : List Made → Type 0
  pub failed : Bool
  pub reason : Option ErrorKind

-- One drawing after the other.
abbrev pub drawing_in : Made → List ℕ
drawing_in (Ok drawing) = drawing
drawing_in (Err stop) = []

abbrev pub joined_labels : List Made → List ℕ
joined_labels results = flat_map drawing_in results

-- A line for each that is left out, with its number; the first line of the input has number n.
abbrev pub left_out : ℕ → List Made → List ℕ
left_out n [] = []
left_out n (Ok drawing ∷ results) = left_out (n + 1) results
left_out n (Err stop ∷ results) = numbered_line (record { number = n; stop = stop }) ++ left_out (n + 1) results

-- The labels were written one after the other, and flushed. If there are none, nothing was.
pub record WritesEach (output : Output) (results : List Made) : Type 0 where
  pub appends : Appends output.before output.after (joined_labels results)
  pub flushed : joined_labels results ≢ [] → output.flushed ≡ output.after

-- The labels were written, and a beginning of the next.
pub record WritesSome (output : Output) (results : List Made) (next : List ℕ) : Type 0 where
  pub count : ℕ
  pub appends : Appends output.before output.after (joined_labels results ++ take count next)

-- One output for all labels.
abbrev pub stream : Output → ℕ → Output → Place
stream output first errors = record {
  whole = λ results. WritesEach output results × Writes errors (left_out first results);
  ended = λ results. WritesEach output results × Writes errors (left_out first results);
  broken = λ results next. WritesSome output results next × Writes errors (left_out first results);
  full = λ results next. ⊥;
  torn = λ results. ⊥;
  failed = output.failed;
  reason = output.reason;
}

-- ---- What is drawn of an input

-- Whether there is a label of each line.
abbrev pub all_drawn : List Made → Bool
all_drawn results = list_all is_ok results

-- The labels of the lines before the line of this number were written, of each if `every` is true.
-- `left` is what was left to read after these lines.
pub record DrawsBefore (label : Label) (options : DrawOptions) (every : Bool) (number : ℕ)
    (before left : Option (List ℕ)) (place : Place) : Type 0 where
  pub results : List Made
  pub labels : AreLabels label options before left results
  pub counted : number ≡ length results + label.first
  pub every_is : every ≡ all_drawn results
  pub written : place.whole results

-- The place, where this is to be known of the labels that were written.
abbrev pub known_place : (List Made → Type 0) → Place → Place
known_place whole place = record place { whole = whole }

-- The labels of all lines were written, and what comes after the last.
pub record DrawsLines (label : Label) (options : DrawOptions) (every : Bool) (input : Input)
    (place : Place) : Type 0 where
  pub number : ℕ
  pub drawn : DrawsBefore label options every number input.before input.after (known_place place.ended place)
  pub ended : IsAtEnd input.after

-- The labels of the lines before the line of this number were written, and no more. `reads` says
-- what was read of this line.
pub record StopsAtLine (label : Label) (options : DrawOptions) (number : ℕ)
    (reads : Option (List ℕ) → Option (List ℕ) → Type 0) (input : Input) (place : Place) : Type 0 where
  pub left : Option (List ℕ)
  pub every : Bool
  pub drawn : DrawsBefore label options every number input.before left place
  pub stopped : reads left input.after

-- The labels of the lines before the line of this number were written, and its own was not, or not
-- as a whole.
pub record BreaksAt (label : Label) (options : DrawOptions) (number : ℕ) (input : Input)
    (place : Place) : Type 0 where
  pub results : List Made
  pub next : List ℕ
  pub labels : AreLabels label options input.before input.after (results ++ Ok next ∷ [])
  pub counted : number ≡ length results + label.first
  pub broken : place.broken results next

-- The labels of the lines before the line of this number were written, and there is no room for
-- its own.
pub record FillsAt (label : Label) (options : DrawOptions) (number : ℕ) (input : Input)
    (place : Place) : Type 0 where
  pub results : List Made
  pub next : List ℕ
  pub labels : AreLabels label options input.before input.after (results ++ Ok next ∷ [])
  pub counted : number ≡ length results + label.first
  pub full : place.full results next

-- The labels of all lines were written, and what comes after the last was not, or not as a whole.
-- The number is that of a line after the last.
pub record TearsAt (label : Label) (options : DrawOptions) (number : ℕ) (input : Input)
    (place : Place) : Type 0 where
  pub every : Bool
  pub drawn : DrawsBefore label options every number input.before input.after (known_place place.torn place)
  pub ended : IsAtEnd input.after

-- The line that was read has no label, for this reason.
pub record StopsLine (label : Label) (stop : Stop) (before after : Option (List ℕ)) : Type 0 where
  pub line : List ℕ
  pub read : ReadsLine (most_bytes label.content) before after line
  pub stopped : IsLabelStop label line stop
  pub not_left_out : label.keeps_going ≡ true → is_of_line stop ≡ false

-- The same, but that memory can run out at any byte of the line.
abbrev pub StopsOrLacks : Label → Stop → Option (List ℕ) → Option (List ℕ) → Type 0
StopsOrLacks label stop before after =
    stop ≢ Fault (Symbol OutOfMemory) → StopsLine label stop before after

-- What is written where the line of a number has no label, for this reason.
abbrev pub WritesUntil : Label → DrawOptions → ℕ → Stop → Input → Place → Type 0
WritesUntil label options number (Fault Read) input place =
    StopsAtLine label options number BeginsLine input place
WritesUntil label options number (Fault Write) input place =
    BreaksAt label options number input place ⊎ TearsAt label options number input place
WritesUntil label options number TooManyPages input place =
    FillsAt label options number input place
WritesUntil label options number stop input place =
    StopsAtLine label options number (StopsOrLacks label stop) input place

-- What is written for an outcome. On success the labels of all lines, and the outcome says whether
-- none was left out. Where reading failed, or a line has no label and is not left out, the labels
-- of the lines before this one. Where writing failed, these, and of the next, or of what comes
-- after the last, no more than a beginning.
abbrev pub WritesLinesOutcome : Label → DrawOptions → Input → Place → Result Bool LineStop → Type 0
WritesLinesOutcome label options input place (Ok every) = DrawsLines label options every input place
WritesLinesOutcome label options input place (Err at) =
    WritesUntil label options at.number at.stop input place

-- An outcome without the number of the line.
abbrev pub unnumbered : Result Bool LineStop → Result Bool Stop
unnumbered (Ok every) = Ok every
unnumbered (Err at) = Err at.stop

-- The outcome of lines: what was written, and that the error is `Read` exactly if reading failed,
-- and `Write` exactly if writing failed.
pub record IsLinesOutcome (label : Label) (options : DrawOptions) (input : Input) (place : Place)
    (outcome : Result Bool LineStop) : Type 0 where
  pub writes : WritesLinesOutcome label options input place outcome
  pub read : IsErrOf (unnumbered outcome) (Fault Read) ↔ IsTrue input.failed
  pub write : IsErrOf (unnumbered outcome) (Fault Write) ↔ IsTrue place.failed

-- ---- The next line

-- The reader is as it was, and no line is left.
pub record IsEnded (before after : Option (List ℕ)) : Type 0 where
  pub read : ReadsLines before after []
  pub ended : IsAtEnd after

-- Why the next line has no label: reading failed, or what was read of the line has none.
abbrev pub StopsNext : Label → Option (List ℕ) → Option (List ℕ) → Stop → Type 0
StopsNext label before after (Fault Read) = BeginsLine before after
StopsNext label before after (Fault Write) = ⊥
StopsNext label before after TooManyPages = ⊥
StopsNext label before after stop = StopsOrLacks label stop before after
