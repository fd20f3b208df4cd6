-- One label after the other.
use Rattle.std.proofs.Common.{◌≡◌, ◌≢◌, ◌+◌, ◌≤◌, ℕ, Bool, ◌&&◌, Option, Some, None, List, [], ◌∷◌, ◌++◌, length, take, append-nil, append_assoc, length-append}
use Rattle.std.proofs.Common.{◌<◌, ◌⊎◌, inl, inr, true, false, refl, sym, ap, ◌∙◌, arith, subst}
use Rattle.std.specs.Prelude.{Result, Ok, Err, is_ok}
use Rattle.std.proofs.lemmas.Grind.{flat_map-append}
use Rattle.std.specs.Io.BufRead.{drop_through, DropsThrough}
use Rattle.programs.specs.Devices.{SourceState, SinkState, Writes, input, output}
use Rattle.programs.specs.Lines.{FirstLines, ReadsLines, ReadsLine, BeginsLine}
use Rattle.programs.proofs.LineLemmas.{long_line, begins_more}
use Rattle.programs.specs.declared.Fault.{Fault as FaultOf}
use Rattle.single_label.specs.Contents.{most_bytes}
use Rattle.qrcode_core.specs.declared.types.errors.QrError.TheVariants.{OutOfMemory}
use Rattle.programs.proofs.DeviceLemmas.{Appends-append, Appends-none, Writes-stopped, Writes-next}
use Rattle.picture_settings.specs.declared.draw_options.DrawOptions.{DrawOptions}
use Rattle.label_words.specs.declared.command.Label.{Label}
use Rattle.programs.specs.declared.Fault.TheVariants.{Symbol, Read, Write}
use Rattle.single_label.specs.declared.stop.{Stop.Stop, Stop.TheVariants.Fault, Stop.TheVariants.Elements, Stop.TheVariants.NotAllowed, Stop.TheVariants.NoLink, Stop.TheVariants.Empty}
use Rattle.single_label.specs.declared.stop.{Stop.TheVariants.NoMicroText, Stop.TheVariants.TooLong, Stop.TheVariants.TooManyParts, Stop.TheVariants.TooManyPages}
use Rattle.labels.specs.Lines.{Made, Place, GiveEach, AreLabels, WritesEach, WritesSome, DrawsBefore, BreaksAt, IsEnded, StopsNext}
use Rattle.labels.specs.Lines.{WritesUntil, joined_labels, drawing_in, all_drawn, left_out, is_of_line}
use Rattle.single_label.proofs.StopLemmas.{no_device, no_page}
use Rattle.std.specs.declared.io.ErrorKind.{ErrorKind}
use Rattle.labels.specs.declared.stop.LineStop.{LineStop}
use Rattle.labels.specs.{Stops.end_report, Stops.stop_status, Runs.lines_reported, Runs.lines_status, Runs.last_number}
use Rattle.labels.specs.{Stops.numbered_line, Lines.IsLineLeftOut, Reports.Reports, Stop.made_of}
use Rattle.single_label.specs.Labels.{IsLabelStop}
use Rattle.std.specs.Prelude.{Vec, IfOk, IfErr, OnOk, IsOk}
use Rattle.std.specs.declared.alloc.Global.{Global}
use Rattle.labels.specs.{Lines.stream, Folders.folder}
use Rattle.label_words.specs.Names.{Numbering, numbered}
use Rattle.labels.specs.{FileStates.FilesState, FileStates.AddsFiles, Folders.files_of}

FirstLines-append : (xs ys zs : List ℕ) (ls ms : List (List ℕ)) → FirstLines xs ls ys → FirstLines ys ms zs → FirstLines xs (ls ++ ms) zs
FirstLines-append xs ys zs [] ms h k = rw h k
FirstLines-append xs ys zs (l ∷ ls) ms h k = (h.0, h.1, FirstLines-append (drop_through 10 xs) ys zs ls ms h.2 k)

ReadsLines-append : (a b c : Option (List ℕ)) (ls ms : List (List ℕ)) → ReadsLines a b ls → ReadsLines b c ms → ReadsLines a c (ls ++ ms)
ReadsLines-append None b c ls ms h k = tt
ReadsLines-append (Some xs) None c ls ms h k = absurd h
ReadsLines-append (Some xs) (Some ys) None ls ms h k = absurd k
ReadsLines-append (Some xs) (Some ys) (Some zs) ls ms h k = FirstLines-append xs ys zs ls ms h k

ReadsLines-none : (a : Option (List ℕ)) → ReadsLines a a []
ReadsLines-none None = tt
ReadsLines-none (Some xs) = refl

GiveEach-append : (gives : List ℕ → Made → Type 0) (ls ms : List (List ℕ)) (ds es : List Made) →
    GiveEach gives ls ds → GiveEach gives ms es → GiveEach gives (ls ++ ms) (ds ++ es)
GiveEach-append gives [] ms [] es h k = k
GiveEach-append gives (l ∷ ls) ms (d ∷ ds) es h k = (h.0, GiveEach-append gives ls ms ds es h.1 k)
GiveEach-append gives [] ms (d ∷ ds) es h k = absurd h
GiveEach-append gives (l ∷ ls) ms [] es h k = absurd h

pub AreLabels-append : (label : Label) (options : DrawOptions) (a b c : Option (List ℕ)) (ds es : List Made) →
    AreLabels label options a b ds → AreLabels label options b c es →
    AreLabels label options a c (ds ++ es)
AreLabels-append label options a b c ds es h k = record {
  lines = h.lines ++ k.lines;
  read = ReadsLines-append a b c h.lines k.lines h.read k.read;
  shown = GiveEach-append _ h.lines k.lines ds es h.shown k.shown;
}

joined-append : (ds : List Made) (e : Made) → joined_labels (ds ++ e ∷ []) ≡ joined_labels ds ++ drawing_in e
joined-append ds e = flat_map-append drawing_in ds (e ∷ []) ∙ ap (λ rest. joined_labels ds ++ rest) (append-nil (drawing_in e))

all_drawn-append : (ds : List Made) (e : Made) → all_drawn (ds ++ e ∷ []) ≡ (all_drawn ds && is_ok e)
all_drawn-append [] (Ok d) = refl
all_drawn-append [] (Err s) = refl
all_drawn-append (Ok d ∷ ds) e = all_drawn-append ds e
all_drawn-append (Err s ∷ ds) e = refl

-- no line was drawn yet
pub DrawsBefore-none : (label : Label) (options : DrawOptions) (a : Option (List ℕ)) (place : Place) → place.whole [] →
    DrawsBefore label options true label.first a a place
DrawsBefore-none label options a place none =
    record { results = []; labels = record { lines = []; read = ReadsLines-none a; shown = tt }; counted = omega arith; every_is = refl; written = none }

-- the same of another place
pub DrawsBefore-there : (label : Label) (options : DrawOptions) (every : Bool) (n : ℕ) (a b : Option (List ℕ)) (old new : Place) →
    DrawsBefore label options every n a b old → ((ds : List Made) → old.whole ds → new.whole ds) → DrawsBefore label options every n a b new
DrawsBefore-there label options every n a b old new h more = record {
  results = h.results;
  labels = h.labels;
  counted = h.counted;
  every_is = h.every_is;
  written = more h.results h.written;
}

-- and one line more
pub DrawsBefore-more : (label : Label) (options : DrawOptions) (every all : Bool) (n : ℕ) (a b c : Option (List ℕ)) (old new : Place) (d : Made) →
    DrawsBefore label options every n a b old → AreLabels label options b c (d ∷ []) → all ≡ (every && is_ok d) →
    ((ds : List Made) → n ≡ length ds + label.first → old.whole ds → new.whole (ds ++ d ∷ [])) → DrawsBefore label options all (n + 1) a c new
DrawsBefore-more label options every all n a b c old new d h k is more = record {
  results = h.results ++ d ∷ [];
  labels = AreLabels-append label options a b c h.results (d ∷ []) h.labels k;
  counted = omega (arith, h.counted, length-append h.results (d ∷ []));
  every_is = is ∙ ap (λ e. e && is_ok d) h.every_is ∙ sym (all_drawn-append h.results d);
  written = more h.results h.counted h.written;
}

-- there was no line more
pub DrawsBefore-ended : (label : Label) (options : DrawOptions) (every : Bool) (n : ℕ) (a b c : Option (List ℕ)) (place : Place) →
    DrawsBefore label options every n a b place → IsEnded b c → DrawsBefore label options every n a c place
DrawsBefore-ended label options every n a b c place h k = record {
  results = h.results;
  labels = rw (append-nil h.results) at (AreLabels-append label options a b c h.results [] h.labels (record { lines = []; read = k.read; shown = tt }));
  counted = h.counted;
  every_is = h.every_is;
  written = h.written;
}

-- writing stopped at a label
pub BreaksAt-next : (label : Label) (options : DrawOptions) (every : Bool) (n : ℕ) (r s t : SourceState) (old new : Place) (d : List ℕ) →
    DrawsBefore label options every n r.left s.left old →
    AreLabels label options s.left t.left (Ok d ∷ []) → ((ds : List Made) → old.whole ds → new.broken ds d) → BreaksAt label options n (input r t) new
BreaksAt-next label options every n r s t old new d h k breaks = record {
  results = h.results;
  next = d;
  labels = AreLabels-append label options r.left s.left t.left h.results (Ok d ∷ []) h.labels k;
  counted = h.counted;
  broken = breaks h.results h.written;
}

-- there is no label of the next line
pub writes_until : (label : Label) (options : DrawOptions) (every : Bool) (n : ℕ) (q r s : SourceState) (place : Place) (stop : Stop) →
    DrawsBefore label options every n q.left r.left place → StopsNext label r.left s.left stop → WritesUntil label options n stop (input q s) place
writes_until label options every n q r s place (Fault Read) h k = record { left = r.left; every = every; drawn = h; stopped = k }
writes_until label options every n q r s place (Fault Write) h k = absurd k
writes_until label options every n q r s place (Fault (Symbol e)) h k = record { left = r.left; every = every; drawn = h; stopped = k }
writes_until label options every n q r s place (Elements e) h k = record { left = r.left; every = every; drawn = h; stopped = k }
writes_until label options every n q r s place (NotAllowed error) h k = record { left = r.left; every = every; drawn = h; stopped = k }
writes_until label options every n q r s place (NoLink error) h k = record { left = r.left; every = every; drawn = h; stopped = k }
writes_until label options every n q r s place Empty h k = record { left = r.left; every = every; drawn = h; stopped = k }
writes_until label options every n q r s place NoMicroText h k = record { left = r.left; every = every; drawn = h; stopped = k }
writes_until label options every n q r s place (TooLong t) h k = record { left = r.left; every = every; drawn = h; stopped = k }
writes_until label options every n q r s place TooManyParts h k = record { left = r.left; every = every; drawn = h; stopped = k }
writes_until label options every n q r s place TooManyPages h k = absurd k

pub never_write : (label : Label) (a b : Option (List ℕ)) (stop : Stop) → StopsNext label a b stop → stop ≢ Fault Write
never_write label a b stop k e = rw e at k

-- ---- What is said of lines that are left out

left_out-append : (n : ℕ) (ds : List Made) (e : Made) → left_out n (ds ++ e ∷ []) ≡ left_out n ds ++ left_out (n + length ds) (e ∷ [])
left_out-append n [] e = ap (λ m. left_out m (e ∷ [])) (omega arith)
left_out-append n (Ok d ∷ ds) e =
    left_out-append (n + 1) ds e ∙ ap (λ m. left_out (n + 1) ds ++ left_out m (e ∷ [])) (omega arith)
left_out-append n (Err s ∷ ds) e =
    let line = numbered_line (record { number = n; stop = s }) in
    ap (λ rest. line ++ rest) (left_out-append (n + 1) ds e ∙ ap (λ m. left_out (n + 1) ds ++ left_out m (e ∷ [])) (omega arith))
    ∙ sym (append_assoc line (left_out (n + 1) ds) (left_out (n + length (Err s ∷ ds)) (e ∷ [])))

left_out-drawn : (n : ℕ) (ds : List Made) (d : List ℕ) → left_out n (ds ++ Ok d ∷ []) ≡ left_out n ds
left_out-drawn n ds d = left_out-append n ds (Ok d) ∙ append-nil (left_out n ds)

left_out-more : (m n : ℕ) (ds : List Made) (s : Stop) → m ≡ length ds + n →
    left_out n (ds ++ Err s ∷ []) ≡ left_out n ds ++ numbered_line (record { number = m; stop = s })
left_out-more m n ds s is =
    left_out-append n ds (Err s) ∙ ap (λ line. left_out n ds ++ line) (append-nil (numbered_line (record { number = n + length ds; stop = s }))
    ∙ ap (λ k. numbered_line (record { number = k; stop = s })) (omega (arith, is)))

-- a line more, if the sink has not failed
says : (f : Bool) (a b c : SinkState) (xs ys : List ℕ) → b.failed ≡ f → Writes (output a b) xs →
    (b.failed ≡ true → c ≡ b) → (b.failed ≡ false → Writes (output b c) ys) → Writes (output a c) (xs ++ ys)
says true a b c xs ys is h silent line = rw (silent is) (Writes-stopped (output a b) xs ys is h)
says false a b c xs ys is h silent line = Writes-next a b c xs ys is h (line is)

pub said_none : (e : SinkState) (n : ℕ) → Writes (output e e) (left_out n [])
said_none e n = record { beginning = record { count = 0; appends = Appends-none e.written }; whole = λ sound. Appends-none e.written }

pub said_drawn : (a b : SinkState) (n : ℕ) (ds : List Made) (d : List ℕ) → Writes (output a b) (left_out n ds) → Writes (output a b) (left_out n (ds ++ Ok d ∷ []))
said_drawn a b n ds d h = rw (left_out-drawn n ds d) h

pub said_more : (a b c : SinkState) (m n : ℕ) (ds : List Made) (s : Stop) → m ≡ length ds + n → Writes (output a b) (left_out n ds) →
    (b.failed ≡ true → c ≡ b) → (b.failed ≡ false → Writes (output b c) (numbered_line (record { number = m; stop = s }))) →
    Writes (output a c) (left_out n (ds ++ Err s ∷ []))
said_more a b c m n ds s is h silent line = rw (left_out-more m n ds s is) (says b.failed a b c _ _ refl h silent line)

-- ---- One output

pub stream_none : (w e : SinkState) (n : ℕ) → WritesEach (output w w) [] × Writes (output e e) (left_out n [])
stream_none w e n = (record { appends = Appends-none w.written; flushed = λ none. absurd (none refl) }, said_none e n)

pub stream_step : (u v w a b c : SinkState) (m n : ℕ) (made : Result (Vec ℕ Global) Stop) →
    IfOk made (λ d. (c ≡ b) × Writes (output v w) d.items) → OnOk made (w.flushed ≡ w.written) → w.failed ≡ false →
    IfErr made (λ s. (w ≡ v) × Reports b c (numbered_line (record { number = m; stop = s }))) →
    (ds : List Made) → m ≡ length ds + n → WritesEach (output u v) ds × Writes (output a b) (left_out n ds) →
    WritesEach (output u w) (ds ++ made_of made ∷ []) × Writes (output a c) (left_out n (ds ++ made_of made ∷ []))
stream_step u v w a b c m n (Ok d) written flushed sound out ds is h = (
  record {
    appends = rw (joined-append ds (Ok d.items)) (Appends-append u.written v.written w.written (joined_labels ds) d.items h.0.appends (written.1.whole sound));
    flushed = λ some. flushed;
  },
  rw (written.0) (said_drawn a b n ds d.items h.1),
)
stream_step u v w a b c m n (Err s) written flushed sound out ds is h =
    let same : joined_labels (ds ++ Err s ∷ []) ≡ joined_labels ds = joined-append ds (Err s) ∙ append-nil (joined_labels ds) in (
      rw (out.0) (record { appends = rw same h.0.appends; flushed = λ some. h.0.flushed (rw same at some) }),
      said_more a b c m n ds s is h.1 out.1.silent out.1.said,
    )

pub stream_breaks : (u v w a b : SinkState) (n : ℕ) (d : List ℕ) → Writes (output v w) d →
    (ds : List Made) → WritesEach (output u v) ds × Writes (output a b) (left_out n ds) → WritesSome (output u w) ds d × Writes (output a b) (left_out n ds)
stream_breaks u v w a b n d writes ds h = (
  record {
    count = writes.beginning.count;
    appends = Appends-append u.written v.written w.written (joined_labels ds) (take writes.beginning.count d) h.0.appends writes.beginning.appends;
  },
  h.1,
)

-- ---- A file for each

files_more : (name : Numbering) (n : ℕ) (ds : List Made) (e : Made) →
    files_of name n (ds ++ e ∷ []) ≡ files_of name n ds ++ files_of name (n + length ds) (e ∷ [])
files_more name n [] e = ap (λ m. files_of name m (e ∷ [])) (omega arith)
files_more name n (Ok d ∷ ds) e =
    ap (λ rest. (numbered name n, d) ∷ rest)
    (files_more name (n + 1) ds e ∙ ap (λ m. files_of name (n + 1) ds ++ files_of name m (e ∷ [])) (omega arith))
files_more name n (Err s ∷ ds) e =
    files_more name (n + 1) ds e ∙ ap (λ m. files_of name (n + 1) ds ++ files_of name m (e ∷ [])) (omega arith)

pub adds_append : (a b c : Option (List (List ℕ × List ℕ))) (fs gs : List (List ℕ × List ℕ)) → AddsFiles a b fs → AddsFiles b c gs → AddsFiles a c (fs ++ gs)
adds_append a b c fs gs h k = grind (arith, append_assoc)

pub folder_none : (name : Numbering) (f : FilesState) (e : SinkState) (n : ℕ) →
    AddsFiles f.files f.files (files_of name n []) × Writes (output e e) (left_out n [])
folder_none name f e n = (grind (arith, append-nil), said_none e n)

pub folder_step : (name : Numbering) (m n : ℕ) (e f g : FilesState) (a b c : SinkState) (made : Result (Vec ℕ Global) Stop) →
    IfOk made (λ d. (c ≡ b) × AddsFiles f.files g.files ((numbered name m, d.items) ∷ [])) →
    IfErr made (λ s. (g ≡ f) × Reports b c (numbered_line (record { number = m; stop = s }))) →
    (ds : List Made) → m ≡ length ds + n → AddsFiles e.files f.files (files_of name n ds) × Writes (output a b) (left_out n ds) →
    AddsFiles e.files g.files (files_of name n (ds ++ made_of made ∷ [])) × Writes (output a c) (left_out n (ds ++ made_of made ∷ []))
folder_step name m n e f g a b c (Ok d) put out ds is h =
    let last = subst (λ k. AddsFiles f.files g.files ((numbered name k, d.items) ∷ [])) (is ∙ omega arith) put.1 in (
      rw (files_more name n ds (Ok d.items)) (adds_append e.files f.files g.files (files_of name n ds) _ h.0 last),
      rw (put.0) (said_drawn a b n ds d.items h.1),
    )
folder_step name m n e f g a b c (Err s) put out ds is h =
    let same : files_of name n (ds ++ Err s ∷ []) ≡ files_of name n ds = files_more name n ds (Err s) ∙ append-nil (files_of name n ds) in
    (rw (out.0) (rw same h.0), said_more a b c m n ds s is h.1 out.1.silent out.1.said)

pub folder_breaks : (name : Numbering) (n : ℕ) (e f g : FilesState) (a b : SinkState) → AddsFiles f.files g.files [] →
    (ds : List Made) → AddsFiles e.files f.files (files_of name n ds) × Writes (output a b) (left_out n ds) →
    AddsFiles e.files g.files (files_of name n ds) × Writes (output a b) (left_out n ds)
folder_breaks name n e f g a b adds ds h =
    (rw (append-nil (files_of name n ds)) at (adds_append e.files f.files g.files (files_of name n ds) [] h.0 adds), h.1)

-- ---- One line

-- it was read whole, or too much of it, and its rest
pub left_out_short : (label : Label) (options : DrawOptions) (a b : Option (List ℕ)) (line : List ℕ) (stop : Stop) →
    ReadsLine (most_bytes label.content) a b line → length line ≤ most_bytes label.content + 1 → IsLineLeftOut label line stop → AreLabels label options a b (Err stop ∷ [])
left_out_short label options a b line stop (inl h) short is = record { lines = line ∷ []; read = h.read; shown = (is, tt) }
left_out_short label options a b line stop (inr h) short is = absurd (omega (arith, h.long, short))

long_stop : (label : Label) (part line : List ℕ) (stop : Stop) → most_bytes label.content < length part → most_bytes label.content < length line →
    IsLabelStop label part stop → IsLabelStop label line stop
long_stop label part line stop long longer (inl h) = inl (record { many = longer; too_long = h.too_long; is_too_long = h.is_too_long; stop_is = h.stop_is })
long_stop label part line stop long longer (inr h) = absurd (omega (arith, long, h.short))

pub left_out_long : (label : Label) (options : DrawOptions) (a b c : Option (List ℕ)) (part : List ℕ) (stop : Stop) →
    ReadsLine (most_bytes label.content) a b part → most_bytes label.content + 1 < length part → DropsThrough b c 10 → IsLineLeftOut label part stop → AreLabels label options a c (Err stop ∷ [])
left_out_long label options a b c part stop (inl h) long rest is = absurd (omega (arith, long, h.short))
left_out_long label options a b c part stop (inr h) long rest is =
    let whole = long_line (most_bytes label.content) a b c part h rest in record {
      lines = whole.0 ∷ [];
      read = whole.1;
      shown = (
        record {
          asked = is.asked;
          stopped = long_stop label part whole.0 stop (omega (arith, long)) whole.2 is.stopped;
          of_line = is.of_line;
        },
        tt,
      );
    }

-- reading failed in the rest of a line
begins_long : (most : ℕ) (a b c : Option (List ℕ)) (part : List ℕ) → ReadsLine most a b part → most + 1 < length part → BeginsLine b c → BeginsLine a c
begins_long most a b c part (inl h) long more = absurd (omega (arith, long, h.short))
begins_long most a b c part (inr h) long more = begins_more a b c part h.begins more

pub stops_long : (label : Label) (a b c : Option (List ℕ)) (part : List ℕ) (fault : FaultOf) → ReadsLine (most_bytes label.content) a b part → most_bytes label.content + 1 < length part →
    BeginsLine b c → (fault ≡ Read) ⊎ (fault ≡ Symbol OutOfMemory) → StopsNext label a c (Fault fault)
stops_long label a b c part fault h long more (inl is) = rw is (begins_long (most_bytes label.content) a b c part h long more)
stops_long label a b c part fault h long more (inr is) = rw is (λ other. absurd (other refl))

-- a line has no label, and is not left out
pub stops_at : (label : Label) (a b : Option (List ℕ)) (line : List ℕ) (stop : Stop) → ReadsLine (most_bytes label.content) a b line → IsLabelStop label line stop →
    (label.keeps_going ≡ true → is_of_line stop ≡ false) → StopsNext label a b stop
stops_at label a b line (Fault Read) read h k = absurd (no_device label line Read (inl refl) h)
stops_at label a b line (Fault Write) read h k = absurd (no_device label line Write (inr refl) h)
stops_at label a b line (Fault (Symbol e)) read h k = λ other. record { line = line; read = read; stopped = h; not_left_out = k }
stops_at label a b line (Elements e) read h k = λ other. record { line = line; read = read; stopped = h; not_left_out = k }
stops_at label a b line (NotAllowed e) read h k = λ other. record { line = line; read = read; stopped = h; not_left_out = k }
stops_at label a b line (NoLink e) read h k = λ other. record { line = line; read = read; stopped = h; not_left_out = k }
stops_at label a b line Empty read h k = λ other. record { line = line; read = read; stopped = h; not_left_out = k }
stops_at label a b line NoMicroText read h k = λ other. record { line = line; read = read; stopped = h; not_left_out = k }
stops_at label a b line (TooLong t) read h k = λ other. record { line = line; read = read; stopped = h; not_left_out = k }
stops_at label a b line TooManyParts read h k = λ other. record { line = line; read = read; stopped = h; not_left_out = k }
stops_at label a b line TooManyPages read h k = absurd (no_page label line h)

pub drawn_is : (made : Result (Vec ℕ Global) Stop) → is_ok (made_of made) ≡ is_ok made
drawn_is (Ok d) = refl
drawn_is (Err s) = refl

-- writing stopped at what came of a line, which is a label
pub stream_stops : (label : Label) (options : DrawOptions) (every : Bool) (m : ℕ) (r s t : SourceState) (u v w a b c : SinkState) (n : ℕ)
    (made : Result (Vec ℕ Global) Stop) → DrawsBefore label options every m r.left s.left (stream (output u v) n (output a b)) →
    AreLabels label options s.left t.left (made_of made ∷ []) → IsOk made →
    IfOk made (λ d. (c ≡ b) × Writes (output v w) d.items) → BreaksAt label options m (input r t) (stream (output u w) n (output a c))
stream_stops label options every m r s t u v w a b c n (Ok d) h k ok written =
    rw (written.0) (BreaksAt-next label options every m r s t (stream (output u v) n (output a b)) (stream (output u w) n (output a b)) d.items h k
    (stream_breaks u v w a b n d.items written.1))
stream_stops label options every m r s t u v w a b c n (Err e) h k ok written = absurd (grind (arith, ok))

pub folder_stops : (label : Label) (options : DrawOptions) (every : Bool) (m : ℕ) (r s t : SourceState) (name : Numbering) (e f g : FilesState)
    (a b c : SinkState) (n : ℕ) (made : Result (Vec ℕ Global) Stop) →
    DrawsBefore label options every m r.left s.left (folder e f n name (output a b)) → AreLabels label options s.left t.left (made_of made ∷ []) →
    IsOk made → c ≡ b → AddsFiles f.files g.files [] → BreaksAt label options m (input r t) (folder e g n name (output a c))
folder_stops label options every m r s t name e f g a b c n (Ok d) h k ok same adds =
    rw same (BreaksAt-next label options every m r s t (folder e f n name (output a b)) (folder e g n name (output a b)) d.items h k
    (folder_breaks name n e f g a b adds))
folder_stops label options every m r s t name e f g a b c n (Err x) h k ok same adds = absurd (grind (arith, ok))

-- a file could not be written, or its name could not be made
pub folder_fails : (label : Label) (options : DrawOptions) (every : Bool) (m : ℕ) (r s t : SourceState) (name : Numbering) (e f g : FilesState)
    (a b c : SinkState) (n : ℕ) (made : Result (Vec ℕ Global) Stop) (stop : Stop) →
    DrawsBefore label options every m r.left s.left (folder e f n name (output a b)) → AreLabels label options s.left t.left (made_of made ∷ []) →
    IsOk made → c ≡ b → AddsFiles f.files g.files [] →
    ((stop ≡ Fault Write) × (g.failed ≡ true)) ⊎ ((stop ≡ Fault (Symbol OutOfMemory)) × (g ≡ f)) →
    WritesUntil label options m stop (input r t) (folder e g n name (output a c))
folder_fails label options every m r s t name e f g a b c n made stop h k ok same adds (inl is) =
    rw (is.0) (inl (folder_stops label options every m r s t name e f g a b c n made h k ok same adds))
folder_fails label options every m r s t name e f g a b c n made stop h k ok same adds (inr is) =
    rw (is.0, is.1, same) (record { left = s.left; every = every; drawn = h; stopped = λ other. absurd (other refl) })

-- ---- What is written

pub said_at_end : (f : Bool) (b c : SinkState) (line : List ℕ) → b.failed ≡ f → (b.failed ≡ true → c ≡ b) →
    (b.failed ≡ false → Writes (output b c) line) → Writes (output b c) line
said_at_end true b c line is silent said = rw (silent is) (record {
  beginning = record { count = 0; appends = Appends-none b.written };
  whole = λ sound. absurd (cc);
})
said_at_end false b c line is silent said = said is

pub nothing_said : (e : SinkState) → Writes (output e e) []
nothing_said e = record { beginning = record { count = 0; appends = Appends-none e.written }; whole = λ sound. Appends-none e.written }

-- the name of the output is said of a write alone
said_of : (source target other : List ℕ) (not_read not_written : Option ErrorKind) (number : ℕ) (stop : Stop) →
    (stop ≡ Fault Write → target ≡ other) →
    end_report (record { source = source; not_read = not_read; target = target; not_written = not_written }) (record { number = number; stop = stop })
    ≡ end_report (record { source = source; not_read = not_read; target = other; not_written = not_written }) (record { number = number; stop = stop })
said_of source target other not_read not_written number (Fault Read) same = refl
said_of source target other not_read not_written number (Fault Write) same = rw (same refl) refl
said_of source target other not_read not_written number (Fault (Symbol e)) same = refl
said_of source target other not_read not_written number (Elements e) same = refl
said_of source target other not_read not_written number (NotAllowed error) same = refl
said_of source target other not_read not_written number (NoLink error) same = refl
said_of source target other not_read not_written number Empty same = refl
said_of source target other not_read not_written number NoMicroText same = refl
said_of source target other not_read not_written number (TooLong t) same = refl
said_of source target other not_read not_written number TooManyParts same = refl
said_of source target other not_read not_written number TooManyPages same = refl

pub lines_said : (source target : List ℕ) (name : ℕ → List ℕ) (not_read not_written : Option ErrorKind) (outcome : Result Bool LineStop) →
    IfErr outcome (λ at. at.stop ≡ Fault Write → target ≡ name at.number) →
    lines_reported (record { source = source; not_read = not_read; target = target; not_written = not_written }) outcome
    ≡ lines_reported (record { source = source; not_read = not_read; target = name (last_number outcome); not_written = not_written }) outcome
lines_said source target name not_read not_written (Ok every) same = refl
lines_said source target name not_read not_written (Err at) same =
    said_of source target (name at.number) not_read not_written at.number at.stop same

status_of : (source target other : List ℕ) (not_read not_written : Option ErrorKind) (stop : Stop) →
    stop_status (record { source = source; not_read = not_read; target = target; not_written = not_written }) stop
    ≡ stop_status (record { source = source; not_read = not_read; target = other; not_written = not_written }) stop
status_of source target other not_read not_written (Fault Read) = refl
status_of source target other not_read not_written (Fault Write) = refl
status_of source target other not_read not_written (Fault (Symbol e)) = refl
status_of source target other not_read not_written (Elements e) = refl
status_of source target other not_read not_written (NotAllowed error) = refl
status_of source target other not_read not_written (NoLink error) = refl
status_of source target other not_read not_written Empty = refl
status_of source target other not_read not_written NoMicroText = refl
status_of source target other not_read not_written (TooLong t) = refl
status_of source target other not_read not_written TooManyParts = refl
status_of source target other not_read not_written TooManyPages = refl

pub lines_status-same : (source target other : List ℕ) (not_read not_written : Option ErrorKind) (outcome : Result Bool LineStop) →
    lines_status (record { source = source; not_read = not_read; target = target; not_written = not_written }) outcome
    ≡ lines_status (record { source = source; not_read = not_read; target = other; not_written = not_written }) outcome
lines_status-same source target other not_read not_written (Ok every) = refl
lines_status-same source target other not_read not_written (Err at) = status_of source target other not_read not_written at.stop

pub ruleset drawn = (DrawsBefore-none, DrawsBefore-ended, stream_none, folder_none)
