-- The outcomes of the lines of an input that are drawn as the pages of a document.
use Rattle.std.proofs.Common.{◌≡◌, ◌≢◌, ◌+◌, ◌<◌, ◌∷◌, ◌++◌, ℕ, Bool, Option, List, [], length}
use Rattle.std.proofs.Common.{◌⊎◌, inl, inr, true, false, refl, subst, arith}
use Rattle.std.specs.Prelude.{Result, Ok, Err, ◌↔◌, IsTrue, IfOk, IfErr, IsOk, is_ok}
use Rattle.std.specs.Option.{option_copied}
use Rattle.programs.specs.Devices.{SourceState, SinkState, Writes, input, output}
use Rattle.programs.proofs.DeviceLemmas.{Appends-none}
use Rattle.qrcode_render.specs.Pdf.{PdfPage}
use Rattle.qrcode_render.specs.PdfPagesWritten.{PdfWritten, after_page, next_page, pdf_end}
use Rattle.picture_settings.specs.declared.bounds.TheConstants.{MAX_PDF}
use Rattle.picture_settings.specs.declared.draw_options.DrawOptions.{DrawOptions}
use Rattle.single_label.specs.{Pages.page_alone, PageSymbols.page_shown}
use Rattle.labels.specs.Documents.{IsNextPage, IsNoPage}
use Rattle.labels.specs.Documents.{document}
use Rattle.labels.specs.Lines.{Made, AreLabels, DrawsBefore, IsEnded, IsLinesOutcome, StopsNext, known_place}
use Rattle.labels.proofs.LabelLemmas.{BreaksAt-next, DrawsBefore-none, DrawsBefore-there, DrawsBefore-ended, said_none}
use Rattle.labels.proofs.LabelLemmas.{writes_until, never_write}
use Rattle.programs.specs.declared.Fault.TheVariants.{Symbol, Read, Write}
use Rattle.qrcode_core.specs.declared.types.errors.QrError.TheVariants.{OutOfMemory}
use Rattle.single_label.specs.declared.stop.Stop.TheVariants.{Fault, TooManyPages}
use Rattle.labels.specs.{Stop.made_as, Reports.Reports, Stops.numbered_line}
use Rattle.single_label.specs.declared.shown.PageSymbol.{PageSymbol}
use Rattle.label_words.specs.declared.command.Label.{Label}
use Rattle.single_label.specs.declared.stop.Stop.{Stop}
use Rattle.labels.proofs.PageLemmas.{so_far, so_far_place, pages_step, pages_left_out, pages_break, fills_at}
use Rattle.labels.proofs.PageLemmas.{pages_so_far, ends_empty, ends_written, ends_torn}

-- ---- Outcomes

-- all pages were written, and the end
pub all_written : (label : Label) (options : DrawOptions) (every : Bool) (n : ℕ) (r s t : SourceState) (title : Option (List ℕ)) (p : PdfWritten)
    (waiting : List ℕ) (u v w a b : SinkState) → DrawsBefore label options every n r.left s.left (so_far_place title p waiting u v a b label.first) →
    IsEnded s.left t.left → (waiting ≢ [] → w ≡ v) → (waiting ≡ [] → Writes (output v w) (pdf_end p)) → (waiting ≡ [] → w.flushed ≡ w.written) →
    w.failed ≡ false → t.failed ≡ false → IsLinesOutcome label options (input r t) (document title (output u w) label.first (output a b)) (Ok every)
all_written label options every n r s t title p [] u v w a b h ended same written flushed sound read = record {
  writes = record {
    number = n;
    drawn = DrawsBefore-there label options every n r.left t.left (so_far_place title p [] u v a b label.first)
        (known_place (document title (output u w) label.first (output a b)).ended (document title (output u w) label.first (output a b)))
        (DrawsBefore-ended label options every n r.left s.left t.left (so_far_place title p [] u v a b label.first) h ended)
        (ends_written title p [] u v w a b label.first refl (written refl) sound (flushed refl));
    ended = ended.ended;
  };
  read = grind (arith, read);
  write = grind (arith, sound);
}
all_written label options every n r s t title p (x ∷ xs) u v w a b h ended same written flushed sound read =
    let some : (x ∷ xs) ≢ [] = λ e. grind (arith, e) in
    rw (same some) (record {
      writes = record {
        number = n;
        drawn = DrawsBefore-there label options every n r.left t.left (so_far_place title p (x ∷ xs) u v a b label.first)
            (known_place (document title (output u v) label.first (output a b)).ended (document title (output u v) label.first (output a b)))
            (DrawsBefore-ended label options every n r.left s.left t.left (so_far_place title p (x ∷ xs) u v a b label.first) h ended)
            (ends_empty title p (x ∷ xs) u v a b label.first some);
        ended = ended.ended;
      };
      read = grind (arith, read);
      write = grind (arith, sound, same some);
    })

-- memory ran out
pub memory_out : (label : Label) (options : DrawOptions) (every : Bool) (n : ℕ) (r s t : SourceState) (title : Option (List ℕ)) (p : PdfWritten)
    (waiting : List ℕ) (u v a b : SinkState) → DrawsBefore label options every n r.left s.left (so_far_place title p waiting u v a b label.first) →
    v.failed ≡ false → t.failed ≡ false →
    IsLinesOutcome label options (input r t) (document title (output u v) label.first (output a b)) (Err (record { number = n; stop = Fault (Symbol OutOfMemory) }))
memory_out label options every n r s t title p waiting u v a b h sound read = record {
  writes = record {
    left = s.left;
    every = every;
    drawn = DrawsBefore-there label options every n r.left s.left (so_far_place title p waiting u v a b label.first)
        (document title (output u v) label.first (output a b)) h (pages_so_far title p waiting u v a b label.first);
    stopped = λ other. absurd (other refl);
  };
  read = grind (arith, read);
  write = grind (arith, sound);
}

pub memory_out_at : (label : Label) (options : DrawOptions) (every : Bool) (m n : ℕ) (r s t : SourceState) (title : Option (List ℕ)) (p : PdfWritten)
    (waiting : List ℕ) (u v a b : SinkState) → n ≡ m → DrawsBefore label options every n r.left s.left (so_far_place title p waiting u v a b label.first) →
    v.failed ≡ false → t.failed ≡ false →
    IsLinesOutcome label options (input r t) (document title (output u v) label.first (output a b)) (Err (record { number = m; stop = Fault (Symbol OutOfMemory) }))
memory_out_at label options every m n r s t title p waiting u v a b is h sound read =
    memory_out label options every m r s t title p waiting u v a b
    (subst (λ (x : ℕ). DrawsBefore label options every x r.left s.left (so_far_place title p waiting u v a b label.first)) is h) sound read

pub nothing_yet : (label : Label) (options : DrawOptions) (r : SourceState) (title : Option (List ℕ)) (u e : SinkState) → r.failed ≡ false → u.failed ≡ false →
    IsLinesOutcome label options (input r r) (document title (output u u) label.first (output e e))
    (Err (record { number = label.first; stop = Fault (Symbol OutOfMemory) }))
nothing_yet label options r title u e read sound = record {
  writes = record {
    left = r.left;
    every = true;
    drawn = DrawsBefore-none label options r.left (document title (output u u) label.first (output e e)) (
      record { pages = []; are_pages = refl; appends = Appends-none u.written; flushed = λ some. absurd (some refl) },
      said_none e label.first,
    );
    stopped = λ other. absurd (other refl);
  };
  read = grind (arith, read);
  write = grind (arith, sound);
}

-- the end was not written
pub end_not_written : (label : Label) (options : DrawOptions) (every : Bool) (n : ℕ) (r s t : SourceState) (title : Option (List ℕ)) (p : PdfWritten)
    (waiting : List ℕ) (u v w a b : SinkState) (stop : Stop) → DrawsBefore label options every n r.left s.left (so_far_place title p waiting u v a b label.first) →
    IsEnded s.left t.left → v.failed ≡ false → t.failed ≡ false →
    ((stop ≡ Fault Write) × (w.failed ≡ true) × (waiting ≡ []) × Writes (output v w) (pdf_end p)) ⊎ ((stop ≡ Fault (Symbol OutOfMemory)) × (w ≡ v)) →
    IsLinesOutcome label options (input r t) (document title (output u w) label.first (output a b)) (Err (record { number = n; stop = stop }))
end_not_written label options every n r s t title p waiting u v w a b stop h ended sound read (inl (is, failed, none, written)) =
    rw is (record {
      writes = inr (record {
        every = every;
        drawn = DrawsBefore-there label options every n r.left t.left (so_far_place title p waiting u v a b label.first)
            (known_place (document title (output u w) label.first (output a b)).torn (document title (output u w) label.first (output a b)))
            (DrawsBefore-ended label options every n r.left s.left t.left (so_far_place title p waiting u v a b label.first) h ended)
            (ends_torn title p waiting u v w a b label.first none written);
        ended = ended.ended;
      });
      read = grind (arith, read);
      write = grind (arith, failed);
    })
end_not_written label options every n r s t title p waiting u v w a b stop h ended sound read (inr (is, same)) =
    rw (is, same) (memory_out label options every n r s t title p waiting u v a b h sound read)

-- a page was not written
pub page_not_written : (label : Label) (options : DrawOptions) (every : Bool) (n : ℕ) (r s t : SourceState) (title : Option (List ℕ)) (p : PdfWritten)
    (waiting : List ℕ) (page : PdfPage) (u v w a b : SinkState) (stop : Stop) →
    DrawsBefore label options every n r.left s.left (so_far_place title p waiting u v a b label.first) →
    AreLabels label options s.left t.left (Ok (page_alone title page) ∷ []) → v.failed ≡ false → t.failed ≡ false →
    ((stop ≡ Fault Write) × (w.failed ≡ true) × Writes (output v w) (waiting ++ next_page p page))
    ⊎ ((w ≡ v) × ((stop ≡ Fault (Symbol OutOfMemory)) ⊎ ((stop ≡ TooManyPages) × (MAX_PDF < (after_page p page).size)))) →
    IsLinesOutcome label options (input r t) (document title (output u w) label.first (output a b)) (Err (record { number = n; stop = stop }))
page_not_written label options every n r s t title p waiting page u v w a b stop h k sound read (inl (is, failed, written)) =
    rw is (record {
      writes = inl (BreaksAt-next label options every n r s t (so_far_place title p waiting u v a b label.first)
          (document title (output u w) label.first (output a b)) (page_alone title page) h k
          (pages_break title p waiting page u v w a b label.first written));
      read = grind (arith, read);
      write = grind (arith, failed);
    })
page_not_written label options every n r s t title p waiting page u v w a b stop h k sound read (inr (same, inl is)) =
    rw (is, same) (memory_out label options every n r s t title p waiting u v a b h sound read)
page_not_written label options every n r s t title p waiting page u v w a b stop h k sound read (inr (same, inr (is, full))) =
    rw (is, same) (record {
      writes = fills_at label options every n r s t title p waiting page u v a b full h k;
      read = grind (arith, read);
      write = grind (arith, sound);
    })

-- there is no label of the next line
pub no_label : (label : Label) (options : DrawOptions) (every : Bool) (n : ℕ) (r s t : SourceState) (title : Option (List ℕ)) (p : PdfWritten)
    (waiting : List ℕ) (u v a b : SinkState) (stop : Stop) →
    DrawsBefore label options every n r.left s.left (so_far_place title p waiting u v a b label.first) →
    StopsNext label s.left t.left stop → (stop ≡ Fault Read ↔ IsTrue t.failed) → v.failed ≡ false →
    IsLinesOutcome label options (input r t) (document title (output u v) label.first (output a b)) (Err (record { number = n; stop = stop }))
no_label label options every n r s t title p waiting u v a b stop h k failure sound = record {
  writes = writes_until label options every n r s t (document title (output u v) label.first (output a b)) stop
      (DrawsBefore-there label options every n r.left s.left (so_far_place title p waiting u v a b label.first)
      (document title (output u v) label.first (output a b)) h (pages_so_far title p waiting u v a b label.first)) k;
  read = grind (arith, failure);
  write = grind (arith, sound, never_write label s.left t.left stop k);
}

-- ---- What came of a line

-- the label of a page's symbol
abbrev pub alone : Label → DrawOptions → PageSymbol → List ℕ
alone label options page = page_alone (option_copied options.title) (page_shown label options page)

pub is_drawn : (label : Label) (options : DrawOptions) (made : Result PageSymbol Stop) → is_ok (made_as (alone label options) made) ≡ is_ok made
is_drawn label options (Ok page) = refl
is_drawn label options (Err stop) = refl

pub made_step : (label : Label) (options : DrawOptions) (p q : PdfWritten) (waiting rest : List ℕ) (u v w a b c : SinkState) (m first : ℕ)
    (made : Result PageSymbol Stop) →
    IfOk made (λ page. IsNextPage v w (page_shown label options page) p waiting q rest) → w.failed ≡ false → IfOk made (λ page. c ≡ b) →
    IfErr made (λ stop. (w ≡ v) × ((q ≡ p) × (rest ≡ waiting)) × Reports b c (numbered_line (record { number = m; stop = stop }))) →
    (ds : List Made) → m ≡ length ds + first → so_far (option_copied options.title) p waiting u v a b first ds →
    so_far (option_copied options.title) q rest u w a c first (ds ++ made_as (alone label options) made ∷ [])
made_step label options p q waiting rest u v w a b c m first (Ok page) next sound same out ds is h =
    rw same (pages_step (option_copied options.title) p q waiting rest (page_shown label options page) u v w a b m first
    next.writes sound next.flushed next.next_is next.rest_is ds is h)
made_step label options p q waiting rest u v w a b c m first (Err stop) next sound same out ds is h =
    rw (out.0, out.1.0, out.1.1) (pages_left_out (option_copied options.title) p waiting u v a b c m first stop out.2.silent out.2.said ds is h)

pub made_stops : (label : Label) (options : DrawOptions) (every : Bool) (n : ℕ) (r s t : SourceState) (p : PdfWritten) (waiting : List ℕ)
    (u v w a b c : SinkState) (made : Result PageSymbol Stop) (stop : Stop) →
    DrawsBefore label options every n r.left s.left (so_far_place (option_copied options.title) p waiting u v a b label.first) →
    AreLabels label options s.left t.left (made_as (alone label options) made ∷ []) → v.failed ≡ false → t.failed ≡ false → IsOk made →
    IfOk made (λ page. c ≡ b) → IfOk made (λ page. IsNoPage v w (page_shown label options page) p waiting stop) →
    IsLinesOutcome label options (input r t) (document (option_copied options.title) (output u w) label.first (output a c))
    (Err (record { number = n; stop = stop }))
made_stops label options every n r s t p waiting u v w a b c (Ok page) stop h k sound read ok same why =
    rw same (page_not_written label options every n r s t (option_copied options.title) p waiting (page_shown label options page) u v w a b stop
    h k sound read why)
made_stops label options every n r s t p waiting u v w a b c (Err e) stop h k sound read ok same why = absurd (grind (arith, ok))
