-- Labels that are pages of a document.
use Rattle.std.proofs.Common.{◌≡◌, ◌≢◌, ◌+◌, ◌<◌, ◌∷◌, ◌++◌, ◌∙◌, ℕ, Bool, Option, List, [], length, take, append-nil, append_assoc}
use Rattle.std.proofs.Common.{true, false, refl, sym, ap, subst, arith}
use Rattle.std.specs.Prelude.{Ok, Err, flat_map}
use Rattle.std.proofs.lemmas.{Grind.flat_map-append, List.map-append}
use Rattle.programs.specs.Devices.{SourceState, SinkState, Writes, input, output}
use Rattle.programs.proofs.DeviceLemmas.{Appends-append, Appends-none}
use Rattle.qrcode_render.proofs.PdfLemmas.{writes_document}
use Rattle.qrcode_render.specs.Pdf.{PdfPage, pdf_document}
use Rattle.qrcode_render.specs.PdfPagesWritten.{PdfWritten, IsWritten, after_page, next_page, next_pages, pdf_end, pdf_start, started}
use Rattle.picture_settings.specs.declared.bounds.TheConstants.{MAX_PDF}
use Rattle.picture_settings.specs.declared.draw_options.DrawOptions.{DrawOptions}
use Rattle.single_label.specs.Pages.{page_alone}
use Rattle.labels.specs.Documents.{ArePages, IsWrittenSoFar, WritesSoFar, WritesPages, WritesLabelPages, WritesSomePages, WritesNoEnd, HasNoRoom}
use Rattle.labels.specs.Documents.{document, document_text, label_in, pages_text}
use Rattle.labels.specs.Lines.{Made, Place, AreLabels, DrawsBefore, FillsAt, left_out, known_place}
use Rattle.labels.proofs.LabelLemmas.{AreLabels-append, said_drawn, said_more, said_none}
use Rattle.labels.specs.{Stops.numbered_line}
use Rattle.label_words.specs.declared.command.Label.{Label}
use Rattle.single_label.specs.declared.stop.Stop.{Stop}

-- ---- Pages one after the other

some_page : (pages : List PdfPage) (page : PdfPage) → (pages ++ page ∷ []) ≢ []
some_page [] page e = grind (arith, e)
some_page (p ∷ pages) page e = grind (arith, e)

text_of : (title : Option (List ℕ)) (pages : List PdfPage) → pages ≢ [] →
    pages_text title pages ≡ pdf_start title ++ next_pages (started title) pages
text_of title [] some = absurd (some refl)
text_of title (page ∷ pages) some = refl

document_of : (title : Option (List ℕ)) (pages : List PdfPage) → pages ≢ [] → document_text title pages ≡ pdf_document title pages
document_of title [] some = absurd (some refl)
document_of title (page ∷ pages) some = refl

starts : (title : Option (List ℕ)) → pdf_start title ≢ []
starts title e = grind (arith, e)

-- nothing was written yet
so_far_none : (title : Option (List ℕ)) → IsWrittenSoFar title [] (started title) (pdf_start title)
so_far_none title = record {
  written = writes_document.start title;
  some = λ none. absurd (starts title none);
  none = λ some. refl;
}

pub so_far_start : (title : Option (List ℕ)) (w : PdfWritten) (waiting : List ℕ) → w ≡ started title → waiting ≡ pdf_start title →
    IsWrittenSoFar title [] w waiting
so_far_start title w waiting state text = rw (state, text) (so_far_none title)

more_written : (title : Option (List ℕ)) (pages : List PdfPage) (page : PdfPage) (w : PdfWritten) (waiting : List ℕ) → IsWrittenSoFar title pages w waiting →
    IsWritten title (pages ++ page ∷ []) (after_page w page) ((pages_text title pages ++ waiting) ++ next_page w page)
more_written title pages page w waiting h = writes_document.page title pages w (pages_text title pages ++ waiting) page h.written

-- what follows the pages with one page more
next_follows : (title : Option (List ℕ)) (pages : List PdfPage) (page : PdfPage) (w : PdfWritten) (waiting : List ℕ) → IsWrittenSoFar title pages w waiting →
    pages_text title (pages ++ page ∷ []) ≡ pages_text title pages ++ (waiting ++ next_page w page)
next_follows title pages page w waiting h =
    text_of title (pages ++ page ∷ []) (some_page pages page) ∙ (sym (more_written title pages page w waiting h).text
    ∙ append_assoc (pages_text title pages) waiting (next_page w page))

so_far_more : (title : Option (List ℕ)) (pages : List PdfPage) (page : PdfPage) (w : PdfWritten) (waiting : List ℕ) → IsWrittenSoFar title pages w waiting →
    IsWrittenSoFar title (pages ++ page ∷ []) (after_page w page) []
so_far_more title pages page w waiting h = record {
  written = record {
    state = (more_written title pages page w waiting h).state;
    text = append-nil (pages_text title (pages ++ page ∷ [])) ∙ text_of title (pages ++ page ∷ []) (some_page pages page);
  };
  some = λ none. some_page pages page;
  none = λ some. absurd (some refl);
}

-- what follows the pages in their document
end_follows : (title : Option (List ℕ)) (pages : List PdfPage) (w : PdfWritten) → IsWrittenSoFar title pages w [] →
    pdf_document title pages ≡ pages_text title pages ++ pdf_end w
end_follows title pages w h =
    sym (writes_document.end title pages w (pages_text title pages ++ []) h.written) ∙ ap (λ text. text ++ pdf_end w) (append-nil (pages_text title pages))

are_more : (title : Option (List ℕ)) (ds : List Made) (pages : List PdfPage) (page : PdfPage) → ArePages title ds pages →
    ArePages title (ds ++ Ok (page_alone title page) ∷ []) (pages ++ page ∷ [])
are_more title ds pages page h =
    flat_map-append label_in ds (Ok (page_alone title page) ∷ []) ∙ (ap (λ labels. labels ++ page_alone title page ∷ []) h
    ∙ sym (map-append (page_alone title) pages (page ∷ [])))

are_same : (title : Option (List ℕ)) (ds : List Made) (pages : List PdfPage) (stop : Stop) → ArePages title ds pages →
    ArePages title (ds ++ Err stop ∷ []) pages
are_same title ds pages stop h = flat_map-append label_in ds (Err stop ∷ []) ∙ (append-nil (flat_map label_in ds) ∙ h)

-- ---- Lines one after the other

-- what is known while the document is written
abbrev pub so_far : (title : Option (List ℕ)) → PdfWritten → List ℕ → (u v a b : SinkState) → ℕ → List Made → Type 0
so_far title w waiting u v a b first ds = WritesSoFar title w waiting (output u v) ds × Writes (output a b) (left_out first ds)

abbrev pub so_far_place : (title : Option (List ℕ)) → PdfWritten → List ℕ → (u v a b : SinkState) → ℕ → Place
so_far_place title w waiting u v a b first =
    known_place (so_far title w waiting u v a b first) (document title (output u v) first (output a b))

pub pages_none : (title : Option (List ℕ)) (w : PdfWritten) (waiting : List ℕ) (u e : SinkState) (first : ℕ) → IsWrittenSoFar title [] w waiting →
    so_far title w waiting u u e e first []
pages_none title w waiting u e first h = (
  record { pages = []; are_pages = refl; appends = Appends-none u.written; flushed = λ some. absurd (some refl); so_far = h },
  said_none e first,
)

-- a page more was written
pub pages_step : (title : Option (List ℕ)) (p q : PdfWritten) (waiting rest : List ℕ) (page : PdfPage) (u v w a b : SinkState) (m first : ℕ) →
    Writes (output v w) (waiting ++ next_page p page) → w.failed ≡ false → w.flushed ≡ w.written → q ≡ after_page p page → rest ≡ [] →
    (ds : List Made) → m ≡ length ds + first → so_far title p waiting u v a b first ds →
    so_far title q rest u w a b first (ds ++ Ok (page_alone title page) ∷ [])
pages_step title p q waiting rest page u v w a b m first written sound flushed after none ds is h =
    let k = h.0 in (
      rw (after, none) (record {
        pages = k.pages ++ page ∷ [];
        are_pages = are_more title ds k.pages page k.are_pages;
        appends = rw (next_follows title k.pages page p waiting k.so_far)
            (Appends-append u.written v.written w.written (pages_text title k.pages) (waiting ++ next_page p page) k.appends (written.whole sound));
        flushed = λ some. flushed;
        so_far = so_far_more title k.pages page p waiting k.so_far;
      }),
      said_drawn a b first ds (page_alone title page) h.1,
    )

-- a line is left out
pub pages_left_out : (title : Option (List ℕ)) (p : PdfWritten) (waiting : List ℕ) (u v a b c : SinkState) (m first : ℕ) (stop : Stop) →
    (b.failed ≡ true → c ≡ b) → (b.failed ≡ false → Writes (output b c) (numbered_line (record { number = m; stop = stop }))) →
    (ds : List Made) → m ≡ length ds + first → so_far title p waiting u v a b first ds →
    so_far title p waiting u v a c first (ds ++ Err stop ∷ [])
pages_left_out title p waiting u v a b c m first stop silent said ds is h =
    let k = h.0 in (
      record { pages = k.pages; are_pages = are_same title ds k.pages stop k.are_pages; appends = k.appends; flushed = k.flushed; so_far = k.so_far },
      said_more a b c m first ds stop is h.1 silent said,
    )

-- writing stopped in a page
pub pages_break : (title : Option (List ℕ)) (p : PdfWritten) (waiting : List ℕ) (page : PdfPage) (u v w a b : SinkState) (first : ℕ) →
    Writes (output v w) (waiting ++ next_page p page) →
    (ds : List Made) → so_far title p waiting u v a b first ds →
    WritesSomePages title (output u w) ds (page_alone title page) × Writes (output a b) (left_out first ds)
pages_break title p waiting page u v w a b first written ds h =
    let k = h.0 in (
      record {
        pages = k.pages;
        page = page;
        are_pages = k.are_pages;
        next_is = refl;
        part = record {
          rest = waiting ++ next_page p page;
          follows = next_follows title k.pages page p waiting k.so_far;
          count = written.beginning.count;
          appends = Appends-append u.written v.written w.written (pages_text title k.pages) (take written.beginning.count (waiting ++ next_page p page))
              k.appends written.beginning.appends;
        };
      },
      h.1,
    )

-- there is no room for a page
pages_full : (title : Option (List ℕ)) (p : PdfWritten) (waiting : List ℕ) (page : PdfPage) (u v a b : SinkState) (first : ℕ) →
    MAX_PDF < (after_page p page).size →
    (ds : List Made) → so_far title p waiting u v a b first ds →
    HasNoRoom title (output u v) ds (page_alone title page) × Writes (output a b) (left_out first ds)
pages_full title p waiting page u v a b first full ds h =
    let k = h.0 in (
      record {
        pages = k.pages;
        page = page;
        are_pages = k.are_pages;
        next_is = refl;
        appends = k.appends;
        full = subst (λ (x : PdfWritten). MAX_PDF < x.size) (more_written title k.pages page p waiting k.so_far).state full;
      },
      h.1,
    )

pub fills_at : (label : Label) (options : DrawOptions) (every : Bool) (n : ℕ) (r s t : SourceState) (title : Option (List ℕ)) (p : PdfWritten)
    (waiting : List ℕ) (page : PdfPage) (u v a b : SinkState) → MAX_PDF < (after_page p page).size →
    DrawsBefore label options every n r.left s.left (so_far_place title p waiting u v a b label.first) →
    AreLabels label options s.left t.left (Ok (page_alone title page) ∷ []) →
    FillsAt label options n (input r t) (document title (output u v) label.first (output a b))
fills_at label options every n r s t title p waiting page u v a b full h k = record {
  results = h.results;
  next = page_alone title page;
  labels = AreLabels-append label options r.left s.left t.left h.results (Ok (page_alone title page) ∷ []) h.labels k;
  counted = h.counted;
  full = pages_full title p waiting page u v a b label.first full h.results h.written;
}

pub pages_so_far : (title : Option (List ℕ)) (p : PdfWritten) (waiting : List ℕ) (u v a b : SinkState) (first : ℕ) (ds : List Made) →
    so_far title p waiting u v a b first ds → WritesPages title (output u v) ds × Writes (output a b) (left_out first ds)
pages_so_far title p waiting u v a b first ds h =
    let k = h.0 in (record { pages = k.pages; are_pages = k.are_pages; appends = k.appends; flushed = k.flushed }, h.1)

-- ---- The end

-- there is no page
pub ends_empty : (title : Option (List ℕ)) (p : PdfWritten) (waiting : List ℕ) (u v a b : SinkState) (first : ℕ) → waiting ≢ [] →
    (ds : List Made) → so_far title p waiting u v a b first ds → WritesLabelPages title (output u v) ds × Writes (output a b) (left_out first ds)
ends_empty title p waiting u v a b first some ds h =
    let k = h.0 in
    let none = k.so_far.none some in
    (record { pages = []; are_pages = rw none at k.are_pages; appends = rw none at k.appends; flushed = λ other. absurd (other refl) }, h.1)

-- the end was written
pub ends_written : (title : Option (List ℕ)) (p : PdfWritten) (waiting : List ℕ) (u v w a b : SinkState) (first : ℕ) → waiting ≡ [] →
    Writes (output v w) (pdf_end p) → w.failed ≡ false → w.flushed ≡ w.written →
    (ds : List Made) → so_far title p waiting u v a b first ds → WritesLabelPages title (output u w) ds × Writes (output a b) (left_out first ds)
ends_written title p waiting u v w a b first none written sound flushed ds h =
    let k = h.0 in
    let some = k.so_far.some none in (
      record {
        pages = k.pages;
        are_pages = k.are_pages;
        appends = rw (document_of title k.pages some ∙ end_follows title k.pages p (rw none at k.so_far))
            (Appends-append u.written v.written w.written (pages_text title k.pages) (pdf_end p) k.appends (written.whole sound));
        flushed = λ other. flushed;
      },
      h.1,
    )

-- writing stopped in it
pub ends_torn : (title : Option (List ℕ)) (p : PdfWritten) (waiting : List ℕ) (u v w a b : SinkState) (first : ℕ) → waiting ≡ [] →
    Writes (output v w) (pdf_end p) →
    (ds : List Made) → so_far title p waiting u v a b first ds → WritesNoEnd title (output u w) ds × Writes (output a b) (left_out first ds)
ends_torn title p waiting u v w a b first none written ds h =
    let k = h.0 in (
      record {
        pages = k.pages;
        are_pages = k.are_pages;
        some = k.so_far.some none;
        part = record {
          rest = pdf_end p;
          follows = end_follows title k.pages p (rw none at k.so_far);
          count = written.beginning.count;
          appends = Appends-append u.written v.written w.written (pages_text title k.pages) (take written.beginning.count (pdf_end p))
              k.appends written.beginning.appends;
        };
      },
      h.1,
    )
