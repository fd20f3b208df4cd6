-- A document with a page for each label.
use Rattle.std.specs.Prelude.{◌≡◌, ◌≢◌, ◌⊎◌, IsTrue, ℕ, ◌<◌, List, [], ◌∷◌, ◌++◌, take, map, flat_map, Option, Ok, Err}
use Rattle.std.specs.Io.KnownBytes.{Appends}
use Rattle.programs.specs.Devices.{Output, SinkState, Writes, output}
use Rattle.qrcode_render.specs.Pdf.{PdfPage, pdf_document}
use Rattle.qrcode_render.specs.PdfPagesWritten.{PdfWritten, IsWritten, after_page, after_pages}
use Rattle.qrcode_render.specs.PdfPagesWritten.{next_page, next_pages, pdf_start, started}
use Rattle.picture_settings.specs.declared.bounds.TheConstants.{MAX_PDF}
use Rattle.labels.specs.Lines.{Made, Place, left_out}
use Rattle.programs.specs.declared.Fault.TheVariants.{Symbol, Write}
use Rattle.qrcode_core.specs.declared.types.errors.QrError.TheVariants.{OutOfMemory}
use Rattle.single_label.specs.Pages.{page_alone}
use Rattle.single_label.specs.declared.stop.Stop.{Stop}
use Rattle.single_label.specs.declared.stop.Stop.TheVariants.{Fault, TooManyPages}

-- The label that came of a line, if there is one.
abbrev pub label_in : Made → List (List ℕ)
label_in (Ok drawing) = drawing ∷ []
label_in (Err stop) = []

-- The pages are those of the labels, in their order: each label is the document of its page alone.
abbrev pub ArePages : (title : Option (List ℕ)) → List Made → List PdfPage → Type 0
ArePages title results pages = flat_map label_in results ≡ map (page_alone title) pages

-- A document up to the end of its last page. Nothing is written before there is a page.
abbrev pub pages_text : (title : Option (List ℕ)) → List PdfPage → List ℕ
pages_text title [] = []
pages_text title (page ∷ pages) = pdf_start title ++ next_pages (started title) (page ∷ pages)

-- The document of some pages. There is none without a page.
abbrev pub document_text : (title : Option (List ℕ)) → List PdfPage → List ℕ
document_text title [] = []
document_text title (page ∷ pages) = pdf_document title (page ∷ pages)

-- The pages of the labels were written one after the other, and flushed.
pub record WritesPages (title : Option (List ℕ)) (output : Output) (results : List Made) : Type 0 where
  pub pages : List PdfPage
  pub are_pages : ArePages title results pages
  pub appends : Appends output.before output.after (pages_text title pages)
  pub flushed : pages ≢ [] → output.flushed ≡ output.after

-- The whole document of the labels was written, and flushed.
pub record WritesLabelPages (title : Option (List ℕ)) (output : Output) (results : List Made) : Type 0 where
  pub pages : List PdfPage
  pub are_pages : ArePages title results pages
  pub appends : Appends output.before output.after (document_text title pages)
  pub flushed : pages ≢ [] → output.flushed ≡ output.after

-- The pages were written, and a beginning of what follows them in a longer text.
pub record WritesPart (title : Option (List ℕ)) (output : Output) (pages : List PdfPage) (longer : List ℕ) :
    Type 0 where
  pub rest : List ℕ
  pub follows : longer ≡ pages_text title pages ++ rest
  pub count : ℕ
  pub appends : Appends output.before output.after (pages_text title pages ++ take count rest)

-- The pages of the labels were written, and a beginning of the next label's.
pub record WritesSomePages (title : Option (List ℕ)) (output : Output) (results : List Made)
    (next : List ℕ) : Type 0 where
  pub pages : List PdfPage
  pub page : PdfPage
  pub are_pages : ArePages title results pages
  pub next_is : next ≡ page_alone title page
  pub part : WritesPart title output pages (pages_text title (pages ++ page ∷ []))

-- The pages of the labels were written, and a beginning of what comes after the last.
pub record WritesNoEnd (title : Option (List ℕ)) (output : Output) (results : List Made) : Type 0 where
  pub pages : List PdfPage
  pub are_pages : ArePages title results pages
  pub some : pages ≢ []
  pub part : WritesPart title output pages (pdf_document title pages)

-- The pages of the labels were written, and there is no room for the next label's.
pub record HasNoRoom (title : Option (List ℕ)) (output : Output) (results : List Made) (next : List ℕ) :
    Type 0 where
  pub pages : List PdfPage
  pub page : PdfPage
  pub are_pages : ArePages title results pages
  pub next_is : next ≡ page_alone title page
  pub appends : Appends output.before output.after (pages_text title pages)
  pub full : MAX_PDF < (after_pages (started title) (pages ++ page ∷ [])).size

-- One document for all labels.
abbrev pub document : (title : Option (List ℕ)) → Output → ℕ → Output → Place
document title output first errors = record {
  whole = λ results. WritesPages title output results × Writes errors (left_out first results);
  ended = λ results. WritesLabelPages title output results × Writes errors (left_out first results);
  broken = λ results next. WritesSomePages title output results next × Writes errors (left_out first results);
  full = λ results next. HasNoRoom title output results next × Writes errors (left_out first results);
  torn = λ results. WritesNoEnd title output results × Writes errors (left_out first results);
  failed = output.failed;
  reason = output.reason;
}

-- ---- While it is written

-- These pages of a document were written, and these bytes are to be written before what follows:
-- those before the first page, or none.
pub record IsWrittenSoFar (title : Option (List ℕ)) (pages : List PdfPage) (w : PdfWritten) (waiting : List ℕ) :
    Type 0 where
  pub written : IsWritten title pages w (pages_text title pages ++ waiting)
  pub some : waiting ≡ [] → pages ≢ []
  pub none : waiting ≢ [] → pages ≡ []

-- What `WritesPages` says, and what is known of the document then.
pub record WritesSoFar (title : Option (List ℕ)) (w : PdfWritten) (waiting : List ℕ) (output : Output)
    (results : List Made) : Type 0 where
  pub pages : List PdfPage
  pub are_pages : ArePages title results pages
  pub appends : Appends output.before output.after (pages_text title pages)
  pub flushed : pages ≢ [] → output.flushed ≡ output.after
  pub so_far : IsWrittenSoFar title pages w waiting

-- The next page was written, and what was to be written before it, and flushed.
pub record IsNextPage (before after : SinkState) (page : PdfPage) (w : PdfWritten) (waiting : List ℕ)
    (next : PdfWritten) (rest : List ℕ) : Type 0 where
  pub writes : Writes (output before after) (waiting ++ next_page w page)
  pub flushed : after.flushed ≡ after.written
  pub next_is : next ≡ after_page w page
  pub rest_is : rest ≡ []

-- The next page was not written, or not as a whole, for this reason.
abbrev pub IsNoPage : (before after : SinkState) → PdfPage → PdfWritten → List ℕ → Stop → Type 0
IsNoPage before after page w waiting stop =
    ((stop ≡ Fault Write) × IsTrue after.failed × Writes (output before after) (waiting ++ next_page w page))
    ⊎ ((after ≡ before)
    × ((stop ≡ Fault (Symbol OutOfMemory)) ⊎ ((stop ≡ TooManyPages) × (MAX_PDF < (after_page w page).size))))
