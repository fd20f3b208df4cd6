-- A document that is written page by page, and what makes it the document of its pages.
use Rattle.std.specs.Prelude.{◌≡◌, ◌≤◌, ℕ, ◌+◌, ◌*◌, ◌/◌, List, [], ◌∷◌, ◌++◌, length, drop, fold}
use Rattle.std.specs.Prelude.{flat_map, Option}
use Rattle.qrcode_render.specs.Pdf.{PdfPage, catalog, information, page_content, page_tree}
use Rattle.qrcode_render.specs.Pdf.{pdf_document, pdf_objects, stream_content}
use Rattle.qrcode_render.specs.PdfFile.{object_head, object_offset, pdf_header, pdf_object}
use Rattle.qrcode_render.specs.PdfFile.{pdf_trailer, table_entry, table_head}

-- What is written of a document, up to its last page: how many bytes that are, and where each
-- object from 4 on begins.
pub record PdfWritten : Type 0 where
  pub size : ℕ
  pub offsets : List ℕ

-- What comes before the first page.
abbrev pub pdf_start : (title : Option (List ℕ)) → List ℕ
pdf_start title = pdf_header ++ (pdf_object 1 catalog ++ pdf_object 3 (information title))

-- A document without a page yet.
abbrev pub started : (title : Option (List ℕ)) → PdfWritten
started title = record { size = length (pdf_start title); offsets = [] }

-- The object of a page.
abbrev pub page_object : (number : ℕ) → PdfPage → List ℕ
page_object number page = pdf_object number (page_content number page)

-- A page with its content stream.
abbrev pub page_text : (number : ℕ) → PdfPage → List ℕ
page_text number page =
    page_object number page ++ pdf_object (number + 1) (stream_content page.content)

-- The number of the next page's object.
abbrev pub next_number : PdfWritten → ℕ
next_number w = length w.offsets + 4

-- One page more: what is added,
abbrev pub next_page : PdfWritten → PdfPage → List ℕ
next_page w page = page_text (next_number w) page

-- and what is written then.
abbrev pub after_page : PdfWritten → PdfPage → PdfWritten
after_page w page =
    record {
      size = w.size + length (next_page w page);
      offsets = w.offsets
          ++ w.size ∷ (w.size + length (page_object (next_number w) page)) ∷ [];
    }

-- The tree of the pages that are written. Each has two objects.
abbrev pub tree_object : PdfWritten → List ℕ
tree_object w = pdf_object 2 (page_tree (length w.offsets / 2))

-- What comes after the last page: the page tree, the table and the trailer.
abbrev pub pdf_end : PdfWritten → List ℕ
pdf_end w =
    tree_object w
    ++ (table_head (next_number w)
    ++ ((table_entry (length pdf_header) ++ (table_entry w.size
    ++ (table_entry (length (pdf_header ++ pdf_object 1 catalog))
    ++ flat_map table_entry w.offsets)))
    ++ pdf_trailer (next_number w) (w.size + length (tree_object w))))

-- Some pages more: what is added,
unfoldable pub next_pages : PdfWritten → List PdfPage → List ℕ
next_pages w [] = []
next_pages w (page ∷ pages) = next_page w page ++ next_pages (after_page w page) pages

-- and what is written then.
abbrev pub after_pages : PdfWritten → List PdfPage → PdfWritten
after_pages w pages = fold after_page w pages

-- A law of documents: the start, each page and the end, one after the other, are the document of
-- these pages.
abbrev pub PagesMakeDocument : Type 0
PagesMakeDocument = (title : Option (List ℕ)) (pages : List PdfPage) →
    pdf_start title
    ++ (next_pages (started title) pages ++ pdf_end (after_pages (started title) pages))
    ≡ pdf_document title pages

-- What is written of a document that has these pages so far.
pub record IsWritten (title : Option (List ℕ)) (pages : List PdfPage) (w : PdfWritten)
    (bytes : List ℕ) : Type 0 where
  pub state : w ≡ after_pages (started title) pages
  pub text : bytes ≡ pdf_start title ++ next_pages (started title) pages

-- A law of documents that are written: there is no page at the start; each page that is added is
-- the next one; and with the end it is the document of all pages.
pub record WritesDocument : Type 0 where
  pub start : (title : Option (List ℕ)) → IsWritten title [] (started title) (pdf_start title)
  pub page : (title : Option (List ℕ)) (pages : List PdfPage) (w : PdfWritten) (bytes : List ℕ)
      (page : PdfPage) → IsWritten title pages w bytes →
      IsWritten title (pages ++ page ∷ []) (after_page w page) (bytes ++ next_page w page)
  pub end : (title : Option (List ℕ)) (pages : List PdfPage) (w : PdfWritten) (bytes : List ℕ) →
      IsWritten title pages w bytes → bytes ++ pdf_end w ≡ pdf_document title pages

-- A law of the table: the objects of a document have the numbers from 1 on, two for each page
-- and three more; and where the entry of one says that it begins, there are the words with which
-- it does.
abbrev pub EntriesFindObjects : Type 0
EntriesFindObjects = (title : Option (List ℕ)) (pages : List PdfPage) (number : ℕ) →
    1 ≤ number → number ≤ 2 * length pages + 3 →
    (rest : List ℕ)
    × (drop (object_offset (pdf_objects title pages) number) (pdf_document title pages)
    ≡ object_head number ++ rest)
