-- The objects of a PDF document, page by page, and where each of them begins.
use Rattle.std.proofs.Common.{◌≡◌, ℕ, suc, ◌+◌, ◌*◌, ◌/◌, ◌<◌, ◌≤◌, ◌≢◌, ◌++◌, List, [], ◌∷◌, length, map}
use Rattle.std.proofs.Common.{refl, sym, ap, ◌∙◌, arith, append-nil, append_assoc, length-append, Option, flat_map}
use Rattle.std.specs.List.{range_with_len}
use Rattle.std.proofs.lemmas.Bool.{eq-eqb, ne_eqb}
use Rattle.std.proofs.lemmas.Grind.{flat_map-append, fold-append}
use Rattle.std.proofs.lemmas.List.Folds.{flat_map-map}
use Rattle.std.proofs.lemmas.List.FromFn.{length-map-range_with_len}
use Rattle.qrcode_render.specs.Pdf.{PdfPage, catalog, information, page_content, page_objects, page_tree, pdf_document, pdf_objects, stream_content}
use Rattle.qrcode_render.specs.PdfFile.{object_offset, objects_before, objects_text, pdf_file, pdf_header, pdf_object, pdf_trailer, table_entry, table_head}
use Rattle.qrcode_render.specs.PdfPagesWritten.{PdfWritten, after_page, after_pages, next_number, next_page, next_pages, page_object, page_text, pdf_end, pdf_start, started, IsWritten, PagesMakeDocument, WritesDocument}

abbrev pub Objects : Type 0
Objects = List (ℕ × List ℕ)

texts_append : (a b : Objects) → objects_text (a ++ b) ≡ objects_text a ++ objects_text b
texts_append a b = flat_map-append (λ (o : ℕ × List ℕ). pdf_object o.0 o.1) a b

-- ---- The pages by their objects

number_more : (w : PdfWritten) (page : PdfPage) → next_number (after_page w page) ≡ next_number w + 2
number_more w page = omega (arith, length-append w.offsets (w.size ∷ (w.size + length (page_object (next_number w) page)) ∷ []))

pages_text : (w : PdfWritten) (pages : List PdfPage) → next_pages w pages ≡ objects_text (page_objects (next_number w) pages)
unfolding next_pages
pages_text w [] = refl
pages_text w (page ∷ pages) =
    ap (λ l. next_page w page ++ l) (pages_text (after_page w page) pages
    ∙ ap (λ (n : ℕ). objects_text (page_objects n pages)) (number_more w page))
    ∙ append_assoc (page_object (next_number w) page) (pdf_object (next_number w + 1) (stream_content page.content))
    (objects_text (page_objects (next_number w + 2) pages))

pages_size : (w : PdfWritten) (pages : List PdfPage) → (after_pages w pages).size ≡ w.size + length (next_pages w pages)
unfolding next_pages
pages_size w [] = omega arith
pages_size w (page ∷ pages) =
    pages_size (after_page w page) pages ∙ omega (arith, length-append (next_page w page) (next_pages (after_page w page) pages))

-- where the objects of pages begin, the first of which begins here
abbrev offsets_from : (at number : ℕ) → List PdfPage → List ℕ
offsets_from at number [] = []
offsets_from at number (page ∷ pages) =
    at ∷ (at + length (page_object number page)) ∷ offsets_from (at + length (page_text number page)) (number + 2) pages

pages_offsets : (w : PdfWritten) (pages : List PdfPage) → (after_pages w pages).offsets ≡ w.offsets ++ offsets_from w.size (next_number w) pages
pages_offsets w [] = sym (append-nil w.offsets)
pages_offsets w (page ∷ pages) =
    pages_offsets (after_page w page) pages
    ∙ ap (λ (n : ℕ). (after_page w page).offsets ++ offsets_from (after_page w page).size n pages) (number_more w page)
    ∙ append_assoc w.offsets (w.size ∷ (w.size + length (page_object (next_number w) page)) ∷ [])
    (offsets_from (w.size + length (next_page w page)) (next_number w + 2) pages)

-- ---- Where objects begin

-- these objects have no number from this one on
abbrev Below : (number : ℕ) → Objects → Type 0
Below number pre = (k : ℕ) (rest : Objects) → number ≤ k → objects_before k (pre ++ rest) ≡ pre ++ objects_before k rest

-- the objects before one are those before it in the list
pub before_here : (k : ℕ) (content : List ℕ) (rest : Objects) → objects_before k ((k, content) ∷ rest) ≡ []
before_here k content rest = rw (objects_before, eq-eqb k k refl) refl

pub before_other : (k n : ℕ) (content : List ℕ) (rest : Objects) → n ≢ k → objects_before k ((n, content) ∷ rest) ≡ (n, content) ∷ objects_before k rest
before_other k n content rest other = rw (objects_before, ne_eqb n k other) refl

below_more : (number : ℕ) (pre : Objects) (a b : List ℕ) → Below number pre → Below (number + 2) (pre ++ (number, a) ∷ (number + 1, b) ∷ [])
below_more number pre a b below k rest past =
    let two : Objects = (number, a) ∷ (number + 1, b) ∷ [] in
    ap (objects_before k) (append_assoc pre two rest)
    ∙ below k (two ++ rest) (omega (arith, past))
    ∙ ap (λ l. pre ++ l) (before_other k number a ((number + 1, b) ∷ rest) (λ e. omega (arith, e, past))
    ∙ ap (λ l. (number, a) ∷ l) (before_other k (number + 1) b rest (λ e. omega (arith, e, past))))
    ∙ sym (append_assoc pre two (objects_before k rest))

one_text : (pre : Objects) (n : ℕ) (content : List ℕ) → length (objects_text (pre ++ (n, content) ∷ [])) ≡ length (objects_text pre) + length (pdf_object n content)
one_text pre n content =
    ap length (texts_append pre ((n, content) ∷ []) ∙ ap (λ l. objects_text pre ++ l) (append-nil (pdf_object n content)))
    ∙ length-append (objects_text pre) (pdf_object n content)

two_texts : (pre : Objects) (number : ℕ) (page : PdfPage) →
    length (objects_text (pre ++ (number, page_content number page) ∷ (number + 1, stream_content page.content) ∷ []))
    ≡ length (objects_text pre) + length (page_text number page)
two_texts pre number page =
    let stream = pdf_object (number + 1) (stream_content page.content) in
    ap length (texts_append pre ((number, page_content number page) ∷ (number + 1, stream_content page.content) ∷ [])
    ∙ ap (λ l. objects_text pre ++ (page_object number page ++ l)) (append-nil stream))
    ∙ length-append (objects_text pre) (page_text number page)

header_more : (a b : List ℕ) (n : ℕ) → length a ≡ length b + n → length (pdf_header ++ a) ≡ length (pdf_header ++ b) + n
header_more a b n is = omega (arith, is, length-append pdf_header a, length-append pdf_header b)

found_offsets : (number : ℕ) (pre rest : Objects) (pages : List PdfPage) → Below number pre →
    map (object_offset (pre ++ (page_objects number pages ++ rest))) (range_with_len number (2 * length pages))
    ≡ offsets_from (length (pdf_header ++ objects_text pre)) number pages
found_offsets number pre rest [] below = refl
found_offsets number pre rest (page ∷ pages) below =
    let a = page_content number page in
    let b = stream_content page.content in
    let left = page_objects (number + 2) pages ++ rest in
    let all : Objects = pre ++ ((number, a) ∷ (number + 1, b) ∷ left) in
    let at = length (pdf_header ++ objects_text pre) in
    let two : 2 * suc (length pages) ≡ suc (suc (2 * length pages)) = omega arith in
    let first : object_offset all number ≡ at =
    ap (λ (l : Objects). length (pdf_header ++ objects_text l))
    (below number ((number, a) ∷ (number + 1, b) ∷ left) (omega arith)
    ∙ ap (λ l. pre ++ l) (before_here number a ((number + 1, b) ∷ left)) ∙ append-nil pre) in
    let second : object_offset all (number + 1) ≡ at + length (page_object number page) =
    ap (λ (l : Objects). length (pdf_header ++ objects_text l))
    (below (number + 1) ((number, a) ∷ (number + 1, b) ∷ left) (omega arith)
    ∙ ap (λ l. pre ++ l) (before_other (number + 1) number a ((number + 1, b) ∷ left) (λ e. omega (arith, e))
    ∙ ap (λ l. (number, a) ∷ l) (before_here (number + 1) b left)))
    ∙ header_more (objects_text (pre ++ (number, a) ∷ [])) (objects_text pre) _ (one_text pre number a) in
    let next : number + 1 + 1 ≡ number + 2 = omega arith in
    let others : map (object_offset all) (range_with_len (number + 1 + 1) (2 * length pages))
    ≡ offsets_from (at + length (page_text number page)) (number + 2) pages =
    ap (λ (n : ℕ). map (object_offset all) (range_with_len n (2 * length pages))) next
    ∙ ap (λ (l : Objects). map (object_offset l) (range_with_len (number + 2) (2 * length pages)))
    (sym (append_assoc pre ((number, a) ∷ (number + 1, b) ∷ []) left))
    ∙ found_offsets (number + 2) (pre ++ (number, a) ∷ (number + 1, b) ∷ []) rest pages (below_more number pre a b below)
    ∙ ap (λ (n : ℕ). offsets_from n (number + 2) pages)
    (header_more (objects_text (pre ++ (number, a) ∷ (number + 1, b) ∷ [])) (objects_text pre) _ (two_texts pre number page)) in
    ap (λ (n : ℕ). map (object_offset all) (range_with_len number n)) two
    ∙ ap (λ (n : ℕ). n ∷ object_offset all (number + 1) ∷ map (object_offset all) (range_with_len (number + 1 + 1) (2 * length pages))) first
    ∙ ap (λ (n : ℕ). at ∷ n ∷ map (object_offset all) (range_with_len (number + 1 + 1) (2 * length pages))) second
    ∙ ap (λ (l : List ℕ). at ∷ (at + length (page_object number page)) ∷ l) others

pages_long : (number : ℕ) (pages : List PdfPage) → length (page_objects number pages) ≡ 2 * length pages
pages_long number [] = refl
pages_long number (page ∷ pages) = omega (arith, pages_long (number + 2) pages)

-- the page tree is after all pages
before_tree : (number : ℕ) (pages : List PdfPage) (tree : List ℕ) → 2 < number →
    objects_before 2 (page_objects number pages ++ (2, tree) ∷ []) ≡ page_objects number pages
before_tree number [] tree past = refl
before_tree number (page ∷ pages) tree past =
    let a = page_content number page in
    let b = stream_content page.content in
    let left = page_objects (number + 2) pages ++ (2, tree) ∷ [] in
    before_other 2 number a ((number + 1, b) ∷ left) (λ e. omega (arith, e, past))
    ∙ ap (λ l. (number, a) ∷ l) (before_other 2 (number + 1) b left (λ e. omega (arith, e, past))
    ∙ ap (λ l. (number + 1, b) ∷ l) (before_tree (number + 2) pages tree (omega (arith, past))))

-- ---- The document

-- the end of a document, by what it is made of
abbrev end_of : (count number size : ℕ) → (entries : List ℕ) → List ℕ
end_of count number size entries =
    pdf_object 2 (page_tree count)
    ++ (table_head number
    ++ ((table_entry (length pdf_header) ++ (table_entry size
    ++ (table_entry (length (pdf_header ++ pdf_object 1 catalog))
    ++ entries)))
    ++ pdf_trailer number (size + length (pdf_object 2 (page_tree count)))))

module _ (title : Option (List ℕ)) (pages : List PdfPage) where
  abbrev count : ℕ
  count = length pages

  abbrev before : Objects
  before = (1, catalog) ∷ (3, information title) ∷ []

  abbrev inner : Objects
  inner = page_objects 4 pages

  abbrev tree : List ℕ
  tree = page_tree count

  abbrev all : Objects
  all = pdf_objects title pages

  abbrev body : List ℕ
  body = pdf_start title ++ objects_text inner

  before_below : Below 4 before
  before_below k rest past =
      before_other k 1 catalog ((3, information title) ∷ rest) (λ e. omega (arith, e, past))
      ∙ ap (λ l. (1, catalog) ∷ l) (before_other k 3 (information title) rest (λ e. omega (arith, e, past)))

  start_text : pdf_header ++ objects_text before ≡ pdf_start title
  start_text = ap (λ l. pdf_header ++ (pdf_object 1 catalog ++ l)) (append-nil (pdf_object 3 (information title)))

  all_text : pdf_header ++ objects_text all ≡ body ++ pdf_object 2 tree
  all_text =
      let first = pdf_object 1 catalog in
      let third = pdf_object 3 (information title) in
      ap (λ l. pdf_header ++ (first ++ (third ++ l))) (texts_append inner ((2, tree) ∷ [])
      ∙ ap (λ l. objects_text inner ++ l) (append-nil (pdf_object 2 tree)))
      ∙ simp append_assoc

  all_long : length all ≡ suc (suc (suc (2 * count)))
  all_long = omega (arith, length-append inner ((2, tree) ∷ []), pages_long 4 pages)

  found : map (object_offset all) (range_with_len 4 (2 * count)) ≡ offsets_from (length (pdf_start title)) 4 pages
  found = found_offsets 4 before ((2, tree) ∷ []) pages before_below ∙ ap (λ (l : List ℕ). offsets_from (length l) 4 pages) start_text

  tree_offset : object_offset all 2 ≡ length body
  tree_offset =
      let joined : pdf_header ++ objects_text ((1, catalog) ∷ (3, information title) ∷ inner) ≡ body = simp append_assoc in
      ap (λ (l : Objects). length (pdf_header ++ objects_text ((1, catalog) ∷ (3, information title) ∷ l))) (before_tree 4 pages tree (omega arith))
      ∙ ap length joined

  third_offset : object_offset all 3 ≡ length (pdf_header ++ pdf_object 1 catalog)
  third_offset = ap (λ l. length (pdf_header ++ l)) (append-nil (pdf_object 1 catalog))

  entries : flat_map (λ number. table_entry (object_offset all number)) (range_with_len 1 (length all))
      ≡ table_entry (length pdf_header) ++ (table_entry (length body) ++ (table_entry (length (pdf_header ++ pdf_object 1 catalog))
      ++ flat_map table_entry (offsets_from (length (pdf_start title)) 4 pages)))
  entries =
      ap (λ (n : ℕ). flat_map (λ number. table_entry (object_offset all number)) (range_with_len 1 n)) all_long
      ∙ ap (λ (n : ℕ). table_entry (length pdf_header) ++ (table_entry n ++ (table_entry (object_offset all 3)
      ++ flat_map (λ number. table_entry (object_offset all number)) (range_with_len 4 (2 * count))))) tree_offset
      ∙ ap (λ (n : ℕ). table_entry (length pdf_header) ++ (table_entry (length body) ++ (table_entry n
      ++ flat_map (λ number. table_entry (object_offset all number)) (range_with_len 4 (2 * count))))) third_offset
      ∙ ap (λ (l : List ℕ). table_entry (length pdf_header) ++ (table_entry (length body) ++ (table_entry (length (pdf_header ++ pdf_object 1 catalog)) ++ l)))
      (sym (flat_map-map table_entry (object_offset all) (range_with_len 4 (2 * count))) ∙ ap (flat_map table_entry) found)

  file_is : pdf_file all ≡ body ++ end_of count (4 + 2 * count) (length body) (flat_map table_entry (offsets_from (length (pdf_start title)) 4 pages))
  file_is =
      let size : length all + 1 ≡ 4 + 2 * count = omega (arith, all_long) in
      let object = pdf_object 2 tree in
      let found_entries : List ℕ = table_entry (length pdf_header) ++ (table_entry (length body) ++ (table_entry (length (pdf_header ++ pdf_object 1 catalog))
      ++ flat_map table_entry (offsets_from (length (pdf_start title)) 4 pages))) in
      ap (λ (l : List ℕ). l ++ (table_head (length all + 1)
      ++ (flat_map (λ number. table_entry (object_offset all number)) (range_with_len 1 (length all)) ++ pdf_trailer (length all + 1) (length l)))) all_text
      ∙ ap (λ (n : ℕ). (body ++ object) ++ (table_head n
      ++ (flat_map (λ number. table_entry (object_offset all number)) (range_with_len 1 (length all)) ++ pdf_trailer n (length (body ++ object))))) size
      ∙ ap (λ (l : List ℕ). (body ++ object) ++ (table_head (4 + 2 * count) ++ (l ++ pdf_trailer (4 + 2 * count) (length (body ++ object))))) entries
      ∙ ap (λ (n : ℕ). (body ++ object) ++ (table_head (4 + 2 * count) ++ (found_entries ++ pdf_trailer (4 + 2 * count) n))) (length-append body object)
      ∙ append_assoc body object (table_head (4 + 2 * count) ++ (found_entries ++ pdf_trailer (4 + 2 * count) (length body + length object)))

  abbrev last : PdfWritten
  last = after_pages (started title) pages

  last_offsets : last.offsets ≡ offsets_from (length (pdf_start title)) 4 pages
  last_offsets = pages_offsets (started title) pages

  last_long : length last.offsets ≡ 2 * count
  last_long = ap length (last_offsets ∙ sym found) ∙ length-map-range_with_len (object_offset all) 4 (2 * count)

  last_size : last.size ≡ length body
  last_size =
      pages_size (started title) pages
      ∙ ap (λ (l : List ℕ). length (pdf_start title) + length l) (pages_text (started title) pages)
      ∙ sym (length-append (pdf_start title) (objects_text inner))

  end_is : pdf_end last ≡ end_of count (4 + 2 * count) (length body) (flat_map table_entry (offsets_from (length (pdf_start title)) 4 pages))
  end_is =
      let half : length last.offsets / 2 ≡ count = omega (arith, last_long) in
      let number : next_number last ≡ 4 + 2 * count = omega (arith, last_long) in
      ap (λ (n : ℕ). end_of n (next_number last) last.size (flat_map table_entry last.offsets)) half
      ∙ ap (λ (n : ℕ). end_of count n last.size (flat_map table_entry last.offsets)) number
      ∙ ap (λ (n : ℕ). end_of count (4 + 2 * count) n (flat_map table_entry last.offsets)) last_size
      ∙ ap (λ (l : List ℕ). end_of count (4 + 2 * count) (length body) (flat_map table_entry l)) last_offsets

pub pages_make_document : PagesMakeDocument
pages_make_document title pages =
    ap (λ (l : List ℕ). pdf_start title ++ (l ++ pdf_end (last title pages))) (pages_text (started title) pages)
    ∙ ap (λ (l : List ℕ). pdf_start title ++ (objects_text (page_objects 4 pages) ++ l)) (end_is title pages)
    ∙ sym (append_assoc (pdf_start title) (objects_text (page_objects 4 pages)) _)
    ∙ sym (file_is title pages)

-- one page more
next_pages_more : (w : PdfWritten) (pages : List PdfPage) (page : PdfPage) →
    next_pages w (pages ++ page ∷ []) ≡ next_pages w pages ++ next_page (after_pages w pages) page
unfolding next_pages
next_pages_more w [] page = append-nil (next_page w page)
next_pages_more w (first ∷ pages) page =
    ap (λ (l : List ℕ). next_page w first ++ l) (next_pages_more (after_page w first) pages page)
    ∙ sym (append_assoc (next_page w first) (next_pages (after_page w first) pages) (next_page (after_pages (after_page w first) pages) page))

no_pages : (w : PdfWritten) → next_pages w [] ≡ []
unfolding next_pages
no_pages w = refl

page_written : (title : Option (List ℕ)) (pages : List PdfPage) (w : PdfWritten) (bytes : List ℕ) (page : PdfPage) → IsWritten title pages w bytes →
    IsWritten title (pages ++ page ∷ []) (after_page w page) (bytes ++ next_page w page)
page_written title pages w bytes page is =
    let s = started title in
    record {
      state = ap (λ (v : PdfWritten). after_page v page) is.state ∙ sym (fold-append after_page s pages (page ∷ []));
      text = ap (λ (v : PdfWritten). bytes ++ next_page v page) is.state
          ∙ ap (λ (l : List ℕ). l ++ next_page (after_pages s pages) page) is.text
          ∙ append_assoc (pdf_start title) (next_pages s pages) (next_page (after_pages s pages) page)
          ∙ ap (λ (l : List ℕ). pdf_start title ++ l) (sym (next_pages_more s pages page));
    }

end_written : (title : Option (List ℕ)) (pages : List PdfPage) (w : PdfWritten) (bytes : List ℕ) → IsWritten title pages w bytes →
    bytes ++ pdf_end w ≡ pdf_document title pages
end_written title pages w bytes is =
    let s = started title in
    ap (λ (v : PdfWritten). bytes ++ pdf_end v) is.state
    ∙ ap (λ (l : List ℕ). l ++ pdf_end (after_pages s pages)) is.text
    ∙ append_assoc (pdf_start title) (next_pages s pages) (pdf_end (after_pages s pages))
    ∙ pages_make_document title pages

pub writes_document : WritesDocument
writes_document = record {
  start = λ title. record {
    state = refl;
    text = sym (append-nil (pdf_start title)) ∙ ap (λ (l : List ℕ). pdf_start title ++ l) (sym (no_pages (started title)));
  };
  page = page_written;
  end = end_written;
}

-- a document of one page
pub one_page : (title : Option (List ℕ)) (page : PdfPage) (size a b : ℕ) → size ≡ length (pdf_start title ++ page_text 4 page) →
    a ≡ length (pdf_start title) → b ≡ a + length (page_object 4 page) →
    (pdf_start title ++ page_text 4 page) ++ pdf_end (record { size = size; offsets = a ∷ b ∷ [] }) ≡ pdf_document title (page ∷ [])
unfolding next_pages
one_page title page size a b long first second =
    let w : PdfWritten = record { size = size; offsets = a ∷ b ∷ [] } in
    let same : w ≡ after_page (started title) page =
    rw (long, second, first, length-append (pdf_start title) (page_text 4 page)) refl in
    ap (λ (w : PdfWritten). (pdf_start title ++ page_text 4 page) ++ pdf_end w) same
    ∙ append_assoc (pdf_start title) (page_text 4 page) (pdf_end (after_page (started title) page))
    ∙ ap (λ (l : List ℕ). pdf_start title ++ (l ++ pdf_end (after_page (started title) page))) (sym (append-nil (page_text 4 page)))
    ∙ pages_make_document title (page ∷ [])
