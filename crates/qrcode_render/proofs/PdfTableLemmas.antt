-- Each entry of the table of a PDF document leads to its object.
use Rattle.std.proofs.Common.{◌≡◌, ℕ, zero, suc, ◌+◌, ◌*◌, ◌<◌, ◌≤◌, ◌≢◌, ◌++◌, List, [], ◌∷◌, length, drop}
use Rattle.std.proofs.Common.{refl, sym, ap, subst, inl, inr, ◌∙◌, arith, append_assoc, drop_at, Option, codes, flat_map}
use Rattle.std.specs.List.{range_with_len}
use Rattle.std.proofs.lemmas.Bool.{cases_lt}
use Rattle.qrcode_render.specs.Pdf.{PdfPage, catalog, information, page_content, page_objects, page_tree, pdf_objects, stream_content}
use Rattle.qrcode_render.specs.PdfFile.{object_head, object_offset, objects_before, objects_text, pdf_file, pdf_header, pdf_object, pdf_trailer, table_entry, table_head}
use Rattle.qrcode_render.specs.PdfPagesWritten.{EntriesFindObjects}
use Rattle.qrcode_render.proofs.PdfLemmas.{Objects, before_here, before_other}

-- the text of objects has the one with this number behind those before it
abbrev Found : (number : ℕ) → Objects → Type 0
Found number objects = (more : List ℕ) × (objects_text objects ≡ objects_text (objects_before number objects) ++ (object_head number ++ more))

first_found : (number : ℕ) (content : List ℕ) (rest : Objects) → Found number ((number, content) ∷ rest)
unfolding pdf_object
first_found number content rest = (
  (content ++ codes "\nendobj\n") ++ objects_text rest,
  append_assoc (object_head number) (content ++ codes "\nendobj\n") (objects_text rest)
      ∙ sym (ap (λ (l : Objects). objects_text l ++ (object_head number ++ ((content ++ codes "\nendobj\n") ++ objects_text rest))) (before_here number content rest)),
)

later_found : (number n : ℕ) (content : List ℕ) (rest : Objects) → n ≢ number → Found number rest → Found number ((n, content) ∷ rest)
later_found number n content rest other w = (
  w.0,
  ap (λ l. pdf_object n content ++ l) w.1
      ∙ sym (append_assoc (pdf_object n content) (objects_text (objects_before number rest)) (object_head number ++ w.0))
      ∙ sym (ap (λ (l : Objects). objects_text l ++ (object_head number ++ w.0)) (before_other number n content rest other)),
)

in_page : (number k : ℕ) (pages : List PdfPage) (rest : Objects) → number ≤ k → k < number + 2 * length pages →
    Found k (page_objects number pages ++ rest)
in_page number k [] rest past below = absurd (omega (arith, past, below))
in_page number k (page ∷ pages) rest past below =
    let a = page_content number page in
    let b = stream_content page.content in
    let left = page_objects (number + 2) pages ++ rest in
    elim (cases_lt number k) [
      | inr first ↦ (
          let e : number ≡ k = omega (arith, past, first) in
          subst (λ (n : ℕ). Found n ((number, a) ∷ (number + 1, b) ∷ left)) e (first_found number a ((number + 1, b) ∷ left)))
      | inl later ↦
          later_found k number a ((number + 1, b) ∷ left) (λ e. omega (arith, e, later)) (
          elim (cases_lt (number + 1) k) [
            | inr second ↦ (
                let e : number + 1 ≡ k = omega (arith, later, second) in
                subst (λ (n : ℕ). Found n ((number + 1, b) ∷ left)) e (first_found (number + 1) b left))
            | inl others ↦
                later_found k (number + 1) b left (λ e. omega (arith, e, others))
                (in_page (number + 2) k pages rest (omega (arith, others)) (omega (arith, below)))
          ])
    ]

tree_found : (number : ℕ) (pages : List PdfPage) (content : List ℕ) → 2 < number → Found 2 (page_objects number pages ++ (2, content) ∷ [])
tree_found number [] content past = first_found 2 content []
tree_found number (page ∷ pages) content past =
    let a = page_content number page in
    let b = stream_content page.content in
    let left = page_objects (number + 2) pages ++ (2, content) ∷ [] in
    later_found 2 number a ((number + 1, b) ∷ left) (λ e. omega (arith, e, past)) (
    later_found 2 (number + 1) b left (λ e. omega (arith, e, past)) (tree_found (number + 2) pages content (omega (arith, past))))

-- the objects behind the information dictionary
abbrev behind : (pages : List PdfPage) → Objects
behind pages = page_objects 4 pages ++ (2, page_tree (length pages)) ∷ []

-- an object behind the first two
behind_found : (title : Option (List ℕ)) (pages : List PdfPage) (number : ℕ) → number ≢ 1 → number ≢ 3 → Found number (behind pages) →
    Found number (pdf_objects title pages)
behind_found title pages number first third w =
    later_found number 1 catalog ((3, information title) ∷ behind pages) (λ e. first (sym e)) (
    later_found number 3 (information title) (behind pages) (λ e. third (sym e)) w)

number_found : (title : Option (List ℕ)) (pages : List PdfPage) (number : ℕ) → 1 ≤ number → number ≤ 2 * length pages + 3 → Found number (pdf_objects title pages)
number_found title pages zero some few = absurd (omega (arith, some))
number_found title pages (suc zero) some few = first_found 1 catalog ((3, information title) ∷ behind pages)
number_found title pages (suc (suc zero)) some few =
    behind_found title pages 2 (λ e. omega (arith, e)) (λ e. omega (arith, e)) (tree_found 4 pages (page_tree (length pages)) (omega arith))
number_found title pages (suc (suc (suc zero))) some few =
    later_found 3 1 catalog ((3, information title) ∷ behind pages) (λ e. omega (arith, e)) (first_found 3 (information title) (behind pages))
number_found title pages (suc (suc (suc (suc k)))) some few =
    behind_found title pages (suc (suc (suc (suc k)))) (λ e. omega (arith, e)) (λ e. omega (arith, e))
    (in_page 4 (suc (suc (suc (suc k)))) pages ((2, page_tree (length pages)) ∷ []) (omega arith) (omega (arith, few)))

pub entries_find_objects : EntriesFindObjects
entries_find_objects title pages number some few =
    let objects = pdf_objects title pages in
    let w = number_found title pages number some few in
    let before = objects_text (objects_before number objects) in
    let after = table_head (length objects + 1)
    ++ (flat_map (λ n. table_entry (object_offset objects n)) (range_with_len 1 (length objects))
    ++ pdf_trailer (length objects + 1) (length (pdf_header ++ objects_text objects))) in
    let split : pdf_file objects ≡ (pdf_header ++ before) ++ (object_head number ++ (w.0 ++ after)) =
    ap (λ l. (pdf_header ++ l) ++ after) w.1 ∙ simp append_assoc in (
      w.0 ++ after,
      ap (drop (object_offset objects number)) split ∙ drop_at (pdf_header ++ before) (object_head number ++ (w.0 ++ after)) (object_offset objects number) refl,
    )
