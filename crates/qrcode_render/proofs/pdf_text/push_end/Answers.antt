-- The pieces of the end, one after the other.
use Rattle.std.proofs.Common.{◌≡◌, ◌+◌, ◌/◌, ◌++◌, ◌∙◌, ap, sym, length, flat_map}
use Rattle.qrcode_render.specs.Pdf.{page_tree}
use Rattle.qrcode_render.specs.PdfFile.{pdf_object, pdf_trailer, table_entry, table_head}
use Rattle.qrcode_render.proofs.PdfTextLemmas.{end_pieces, information_at}
use Rattle.qrcode_render.proofs.pdf_text.push_end.Goals as goal

pub returns : goal.returns
returns c =
    let old = c.args.bytes.now.items in
    let offsets = c.args.offsets.now in
    let size = c.args.size in
    let tree = pdf_object 2 (page_tree (length offsets / 2)) in
    let head = table_head (length offsets + 4) in
    let entries = flat_map table_entry offsets in
    let trailer = pdf_trailer (length offsets + 4) (size + length tree) in
    let pieces : c.extend_from_slice-5.new.self.items
    ≡ ((((((old ++ tree) ++ head) ++ table_entry 15) ++ table_entry size) ++ table_entry 60) ++ entries) ++ trailer =
    cc (
      c.in_ok-tree.ensures,
      c.deref.ensures,
      c.in_ok-length.ensures.added,
      c.in_ok-length.ensures.long,
      c.in_ok-head.ensures,
      c.as_bytes.ensures.value,
      c.in_ok-extend_from_slice.ensures.items,
      c.table_entry.ensures,
      c.in_ok-extend_from_slice-2.ensures.items,
      c.table_entry-2.ensures,
      c.in_ok-extend_from_slice-3.ensures.items,
      c.table_entry-3.ensures,
      c.in_ok-extend_from_slice-4.ensures.items,
      c.in_ok-push_entries.ensures,
      c.in_ok-trailer.ensures,
      c.as_bytes-2.ensures.value,
      c.in_ok-extend_from_slice-5.ensures.items,
    ) in
    pieces
    ∙ end_pieces old tree head (table_entry 15) (table_entry size) (table_entry 60) entries trailer
    ∙ ap (λ n. old ++ (tree ++ (head ++ ((table_entry 15 ++ (table_entry size ++ (table_entry n ++ entries))) ++ trailer)))) (sym information_at)
