-- A file of objects in the Portable Document Format (ISO 32000-1, 7.5, "File Structure"; this part
-- of it is PDF 1.4).
use Rattle.std.specs.Prelude.{ℕ, ◌+◌, ◌/◌, ◌%◌, ◌==◌, true, false, List, [], ◌∷◌, ◌++◌}
use Rattle.std.specs.Prelude.{length, map, flat_map, codes, decimal}
use Rattle.std.specs.List.{range_with_len}

-- The words with which an object begins (7.3.10, "Indirect Objects").
abbrev pub object_head : (number : ℕ) → List ℕ
object_head number = decimal number ++ codes " 0 obj\n"

-- An object by its number and what it is.
unfoldable pub pdf_object : (number : ℕ) → (content : List ℕ) → List ℕ
pdf_object number content = object_head number ++ (content ++ codes "\nendobj\n")

-- Some objects, each by its number and what it is.
abbrev pub objects_text : List (ℕ × List ℕ) → List ℕ
objects_text objects = flat_map (λ object. pdf_object object.0 object.1) objects

-- The objects before the one that has this number.
abbrev pub objects_before : (number : ℕ) → List (ℕ × List ℕ) → List (ℕ × List ℕ)
objects_before number [] = []
objects_before number (object ∷ more) =
    elim (object.0 == number) [ true ↦ [] | false ↦ object ∷ objects_before number more ]

-- The header. The four bytes of 128 or more in its second line say that the file is binary.
abbrev pub pdf_header : List ℕ
pdf_header = codes "%PDF-1.4\n%" ++ (0xE2 ∷ 0xE3 ∷ 0xCF ∷ 0xD3 ∷ 10 ∷ [])

-- Where an object begins: the number of bytes before it.
abbrev pub object_offset : List (ℕ × List ℕ) → (number : ℕ) → ℕ
object_offset objects number = length (pdf_header ++ objects_text (objects_before number objects))

-- A number below 10^10 in ten digits.
unfoldable pub ten_digits : ℕ → List ℕ
ten_digits n =
    map (λ unit. 48 + n / unit % 10)
    (1000000000 ∷ 100000000 ∷ 10000000 ∷ 1000000 ∷ 100000 ∷ 10000 ∷ 1000 ∷ 100 ∷ 10 ∷ 1 ∷ [])

-- The entry of an object in the table, by where it begins.
unfoldable pub table_entry : (offset : ℕ) → List ℕ
table_entry offset = ten_digits offset ++ codes " 00000 n \n"

-- The head of the table (7.5.4, "Cross-Reference Table"), up to the entry of object 1.
unfoldable pub table_head : (size : ℕ) → List ℕ
table_head size = codes "xref\n0 " ++ (decimal size ++ codes "\n0000000000 65535 f \n")

-- The trailer (7.5.5, "File Trailer"), with where the table begins.
unfoldable pub pdf_trailer : (size start : ℕ) → List ℕ
pdf_trailer size start =
    codes "trailer\n<</Size " ++ (decimal size ++ (codes "/Root 1 0 R/Info 3 0 R>>\nstartxref\n" ++
    (decimal start ++ codes "\n%%EOF\n")))

-- The file of some objects, which have the numbers from 1 on, in any order: the header, the
-- objects, the table with the entry of each, and the trailer.
abbrev pub pdf_file : List (ℕ × List ℕ) → List ℕ
pdf_file objects =
    (pdf_header ++ objects_text objects)
    ++ (table_head (length objects + 1)
    ++ (flat_map (λ number. table_entry (object_offset objects number))
    (range_with_len 1 (length objects))
    ++ pdf_trailer (length objects + 1) (length (pdf_header ++ objects_text objects))))
