-- A picture as a label of ZPL II, for label printers (Zebra, "ZPL II Programming Guide": `^XA`,
-- `^FO`, `^GF`, `^FS`, `^PQ`, `^XZ`). Labels follow each other.
use Rattle.std.specs.Prelude.{◌≡◌, ℕ, zero, suc, true, ◌+◌, ◌-◌, ◌*◌, ◌/◌, ◌%◌, ◌==◌, ◌&&◌, ◌||◌}
use Rattle.std.specs.Prelude.{min, max, nat_lt, nat_le, if◌then◌else◌, length, option_map, get_or}
use Rattle.std.specs.Prelude.{List, [], ◌∷◌, ◌++◌, flat_map, codes, decimal, Option, Some, None}
use Rattle.std.specs.List.{range_with_len, list_all}
use Rattle.picture_settings.specs.declared.bounds.TheConstants.{FIELD_BYTES}
use Rattle.grid_pictures.specs.Pictures.{Picture, pixel_height, pixel_width}
use Rattle.grid_pictures.specs.Bitmaps.{row_length, rows_from}
use Rattle.qrcode_render.specs.Captions.{Block, each_line, laid_out, line_width}

-- A hexadecimal digit.
abbrev pub hex_digit : ℕ → ℕ
hex_digit d = if nat_lt d 10 then 48 + d else 55 + d

-- The two digits of a byte.
abbrev pub hex_pair : ℕ → List ℕ
hex_pair b = hex_digit (b / 16) ∷ hex_digit (b % 16) ∷ []

-- The head of a graphic field, up to its data: the position of its upper left corner in dots, the
-- number of its bytes, twice, and the number of bytes in a row.
unfoldable pub field_head : (x y bytes row : ℕ) → List ℕ
field_head x y bytes row =
    codes "^FO" ++ (decimal x ++ (codes "," ++ (decimal y ++ (codes "^GFA," ++ (decimal bytes ++
    (codes "," ++ (decimal bytes ++ (codes "," ++ (decimal row ++ codes ",")))))))))

-- The digits of `count` rows of the picture, from row `first` on.
abbrev pub row_digits : Picture → (first count : ℕ) → List ℕ
row_digits p first count = flat_map hex_pair (rows_from p first count)

-- The field of these rows with this content. The picture is at this position.
abbrev pub field_of : Picture → (at : ℕ × ℕ) → (first count : ℕ) → (content : List ℕ) → List ℕ
field_of p at first count content =
    field_head at.0 (at.1 + first) (row_length p * count) (row_length p)
    ++ (content ++ codes "^FS\n")

-- The field of these rows with their digits.
unfoldable pub field : Picture → (at : ℕ × ℕ) → (first count : ℕ) → List ℕ
field p at first count = field_of p at first count (row_digits p first count)

-- The number of rows in a field: as many as the printer takes in one.
abbrev pub field_rows : Picture → ℕ
field_rows p = FIELD_BYTES / row_length p

-- The first row of field n.
abbrev pub nth_first : Picture → ℕ → ℕ
nth_first p n = n * field_rows p

-- The number of rows of field n: the next ones, or those that are left.
abbrev pub nth_count : Picture → ℕ → ℕ
nth_count p n = min (pixel_height p - nth_first p n) (field_rows p)

-- The digits of field n.
abbrev pub nth_digits : Picture → ℕ → List ℕ
nth_digits p n = row_digits p (nth_first p n) (nth_count p n)

-- Field n.
abbrev pub nth_field : Picture → ℕ × ℕ → ℕ → List ℕ
nth_field p at n = field p at (nth_first p n) (nth_count p n)

-- The first fields, from the top.
unfoldable pub first_fields : Picture → ℕ × ℕ → ℕ → List ℕ
first_fields p at count = flat_map (nth_field p at) (range_with_len 0 count)

-- The number of fields.
abbrev pub field_count : Picture → ℕ
field_count p = (pixel_height p + (field_rows p - 1)) / field_rows p

-- The command that says how many labels are printed.
abbrev pub copies_command : Option ℕ → List ℕ
copies_command None = []
copies_command (Some copies) = codes "^PQ" ++ (decimal copies ++ codes "\n")

-- The end of a label, after its number of copies.
abbrev pub label_end : Option ℕ → List ℕ
label_end copies = copies_command copies ++ codes "^XZ\n"

-- A byte of a text: as it is, or, where it is a mark of a command or of such an escape, as an
-- underscore and its hexadecimal digits (`^FH`).
abbrev pub field_byte : ℕ → List ℕ
field_byte c =
    if (c == 0x5e) || ((c == 0x7e) || (c == 0x5f)) then 0x5f ∷ hex_pair c else c ∷ []

unfoldable pub field_data : List ℕ → List ℕ
field_data text = flat_map field_byte text

-- The value of a hexadecimal digit.
abbrev pub field_hex_value : ℕ → Option ℕ
field_hex_value c =
    if nat_le 48 c && nat_le c 57 then Some (c - 48)
    else (if nat_le 65 c && nat_le c 70 then Some (c - 55) else None)

-- A byte of two digits, and what follows it.
abbrev pub joined_digits : Option ℕ → Option ℕ → List ℕ → Option (ℕ × List ℕ)
joined_digits (Some a) (Some b) text = Some (16 * a + b, text)
joined_digits _ _ text = None

-- What an escape means, by what follows the underscore, and what follows it.
abbrev pub read_digits : List ℕ → Option (ℕ × List ℕ)
read_digits (a ∷ b ∷ text) = joined_digits (field_hex_value a) (field_hex_value b) text
read_digits _ = None

-- The first byte of a text in a field, and what follows it. A mark of a command ends the field.
abbrev pub read_field_byte : List ℕ → Option (ℕ × List ℕ)
read_field_byte [] = None
read_field_byte (c ∷ text) =
    if c == 0x5f then read_digits text
    else (if (c == 0x5e) || (c == 0x7e) then None else Some (c, text))

-- The bytes of a text in a field, at most n of them.
unfoldable pub read_field_bytes : ℕ → List ℕ → Option (List ℕ)
read_field_bytes _ [] = Some []
read_field_bytes zero (c ∷ text) = None
read_field_bytes (suc n) (c ∷ text) =
    elim (read_field_byte (c ∷ text)) [
      | None ↦ None
      | Some r ↦ option_map (λ found. r.0 ∷ found) (read_field_bytes n r.1)
    ]

-- The bytes that a printer finds in a field of text.
abbrev pub read_field : List ℕ → Option (List ℕ)
read_field text = read_field_bytes (length text) text

-- A law of texts below a picture: a printer finds exactly these bytes.
abbrev pub FieldsAreRead : Type 0
FieldsAreRead = (bytes : List ℕ) → list_all (λ b. nat_lt b 256) bytes ≡ true →
    read_field (field_data bytes) ≡ Some bytes

-- The position of the upper left corner of a field in dots.
unfoldable pub field_place : (x y : ℕ) → List ℕ
field_place x y = codes "^FO" ++ (decimal x ++ (codes "," ++ decimal y))

-- The command for a field block: its width in dots, the greatest number of lines, and their start
-- at the left.
unfoldable pub field_block : (width : ℕ) → List ℕ
field_block width = codes "^FB" ++ (decimal width ++ codes ",9999,0,L")

-- The height and the width of characters in the scalable font of the printer, and what follows up to
-- the text of a field.
unfoldable pub text_font : (height width : ℕ) → List ℕ
text_font height width =
    codes "^A0N," ++ (decimal height ++ (codes "," ++ (decimal width ++ codes "^FH^FD")))

-- A byte of a text in a field block, in which two backslashes are one.
abbrev pub block_byte : ℕ → List ℕ
block_byte c = if c == 92 then 92 ∷ 92 ∷ [] else field_byte c

unfoldable pub block_data : List ℕ → List ℕ
block_data text = flat_map block_byte text

-- What ends the line before line n of a field block.
abbrev pub line_break : ℕ → List ℕ
line_break zero = []
line_break (suc n) = codes "\\&"

-- Line n of a field block.
abbrev pub block_line : ℕ → List ℕ → List ℕ
block_line n line = line_break n ++ block_data line

-- The least height of characters in dots: 2 mm, where it is known how many dots ten inches have.
abbrev pub least_letters : (dpi_tenths : Option ℕ) → ℕ
least_letters None = 0
least_letters (Some dpi_tenths) = (2 * dpi_tenths + 253) / 254

-- The height of characters, at least this, of which a printer draws none with fewer than 10 dots,
-- and the least width.
abbrev pub text_height : (letters : ℕ) → Picture → ℕ
text_height letters p = max (max (3 * p.scale) 10) letters

abbrev pub least_width : Picture → ℕ
least_width p = max (2 * p.scale) 10

-- The text below a picture, with sizes in dots.
abbrev pub zpl_block : (letters : ℕ) → Picture → (text : List ℕ) → Block
zpl_block letters p text =
    laid_out (least_width p) (text_height letters p) (line_width (pixel_width p)) text

-- The command for the font of such a text.
abbrev pub block_font : (letters : ℕ) → Picture → Block → List ℕ
block_font letters p b = text_font (text_height letters p) (max b.size 10)

-- One line in a font is a field, and several are a field block, as wide as the picture.
abbrev pub lines_field : (font : List ℕ) → Picture → Block → List ℕ
lines_field font p b =
    if length b.lines == 1 then font ++ field_data (get_or b.lines 0 []) else
    field_block (pixel_width p) ++ (font ++ each_line block_line b.lines)

-- The field of the text below the picture, if it is given, in characters of at least this height.
abbrev pub caption_field : (at : ℕ × ℕ) → (caption : Option (List ℕ)) → (letters : ℕ) → Picture →
    List ℕ
caption_field at None letters p = []
caption_field at (Some text) letters p =
    let b = zpl_block letters p text in
    field_place at.0 (at.1 + pixel_height p)
    ++ (lines_field (block_font letters p b) p b ++ codes "^FS\n")

-- The label: all fields, one below the other, the text below them, if it is given, and how many
-- copies are printed.
abbrev pub label_captioned : ℕ × ℕ → (caption : Option (List ℕ)) → (letters : ℕ) → Option ℕ →
    Picture → List ℕ
label_captioned at caption letters copies p =
    codes "^XA\n" ++ (first_fields p at (field_count p)
    ++ (caption_field at caption letters p ++ label_end copies))

-- The label: all fields, one below the other, and how many copies are printed.
abbrev pub label_text : ℕ × ℕ → Option ℕ → Picture → List ℕ
label_text at copies p =
    codes "^XA\n" ++ (first_fields p at (field_count p) ++ label_end copies)

-- The label that says nothing of copies.
abbrev pub zpl_text : ℕ × ℕ → Picture → List ℕ
zpl_text at p = label_text at None p
