-- Labels of ZPL II as they are asked for: with their data as they are, or compressed.
use Rattle.std.specs.Prelude.{◌≡◌, ℕ, ◌*◌, Bool, true, false, List, ◌++◌, codes, Option}
use Rattle.grid_pictures.specs.Bitmaps.{row_length}
use Rattle.grid_pictures.specs.Pictures.{Picture}
use Rattle.qrcode_render.specs.Compressed.{Compresses}
use Rattle.qrcode_render.specs.CompressedData.{ArePieces}
use Rattle.qrcode_render.specs.Zpl.{caption_field, field_count, field_of, label_captioned, label_end}
use Rattle.qrcode_render.specs.Zpl.{nth_count, nth_digits, nth_first}

-- Field n with compressed data. A reader finds the digits of its rows in them, and the numbers of
-- bytes are those of these digits.
pub record IsCompressedField (p : Picture) (at : ℕ × ℕ) (n : ℕ) (field : List ℕ) : Type 0 where
  pub content : List ℕ
  pub compressed : Compresses (2 * row_length p) (nth_digits p n) content
  pub is : field ≡ field_of p at (nth_first p n) (nth_count p n) content

-- The label of these fields, one below the other, the text below them, if it is given, and how many
-- copies are printed.
pub record IsCompressedLabel (at : ℕ × ℕ) (caption : Option (List ℕ)) (letters : ℕ)
    (copies : Option ℕ) (p : Picture) (label : List ℕ) : Type 0 where
  pub fields : List ℕ
  pub each : ArePieces (IsCompressedField p at) (field_count p) fields
  pub is : label ≡ codes "^XA\n" ++ (fields ++ (caption_field at caption letters p ++ label_end copies))

-- The label, with data that are compressed or not.
abbrev pub IsLabel : (compressed : Bool) → ℕ × ℕ → (caption : Option (List ℕ)) → (letters : ℕ) →
    Option ℕ → Picture → List ℕ → Type 0
IsLabel false at caption letters copies p label =
    label ≡ label_captioned at caption letters copies p
IsLabel true at caption letters copies p label = IsCompressedLabel at caption letters copies p label
