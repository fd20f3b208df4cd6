-- The pieces of a PDF document that are lists, one element more.
use Rattle.std.proofs.Common.{◌≡◌, ℕ, ◌+◌, ◌-◌, ◌*◌, ◌<◌, ◌++◌, List, [], ◌∷◌, length, length-append, append_assoc, arith, refl, ◌∙◌, ap, append-nil, flat_map, take, get_or, codes, decimal}
use Rattle.std.proofs.lemmas.Grind.{flat_map-append}
use Rattle.std.proofs.lemmas.List.{take_more}
use Rattle.std.specs.Fmt.{digits}
use Rattle.picture_settings.proofs.Ranges.{flat_map_range}
use Rattle.qrcode_render.specs.Pdf.{catalog, hex_unit, page_references, utf16_text, utf16_units}
use Rattle.qrcode_render.specs.PdfFile.{pdf_header, pdf_object, table_entry}

pub characters_none : utf16_text [] ≡ []
unfolding utf16_text
characters_none = refl

-- one character more
pub characters_more : (cs : List ℕ) (c : ℕ) → utf16_text (cs ++ c ∷ []) ≡ utf16_text cs ++ flat_map hex_unit (utf16_units c)
unfolding utf16_text
characters_more cs c =
    flat_map-append (λ c. flat_map hex_unit (utf16_units c)) cs (c ∷ [])
    ∙ ap (λ l. flat_map (λ c. flat_map hex_unit (utf16_units c)) cs ++ l) (append-nil (flat_map hex_unit (utf16_units c)))

-- one entry more
pub entries_more : (offsets : List ℕ) (i : ℕ) → i < length offsets →
    flat_map table_entry (take (i + 1) offsets) ≡ flat_map table_entry (take i offsets) ++ table_entry (get_or offsets i 0)
entries_more offsets i below =
    ap (flat_map table_entry) (take_more offsets i 0 below)
    ∙ flat_map-append table_entry (take i offsets) (get_or offsets i 0 ∷ [])
    ∙ ap (λ l. flat_map table_entry (take i offsets) ++ l) (append-nil (table_entry (get_or offsets i 0)))

pub references_none : page_references 0 ≡ []
unfolding page_references
references_none = refl

-- one reference more
pub references_more : (n : ℕ) → page_references (n + 1) ≡ page_references n ++ (decimal (4 + 2 * n) ++ codes " 0 R ")
unfolding page_references
references_more n = flat_map_range (λ n. decimal (4 + 2 * n) ++ codes " 0 R ") n

-- where the information dictionary begins
pub information_at : length (pdf_header ++ pdf_object 1 catalog) ≡ 60
unfolding pdf_object digits
information_at = refl

-- the pieces of the end
pub end_pieces : (old tree head a b c entries trailer : List ℕ) →
    ((((((old ++ tree) ++ head) ++ a) ++ b) ++ c) ++ entries) ++ trailer ≡ old ++ (tree ++ (head ++ ((a ++ (b ++ (c ++ entries))) ++ trailer)))
end_pieces old tree head a b c entries trailer = simp append_assoc

-- the number of bytes of a piece that was added
pub added_length : (old piece new : List ℕ) → new ≡ old ++ piece → length new - length old ≡ length piece
added_length old piece new is = omega (arith, ap length is, length-append old piece)

pub ruleset characters = (characters_none, characters_more)

pub ruleset references = (references_none, references_more)

pub ruleset entries = (entries_more)
