-- The bytes of a row of modules, and those of the picture.
use Rattle.std.proofs.Common.{◌≡◌, ℕ, ◌*◌, ◌/◌, refl, ap, ◌∙◌}
use Rattle.std.proofs.Common.{List, [], ◌∷◌, map}
use Rattle.std.specs.List.{range_with_len}
use Rattle.grid_pictures.specs.Bitmaps.{bits_number, pixel_byte}
use Rattle.grid_pictures.specs.Pictures.{Picture, is_dark_module}
use Rattle.grid_pictures.specs.Rows.{is_dark_at}
use Rattle.grid_pictures.specs.declared.picture.Row.{Row}

-- equal functions over a list
pub map_same : {A B : Type 0} (f g : A → B) (xs : List A) → ((x : A) → f x ≡ g x) → map f xs ≡ map g xs
map_same f g [] same = refl
map_same f g (x ∷ xs) same = ap (λ y. y ∷ map f xs) (same x) ∙ ap (λ l. g x ∷ l) (map_same f g xs same)

-- a byte of a row of modules is one of the picture
pub picture_byte : (p : Picture) (row : Row) (y place scale : ℕ) → scale ≡ p.scale →
    ((column : ℕ) → is_dark_at row column ≡ is_dark_module p column (y / scale)) →
    bits_number (map (λ x. is_dark_at row (x / scale)) (range_with_len (8 * place) 8)) ≡ pixel_byte p y place
unfolding pixel_byte
picture_byte p row y place scale is dark =
    ap bits_number (map_same _ _ (range_with_len (8 * place) 8) (λ (x : ℕ). dark (x / scale) ∙ ap (λ (s : ℕ). is_dark_module p (x / s) (y / s)) is))
