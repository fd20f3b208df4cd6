-- The rows of a text below a picture, inverted, have its pixels.
use Rattle.std.proofs.Common.{◌≡◌, ℕ, zero, suc, ◌+◌, ◌-◌, ◌*◌, ◌/◌, ◌≤◌, ◌++◌, List, [], ◌∷◌, map, length, take, drop, replicate, refl}
use Rattle.std.proofs.Common.{sym, ◌∙◌, ap, arith}
use Rattle.std.specs.Prelude.{flat_map, max, Option, option_map, chars}
use Rattle.std.specs.Option.{option_copied}
use Rattle.std.specs.List.{range_with_len}
use Rattle.std.proofs.lemmas.List.{drop-append-le, length-append, length-drop, length-map, map-append, nil_from_length, take-append-le}
use Rattle.std.proofs.Math.Nat.{div-mul-le_self}
use Rattle.std.proofs.lemmas.Nat.{mul-le}
use Rattle.std.proofs.Math.Seq.{drop-append_seam, take-append_seam}
use Rattle.png.specs.Png.{pixels_in, stride_of}
use Rattle.png.specs.Pictures.{colours_of, split_rows, repeated_rows, picture_of}
use Rattle.png.specs.declared.image.Image.{Image}
use Rattle.picture_settings.specs.declared.colors.Colors.{Colors}
use Rattle.grid_pictures.specs.Bitmaps.{first_rows, row_length}
use Rattle.grid_pictures.specs.Pictures.{Picture, pixel_height, pixel_width}
use Rattle.grid_pictures.specs.Texts.{Text, font_rows, is_dark_text, repeated, text_byte, text_bytes, text_height, text_row}
use Rattle.grid_pictures.proofs.LetteringLemmas.{row_bytes}
use Rattle.qrcode_render.specs.Captions.{caption_lines}
use Rattle.qrcode_render.specs.PngPixels.{captioned_bytes, letter_size, palette, png_above, text_below, white_letter, white_pixels, white_text}
use Rattle.qrcode_render.proofs.PixelLemmas.{inverse, picture_bytes, picture_found, test_pixels}

-- the pixels of a row of a text
letter_pixels : (t : Text) (row : ℕ) → pixels_in t.width (map inverse (text_row t row)) ≡ map (white_letter t row) (range_with_len 0 t.width)
unfolding text_row text_byte
letter_pixels t row = test_pixels (λ x. is_dark_text t x row) t.width

once : (rows : List (List ℕ)) → flat_map (replicate 1) rows ≡ rows
once [] = refl
once (row ∷ rows) = ap (λ l. row ∷ l) (once rows)

-- rows behind rows
pub split_append : (m n stride : ℕ) (a b : List ℕ) → length a ≡ m * stride → split_rows (m + n) stride (a ++ b) ≡ split_rows m stride a ++ split_rows n stride b
split_append zero n stride a b long =
    let none : length a ≡ 0 = omega (arith, long) in
    let start : 0 + n ≡ n = omega arith in
    ap (λ k. split_rows k stride (a ++ b)) start ∙ ap (λ l. split_rows n stride (l ++ b)) (nil_from_length a none)
split_append (suc m) n stride a b long =
    let more : suc m + n ≡ suc (m + n) = omega arith in
    let size : suc m * stride ≡ stride + m * stride = grind arith in
    let some : stride ≤ length a = omega (arith, long, size) in
    let left : length (drop stride a) ≡ m * stride = omega (arith, length-drop stride a, long, size) in
    ap (λ k. split_rows k stride (a ++ b)) more
    ∙ (ap (λ l. l ∷ split_rows (m + n) stride (drop stride (a ++ b))) (take-append-le stride a b some)
    ∙ ap (λ l. take stride a ∷ l) (ap (split_rows (m + n) stride) (drop-append-le stride a b some) ∙ split_append m n stride (drop stride a) b left))

-- each row once
pub repeated_once : (n stride : ℕ) (bytes : List ℕ) → repeated_rows n stride 1 bytes ≡ split_rows n stride bytes
repeated_once n stride bytes = once (split_rows n stride bytes)

repeated_length : (k : ℕ) (l : List ℕ) → length (repeated k l) ≡ k * length l
repeated_length zero l = omega arith
repeated_length (suc k) l =
    let more : suc k * length l ≡ length l + k * length l = grind arith in
    length-append l (repeated k l) ∙ (ap (λ n. length l + n) (repeated_length k l) ∙ sym more)

-- a row that stands several times
split_again : (k stride : ℕ) (l : List ℕ) → length l ≡ stride → split_rows k stride (repeated k l) ≡ replicate k l
split_again zero stride l long = refl
split_again (suc k) stride l long =
    let first : take stride (l ++ repeated k l) ≡ l = ap (λ n. take n (l ++ repeated k l)) (sym long) ∙ take-append_seam l (repeated k l) in
    let rest : drop stride (l ++ repeated k l) ≡ repeated k l = ap (λ n. drop n (l ++ repeated k l)) (sym long) ∙ drop-append_seam l (repeated k l) in
    ap (λ x. x ∷ split_rows k stride (drop stride (l ++ repeated k l))) first
    ∙ ap (λ x. l ∷ x) (ap (split_rows k stride) rest ∙ split_again k stride l long)

inverted_again : (k : ℕ) (l : List ℕ) → map inverse (repeated k l) ≡ repeated k (map inverse l)
inverted_again zero l = refl
inverted_again (suc k) l = map-append inverse l (repeated k l) ∙ ap (λ x. map inverse l ++ x) (inverted_again k l)

map_again : (g : List ℕ → List ℕ) (k : ℕ) (l : List ℕ) → map g (replicate k l) ≡ replicate k (g l)
map_again g zero l = refl
map_again g (suc k) l = ap (λ x. g l ∷ x) (map_again g k l)

-- the rows of a text, inverted, each as often as it stands in the picture
rows_found : (row : ℕ → List ℕ) (white : List ℕ → List ℕ) (pixels : ℕ → List ℕ) (stride size a n : ℕ) → ((k : ℕ) → length (row k) ≡ stride) →
    ((k : ℕ) → white (map inverse (row k)) ≡ pixels k) →
    map white (split_rows (n * size) stride (map inverse (flat_map (λ k. repeated size (row k)) (range_with_len a n)))) ≡ flat_map (λ k. replicate size (pixels k)) (range_with_len a n)
rows_found row white pixels stride size a zero long is =
    let none : 0 * size ≡ 0 = omega arith in
    ap (λ m. map white (split_rows m stride [])) none
rows_found row white pixels stride size a (suc n) long is =
    let here : List ℕ = map inverse (row a) in
    let more : List ℕ = flat_map (λ k. repeated size (row k)) (range_with_len (a + 1) n) in
    let count : suc n * size ≡ size + n * size = grind arith in
    let wide : length here ≡ stride = length-map (row a) inverse ∙ long a in
    let all : length (repeated size here) ≡ size * stride = repeated_length size here ∙ ap (λ m. size * m) wide in
    ap (λ m. map white (split_rows m stride (map inverse (repeated size (row a) ++ more)))) count
    ∙ (ap (λ l. map white (split_rows (size + n * size) stride l)) (map-append inverse (repeated size (row a)) more ∙ ap (λ l. l ++ map inverse more) (inverted_again size (row a)))
    ∙ (ap (map white) (split_append size (n * size) stride (repeated size here) (map inverse more) all)
    ∙ (map-append white (split_rows size stride (repeated size here)) (split_rows (n * size) stride (map inverse more))
    ∙ (ap (λ l. map white l ++ map white (split_rows (n * size) stride (map inverse more))) (split_again size stride here wide)
    ∙ (ap (λ l. l ++ map white (split_rows (n * size) stride (map inverse more))) (map_again white size here ∙ ap (replicate size) (is a))
    ∙ ap (λ l. replicate size (pixels a) ++ l) (rows_found row white pixels stride size (a + 1) n long is))))))

-- the pixels of a text
pub text_pixels : (t : Text) → map (pixels_in t.width) (split_rows (font_rows t * t.size) ((t.width + 7) / 8) (map inverse (text_bytes t (font_rows t)))) ≡ white_text t
unfolding text_bytes
text_pixels t =
    rows_found (text_row t) (pixels_in t.width) (λ row. map (white_letter t row) (range_with_len 0 t.width)) ((t.width + 7) / 8) t.size 0 (font_rows t)
    (row_bytes t) (letter_pixels t)

-- the pixels of all rows
both_pixels : (p : Picture) (t : Text) → t.width ≡ pixel_width p →
    map (pixels_in (pixel_width p)) (split_rows (pixel_height p + text_height t) (row_length p) (captioned_bytes p t)) ≡ white_pixels p ++ white_text t
unfolding captioned_bytes
both_pixels p t same =
    let above : List ℕ = map inverse (first_rows p (pixel_height p)) in
    let below : List ℕ = map inverse (text_bytes t (font_rows t)) in
    let found : map (pixels_in (pixel_width p)) (split_rows (text_height t) (row_length p) below) ≡ white_text t =
    ap (λ w. map (pixels_in w) (split_rows (text_height t) ((w + 7) / 8) below)) (sym same) ∙ text_pixels t in
    ap (λ l. map (pixels_in (pixel_width p)) (split_rows (pixel_height p + text_height t) (row_length p) l))
    (map-append inverse (first_rows p (pixel_height p)) (text_bytes t (font_rows t)))
    ∙ (ap (map (pixels_in (pixel_width p))) (split_append (pixel_height p) (text_height t) (row_length p) above below (picture_bytes p))
    ∙ (map-append (pixels_in (pixel_width p)) (split_rows (pixel_height p) (row_length p) above) (split_rows (text_height t) (row_length p) below)
    ∙ (ap (λ l. l ++ map (pixels_in (pixel_width p)) (split_rows (text_height t) (row_length p) below)) (picture_found p)
    ∙ ap (λ l. white_pixels p ++ l) found)))

text_length : (t : Text) (a n : ℕ) → length (flat_map (λ row. repeated t.size (text_row t row)) (range_with_len a n)) ≡ (n * t.size) * ((t.width + 7) / 8)
text_length t a zero = let none : (0 * t.size) * ((t.width + 7) / 8) ≡ 0 = grind arith in sym none
text_length t a (suc n) =
    let row : List ℕ = repeated t.size (text_row t a) in
    let wide : length row ≡ t.size * ((t.width + 7) / 8) = repeated_length t.size (text_row t a) ∙ ap (λ m. t.size * m) (row_bytes t a) in
    let more : (suc n * t.size) * ((t.width + 7) / 8) ≡ t.size * ((t.width + 7) / 8) + (n * t.size) * ((t.width + 7) / 8) = grind arith in
    length-append row (flat_map (λ k. repeated t.size (text_row t k)) (range_with_len (a + 1) n))
    ∙ (ap (λ m. m + length (flat_map (λ k. repeated t.size (text_row t k)) (range_with_len (a + 1) n))) wide
    ∙ (ap (λ m. t.size * ((t.width + 7) / 8) + m) (text_length t (a + 1) n) ∙ sym more))

-- so many bytes
pub captioned_length : (p : Picture) (t : Text) → t.width ≡ pixel_width p → length (captioned_bytes p t) ≡ (pixel_height p + text_height t) * row_length p
unfolding captioned_bytes text_bytes
captioned_length p t same =
    let above : List ℕ = map inverse (first_rows p (pixel_height p)) in
    let below : List ℕ = map inverse (text_bytes t (font_rows t)) in
    let long : length below ≡ text_height t * row_length p =
    length-map (text_bytes t (font_rows t)) inverse ∙ (text_length t 0 (font_rows t) ∙ ap (λ w. text_height t * ((w + 7) / 8)) same) in
    let sum : pixel_height p * row_length p + text_height t * row_length p ≡ (pixel_height p + text_height t) * row_length p = grind arith in
    ap length (map-append inverse (first_rows p (pixel_height p)) (text_bytes t (font_rows t)))
    ∙ (length-append above below ∙ (ap (λ m. m + length below) (picture_bytes p) ∙ (ap (λ m. pixel_height p * row_length p + m) long ∙ sum)))

-- the image of these rows has the pixels of the picture and of the text
pub captioned_pixels : (image : Image) (p : Picture) (t : Text) (per_metre : Option ℕ) (title : Option (List ℕ)) (colors : Colors) → image.width ≡ pixel_width p →
    t.width ≡ pixel_width p → image.count ≡ pixel_height p + text_height t → image.repeat ≡ 1 → image.per_metre ≡ per_metre →
    option_map colours_of image.palette ≡ palette colors → option_copied image.title ≡ title → image.rows.now ≡ captioned_bytes p t →
    picture_of image ≡ png_above per_metre title colors p t
captioned_pixels image p t per_metre title colors wide same high once_each dense painted titled are =
    let rows : ℕ = pixel_height p + text_height t in
    let all : rows * 1 ≡ rows = omega arith in
    let found : map (pixels_in (pixel_width p)) (repeated_rows rows (row_length p) 1 image.rows.now) ≡ white_pixels p ++ white_text t =
    ap (λ l. map (pixels_in (pixel_width p)) (repeated_rows rows (row_length p) 1 l)) are
    ∙ (ap (map (pixels_in (pixel_width p))) (repeated_once rows (row_length p) (captioned_bytes p t)) ∙ both_pixels p t same) in
    rw (wide, high, once_each, dense, painted, titled) (
    ap (λ n. record {
      width = pixel_width p;
      height = n;
      pixels = map (pixels_in (pixel_width p)) (repeated_rows rows (row_length p) 1 image.rows.now);
      density = option_map
          (λ n. record { across = n; down = n }) per_metre;
      palette = palette colors;
      title = option_map chars title;
    }) all
    ∙ ap (λ l. record {
      width = pixel_width p;
      height = rows;
      pixels = l;
      density = option_map
          (λ n. record { across = n; down = n }) per_metre;
      palette = palette colors;
      title = option_map chars title;
    }) found)

-- rows of lines that are few enough
pub rows_fit : (lines most above size : ℕ) → above ≤ most → lines ≤ (most - above) / size → above + lines * size ≤ most
rows_fit lines most above size fits few =
    let all : lines * size ≤ (most - above) / size * size = mul-le lines size ((most - above) / size) size few (omega arith) in
    omega (arith, fits, all, div-mul-le_self (most - above) size)

-- their height
text_rows : (lines size : ℕ) → (10 * lines) * size ≡ lines * (10 * size)
text_rows lines size = grind arith

-- the bytes of the image
pub captioned_whole : (p : Picture) (t : Text) (rows : List ℕ) (width high count : ℕ) → rows ≡ captioned_bytes p t → t.width ≡ pixel_width p → width ≡ pixel_width p →
    high ≡ pixel_height p → count ≡ length t.lines → length rows ≡ (high + count * (10 * t.size)) * stride_of width
captioned_whole p t rows width high count are same wide above some =
    ap length are
    ∙ (captioned_length p t same
    ∙ (ap (λ k. (pixel_height p + k) * row_length p) (text_rows (length t.lines) t.size)
    ∙ (ap (λ n. (pixel_height p + n * (10 * t.size)) * row_length p) (sym some)
    ∙ (ap (λ h. (h + count * (10 * t.size)) * row_length p) (sym above) ∙ ap (λ w. (high + count * (10 * t.size)) * stride_of w) (sym wide)))))

pub captioned_high : (p : Picture) (t : Text) (high count : ℕ) → high ≡ pixel_height p → count ≡ length t.lines →
    high + count * (10 * t.size) ≡ pixel_height p + text_height t
captioned_high p t high count above some =
    ap (λ h. h + count * (10 * t.size)) above
    ∙ ap (λ k. pixel_height p + k) (ap (λ n. n * (10 * t.size)) some ∙ sym (text_rows (length t.lines) t.size))

-- the text, by its parts
abbrev pub text_by : (lines : List (List ℕ)) → (width size : ℕ) → Text
text_by lines width size = record { lines = lines; width = width; size = size }

pub text_is : (per_metre : Option ℕ) (p : Picture) (caption : List ℕ) (lines : List (List ℕ)) (width size room : ℕ) → lines ≡ caption_lines room caption →
    room ≡ max (width / (5 * size)) 1 → width ≡ pixel_width p → size ≡ letter_size per_metre p → text_by lines width size ≡ text_below per_metre p caption
text_is per_metre p caption lines width size room are fits wide large =
    let most : room ≡ max (pixel_width p / (5 * letter_size per_metre p)) 1 =
    fits ∙ (ap (λ w. max (w / (5 * size)) 1) wide ∙ ap (λ s. max (pixel_width p / (5 * s)) 1) large) in
    ap (λ l. text_by l width size) (are ∙ ap (λ r. caption_lines r caption) most)
    ∙ (ap (λ w. text_by (text_below per_metre p caption).lines w size) wide ∙ ap (λ s. text_by (text_below per_metre p caption).lines (pixel_width p) s) large)
