-- Rectangles as bytes in a line, which are UTF-8.
use Rattle.std.proofs.Common.{◌≡◌, ℕ, zero, suc, ◌+◌, ◌/◌, ◌^◌, ◌<◌, ◌≤◌, ◌++◌, Bool, true, false, List, [], ◌∷◌, length, get_or, set, take, map, refl, sym}
use Rattle.std.proofs.Common.{ap, subst, ◌∙◌, arith, append_assoc, length-set, length-take-le, take-take, zero-add, lit<}
use Rattle.std.specs.Prelude.{decimal, if◌then◌else◌}
use Rattle.std.specs.Str.{IsUtf8}
use Rattle.std.specs.List.{range_with_len}
use Rattle.std.specs.Fmt.{digits}
use Rattle.std.proofs.lemmas.List.{take_more_set, get_or-map}
use Rattle.std.proofs.lemmas.List.FromFn.{get_or-map-range_with_len}
use Rattle.std.proofs.lemmas.Fmt.{IsAscii-decimal, length-decimal-le}
use Rattle.std.proofs.lemmas.Str.{IsUtf8-append, IsUtf8-from_ascii, IsUtf8-nil}
use Rattle.std.proofs.lemmas.Str.Ascii.{IsAscii-cons, IsAscii-nil}
use Rattle.grid_pictures.specs.declared.numbers.TheConstants.{NUMBERS}
use Rattle.grid_pictures.specs.declared.pen.Pen.{Pen}
use Rattle.grid_pictures.specs.declared.pen.Pen.TheVariants.{Svg, Eps, Pdf}
use Rattle.grid_pictures.specs.Numbers.{word_text}
use Rattle.grid_pictures.specs.Pens.{eps_rectangle, pdf_rectangle, rectangle_by}
use Rattle.grid_pictures.specs.{Paths.begins_run, Paths.dark_run_length, Pens.rectangle, Paths.row_path, Paths.run_at}
use Rattle.grid_pictures.specs.Pictures.{Picture, columns_of}
use Rattle.grid_pictures.proofs.PathLemmas.{row_path_more, run_room}

-- what stands behind a whole list
behind : (xs ys : List ℕ) (k : ℕ) → take (length xs + k) (xs ++ ys) ≡ xs ++ take k ys
behind [] ys k = ap (λ n. take n ys) (zero-add k)
behind (x ∷ xs) ys k =
    let e : suc (length xs) + k ≡ suc (length xs + k) = omega arith in
    ap (λ n. take n (x ∷ (xs ++ ys))) e ∙ ap (λ l. x ∷ l) (behind xs ys k)

one_more : (line : List ℕ) (at next a : ℕ) → next ≡ at + 1 → at < length line → take next (set line at a) ≡ take at line ++ a ∷ []
one_more line at next a e inside = ap (λ n. take n (set line at a)) e ∙ take_more_set line at a inside

four_in_all : (l : List ℕ) (a b c d : ℕ) → (((l ++ a ∷ []) ++ b ∷ []) ++ c ∷ []) ++ d ∷ [] ≡ l ++ a ∷ b ∷ c ∷ d ∷ []
four_in_all l a b c d = simp append_assoc

-- the first of four bytes that are written
pub four_written : (line : List ℕ) (s a b c d k : ℕ) → s + 4 ≤ length line → k ≤ 4 →
    take (s + k) (set (set (set (set line s a) (s + 1) b) (s + 2) c) (s + 3) d) ≡ take s line ++ take k (a ∷ b ∷ c ∷ d ∷ [])
four_written line s a b c d k room few =
    let l1 = set line s a in
    let l2 = set l1 (s + 1) b in
    let l3 = set l2 (s + 2) c in
    let n1 = length-set line s a in
    let n2 = length-set l1 (s + 1) b in
    let n3 = length-set l2 (s + 2) c in
    let all : take (s + 4) (set l3 (s + 3) d) ≡ take s line ++ a ∷ b ∷ c ∷ d ∷ [] =
    one_more l3 (s + 3) (s + 4) d (omega arith) (omega (arith, room, n1, n2, n3))
    ∙ ap (λ l. l ++ d ∷ []) (one_more l2 (s + 2) (s + 3) c (omega arith) (omega (arith, room, n1, n2))
    ∙ ap (λ l. l ++ c ∷ []) (one_more l1 (s + 1) (s + 2) b (omega arith) (omega (arith, room, n1))
    ∙ ap (λ l. l ++ b ∷ []) (one_more line s (s + 1) a refl (omega (arith, room)))))
    ∙ four_in_all (take s line) a b c d in
    let front : s + k ≡ length (take s line) + k = omega (arith, length-take-le s line (omega (arith, room))) in
    sym (take-take (s + k) (s + 4) (set l3 (s + 3) d) (omega (arith, few)))
    ∙ ap (take (s + k)) all
    ∙ ap (λ n. take n (take s line ++ a ∷ b ∷ c ∷ d ∷ [])) front
    ∙ behind (take s line) (a ∷ b ∷ c ∷ d ∷ []) k

-- the table, computed
numbers_are : map word_text NUMBERS ≡ map decimal (range_with_len 0 210)
unfolding digits
numbers_are = refl

counts_are : map (λ w. w / 16777216) NUMBERS ≡ map (λ n. length (decimal n)) (range_with_len 0 210)
unfolding digits
counts_are = refl

pub number_text : (n : ℕ) → n < 210 → word_text (get_or NUMBERS n 0) ≡ decimal n
number_text n small =
    sym (get_or-map word_text NUMBERS n 0 [] small)
    ∙ ap (λ l. get_or l n []) numbers_are
    ∙ get_or-map-range_with_len decimal 0 210 n n [] small (omega arith)

-- no number has more than three digits
pub number_count : (n : ℕ) → n < 210 → get_or NUMBERS n 0 / 16777216 ≤ 3
number_count n small =
    let count : get_or NUMBERS n 0 / 16777216 ≡ length (decimal n) =
    sym (get_or-map (λ w. w / 16777216) NUMBERS n 0 0 small)
    ∙ ap (λ l. get_or l n 0) counts_are
    ∙ get_or-map-range_with_len (λ m. length (decimal m)) 0 210 n n 0 small (omega arith) in
    omega (arith, count, length-decimal-le 3 n (omega arith) (omega (arith, small)) (omega (arith, small)))

pub ruleset numbers = (number_text, number_count)

-- ---- The bytes are text

decimal_utf8 : (n : ℕ) → n < 2 ^ 64 → IsUtf8 (decimal n)
decimal_utf8 n small = IsUtf8-from_ascii (decimal n) (IsAscii-decimal n small)

-- a text with a byte of ASCII before it
behind_utf8 : (byte : ℕ) (text : List ℕ) → byte < 128 → IsUtf8 text → IsUtf8 (byte ∷ text)
behind_utf8 byte text small rest =
    IsUtf8-append (byte ∷ []) text (IsUtf8-from_ascii (byte ∷ []) (IsAscii-cons byte [] small IsAscii-nil)) rest

number_behind_utf8 : (n : ℕ) (text : List ℕ) → n < 2 ^ 64 → IsUtf8 text → IsUtf8 (decimal n ++ text)
number_behind_utf8 n text small rest = IsUtf8-append (decimal n) text (decimal_utf8 n small) rest

rectangle_utf8 : (pen : Pen) (x y n : ℕ) → x < 2 ^ 64 → y < 2 ^ 64 → n < 2 ^ 64 → IsUtf8 (rectangle_by pen x y n)
unfolding rectangle eps_rectangle pdf_rectangle
rectangle_utf8 Svg x y n column row long =
    behind_utf8 77 _ (lit< tt) (number_behind_utf8 x _ column
    (behind_utf8 32 _ (lit< tt) (number_behind_utf8 y _ row (behind_utf8 104 _ (lit< tt) (decimal_utf8 n long)))))
rectangle_utf8 Eps x y n column row long =
    number_behind_utf8 n _ long (behind_utf8 32 _ (lit< tt) (number_behind_utf8 x _ column
    (behind_utf8 32 _ (lit< tt) (number_behind_utf8 y _ row
    (behind_utf8 32 _ (lit< tt) (behind_utf8 114 _ (lit< tt) (behind_utf8 10 [] (lit< tt) IsUtf8-nil)))))))
rectangle_utf8 Pdf x y n column row long =
    number_behind_utf8 x _ column (behind_utf8 32 _ (lit< tt) (number_behind_utf8 y _ row
    (behind_utf8 32 _ (lit< tt) (number_behind_utf8 n _ long
    (behind_utf8 32 _ (lit< tt) (behind_utf8 49 _ (lit< tt) (behind_utf8 32 _ (lit< tt) (behind_utf8 114 _ (lit< tt)
    (behind_utf8 101 _ (lit< tt) (behind_utf8 10 [] (lit< tt) IsUtf8-nil))))))))))

chosen_utf8 : (begins : Bool) (text : List ℕ) → IsUtf8 text → IsUtf8 (if begins then text else [])
chosen_utf8 true text is = is
chosen_utf8 false text is = IsUtf8-nil

pub row_utf8 : (pen : Pen) (p : Picture) (y n : ℕ) → y < 2 ^ 64 → n ≤ columns_of p → columns_of p < 2 ^ 64 →
    IsUtf8 (row_path (rectangle_by pen) p y n)
unfolding row_path run_at
row_utf8 pen p y zero row inside few = IsUtf8-nil
row_utf8 pen p y (suc n) row inside few =
    let e : suc n ≡ n + 1 = omega arith in
    let next : row_path (rectangle_by pen) p y (suc n) ≡ row_path (rectangle_by pen) p y n ++ run_at (rectangle_by pen) p y n =
    ap (row_path (rectangle_by pen) p y) e ∙ row_path_more (rectangle_by pen) p y n in
    subst IsUtf8 (sym next) (IsUtf8-append _ _ (row_utf8 pen p y n row (omega (arith, inside)) few)
    (chosen_utf8 (begins_run p n y) _ (rectangle_utf8 pen n y (dark_run_length p n y)
    (omega (arith, inside, few)) row (omega (arith, few, run_room p n y)))))
