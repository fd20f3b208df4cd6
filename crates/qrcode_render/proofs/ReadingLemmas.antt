-- What a reader of compressed data finds in characters, one after the other.
use Rattle.std.proofs.Common.{◌≡◌, ℕ, zero, suc, ◌+◌, ◌-◌, ◌<◌, ◌≤◌, true, false, List, [], ◌∷◌, ◌++◌, length, replicate, refl, sym, ap, subst, ◌∙◌, arith, append_assoc, append-nil}
use Rattle.std.specs.Prelude.{if◌then◌else◌, nat_lt, ◌==◌, ◌&&◌, max, Option, Some, None, Result, Ok, Err, OnOk}
use Rattle.std.proofs.lemmas.Bool.Decides.{nat_tests}
use Rattle.std.proofs.lemmas.Bool.{cond-true, cond-false}
use Rattle.std.proofs.lemmas.List.Sums.{fold-append}
use Rattle.std.proofs.Common.{length-append, take, get_or}
use Rattle.std.proofs.lemmas.List.{length-replicate, take_more}
use Rattle.std.proofs.lemmas.Grind.{replicate_next}
use Rattle.std.proofs.Math.Seq.{take-length}
use Rattle.std.specs.Prelude.{option_and_then}
use Rattle.qrcode_render.specs.Compressed.{FieldReader, repeat_count, is_hex_digit, Compresses, expanded, nothing, whole_rows, in_row, after_row, with_digits, filled_up, row_again, read_field_character, read_next, read_field_characters}
use Rattle.qrcode_render.specs.CompressedData.{AddsPiece, EndsRow, SaysCount, SaysDigits, SaysRow, SaysRows}

-- what a reader finds in two pieces
pub read_joined : (width : ℕ) (r : Option FieldReader) (a b : List ℕ) (s : Option FieldReader) → read_field_characters width r a ≡ s →
    read_field_characters width r (a ++ b) ≡ read_field_characters width s b
read_joined width r a b s e = fold-append (read_next width) r a b ∙ ap (λ t. read_field_characters width t b) e

-- nothing was added
pub adds_none : (P : List ℕ → Type 0) (bytes : List ℕ) → P [] → AddsPiece P bytes bytes
adds_none P bytes holds = record { added = []; is = sym (append-nil bytes); holds = holds }

-- a piece more was added
pub adds_more : (P Q : List ℕ → Type 0) (old mid new piece : List ℕ) → AddsPiece P old mid → new ≡ mid ++ piece → ((before : List ℕ) → P before → Q (before ++ piece)) → AddsPiece Q old new
adds_more P Q old mid new piece a e step =
    record { added = a.added ++ piece; is = e ∙ (ap (λ l. l ++ piece) a.is ∙ append_assoc old a.added piece); holds = step a.added a.holds }

-- what was added is more than that
pub adds_as : (P Q : List ℕ → Type 0) (old new : List ℕ) → ((added : List ℕ) → P added → Q added) → AddsPiece P old new → AddsPiece Q old new
adds_as P Q old new step a = record { added = a.added; is = a.is; holds = step a.added a.holds }

-- a piece was added
pub adds_piece : (P : List ℕ → Type 0) (old new piece : List ℕ) → new ≡ old ++ piece → P piece → AddsPiece P old new
adds_piece P old new piece is holds = record { added = piece; is = is; holds = holds }

-- two pieces were added
pub adds_both : (P Q R : List ℕ → Type 0) (old mid new : List ℕ) → AddsPiece P old mid → AddsPiece Q mid new → ((a b : List ℕ) → P a → Q b → R (a ++ b)) → AddsPiece R old new
adds_both P Q R old mid new a b step =
    record { added = a.added ++ b.added; is = b.is ∙ (ap (λ l. l ++ b.added) a.is ∙ append_assoc old a.added b.added); holds = step a.added b.added a.holds b.holds }

-- what holds with `Ok` is more than that
pub on_ok_as : {T E : Type 0} (r : Result T E) (P Q : Type 0) → (P → Q) → OnOk r P → OnOk r Q
on_ok_as (Ok x) P Q step holds = step holds
on_ok_as (Err e) P Q step holds = tt

-- no letter
pub no_letter : SaysCount 0 []
no_letter = record { read = λ width r. ap (λ (n : ℕ). Some (record r { count = n })) (omega arith); short = omega arith }

read_letter : (width : ℕ) (r : FieldReader) (c k : ℕ) → repeat_count c ≡ k → 0 < k → read_field_character width r c ≡ Some (record r { count = r.count + k })
unfolding read_field_character
read_letter width r c k counts some =
    let positive : nat_lt 0 (repeat_count c) ≡ true = grind (arith, nat_tests) in
    cond-true _ _ _ positive ∙ ap (λ (n : ℕ). Some (record r { count = r.count + n })) counts

-- a letter more is no more than what it counts
shorter : (n k a : ℕ) → a ≤ n - 1 → 0 < k → (n ≡ 0 → 2 ≤ k) → a + 1 ≤ n + k - 1
shorter zero k a few some two = omega (arith, two refl)
shorter (suc n) k a few some two = omega arith

-- one letter more
pub one_letter : (n c k : ℕ) (letters : List ℕ) → SaysCount n letters → repeat_count c ≡ k → 0 < k → (n ≡ 0 → 2 ≤ k) → SaysCount (n + k) (letters ++ c ∷ [])
one_letter n c k letters says counts some two =
    record {
      read = λ width r.
          read_joined width (Some r) letters (c ∷ []) _ (says.read width r)
          ∙ (read_letter width (record r { count = r.count + n }) c k counts some
          ∙ ap (λ (m : ℕ). Some (record r { count = m })) (omega arith));
      short = omega (arith, length-append {A = ℕ}, shorter n k (length letters) says.short some two);
    }

-- ---- Digits

-- a reader within a row finds more digits of it
pub part_of_row : (width : ℕ) (r : FieldReader) (digits : List ℕ) → length r.row + length digits < width →
    with_digits width r digits ≡ Some (in_row r (r.row ++ digits))
unfolding with_digits
part_of_row width r digits fits =
    let shorter : nat_lt (length (r.row ++ digits)) width ≡ true = grind (arith, nat_tests, length-append {A = ℕ}) in
    cond-true _ _ _ shorter

-- the digits that fill up a row
pub end_of_row : (width : ℕ) (r : FieldReader) (digits : List ℕ) → length r.row + length digits ≡ width →
    with_digits width r digits ≡ Some (after_row r (r.row ++ digits))
unfolding with_digits
end_of_row width r digits fits =
    let longer : nat_lt (length (r.row ++ digits)) width ≡ false = grind (arith, nat_tests, length-append {A = ℕ}) in
    let same : (length (r.row ++ digits) == width) ≡ true = grind (arith, nat_tests, length-append {A = ℕ}) in
    cond-false _ _ _ longer ∙ cond-true _ _ _ same

-- digits after digits
pub digits_joined : (width : ℕ) (r : FieldReader) (a b : List ℕ) → with_digits width (in_row r (r.row ++ a)) b ≡ with_digits width r (a ++ b)
unfolding with_digits
digits_joined width r a b = rw (append_assoc r.row a b) refl

-- a repeat count is left with the digit
pub counted_digits : (width : ℕ) (r : FieldReader) (n : ℕ) (digits : List ℕ) → with_digits width (record r { count = n }) digits ≡ with_digits width r digits
unfolding with_digits
counted_digits width r n digits = refl

read_digit : (width : ℕ) (r : FieldReader) (d : ℕ) → is_hex_digit d ≡ true → read_field_character width r d ≡ with_digits width r (replicate (max 1 r.count) d)
unfolding read_field_character
read_digit width r d digit =
    let none : nat_lt 0 (repeat_count d) ≡ false = grind (arith, nat_tests) in
    cond-false _ _ _ none ∙ cond-true _ _ _ digit

-- one digit
pub says_digit : (d : ℕ) → is_hex_digit d ≡ true → SaysDigits (replicate 1 d) (d ∷ [])
says_digit d digit =
    record {
      read = λ width r none inside fits. read_digit width r d digit ∙ ap (λ (n : ℕ). with_digits width r (replicate (max 1 n) d)) none;
      short = omega arith;
    }

-- a digit with a repeat count
pub says_run : (n d : ℕ) (letters : List ℕ) → 2 ≤ n → is_hex_digit d ≡ true → SaysCount n letters → SaysDigits (replicate n d) (letters ++ d ∷ [])
says_run n d letters two digit says =
    record {
      read = λ width r none inside fits.
          (let many : max 1 (r.count + n) ≡ n = omega arith in
          read_joined width (Some r) letters (d ∷ []) _ (says.read width r)
          ∙ (read_digit width (record r { count = r.count + n }) d digit
          ∙ (counted_digits width r (r.count + n) (replicate (max 1 (r.count + n)) d)
          ∙ ap (λ (m : ℕ). with_digits width r (replicate m d)) many)));
      short = omega (arith, length-append {A = ℕ}, length-replicate {A = ℕ}, says.short);
    }

-- no digits
pub no_digits : SaysDigits [] []
no_digits =
    record {
      read = λ width r none inside fits.
          sym (part_of_row width r [] (omega arith)
          ∙ ap (λ (row : List ℕ). Some (record { rows = r.rows; above = r.above; row = row; count = 0 })) (append-nil r.row)
          ∙ ap (λ (n : ℕ). Some (record r { count = n })) (sym none));
      short = omega arith;
    }

-- digits, and then more
pub says_more : (a b x y : List ℕ) → SaysDigits a x → SaysDigits b y → 0 < length b → SaysDigits (a ++ b) (x ++ y)
says_more a b x y before after some =
    record {
      read = λ width r none inside fits.
          (let within : length r.row + length a < width = omega (arith, length-append {A = ℕ}) in
          let row : length (r.row ++ a) ≡ length r.row + length a = length-append r.row a in
          read_joined width (Some r) x y _ (before.read width r none inside (omega arith) ∙ part_of_row width r a within)
          ∙ (after.read width (in_row r (r.row ++ a)) refl (omega arith) (omega (arith, length-append {A = ℕ}))
          ∙ digits_joined width r a b));
      short = omega (arith, length-append {A = ℕ}, before.short, after.short);
    }

-- ---- Rows

-- the last digits of a row as digits
pub ends_with_run : (b y : List ℕ) → SaysDigits b y → EndsRow b y
ends_with_run b y says =
    record { read = λ width r none inside fits. says.read width r none inside (omega arith); short = says.short }

read_fill : (width : ℕ) (r : FieldReader) (c d : ℕ) → nat_lt 0 (repeat_count c) ≡ false → is_hex_digit c ≡ false → read_field_character width r c ≡
    (if c == 44 then filled_up width r 48 else (if c == 33 then filled_up width r 70 else (if c == 58 then row_again width r else None)))
unfolding read_field_character
read_fill width r c d letter digit = cond-false _ _ _ letter ∙ cond-false _ _ _ digit

fills : (width : ℕ) (r : FieldReader) (n d : ℕ) → r.count ≡ 0 → length r.row + n ≡ width → filled_up width r d ≡ with_digits width r (replicate n d)
unfolding filled_up
fills width r n d none fits =
    let yes : (r.count == 0) ≡ true = grind (arith, nat_tests) in
    let left : width - length r.row ≡ n = omega arith in
    cond-true _ _ _ yes ∙ ap (λ (m : ℕ). with_digits width r (replicate m d)) left

-- a comma
pub ends_with_zeros : (n : ℕ) → 0 < n → EndsRow (replicate n 48) (44 ∷ [])
ends_with_zeros n some =
    record {
      read = λ width r none inside fits.
          read_fill width r 44 48 refl refl ∙ fills width r n 48 none (omega (arith, length-replicate {A = ℕ}));
      short = omega (arith, length-replicate {A = ℕ});
    }

-- an exclamation mark
pub ends_with_ones : (n : ℕ) → 0 < n → EndsRow (replicate n 70) (33 ∷ [])
ends_with_ones n some =
    record {
      read = λ width r none inside fits.
          read_fill width r 33 70 refl refl ∙ fills width r n 70 none (omega (arith, length-replicate {A = ℕ}));
      short = omega (arith, length-replicate {A = ℕ});
    }

-- digits, and the end of the row
pub says_row : (above a b x y : List ℕ) → SaysDigits a x → EndsRow b y → 0 < length b → SaysRow above (a ++ b) (x ++ y)
says_row above a b x y before after some =
    record {
      read = λ r none empty over.
          (let width = length (a ++ b) in
          let start : length r.row ≡ 0 = ap (λ (l : List ℕ). length l) empty in
          let wide : length (a ++ b) ≡ length a + length b = length-append a b in
          let row : length (r.row ++ a) ≡ length r.row + length a = length-append r.row a in
          let whole : (r.row ++ a) ++ b ≡ a ++ b = ap (λ (l : List ℕ). (l ++ a) ++ b) empty in
          read_joined width (Some r) x y _ (before.read width r none (omega arith) (omega arith) ∙ part_of_row width r a (omega arith))
          ∙ (after.read width (in_row r (r.row ++ a)) refl (omega arith) (omega arith)
          ∙ (end_of_row width (in_row r (r.row ++ a)) b (omega arith)
          ∙ ap (λ (l : List ℕ). Some (after_row r l)) whole)));
      short = omega (arith, length-append {A = ℕ}, before.short, after.short);
    }

again : (width : ℕ) (r : FieldReader) → r.count ≡ 0 → length r.row ≡ 0 → 0 < length r.above → row_again width r ≡ with_digits width r r.above
unfolding row_again
again width r none start some =
    let yes : ((r.count == 0) && ((length r.row == 0) && nat_lt 0 (length r.above))) ≡ true = grind (arith, nat_tests) in
    cond-true _ _ _ yes

-- a colon
pub says_row_above : (row : List ℕ) → 0 < length row → SaysRow row row (58 ∷ [])
says_row_above row some =
    record {
      read = λ r none empty over.
          (let start : length r.row ≡ 0 = ap (λ (l : List ℕ). length l) empty in
          let long : length r.above ≡ length row = ap (λ (l : List ℕ). length l) over in
          let whole : r.row ++ r.above ≡ row = ap (λ (l : List ℕ). l ++ r.above) empty ∙ over in
          read_fill (length row) r 58 48 refl refl
          ∙ (again (length row) r none start (omega arith)
          ∙ (end_of_row (length row) r r.above (omega arith)
          ∙ ap (λ (l : List ℕ). Some (after_row r l)) whole)));
      short = omega arith;
    }

-- ---- Runs

-- equal numbers from a place on
pub take_run : (xs : List ℕ) (x n : ℕ) → x + n ≤ length xs → ((k : ℕ) → k < n → get_or xs (x + k) 0 ≡ get_or xs x 0) →
    take (x + n) xs ≡ take x xs ++ replicate n (get_or xs x 0)
take_run xs x zero inside same =
    let none : x + 0 ≡ x = omega arith in
    ap (λ m. take m xs) none ∙ sym (append-nil (take x xs))
take_run xs x (suc n) inside same =
    let more : x + suc n ≡ (x + n) + 1 = omega arith in
    let next : suc n ≡ n + 1 = omega arith in
    ap (λ m. take m xs) more
    ∙ (take_more xs (x + n) 0 (omega arith)
    ∙ (ap (λ l. l ++ get_or xs (x + n) 0 ∷ []) (take_run xs x n (omega arith) (λ k below. same k (omega arith)))
    ∙ (append_assoc (take x xs) (replicate n (get_or xs x 0)) (get_or xs (x + n) 0 ∷ [])
    ∙ (ap (λ d. take x xs ++ (replicate n (get_or xs x 0) ++ d ∷ [])) (same n (omega arith))
    ∙ ap (λ l. take x xs ++ l) (sym (replicate_next n (get_or xs x 0)) ∙ ap (λ m. replicate m (get_or xs x 0)) (sym next))))))

-- digits up to a place, and a run of equal ones
pub says_next : (xs : List ℕ) (x n : ℕ) (before run : List ℕ) → x + n ≤ length xs → 0 < n →
    ((k : ℕ) → k < n → get_or xs (x + k) 0 ≡ get_or xs x 0) → SaysDigits (take x xs) before → SaysDigits (replicate n (get_or xs x 0)) run →
    SaysDigits (take (x + n) xs) (before ++ run)
says_next xs x n before run inside some same a b =
    subst (λ l. SaysDigits l (before ++ run)) (sym (take_run xs x n inside same))
    (says_more (take x xs) (replicate n (get_or xs x 0)) before run a b (omega (arith, length-replicate {A = ℕ})))

-- digits up to a place, and equal ones up to the end
pub says_last : (above xs : List ℕ) (x n : ℕ) (before run : List ℕ) → x + n ≡ length xs → 0 < n →
    ((k : ℕ) → k < n → get_or xs (x + k) 0 ≡ get_or xs x 0) → SaysDigits (take x xs) before → EndsRow (replicate n (get_or xs x 0)) run →
    SaysRow above xs (before ++ run)
says_last above xs x n before run ends some same a b =
    let whole : take x xs ++ replicate n (get_or xs x 0) ≡ xs =
    sym (take_run xs x n (omega arith) same) ∙ (ap (λ m. take m xs) ends ∙ take-length xs) in
    subst (λ l. SaysRow above l (before ++ run)) whole
    (says_row above (take x xs) (replicate n (get_or xs x 0)) before run a b (omega (arith, length-replicate {A = ℕ})))

-- ---- Fields

-- no row
pub no_rows : (width : ℕ) → SaysRows width [] [] []
no_rows width = record { read = refl; short = omega arith }

-- a row more
pub one_row : (width : ℕ) (rows above row a b : List ℕ) → SaysRows width rows above a → SaysRow above row b → length row ≡ width → SaysRows width (rows ++ row) row (a ++ b)
one_row width rows above row a b before after long =
    record {
      read = read_joined width (Some nothing) a b _ before.read
          ∙ (ap (λ w. read_field_characters w (Some (record { rows = rows; above = above; row = []; count = 0 })) b) (sym long)
          ∙ after.read (record { rows = rows; above = above; row = []; count = 0 }) refl refl refl);
      short = omega (arith, length-append {A = ℕ}, before.short, after.short);
    }

-- all rows
pub compresses : (width : ℕ) (rows above a : List ℕ) → SaysRows width rows above a → Compresses width rows a
unfolding expanded
compresses width rows above a says =
    record { read = ap (λ (r : Option FieldReader). option_and_then whole_rows r) says.read; short = says.short }
