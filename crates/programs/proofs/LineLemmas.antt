-- Lines of the bytes that are known.
use Rattle.std.proofs.Common.{◌≡◌, ◌≢◌, ◌+◌, ◌<◌, ◌≤◌, ℕ, Option, None, Some, List, [], ◌∷◌, ◌++◌, All, length, append-nil, length-append}
use Rattle.std.proofs.Common.{arith, refl, sym, ap, ◌∙◌, true, false}
use Rattle.std.specs.Prelude.{Result, Ok, Err, OnErr}
use Rattle.std.proofs.BufReadLemmas.{take_through-append, drop_through-append}
use Rattle.std.proofs.lemmas.List.Elements.{All-append}
use Rattle.std.proofs.lemmas.Grind.{common_steps}
use Rattle.std.specs.Io.BufRead.{first_line, first_piece, take_through, drop_through, strip_last, ends_with_byte, DropsThrough}
use Rattle.std.specs.Io.KnownBytes.{Consumes, IsAtEnd}
use Rattle.programs.specs.Lines.{ReadsLines, ReadsPart, ReadsTooMuch, BeginsLine}
use Rattle.programs.proofs.DeviceLemmas.{Consumes-append}

abbrev InLine : List ℕ → Type 0
InLine part = All (λ byte. byte ≢ 10) part

-- ---- Up to a newline

through : (part rest : List ℕ) → InLine part → take_through 10 (part ++ 10 ∷ rest) ≡ part ++ 10 ∷ []
through part rest is = take_through-append 10 part (10 ∷ rest) is

pub after_newline : (part rest : List ℕ) → InLine part → drop_through 10 (part ++ 10 ∷ rest) ≡ rest
after_newline part rest is = drop_through-append 10 part (10 ∷ rest) is

some : (part rest : List ℕ) → part ++ 10 ∷ rest ≢ []
some part rest e = omega (arith, ap length e, length-append part (10 ∷ rest))

ends : (part : List ℕ) → ends_with_byte 10 (part ++ 10 ∷ []) ≡ true
ends part = grind (arith, common_steps)

some_long : (most : ℕ) (part rest : List ℕ) → length part ≡ most + 2 → part ++ rest ≢ []
some_long most part rest long e = omega (arith, ap length e, length-append part rest, long)

pub line_of : (part rest : List ℕ) → InLine part → first_line (part ++ 10 ∷ rest) ≡ strip_last 13 part
line_of part rest is = grind (arith, common_steps, through part rest is, ends part)

-- ---- Up to the end of the bytes

whole : (part : List ℕ) → InLine part → take_through 10 part ≡ part
whole part is = ap (take_through 10) (sym (append-nil part)) ∙ take_through-append 10 part [] is ∙ append-nil part

none_after : (part : List ℕ) → InLine part → drop_through 10 part ≡ []
none_after part is = ap (drop_through 10) (sym (append-nil part)) ∙ drop_through-append 10 part [] is

no_end : (part : List ℕ) → InLine part → ends_with_byte 10 part ≡ false
no_end [] is = refl
no_end (x ∷ xs) is = grind (arith, common_steps, is)

pub last_line : (part : List ℕ) → InLine part → first_line part ≡ part
last_line part is = grind (arith, common_steps, whole part is, no_end part is)

-- ---- What was read

-- all of a line, and its newline
pub line_read : (a b c : Option (List ℕ)) (part : List ℕ) → ReadsPart a b part → Consumes b c (10 ∷ []) → ReadsLines a c (strip_last 13 part ∷ [])
line_read None b c part h k = tt
line_read (Some xs) None c part h k = absurd h.read
line_read (Some xs) (Some ys) None part h k = absurd k
line_read (Some xs) (Some ys) (Some zs) part h k =
    let all : xs ≡ part ++ 10 ∷ zs = h.read ∙ ap (λ rest. part ++ rest) k in
    rw all (some part zs, sym (line_of part zs h.in_line), after_newline part zs h.in_line)

-- all of the last line, which has no newline
pub last_read : (a b c : Option (List ℕ)) (part : List ℕ) → ReadsPart a b part → Consumes b c [] → IsAtEnd c → 0 < length part → ReadsLines a c (part ∷ [])
last_read None b c part h k end some = tt
last_read (Some xs) None c part h k end some = absurd h.read
last_read (Some xs) (Some ys) None part h k end some = absurd k
last_read (Some xs) (Some ys) (Some zs) part h k end some =
    let all : xs ≡ part = h.read ∙ ap (λ rest. part ++ rest) (k ∙ end) ∙ append-nil part in
    rw all (grind arith, sym (last_line part h.in_line), none_after part h.in_line ∙ sym end)

-- one byte more of the line
pub part_more : (a b c : Option (List ℕ)) (part bytes : List ℕ) → ReadsPart a b part → Consumes b c bytes → InLine bytes → ReadsPart a c (part ++ bytes)
part_more a b c part bytes h k is = record {
  read = Consumes-append a b c part bytes h.read k;
  in_line = All-append (λ byte. byte ≢ 10) part bytes h.in_line is;
}

pub on_err : {A E P : Type 0} (r : Result A E) → P → OnErr r P
on_err (Ok a) p = tt
on_err (Err e) p = p

pub strip_shorter : (byte : ℕ) (xs : List ℕ) → length (strip_last byte xs) ≤ length xs
strip_shorter byte xs = grind (arith, common_steps)

-- ---- The rest of a line

-- the part, and its newline
pub skipped_newline : (a b c : Option (List ℕ)) (part : List ℕ) → ReadsPart a b part → Consumes b c (10 ∷ []) → DropsThrough a c 10
skipped_newline None b c part h k = tt
skipped_newline (Some xs) None c part h k = absurd h.read
skipped_newline (Some xs) (Some ys) None part h k = absurd k
skipped_newline (Some xs) (Some ys) (Some zs) part h k =
    let all : xs ≡ part ++ 10 ∷ zs = h.read ∙ ap (λ rest. part ++ rest) k in
    rw all (ap Some (sym (after_newline part zs h.in_line)))

-- the part, which ends with the input
pub skipped_last : (a b c : Option (List ℕ)) (part : List ℕ) → ReadsPart a b part → Consumes b c [] → IsAtEnd c → DropsThrough a c 10
skipped_last None b c part h k end = tt
skipped_last (Some xs) None c part h k end = absurd h.read
skipped_last (Some xs) (Some ys) None part h k end = absurd k
skipped_last (Some xs) (Some ys) (Some zs) part h k end =
    let all : xs ≡ part = h.read ∙ ap (λ rest. part ++ rest) (k ∙ end) ∙ append-nil part in
    rw all (ap Some (end ∙ sym (none_after part h.in_line)))

at_least : (byte : ℕ) (xs : List ℕ) → length xs ≤ length (strip_last byte xs) + 1
at_least byte xs = grind (arith, common_steps)

piece_longer : (part rest : List ℕ) → InLine part → length part ≤ length (strip_last 10 (part ++ rest))
piece_longer part [] is = rw (append-nil part) (grind (arith, common_steps, no_end part is))
piece_longer part (x ∷ rest) is = omega (arith, at_least 10 (part ++ x ∷ rest), length-append part (x ∷ rest))

line_longer : (part rest : List ℕ) → InLine part → length part ≤ length (first_line (part ++ rest)) + 1
line_longer part rest is =
    let piece : length part ≤ length (first_piece 10 (part ++ rest)) =
    rw (take_through-append 10 part rest is) (piece_longer part (take_through 10 rest) is) in
    grind (arith, piece, at_least 13 (first_piece 10 (part ++ rest)))

-- a line of which too much was read, and its rest
pub long_line : (most : ℕ) (a b c : Option (List ℕ)) (part : List ℕ) → ReadsTooMuch most a b part → DropsThrough b c 10 →
    (line : List ℕ) × ReadsLines a c (line ∷ []) × (most < length line)
long_line most None b c part h k = (part, tt, omega (arith, h.long))
long_line most (Some xs) None c part h k = absurd h.begins.read
long_line most (Some xs) (Some ys) None part h k = absurd (grind arith)
long_line most (Some xs) (Some ys) (Some zs) part h k =
    let all : xs ≡ part ++ ys = h.begins.read in
    let left : zs ≡ drop_through 10 ys = grind (arith, k) in (
      first_line xs,
      rw (all, left) (some_long most part ys h.long, refl, drop_through-append 10 part ys h.begins.in_line),
      rw all (omega (arith, h.long, line_longer part ys h.begins.in_line)),
    )

-- a part of the line, and another part of it
pub begins_more : (a b c : Option (List ℕ)) (part : List ℕ) → ReadsPart a b part → BeginsLine b c → BeginsLine a c
begins_more a b c part h more = record {
  part = part ++ more.part;
  begins = part_more a b c part more.part h more.begins.read more.begins.in_line;
}
