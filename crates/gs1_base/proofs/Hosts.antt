-- Labels of host names, numbers of ports, and segments of paths.
use Rattle.std.proofs.Common.{◌≡◌, ℕ, ◌+◌, ◌-◌, ◌*◌, ◌<◌, ◌≤◌, Bool, true, false, List, [], ◌∷◌, length, take, drop, get_or}
use Rattle.std.proofs.Common.{refl, arith, ap, sym, ◌∙◌, inl, inr}
use Rattle.std.specs.Prelude.{◌&&◌}
use Rattle.std.specs.List.{slice_split, position_or_len, list_all}
use Rattle.std.proofs.lemmas.Bool.{cases_lt}
use Rattle.std.proofs.lemmas.Grind.{common_steps}
use Rattle.std.proofs.lemmas.List.{take_all, drop_more, length-take-le}
use Rattle.std.proofs.lemmas.List.Splits.{slice_split_first, slice_split_none}
use Rattle.std.proofs.lemmas.List.Sums.{fails_before_first}
use Rattle.gs1_base.specs.Characters.{is_within}
use Rattle.gs1_base.specs.Domains.{is_dot, is_label, are_labels, number_after, is_slash, is_segment}

-- ---- Parts between separators

parts_more : (p : ℕ → Bool) (good : List ℕ → Bool) (xs : List ℕ) (end : ℕ) → end ≡ position_or_len p xs → end < length xs →
    list_all good (slice_split p xs) ≡ (good (take end xs) && list_all good (slice_split p (drop (end + 1) xs)))
parts_more p good xs end e within =
    rw e (ap (list_all good) (slice_split_first p xs 0 (let w : position_or_len p xs < length xs = omega arith in w)))

alone : (p : ℕ → Bool) (xs : List ℕ) → position_or_len p xs ≡ length xs → slice_split p xs ≡ xs ∷ []
alone p xs none = slice_split_none p xs
    (λ k d within. fails_before_first p xs k d (let w : k < position_or_len p xs = omega arith in w))

parts_last : (p : ℕ → Bool) (good : List ℕ → Bool) (xs : List ℕ) (end : ℕ) → end ≡ position_or_len p xs → end ≡ length xs →
    list_all good (slice_split p xs) ≡ (good (take end xs) && true)
parts_last p good xs end e whole =
    let all : take end xs ≡ xs = take_all end xs (let w : length xs ≤ end = omega arith in w) in
    rw all (ap (list_all good) (alone p xs (omega arith)))

-- The first part is wrong.
pub part_wrong : (p : ℕ → Bool) (good : List ℕ → Bool) (xs : List ℕ) (end : ℕ) (whole : Bool) → end ≡ position_or_len p xs →
    end ≤ length xs → good (take end xs) ≡ false → list_all good (slice_split p xs) ≡ whole → false ≡ whole
part_wrong p good xs end whole place within bad e =
    elim (cases_lt end (length xs)) [
      | inl more ↦ sym (let step = parts_more p good xs end place more in rw bad at step) ∙ e
      | inr last ↦ sym (let step = parts_last p good xs end place (omega arith) in rw bad at step) ∙ e
    ]

-- The last part is right.
pub part_last : (p : ℕ → Bool) (good : List ℕ → Bool) (xs : List ℕ) (end : ℕ) (whole : Bool) → end ≡ position_or_len p xs →
    end ≡ length xs → good (take end xs) ≡ true → list_all good (slice_split p xs) ≡ whole → true ≡ whole
part_last p good xs end whole place last right e =
    sym (let step = parts_last p good xs end place last in rw right at step) ∙ e

-- The first part is right, and there are others.
pub part_behind : (p : ℕ → Bool) (good : List ℕ → Bool) (xs rest : List ℕ) (end : ℕ) (whole : Bool) →
    end ≡ position_or_len p xs → end ≤ length xs → (end ≡ length xs → ⊥) → good (take end xs) ≡ true →
    rest ≡ drop (end + 1) xs → list_all good (slice_split p xs) ≡ whole → list_all good (slice_split p rest) ≡ whole
part_behind p good xs rest end whole place within more right rest_is e =
    rw rest_is (sym (let step = parts_more p good xs end place (omega arith) in rw right at step) ∙ e)

-- The parts behind the first one: none without a separator.
pub segments_none : (xs : List ℕ) (end : ℕ) → end ≡ position_or_len is_slash xs → end ≡ length xs →
    list_all is_segment (drop 1 (slice_split is_slash xs)) ≡ true
segments_none xs end e whole = ap (λ parts. list_all is_segment (drop 1 parts)) (alone is_slash xs (omega arith))

pub segments_more : (xs : List ℕ) (end : ℕ) → end ≡ position_or_len is_slash xs → end ≤ length xs → (end ≡ length xs → ⊥) →
    list_all is_segment (drop 1 (slice_split is_slash xs)) ≡ list_all is_segment (slice_split is_slash (drop (end + 1) xs))
segments_more xs end e within more =
    rw e (ap (λ parts. list_all is_segment (drop 1 parts))
    (slice_split_first is_slash xs 0 (let w : position_or_len is_slash xs < length xs = omega arith in w)))

-- ---- Labels

-- A label has the length that its end says.
label_length : (host : List ℕ) (end : ℕ) (is : Bool) → end ≤ length host → is_within 1 63 end ≡ is → is_label (take end host) ≡ is
label_length host end is within e = ap (is_within 1 63) (length-take-le end host within) ∙ e

-- The first label has another length.
pub label_wrong : (host : List ℕ) (end : ℕ) (whole : Bool) → end ≡ position_or_len is_dot host → end ≤ length host →
    is_within 1 63 end ≡ false → are_labels host ≡ whole → false ≡ whole
label_wrong host end whole place within wrong e =
    part_wrong is_dot is_label host end whole place within (label_length host end false within wrong) e

-- The last label has a right one.
pub label_last : (host : List ℕ) (end : ℕ) (whole : Bool) → end ≡ position_or_len is_dot host → end ≤ length host →
    end ≡ length host → is_within 1 63 end ≡ true → are_labels host ≡ whole → true ≡ whole
label_last host end whole place within last right e =
    part_last is_dot is_label host end whole place last (label_length host end true within right) e

-- The first label has a right one, and there are others.
pub label_behind : (host rest : List ℕ) (end : ℕ) (whole : Bool) → end ≡ position_or_len is_dot host → end ≤ length host →
    (end ≡ length host → ⊥) → is_within 1 63 end ≡ true → rest ≡ drop (end + 1) host →
    are_labels host ≡ whole → are_labels rest ≡ whole
label_behind host rest end whole place within more right rest_is e =
    part_behind is_dot is_label host rest end whole place within more (label_length host end true within right) rest_is e

-- ---- Ports

grows : (number : ℕ) (xs : List ℕ) → number ≤ number_after number xs
grows number [] = omega arith
grows number (c ∷ xs) =
    let more : 10 * number + (c - 0x30) ≤ number_after (10 * number + (c - 0x30)) xs = grows (10 * number + (c - 0x30)) xs in
    omega (arith, more)

-- A number that is too great with the digit at a place stays so.
pub too_great : (number next i : ℕ) (xs : List ℕ) (whole : ℕ) → i < length xs → next ≡ 10 * number + (get_or xs i 0 - 0x30) →
    65535 < next → number_after number (drop i xs) ≡ whole → false ≡ is_within 1 65535 whole
too_great number next i xs whole within is great e =
    let step : number_after number (drop i xs) ≡ number_after (10 * number + (get_or xs i 0 - 0x30)) (drop (i + 1) xs) =
    rw (drop_more xs i 0 within) refl in
    let more : next ≤ number_after next (drop (i + 1) xs) = grows next (drop (i + 1) xs) in
    let same : number_after next (drop (i + 1) xs) ≡ whole = ap (λ n. number_after n (drop (i + 1) xs)) is ∙ sym step ∙ e in
    sym (above whole (let less : 65535 < whole = omega (arith, great, more, same) in less))
  where
    above : (n : ℕ) → 65535 < n → is_within 1 65535 n ≡ false
    above n great = grind (arith, common_steps)
