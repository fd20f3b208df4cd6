-- The classes of bytes by their numbers, computed for each byte, and the unit at an index.
use Rattle.qrcode_bits.proofs.Prelude.{zero, suc, ◌≡◌, ℕ, ◌+◌, ◌-◌, ◌<◌, ◌≤◌, Bool, false, List, ◌∷◌, length, drop, get_or, refl, ap, sym, ◌∙◌, arith, inl, inr}
use Rattle.qrcode_bits.proofs.Prelude.{◌⊎◌, cases_lt, drop_all, get_or-map-range_with_len, Mode, Byte, is_alphanumeric, is_kanji_pair, Class, Digit, Sign}
use Rattle.qrcode_bits.proofs.Prelude.{Other, Pair, LoneLead, class_number, class_of, class_size, units, joins, class_mode, common_steps, map}
use Rattle.std.{proofs.Common.Fits, proofs.Common.w8, specs.List.range_with_len, proofs.Math.Seq.drop-cons}
use Rattle.qrcode_bits.specs.declared.optimize.parser.TheConstants.{CLASSES}
use Rattle.qrcode_bits.proofs.{Runs.parsed_from, Runs.IsRun, Runs.Run-first, Runs.Run-more, Runs.Run-apart, Adjoining.class_of-one}

-- ---- The table

classes_are : CLASSES ≡ map (λ b. class_number (class_of b)) (range_with_len 0 256)
unfolding is_alphanumeric
classes_are = refl

pub classes_at : (b : ℕ) → b < 256 → get_or CLASSES b 0 ≡ class_number (class_of b)
classes_at b within =
    ap (λ (z : List ℕ). get_or z b 0) classes_are ∙ get_or-map-range_with_len (λ n. class_number (class_of n)) 0 256 b b 0 within (omega arith)

abbrev pub class_numbered : ℕ → Class
class_numbered zero = Digit
class_numbered (suc zero) = Sign
class_numbered (suc (suc zero)) = Other
class_numbered (suc (suc (suc n))) = LoneLead

-- a byte's class by its number
pub numbered-is : (b n : ℕ) → n ≡ class_number (class_of b) → class_numbered n ≡ class_of b
numbered-is b n is = grind arith

not_pair : (b : ℕ) → class_of b ≡ Pair → ⊥
not_pair b is = let one = class_of-one b in let two : class_size (class_of b) ≡ 2 = ap class_size is in omega arith

joins-apart : (c d : Class) → (c ≡ d → ⊥) → joins c d ≡ false
joins-apart c d apart = grind arith

lone_apart : (d : Class) → joins LoneLead d ≡ false
lone_apart d = grind arith

-- ---- The unit at an index

drop-two : (bytes : List ℕ) (at : ℕ) → at + 2 ≤ length bytes → drop at bytes ≡ get_or bytes at 0 ∷ get_or bytes (at + 1) 0 ∷ drop (at + 2) bytes
drop-two bytes at within = grind (arith, drop-cons)

units_alone : (bytes : List ℕ) (at : ℕ) → at + 2 ≤ length bytes → is_kanji_pair (get_or bytes at 0) (get_or bytes (at + 1) 0) ≡ false →
    units (drop at bytes) ≡ class_of (get_or bytes at 0) ∷ units (drop (at + 1) bytes)
units_alone bytes at within pair = grind (arith, common_steps, drop-two, drop-cons)

pub units_last : (bytes : List ℕ) (at : ℕ) → length bytes - at < 2 → at < length bytes →
    units (drop at bytes) ≡ class_of (get_or bytes at 0) ∷ units (drop (at + 1) bytes)
units_last bytes at short within = grind (arith, drop_all, drop-cons)

units_other : (bytes : List ℕ) (at : ℕ) → at < length bytes → (class_of (get_or bytes at 0) ≡ LoneLead → ⊥) →
    units (drop at bytes) ≡ class_of (get_or bytes at 0) ∷ units (drop (at + 1) bytes)
units_other bytes at within other = grind (arith, common_steps, cases_lt, units_alone, units_last)

-- the next unit is the byte's, or a pair
abbrev NextUnit : List ℕ → ℕ → Type 0
NextUnit bytes at = (d : Class) × ((d ≡ class_of (get_or bytes at 0)) ⊎ (d ≡ Pair)) × (units (drop at bytes) ≡ d ∷ units (drop (at + class_size d) bytes))

next_alone : (bytes : List ℕ) (at : ℕ) → units (drop at bytes) ≡ class_of (get_or bytes at 0) ∷ units (drop (at + 1) bytes) → NextUnit bytes at
next_alone bytes at h = grind arith

next_by : (bytes : List ℕ) (at : ℕ) (t : Bool) → at + 2 ≤ length bytes → is_kanji_pair (get_or bytes at 0) (get_or bytes (at + 1) 0) ≡ t → NextUnit bytes at
next_by bytes at t within e = grind (arith, next_alone, units_alone, drop-two)

next_unit : (bytes : List ℕ) (at : ℕ) → at < length bytes → NextUnit bytes at
next_unit bytes at within = elim (cases_lt (at + 1) (length bytes)) [
  | inl w ↦ next_by bytes at (is_kanji_pair (get_or bytes at 0) (get_or bytes (at + 1) 0)) (omega arith) refl
  | inr w ↦ next_alone bytes at (units_last bytes at (omega arith) within)
]

-- ---- Runs

-- a run ends with the data, or before a unit of another class
run_stops : (bytes : List ℕ) (c : Class) (begin end : ℕ) → IsRun bytes c begin end →
    (end < length bytes → (d : Class) × (joins c d ≡ false) × (units (drop end bytes) ≡ d ∷ units (drop (end + class_size d) bytes))) →
    parsed_from begin (drop begin bytes) ≡ record { mode = class_mode c; begin = begin; end = end } ∷ parsed_from end (drop end bytes)
run_stops bytes c begin end run next = grind (arith, common_steps, Run-apart)

module _ (bytes : List ℕ) (begin : ℕ) (within : begin < length bytes) where
  abbrev class : Class
  class = class_of (get_or bytes begin 0)

  -- ---- of a class that is not that of pairs

  pub alone_first : (class ≡ LoneLead → ⊥) → IsRun bytes class begin (begin + 1)
  alone_first other = grind (arith, common_steps, class_of-one, Run-first, units_other)

  pub alone_more : (end number next : ℕ) → end < length bytes → (class ≡ LoneLead → ⊥) → number ≡ class_number class →
      next ≡ class_number (class_of (get_or bytes end 0)) → next ≡ number →
      IsRun bytes class begin end → IsRun bytes class begin (end + 1)
  alone_more end number next below other is next_is same run =
      grind (arith, Run-more, numbered-is (get_or bytes end 0) next next_is, numbered-is (get_or bytes begin 0) next (same ∙ is), units_other)

  pub alone_stops : (end number : ℕ) → number ≡ class_number class → IsRun bytes class begin end →
      (end < length bytes → class_number (class_of (get_or bytes end 0)) ≡ number → ⊥) →
      parsed_from begin (drop begin bytes) ≡ record { mode = class_mode class; begin = begin; end = end } ∷ parsed_from end (drop end bytes)
  alone_stops end number is run apart = run_stops bytes class begin end run (λ w.
      let n = next_unit bytes end w in (
        n.0,
        joins-apart class n.0 (λ same. elim n.1 [
          | inl byte ↦ apart w (ap class_number (sym (same ∙ byte)) ∙ sym is)
          | inr pair ↦ not_pair (get_or bytes begin 0) (same ∙ pair)
        ]),
        n.2,
      ))

-- ---- of pairs, or of the first byte of one

pub lone_stops : (bytes : List ℕ) (begin : ℕ) → begin < length bytes → class_of (get_or bytes begin 0) ≡ LoneLead →
    units (drop begin bytes) ≡ class_of (get_or bytes begin 0) ∷ units (drop (begin + 1) bytes) →
    parsed_from begin (drop begin bytes) ≡ record { mode = class_mode LoneLead; begin = begin; end = begin + 1 } ∷ parsed_from
    (begin + 1) (drop (begin + 1) bytes)
lone_stops bytes begin within lone unit =
    grind (arith, run_stops bytes LoneLead begin (begin + 1), Run-first bytes LoneLead begin 1 refl, next_unit bytes (begin + 1), lone_apart)

pub pair_more : (bytes : List ℕ) (begin end : ℕ) → units (drop end bytes) ≡ Pair ∷ units (drop (end + 2) bytes) → IsRun bytes Pair begin end →
    IsRun bytes Pair begin (end + 2)
pair_more bytes begin end unit run = Run-more bytes Pair Pair begin end 2 refl refl unit run

pub pairs_stop : (bytes : List ℕ) (begin end : ℕ) → IsRun bytes Pair begin end →
    (end < length bytes → units (drop end bytes) ≡ class_of (get_or bytes end 0) ∷ units (drop (end + 1) bytes)) →
    parsed_from begin (drop begin bytes) ≡ record { mode = class_mode Pair; begin = begin; end = end } ∷ parsed_from end (drop end bytes)
pairs_stop bytes begin end run alone = run_stops bytes Pair begin end run (λ w. (
  class_of (get_or bytes end 0),
  joins-apart Pair (class_of (get_or bytes end 0)) (λ same. not_pair (get_or bytes end 0) (sym same)),
  alone w ∙ ap (λ (n : ℕ). class_of (get_or bytes end 0) ∷ units (drop (end + n) bytes)) (sym (class_of-one (get_or bytes end 0))),
))

-- a run of a class that is not that of pairs, in the words of the loop
module _ (bytes : List ℕ) (begin end number : ℕ) (mode : Mode) (within : begin < length bytes)
    (is : number ≡ class_number (class_of (get_or bytes begin 0))) (run : IsRun bytes (class_of (get_or bytes begin 0)) begin end)
    (same : class_mode (class_of (get_or bytes begin 0)) ≡ mode) where
  abbrev Ends : Type 0
  Ends = parsed_from begin (drop begin bytes) ≡ record { mode = mode; begin = begin; end = end } ∷ parsed_from end (drop end bytes)

  pub ends_here : (end < length bytes → class_number (class_of (get_or bytes end 0)) ≡ number → ⊥) → Ends
  ends_here apart = rw (← same) (alone_stops bytes begin within end number is run apart)

pub mode_of_number : (b number : ℕ) (mode : Mode) → number ≡ class_number (class_of b) → class_mode (class_numbered number) ≡ mode →
    class_mode (class_of b) ≡ mode
mode_of_number b number mode is h = grind (arith, numbered-is)

pub other_number : (b number : ℕ) → number ≡ class_number (class_of b) → (number ≡ 0 → ⊥) → (number ≡ 1 → ⊥) → (number ≡ 3 → ⊥) →
    class_mode (class_of b) ≡ Byte
other_number b number is h k l = grind (arith, not_pair)

-- the class of a byte by the table
pub class_at : (bytes : List ℕ) (i n : ℕ) → n ≡ get_or bytes i 0 → ((k : ℕ) → Fits w8 (get_or bytes k 0)) →
    get_or CLASSES n 0 ≡ class_number (class_of (get_or bytes i 0))
class_at bytes i n same within = ap (λ (z : ℕ). get_or CLASSES z 0) same ∙ classes_at (get_or bytes i 0) (omega (arith, within i))

pub lead_is : (b n : ℕ) → n ≡ 3 → n ≡ class_number (class_of b) → class_of b ≡ LoneLead
lead_is b n three is = sym (numbered-is b n is) ∙ ap class_numbered three

pub ruleset alone_segments = (alone_first, alone_more, alone_stops, numbered-is)

pub ruleset pair_segments = (lone_stops, pair_more, pairs_stop, common_steps)
