-- No message of more than 7089 bytes fits a symbol.
use Rattle.qrcode_bits.proofs.Prelude.{◌≡◌, ℕ, ◌+◌, ◌-◌, ◌*◌, ◌/◌, ◌<◌, ◌≤◌, List, [], ◌∷◌, Some, length, arith, inl, inr, All, cases_lt, Version, EcLevel}
use Rattle.qrcode_bits.proofs.Prelude.{capacity, Mode, count_width, indicator_width, Segment, total_bits, normal, micro, FitsNot, FitsNone, AreTexts}
use Rattle.qrcode_bits.proofs.Prelude.{common_steps}
use Rattle.qrcode_base.proofs.Fields.{capacity-held}
use Rattle.qrcode_bits.proofs.{Texts.length-slice, Texts.texts-reach, Texts.texts-plan}

-- no mode has fewer than ten bits for three bytes
module _ (whole : List ℕ) (v : Version) where
  texts-dense : (from to : ℕ) (ss : List Segment) → AreTexts whole from ss to → to ≤ length whole → 10 * (to - from) ≤ 3 * total_bits v ss
  texts-dense from to [] h k = omega arith
  texts-dense from to (s ∷ ss) h k = grind (arith, common_steps, texts-reach, length-slice, texts-dense s.end to ss h.3 k)

  -- with the header of the first
  texts-headed : (header from to : ℕ) (ss : List Segment) → ((m : Mode) → header ≤ indicator_width v + count_width v m) → from < to →
      AreTexts whole from ss to → to ≤ length whole → 10 * (to - from) + 3 * header ≤ 3 * total_bits v ss
  texts-headed header from to [] g some h k = absurd (omega arith)
  texts-headed header from to (s ∷ ss) g some h k = grind (arith, common_steps, texts-reach, length-slice, texts-dense)

-- the shortest header of a segment in the versions 27 to 40
long_header : (n : ℕ) → 27 ≤ n → (m : Mode) → 16 ≤ indicator_width (normal n) + count_width (normal n) m
long_header n h m = grind arith

most : (l : EcLevel) (n c : ℕ) → capacity (normal n) l ≡ Some c → (c ≤ 23648) × (n < 27 → c ≤ 10960)
most l n c known = grind (arith, capacity-held l n c known)

-- No plan of more than 7089 bytes fits any version.
pub long_message : (front : ℕ) (message : List ℕ) (l : EcLevel) (limit : ℕ) → limit ≤ 40 → All (λ c. c < 256) message → 7089 < length message →
    FitsNone normal front message l limit
long_message front message l limit last are long n k plan w =
    let texts = texts-plan message are plan w.planned in
    let bare = texts-dense message (normal n) 0 (length message) plan texts (omega arith) in
    elim (cases_lt n 27) [
      | inl early ↦ (let held = most l n w.limit w.has_level in omega (arith, held.1 early))
      | inr late ↦ (let held = most l n w.limit w.has_level in
          let headed = texts-headed message (normal n) 16 0 (length message) plan (long_header n late) (omega arith) texts (omega arith) in
          omega (arith, held.0))
    ]

-- No plan of more bytes than three for ten bits of the capacity fits a version.
pub dense_message : (front : ℕ) (message : List ℕ) (v : Version) (l : EcLevel) (limit : ℕ) → All (λ c. c < 256) message → capacity v l ≡ Some limit →
    limit < length message / 3 * 10 → FitsNot front message v l
dense_message front message v l limit are known long plan w =
    grind (arith, texts-dense message v 0 (length message) plan (texts-plan message are plan w.planned), common_steps)

-- ---- Micro

micro-most : (l : EcLevel) (n c : ℕ) → n ≤ 4 → capacity (micro n) l ≡ Some c → c ≤ 128
micro-most l n c k h = grind arith

-- No plan of more than 7089 bytes fits a Micro version.
pub long_for_micro : (message : List ℕ) (l : EcLevel) → All (λ c. c < 256) message → 7089 < length message → FitsNone micro 0 message l 4
long_for_micro message l are long n k plan w =
    grind (arith, micro-most l n w.limit k w.has_level, texts-dense message (micro n) 0 (length message) plan (texts-plan message are plan w.planned))
