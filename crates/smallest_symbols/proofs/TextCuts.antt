-- The parts of a text that is cut between characters: they are texts, and their characters one after
-- the other are those of the text.
use Rattle.std.proofs.Common.{◌≡◌, ℕ, zero, suc, ◌+◌, ◌-◌, ◌≤◌, List, [], ◌∷◌, ◌++◌, drop, map, chars}
use Rattle.std.proofs.Common.{sym, ap, ◌∙◌, arith}
use Rattle.std.specs.Prelude.{All, slice_range}
use Rattle.std.specs.List.{concat}
use Rattle.std.specs.List.Sorted.{IsNonDecreasing}
use Rattle.std.specs.Str.{IsCharBoundary, IsUtf8}
use Rattle.std.specs.String.Boundary.{IsSplitPoint}
use Rattle.std.proofs.lemmas.List.{append-nil, drop-drop, take-append-drop}
use Rattle.std.proofs.lemmas.List.Elements.{All-head, All-tail}
use Rattle.std.proofs.lemmas.Str.{IsCharBoundary-start, IsUtf8-between, chars-append}
use Rattle.qrcode_core.specs.Sequence.{parts_at, parts_from}

-- A place at which a text may be cut begins a character, or is its end.
pub boundary : (message : List ℕ) (place : ℕ) → IsUtf8 message → IsSplitPoint message place → IsCharBoundary message place
boundary message zero utf8 h = IsCharBoundary-start message utf8
boundary message (suc n) utf8 h = (h.0, h.1 (omega arith))

abbrev AreBoundaries : List ℕ → List ℕ → Type 0
AreBoundaries message cuts = All (IsSplitPoint message) cuts

chars-parts : (start : ℕ) (cuts message : List ℕ) → IsUtf8 message → IsSplitPoint message start → IsNonDecreasing (start ∷ cuts) →
    AreBoundaries message cuts → concat (map chars (parts_from start cuts message)) ≡ chars (drop start message)
chars-parts start [] message utf8 here rise places = append-nil (chars (drop start message))
chars-parts start (cut ∷ cuts) message utf8 here rise places =
    let up : start ≤ cut = rise 0 1 0 (omega arith) (omega arith) in
    let next = All-head (IsSplitPoint message) cut cuts places in
    let rest = chars-parts cut cuts message utf8 next (λ i j d below inside. rise (suc i) (suc j) d (omega arith) (omega arith))
    (All-tail (IsSplitPoint message) cut cuts places) in
    let whole : start + (cut - start) ≡ cut = omega arith in
    let text : IsUtf8 (slice_range message start cut) =
    IsUtf8-between message start cut utf8 up (boundary message start utf8 here) (boundary message cut utf8 next) in
    let joined : chars (slice_range message start cut ++ drop cut message) ≡ chars (slice_range message start cut) ++ chars (drop cut message) =
    chars-append (slice_range message start cut) (drop cut message) text in
    let both : slice_range message start cut ++ drop cut message ≡ drop start message =
    grind (arith, whole, drop-drop (cut - start) start message, take-append-drop (cut - start) (drop start message)) in
    ap (λ (xs : List ℕ). chars (slice_range message start cut) ++ xs) rest ∙ (sym joined ∙ ap (λ (xs : List ℕ). chars xs) both)

-- cuts that don't fall don't fall after 0
from_zero : (cuts : List ℕ) → IsNonDecreasing cuts → IsNonDecreasing (0 ∷ cuts)
from_zero cuts rise zero j d below inside = omega arith
from_zero cuts rise (suc i) zero d below inside = absurd (omega (arith, below))
from_zero cuts rise (suc i) (suc j) d below inside = rise i j d (omega (arith, below)) (omega (arith, inside))

-- The characters of the parts, one after the other, are those of the text.
pub chars_whole : (cuts message : List ℕ) → IsUtf8 message → IsNonDecreasing cuts → AreBoundaries message cuts →
    chars message ≡ concat (map chars (parts_at cuts message))
chars_whole cuts message utf8 rise places =
    sym (chars-parts 0 cuts message utf8 (omega arith, λ some. absurd (omega (arith, some))) (from_zero cuts rise) places)
