-- Several pushes, one after the other.
use Rattle.qrcode_bits.proofs.Prelude.{◌≡◌, ℕ, ◌<◌, List, [], ◌∷◌, ◌++◌, length, append_assoc, append-nil, arith, length-append, Some, Result, Ok, Err, inl}
use Rattle.qrcode_bits.proofs.Prelude.{inr, ◌⊎◌, All, slice_get, slice_get_past, take-length, All-head, All-tail, QrError, OutOfMemory, IsValid, IsFirstInvalid}
use Rattle.qrcode_bits.proofs.Prelude.{Segment, Piece, IsSpellable, segment_piece, segment_pieces, Stream, Spells, SpellsAll, StopsAt, PushesDrawn}
use Rattle.qrcode_bits.proofs.Prelude.{IsPushRefused, common_steps}

pub spells_none : (s : Stream) → SpellsAll s s []
spells_none s = grind (arith, append-nil)

-- one more push, in front
spells_first : (old next new : Stream) (p : Piece) (ps : List Piece) → Spells old next p → SpellsAll next new ps → SpellsAll old new (p ∷ ps)
spells_first old next new p ps h w = grind (arith, append_assoc, length-append)

push_first : (old next new : Stream) (p : Piece) (ps : List Piece) (result : Result Unit QrError) → Spells old next p → PushesDrawn next ps result new →
    PushesDrawn old (p ∷ ps) result new
push_first old next new p ps (Ok u) h w = spells_first old next new p ps h w
push_first old next new p ps (Err e) h w = grind (arith, spells_first old next new p w.done h w.pushed)

push_refused : (old new : Stream) (p : Piece) (e : QrError) → new ≡ old → IsPushRefused old p e → StopsAt old new (p ∷ []) [] e
push_refused old new p e same why = grind (arith, spells_none old)

-- ---- In turn

-- One push after the other, of which only the last may fail.
abbrev pub PushesInTurn : Stream → List Piece → Result Unit QrError → Stream → Type 0
PushesInTurn old [] result new = (result ≡ Ok tt) × (new ≡ old)
PushesInTurn old (piece ∷ rest) result new =
    ((next : Stream) × Spells old next piece × PushesInTurn next rest result new)
    ⊎ ((e : QrError) × (result ≡ Err e) × IsPushRefused old piece e × (new ≡ old) × (rest ≡ []))

pub in_turn : (old new : Stream) (ps : List Piece) (result : Result Unit QrError) → PushesInTurn old ps result new → PushesDrawn old ps result new
in_turn old new [] result h = grind (arith, spells_none)
in_turn old new (p ∷ ps) result (inl w) = push_first old w.0 new p ps result w.1 (in_turn w.0 new ps result w.2)
in_turn old new (p ∷ ps) result (inr w) = grind (arith, push_refused)

-- what stops at the last of some pieces stops in a longer list too
pub stops_longer : (old new : Stream) (ps qs : List Piece) (e : QrError) → StopsAt old new ps [] e → StopsAt old new (ps ++ qs) qs e
stops_longer old new ps qs e w = grind (arith, append_assoc)

-- ---- Segments

pub pieces_more : (bytes : List ℕ) (ys : List Segment) (s : Segment) (rest : List Piece) → segment_pieces bytes (ys ++ s ∷ []) ++ rest ≡ segment_pieces bytes ys
    ++ (segment_piece bytes s ∷ rest)
pieces_more bytes ys s rest = grind (arith, common_steps)

-- what holds of each of some segments holds of the last
pub last_of : (P : Segment → Type 0) (ys : List Segment) (s : Segment) → All P (ys ++ s ∷ []) → P s
last_of P ys s h = grind (arith, common_steps, All-head, All-tail)

-- ---- Plans of which each part can be spelled

got_within : (s : List ℕ) (i x : ℕ) → slice_get s i ≡ Some x → i < length s
got_within s i x h = grind (arith, slice_get_past)

-- a valid text has no first invalid byte
none_invalid : (piece : Piece) (position byte : ℕ) → IsValid piece.mode piece.text → IsFirstInvalid (IsValid piece.mode) piece.text position byte → ⊥
none_invalid piece position byte valid h = grind (arith, got_within piece.text position byte h.byte_is, take-length piece.text)

-- the push of a piece that can be spelled fails only with `OutOfMemory`
pub spellable_refused : (old : Stream) (piece : Piece) (e : QrError) → IsSpellable old.version piece → IsPushRefused old piece e → e ≡ OutOfMemory
spellable_refused old piece e h r = grind (arith, none_invalid)
