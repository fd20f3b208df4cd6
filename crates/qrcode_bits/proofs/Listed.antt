-- Pushes from an iterator over a list of segments.
use Rattle.qrcode_bits.proofs.Prelude.{arith, ◌≡◌, ℕ, List, ◌++◌, length, take, drop, sym, ap, ◌∙◌, subst, Result, Ok, Err, All, IsOk, Option, map-id}
use Rattle.qrcode_bits.proofs.Prelude.{map-append, take-append-drop, All-take, QrError, Segment, Piece, segment_piece, segment_pieces, Stream, PushesPieces}
use Rattle.qrcode_bits.proofs.Prelude.{PushesDrawn, StopsAt}
use Rattle.std.{specs.Iterator.DrainsIf, proofs.lemmas.Iterator.YieldsList, proofs.lemmas.Iterator.items_from_drains}
use Rattle.std.{proofs.lemmas.Iterator.Consumers.YieldsList-so_far}
use Rattle.qrcode_bits.proofs.Pushes.{stops_longer}

module _ {S : Type 0} {steps : S → Option Segment → S → Type 0} (s : S) (all : List Segment) (gives : YieldsList steps (λ x. x) s all) where
  -- what was taken so far is a prefix of the list
  given_so_far : (W : Type 0) (xs : List Segment) → DrainsIf steps W s xs → xs ≡ take (length xs) all
  given_so_far W xs h = sym (map-id xs) ∙ YieldsList-so_far gives xs h.0 h.1

  -- what holds of each segment of the list holds of each that was taken
  pub given_all : (P : Segment → Type 0) (W : Type 0) (xs : List Segment) → All P all → DrainsIf steps W s xs → All P xs
  given_all P W xs each h = subst (λ (z : List Segment). All P z) (sym (given_so_far W xs h)) (All-take P (length xs) all each)

  -- A push of what was taken is a push of the list: all were taken, or the push of one failed.
  pub pushes_all : (old new : Stream) (bytes : List ℕ) (xs : List Segment) (result : Result Unit QrError) → DrainsIf steps (IsOk result) s xs →
      PushesDrawn old (segment_pieces bytes xs) result new → PushesPieces old (segment_pieces bytes all) result new
  pushes_all old new bytes xs (Ok u) h w = grind (arith, items_from_drains, map-id xs)
  pushes_all old new bytes xs (Err e) h w =
      let failed : Result Unit QrError = Err e in
      let rest : List Segment = drop (length xs) all in
      let whole : xs ++ rest ≡ all = ap (λ (z : List Segment). z ++ rest) (given_so_far (IsOk failed) xs h) ∙ take-append-drop (length xs) all in
      let pieces : segment_pieces bytes xs ++ segment_pieces bytes rest ≡ segment_pieces bytes all =
      sym (map-append (segment_piece bytes) xs rest) ∙ ap (λ (z : List Segment). segment_pieces bytes z) whole in (
        segment_pieces bytes rest,
        subst (λ (z : List Piece). StopsAt old new z (segment_pieces bytes rest) e) pieces
            (stops_longer old new (segment_pieces bytes xs) (segment_pieces bytes rest) e w),
      )
