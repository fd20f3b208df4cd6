-- The segments that were taken, and the one that is pushed.
use Rattle.qrcode_bits.proofs.Prelude.{◌≡◌, List, [], ◌∷◌, ◌++◌, refl, sym, ◌∙◌, subst, append-nil, inl, inr, Ok, Err, err_from_is_err_and, Piece}
use Rattle.qrcode_bits.proofs.Prelude.{segment_piece, segment_pieces, LiesIn, Segment, Option, Some, All, ℕ, Stream, Spells, StopsAt, QrError, IsPushRefused}
use Rattle.std.{specs.Iterator.Yields, specs.Iterator.DrainsIf, proofs.iter.Next.Yields-more}
use Rattle.qrcode_bits.proofs.Pushes.{PushesInTurn, in_turn, pieces_more, last_of}
use Rattle.qrcode_bits.proofs.bits.Bits.push_from.Invariants.{InTurn}
use Rattle.qrcode_bits.proofs.bits.Bits.push_from.Goals as goal

-- the last segment that was taken lies within the data
drawn_lies : {S : Type 0} (gives : S → Option Segment → S → Type 0) (start now next : S) (xs : List Segment) (x : Segment) (n : ℕ) →
    Yields gives start xs now → gives now (Some x) next → ((ys : List Segment) → DrainsIf gives ⊥ start ys → All (LiesIn n) ys) → LiesIn n x
drawn_lies gives start now next xs x n came step within =
    last_of (LiesIn n) xs x (within (xs ++ x ∷ []) (next, Yields-more gives start xs now x next came step, λ bad. absurd bad))

more : (first now new : Stream) (bytes : List ℕ) (ys : List Segment) (x : Segment) → InTurn first now bytes ys →
    Spells now new (segment_piece bytes x) → InTurn first new bytes (ys ++ x ∷ [])
more first now new bytes ys x inv spells = λ result n rest h.
    subst (λ (z : List Piece). PushesInTurn first z result n) (sym (pieces_more bytes ys x rest))
    (inv result n (segment_piece bytes x ∷ rest) (inl (new, spells, h)))

stops : (first now new : Stream) (bytes : List ℕ) (ys : List Segment) (x : Segment) (e : QrError) → InTurn first now bytes ys →
    IsPushRefused now (segment_piece bytes x) e → new ≡ now → StopsAt first new (segment_pieces bytes (ys ++ x ∷ [])) [] e
stops first now new bytes ys x e inv refused same =
    subst (λ (z : List Piece). StopsAt first new z [] e) (sym (pieces_more bytes ys x []) ∙ append-nil _)
    (in_turn first new _ (Err e) (inv (Err e) new (segment_piece bytes x ∷ []) (inr (e, refl, refused, same, refl))))

pub loop-segment-init : goal.loop-segment-init
loop-segment-init g c = record {
  can = c.requires.can;
  ends = c.requires.ends;
  drawn = ([], refl, λ result new rest h. h);
}

pub slice_bounds-push_data-count : goal.slice_bounds-push_data-count
slice_bounds-push_data-count g c =
    let drawn = c.loop-segment.invariant.drawn in
    (drawn_lies g.I.Iterator.next_gives _ _ _ _ c.in-Some.segment _ drawn.1 c.in-Some.ensures.steps c.requires.within).0

pub slice_bounds-push_data-start : goal.slice_bounds-push_data-start
slice_bounds-push_data-start g c = slice_bounds-push_data-count g c

pub slice_bounds-push_data-end : goal.slice_bounds-push_data-end
slice_bounds-push_data-end g c =
    let drawn = c.loop-segment.invariant.drawn in
    (drawn_lies g.I.Iterator.next_gives _ _ _ _ c.in-Some.segment _ drawn.1 c.in-Some.ensures.steps c.requires.within).1

pub loop-segment-preserved : goal.loop-segment-preserved
loop-segment-preserved g c =
    let inv = c.loop-segment.invariant in
    let x = c.in-Some.segment in
    let goes = c.in-Some.ensures.goes.on inv.ends in
    record {
      can = goes.0;
      ends = goes.1;
      drawn = (
        inv.drawn.0 ++ x ∷ [],
        Yields-more g.I.Iterator.next_gives _ inv.drawn.0 _ x c.next.new.self inv.drawn.1 c.in-Some.ensures.steps,
        more c.args.self.now c.loop-segment.self c.push_data.new.self c.args.bytes.now inv.drawn.0 x inv.drawn.2 c.in_ok-push_data.ensures.ok,
      );
    }

pub returns-in_err-push_data : goal.returns-in_err-push_data
returns-in_err-push_data g c =
    let drawn = c.loop-segment.invariant.drawn in
    let x = c.in-Some.segment in
    let e = c.in_err-push_data.field-0.0 in
    let p = err_from_is_err_and c.from_residual.result c.from_residual.ensures.1 in
    let gives : c.from_residual.result ≡ Err e = rw (p.1, p.2) refl in
    rw gives (
      drawn.0 ++ x ∷ [],
      Yields-more g.I.Iterator.next_gives _ drawn.0 _ x c.next.new.self drawn.1 c.in-Some.ensures.steps,
      stops c.args.self.now c.loop-segment.self c.push_data.new.self c.args.bytes.now drawn.0 x e drawn.2 c.in_err-push_data.ensures.refusal
          c.in_err-push_data.ensures.unchanged,
    )

pub returns : goal.returns
returns g c =
    let drawn = c.loop-segment.invariant.drawn in (
      drawn.0,
      (c.loop-segment.segments, drawn.1, c.in_default.ensures.steps),
      in_turn c.args.self.now c.loop-segment.self (segment_pieces c.args.bytes.now drawn.0) (Ok tt)
          (subst (λ (z : List Piece). PushesInTurn c.args.self.now z (Ok tt) c.loop-segment.self) (append-nil (segment_pieces c.args.bytes.now drawn.0))
          (drawn.2 (Ok tt) c.loop-segment.self [] (refl, refl))),
    )
