-- The stream of a plan that fits: a push fails only with `OutOfMemory`, and up to the capacity the
-- stream is a frame.
use Rattle.qrcode_bits.proofs.Prelude.{◌≡◌, ℕ, ◌+◌, ◌<◌, ◌≤◌, List, ◌∷◌, ◌++◌, length, ap, sym, ◌∙◌, subst, arith, length-append, EcLevel, QrError, OutOfMemory}
use Rattle.qrcode_bits.proofs.Prelude.{Segment, total_bits, Fits, no_modes, Front, HasFront, front_bits, spellings, Stream, Spells, EndsAtLevel, IsLevelRefused}
use Rattle.qrcode_bits.proofs.Prelude.{with_modes, IsPlanStream, drop, drop-cons, IsSpellable, All, All-head, All-tail, drop_all, append-nil, segment_at}
use Rattle.qrcode_bits.proofs.Prelude.{Version, Mode, Content, Elements, AreDataOf, parsed_bytes, pieces_of, piece_text, slice_range, refl, ended, Some}
use Rattle.qrcode_bits.proofs.Prelude.{capacity, common_steps, piece_of}
use Rattle.qrcode_bits.proofs.{Choices.some_same, PlanFrames.own_piece, PlanFrames.spelled_plan, PlanFrames.plan_frame, Contents.slice-parsed}

-- ---- The piece of a segment

-- it is cut from what is written of all the bytes
pub slice-written : (c : Content) (m : Mode) (bytes : List ℕ) (a b : ℕ) → slice_range (piece_text c m bytes) a b ≡ piece_text c m (slice_range bytes a b)
slice-written c m bytes a b = grind (arith, slice-parsed Elements bytes a b)

-- the piece whose text is cut from what is written
pub own_is : (c d : Content) (bytes text : List ℕ) (s : Segment) → d ≡ c → text ≡ piece_text d s.mode bytes →
    piece_of s.mode (slice_range text s.begin s.end) ≡ own_piece c bytes s
own_is c d bytes text s e h =
    let is : text ≡ piece_text c s.mode bytes = h ∙ ap (λ (z : Content). piece_text z s.mode bytes) e in
    ap (λ (z : List ℕ). piece_of s.mode z) (ap (λ (z : List ℕ). slice_range z s.begin s.end) is ∙ slice-written c s.mode bytes s.begin s.end)

-- the parts of a plan from an index on
own_pieces_at : (c : Content) (bytes : List ℕ) (plan : List Segment) (i : ℕ) → i < length plan →
    pieces_of c bytes (drop i plan) ≡ own_piece c bytes (segment_at plan i) ∷ pieces_of c bytes (drop (i + 1) plan)
own_pieces_at c bytes plan i within = grind (arith, drop-cons)

-- What is pushed of a plan before a part, and what is left, are the front and the whole plan; each
-- part can be spelled.
pub record IsPushedTo (f : Front) (bytes : List ℕ) (v : Version) (plan : List Segment) (i : ℕ) (now : Stream) : Type 0 where
  pub version : now.version ≡ v
  pub spellable : All (IsSpellable v) (pieces_of f.content bytes (drop i plan))
  pub bits : now.bits ++ spellings v (pieces_of f.content bytes (drop i plan)) ≡ front_bits f ++ spellings v (pieces_of f.content bytes plan)
  pub modes : with_modes now.modes (pieces_of f.content bytes (drop i plan)) ≡ with_modes no_modes (pieces_of f.content bytes plan)

module _ (f : Front) (bytes : List ℕ) (v : Version) (plan : List Segment) (i : ℕ) (now : Stream) (h : IsPushedTo f bytes v plan i now) where
  pub part_spellable : i < length plan → IsSpellable now.version (own_piece f.content bytes (segment_at plan i))
  part_spellable within = rw h.version
      (All-head (IsSpellable v) (own_piece f.content bytes (segment_at plan i)) (pieces_of f.content bytes (drop (i + 1) plan))
      (subst (All (IsSpellable v)) (own_pieces_at f.content bytes plan i within) h.spellable))

  pub pushed_more : (next : Stream) → i < length plan → Spells now next (own_piece f.content bytes (segment_at plan i)) →
      IsPushedTo f bytes v plan (i + 1) next
  pushed_more next within w =
      grind (
        arith,
        common_steps,
        own_pieces_at f.content bytes plan i within,
        All-tail (IsSpellable v) (own_piece f.content bytes (segment_at plan i)) (pieces_of f.content bytes (drop (i + 1) plan))
            (subst (All (IsSpellable v)) (own_pieces_at f.content bytes plan i within) h.spellable),
      )

-- ---- The stream of a plan, after the front

module _ (f : Front) (bytes : List ℕ) (are : All (λ c. c < 256) bytes) (suited : AreDataOf f.content bytes) (v : Version) (level : EcLevel)
    (plan : List Segment) (message : List ℕ) (same : message ≡ parsed_bytes f.content bytes) (found : Fits (length (front_bits f)) message v level plan) where
  fits_parsed : Fits (length (front_bits f)) (parsed_bytes f.content bytes) v level plan
  fits_parsed = subst (λ (z : List ℕ). Fits (length (front_bits f)) z v level plan) same found

  pub pushed_none : (start : Stream) → start.bits ≡ front_bits f → start.version ≡ v → start.modes ≡ no_modes → IsPushedTo f bytes v plan 0 start
  pushed_none start begun version modes = grind (arith, spelled_plan (length (front_bits f)) v level f.content bytes plan are suited fits_parsed)

  module _ (i : ℕ) (past : length plan ≤ i) (middle : Stream) (w : IsPushedTo f bytes v plan i middle) where
    pushed_bits : middle.bits ≡ front_bits f ++ spellings v (pieces_of f.content bytes plan)
    pushed_bits = grind (arith, append-nil, drop_all, w)

    pushed_modes : middle.modes ≡ with_modes no_modes (pieces_of f.content bytes plan)
    pushed_modes = grind (arith, drop_all, w)

    pushed_size : length middle.bits ≡ length (front_bits f) + total_bits v plan
    pushed_size = grind (arith, length-append, pushed_bits, spelled_plan (length (front_bits f)) v level f.content bytes plan are suited fits_parsed)

    pub plan_end_refused : (e : QrError) → IsLevelRefused middle level e → e ≡ OutOfMemory
    plan_end_refused e r = grind (arith, pushed_size, w, fits_parsed)

    pub plan_stream : (last : Stream) → HasFront v f → EndsAtLevel middle last level → IsPlanStream f bytes v level plan last
    plan_stream last has e =
        let limit : e.limit ≡ fits_parsed.limit = some_same _ _ (capacity v level)
        (sym (ap (λ (z : Version). capacity z level) w.version) ∙ e.limit_is) fits_parsed.has_level in
        let bits : last.bits ≡ ended v fits_parsed.limit (front_bits f ++ spellings v (pieces_of f.content bytes plan)) =
        e.ends.bits_are ∙ rw (w.version, limit, pushed_bits) refl in
        record {
          limit = fits_parsed.limit;
          limit_is = fits_parsed.has_level;
          version_is = e.ends.version_is ∙ w.version;
          bits_are = bits;
          modes_are = e.ends.modes_are ∙ pushed_modes;
          payload_is = e.ends.payload_is ∙ ap (λ (n : ℕ). Some n) pushed_size;
          frame = rw bits (plan_frame v level f bytes plan are has suited fits_parsed);
        }
