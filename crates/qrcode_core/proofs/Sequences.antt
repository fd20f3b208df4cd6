-- The symbols of a sequence: parts that are one message, in whatever order, and the best symbol
-- of each part.
use Rattle.qrcode_core.proofs.Prelude.{common_steps, ◌≡◌, ℕ, zero, suc, ◌+◌, ◌-◌, ◌<◌, ◌≤◌, refl, sym, ◌∙◌, arith, List, [], ◌∷◌, ◌++◌, length, get_or, drop}
use Rattle.qrcode_core.proofs.Prelude.{IsPermutation, slice_range, concat, IsNonDecreasing, same_lists, get_or_default, IsPermutation-sym, IsPermutation-trans}
use Rattle.qrcode_core.proofs.Prelude.{Contains-permutation, length_permutation, same_Some, Color, Header, Reading, ReadsPiece, ReadsMessage, HaveOneMessage}
use Rattle.qrcode_core.proofs.Prelude.{parts_from}
use Rattle.qrcode_core.proofs.Prelude.{parts_at, ap, subst, inl, inr, length-append, cases_eq, get_or_append_left, get_or_push, IsPermutation-refl, EcLevel}
use Rattle.qrcode_core.proofs.Prelude.{QrError, DataTooLong, InvalidResourceLimits, IsTotal, IsNormalNumber, ℤ}
use Rattle.qrcode_core.proofs.OneReading.{one_reading}
use Rattle.qrcode_core.specs.Sequence.{header_at, AreBestSymbols, IsBestPart, IsPartTooLongAt, IsSomePartTooLong, IsSequenceRefusal}
use Rattle.std.proofs.lemmas.List.{take-append-drop, drop-drop, append-nil, take_all, length-drop, Elements.Contains-get_or}
use Rattle.std.proofs.Common.{Some}
use Rattle.qrcode_bits.specs.Frame.{Front, front_of}
use Rattle.qrcode_bits.specs.declared.bits.front.Content.{Content}
use Rattle.std.proofs.Common.{nat_abs, ◌≢◌, Result, Ok, Err, IfOk, OnOk}
use Rattle.qrcode_core.proofs.NoneBetter.{front-long}
use Rattle.qrcode_core.specs.Headline.{IsBestUpTo}
use Rattle.qrcode_core.proofs.Prelude.{normal, parsed_bytes}
use Rattle.qrcode_bits.{specs.Push.IsFrontRefused, specs.Plans.FitsNone}

-- ---- Some grids are read as one message at most, in whatever order; and the parts of a message
-- are the message

-- ---- One message

-- a grid is read as one piece with one header
one_piece : (grid : List Color) (g h : Header) (c d : Content) (a b : List ℕ) → ReadsPiece grid g c a → ReadsPiece grid h d b →
    (g ≡ h) × (c ≡ d) × (a ≡ b)
one_piece grid g h c d a b p q =
    let same = one_reading grid p.reading q.reading p.reads q.reads in
    let fronts : front_of (Some g) c ≡ front_of (Some h) d = sym p.front_is ∙ (ap (λ (r : Reading). r.front) same ∙ q.front_is) in (
      same_Some g h (ap (λ (f : Front). f.header) fronts),
      ap (λ (f : Front). f.content) fronts,
      sym p.piece_is ∙ (ap (λ (r : Reading). r.bytes) same ∙ q.piece_is),
    )

-- the piece at a place is the same in two readings
same_piece : (grids : List (List Color)) (c d : Content) (m n : List ℕ) (f : ReadsMessage grids c m) (g : ReadsMessage grids d n) (i : ℕ) → i < length grids →
    (c ≡ d) × (get_or f.pieces i [] ≡ get_or g.pieces i [])
same_piece grids c d m n f g i inside =
    let sorted = length_permutation grids f.in_order f.same_grids in
    let others = length_permutation grids g.in_order g.same_grids in
    let grid = get_or f.in_order i [] in
    let moved = IsPermutation-trans f.in_order grids g.in_order (IsPermutation-sym grids f.in_order f.same_grids) g.same_grids in
    let found = Contains-permutation f.in_order g.in_order grid moved (Contains-get_or f.in_order i [] (omega arith)) in
    let there = g.each_read found.0 (omega (arith, found.1)) in
    grind (arith, one_piece grid, f.each_read i inside, there, get_or_default g.in_order found.0 [] grid found.1 ∙ found.2)

-- Grids that are read as a message are so in every order.
pub in_any_order : (grids shuffled : List (List Color)) (c : Content) (message : List ℕ) → IsPermutation grids shuffled → ReadsMessage grids c message →
    ReadsMessage shuffled c message
in_any_order grids shuffled c message mixed seen =
    let long : length grids ≡ length shuffled = sym (length_permutation grids shuffled mixed) in
    record {
      in_order = seen.in_order;
      pieces = seen.pieces;
      enough = subst IsTotal long seen.enough;
      same_grids = IsPermutation-trans shuffled grids seen.in_order (IsPermutation-sym grids shuffled mixed) seen.same_grids;
      a_piece_each = seen.a_piece_each ∙ long;
      each_read = λ i inside. rw long at seen.each_read i (omega (arith, inside, long));
      message_is = seen.message_is;
    }

pub one_message : HaveOneMessage
one_message grids shuffled c d m n mixed f h =
    let g = in_any_order shuffled grids d n (IsPermutation-sym grids shuffled mixed) h in
    let pieces : f.pieces ≡ g.pieces = same_lists f.pieces g.pieces (omega (arith, f.a_piece_each, g.a_piece_each)) (λ k x below.
    let same = (same_piece grids c d m n f g k (omega (arith, below, f.a_piece_each))).1 in
    grind (arith, common_steps, same, get_or_default, f.a_piece_each, g.a_piece_each)) in
    ((same_piece grids c d m n f g 0 (omega (arith, f.enough))).0, cc (f.message_is, g.message_is))

-- ---- Parts

-- The parts between cuts that don't fall, one after the other, are what follows the start.
concat-parts : (start : ℕ) (cuts message : List ℕ) → IsNonDecreasing (start ∷ cuts) → concat (parts_from start cuts message) ≡ drop start message
concat-parts start [] message rise = append-nil (drop start message)
concat-parts start (cut ∷ cuts) message rise =
    let up : start ≤ cut = rise 0 1 0 (omega arith) (omega arith) in
    let rest = concat-parts cut cuts message (λ i j d below inside. rise (suc i) (suc j) d (omega arith) (omega arith)) in
    let whole : start + (cut - start) ≡ cut = omega arith in
    grind (arith, rest, whole, drop-drop (cut - start) start message, take-append-drop (cut - start) (drop start message))

pub length-parts : (start : ℕ) (cuts message : List ℕ) → length (parts_from start cuts message) ≡ length cuts + 1
length-parts start [] message = refl
length-parts start (cut ∷ cuts) message = let rest = length-parts cut cuts message in omega arith

-- Each part runs from the start or the cut before it to its own cut or the end.
pub part_at : (start : ℕ) (cuts message : List ℕ) (i : ℕ) → i ≤ length cuts →
    get_or (parts_from start cuts message) i [] ≡ slice_range message (get_or (start ∷ cuts) i 0) (get_or (cuts ++ length message ∷ []) i 0)
part_at start [] message i inside = grind (arith, common_steps, take_all, length-drop)
part_at start (cut ∷ cuts) message zero inside = refl
part_at start (cut ∷ cuts) message (suc i) inside = part_at cut cuts message i (omega arith)

-- The parts between cuts that don't fall are together the message.
pub parts_whole : (cuts message : List ℕ) → IsNonDecreasing cuts → message ≡ concat (parts_at cuts message)
parts_whole cuts message rise = sym (concat-parts 0 cuts message (grind (arith, common_steps, rise)))

-- ---- The symbols of a sequence, as they are made one after the other

-- The first symbols of a sequence, for as many first parts.
pub record AreFirstSymbols (content : Content) (message cuts : List ℕ) (level : EcLevel) (limit total done : ℕ) (grids : List (List Color)) : Type 0 where
  pub a_grid_each : length grids ≡ done
  pub each_best : (i : ℕ) → i < done →
      IsBestUpTo (front_of (Some (header_at (i + 1) total message)) content) (get_or (parts_at cuts message) i []) level limit (get_or grids i [])

pub one_more : (content : Content) (message cuts : List ℕ) (level : EcLevel) (limit total done : ℕ) (grids : List (List Color)) (grid : List Color) →
    AreFirstSymbols content message cuts level limit total done grids →
    IsBestUpTo (front_of (Some (header_at (done + 1) total message)) content) (get_or (parts_at cuts message) done []) level limit grid →
    AreFirstSymbols content message cuts level limit total (done + 1) (grids ++ grid ∷ [])
one_more content message cuts level limit total done grids grid first next = record {
  a_grid_each = omega (arith, length-append grids (grid ∷ []), first.a_grid_each);
  each_best = λ i below. elim (cases_eq i done) [
    | inl last ↦ rw (last, get_or_push grids grid [] done first.a_grid_each) next
    | inr earlier ↦ rw (get_or_append_left grids (grid ∷ []) [] i (omega (arith, first.a_grid_each))) (first.each_best i (omega arith))
  ];
}

-- All of them are the result.
pub best_symbols : (content : Content) (message cuts : List ℕ) (level : EcLevel) (limit total done : ℕ) (grids : List (List Color)) →
    IsNonDecreasing cuts → IsTotal total → total ≡ length cuts + 1 → done ≡ total →
    AreFirstSymbols content message cuts level limit total done grids → AreBestSymbols content message cuts level limit grids
best_symbols content message cuts level limit total done grids rise few count all first =
    let size : total ≡ length grids = sym (first.a_grid_each ∙ all) in
    let best = λ (i : ℕ) (inside : i < length grids). first.each_best i (omega arith) in
    let read : ReadsMessage grids content message = record {
      in_order = grids;
      pieces = parts_at cuts message;
      enough = rw size at few;
      same_grids = IsPermutation-refl grids;
      a_piece_each = length-parts 0 cuts message ∙ sym count ∙ size;
      each_read = λ i inside.
          let symbol = rw size at best i inside in
          record {
            reading = symbol.best.reading;
            reads = symbol.best.reads;
            front_is = ap (λ r. r.front) symbol.best.says;
            piece_is = ap (λ r. r.bytes) symbol.best.says;
          };
      message_is = parts_whole cuts message rise;
    } in
    record {
      a_grid_each = sym size ∙ count;
      each_best = λ i inside. rw count at best i inside;
      reads = λ shuffled mixed. in_any_order grids shuffled content message mixed read;
      only = λ shuffled c other mixed seen.
          let same = one_message grids shuffled content c message other mixed read seen in (sym same.0, sym same.1);
    }

-- A part that fails for its length or for memory makes the sequence fail likewise; the limit is
-- not the reason.
pub refused_part : (content : Content) (message cuts : List ℕ) (level : EcLevel) (limit : ℤ) (total i : ℕ) (header : Header) (e : QrError) →
    IsNormalNumber limit → IsTotal total → total ≡ length cuts + 1 → i < total →
    IsFrontRefused (front_of (Some header) content) (get_or (parts_at cuts message) i []) level limit e → IsSequenceRefusal content message cuts level limit e
refused_part content message cuts level limit total i header InvalidResourceLimits in_range few count inside why = absurd (why in_range)
refused_part content message cuts level limit total i header DataTooLong in_range few count inside why = (
  in_range,
  subst IsTotal count few,
  (
    i,
    omega arith,
    subst (λ (n : ℕ). FitsNone normal n (parsed_bytes content (get_or (parts_at cuts message) i [])) level (nat_abs limit)) (front-long header content) why.1,
  ),
)
refused_part content message cuts level limit total i header e in_range few count inside why = grind (arith, common_steps)

-- What follows from a result, if there is one.
pub on_ok : {X E Q : Type 0} {P : X → Type 0} (r : Result X E) → ((x : X) → P x → Q) → IfOk r P → OnOk r Q
on_ok (Ok x) follows holds = follows x holds
on_ok (Err e) follows holds = tt

-- A part that has its symbol is not too long.
pub not_too_long : (content : Content) (message cuts : List ℕ) (level : EcLevel) (limit i : ℕ) (grid : List Color) →
    IsBestPart content message cuts level limit i grid → IsPartTooLongAt content message cuts level limit i → ⊥
not_too_long content message cuts level limit i grid part none =
    none part.best.number part.up_to part.best.plan (rw (front-long (header_at (i + 1) (length cuts + 1) message) content) at part.best.fits)

-- Where one part has its symbol and no other is too long, none is.
pub none_of_all : (content : Content) (message cuts : List ℕ) (level : EcLevel) (limit i : ℕ) (grid : List Color) →
    IsBestPart content message cuts level limit i grid →
    ((k : ℕ) → k < length cuts + 1 → k ≢ i → IsPartTooLongAt content message cuts level limit k → ⊥) →
    IsSomePartTooLong content message cuts level limit → ⊥
none_of_all content message cuts level limit i grid part others (k, inside, none) = elim (cases_eq k i) [
  | inl here ↦ not_too_long content message cuts level limit i grid part (subst (IsPartTooLongAt content message cuts level limit) here none)
  | inr other ↦ others k inside other none
]

-- Where each part has its symbol, none is too long.
pub none_too_long : (content : Content) (message cuts : List ℕ) (level : EcLevel) (limit : ℕ) (grids : List (List Color)) →
    AreBestSymbols content message cuts level limit grids → IsSomePartTooLong content message cuts level limit → ⊥
none_too_long content message cuts level limit grids all (i, inside, none) =
    not_too_long content message cuts level limit i _ (all.each_best i (omega (arith, all.a_grid_each))) none
