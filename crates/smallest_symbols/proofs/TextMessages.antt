-- The symbols of a text that is spread over several: parts that are one text, in whatever order, and
-- the smallest symbol of each part.
use Rattle.std.proofs.Common.{◌≡◌, ℕ, ℤ, ◌+◌, ◌<◌, List, [], ◌∷◌, ◌++◌, chars, get_or, length, map}
use Rattle.std.proofs.Common.{nat_abs, inl, inr, refl, sym, ap, subst, ◌∙◌, arith}
use Rattle.std.proofs.Common.{length-append}
use Rattle.std.specs.Prelude.{◌≤◌, All, IsPermutation, Some, encode_utf8_all}
use Rattle.std.specs.List.{concat}
use Rattle.std.specs.List.Sorted.{IsNonDecreasing}
use Rattle.std.specs.Str.{IsUtf8}
use Rattle.std.specs.String.Boundary.{IsSplitPoint}
use Rattle.std.proofs.lemmas.Bool.{cases_eq}
use Rattle.std.proofs.lemmas.Grind.{common_steps}
use Rattle.std.proofs.lemmas.List.{get_or-map, get_or_append_left, get_or_default, get_or_push}
use Rattle.std.proofs.lemmas.List.{length-map, same_lists, Elements.Contains-get_or}
use Rattle.std.proofs.lemmas.List.Sorted.{Contains-permutation, IsPermutation-refl}
use Rattle.std.proofs.lemmas.List.Sorted.{IsPermutation-sym, IsPermutation-trans}
use Rattle.std.proofs.lemmas.List.Sorted.{length_permutation}
use Rattle.std.proofs.lemmas.Option.{same_Some}
use Rattle.std.proofs.lemmas.Str.{encodes-chars}
use Rattle.qrcode_base.specs.Symbols.{IsNormalNumber}
use Rattle.qrcode_base.specs.declared.types.Color.{Color}
use Rattle.qrcode_base.specs.declared.types.EcLevel.{EcLevel}
use Rattle.qrcode_base.specs.declared.types.errors.QrError.{QrError}
use Rattle.qrcode_base.specs.declared.types.errors.QrError.TheVariants.{DataTooLong, OutOfMemory}
use Rattle.qrcode_bits.specs.Frame.{Header, IsTotal, header_bits}
use Rattle.qrcode_bits.proofs.Reading.{length-header}
use Rattle.qrcode_core.specs.Sequence.{header_at, parts_at}
use Rattle.qrcode_core.proofs.Sequences.{length-parts}
use Rattle.qrcode_base.specs.Symbols.{capacity}
use Rattle.qrcode_base.specs.declared.types.Version.{Version}
use Rattle.qrcode_bits.specs.Plans.{normal}
use Rattle.character_sets.specs.Reading.{IsReadAs, Part}
use Rattle.text_plans.specs.Costs.{bits_of_parts}
use Rattle.text_plans.specs.Manners.{ArePartsIn, mixed_in, plain_in}
use Rattle.text_plans.specs.declared.rules.Manner.{Manner}
use Rattle.text_plans.specs.declared.rules.Manner.TheVariants.{Ascii, Paired, Designated}
use Rattle.text_plans.proofs.AllWays.{reads_so}
use Rattle.smallest_symbols.specs.TextParts.{HasNoPartChoice, IsSomePartTooLongIn}
use Rattle.smallest_symbols.specs.TextParts.{IsTextPartTooLong, PartsFitAfterHeader}
use Rattle.smallest_symbols.specs.TextHeadline.{TextReading}
use Rattle.smallest_symbols.specs.TextPieces.{IsSmallestPartUpTo, IsSmallestTextPart}
use Rattle.smallest_symbols.specs.TextMessages.{AreSmallestTextSymbols, AreSymbolsIn, FindsPiece}
use Rattle.smallest_symbols.specs.TextMessages.{HasNoSymbols, HasNoSymbolsIn}
use Rattle.smallest_symbols.specs.TextMessages.{HaveOneTextMessage, IsFirstManner, IsSmallestPartAt}
use Rattle.smallest_symbols.specs.TextMessages.{IsTextSequenceRefusal, ReadsTextMessage}
use Rattle.smallest_symbols.specs.TextMessages.{joined_parts}
use Rattle.smallest_symbols.specs.TextParts.{IsSomeTextPartTooLong, text_of_part}
use Rattle.smallest_symbols.proofs.Joined.{join_all}
use Rattle.smallest_symbols.proofs.TextCuts.{chars_whole}
use Rattle.smallest_symbols.proofs.TextFrames.{frame_fits}
use Rattle.smallest_symbols.proofs.TextHeadline.{one_text_reading}

-- ---- One text

-- a grid is read as one piece with one header
one_piece : (grid : List Color) (g h : Header) (a b : List ℕ) (m n : List Part) → FindsPiece grid g a m → FindsPiece grid h b n → (g ≡ h) × (a ≡ b)
one_piece grid g h a b m n p q =
    let same = one_text_reading grid p.reading q.reading p.reads q.reads in (
      same_Some g h (sym p.header_is ∙ (ap (λ (r : TextReading). r.header) same ∙ q.header_is)),
      sym p.piece_is ∙ (ap (λ (r : TextReading). r.text) same ∙ q.piece_is),
    )

-- the piece at a place is the same in two readings
same_piece : (grids : List (List Color)) (m n : List ℕ) (f : ReadsTextMessage grids m) (g : ReadsTextMessage grids n) (i : ℕ) → i < length grids →
    get_or f.pieces i [] ≡ get_or g.pieces i []
same_piece grids m n f g i inside =
    let sorted = length_permutation grids f.in_order f.same_grids in
    let others = length_permutation grids g.in_order g.same_grids in
    let grid = get_or f.in_order i [] in
    let moved = IsPermutation-trans f.in_order grids g.in_order (IsPermutation-sym grids f.in_order f.same_grids) g.same_grids in
    let found = Contains-permutation f.in_order g.in_order grid moved (Contains-get_or f.in_order i [] (omega arith)) in
    let there = g.each_read found.0 (omega (arith, found.1)) in
    grind (arith, one_piece grid, f.each_read i inside, there, get_or_default g.in_order found.0 [] grid found.1 ∙ found.2)

-- Grids that are read as a text are so in every order.
pub in_any_order : (grids shuffled : List (List Color)) (text : List ℕ) → IsPermutation grids shuffled → ReadsTextMessage grids text →
    ReadsTextMessage shuffled text
in_any_order grids shuffled text mixed seen =
    let long : length grids ≡ length shuffled = sym (length_permutation grids shuffled mixed) in
    record {
      in_order = seen.in_order;
      pieces = seen.pieces;
      parts = seen.parts;
      enough = subst IsTotal long seen.enough;
      same_grids = IsPermutation-trans shuffled grids seen.in_order (IsPermutation-sym grids shuffled mixed) seen.same_grids;
      a_piece_each = seen.a_piece_each ∙ long;
      parts_each = seen.parts_each ∙ long;
      each_read = λ i inside. rw long at seen.each_read i (omega (arith, inside, long));
      text_is = seen.text_is;
      joined = seen.joined;
    }

pub one_text_message : HaveOneTextMessage
one_text_message grids shuffled m n mixed f h =
    let g = in_any_order shuffled grids n (IsPermutation-sym grids shuffled mixed) h in
    let pieces : f.pieces ≡ g.pieces = same_lists f.pieces g.pieces (omega (arith, f.a_piece_each, g.a_piece_each)) (λ k x below.
    let same = same_piece grids m n f g k (omega (arith, below, f.a_piece_each)) in
    grind (arith, common_steps, same, get_or_default, f.a_piece_each, g.a_piece_each)) in
    cc (f.text_is, g.text_is)

-- ---- The symbols of a sequence, as they are made one after the other

-- The smallest symbol of a part, which is in these parts.
pub record HasSymbol (manner : Manner) (header : Header) (text : List ℕ) (level : EcLevel) (limit : ℕ) (grid : List Color) (parts : List Part)
    : Type 0 where
  pub small : IsSmallestPartUpTo manner header text level limit grid
  pub parts_are : small.best.reads.framed.parts ≡ parts

-- The first symbols of a sequence, for as many first parts.
pub record AreFirstSymbols (manner : Manner) (message cuts : List ℕ) (level : EcLevel) (limit total done : ℕ) (grids : List (List Color))
    : Type 0 where
  pub parts : List (List Part)
  pub a_grid_each : length grids ≡ done
  pub parts_each : length parts ≡ done
  pub each : (i : ℕ) → i < done →
      HasSymbol manner (header_at (i + 1) total message) (text_of_part message cuts i) level limit (get_or grids i []) (get_or parts i [])

-- None.
pub no_symbols : (manner : Manner) (message cuts : List ℕ) (level : EcLevel) (limit total : ℕ) →
    AreFirstSymbols manner message cuts level limit total 0 []
no_symbols manner message cuts level limit total = record {
  parts = [];
  a_grid_each = refl;
  parts_each = refl;
  each = λ i below. absurd (omega (arith, below));
}

-- One more.
pub one_more : (manner : Manner) (message cuts : List ℕ) (level : EcLevel) (limit total done : ℕ) (grids : List (List Color)) (grid : List Color) →
    AreFirstSymbols manner message cuts level limit total done grids →
    IsSmallestPartUpTo manner (header_at (done + 1) total message) (text_of_part message cuts done) level limit grid →
    AreFirstSymbols manner message cuts level limit total (done + 1) (grids ++ grid ∷ [])
one_more manner message cuts level limit total done grids grid first next =
    let parts = next.best.reads.framed.parts in
    let last : HasSymbol manner (header_at (done + 1) total message) (text_of_part message cuts done) level limit grid parts =
    record { small = next; parts_are = refl } in
    record {
      parts = first.parts ++ parts ∷ [];
      a_grid_each = omega (arith, length-append grids (grid ∷ []), first.a_grid_each);
      parts_each = omega (arith, length-append first.parts (parts ∷ []), first.parts_each);
      each = λ i below. elim (cases_eq i done) [
        | inl same ↦
            subst (λ (n : ℕ). HasSymbol manner (header_at (n + 1) total message) (text_of_part message cuts n) level limit
            (get_or (grids ++ grid ∷ []) n []) (get_or (first.parts ++ parts ∷ []) n [])) (sym same)
            (rw (get_or_push grids grid [] done first.a_grid_each, get_or_push first.parts parts [] done first.parts_each) last)
        | inr earlier ↦
            rw (
              get_or_append_left grids (grid ∷ []) [] i (omega (arith, first.a_grid_each)),
              get_or_append_left first.parts (parts ∷ []) [] i (omega (arith, first.parts_each)),
            ) (first.each i (omega arith))
      ];
    }

-- All of them are the result.
pub symbols_of : (manner : Manner) (message cuts : List ℕ) (level : EcLevel) (limit total done : ℕ) (grids : List (List Color)) → IsUtf8 message →
    IsNonDecreasing cuts → All (IsSplitPoint message) cuts → IsTotal total → total ≡ length cuts + 1 → done ≡ total →
    AreFirstSymbols manner message cuts level limit total done grids → AreSymbolsIn manner message cuts level limit grids
symbols_of manner message cuts level limit total done grids utf8 rise places few count all first =
    let size : total ≡ length grids = sym (first.a_grid_each ∙ all) in
    let texts = map chars (parts_at cuts message) in
    let parts : length (parts_at cuts message) ≡ length grids = length-parts 0 cuts message ∙ sym count ∙ size in
    let many : length texts ≡ length grids = length-map (parts_at cuts message) chars ∙ parts in
    let bytes : message ≡ encode_utf8_all (chars message) = sym (encodes-chars message utf8) in
    let whole = chars_whole cuts message utf8 rise places in
    let each = λ (i : ℕ) (inside : i < length grids). first.each i (omega (arith, inside, size, all)) in
    let piece : (i : ℕ) → i < length grids → text_of_part message cuts i ≡ get_or texts i [] = (λ i inside.
    sym (get_or-map chars (parts_at cuts message) i [] [] (omega (arith, inside, parts)))) in
    let joined = join_all manner first.parts texts (first.parts_each ∙ all ∙ size ∙ sym many) (λ i below.
    let inside : i < length grids = omega (arith, below, first.parts_each, all, size) in
    let symbol = each i inside in (
      normal symbol.small.best.number,
      subst (λ (t : List ℕ). ArePartsIn manner (normal symbol.small.best.number) t (get_or first.parts i [])) (piece i inside)
          (subst (λ (p : List Part). ArePartsIn manner (normal symbol.small.best.number) (text_of_part message cuts i) p) symbol.parts_are
          symbol.small.best.least.written),
    )) in
    record {
      a_grid_each = sym size ∙ count;
      each_smallest = λ i inside. (let symbol = each i inside in rw count at symbol.small);
      reads = record {
        in_order = grids;
        pieces = texts;
        parts = first.parts;
        enough = rw size at few;
        same_grids = IsPermutation-refl grids;
        a_piece_each = many;
        parts_each = first.parts_each ∙ all ∙ size;
        each_read = λ i inside.
            let symbol = rw size at each i inside in
            record {
              reading = symbol.small.best.reading;
              reads = symbol.small.best.reads;
              header_is = ap (λ (r : TextReading). r.header) symbol.small.best.says
                  ∙ ap (λ (bytes : List ℕ). Some (header_at (i + 1) (length grids) bytes)) bytes;
              piece_is = ap (λ (r : TextReading). r.text) symbol.small.best.says ∙ piece i inside;
              parts_are = symbol.parts_are;
            };
        text_is = whole;
        joined = subst (λ (t : List ℕ). IsReadAs (joined_parts first.parts) t) (sym whole)
            (reads_so (plain_in manner) (mixed_in manner) (joined_parts first.parts) (concat texts) joined.read joined.plain joined.mixed);
      };
    }

-- The symbols of the first manner that has some are the result of the call.
pub smallest_symbols : (manner : Manner) (message cuts : List ℕ) (level : EcLevel) (limit : ℕ) (grids : List (List Color)) →
    IsFirstManner manner message cuts level limit → AreSymbolsIn manner message cuts level limit grids →
    AreSmallestTextSymbols message cuts level limit grids
smallest_symbols manner message cuts level limit grids first known = record {
  manner = manner;
  first = first;
  a_grid_each = known.a_grid_each;
  each_smallest = known.each_smallest;
  reads = λ shuffled mixed. in_any_order grids shuffled (chars message) mixed known.reads;
  only = λ shuffled other mixed seen. sym (one_text_message grids shuffled (chars message) other mixed known.reads seen);
}

-- ---- Parts that are too long

-- A part that fails for its length or for memory makes the sequence fail likewise in its manner,
pub refused_part : (manner : Manner) (message cuts : List ℕ) (level : EcLevel) (limit i : ℕ) (e : QrError) → i < length cuts + 1 →
    HasNoPartChoice manner (text_of_part message cuts i) level limit e → HasNoSymbolsIn manner message cuts level limit e
refused_part manner message cuts level limit i DataTooLong inside why = (i, inside, why)
refused_part manner message cuts level limit i OutOfMemory inside why = tt
refused_part manner message cuts level limit i other inside why = absurd why

-- and if it does so in the last manner, in all.
pub refused_last : (message cuts : List ℕ) (level : EcLevel) (limit : ℕ) (e : QrError) → IsSomePartTooLongIn Ascii message cuts level limit →
    IsSomePartTooLongIn Paired message cuts level limit → HasNoSymbolsIn Designated message cuts level limit e →
    HasNoSymbols message cuts level limit e
refused_last message cuts level limit DataTooLong ascii paired why = each
  where
    each : (manner : Manner) → IsSomePartTooLongIn manner message cuts level limit
    each Ascii = ascii
    each Paired = paired
    each Designated = why
refused_last message cuts level limit OutOfMemory ascii paired why = tt
refused_last message cuts level limit other ascii paired why = absurd why

pub refused_call : (message cuts : List ℕ) (level : EcLevel) (limit : ℤ) (e : QrError) → IsNormalNumber limit → IsTotal (length cuts + 1) →
    HasNoSymbols message cuts level (nat_abs limit) e → IsTextSequenceRefusal message cuts level limit e
refused_call message cuts level limit DataTooLong in_range few why = (in_range, few, why)
refused_call message cuts level limit OutOfMemory in_range few why = (in_range, few)
refused_call message cuts level limit other in_range few why = absurd why

-- The parts of a smallest symbol fit its version.
smallest_fits : (manner : Manner) (header : Header) (text : List ℕ) (level : EcLevel) (grid : List Color) →
    (best : IsSmallestTextPart manner header text level grid) →
    PartsFitAfterHeader manner (normal best.number) level text best.reads.framed.parts
smallest_fits manner header text level grid best =
    let f = best.reads.framed in
    let version : best.reading.version ≡ normal best.number = ap (λ (r : TextReading). r.version) best.says in
    let same : best.reading.level ≡ level = ap (λ (r : TextReading). r.level) best.says in
    let ahead = ap (λ (r : TextReading). length (header_bits r.header)) best.says ∙ length-header header in
    record {
      written = best.least.written;
      limit = f.limit;
      has_level = subst (λ (l : EcLevel). capacity (normal best.number) l ≡ Some f.limit) same
          (subst (λ (v : Version). capacity v best.reading.level ≡ Some f.limit) version f.limit_is);
      within = subst (λ (v : Version). 20 + bits_of_parts v f.parts ≤ f.limit) version (omega (arith, (frame_fits f).1, ahead, f.fits));
    }

-- A part that has its symbol is not too long.
pub not_too_long : (manner : Manner) (message cuts : List ℕ) (level : EcLevel) (limit i : ℕ) (grid : List Color) →
    IsSmallestPartAt manner message cuts level limit i grid → IsTextPartTooLong manner (text_of_part message cuts i) level limit → ⊥
not_too_long manner message cuts level limit i grid part none =
    none part.best.number part.up_to part.best.reads.framed.parts
    (smallest_fits manner (header_at (i + 1) (length cuts + 1) message) (text_of_part message cuts i) level grid part.best)

-- Where each part has its symbol, none is too long.
pub none_too_long : (message cuts : List ℕ) (level : EcLevel) (limit : ℕ) (grids : List (List Color)) →
    AreSmallestTextSymbols message cuts level limit grids → IsSomeTextPartTooLong message cuts level limit → ⊥
none_too_long message cuts level limit grids all long =
    let w = long all.manner in
    not_too_long all.manner message cuts level limit w.0 _ (all.each_smallest w.0 (omega (arith, w.1, all.a_grid_each))) w.2
