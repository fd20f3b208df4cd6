-- From the bits of a frame to the codewords of a symbol, and back: how many they are, and what its
-- grid carries.
use Rattle.qrcode_core.proofs.Prelude.{◌≡◌, ℕ, ◌+◌, ◌*◌, ◌<◌, refl, ap, arith, List, [], ◌∷◌, ◌++◌, length, Bool, length-append, length-replicate, byte_bits}
use Rattle.qrcode_core.proofs.Prelude.{zero_bits, AreBytes, ◌-◌, ◌%◌, ◌≤◌, ◌⊎◌, take, append_assoc, Some, take_at, none-some, same_Some, EcLevel, Version}
use Rattle.qrcode_core.proofs.Prelude.{BlockLayout, block_sizes, blocks_of, data_bytes, missing_bits, capacity, tail, ended, common_steps, IsVersion}
use Rattle.qrcode_core.proofs.Prelude.{Front, IsEncoded, AreAllCodewords, map, concat, same_lists, get_or_default, place_in_stream, block_in}
use Rattle.qrcode_core.proofs.Prelude.{AreCodewords, zero, suc, ◌∙◌, replicate, false, Light, is_dark, DrawnSymbol, IsDrawn, Carries}
use Rattle.std.proofs.{lemmas.List.Elements.All-head, lemmas.List.Elements.All-tail, lemmas.List.replicate-append-replicate, Common.min, Common.append-nil}
use Rattle.std.specs.List.{range_with_len}
use Rattle.std.proofs.{lemmas.List.FromFn.get_or-map-range_with_len, lemmas.List.FromFn.length-map-range_with_len}
use Rattle.qrcode_bits.proofs.{Numbers.number_front, Numbers.front_is, Numbers.length-byte_bits, Streams.length-tail, Streams.length-ended, Frames.length-frame}
use Rattle.qrcode_grid.{proofs.WholeSymbols.version_of_symbol, specs.Walk.left_over, specs.Walk.bit_color, specs.Walk.symbol_bits}

-- ---- The raw bits of a grid determine the codewords, and so the data

-- bytes are determined by their bits
pub bytes-of_bits : (xs ys : List ℕ) → AreBytes xs → AreBytes ys → length xs ≡ length ys → byte_bits xs ≡ byte_bits ys → xs ≡ ys
bytes-of_bits [] [] hx hy l e = refl
bytes-of_bits [] (y ∷ ys) hx hy l e = absurd (omega arith)
bytes-of_bits (x ∷ xs) [] hx hy l e = absurd (omega arith)
bytes-of_bits (x ∷ xs) (y ∷ ys) hx hy l e =
    let first = number_front 8 x y (byte_bits xs) (byte_bits ys) (All-head (λ x. x < 256) x xs hx) (All-head (λ x. x < 256) y ys hy) e in
    let rest = bytes-of_bits xs ys (All-tail (λ x. x < 256) x xs hx) (All-tail (λ x. x < 256) y ys hy) (omega arith) first.1 in
    cc (first.0, rest)

-- the bits that are drawn, of bytes of which some last bits are not
pub length-drawn : (xs : List ℕ) (drawn : List Bool) (missing : ℕ) → byte_bits xs ≡ drawn ++ zero_bits missing → length drawn + missing ≡ length xs * 8
length-drawn xs drawn missing e =
    omega (arith, ap (λ (b : List Bool). length b) e, length-append drawn (zero_bits missing), length-replicate missing Bool.false, length-byte_bits xs)

-- Two lists of as many bytes, drawn in front of one list of bits, are the same.
pub bytes-of_drawn : (xs ys : List ℕ) (missing : ℕ) (dx dy rx ry : List Bool) → AreBytes xs → AreBytes ys → length xs ≡ length ys →
    byte_bits xs ≡ dx ++ zero_bits missing → byte_bits ys ≡ dy ++ zero_bits missing → dx ++ rx ≡ dy ++ ry → xs ≡ ys
bytes-of_drawn xs ys missing dx dy rx ry hx hy l ex ey e =
    grind (arith, length-drawn xs dx missing, length-drawn ys dy missing, front_is dx dy rx ry, bytes-of_bits xs ys)

-- ---- The codewords of an ended stream hold its frame

-- no bits are missing; or four of at least one byte, in one block
pub lacks : (v : Version) (l : EcLevel) (b : BlockLayout) → blocks_of v l ≡ Some b →
    (missing_bits v ≡ 0) ⊎ ((missing_bits v ≡ 4) × (1 ≤ data_bytes b) × (block_sizes b ≡ data_bytes b ∷ []))
lacks v l b e = grind (arith, common_steps, none-some, same_Some)

-- what follows the payload of a stream reaches its capacity
pub length-tailed : (v : Version) (limit : ℕ) (payload : List Bool) → length payload ≤ limit → length (payload ++ tail v limit (length payload)) ≡ limit
length-tailed v limit payload fits = grind (arith, common_steps, length-tail)

-- The bytes into which an ended stream is turned are its bits up to the capacity, and the missing
-- bits as zeros.
pub bytes_of_tailed : (v : Version) (l : EcLevel) (b : BlockLayout) (limit : ℕ) (payload : List Bool) (words : List ℕ) → blocks_of v l ≡ Some b →
    capacity v l ≡ Some limit → length payload ≤ limit →
    byte_bits words ≡ ended v limit payload ++ zero_bits ((8 - length (ended v limit payload) % 8) % 8) →
    byte_bits words ≡ (payload ++ tail v limit (length payload)) ++ zero_bits (missing_bits v)
bytes_of_tailed v l b limit payload words known limit_is fits are =
    grind (arith, common_steps, append_assoc, same_Some, length-ended, lacks, replicate-append-replicate)

-- The bits up to the capacity are the first ones of the ended stream.
pub take_ended : (v : Version) (limit : ℕ) (payload : List Bool) → length payload ≤ limit →
    take limit (ended v limit payload) ≡ payload ++ tail v limit (length payload)
take_ended v limit payload fits = grind (arith, append_assoc, take_at, length-tailed)

-- ---- Data codewords that hold a frame are as many as their symbol has, so that only memory can be
-- wanting for their streams

-- Codewords that hold as many bits as the capacity are as many as the data codewords of the symbol.
pub length-filled : (v : Version) (l : EcLevel) (words : List ℕ) (b : BlockLayout) (limit : ℕ) (bits : List Bool) →
    blocks_of v l ≡ Some b → capacity v l ≡ Some limit → length bits ≡ limit →
    byte_bits words ≡ bits ++ zero_bits (missing_bits v) → length words ≡ data_bytes b
length-filled v l words b limit bits known limit_is size held =
    grind (arith, common_steps, length-drawn words bits (missing_bits v) held, lacks v l b known, same_Some)

-- The codewords of a frame are as many as the data codewords of the symbol.
pub length-encoded : (v : Version) (l : EcLevel) (h : Front) (bytes : List ℕ) (n : ℕ) (words : List ℕ) (b : BlockLayout) →
    IsEncoded v l h bytes n words → blocks_of v l ≡ Some b → length words ≡ data_bytes b
length-encoded v l h bytes n words b code known =
    length-filled v l words b code.framed.limit code.frame known code.framed.limit_is (length-frame v l h bytes n code.frame code.framed) code.frame_is

-- The version of all codewords of a symbol is one of the 44.
pub version_of_all : (version : Version) (level : EcLevel) (count : ℕ) → AreAllCodewords version level count → IsVersion version
version_of_all version level count all = grind (arith, common_steps, version_of_symbol version level)

-- ---- The last data codeword of M1 and M3 has four bits: it is the last of the stream of one
-- block, as of the data

-- a stream of one block is the block
pub one_block : (size : ℕ) (stream : List ℕ) → length stream ≡ size →
    concat (map (block_in (size ∷ []) stream) (range_with_len 0 1)) ≡ stream
unfolding block_in place_in_stream
one_block size stream long = grind (arith, common_steps, min, append-nil, map, same_lists, length-map-range_with_len, get_or_default, get_or-map-range_with_len)

-- Only symbols of one block lack bits, so the stream ends with the zeros with which the data end.
pub low_half : (version : Version) (level : EcLevel) (b : BlockLayout) (n : ℕ) (words stream correction : List ℕ) (frame : List Bool) →
    blocks_of version level ≡ Some b →
    AreCodewords n (block_sizes b) words stream correction → byte_bits words ≡ frame ++ zero_bits (missing_bits version) →
    byte_bits stream ≡ take (8 * length stream - missing_bits version) (byte_bits stream) ++ zero_bits (missing_bits version)
low_half version level b n words stream correction frame e codes ends =
    let one = one_block (data_bytes b) stream in
    let long = length-byte_bits stream in
    grind (arith, common_steps, lacks version level b e, one, long, codes.stream_length, codes.in_order, length-append, length-replicate, take_at)

-- ---- The grid that is drawn of the codewords of some bits carries the bits

-- bits that are drawn are seen again
seen_bits : (bits : List Bool) (k : ℕ) → map is_dark (map bit_color bits ++ replicate k Light) ≡ bits ++ zero_bits k
seen_bits [] zero = refl
seen_bits [] (suc k) = ap (λ l. false ∷ l) (seen_bits [] k)
seen_bits (bit ∷ bits) k = grind (arith, seen_bits bits k)

-- The grid of the codewords of some bits carries the bits.
pub drawn_carries : (version : Version) (level : EcLevel) (bits : List Bool) (codewords : List ℕ) (symbol : DrawnSymbol) →
    byte_bits codewords ≡ bits ++ zero_bits (missing_bits version) → IsDrawn version level codewords symbol →
    Carries symbol.modules version level symbol.mask bits
drawn_carries version level bits codewords symbol bits_are drawn =
    let missing = missing_bits version in
    let streams = drawn.streams in
    let front = take (8 * length drawn.interleaved - missing) (byte_bits drawn.interleaved) in
    record {
      blocks = streams.blocks;
      interleaved = drawn.interleaved;
      correction = drawn.correction;
      codewords = codewords;
      drawn = front;
      has_level = streams.has_level;
      has_mask = grind (arith, common_steps, none-some, same_Some, drawn.best.1);
      is_square = drawn.carries.size;
      functional = drawn.carries.functional;
      cells = ap (map is_dark) drawn.carries.bits
          ∙ seen_bits (symbol_bits missing drawn.interleaved drawn.correction) (left_over version)
          ∙ append_assoc front (byte_bits drawn.correction) (zero_bits (left_over version));
      drawn_is = low_half version level streams.blocks _ codewords drawn.interleaved drawn.correction bits streams.has_level streams.sound bits_are;
      bytes_interleaved = streams.bytes_interleaved;
      bytes_correction = streams.bytes_correction;
      sound = streams.sound;
      bits_are = bits_are;
    }
