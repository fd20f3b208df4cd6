-- What the one-pass optimiser keeps, for the contracts of its private functions.
--
-- A *start* is a segment at which the last part of a plan may begin. For each end, the optimiser
-- keeps the best start per group and bucket. The *group* of a start is the joined mode of the
-- segments from it to the end. Its *bucket* is the mode in which the part may finally end, with the
-- offset of its first byte modulo the period of that mode.
use Rattle.std.specs.Prelude.{List, [], ◌∷◌, ◌≡◌, ℕ, zero, suc, ◌+◌, ◌-◌, ◌*◌, ◌/◌, ◌%◌, ◌^◌, ◌<◌, ◌≤◌}
use Rattle.std.specs.Prelude.{◌≢◌, ◌⊎◌, length, Option, Some, None, ◌++◌, cond, ltb, get_or, map, nat_lt}
use Rattle.std.specs.Prelude.{◌==◌, if◌then◌else◌, take}
use Rattle.qrcode_base.specs.declared.types.Mode.{Mode}
use Rattle.qrcode_base.specs.declared.types.Mode.TheVariants.{Numeric, Alphanumeric, Byte, Kanji}
use Rattle.qrcode_base.specs.declared.types.Version.{Version}
use Rattle.qrcode_base.specs.Modes.{join, indicator_width, count_width}
use Rattle.qrcode_bits.specs.declared.optimize.Segment.{Segment}
use Rattle.qrcode_bits.specs.declared.optimize.candidate.Candidate.{Candidate}
use Rattle.qrcode_bits.specs.Plans.{plan_bits, HasLinearCosts, IsChosen, IsNoWorse, part, part_bits, segment_at}

-- ---- A table of the chosen plans of fewer segments, which computes the chosen plan

-- The better of two starts `s` and `t`: fewer bits, then fewer parts; if both are equal, `s`. `P`
-- is the chosen plan before each start.
abbrev pub better_start : (ℕ → ℕ → ℕ) → ℕ → (ℕ → List ℕ) → ℕ → ℕ → ℕ
better_start cost end P s t =
    let b = plan_bits cost s (P s) + cost s end in
    let c = plan_bits cost t (P t) + cost t end in
    cond (ltb c b) t (cond (ltb b c) s (cond (ltb (length (P t)) (length (P s))) t s))

-- The best of the starts 0 to `n`.
abbrev pub best_start : (ℕ → ℕ → ℕ) → ℕ → (ℕ → List ℕ) → ℕ → ℕ
best_start cost end P zero = zero
best_start cost end P (suc n) = better_start cost end P (suc n) (best_start cost end P n)

-- The plan at an index of a table.
abbrev pub at : List (List ℕ) → ℕ → List ℕ
at table t = get_or table t []

-- The chosen plan of `n` segments, from a table of the chosen plans of fewer.
abbrev pub next_plan : (ℕ → ℕ → ℕ) → ℕ → List (List ℕ) → List ℕ
next_plan cost zero table = []
next_plan cost (suc n) table = let s = best_start cost (suc n) (at table) n in s ∷ at table s

-- The chosen plans of fewer than `n` segments.
abbrev pub plans_below : (ℕ → ℕ → ℕ) → ℕ → List (List ℕ)
plans_below cost zero = []
plans_below cost (suc n) = let table = plans_below cost n in table ++ next_plan cost n table ∷ []

-- The chosen plan of `n` segments, by the starts of its parts, the last part first.
unfoldable pub chosen_plan : (ℕ → ℕ → ℕ) → ℕ → List ℕ
chosen_plan cost n = next_plan cost n (plans_below cost n)

-- ---- Groups and buckets

-- The bytes of a period: three digits in 10 bits, two characters in 11, one byte in 8, a pair of
-- bytes in 13.
abbrev pub period : Mode → ℕ
period Numeric = 3
period Alphanumeric = 2
period Byte = 1
period Kanji = 2

-- The bits of a period.
abbrev pub period_bits : Mode → ℕ
period_bits Numeric = 10
period_bits Alphanumeric = 11
period_bits Byte = 8
period_bits Kanji = 13

-- The mode of each of the eight buckets of a group.
abbrev pub bucket_mode : ℕ → Mode
bucket_mode j =
    if nat_lt j 3 then Numeric
    else if nat_lt j 5 then Alphanumeric
    else if j == 5 then Byte else Kanji

-- The first bucket of a mode.
abbrev pub bucket_first : Mode → ℕ
bucket_first Numeric = 0
bucket_first Alphanumeric = 3
bucket_first Byte = 5
bucket_first Kanji = 6

-- The offset of the first byte modulo the period that a bucket is for.
abbrev pub bucket_rest : ℕ → ℕ
bucket_rest j = j - bucket_first (bucket_mode j)

-- The buckets that a group of a mode needs: those of the modes in which a part may end that begins
-- at one of its starts.
pub record HasBucket (mode : Mode) (j : ℕ) : Type 0 where
  pub inside : j < 8
  pub reaches : join mode (bucket_mode j) ≡ bucket_mode j

-- The mode of the first segment.
abbrev pub first_mode : List Segment → Mode
first_mode [] = Byte
first_mode (s ∷ ss) = s.mode

-- The mode of the part from `start` up to, not including, `end`.
abbrev pub part_mode : List Segment → ℕ → ℕ → Mode
part_mode segments start end = first_mode (part segments start end)

-- The bits of the chosen plan of the segments before a start.
abbrev pub bits_before : List Segment → Version → ℕ → ℕ
bits_before segments version start =
    plan_bits (part_bits segments version) start (chosen_plan (part_bits segments version) start)

-- The number of parts of that plan.
abbrev pub parts_before : List Segment → Version → ℕ → ℕ
parts_before segments version start = length (chosen_plan (part_bits segments version) start)

-- A start below `starts` whose part up to `end` has this mode, and whose first byte has the offset
-- of the bucket.
pub record InBucket (segments : List Segment) (starts end : ℕ) (mode : Mode)
    (bucket start : ℕ) : Type 0 where
  pub below : start < starts
  pub suffix : part_mode segments start end ≡ mode
  pub rest : (segment_at segments start).begin % period (bucket_mode bucket) ≡ bucket_rest bucket

-- The number of whole periods of bytes before the first byte of a start.
abbrev pub periods_before : List Segment → Mode → ℕ → ℕ
periods_before segments mode start = (segment_at segments start).begin / period mode

-- If a part ends in the bucket's mode, the start `s` is at least as good as `t`, at any end.
abbrev pub IsAhead : List Segment → Version → Mode → ℕ → ℕ → Type 0
IsAhead segments version mode s t =
    IsNoWorse
    (bits_before segments version s + period_bits mode * periods_before segments mode t)
    (parts_before segments version s)
    s
    (bits_before segments version t + period_bits mode * periods_before segments mode s)
    (parts_before segments version t)
    t

-- ---- Candidates. All ends, and the number of segments, are below a number `far`.

-- Whether a candidate is a start; one of too many bits is none.
abbrev pub IsStart : ℕ → Candidate → Type 0
IsStart far c = c.bits < 2 ^ 24 * far

-- The candidate, if it is a start.
abbrev pub found : ℕ → Candidate → Option Candidate
found far c = if nat_lt c.bits (2 ^ 24 * far) then Some c else None

-- A candidate is at least as good as another one.
abbrev pub IsAsGoodAs : Candidate → Candidate → Type 0
IsAsGoodAs a b = IsNoWorse a.bits a.parts a.start b.bits b.parts b.start

-- The third candidate is the better of the first two, or the one that there is.
abbrev pub IsBetterOf : Option Candidate → Option Candidate → Option Candidate → Type 0
IsBetterOf None b c = c ≡ b
IsBetterOf (Some a) None c = c ≡ Some a
IsBetterOf (Some a) (Some b) c =
    ((c ≡ Some a) × IsAsGoodAs a b) ⊎ ((c ≡ Some b) × IsAsGoodAs b a)

-- A candidate represents its start: its bits are the bits before the start, less those of the whole
-- periods before its first byte, plus `far` periods.
pub record StandsFor (far : ℕ) (segments : List Segment) (version : Version) (mode : Mode)
    (c : Candidate) : Type 0 where
  pub bits : c.bits + period_bits mode * periods_before segments mode c.start
      ≡ bits_before segments version c.start + period_bits mode * far
  pub parts : c.parts ≡ parts_before segments version c.start + 1

-- The best of the starts that have a property, if there is one.
abbrev pub IsBestStart : ℕ → List Segment → Version → Mode → (ℕ → Type 0) → Option Candidate →
    Type 0
IsBestStart far segments version mode P None = (t : ℕ) → P t → ⊥
IsBestStart far segments version mode P (Some c) =
    P c.start × StandsFor far segments version mode c
    × ((t : ℕ) → P t → IsAhead segments version mode c.start t)

-- ---- All groups in one list

-- The place of a bucket of a mode's group.
abbrev pub slot_of : Mode → ℕ → ℕ
slot_of Numeric j = j
slot_of Alphanumeric j = 8 + j
slot_of Byte j = 16 + j
slot_of Kanji j = 24 + j

-- The candidate in each bucket of the group of each mode.
abbrev pub Groups : Type 0
Groups = Mode → ℕ → Option Candidate

-- The groups in a list, by what its elements stand for.
abbrev pub groups_of : {S : Type 0} → (S → Candidate) → ℕ → List S → Groups
groups_of read far starts mode j =
    let none : Candidate = record { bits = 0; parts = 0; start = 0 } in
    found far (get_or (map read starts) (slot_of mode j) none)

-- Each group has the best start of its mode in each bucket that it needs.
abbrev pub AreGroups : ℕ → List Segment → Version → ℕ → ℕ → Groups → Type 0
AreGroups far segments version starts end groups =
    (mode : Mode) (j : ℕ) → HasBucket mode j →
    IsBestStart far segments version (bucket_mode j)
    (InBucket segments starts end mode j) (groups mode j)

-- One bucket has the better of its candidate and another one; the other buckets are unchanged.
pub record KeepsBetter (group : Mode) (bucket : ℕ) (c : Option Candidate)
    (old new : Groups) : Type 0 where
  pub better : IsBetterOf (old group bucket) c (new group bucket)
  pub others : (mode : Mode) (j : ℕ) → j < 8 → (mode ≡ group → j ≡ bucket → ⊥) →
      new mode j ≡ old mode j

-- One group is merged into another one, and is empty then.
pub record Merges (from into : Mode) (old new : Groups) : Type 0 where
  pub apart : into ≢ from
  pub better : (j : ℕ) → HasBucket into j → IsBetterOf (old into j) (old from j) (new into j)
  pub none : (j : ℕ) → j < 8 → new from j ≡ None
  pub others : (mode : Mode) (j : ℕ) → j < 8 → mode ≢ from → mode ≢ into →
      new mode j ≡ old mode j

-- The starts of a group move to the group of its mode joined with the next segment's mode, unless
-- that is the same group, or there are none.
abbrev pub Moves : Mode → Mode → Groups → Groups → Type 0
Moves from incoming old new =
    (((join from incoming ≡ from) ⊎ (old from 5 ≡ None)) × (new ≡ old))
    ⊎ Merges from (join from incoming) old new

-- All groups move. That of Byte stays.
abbrev pub Advances : Mode → Groups → Groups → Type 0
Advances incoming old new =
    (one : Groups) × (two : Groups) × Moves Numeric incoming old one
    × Moves Alphanumeric incoming one two × Moves Kanji incoming two new

-- The candidate of a start in the buckets of a mode.
abbrev pub key_of : ℕ → Mode → ℕ → Candidate → Candidate
key_of far mode begin c =
    record c { bits = c.bits + period_bits mode * (far - begin / period mode) }

-- A start is added to the bucket of its group for parts that end in a mode, if the group needs it.
abbrev pub AddsTo : ℕ → Mode → Mode → ℕ → Candidate → Groups → Groups → Type 0
AddsTo far group last begin c old new =
    ((join group last ≡ last)
    × KeepsBetter group (bucket_first last + begin % period last)
    (Some (key_of far last begin c)) old new)
    ⊎ ((join group last ≢ last) × (new ≡ old))

-- A start is added to the buckets of its group that have the offset of its first byte.
pub record Adds (far : ℕ) (group : Mode) (begin : ℕ) (c : Candidate)
    (old new : Groups) : Type 0 where
  pub added : (j : ℕ) → HasBucket group j → begin % period (bucket_mode j) ≡ bucket_rest j →
      IsBetterOf (old group j) (Some (key_of far (bucket_mode j) begin c)) (new group j)
  pub others : (j : ℕ) → HasBucket group j → begin % period (bucket_mode j) ≢ bucket_rest j →
      new group j ≡ old group j
  pub groups : (mode : Mode) (j : ℕ) → j < 8 → mode ≢ group → new mode j ≡ old mode j

-- ---- The data, and what is kept of chosen plans

-- There are fewer than `far` segments, and all ends are below `far`.
pub record IsBelow (far : ℕ) (segments : List Segment) : Type 0 where
  pub few : length segments < far
  pub near : (i : ℕ) → i < length segments → (segment_at segments i).end < far

-- Short data: fewer than 8192 segments, and all ends are below 8192.
abbrev pub IsShort : List Segment → Type 0
IsShort segments = IsBelow 8192 segments

-- The first segments up to the one at an index, which ends at a place.
abbrev pub cut_at : List Segment → ℕ → ℕ → List Segment
cut_at segments index place =
    take index segments ++ record (segment_at segments index) { end = place } ∷ []

-- The bytes of a unit of a mode: a pair in the Kanji mode, else one byte.
abbrev pub unit_size : Mode → ℕ
unit_size Numeric = 1
unit_size Alphanumeric = 1
unit_size Byte = 1
unit_size Kanji = 2

-- A place is some units after the first byte of the segment at an index.
pub record IsUnitsIn (segments : List Segment) (index count place : ℕ) : Type 0 where
  pub is : let s = segment_at segments index in place ≡ s.begin + unit_size s.mode * count
  pub within : place ≤ (segment_at segments index).end

-- Segments may be cut: each is of whole units, and cut within one they are short and have
-- linear costs.
pub record AreCuttable (far : ℕ) (segments : List Segment) (version : Version) : Type 0 where
  pub units : (i : ℕ) → i < length segments →
      (count : ℕ) × (0 < count) × IsUnitsIn segments i count (segment_at segments i).end
  pub below : (i place : ℕ) → i < length segments → (segment_at segments i).begin < place →
      place ≤ (segment_at segments i).end → IsBelow far (cut_at segments i place)
  pub linear : (i place : ℕ) → i < length segments → (segment_at segments i).begin < place →
      place ≤ (segment_at segments i).end → HasLinearCosts (cut_at segments i place) version

-- Two places a unit apart in one segment: cut at the first, the chosen plan takes at most so many
-- bits, and cut at the second it takes more.
pub record AreLastUnits (segments : List Segment) (version : Version)
    (limit sure past : ℕ) : Type 0 where
  pub index : ℕ
  pub inside : index < length segments
  pub count : ℕ
  pub sure_is : IsUnitsIn segments index count sure
  pub past_is : IsUnitsIn segments index (count + 1) past
  pub before : bits_before segments version index ≤ limit
  pub fits : 0 < count → bits_before (cut_at segments index sure) version (index + 1) ≤ limit
  pub over : limit < bits_before (cut_at segments index past) version (index + 1)

-- The place of a mode in a list of all.
abbrev pub mode_number : Mode → ℕ
mode_number Numeric = 0
mode_number Alphanumeric = 1
mode_number Byte = 2
mode_number Kanji = 3

-- The numbers of bits before the characters of each mode: mode indicator and character count.
pub record AreHeaders (version : Version) (headers : List ℕ) : Type 0 where
  pub long : length headers ≡ 4
  pub are : (mode : Mode) →
      get_or headers (mode_number mode) 0 ≡ indicator_width version + count_width version mode
  pub small : (mode : Mode) → indicator_width version + count_width version mode < 2 ^ 16

-- The candidate is what is kept of the chosen plan of the first `end` segments: its bits, the
-- number of its parts and, if it has one, the start of its last part.
pub record IsStep (segments : List Segment) (version : Version) (end : ℕ)
    (best : Candidate) : Type 0 where
  pub plan : List ℕ
  pub chosen : IsChosen (part_bits segments version) end plan
  pub bits : best.bits ≡ plan_bits (part_bits segments version) end plan
  pub parts : best.parts ≡ length plan
  pub few : best.parts ≤ end
  pub last : 0 < end → (earlier : List ℕ) × (plan ≡ best.start ∷ earlier)

-- The candidates are what is kept of the chosen plans of the first segments.
abbrev pub AreSteps : List Segment → Version → List Candidate → Type 0
AreSteps segments version steps =
    (end : ℕ) → end < length steps →
    IsStep segments version end (get_or steps end (record { bits = 0; parts = 0; start = 0 }))

-- ---- Starts as words of 64 bits

-- The candidate that a word stands for. Fewer bits, then fewer parts, then a later start make the
-- word less.
abbrev pub start_of : ℕ → Candidate
start_of word =
    record { bits = word / 2 ^ 26; parts = word % 2 ^ 26 / 2 ^ 13; start = 8191 - word % 2 ^ 13 }
