-- Names that many proofs of this crate import, re-exported: lemmas and types of the toolchain, and
-- types of the crates.
pub use Rattle.std.proofs.Common.{Bool, Err, List, None, Ok, Result, Some, [], add-zero, add_comm, ap, append-nil, append_assoc, arith, cond, drop, drop-cons}
pub use Rattle.std.proofs.Common.{false, get_or, inl, inr, leb, length, length-append, map, max, min, mod-eq_of_lt, one-add, pos, refl, reverse, rules, subst}
pub use Rattle.std.proofs.Common.{suc, sym, take, true, zero, zero-add, ℕ, ℤ, ◌%◌, ◌*◌, ◌++◌, ◌+◌, ◌-◌, ◌/◌, ◌<◌, ◌^◌, ◌∙◌, ◌∷◌, ◌≡◌, ◌≢◌, ◌≤◌, ◌⊎◌}
pub use Rattle.std.proofs.Math.Seq.{drop-append_seam, take-add, take-append_seam, take-length}
pub use Rattle.std.proofs.lemmas.Bool.{and_parts, cases_eq, cases_lt, eqb-true, leb-true, ltb-true}
pub use Rattle.std.proofs.lemmas.Grind.{common_steps, flat_map-append, get_or_default_zero}
pub use Rattle.std.proofs.lemmas.Int.{ints, to_z-of_z}
pub use Rattle.std.proofs.lemmas.List.{drop-drop, drop_all, get_or_append_left, get_or_push, length-drop, length_push, map-append, map-id, take-append-drop}
pub use Rattle.std.proofs.lemmas.List.{get_or-map, length-map, get_or_default}
pub use Rattle.std.proofs.lemmas.List.Elements.{All-append, All-cons, All-drop, All-head, All-nil, All-tail, All-take, All-weaker, All-map}
pub use Rattle.std.proofs.lemmas.List.FromFn.{get_or-map-range_with_len, length-map-range_with_len}
pub use Rattle.std.proofs.lemmas.Nat.{and_mask, mod-pow-add, one_shl, or_shifted, pow-add, pow_below, pow_pos, shl_whole, shr-shr, shr_below, shr_split}
pub use Rattle.std.proofs.lemmas.Option.{slice_get-get_or, slice_get_past}
pub use Rattle.std.proofs.lemmas.Result.{IfErr-weaker, err_from_is_err_and}
pub use Rattle.std.specs.Prelude.{All, Contains, IsOk, MatchOption, Option, bit_and, codes, flat_map, if◌then◌else◌, is_ok, is_some, nat_abs, nat_lt, slice_get}
pub use Rattle.std.specs.Prelude.{slice_index_or, slice_range, vec_capacity, vec_len, ◌==◌}
pub use Rattle.qrcode_base.specs.Characters.{IsDigit, IsFirstInvalid, IsKanjiText, IsValid, alphabet, digit, is_between, is_kanji_pair, is_lead}
unfoldable pub use Rattle.qrcode_base.specs.Characters.{alphanumeric_value, is_alphanumeric, kanji_number}
pub use Rattle.qrcode_base.specs.Modes.{HasMode, IsWithin, bytes, characters, count_width, data_bits, digits, indicator, indicator_width, join, same}
pub use Rattle.qrcode_base.specs.Numbers.{byte_bits, zero_bits}
unfoldable pub use Rattle.qrcode_base.specs.Numbers.{number_bits}
pub use Rattle.qrcode_base.specs.Symbols.{IsNormalNumber, capacity, normal_blocks}
pub use Rattle.qrcode_base.specs.declared.types.EcLevel.{EcLevel}
pub use Rattle.qrcode_base.specs.declared.types.EcLevel.TheVariants.{H, L, M, Q}
pub use Rattle.qrcode_base.specs.declared.types.Mode.{Mode}
pub use Rattle.qrcode_base.specs.declared.types.Mode.TheVariants.{Alphanumeric, Byte, Kanji, Numeric}
pub use Rattle.qrcode_base.specs.declared.types.Version.{Version}
pub use Rattle.qrcode_base.specs.declared.types.Version.TheVariants.{Micro, Normal}
pub use Rattle.qrcode_base.specs.declared.types.errors.QrError.{QrError}
pub use Rattle.qrcode_base.specs.declared.types.errors.QrError.TheVariants.{DataTooLong, InvalidVersion, OutOfMemory}
pub use Rattle.qrcode_bits.specs.Optimizer.{AddsTo, Adds, AreGroups, AreSteps, Groups, HasBucket, InBucket, IsAhead, IsAsGoodAs, IsBelow, IsBestStart}
pub use Rattle.qrcode_bits.specs.Optimizer.{IsBetterOf, IsStep, KeepsBetter, Merges, Moves, StandsFor, at, best_start, bits_before, bucket_first, bucket_mode}
pub use Rattle.qrcode_bits.specs.Optimizer.{bucket_rest, first_mode, found, groups_of, key_of, next_plan, part_mode, parts_before, period, period_bits}
pub use Rattle.qrcode_bits.specs.Optimizer.{plans_below, slot_of}
unfoldable pub use Rattle.qrcode_bits.specs.Optimizer.{chosen_plan}
pub use Rattle.qrcode_bits.specs.Frame.{HasHeader, Header, IsFrame, IsTotal, ended, half_byte, half_byte_width, header_of, header_bits, message, padding}
pub use Rattle.qrcode_bits.specs.Frame.{spellings, tail, terminator_width, Front, HasFront, front_bits, front_of, no_front, KeepUnits, HasNoPair}
pub use Rattle.qrcode_bits.specs.Frame.{HasSingleUnits}
unfoldable pub use Rattle.qrcode_bits.specs.Frame.{bytes_in_turn}
pub use Rattle.qrcode_bits.specs.Contents.{AreAllowed, AreDataOf, HasContent, content_bits, parsed_byte, parsed_bytes, piece_data, pieces_of, piece_text}
pub use Rattle.qrcode_bits.specs.Contents.{percent}
pub use Rattle.qrcode_bits.specs.declared.bits.front.Content.{Content}
pub use Rattle.qrcode_bits.specs.declared.bits.front.Content.TheVariants.{Bytes, Elements, Text}
pub use Rattle.qrcode_bits.specs.Parsing.{AreTexts, Class, Digit, LoneLead, Other, Pair, Run, Sign, add_unit, class_mode, class_number, class_of, class_size}
pub use Rattle.qrcode_bits.specs.Parsing.{joins, parsed, run_segment, runs, units}
pub use Rattle.qrcode_bits.specs.Plans.{Fits, FitsNone, FitsNot, HasLinearCosts, IsAsGood, IsChoice, IsChosen, IsChosenPlan, IsClass, IsLeastBits}
pub use Rattle.qrcode_bits.specs.Plans.{IsLeastHolding, IsMergePlan, IsMinVersion, IsNoWorse, IsPlan, StartsNoEarlier, merged, merged_all, micro, normal, part}
pub use Rattle.qrcode_bits.specs.Plans.{part_bits, parts, plan_bits, segment_at, segment_bits, total_bits, normal_from}
pub use Rattle.qrcode_bits.specs.Push.{Ends, EndsAtLevel, IsEncoding, IsEncodingRefused, IsEndRefused, IsLevelRefused, IsPartRefused, IsPlanStream}
pub use Rattle.qrcode_bits.specs.Push.{IsPushRefused, IsUnencodable, PushesDrawn, PushesPieces, Spells, SpellsAll, StopsAt, with_modes}
pub use Rattle.qrcode_bits.specs.Spelling.{IsSpellable, IsSpelling, LiesIn, Piece, character_bits, segment_piece, segment_pieces, spelling, piece_of}
pub use Rattle.qrcode_bits.specs.Stream.{Appends, IsKept, Reserves, Stream, eci_spelling, kept_bits, no_modes, room_in}
pub use Rattle.qrcode_bits.specs.declared.optimize.Segment.{Segment}
pub use Rattle.qrcode_bits.specs.declared.optimize.linear.TheConstants.{RESTS}
pub use Rattle.qrcode_bits.specs.declared.optimize.candidate.Candidate.{Candidate}
pub use Rattle.qrcode_bits.specs.Places.{total_size, ArePlacesBefore, IsUnitEnd, IsCutPlace}
