-- Names that many proofs of this crate import: lemmas and types of the toolchain and of the crates.
pub use Rattle.std.proofs.Common.{All, Bool, Fits, IfSome, IsTrue, List, None, Option, Some, [], ap, arith, cond, count_by, drop, eqb, false, fold, get_or}
pub use Rattle.std.proofs.Common.{get_or-set_other, get_or-set_same, inl, inr, is_some, leb, length, length-append, length-set, ltb, map, max, min, nat_abs}
pub use Rattle.std.proofs.Common.{nat_le, nat_lt, negsuc, not, option_map, pos, refl, replicate, rules, set, slice_get, subst, suc, sym, take, true, unwrap_or}
pub use Rattle.std.proofs.Common.{vec_len, w8, zero, zero-add, ℕ, ℤ, ◌%◌, ◌&&◌, ◌*◌, ◌++◌, ◌+◌, ◌-◌, ◌/◌, ◌<◌, ◌==◌, ◌^◌, ◌||◌, ◌∙◌, ◌∷◌, ◌≡◌, ◌≢◌, ◌≤◌, ◌⊎◌}
pub use Rattle.std.proofs.Math.Nat.{add-mul, div-div-eq-div-mul, mod-eq_of_lt, mod-mod, mul-add, mul-le-mul_right, mul_assoc, mul_comm, one-mul, zero-mul}
pub use Rattle.std.proofs.Math.Seq.{take-add, take-append-add, take-append_seam}
pub use Rattle.std.proofs.lemmas.Bool.{and_parts, cases_eq, cases_lt, eq-eqb, eqb-false, eqb-true, false≢true, leb-true, ltb-true, ne_eqb, not-true, or_cases}
pub use Rattle.std.proofs.lemmas.Bool.Decides.{eqb_tells, leb_tells, nat_tests}
pub use Rattle.std.proofs.lemmas.Grind.{common_steps, same_number_lists}
pub use Rattle.std.proofs.lemmas.Int.{to_z-of_z}
pub use Rattle.std.proofs.lemmas.List.{append-nil, append_assoc, drop-set-lt, drop_all, drop_at, drop_more, get_or-append-add, get_or-drop, get_or-map}
pub use Rattle.std.proofs.lemmas.List.{get_or-take, get_or_append_left, get_or_default, get_or_past, length-drop, length-map, length-replicate, length-take}
pub use Rattle.std.proofs.lemmas.List.{length-take-le, replicate-append-replicate, same_lists, take-append-drop, take_all, take_at, take_more, take_more_set}
pub use Rattle.std.proofs.lemmas.List.Elements.{All-append, All-cons, All-drop, All-from_get_or, All-get_or, All-head, All-nil, All-replicate, All-same}
pub use Rattle.std.proofs.lemmas.List.Elements.{All-tail, All-take}
pub use Rattle.std.proofs.lemmas.List.Folds.{concat-append, sum_by-replicate}
pub use Rattle.std.proofs.lemmas.List.FromFn.{fill_by_all, get_or-map-range_with_len, length-map-range_with_len, length-range_with_len, map-range_with_len_more}
pub use Rattle.std.proofs.lemmas.List.Sums.{count_by-le-length, length-filter, sum_by-append, sum_by-cons, sum_by_more}
pub use Rattle.std.proofs.lemmas.Nat.{div-add-mod', div-mul-add, div_below, mod-mul-add, mod_below, mul-add-lt, pow-add, pow_pos, xor_comm, xor_mod, xor_of_8}
pub use Rattle.std.proofs.lemmas.Nat.Bits.{and_pow, bit_at-lt, bit_at-zero, bit_at_and, bit_at_not, bit_at_ones, bit_at_or, bit_at_xor}
pub use Rattle.std.proofs.lemmas.Option.{get_or_from_slice_get, slice_get-get_or, slice_get-map, slice_get_within, unwrap_or-slice_get}
pub use Rattle.std.proofs.lemmas.Simd.{bitmask_splat, get_or-chunk, get_or-replicate, get_or-zip2, length-chunk, length-zip2, ones-mask_l}
pub use Rattle.std.proofs.lemmas.Slice.{pushed}
pub use Rattle.std.specs.Int.{abs_diff, bit_at, bit_not}
pub use Rattle.std.specs.Int.Bits.{bit_and, bit_or, bit_xor, xor_assoc, xor_self, xor_zero_r}
pub use Rattle.std.specs.List.{concat, filter, list_all, position_or_len, prefix_len, range_with_len, sum}
pub use Rattle.std.specs.Option.{option_or}
pub use Rattle.std.specs.Prelude.{count_ones, slice_range}
unfoldable pub use Rattle.qrcode_base.specs.Numbers.{number_bits}
pub use Rattle.qrcode_base.specs.Symbols.{IsSymbol, IsVersion, block_count, block_sizes, blocks_of, width_of}
pub use Rattle.qrcode_base.specs.declared.symbols.BlockLayout.{BlockLayout}
pub use Rattle.qrcode_base.specs.declared.types.Color.{Color}
pub use Rattle.qrcode_base.specs.declared.types.Color.TheVariants.{Dark, Light}
pub use Rattle.qrcode_base.specs.declared.types.EcLevel.{EcLevel}
pub use Rattle.qrcode_base.specs.declared.types.EcLevel.TheVariants.{H, L, M, Q}
pub use Rattle.qrcode_base.specs.declared.types.Version.{Version}
pub use Rattle.qrcode_base.specs.declared.types.Version.TheVariants.{Micro, Normal}
pub use Rattle.qrcode_grid.specs.Blocks.{AreBlocksApart, AreCodewords, ArePlaces, HasOneOrigin, codeword_block}
unfoldable pub use Rattle.qrcode_grid.specs.Blocks.{AreApart, IsWrittenTo, block_in, given_block, place_in_stream}
pub use Rattle.qrcode_grid.specs.Canvas.{CarriesCodewords, Drawing, TakesCodewords, color_of_module, colors_of, mask_penalties, with_functional, with_mask}
pub use Rattle.qrcode_grid.specs.Codes.{AddsCode, AreBytes, AreRows, AreTerms, IsApart, IsDivisor, IsRemainder, IsDivisionStep, distance}
unfoldable pub use Rattle.qrcode_grid.specs.Codes.{IsSound, double, power, product, shift_and_add, value_at}
pub use Rattle.qrcode_grid.specs.Counts.{IsFunctionalCount, area_count, codeword_count, data_cell_count, functional_cells}
pub use Rattle.qrcode_grid.specs.Masks.{HasFunctionalColors, IsOfFamily, drawn_over, family, format_color, format_value, format_word, inverted_if, is_inverted}
pub use Rattle.qrcode_grid.specs.Masks.{level_number, masked, masked_cell, masked_cells, micro_number, normal_number, raw_colors, sibling, symbol_number}
pub use Rattle.qrcode_grid.specs.Penalty.{IsFirstLeast, IsFirstLeastMask, byte_of, column, is_byte_square_at, line_penalty, normal_penalty, penalty, row}
pub use Rattle.qrcode_grid.specs.Placing.{FilledBelow, FillsRows, IsEmptyRow, IsPair, bits_from, bits_taken, data_bit, filled, row_place, stream_bits}
pub use Rattle.qrcode_grid.specs.Regions.{alignment_at, alignment_coordinate, alignment_coordinates, alignment_count, alignments, count_below}
pub use Rattle.qrcode_grid.specs.Regions.{differing_digits, digit_at, digit_color, finder, format_code, format_first, format_micro, format_second}
pub use Rattle.qrcode_grid.specs.Regions.{functional_color, is_functional_cell, map_cells, near, regions, ring, sum_below}
pub use Rattle.qrcode_grid.specs.Regions.{timing, version_copies, version_digit, version_word, written}
pub use Rattle.qrcode_grid.specs.Scoring.{AreTwins, IsPadded, Marks, cell, code_of, has, has_finder, has_five, has_six, has_square, count_in_planes}
pub use Rattle.qrcode_grid.specs.Scoring.{is_dark_byte}
pub use Rattle.qrcode_grid.specs.Scoring.{is_quiet, is_same, masked_code, pattern_of, places, plane, stride, tallied}
unfoldable pub use Rattle.qrcode_grid.specs.Scoring.{bit_count}
pub use Rattle.qrcode_grid.specs.Walk.{TakesBits, along_walk, bit_color, cell_number, columns_before, data_cells, fill_empty, left_over, numbered_cell}
pub use Rattle.qrcode_grid.specs.Walk.{place_in_walk, rows_before, symbol_bits, timing_column, walk, walk_column}
pub use Rattle.qrcode_grid.specs.declared.canvas.MaskPattern.{MaskPattern}
pub use Rattle.qrcode_grid.specs.declared.canvas.MaskPattern.TheVariants.{Diamonds, Fields}
pub use Rattle.qrcode_grid.specs.declared.canvas.Module.{Module}
pub use Rattle.qrcode_grid.specs.declared.canvas.Module.TheVariants.{Empty, Masked, Unmasked}
pub use Rattle.qrcode_grid.specs.declared.canvas.data.Columns.{Columns}
pub use Rattle.qrcode_grid.specs.declared.canvas.regions.TheConstants.{VERSION_WORDS}
pub use Rattle.qrcode_grid.specs.declared.ec.field.TheConstants.{LOGS, POWERS}
