-- Names that many proofs of this crate import: lemmas and types of the toolchain, and types of
-- the crates below.
pub use Rattle.std.proofs.Common.{Bool, Err, List, Ok, Result, [], ap, append_assoc, arith, drop, false, get_or, inl, inr, length, length-append, map, nat_abs}
pub use Rattle.std.proofs.Common.{pos, refl, replicate, rules, subst, suc, sym, take, true, zero, ℕ, ℤ, ◌%◌, ◌*◌, ◌++◌, ◌+◌, ◌-◌, ◌<◌, ◌∙◌, ◌∷◌, ◌≡◌, ◌≤◌, ◌⊎◌}
pub use Rattle.std.proofs.lemmas.Bool.{cases_eq, eq-eqb, eqb-true, leb-true, ne_eqb}
pub use Rattle.std.proofs.lemmas.Grind.{common_steps, get_or_tail}
pub use Rattle.std.proofs.lemmas.Int.{to_z-of_z}
pub use Rattle.std.proofs.lemmas.List.{append_cancel_right, get_or_append_left, get_or_default, get_or_push, length-replicate, map-append, same_lists, take_at}
pub use Rattle.std.proofs.lemmas.List.Sorted.{Contains-permutation, IsPermutation-refl, IsPermutation-sym, IsPermutation-trans, length_permutation}
pub use Rattle.std.proofs.lemmas.Option.{none-some, same_Some}
pub use Rattle.std.proofs.lemmas.Result.{IfOk-weaker, err_from_is_err_and}
pub use Rattle.std.specs.List.{AllByRecursion, AllZip, concat, count_by, range_with_len}
pub use Rattle.std.specs.List.Sorted.{IsNonDecreasing}
pub use Rattle.std.specs.Prelude.{All, IsPermutation, IsTrue, None, Option, Some, codes, is_some, slice_get, slice_range, unwrap_or}
pub use Rattle.std.specs.String.{string_bytes, string_cmp}
pub use Rattle.qrcode_base.specs.Numbers.{byte_bits, zero_bits}
pub use Rattle.qrcode_base.specs.Symbols.{IsNormalNumber, IsSymbol, IsVersion, block_sizes, blocks, blocks_of, capacity, data_bytes, missing_bits, width_of}
pub use Rattle.qrcode_base.specs.declared.symbols.BlockLayout.{BlockLayout}
pub use Rattle.qrcode_base.specs.declared.types.Color.{Color}
pub use Rattle.qrcode_base.specs.declared.types.Color.TheVariants.{Dark, Light}
pub use Rattle.qrcode_base.specs.declared.types.EcLevel.{EcLevel}
pub use Rattle.qrcode_base.specs.declared.types.Version.{Version}
pub use Rattle.qrcode_base.specs.declared.types.Version.TheVariants.{Micro, Normal}
pub use Rattle.qrcode_base.specs.declared.types.errors.QrError.{QrError}
pub use Rattle.qrcode_base.specs.declared.types.errors.QrError.TheVariants.{DataTooLong, InvalidResourceLimits, OutOfMemory}
pub use Rattle.qrcode_bits.specs.Contents.{AreDataOf, content_bits, parsed_bytes, pieces_of}
pub use Rattle.qrcode_bits.specs.Frame.{Front, Header, IsTotal, ended, front_bits, front_of, half_byte, no_front, spellings, tail}
pub use Rattle.qrcode_bits.specs.declared.bits.front.Content.{Content}
pub use Rattle.qrcode_bits.specs.declared.bits.front.Content.TheVariants.{Bytes, Elements, Text}
pub use Rattle.qrcode_bits.specs.Plans.{IsChoice, micro, normal, total_bits}
pub use Rattle.qrcode_bits.specs.Stream.{Stream}
pub use Rattle.qrcode_core.specs.Symbol.{DrawnSymbol, HoldsStream, TellsReading, modules_of}
pub use Rattle.qrcode_core.specs.Headline.{Carries, HaveDistance, HaveOneContent, HaveOneReading, IsBest, IsBestSymbol, IsRefusal, IsTooLong, Reading, Reads}
pub use Rattle.qrcode_core.specs.Layers.{AreAllCodewords, AreBytesOf, FillsSymbol, IsDrawn, IsDrawnStream, IsEncoded}
pub use Rattle.qrcode_core.specs.Limits.{IsBestWithin, IsBudget, IsLimitedRefusal, IsTooLongWithin}
pub use Rattle.qrcode_core.specs.Registries.{StepsInOrder, named_encoder, named_renderer, postprocessor_of, registered, version_of, with_registrations}
pub use Rattle.qrcode_core.specs.Sequence.{HaveOneMessage, ReadsMessage, ReadsPiece, parts_at, parts_from}
pub use Rattle.qrcode_core.specs.declared.plugin.error.PluginError.{PluginError}
pub use Rattle.qrcode_grid.specs.Blocks.{AreBlocksApart, AreCodewords, codeword_block}
unfoldable pub use Rattle.qrcode_grid.specs.Blocks.{AreApart, block_in, place_in_stream}
pub use Rattle.qrcode_grid.specs.Codes.{AreBytes}
pub use Rattle.qrcode_grid.specs.Masks.{HasFunctionalColors, IsOfFamily, format_word, level_number, micro_number, normal_number, symbol_number}
pub use Rattle.qrcode_grid.specs.Regions.{functional_color, is_dark}
pub use Rattle.qrcode_grid.specs.declared.canvas.MaskPattern.{MaskPattern}
