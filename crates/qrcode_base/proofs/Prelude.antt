-- Names that many proofs of this crate import, re-exported: lemmas and types of the toolchain, and
-- types of the crates.
pub use Rattle.std.proofs.Common.{Bool, IsTrue, List, [], ap, arith, below_more, drop, false, get_or, inl, inr, length, length-drop, negsuc, pos, refl, rules}
pub use Rattle.std.proofs.Common.{subst, suc, sym, take, true, zero, ℕ, ◌*◌, ◌++◌, ◌+◌, ◌-◌, ◌<◌, ◌^◌, ◌∙◌, ◌∷◌, ◌≡◌, ◌≤◌}
pub use Rattle.std.proofs.Math.Seq.{take-length}
pub use Rattle.std.proofs.lemmas.Bool.{and_parts, cases_lt, eqb-true, false≢true, leb-true, ltb-true}
pub use Rattle.std.proofs.lemmas.List.{get_or-take, get_or_default, length-take}
pub use Rattle.std.proofs.lemmas.Option.{slice_get-get_or, slice_get_within}
pub use Rattle.std.specs.Prelude.{All, Contains, None, Option, Some, codes, if◌then◌else◌, is_some, map, nat_lt}
pub use Rattle.std.specs.Prelude.{option_map, position, slice_get, unwrap_or, ◌&&◌, ◌==◌}
pub use Rattle.qrcode_base.specs.Characters.{FirstInvalid, IsDigit, IsFirstInvalid, IsKanjiText, IsValid, alphabet, is_between, is_kanji_pair}
unfoldable pub use Rattle.qrcode_base.specs.Characters.{alphanumeric_value, first_invalid, is_alphanumeric, is_kanji_text, is_valid, longest_beginning}
pub use Rattle.qrcode_base.specs.Symbols.{IsVersion, blocks_of, capacity, data_bytes, normal_blocks, width_of}
pub use Rattle.qrcode_base.specs.declared.characters.TheConstants.{PLACES}
pub use Rattle.qrcode_base.specs.declared.symbols.BlockLayout.{BlockLayout}
pub use Rattle.qrcode_base.specs.declared.types.EcLevel.{EcLevel}
pub use Rattle.qrcode_base.specs.declared.types.Mode.{Mode}
pub use Rattle.qrcode_base.specs.declared.types.Mode.TheVariants.{Alphanumeric, Byte, Kanji, Numeric}
pub use Rattle.qrcode_base.specs.declared.types.Version.{Version}
pub use Rattle.qrcode_base.specs.declared.types.Version.TheVariants.{Micro, Normal}
