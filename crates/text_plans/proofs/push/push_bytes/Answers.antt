-- What is appended is read again, and has the size that was found.
use Rattle.std.proofs.Common.{◌≡◌, ℕ, ◌∷◌, [], ap, sym, subst, ◌∙◌, None, Some, get_or, length}
use Rattle.std.proofs.Common.{encode_utf8, List, OnOk}
use Rattle.std.specs.Char.{len_utf8}
use Rattle.qrcode_base.specs.declared.types.Mode.TheVariants.{Byte}
use Rattle.character_sets.specs.Reading.{read_bytes}
use Rattle.text_plans.specs.Choices.{AddsBytes}
use Rattle.text_plans.specs.Lanes.{force_of, IsSize, single_character}
use Rattle.text_plans.proofs.Adding.{byte_reads}
use Rattle.text_plans.proofs.Sizes.{no_size, one_size, single_lane, single_read, utf8_size}
use Rattle.text_plans.proofs.Sizes.{utf8_reads, one_size_only, some_size}
use Rattle.text_plans.proofs.push.push_bytes.Goals as goal

pub returns-then-lane-eq14 : goal.returns-then-lane-eq14
returns-then-lane-eq14 c =
    subst (λ (k : ℕ). OnOk c.push_shift_jis.result
    (AddsBytes k Byte c.args.c (get_or c.args.facts.now.sizes k 0) c.args.draft.now c.push_shift_jis.new.draft)) (sym c.if-lane-eq14.true)
    c.push_shift_jis.ensures

pub returns-then-lane-eq15 : goal.returns-then-lane-eq15
returns-then-lane-eq15 c =
    let size = utf8_size c.args.c c.ranges.c.0 in
    let known : IsSize 15 c.args.c (get_or c.args.facts.now.sizes c.args.lane 0) =
    subst (λ (k : ℕ). IsSize k c.args.c (get_or c.args.facts.now.sizes c.args.lane 0)) c.if-lane-eq15.true
    (c.requires.known.sizes c.args.lane c.requires.lane) in
    let bytes_are : c.as_bytes.result.now ≡ encode_utf8 c.args.c = c.as_bytes.ensures.value ∙ c.encode_utf8.ensures.value in
    record {
      bytes = c.as_bytes.result.now;
      new_is = c.in_ok-push.ensures;
      size_is =
          ap (λ (x : List ℕ). length x) bytes_are ∙ sym (ap (λ (x : List ℕ). length x) (c.encode_utf8.ensures.value)) ∙ c.encode_utf8.ensures.len
          ∙ sym (one_size_only 15 c.args.c _ (len_utf8 c.args.c) known size c.requires.some);
      read = λ plain mixed suits kanji.
          byte_reads plain mixed (force_of c.args.lane) c.as_bytes.result.now (c.args.c ∷ [])
          (subst (λ (k : ℕ). read_bytes mixed (force_of k) c.as_bytes.result.now ≡ Some (c.args.c ∷ [])) (sym c.if-lane-eq15.true)
          (subst (λ (x : List ℕ). read_bytes mixed (force_of 15) x ≡ Some (c.args.c ∷ [])) (sym bytes_are)
          (utf8_reads c.args.c c.ranges.c.0 mixed)));
    }

pub returns : goal.returns
returns c =
    let single = single_lane c.args.lane c.requires.lane c.if-lane-eq14.false c.if-lane-eq15.false in
    let size = one_size c.args.lane (single_character c.args.lane) c.args.c c.in-Some.byte single c.in-Some.ensures.right in
    record {
      bytes = c.in-Some.byte ∷ [];
      new_is = c.in_ok-push-in-Some.ensures;
      size_is = sym (one_size_only c.args.lane c.args.c _ 1 (c.requires.known.sizes c.args.lane c.requires.lane) size c.requires.some);
      read = λ plain mixed suits kanji.
          byte_reads plain mixed (force_of c.args.lane) _ _
          (single_read c.args.lane (single_character c.args.lane) c.args.c c.in-Some.byte single c.in-Some.ensures.right mixed suits);
    }

pub unreachable-requires : goal.unreachable-requires
unreachable-requires c =
    let single = single_lane c.args.lane c.requires.lane c.if-lane-eq14.false c.if-lane-eq15.false in
    some_size c.args.lane c.args.c _ (c.requires.known.sizes c.args.lane c.requires.lane) c.requires.some
    (no_size c.args.lane (single_character c.args.lane) c.args.c single
    (λ byte h. let e : None ≡ Some byte = c.in-None.ensures.found byte h in cc))
