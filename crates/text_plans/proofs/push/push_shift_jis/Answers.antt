-- What is appended is read again, and has the size that was found.
use Rattle.std.proofs.Common.{◌≡◌, ℕ, ◌∷◌, [], refl, sym, ◌∙◌, None, Some, get_or, arith}
use Rattle.character_sets.specs.Bytes.{character_of_byte, shift_jis_character}
use Rattle.text_plans.specs.Lanes.{force_of, IsSize}
use Rattle.text_plans.proofs.Adding.{byte_reads}
use Rattle.text_plans.proofs.Sizes.{kana_size, kana_reads, pair_size, pair_reads, no_shift_jis}
use Rattle.text_plans.proofs.Sizes.{one_size_only, some_size}
use Rattle.text_plans.proofs.push.push_shift_jis.Goals as goal

by_designator : (byte : ℕ) → character_of_byte (Some 20) byte ≡ shift_jis_character byte
unfolding character_of_byte
by_designator byte = refl

pub returns-in_ok-push-in-Some : goal.returns-in_ok-push-in-Some
returns-in_ok-push-in-Some c =
    let single : shift_jis_character c.in-Some.byte ≡ Some c.args.c = sym (by_designator c.in-Some.byte) ∙ c.in-Some.ensures.right in
    let known : IsSize 14 c.args.c (get_or c.args.facts.now.sizes 14 0) = c.requires.known.sizes 14 (omega arith) in
    record {
      bytes = c.in-Some.byte ∷ [];
      new_is = c.in_ok-push-in-Some.ensures;
      size_is = sym (one_size_only 14 c.args.c _ 1 known (kana_size c.args.c c.in-Some.byte single) c.requires.some);
      read = λ plain mixed suits kanji. byte_reads plain mixed (force_of 14) _ _ (kana_reads c.args.c c.in-Some.byte single mixed);
    }

pub returns-in_ok-push-in-Some-pair_of : goal.returns-in_ok-push-in-Some-pair_of
returns-in_ok-push-in-Some-pair_of c =
    let lead = c.in-Some-pair_of.lead in
    let trail = c.in-Some-pair_of.trail in
    let known : IsSize 14 c.args.c (get_or c.args.facts.now.sizes 14 0) = c.requires.known.sizes 14 (omega arith) in
    let none : (byte : ℕ) → shift_jis_character byte ≡ Some c.args.c → ⊥ =
    λ byte h. let e : None ≡ Some byte = c.in-None.ensures.found byte (by_designator byte ∙ h) in cc in
    record {
      bytes = lead ∷ trail ∷ [];
      new_is = c.in_ok-push-in-Some-pair_of.ensures;
      size_is = sym (one_size_only 14 c.args.c _ 2 known (pair_size c.args.c lead trail none c.in-Some-pair_of.ensures.right) c.requires.some);
      read = λ plain mixed suits kanji.
          byte_reads plain mixed (force_of 14) _ _ (pair_reads c.args.c lead trail c.in-Some-pair_of.ensures.right mixed);
    }

pub unreachable-requires : goal.unreachable-requires
unreachable-requires c =
    let known : IsSize 14 c.args.c (get_or c.args.facts.now.sizes 14 0) = c.requires.known.sizes 14 (omega arith) in
    some_size 14 c.args.c _ known c.requires.some
    (no_shift_jis c.args.c (λ byte h. let e : None ≡ Some byte = c.in-None.ensures.found byte (by_designator byte ∙ h) in cc)
    (λ lead trail h. let e : None ≡ Some (lead, trail) = c.in-None-pair_of.ensures.found lead trail h in cc))
