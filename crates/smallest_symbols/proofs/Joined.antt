-- Parts of several symbols of one manner are read as the texts of the symbols, one after the other.
use Rattle.std.proofs.Common.{◌≡◌, ℕ, suc, ◌<◌, Bool, true, false, inl, inr, List, [], ◌∷◌, ◌++◌}
use Rattle.std.proofs.Common.{get_or, length, refl, ap, ◌∙◌, arith}
use Rattle.std.specs.Prelude.{Option, None, Some}
use Rattle.std.specs.List.{concat}
use Rattle.qrcode_base.specs.declared.types.Version.{Version}
use Rattle.character_sets.specs.Reading.{Part, designator, segment, has_kanji, has_no_designator}
use Rattle.character_sets.specs.Reading.{read_parts}
use Rattle.text_plans.specs.Manners.{ArePartsIn, BeginsAsIn, begins_with_designator, mixed_in}
use Rattle.text_plans.specs.Manners.{plain_in}
use Rattle.text_plans.specs.declared.rules.Manner.{Manner}
use Rattle.text_plans.specs.declared.rules.Manner.TheVariants.{Ascii, Paired, Designated}
use Rattle.text_plans.proofs.Steps.{force_after, kanji_append, parts_append, plain_append}
use Rattle.smallest_symbols.specs.TextMessages.{joined_parts}

-- Parts that are read as a text in a manner, in whatever versions they are.
pub record AreJoined (manner : Manner) (parts : List Part) (text : List ℕ) : Type 0 where
  pub read : read_parts (plain_in manner) (mixed_in manner) None parts ≡ Some text
  pub plain : plain_in manner ≡ true → has_no_designator parts ≡ true
  pub mixed : has_kanji parts ≡ true → mixed_in manner ≡ true
  pub begins : BeginsAsIn manner parts

-- Without designators none is in force.
force_none : (parts : List Part) → has_no_designator parts ≡ true → force_after None parts ≡ None
unfolding force_after has_no_designator
force_none [] h = refl
force_none (designator number ∷ parts) h = absurd (cc)
force_none (segment mode bytes ∷ parts) h = force_none parts h

-- Before a designator it is all one which is in force.
any_force : (plain mixed : Bool) (force : Option ℕ) (parts : List Part) → begins_with_designator parts ≡ true →
    read_parts plain mixed force parts ≡ read_parts plain mixed None parts
unfolding read_parts begins_with_designator
any_force plain mixed force [] h = refl
any_force plain mixed force (designator number ∷ parts) h = refl
any_force plain mixed force (segment mode bytes ∷ parts) h = absurd (cc)

next_read : (manner : Manner) (front parts : List Part) (text : List ℕ) → (plain_in manner ≡ true → has_no_designator front ≡ true) →
    BeginsAsIn manner parts → read_parts (plain_in manner) (mixed_in manner) None parts ≡ Some text →
    read_parts (plain_in manner) (mixed_in manner) (force_after None front) parts ≡ Some text
next_read Ascii front parts text plain begins h = ap (λ (force : Option ℕ). read_parts true false force parts) (force_none front (plain refl)) ∙ h
next_read Paired front parts text plain begins h = ap (λ (force : Option ℕ). read_parts true true force parts) (force_none front (plain refl)) ∙ h
next_read Designated front parts text plain begins h = any_force false true (force_after None front) parts begins ∙ h

both_begin : (front parts : List Part) → begins_with_designator front ≡ true → begins_with_designator parts ≡ true →
    begins_with_designator (front ++ parts) ≡ true
unfolding begins_with_designator
both_begin [] parts h k = k
both_begin (designator number ∷ front) parts h k = refl
both_begin (segment mode bytes ∷ front) parts h k = absurd (cc)

begin_so : (manner : Manner) (front parts : List Part) → BeginsAsIn manner front → BeginsAsIn manner parts → BeginsAsIn manner (front ++ parts)
begin_so Ascii front parts h k = tt
begin_so Paired front parts h k = tt
begin_so Designated front parts h k = both_begin front parts h k

none_begin : (manner : Manner) → BeginsAsIn manner []
unfolding begins_with_designator
none_begin Ascii = tt
none_begin Paired = tt
none_begin Designated = refl

join_one : (manner : Manner) (version : Version) (front rest : List Part) (text later : List ℕ) → ArePartsIn manner version text front →
    AreJoined manner rest later → AreJoined manner (front ++ rest) (text ++ later)
join_one manner version front rest text later h k = record {
  read = parts_append (plain_in manner) (mixed_in manner) None front rest text later h.read
      (next_read manner front rest later h.plain k.begins k.read);
  plain = λ e. plain_append front rest (h.plain e) (k.plain e);
  mixed = λ e. elim (kanji_append front rest e) [ inl w ↦ h.mixed w | inr w ↦ k.mixed w ];
  begins = begin_so manner front rest h.begins k.begins;
}

pub join_all : (manner : Manner) (parts : List (List Part)) (texts : List (List ℕ)) → length parts ≡ length texts →
    ((i : ℕ) → i < length parts → (version : Version) × ArePartsIn manner version (get_or texts i []) (get_or parts i [])) →
    AreJoined manner (joined_parts parts) (concat texts)
unfolding joined_parts read_parts has_no_designator has_kanji
join_all manner [] [] same each = record {
  read = refl;
  plain = λ e. refl;
  mixed = λ e. absurd (cc);
  begins = none_begin manner;
}
join_all manner [] (text ∷ texts) same each = absurd (omega (arith, same))
join_all manner (front ∷ parts) [] same each = absurd (omega (arith, same))
join_all manner (front ∷ parts) (text ∷ texts) same each =
    let first = each 0 (omega arith) in
    join_one manner first.0 front (joined_parts parts) text (concat texts) first.1
    (join_all manner parts texts (omega (arith, same)) (λ i below. each (suc i) (omega (arith, below))))
