-- A plan is written character by character.
use Rattle.std.proofs.Common.{◌≡◌, ℕ, zero, suc, ◌+◌, ◌≤◌, ◌<◌, Bool, true, false, List, [], ◌∷◌}
use Rattle.std.proofs.Common.{◌++◌, length, get_or, take, drop, drop-cons, refl, ap, sym, ◌∙◌}
use Rattle.std.proofs.Common.{subst, arith, append_assoc, inl, inr, Option, None, Some}
use Rattle.std.proofs.lemmas.Grind.{common_steps}
use Rattle.std.proofs.lemmas.List.{append-nil, take_more}
use Rattle.qrcode_base.specs.declared.types.Mode.{Mode}
use Rattle.qrcode_base.specs.declared.types.Version.{Version}
use Rattle.std.proofs.lemmas.List.Elements.{All-nil}
use Rattle.qrcode_base.specs.declared.types.Mode.TheVariants.{Numeric, Alphanumeric, Byte, Kanji}
use Rattle.text_plans.specs.Costs.{HasPart}
use Rattle.character_sets.specs.Reading.{Part, designator, has_kanji, has_no_designator, read_parts}
use Rattle.character_sets.specs.Reading.{segment}
use Rattle.text_plans.specs.Choices.{CanBe, IsCharStep, Makes, lane_after, open_value}
use Rattle.text_plans.specs.Lanes.{AreAllFacts, AreFacts, force_of}
use Rattle.text_plans.specs.Plan.{Written, all_parts}
use Rattle.text_plans.specs.Keeping.{IsKeptLane, IsRowOf, KeepsEnough, switch_kept}
use Rattle.text_plans.specs.Search.{lane_before, no_rest, rests_of, switch_least}
use Rattle.text_plans.specs.Starts.{BeginWith, IsStart, front_in, front_of, weight_from}
use Rattle.text_plans.specs.Tables.{IsWeighed}
use Rattle.text_plans.specs.Ways.{AreRules, weight_of}
use Rattle.text_plans.specs.declared.facts.Facts.{Facts}
use Rattle.text_plans.specs.declared.row.Rest.{Rest}
use Rattle.text_plans.specs.declared.row.TheConstants.{LIMIT}
use Rattle.text_plans.specs.declared.rules.Rules.{Rules}
use Rattle.text_plans.specs.declared.walk.Choice.{Choice}
use Rattle.text_plans.specs.declared.walk.Choice.TheVariants.{GoOn, Begin, Change}
use Rattle.text_plans.proofs.Kept.{enough_from, kept_is}
use Rattle.text_plans.proofs.Rows.{entry, entry_end, entry_step}
use Rattle.text_plans.proofs.Steps.{AreComplete, IsDraft, OpenReads, all_complete, designated}
use Rattle.text_plans.proofs.Steps.{force_after, lane_force, step}

-- ---- The facts of a text

pub facts_long : (chars : List ℕ) (all : List Facts) → AreAllFacts chars all → length chars ≡ length all
facts_long [] [] h = refl
facts_long [] (f ∷ all) h = absurd h
facts_long (c ∷ chars) [] h = absurd h
facts_long (c ∷ chars) (f ∷ all) h = ap suc (facts_long chars all h.1)

pub facts_at : (chars : List ℕ) (all : List Facts) (k d : ℕ) (e : Facts) → AreAllFacts chars all → k < length all →
    AreFacts (get_or chars k d) (get_or all k e)
facts_at [] [] k d e h inside = absurd (omega arith)
facts_at [] (f ∷ all) k d e h inside = absurd h
facts_at (c ∷ chars) [] k d e h inside = absurd h
facts_at (c ∷ chars) (f ∷ all) zero d e h inside = h.0
facts_at (c ∷ chars) (f ∷ all) (suc k) d e h inside = facts_at chars all k d e h.1 (omega arith)

pub facts_more : (chars next : List ℕ) (all more : List Facts) (c : ℕ) (f : Facts) → AreAllFacts chars all → AreFacts c f →
    next ≡ chars ++ c ∷ [] → more ≡ all ++ f ∷ [] → AreAllFacts next more
facts_more chars next all more c f h is n m = rw n (rw m (appended chars all h))
  where
    appended : (chars : List ℕ) (all : List Facts) → AreAllFacts chars all → AreAllFacts (chars ++ c ∷ []) (all ++ f ∷ [])
    appended [] [] h = (is, tt)
    appended [] (g ∷ all) h = absurd h
    appended (d ∷ chars) [] h = absurd h
    appended (d ∷ chars) (g ∷ all) h = (h.0, appended chars all h.1)

no_value : (mode : Option Mode) (count : ℕ) → open_value no_rest mode count ≡ 0
no_value None count = refl
no_value (Some Numeric) count = grind (arith, common_steps)
no_value (Some Alphanumeric) count = grind (arith, common_steps)
no_value (Some Byte) count = refl
no_value (Some Kanji) count = refl

empty_complete : (version : Version) (plain mixed : Bool) (rules : Rules) → AreRules version plain mixed rules →
    AreComplete version plain mixed rules.start [] []
unfolding read_parts force_after has_no_designator has_kanji
empty_complete version plain mixed rules are = record {
  inside = are.lanes.inside;
  suits = are.lanes.suits;
  read = refl;
  force = sym are.lanes.no_force;
  had = All-nil (HasPart version);
  plain_is = λ e. refl;
  mixed_is = λ e. absurd (let no : false ≡ true = e in cc);
}

-- ---- What a plan begins with

more_parts : (front parts more : List Part) → BeginWith front parts → BeginWith front (parts ++ more)
more_parts front parts more w = (w.0 ++ more, ap (λ (x : List Part). x ++ more) w.1 ∙ append_assoc front w.0 more)

with_open : (front parts : List Part) (mode : Option Mode) (bytes : List ℕ) → BeginWith front parts →
    let written : Written = record { parts = parts; mode = mode; bytes = bytes } in BeginWith front (all_parts written)
with_open front parts None bytes w = w
with_open front parts (Some mode) bytes w = more_parts front parts (segment mode bytes ∷ []) w

pub all_begin : (front : List Part) (written : Written) → BeginWith front written.parts → BeginWith front (all_parts written)
all_begin front written w = with_open front written.parts written.mode written.bytes w

-- What a plan begins with stays in front of it.
begin_still : (rules : Rules) (facts : Facts) (lane c : ℕ) (choice : Choice) (front : List Part) (old new : Written) →
    CanBe rules facts lane old.mode choice → Makes facts lane c choice old new → BeginWith front old.parts → BeginWith front new.parts
begin_still rules facts lane c GoOn front old new can makes w =
    let adds = makes can.0 can.1 in
    subst (BeginWith front) (sym (ap (λ (x : Written). x.parts) adds.new_is)) w
begin_still rules facts lane c (Begin mode) front old new can makes w =
    subst (BeginWith front) (sym (ap (λ (x : Written). x.parts) makes.new_is)) (all_begin front old w)
begin_still rules facts lane c (Change to mode) front old new can makes w =
    let number = lane_force to can.0 can.1 in
    let adds = makes number.0 number.1 in
    subst (BeginWith front) (sym (ap (λ (x : Written). x.parts) adds.new_is))
    (more_parts front (all_parts old) (designator number.0 ∷ []) (all_begin front old w))

module _ (version : Version) (plain mixed : Bool) (rules : Rules) (are : AreRules version plain mixed rules) where
  -- A plan of the first characters, which begins in a lane.
  pub record IsWalked (chars : List ℕ) (all : List Facts) (start k lane : ℕ) (written : Written) : Type 0 where
    pub draft : IsDraft version plain mixed lane written (take k chars)
    pub kept : IsKeptLane rules.kept lane
    pub front : BeginWith (front_of start) written.parts
    pub weight : weight_of version (all_parts written) + open_value (entry rules (drop k all) lane) written.mode (length written.bytes)
        ≡ weight_from version rules all start

  -- What is no segment has no bytes.
  pub none_open : (chars : List ℕ) (all : List Facts) (start k lane : ℕ) (written : Written) → IsWalked chars all start k lane written →
      written.mode ≡ None → written.bytes ≡ []
  none_open chars all start k lane written h is =
      (subst (λ (m : Option Mode). OpenReads version plain mixed (force_of lane) m written.bytes h.draft.opened) is h.draft.open_reads).0

  pub before_is : (all : List Facts) (k lane : ℕ) (d : Facts) (row : List Rest) → k < length all → lane < 17 → IsKeptLane rules.kept lane →
      KeepsEnough rules all → IsRowOf rules (drop (k + 1) all) row →
      lane_before rules (get_or all k d) (switch_kept rules (get_or all k d) row 15) lane (get_or row lane no_rest) ≡ entry rules (drop k all) lane
  before_is all k lane d row inside low keeps enough is =
      let more : drop k all ≡ get_or all k d ∷ drop (k + 1) all =
      let next : suc k ≡ k + 1 = omega arith in drop-cons all k d inside ∙ ap (λ (m : ℕ). get_or all k d ∷ drop m all) next in
      let needed = subst (λ (x : List Facts). KeepsEnough rules x) more (enough_from rules all k enough) in
      ap (λ (switched : ℕ). lane_before rules (get_or all k d) switched lane (get_or row lane no_rest))
      (kept_is rules (get_or all k d) (drop (k + 1) all) row is needed)
      ∙ ap (λ (rest : Rest). lane_before rules (get_or all k d) (switch_least rules (get_or all k d) (rests_of rules (drop (k + 1) all)) 15) lane rest)
      (is.1 lane low keeps)
      ∙ sym (ap (λ (x : List Facts). entry rules x lane) more ∙ entry_step rules (get_or all k d) (drop (k + 1) all) lane low)

  -- A lane that is chosen is kept.
  chosen_kept : (facts : Facts) (lane : ℕ) (opened : Option Mode) (choice : Choice) → IsKeptLane rules.kept lane → CanBe rules facts lane opened choice →
      IsKeptLane rules.kept (lane_after lane choice)
  chosen_kept facts lane opened GoOn keeps can = keeps
  chosen_kept facts lane opened (Begin mode) keeps can = keeps
  chosen_kept facts lane opened (Change to mode) keeps can = can.3

  -- The value of what follows is small.
  pub value_small : (chars : List ℕ) (all : List Facts) (start k lane : ℕ) (written : Written) → IsWalked chars all start k lane written →
      weight_from version rules all start < LIMIT → open_value (entry rules (drop k all) lane) written.mode (length written.bytes) < LIMIT
  value_small chars all start k lane written h small = omega (arith, h.weight, small)

  pub walk_more : (chars : List ℕ) (all : List Facts) (start k lane d : ℕ) (e : Facts) (row : List Rest) (old new : Written) (after : ℕ) →
      AreAllFacts chars all → IsWalked chars all start k lane old → weight_from version rules all start < LIMIT → k < length all → KeepsEnough rules all →
      IsRowOf rules (drop (k + 1) all) row → IsCharStep rules (get_or all k e) row lane (get_or chars k d) old new after →
      IsWalked chars all start (k + 1) after new
  walk_more chars all start k lane d e row old new after known h small inside enough is made =
      let value = ap (λ (rest : Rest). open_value rest old.mode (length old.bytes))
      (before_is all k lane e row inside h.draft.complete.inside h.kept enough is) in
      let below = value_small chars all start k lane old h small in
      let kept = step version plain mixed rules are (get_or all k e) row (get_or chars k d) lane made.choice old new (take k chars) h.draft made.possible made.makes
      (omega (arith, made.weight, value, below)) in
      let within : k < length chars = omega (arith, facts_long chars all known) in
      let keeps = chosen_kept (get_or all k e) lane old.mode made.choice h.kept made.possible in
      subst (λ (n : ℕ). IsWalked chars all start (k + 1) n new) (sym made.after_is) (record {
        front = begin_still rules (get_or all k e) lane (get_or chars k d) made.choice (front_of start) old new made.possible made.makes h.front;
        draft = subst (λ (t : List ℕ). IsDraft version plain mixed (lane_after lane made.choice) new t) (sym (take_more chars k d within)) kept.0;
        kept = keeps;
        weight = omega (
          arith,
          kept.1,
          h.weight,
          made.weight,
          value,
          ap (λ (r : Rest). open_value r new.mode (length new.bytes))
              (is.1 (lane_after lane made.choice) kept.0.complete.inside keeps),
        );
      })

  -- Before the first character there is at most a designator.
  front_none : front_of rules.start ≡ []
  front_none = ap (λ (force : Option ℕ). front_in force) are.lanes.no_force

  start_complete : (start : ℕ) → IsStart rules start → AreComplete version plain mixed start (front_of start) []
  start_complete start h = elim h.1 [
    | inl same ↦
        subst (λ (n : ℕ). AreComplete version plain mixed n (front_of n) []) (sym same)
        (subst (λ (x : List Part). AreComplete version plain mixed rules.start x []) (sym front_none) (empty_complete version plain mixed rules are))
    | inr found ↦
        let number = lane_force start found.0 found.1 in
        let allowed = are.designators found.2 in
        subst (λ (x : List Part). AreComplete version plain mixed start x []) (sym (ap (λ (force : Option ℕ). front_in force) number.1))
        (designated version plain mixed rules.start [] [] start number.0 (empty_complete version plain mixed rules are) found.0 found.1 number.1
        (allowed.1 number.0) allowed.2)
  ]

  pub walk_first : (chars : List ℕ) (all : List Facts) (start : ℕ) (written : Written) → IsStart rules start → written.parts ≡ front_of start →
      written.mode ≡ None → written.bytes ≡ [] → IsWalked chars all start 0 start written
  walk_first chars all start written is parts mode bytes =
      let none : Written = record { parts = front_of start; mode = None; bytes = [] } in
      let e : none ≡ written = grind (arith, parts, mode, bytes) in
      subst (λ (w : Written). IsWalked chars all start 0 start w) e (record {
        draft = record {
          before = [];
          opened = [];
          complete = start_complete start is;
          open_reads = (refl, refl);
          text_is = grind (arith, common_steps);
        };
        kept = is.0;
        front = ([], sym (append-nil (front_of start)));
        weight = grind (arith, common_steps);
      })

  -- After the last one.
  pub walked : (chars : List ℕ) (all : List Facts) (start k lane : ℕ) (written : Written) → AreAllFacts chars all → IsWalked chars all start k lane written →
      length all ≤ k → IsWeighed version plain mixed chars (weight_from version rules all start) (all_parts written)
  walked chars all start k lane written known h past =
      let complete = all_complete version plain mixed lane written (take k chars) h.draft in
      let whole : take k chars ≡ chars = grind (arith, common_steps, facts_long chars all known) in
      let rest : drop k all ≡ [] = grind (arith, common_steps) in
      let nothing : open_value (entry rules (drop k all) lane) written.mode (length written.bytes) ≡ 0 =
      ap (λ (x : List Facts). open_value (entry rules x lane) written.mode (length written.bytes)) rest
      ∙ ap (λ (r : Rest). open_value r written.mode (length written.bytes)) (entry_end rules lane complete.inside)
      ∙ no_value written.mode (length written.bytes) in
      record {
        read = complete.read ∙ ap (λ (x : List ℕ). Some x) whole;
        had = complete.had;
        plain_is = complete.plain_is;
        mixed_is = complete.mixed_is;
        weight_is = omega (arith, h.weight, nothing);
      }
