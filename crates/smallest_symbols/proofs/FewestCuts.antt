-- The longest parts of a text that fit are the fewest.
use Rattle.std.proofs.Common.{◌≡◌, ◌≢◌, ℕ, zero, suc, ◌+◌, ◌*◌, ◌-◌, ◌<◌, ◌≤◌, inl, inr, List, []}
use Rattle.std.proofs.Common.{◌∷◌}
use Rattle.std.proofs.Common.{◌++◌, append_assoc, length, length-append, drop, get_or, refl, sym}
use Rattle.std.proofs.Common.{ap, subst, ◌∙◌, arith}
use Rattle.std.specs.Prelude.{All, chars, slice_index_or, slice_range}
use Rattle.std.specs.Str.{IsUtf8}
use Rattle.std.proofs.lemmas.Bool.{cases_lt}
use Rattle.std.proofs.lemmas.Grind.{common_steps}
use Rattle.std.proofs.lemmas.List.{append-nil, length-drop, take_all}
use Rattle.std.proofs.lemmas.List.Elements.{All-cons, All-nil}
use Rattle.qrcode_base.specs.declared.types.EcLevel.{EcLevel}
use Rattle.qrcode_bits.specs.Places.{AreCutPlaces, IsCutPlace}
use Rattle.qrcode_bits.specs.declared.bits.front.Content.TheVariants.{Elements, Text}
use Rattle.qrcode_bits.proofs.Cutting.{end_place, place_within, start_place}
use Rattle.qrcode_core.specs.Sequence.{parts_from}
use Rattle.qrcode_core.proofs.BestCuts.{first_place, is_place, last_place, places_order, some_place}
use Rattle.text_plans.specs.declared.rules.Manner.{Manner}
use Rattle.smallest_symbols.specs.TextParts.{IsTextPartTooLong}
use Rattle.smallest_symbols.specs.TextParts.{IsSomeTextPartTooLong}
use Rattle.smallest_symbols.specs.TextCuts.{AreFewestIn, AreFittingTextCuts, IsPartFromTooLong}
use Rattle.smallest_symbols.proofs.Slices.{chars_join, many_too_long, text_within}

text_cut : Text ≢ Elements
text_cut e = cc

rest_whole : (from : ℕ) (message : List ℕ) → slice_range message from (length message) ≡ drop from message
rest_whole from message = grind (arith, common_steps, take_all, length-drop)

-- What is known before the part that begins at the place of index `first`, after `n` cuts.
pub record AreCutsUpTo (manner : Manner) (message : List ℕ) (level : EcLevel) (limit : ℕ) (places : List ℕ) (first n : ℕ) (cuts : List ℕ) : Type 0 where
  pub count : length cuts ≡ n
  pub inside : first < length places
  pub before : (ending : List ℕ) → AreFittingTextCuts manner message level limit (slice_index_or places first 0) ending →
      AreFittingTextCuts manner message level limit 0 (cuts ++ ending)
  pub others : (more : List ℕ) → AreFittingTextCuts manner message level limit 0 more →
      (rest : List ℕ) × AreFittingTextCuts manner message level limit (slice_index_or places first 0) rest × (length rest + n ≤ length more)

module _ (manner : Manner) (message : List ℕ) (level : EcLevel) (limit : ℕ) (utf8 : IsUtf8 message) where
  abbrev TooLong : ℕ → ℕ → Type 0
  TooLong = IsPartFromTooLong manner message level limit

  abbrev Fitting : ℕ → List ℕ → Type 0
  Fitting = AreFittingTextCuts manner message level limit

  pub later_too_long : (p r s : ℕ) → p ≤ r → r ≤ s → IsCutPlace Text message p → IsCutPlace Text message r → TooLong p r → TooLong p s
  later_too_long p r s h k a b = text_within message utf8 manner level limit p p r s (omega arith) h k a a b

  -- cuts from a place on, from a later place on
  later_cuts : (d e : ℕ) → d ≤ e → IsCutPlace Text message d → IsCutPlace Text message e → (cuts : List ℕ) → Fitting d cuts →
      (rest : List ℕ) × Fitting e rest × (length rest ≤ length cuts)
  later_cuts d e h a b [] fit =
      let most = place_within Text message e b in let end = end_place Text message text_cut in
      ([], (λ long. fit (text_within message utf8 manner level limit d e (length message) (length message) h most (omega arith) a b end long)), omega arith)
  later_cuts d e h a b (x ∷ xs) fit = elim (cases_lt e x) [
    | inl less ↦ (
      x ∷ xs,
      (
        omega (arith, less),
        fit.1,
        (λ long. fit.2 (text_within message utf8 manner level limit d e x x h (omega (arith, less)) (omega arith) a b fit.1 long)),
        fit.3,
      ),
      omega arith,
    )
    | inr past ↦ (let w = later_cuts x e past fit.1 b xs fit.3 in (w.0, w.1, omega (arith, w.2)))
  ]

  module _ (places : List ℕ) (are : AreCutPlaces Text message places) where
    abbrev at : ℕ → ℕ
    at i = slice_index_or places i 0

    pub nothing_cut : AreCutsUpTo manner message level limit places 0 0 []
    nothing_cut =
        let zero_is = first_place Text message places are text_cut in
        record {
          count = refl;
          inside = some_place Text message places are text_cut;
          before = λ ending h. subst (λ p. Fitting p ending) zero_is h;
          others = λ more h. (more, subst (λ p. Fitting p more) (sym zero_is) h, omega arith);
        }

    module _ (first last n : ℕ) (cuts : List ℕ) (known : AreCutsUpTo manner message level limit places first n cuts) (from : first ≤ last)
        (inside : last < length places) (fits : TooLong (at first) (at last) → ⊥)
        (longest : (later : ℕ) → last < later → later < length places → TooLong (at first) (at later)) where
      -- other cuts have one more cut up to the end of the longest part
      one_less : last + 1 < length places → (more : List ℕ) → Fitting (at first) more →
          (rest : List ℕ) × Fitting (at last) rest × (length rest + 1 ≤ length more)
      one_less before_end [] fit =
          let end : (length places - 1) + 1 ≡ length places = omega (arith, inside) in
          let is = last_place Text message places are text_cut (length places - 1) end in
          absurd (fit (subst (λ p. TooLong (at first) p) is (longest (length places - 1) (omega (arith, before_end)) (omega (arith, inside)))))
      one_less before_end (x ∷ xs) fit =
          let inner = are.all x fit.1 (let w = place_within Text message x fit.1 in omega (arith, w)) in
          elim (cases_lt last inner.0) [
            | inl later ↦ absurd (fit.2 (subst (λ p. TooLong (at first) p) inner.2 (longest inner.0 later inner.1)))
            | inr up_to ↦ (let o = places_order Text message places are inner.0 last up_to inside in
                let w = later_cuts x (at last) (subst (λ p. p ≤ at last) inner.2 o) fit.1
                (is_place Text message places are last inside) xs fit.3 in (w.0, w.1, omega (arith, w.2)))
          ]

      pub one_cut : last + 1 < length places → AreCutsUpTo manner message level limit places last (n + 1) (cuts ++ at last ∷ [])
      one_cut before_end = record {
        count = length-append cuts (at last ∷ []) ∙ ap (λ k. k + 1) known.count;
        inside = inside;
        before = λ ending h. subst (Fitting 0) (sym (append_assoc cuts (at last ∷ []) ending))
            (known.before (at last ∷ ending)
            (places_order Text message places are first last from inside, is_place Text message places are last inside, fits, h));
        others = λ more h. (let w = known.others more h in let r = one_less before_end w.0 w.1 in (r.0, r.1, omega (arith, w.2, r.2)));
      }

      pub all_cut : n < 16 → last + 1 ≡ length places → AreFewestIn manner message level limit cuts
      all_cut few end =
          let is = last_place Text message places are text_cut last end in
          record {
            fitting = subst (Fitting 0) (append-nil cuts) (known.before [] (subst (λ p. TooLong (at first) p → ⊥) is fits));
            few = omega (arith, known.count, few);
            fewest = λ more h. (let w = known.others more h in omega (arith, w.2, known.count));
          }

    -- A part that takes nothing, where places are left, has no cuts after it.
    module _ (first last n : ℕ) (cuts : List ℕ) (known : AreCutsUpTo manner message level limit places first n cuts) (same : last ≡ first)
        (longest : (later : ℕ) → last < later → later < length places → TooLong (at first) (at later))
        (before_end : last + 1 < length places) where
      nothing_fits : (more : List ℕ) → Fitting (at first) more → ⊥
      nothing_fits [] fit =
          let is = last_place Text message places are text_cut (length places - 1) (omega (arith, before_end)) in
          fit (subst (λ p. TooLong (at first) p) is (longest (length places - 1) (omega (arith, before_end)) (omega (arith, before_end))))
      nothing_fits (x ∷ xs) fit =
          let inner = are.all x fit.1 (let w = place_within Text message x fit.1 in omega (arith, w)) in
          elim (cases_lt last inner.0) [
            | inl later ↦ fit.2 (subst (λ p. TooLong (at first) p) inner.2 (longest inner.0 later inner.1))
            | inr up_to ↦ (let o = places_order Text message places are inner.0 first (omega (arith, up_to, same)) known.inside in
                let e : x ≡ at first = omega (arith, o, inner.2, fit.0) in
                nothing_fits xs (subst (λ p. Fitting p xs) e fit.3))
          ]

      pub none_at_all : (more : List ℕ) → Fitting 0 more → 16 ≤ length more
      none_at_all more h = let w = known.others more h in absurd (nothing_fits w.0 w.1)

    -- A character that does not fit by itself stands in some part.
    module _ (i : ℕ) (inside : i + 1 < length places) (alone : TooLong (at i) (at (i + 1))) where
      past_it : (x : ℕ) → at (i + 1) ≤ x → TooLong (at i) x
      past_it x past = later_too_long (at i) (at (i + 1)) x (places_order Text message places are i (i + 1) (omega arith) inside) past
          (is_place Text message places are i (omega (arith, inside))) (is_place Text message places are (i + 1) inside) alone

      stuck_after : (more : List ℕ) → Fitting (at i) more → ⊥
      stuck_after [] fit =
          fit (past_it (length message) (place_within Text message (at (i + 1)) (is_place Text message places are (i + 1) inside)))
      stuck_after (x ∷ xs) fit =
          let inner = are.all x fit.1 (let w = place_within Text message x fit.1 in omega (arith, w)) in
          elim (cases_lt i inner.0) [
            | inl later ↦ (let o = places_order Text message places are (i + 1) inner.0 (omega (arith, later)) inner.1 in
                fit.2 (past_it x (omega (arith, o, inner.2))))
            | inr up_to ↦ (let o = places_order Text message places are inner.0 i up_to (omega (arith, inside)) in
                let e : x ≡ at i = omega (arith, o, inner.2, fit.0) in
                stuck_after xs (subst (λ p. Fitting p xs) e fit.3))
          ]

      pub stuck_at : (more : List ℕ) → Fitting 0 more → 16 ≤ length more
      stuck_at more h =
          let w = later_cuts 0 (at i) (omega arith) (start_place Text message text_cut) (is_place Text message places are i (omega (arith, inside))) more h in
          absurd (stuck_after w.0 w.1)

    pub none_left : (first n : ℕ) (cuts : List ℕ) → AreCutsUpTo manner message level limit places first n cuts → 16 ≤ n → (more : List ℕ) → Fitting 0 more →
        16 ≤ length more
    none_left first n cuts known many more h = let w = known.others more h in omega (arith, w.2, many)

  -- ---- A text that is too long for any cuts

  short_part : (p q : ℕ) → (TooLong p q → ⊥) → length (chars (slice_range message p q)) ≤ 7089
  short_part p q fit = elim (cases_lt 7089 (length (chars (slice_range message p q)))) [
    | inl more ↦ absurd (fit (many_too_long manner (chars (slice_range message p q)) level limit more))
    | inr few ↦ few
  ]

  few_chars : (from : ℕ) (cuts : List ℕ) → IsCutPlace Text message from → Fitting from cuts →
      length (chars (slice_range message from (length message))) ≤ 7089 * (length cuts + 1)
  few_chars from [] h fit = let most = short_part from (length message) fit in omega (arith, most)
  few_chars from (x ∷ xs) h fit =
      let most = short_part from x fit.2 in
      let rest = few_chars x xs fit.1 fit.3 in
      let both = chars_join message utf8 from x (length message) fit.0 (place_within Text message x fit.1) h fit.1 in
      omega (
        arith,
        most,
        rest,
        ap (λ (cs : List ℕ). length cs) both,
        length-append (chars (slice_range message from x)) (chars (slice_range message x (length message))),
      )

  pub many_cuts : 16 * 7089 < length (chars message) → (cuts : List ℕ) → Fitting 0 cuts → 16 ≤ length cuts
  many_cuts more cuts fit =
      let few = few_chars 0 cuts (start_place Text message text_cut) fit in
      let whole : length (chars (slice_range message 0 (length message))) ≡ length (chars message) =
      ap (λ (bytes : List ℕ). length (chars bytes)) (rest_whole 0 message) in
      omega (arith, few, more, whole)

-- ---- Best cuts are cuts that a sequence takes

module _ (manner : Manner) (message : List ℕ) (level : EcLevel) (limit : ℕ) where
  pub cuts_within : (from : ℕ) (cuts : List ℕ) → AreFittingTextCuts manner message level limit from cuts → All (λ cut. IsCutPlace Text message cut) cuts
  cuts_within from [] h = All-nil (λ cut. IsCutPlace Text message cut)
  cuts_within from (x ∷ xs) h = All-cons (λ cut. IsCutPlace Text message cut) x xs h.1 (cuts_within x xs h.3)

  pub cuts_short : (from : ℕ) (cuts : List ℕ) → AreFittingTextCuts manner message level limit from cuts → All (λ cut. cut ≤ length message) cuts
  cuts_short from [] h = All-nil (λ cut. cut ≤ length message)
  cuts_short from (x ∷ xs) h = All-cons (λ cut. cut ≤ length message) x xs (place_within Text message x h.1) (cuts_short x xs h.3)

  at_least : (from : ℕ) (cuts : List ℕ) → AreFittingTextCuts manner message level limit from cuts → (i d : ℕ) → i < length cuts → from ≤ get_or cuts i d
  at_least from [] h i d k = absurd (omega (arith, k))
  at_least from (x ∷ xs) h zero d k = h.0
  at_least from (x ∷ xs) h (suc i) d k = let w = at_least x xs h.3 i d (omega (arith, k)) in omega (arith, w, h.0)

  pub cuts_ordered : (from : ℕ) (cuts : List ℕ) → AreFittingTextCuts manner message level limit from cuts → (i j d : ℕ) → i ≤ j → j < length cuts →
      get_or cuts i d ≤ get_or cuts j d
  cuts_ordered from [] h i j d k l = absurd (omega (arith, l))
  cuts_ordered from (x ∷ xs) h zero zero d k l = omega arith
  cuts_ordered from (x ∷ xs) h zero (suc j) d k l = at_least x xs h.3 j d (omega (arith, l))
  cuts_ordered from (x ∷ xs) h (suc i) zero d k l = absurd (omega (arith, k))
  cuts_ordered from (x ∷ xs) h (suc i) (suc j) d k l = cuts_ordered x xs h.3 i j d (omega (arith, k)) (omega (arith, l))

  parts_fit : (from : ℕ) (cuts : List ℕ) → AreFittingTextCuts manner message level limit from cuts → (i : ℕ) → i < length cuts + 1 →
      IsTextPartTooLong manner (chars (slice_index_or (parts_from from cuts message) i [])) level limit → ⊥
  parts_fit from [] h zero k none = h (subst (λ z. IsTextPartTooLong manner (chars z) level limit) (sym (rest_whole from message)) none)
  parts_fit from [] h (suc i) k none = omega (arith, k)
  parts_fit from (x ∷ xs) h zero k none = h.2 none
  parts_fit from (x ∷ xs) h (suc i) k none = parts_fit x xs h.3 i (omega (arith, k)) none

  pub none_past : (cuts : List ℕ) → AreFittingTextCuts manner message level limit 0 cuts → IsSomeTextPartTooLong message cuts level limit → ⊥
  none_past cuts h long = let w = long manner in parts_fit 0 cuts h w.0 w.1 w.2
