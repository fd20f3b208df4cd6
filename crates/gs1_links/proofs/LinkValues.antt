-- Values with percent-escapes: the bytes that are decoded are those that a reader finds.
use Rattle.std.proofs.Common.{◌≡◌, ℕ, ◌+◌, ◌<◌, ◌≤◌, true, false, cond, zero, suc, List, [], ◌∷◌, length}
use Rattle.std.proofs.Common.{refl, arith, ap, sym, subst, ◌∙◌}
use Rattle.std.specs.Prelude.{◌==◌}
use Rattle.std.proofs.lemmas.Grind.{common_steps}
use Rattle.gs1_base.specs.Percent.{begins_with_byte, first_byte, after_byte, ReadsAs}
use Rattle.gs1_links.specs.LinkFaults.{bytes_within, is_readable_within, decoded, is_readable_link}
use Rattle.gs1_base.proofs.Percents.{after_shorter, no_byte}

some_text : (text : List ℕ) → begins_with_byte text ≡ true → 0 < length text
some_text [] e = absurd (no_byte [] refl e)
some_text (c ∷ text) e = let h : 0 < suc (length text) = omega arith in h

pub shorter : (text : List ℕ) → begins_with_byte text ≡ true → length (after_byte text) < length text
shorter text e = after_shorter text (some_text text e)

-- More steps than there are bytes find no more.
more_steps : (m n : ℕ) (text : List ℕ) → length text ≤ m → length text ≤ n → bytes_within m text ≡ bytes_within n text
unfolding bytes_within begins_with_byte
more_steps zero zero text few less = refl
more_steps zero (suc n) [] few less = refl
more_steps zero (suc n) (c ∷ text) few less = absurd (omega arith)
more_steps (suc m) zero [] few less = refl
more_steps (suc m) zero (c ∷ text) few less = absurd (omega arith)
more_steps (suc m) (suc n) text few less = step m n text few less (more_steps m n (after_byte text))
  where
    step : (m n : ℕ) (text : List ℕ) → length text ≤ suc m → length text ≤ suc n →
        (length (after_byte text) ≤ m → length (after_byte text) ≤ n → bytes_within m (after_byte text) ≡ bytes_within n (after_byte text)) →
        cond (begins_with_byte text) (first_byte text ∷ bytes_within m (after_byte text)) [] ≡
        cond (begins_with_byte text) (first_byte text ∷ bytes_within n (after_byte text)) []
    step m n text few less below =
        elim (begins_with_byte text) as (λ b. begins_with_byte text ≡ b →
        cond b (first_byte text ∷ bytes_within m (after_byte text)) [] ≡ cond b (first_byte text ∷ bytes_within n (after_byte text)) []) [
          | true ↦ λ e. (let short = shorter text e in
              ap (λ xs. first_byte text ∷ xs) (below (omega arith) (omega arith)))
          | false ↦ λ e. refl
        ] refl

more_tests : (m n : ℕ) (text : List ℕ) → length text ≤ m → length text ≤ n → is_readable_within m text ≡ is_readable_within n text
unfolding is_readable_within begins_with_byte
more_tests zero zero text few less = refl
more_tests zero (suc n) [] few less = refl
more_tests zero (suc n) (c ∷ text) few less = absurd (omega arith)
more_tests (suc m) zero [] few less = refl
more_tests (suc m) zero (c ∷ text) few less = absurd (omega arith)
more_tests (suc m) (suc n) text few less = step m n text few less (more_tests m n (after_byte text))
  where
    step : (m n : ℕ) (text : List ℕ) → length text ≤ suc m → length text ≤ suc n →
        (length (after_byte text) ≤ m → length (after_byte text) ≤ n → is_readable_within m (after_byte text) ≡ is_readable_within n (after_byte text)) →
        cond (begins_with_byte text) (is_readable_within m (after_byte text)) (length text == 0) ≡
        cond (begins_with_byte text) (is_readable_within n (after_byte text)) (length text == 0)
    step m n text few less below =
        elim (begins_with_byte text) as (λ b. begins_with_byte text ≡ b →
        cond b (is_readable_within m (after_byte text)) (length text == 0) ≡ cond b (is_readable_within n (after_byte text)) (length text == 0)) [
          | true ↦ λ e. (let short = shorter text e in below (omega arith) (omega arith))
          | false ↦ λ e. refl
        ] refl

-- The first byte, and those behind it.
pub decoded_more : (text : List ℕ) → begins_with_byte text ≡ true →
    decoded text ≡ first_byte text ∷ decoded (after_byte text)
unfolding decoded bytes_within
decoded_more [] e = absurd (no_byte [] refl e)
decoded_more (c ∷ text) e =
    let short = shorter (c ∷ text) e in
    rw e (ap (λ xs. first_byte (c ∷ text) ∷ xs)
    (more_steps (length text) (length (after_byte (c ∷ text))) (after_byte (c ∷ text))
    (let h : length (after_byte (c ∷ text)) ≤ length text = omega arith in h) (omega arith)))

pub decoded_end : (text : List ℕ) → begins_with_byte text ≡ false → decoded text ≡ []
unfolding decoded bytes_within
decoded_end [] e = refl
decoded_end (c ∷ text) e = rw e refl

pub readable_more : (text : List ℕ) → begins_with_byte text ≡ true → is_readable_link text ≡ is_readable_link (after_byte text)
unfolding is_readable_link is_readable_within
readable_more [] e = absurd (no_byte [] refl e)
readable_more (c ∷ text) e =
    let short = shorter (c ∷ text) e in
    rw e (more_tests (length text) (length (after_byte (c ∷ text))) (after_byte (c ∷ text))
    (let h : length (after_byte (c ∷ text)) ≤ length text = omega arith in h) (omega arith))

pub readable_end : (text : List ℕ) → begins_with_byte text ≡ false → is_readable_link text ≡ (length text == 0)
unfolding is_readable_link is_readable_within
readable_end [] e = refl
readable_end (c ∷ text) e = rw e refl

-- What a reader finds is what is decoded.
pub reads_decoded : (text bytes : List ℕ) → ReadsAs text bytes → (is_readable_link text ≡ true) × (decoded text ≡ bytes)
unfolding is_readable_link is_readable_within decoded bytes_within
reads_decoded [] [] reads = (refl, refl)
reads_decoded (c ∷ text) [] reads = absurd (let h : c ∷ text ≡ [] = reads in cc)
reads_decoded text (x ∷ bytes) reads =
    let below = reads_decoded (after_byte text) bytes reads.2 in (
      readable_more text reads.0 ∙ below.0,
      decoded_more text reads.0 ∙ ap (λ c. c ∷ decoded (after_byte text)) reads.1 ∙ ap (λ xs. x ∷ xs) below.1,
    )

decoded_within : (n : ℕ) (text : List ℕ) → length text ≤ n → is_readable_link text ≡ true → ReadsAs text (decoded text)
unfolding decoded bytes_within
decoded_within zero [] few readable = refl
decoded_within zero (c ∷ text) few readable = absurd (omega arith)
decoded_within (suc n) text few readable =
    elim (begins_with_byte text) as (λ b. begins_with_byte text ≡ b → ReadsAs text (decoded text)) [
      | true ↦ λ e.
          (let short = shorter text e in
          let P : List ℕ → Type 0 = λ xs. ReadsAs text xs in
          subst P (sym (decoded_more text e))
          (e, refl, decoded_within n (after_byte text) (omega arith) (sym (readable_more text e) ∙ readable)))
      | false ↦ λ e. ended text (sym (readable_end text e) ∙ readable) (decoded_end text e)
    ] refl
  where
    ended : (text : List ℕ) → (length text == 0) ≡ true → decoded text ≡ [] → ReadsAs text (decoded text)
    ended [] none e = (let P : List ℕ → Type 0 = λ xs. ReadsAs [] xs in subst P (sym e) refl)
    ended (c ∷ text) none e = absurd (let some : 0 < length text + 1 = omega arith in grind (arith, common_steps))

pub decoded_reads : (text : List ℕ) → is_readable_link text ≡ true → ReadsAs text (decoded text)
decoded_reads text readable = decoded_within (length text) text (omega arith) readable
