-- No grid that is read as some data is better than the best symbol of them, where the data have
-- single units.
use Rattle.qrcode_core.proofs.Prelude.{◌≡◌, ◌+◌, ◌<◌, ◌≤◌, ℕ, List, length, inl, inr, subst, arith, Option, Some, None, normal, micro, EcLevel, Version, Header}
use Rattle.qrcode_core.proofs.Prelude.{Front, front_of, front_bits, Content, Bytes, content_bits, parsed_bytes, length-append}
use Rattle.std.proofs.lemmas.Bool.{cases_lt}
use Rattle.qrcode_core.specs.Headline.{NoneIsBetter, NoneIsBetterWithHeader, NoneIsRead, IsTooLongAfter, IsTooLongForMicro}
use Rattle.qrcode_bits.specs.Frame.{IsFrame, HasSingleUnits, header_bits}
use Rattle.qrcode_bits.specs.Plans.{FitsNot, IsLeastBits}
use Rattle.qrcode_bits.proofs.Reading.{length-header}
use Rattle.qrcode_bits.proofs.FramePlans.{apart-plan, fits_fewer, too_long-no_frame, too_long-no_micro_frame}

pub none_better : (kind : ℕ → Version) (front : Front) (bytes : List ℕ) (level : EcLevel) (number payload : ℕ) →
    ((smaller : ℕ) → smaller < number → FitsNot (length (front_bits front)) (parsed_bytes front.content bytes) (kind smaller) level) →
    IsLeastBits (length (front_bits front)) (parsed_bytes front.content bytes) (kind number) payload → NoneIsBetter kind front bytes level number payload
none_better kind front bytes level number payload smallest fewest apart grid other bits mask reads =
    let w = apart-plan (kind other) level front bytes bits reads.frame apart reads.framed in (
      elim (cases_lt other number) [ inl below ↦ absurd (smallest other below w.0 w.1) | inr past ↦ past ],
      λ same.
          let v = subst (λ n. IsFrame (kind n) level front bytes bits reads.frame) same reads.framed in
          let u = apart-plan (kind number) level front bytes bits reads.frame apart v in
          omega (arith, fewest.least u.0 u.1.planned, u.2),
    )

-- a header takes 20 bits before those of the content
pub front-long : (header : Header) (content : Content) → length (front_bits (front_of (Some header) content)) ≡ 20 + length (content_bits content)
front-long header content = omega (arith, length-append (header_bits (Some header)) (content_bits content), length-header header)

module _ (kind : ℕ → Version) (content : Content) (bytes : List ℕ) (level : EcLevel) (number payload : ℕ)
    (smallest : (smaller : ℕ) → smaller < number → FitsNot (length (content_bits content)) (parsed_bytes content bytes) (kind smaller) level)
    (fewest : IsLeastBits (length (content_bits content)) (parsed_bytes content bytes) (kind number) payload) where
  pub none_better_with_header : NoneIsBetterWithHeader kind content bytes level number payload
  none_better_with_header apart grid other bits mask header reads =
      let front = front_of (Some header) content in
      let long = front-long header content in
      let fewer : length (content_bits content) ≤ length (front_bits front) = omega (arith, long) in
      let w = apart-plan (kind other) level front bytes bits reads.frame apart reads.framed in (
        elim (cases_lt other number) [
          | inl below ↦ absurd (smallest other below w.0
              (fits_fewer (length (front_bits front)) (length (content_bits content)) (parsed_bytes content bytes) (kind other) level w.0 fewer w.1))
          | inr past ↦ past
        ],
        λ same.
            let v = subst (λ n. IsFrame (kind n) level front bytes bits reads.frame) same reads.framed in
            let u = apart-plan (kind number) level front bytes bits reads.frame apart v in
            omega (arith, fewest.reached, fewest.least u.0 u.1.planned, u.2, long),
      )

-- the front has the bits of the content, with or without a header
content-fewer : (header : Option Header) (content : Content) → length (content_bits content) ≤ length (front_bits (front_of header content))
content-fewer header content = omega (arith, length-append (header_bits header) (content_bits content))

pub none_too_long : (content : Content) (bytes : List ℕ) (level : EcLevel) → HasSingleUnits content bytes → IsTooLongAfter (front_of None content) bytes level →
    NoneIsRead normal content bytes level
none_too_long content bytes level apart long grid number payload mask header reads =
    too_long-no_frame level (front_of header content) (length (content_bits content)) bytes number payload reads.frame apart (content-fewer header content) long
    reads.framed

pub none_too_long_for_micro : (bytes : List ℕ) (level : EcLevel) → HasSingleUnits Bytes bytes → IsTooLongForMicro bytes level →
    NoneIsRead micro Bytes bytes level
none_too_long_for_micro bytes level apart long grid number payload mask header reads =
    too_long-no_micro_frame level (front_of header Bytes) bytes number payload reads.frame apart long reads.framed
