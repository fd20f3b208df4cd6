use Rattle.std.proofs.Common.{◌≡◌, subst}
use Rattle.std.proofs.lemmas.Option.{slice_get_within}
use Rattle.qrcode_base.specs.declared.types.errors.QrError.{QrError}
use Rattle.qrcode_base.specs.declared.types.errors.QrError.TheVariants.{InvalidCharacter}
use Rattle.qrcode_base.specs.declared.types.EcLevel.TheVariants.{Q}
use Rattle.qrcode_bits.specs.Contents.{AreElements}
use Rattle.qrcode_core.specs.Headline.{IsElementsRefusal}
use Rattle.uses.proofs.elements.pallet.Goals as goal

pub returns-clause-taken : goal.returns-clause-taken
returns-clause-taken c = λ place byte same.
    let bytes = c.as_slice.result.now in
    let error : c.in-Err-elements.error ≡ InvalidCharacter place byte = cc in
    let P : QrError → Type 0 = λ e. IsElementsRefusal bytes Q e in
    let first = subst P error c.in-Err-elements.ensures.refusal in
    let are : AreElements bytes = rw c.as_slice.ensures.value c.in-Ok.ensures.elements in
    first.here (are place (slice_get_within bytes _ _ first.byte_is))
