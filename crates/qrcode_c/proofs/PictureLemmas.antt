-- What the call that writes a picture to a buffer promises, by what drawing and writing do.
use Rattle.std.proofs.Common.{◌≡◌, ℕ, ℤ, ◌<◌, ◌++◌, List, length, drop, sym, ◌∙◌, ap, subst, Result, Ok, Err, OnOk, OnErr}
use Rattle.std.specs.Prelude.{IfErr}
use Rattle.qrcode_c.specs.Pictures.{HoldsPicture, IsAskedPicture, IsPictureRefusal}
use Rattle.qrcode_c.specs.declared.refusal.Refusal.{Refusal}
use Rattle.qrcode_c.specs.declared.refusal.Refusal.TheVariants.{ShortBuffer}
use Rattle.qrcode_c.specs.declared.settings.PictureSettings.{PictureSettings}

pub held : (r : Result (Unit {0}) Refusal) (modules : List ℕ) (width : ℕ) (number : ℤ) (asked : PictureSettings) (before after items lent : List ℕ) (count : ℕ) →
    IsAskedPicture modules width number asked items → count ≡ length items → lent ≡ items → OnOk r (after ≡ lent ++ drop (length lent) before) →
    OnOk r (HoldsPicture modules width number asked before after count)
held (Ok done) modules width number asked before after items lent count shown counted same written =
    record { bytes = items; is_asked = shown; count_is = counted; written = written ∙ ap (λ (l : List ℕ). l ++ drop (length l) before) same }
held (Err e) modules width number asked before after items lent count shown counted same written = tt

pub refused : (r : Result (Unit {0}) Refusal) (modules : List ℕ) (width : ℕ) (number : ℤ) (asked : PictureSettings) (before items lent : List ℕ) (count : ℕ) →
    IsAskedPicture modules width number asked items → count ≡ length items → lent ≡ items → IfErr r (λ e. e ≡ ShortBuffer) →
    OnErr r (length before < length lent) → IfErr r (IsPictureRefusal modules width number asked (length before) count)
refused (Ok done) modules width number asked before items lent count shown counted same short room = tt
refused (Err e) modules width number asked before items lent count shown counted same short room =
    subst (λ (x : Refusal). IsPictureRefusal modules width number asked (length before) count x) (sym short)
    (record { bytes = items; is_asked = shown; count_is = counted; above = subst (λ (l : List ℕ). length before < length l) same room })
