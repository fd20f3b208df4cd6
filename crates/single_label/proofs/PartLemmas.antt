-- The labels of the symbols that carry a message together.
use Rattle.std.proofs.Common.{◌≡◌, ◌+◌, ◌<◌, ◌⊎◌, ℕ, None, List, [], ◌∷◌, ◌++◌, length, take}
use Rattle.std.proofs.Common.{get_or, append-nil}
use Rattle.std.proofs.Common.{inl, inr, ap, ◌∙◌, arith}
use Rattle.std.specs.Prelude.{Vec, map, vec_items, nat_abs}
use Rattle.std.specs.Str.{IsUtf8}
use Rattle.qrcode_bits.specs.declared.bits.front.Content.{Content as FrontContent}
use Rattle.qrcode_bits.specs.declared.bits.front.Content.TheVariants.{Text as TextFront}
use Rattle.qrcode_core.specs.{BestCuts.AreBestCuts, Sequence.IsSequenceRefusal}
use Rattle.qrcode_core.specs.declared.options.SymbolOptions.{SymbolOptions}
use Rattle.qrcode_core.specs.declared.types.errors.QrError.{QrError}
use Rattle.single_label.specs.{Parts.IsSequenceFault, Parts.IsSmallestSequenceFault}
use Rattle.single_label.specs.{Parts.IsTextFault}
use Rattle.smallest_symbols.specs.TextCuts.{AreBestTextCuts}
use Rattle.smallest_symbols.specs.TextMessages.{IsTextSequenceRefusal}
use Rattle.std.specs.declared.alloc.Global.{Global}
use Rattle.std.proofs.lemmas.{Grind.common_steps, Grind.flat_map-append, List.take_more}
use Rattle.programs.specs.declared.Fault.{Fault as FaultOf}
use Rattle.programs.specs.declared.Fault.TheVariants.{Read, Write}
use Rattle.qrcode_core.specs.Symbol.{DrawnSymbol}
use Rattle.picture_settings.specs.declared.draw_options.DrawOptions.{DrawOptions}
use Rattle.label_words.specs.declared.command.Label.{Label}
use Rattle.single_label.specs.declared.stop.Stop.TheVariants.{Fault}
use Rattle.single_label.specs.{Labels.ShowsSymbol, Parts.ShowEach, Parts.IsMessageStop}
use Rattle.single_label.specs.{Parts.all_drawings}
use Rattle.single_label.specs.{Parts.IsEmptyStop, Parts.IsOtherStop, Parts.IsSequenceStop}
use Rattle.single_label.specs.{Labels.IsLabelData}
use Rattle.single_label.proofs.StopLemmas.{neither}

-- a symbol more is shown
pub ShowEach-more : (label : Label) (options : DrawOptions) (symbols : List DrawnSymbol) (drawings : List (List ℕ)) (s : DrawnSymbol) (d : List ℕ) →
    ShowEach label options symbols drawings → ShowsSymbol label options None None s d → ShowEach label options (symbols ++ s ∷ []) (drawings ++ d ∷ [])
ShowEach-more label options [] [] s d h k = (k, tt)
ShowEach-more label options (x ∷ xs) (y ∷ ys) s d h k = (h.0, ShowEach-more label options xs ys s d h.1 k)
ShowEach-more label options [] (y ∷ ys) s d h k = absurd h
ShowEach-more label options (x ∷ xs) [] s d h k = absurd h

-- a symbol more
pub shown_more : (label : Label) (options : DrawOptions) (symbols : List DrawnSymbol) (i : ℕ) (d : DrawnSymbol) (vs : List (Vec ℕ Global)) (v : Vec ℕ Global) →
    i < length symbols → ShowEach label options (take i symbols) (map vec_items vs) → ShowsSymbol label options None None (get_or symbols i d) v.items →
    ShowEach label options (take (i + 1) symbols) (map vec_items (vs ++ v ∷ []))
shown_more label options symbols i d vs v within h k =
    let more : map vec_items (vs ++ v ∷ []) ≡ map vec_items vs ++ v.items ∷ [] = grind (arith, common_steps) in
    rw (take_more symbols i d within, more) (ShowEach-more label options (take i symbols) (map vec_items vs) (get_or symbols i d) v.items h k)

-- a drawing more
pub joined_more : (vs : List (Vec ℕ Global)) (i : ℕ) (d : Vec ℕ Global) → i < length vs →
    all_drawings (map vec_items (take (i + 1) vs)) ≡ all_drawings (map vec_items (take i vs)) ++ (get_or vs i d).items
joined_more vs i d within =
    let more : map vec_items (take i vs ++ get_or vs i d ∷ []) ≡ map vec_items (take i vs) ++ (get_or vs i d).items ∷ [] = grind (arith, common_steps) in
    rw (take_more vs i d within, more) (flat_map-append (λ x. x) (map vec_items (take i vs)) ((get_or vs i d).items ∷ [])
    ∙ ap (λ rest. all_drawings (map vec_items (take i vs)) ++ rest) (append-nil (get_or vs i d).items))

-- ---- No symbols of the parts

pub sequence_fault : (front : FrontContent) (options : SymbolOptions) (message cuts : List ℕ) (e : QrError) →
    AreBestCuts front message options.level (nat_abs options.max_version) cuts →
    IsSequenceRefusal front message cuts options.level options.max_version e → IsSequenceFault front options message e
sequence_fault front options message cuts e best h = inr (cuts, best, h)

pub text_fault : (options : SymbolOptions) (message cuts : List ℕ) (e : QrError) → IsUtf8 message →
    AreBestCuts TextFront message options.level (nat_abs options.max_version) cuts →
    IsSequenceRefusal TextFront message cuts options.level options.max_version e → IsTextFault options message e
text_fault options message cuts e text best h = inr (text, inr (cuts, best, h))

pub smallest_fault : (options : SymbolOptions) (text cuts : List ℕ) (e : QrError) →
    AreBestTextCuts text options.level (nat_abs options.max_version) cuts →
    IsTextSequenceRefusal text cuts options.level options.max_version e → IsSmallestSequenceFault options text e
smallest_fault options text cuts e best h = inr (cuts, best, h)

-- ---- Why there are no labels

no_device_content : (label : Label) (content : List ℕ) (fault : FaultOf) → (fault ≡ Read) ⊎ (fault ≡ Write) →
    IsEmptyStop label content (Fault fault)
    ⊎ (IsLabelData label content × (IsOtherStop label content (Fault fault) ⊎ IsSequenceStop label content (Fault fault))) → ⊥
no_device_content label content fault is (inl h) = grind (arith, h.0)
no_device_content label content fault is (inr (some, inl (short, inl h))) = grind (arith, is, h.0)
no_device_content label content fault is (inr (some, inl (short, inr h))) = neither label.content label.symbol content fault is h
no_device_content label content fault is (inr (some, inr (long, inl h))) = grind (arith, is, h.0)
no_device_content label content fault is (inr (some, inr (long, inr (inl h)))) = grind (arith, h.0)
no_device_content label content fault is (inr (some, inr (long, inr (inr (other, (error, same, h)))))) = grind (arith, is, same)

pub no_device_message : (label : Label) (bytes : List ℕ) (fault : FaultOf) → (fault ≡ Read) ⊎ (fault ≡ Write) → IsMessageStop label bytes (Fault fault) → ⊥
no_device_message label bytes fault is (inl h) = grind (arith, h.0)
no_device_message label bytes fault is (inr h) = no_device_content label h.content fault is h.stopped
