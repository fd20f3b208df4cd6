-- The bytes of colors, and numbers, written one after the other.
use Rattle.std.proofs.Common.{◌≡◌, ◌∙◌, sym, ℕ, zero, suc, ◌+◌, ◌<◌, ◌≤◌, List, [], ◌∷◌, ◌++◌, length, get_or, set, map, take, drop, refl, ap, arith}
use Rattle.std.specs.List.{flat_map}
use Rattle.std.proofs.lemmas.List.{take_at, drop_at, drop-drop, append_assoc, append-nil}
use Rattle.qrcode_core.specs.Symbol.{DrawnSymbol}
use Rattle.std.proofs.lemmas.List.{length-map, length-append}
use Rattle.std.proofs.lemmas.List.Folds.{length-flat_map-take}
use Rattle.std.proofs.Common.{add-one}
use Rattle.qrcode_grid.specs.Penalty.{byte_of}
use Rattle.qrcode_c.specs.Spread.{bytes_of, bytes_of_all}

pub written_step : {X Y : Type 0} (f : X → Y) (xs : List X) (before : List Y) (i : ℕ) (other : X) → i < length xs → length xs ≤ length before →
    set (map f (take i xs) ++ drop i before) i (f (get_or xs i other)) ≡ map f (take (suc i) xs) ++ drop (suc i) before
written_step f [] before i other within room = absurd (omega (arith, within))
written_step f (x ∷ xs) [] i other within room = absurd (omega (arith, room))
written_step f (x ∷ xs) (old ∷ before) zero other within room = refl
written_step f (x ∷ xs) (old ∷ before) (suc i) other within room =
    ap (λ t. f x ∷ t) (written_step f xs before i other (omega (arith, within)) (omega (arith, room)))

pub put_step : (found before : List ℕ) (i : ℕ) (other : ℕ) → i < length found → length found ≤ length before →
    set (take i found ++ drop i before) i (get_or found i other) ≡ take (suc i) found ++ drop (suc i) before
put_step [] before i other within room = absurd (omega (arith, within))
put_step (cut ∷ found) [] i other within room = absurd (omega (arith, room))
put_step (cut ∷ found) (old ∷ before) zero other within room = refl
put_step (cut ∷ found) (old ∷ before) (suc i) other within room =
    ap (λ t. cut ∷ t) (put_step found before i other (omega (arith, within)) (omega (arith, room)))

-- The pieces of one element more.
pub flat_step : {X : Type 0} (f : X → List ℕ) (xs : List X) (i : ℕ) (d : X) → i < length xs →
    flat_map f (take (suc i) xs) ≡ flat_map f (take i xs) ++ f (get_or xs i d)
flat_step f [] i d within = absurd (omega (arith, within))
flat_step f (x ∷ xs) zero d within = append-nil (f x)
flat_step f (x ∷ xs) (suc i) d within =
    ap (λ t. f x ++ t) (flat_step f xs i d (omega (arith, within))) ∙ sym (append_assoc (f x) (flat_map f (take i xs)) (f (get_or xs i d)))

-- A piece more stands behind those that were written.
pub place_step : (done piece before : List ℕ) (start n : ℕ) → length done ≡ start →
    take start (done ++ drop start before) ++ (piece ++ drop n (drop start (done ++ drop start before)))
    ≡ (done ++ piece) ++ drop (start + n) before
place_step done piece before start n is =
    ap (λ t. t ++ (piece ++ drop n (drop start (done ++ drop start before)))) (take_at done (drop start before) start is)
    ∙ ap (λ t. done ++ (piece ++ drop n t)) (drop_at done (drop start before) start is)
    ∙ ap (λ t. done ++ (piece ++ t)) (drop-drop n start before)
    ∙ sym (append_assoc done piece (drop (start + n) before))

pub piece_length : (symbols : List DrawnSymbol) (i : ℕ) (d : DrawnSymbol) → i < length symbols →
    length (bytes_of_all (take (i + 1) symbols)) ≡ length (bytes_of_all (take i symbols)) + length (get_or symbols i d).modules
piece_length symbols i d within =
    rw add-one (ap length (flat_step bytes_of symbols i d within) ∙ length-append (bytes_of_all (take i symbols)) (bytes_of (get_or symbols i d))
    ∙ ap (λ n. length (bytes_of_all (take i symbols)) + n) (length-map (get_or symbols i d).modules byte_of))

pub piece_within : (symbols : List DrawnSymbol) (i : ℕ) (d : DrawnSymbol) → i < length symbols →
    length (bytes_of_all (take i symbols)) + length (get_or symbols i d).modules ≤ length (bytes_of_all symbols)
piece_within symbols i d within =
    omega (arith, length-flat_map-take bytes_of symbols i d within, length-map (get_or symbols i d).modules byte_of)
