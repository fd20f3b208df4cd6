-- The runs of the row, by the bytes of its modules and by where the runs end.
use Rattle.std.proofs.Common.{◌≡◌, ℕ, ◌+◌, ◌-◌, ◌<◌, ◌∙◌, ◌++◌, List, ap, sym, subst, arith}
use Rattle.std.specs.Prelude.{not, slice_index}
use Rattle.std.specs.Str.{IsUtf8}
use Rattle.std.proofs.lemmas.Bool.{le-ltb, lt-ltb}
use Rattle.grid_pictures.specs.{Paths.begins_run, Paths.row_path, Pens.rectangle_by, Pictures.Picture, Pictures.columns_of, Pictures.is_dark_module}
use Rattle.grid_pictures.specs.{Runs.EndsRun, Picture.shown}
use Rattle.grid_pictures.proofs.PathLemmas.{dark_places, row_over_run}
use Rattle.grid_pictures.proofs.RowRuns.{Begins, begins_at_once, begins_later, dark_run, first_run, next_run, nothing_dark}
use Rattle.grid_pictures.proofs.RowLemmas.{none_first}
use Rattle.grid_pictures.proofs.TextLemmas.{row_utf8}
use Rattle.grid_pictures.proofs.path.write_row.Goals.{then-modules-gt0, else-modules-gt0}
use Rattle.grid_pictures.proofs.path.write_row.Goals as goal

-- the ends of runs by the columns of a picture
ends_of : (p : Picture) (m ends : List ℕ) (columns : ℕ) → columns ≡ columns_of p →
    ((k : ℕ) → k < columns → EndsRun m columns k (slice_index ends k)) → (k : ℕ) → k < columns_of p → EndsRun m (columns_of p) k (slice_index ends k)
ends_of p m ends columns is runs = subst (λ n. (k : ℕ) → k < n → EndsRun m n k (slice_index ends k)) is runs

last_of : (p : Picture) (ends : List ℕ) (columns : ℕ) → columns ≡ columns_of p → slice_index ends columns ≡ columns →
    slice_index ends (columns_of p) ≡ columns_of p
last_of p ends columns is last = subst (λ n. slice_index ends n ≡ n) is last

pub runs-init : goal.runs-init
runs-init c =
    let p = shown c.args.picture.now in
    let y = c.args.y in
    let m = c.write_bytes.new.line in
    let ends = c.write_ends.new.ends in
    let write = rectangle_by c.args.pen in
    let exact = c.columns-columns.ensures.exact in
    let places = dark_places p c.row-row.result y 216 m c.write_bytes.ensures c.write_bytes.auto.line
    (omega (arith, exact, c.columns-columns.ensures.bound)) c.row-row.ensures.dark in
    let some : 0 < columns_of p = omega (arith, exact, c.columns-columns.ensures.some) in
    let first : Begins write p y c.if-modules-gt0.x = elim c.if-modules-gt0.branch [
      | then-modules-gt0 w ↦ begins_at_once write p y c.if-modules-gt0.x w.x-is (sym (places 0 some) ∙ lt-ltb 0 _ w.if-modules-gt0.true)
      | else-modules-gt0 w ↦ begins_later write p y c.if-modules-gt0.x (slice_index ends 0) (omega (arith, w.x-is, w.from-x.ensures))
          (first_run p y m places write ends (ends_of p m ends _ exact c.write_ends.ensures.runs)
          (last_of p ends _ exact c.write_ends.ensures.last) 0 (omega arith)
          (λ _. sym (places 0 some) ∙ le-ltb 0 _ w.if-modules-gt0.false))
    ] in
    record {
      inside = first.inside;
      room = omega arith;
      dark = first.dark;
      begins = first.begins;
      text = sym first.none;
    }

pub runs-smaller : goal.runs-smaller
runs-smaller c =
    let p = shown c.args.picture.now in
    let m = c.write_bytes.new.line in
    let ends = c.write_ends.new.ends in
    let exact = c.columns-columns.ensures.exact in
    let places = dark_places p c.row-row.result c.args.y 216 m c.write_bytes.ensures c.write_bytes.auto.line
    (omega (arith, exact, c.columns-columns.ensures.bound)) c.row-row.ensures.dark in
    let runs = ends_of p m ends _ exact c.write_ends.ensures.runs in
    let inside : c.runs.x < columns_of p = omega (arith, c.runs-test.true, exact) in
    let last = last_of p ends _ exact c.write_ends.ensures.last in
    let next = next_run p c.args.y m places (rectangle_by c.args.pen) ends runs last c.runs.x inside (c.runs.invariant.dark inside) in
    let to : c.from-x-in-runs.result ≡ slice_index ends (slice_index ends c.runs.x) = c.from-x-in-runs.ensures ∙ ap (slice_index ends) c.from-stop.ensures in
    omega (arith, inside, (runs c.runs.x inside).after, next.onward, to)

pub runs-preserved : goal.runs-preserved
runs-preserved c =
    let p = shown c.args.picture.now in
    let y = c.args.y in
    let x = c.runs.x in
    let m = c.write_bytes.new.line in
    let ends = c.write_ends.new.ends in
    let write = rectangle_by c.args.pen in
    let exact = c.columns-columns.ensures.exact in
    let places = dark_places p c.row-row.result y 216 m c.write_bytes.ensures c.write_bytes.auto.line
    (omega (arith, exact, c.columns-columns.ensures.bound)) c.row-row.ensures.dark in
    let runs = ends_of p m ends _ exact c.write_ends.ensures.runs in
    let inside : x < columns_of p = omega (arith, c.runs-test.true, exact) in
    let dark = c.runs.invariant.dark inside in
    let stop = slice_index ends x in
    let next = next_run p y m places write ends runs (last_of p ends _ exact c.write_ends.ensures.last) x inside dark in
    let to : c.from-x-in-runs.result ≡ slice_index ends stop = c.from-x-in-runs.ensures ∙ ap (slice_index ends) c.from-stop.ensures in
    let some = (runs x inside).after in
    let end : x + (stop - x) ≡ stop = omega (arith, some) in
    record {
      inside = omega (arith, to, next.within);
      room = omega (arith, c.runs.invariant.room, c.write_rectangle-end.ensures.within, some, next.onward, to);
      dark = λ h. ap (λ k. is_dark_module p k y) to ∙ next.dark (omega (arith, h, to));
      begins = λ h. ap (λ k. begins_run p k y) to ∙ next.begins (omega (arith, h, to));
      text = c.write_rectangle-end.ensures.text
          ∙ ap (λ l. l ++ write x y (c.from-stop.result - x)) c.runs.invariant.text
          ∙ ap (λ k. row_path write p y x ++ write x y (k - x)) c.from-stop.ensures
          ∙ sym (row_over_run write p y x (stop - x) (sym (dark_run p y m places x stop (runs x inside) dark))
          (omega (arith, some)) (c.runs.invariant.begins inside))
          ∙ ap (row_path write p y) end
          ∙ sym next.text
          ∙ ap (row_path write p y) (sym to);
    }

pub returns-then-is_none-clause-text : goal.returns-then-is_none-clause-text
returns-then-is_none-clause-text c =
    let p = shown c.args.picture.now in
    sym (nothing_dark (rectangle_by c.args.pen) p c.args.y (columns_of p)
    (λ k. sym (c.row-row.ensures.dark k)
    ∙ none_first c.row-row.result c.first_dark.result (c.is_none.ensures ∙ ap not c.if-is_none.true) c.first_dark.ensures k))

pub returns-clause-utf8 : goal.returns-clause-utf8
returns-clause-utf8 c =
    let p = shown c.args.picture.now in
    subst IsUtf8 (sym c.runs.invariant.text) (row_utf8 c.args.pen p c.args.y c.runs.x (omega (arith, c.requires.low)) c.runs.invariant.inside
    (omega (arith, c.columns-columns.ensures.exact, c.columns-columns.ensures.bound)))
