use Rattle.qrcode_grid.proofs.Prelude.{◌≡◌, ◌+◌, ◌-◌, ◌*◌, ap, arith, common_steps, has_finder, plane}
use Rattle.qrcode_grid.proofs.MarkedLanes.{marks_and, marks_or, marks_as}
use Rattle.qrcode_grid.proofs.canvas.scoring.lists.places_of.Goals.{in-Finder, in-Square, in-Dark}
use Rattle.qrcode_grid.proofs.canvas.scoring.lists.places_of.Goals as goal

pub returns : goal.returns
returns c = elim c.match-feature.branch [
  | in-Finder w ↦
      let first = marks_and _ _ _ _ (marks_and _ _ _ _ w.dark.ensures w.light.ensures) w.dark-in-Finder.ensures in
      let more = marks_and _ _ _ _ (marks_and _ _ _ _ first w.dark-in-Finder-2.ensures) w.dark-in-Finder-3.ensures in
      let pattern = marks_and _ _ _ _ (marks_and _ _ _ _ more w.light-in-Finder.ensures) w.dark-in-Finder-4.ensures in
      let early = marks_and _ _ _ _ (marks_and _ _ _ _ w.light-in-Finder-2.ensures w.light-in-Finder-3.ensures) w.light-in-Finder-4.ensures in
      let late = marks_and _ _ _ _ (marks_and _ _ _ _ w.light-in-Finder-6.ensures w.light-in-Finder-7.ensures) w.light-in-Finder-8.ensures in
      let sides = marks_or _ _ _ _ (marks_and _ _ _ _ early w.light-in-Finder-5.ensures) (marks_and _ _ _ _ late w.light-in-Finder-9.ensures) in
      let a = c.args in let on = 4 * (a.width + 4 - a.step) in
      rw (w.result-is, w.in-Finder.is)
      (marks_as _ _ _ (λ m j. let e : a.at + on + j ≡ a.at + j + on = omega arith in ap (has_finder a.step (plane m a.padded.now)) e)
      (marks_and _ _ _ _ pattern sides))
  | in-Square w ↦ rw (w.result-is, w.in-Square.is)
      (marks_and _ _ _ _ (marks_and _ _ _ _ w.dark-in-Square.ensures w.dark-in-Square-2.ensures) w.equal_to_next.ensures)
  | in-Dark w ↦ grind (arith, common_steps)
]
