use Rattle.std.proofs.Common.{◌%◌, ap, ◌∙◌, length}
use Rattle.std.specs.Prelude.{◌==◌, ◌&&◌}
use Rattle.gs1_links.proofs.LinkLoops.{path_more, next_even}
use Rattle.gs1_links.proofs.link_parts.path_in.Goals as goal

pub loop-rest-preserved : goal.loop-rest-preserved
loop-rest-preserved c =
    let known = rw c.in-Some.is at c.loop-rest.invariant in (
      path_more _ _ _ _ _ _ _ _ c.cut_at-cut.ensures.parts known.1 (ap (λ b. c.loop-rest.even && b) c.is_key_text-is_key.ensures)
          c.found_or-found.ensures known.0,
      next_even _ _ (known.1 ∙ ap (λ xs. length xs % 2 == 0) c.cut_at-cut.ensures.parts),
    )
