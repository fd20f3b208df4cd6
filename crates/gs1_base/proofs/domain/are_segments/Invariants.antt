use Rattle.std.proofs.Common.{◌≡◌, length}
use Rattle.std.specs.List.{list_all, slice_split}
use Rattle.gs1_base.specs.Domains.{is_slash, is_segment}
use Rattle.gs1_base.proofs.domain.are_segments.Given as goal

abbrev pub invariant-loop-rest : goal.invariant-loop-rest
invariant-loop-rest l =
    list_all is_segment (slice_split is_slash l.rest) ≡ list_all is_segment (slice_split is_slash l.path)

abbrev pub decreases-loop-rest : goal.decreases-loop-rest
decreases-loop-rest l = length l.rest
