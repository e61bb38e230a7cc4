use Rattle.std.proofs.Common.{ap, sym, ◌∙◌}
use Rattle.ar_verify.specs.Private.Parts.{part_view}
use Rattle.ar_verify.proofs.Meets.{found_there}
use Rattle.ar_verify.proofs.join.is_among.Goals as goal

pub returns-then-are_one : goal.returns-then-are_one
returns-then-are_one g c =
    λ _. found_there (λ other. part_view other.value) c.args.others.now c.loop-other.other-index c.other-item.result (part_view c.args.part.now) c.loop-other-test.true c.other-item.is
    (ap part_view (sym c.deref.ensures) ∙ c.are_one.ensures c.if-are_one.true)
