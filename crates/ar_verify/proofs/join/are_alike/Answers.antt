use Rattle.std.proofs.Common.{ap, map, sym, ◌∙◌}
use Rattle.ar_verify.specs.Private.Parts.{part_view}
use Rattle.ar_verify.proofs.Meets.{one_first}
use Rattle.ar_verify.proofs.join.are_alike.Goals as goal

pub returns-then-are_one : goal.returns-then-are_one
returns-then-are_one g c =
    one_first (part_view c.args.left.now.first.value) (part_view c.args.right.now.first.value) (map (λ other. part_view other.value) c.args.left.now.others.items) (map (λ other. part_view other.value) c.args.right.now.others.items)
    c.are_one.result c.if-are_one.true (ap part_view (sym c.deref.ensures) ∙ c.are_one.ensures c.if-are_one.true ∙ ap part_view c.deref-2.ensures)
