use Rattle.std.proofs.Common.{map}
use Rattle.ar_verify.specs.Private.Parts.{part_view}
use Rattle.ar_verify.proofs.Meets.{firsts_alike, rights_alike}
use Rattle.ar_verify.proofs.join.together.Goals as goal

pub add_part-requires-clause-form : goal.add_part-requires-clause-form
add_part-requires-clause-form g c =
    rw c.deref-3.ensures
    (firsts_alike (part_view c.args.left.now.first.value) (part_view c.args.right.now.first.value) (map (λ other. part_view other.value) c.args.left.now.others.items)
    (map (λ other. part_view other.value) c.args.right.now.others.items) c.requires)

pub add_parts-requires-2-clause-parts : goal.add_parts-requires-2-clause-parts
add_parts-requires-2-clause-parts g c =
    rw (c.deref-4.ensures, c.deref-5.ensures.value)
    (rights_alike (part_view c.args.left.now.first.value) (part_view c.args.right.now.first.value) (map (λ other. part_view other.value) c.args.left.now.others.items)
    (map (λ other. part_view other.value) c.args.right.now.others.items) c.requires c.args.right.now.alike)
