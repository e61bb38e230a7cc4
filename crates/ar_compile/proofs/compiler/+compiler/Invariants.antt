use Rattle.std.proofs.Common.{◌≡◌, ◌+◌, ◌*◌, ◌≤◌, drop, map, max}
use Rattle.ar_tree.specs.Typed.{typeds}
use Rattle.ar_tree.specs.Views.{typed_view}
use Rattle.ar_tree.specs.declared.typed.Typed.{size-Typed}
use Rattle.ar_compile.specs.Length.{operations_of_items}
use Rattle.ar_tree.specs.Limits.{AllInLimits}
use Rattle.ar_compile.specs.Private.Drafts.{drafted_items, draft_index}
use Rattle.ar_compile.proofs.compiler.+compiler.Given as goal

-- what is left leads to the whole
abbrev pub invariant-put_items-loop-item : goal.invariant-put_items-loop-item
invariant-put_items-loop-item l =
    let rest = typeds (map typed_view (drop l.item-index l.items)) in
    (drafted_items rest l.draft ≡ drafted_items (typeds (map typed_view l.items)) l.fn.draft) × AllInLimits rest × (draft_index l.draft + operations_of_items rest ≤ 4096)

-- four times the depth that is left, and a rank
abbrev pub decreases-put : goal.decreases-put
decreases-put l = 4 * goal.size-put l

abbrev pub decreases-put_one : goal.decreases-put_one
decreases-put_one l = 4 * goal.size-put_one l + 1

abbrev pub decreases-put_field : goal.decreases-put_field
decreases-put_field l = 4 * goal.size-put_field l + 1

abbrev pub decreases-put_items : goal.decreases-put_items
decreases-put_items l = 4 * goal.size-put_items l + 1

abbrev pub decreases-put_list : goal.decreases-put_list
decreases-put_list l = 4 * goal.size-put_list l + 2

abbrev pub decreases-put_two : goal.decreases-put_two
decreases-put_two l = 4 * max (size-Typed l.left.now) (size-Typed l.right.now) + 3

abbrev pub decreases-put_sides : goal.decreases-put_sides
decreases-put_sides l = 4 * max (size-Typed l.left.now) (size-Typed l.right.now) + 3

abbrev pub decreases-put_loop : goal.decreases-put_loop
decreases-put_loop l = 4 * max (size-Typed l.list.now) (size-Typed l.body.now) + 3

abbrev pub decreases-put_choice : goal.decreases-put_choice
decreases-put_choice l = 4 * max (size-Typed l.condition.now) (max (size-Typed l.then_branch.now) (size-Typed l.else_branch.now)) + 3
