use Rattle.std.proofs.Common.{rules}
use Rattle.std.proofs.lemmas.Result.{err_from_is_err_and}
use Rattle.ar_borrowed.specs.Tree.{is_tree_memory}
use Rattle.ar_borrowed.proofs.Making.{item_refused, items_end, next_item, next_member, object_made, object_refused}
use Rattle.ar_borrowed.proofs.trees.+tree_of.Goals as goal

pub items_of-returns-in_err-item : goal.items_of-returns-in_err-item
items_of-returns-in_err-item t c =
    let p = err_from_is_err_and c.from_residual-in_err-item.result c.from_residual-in_err-item.ensures.1 in
    let refusal = c.in_err-item.field-0.0 in
    rw (p.1, p.2)
    (item_refused c.args.borrowed.now c.loop-item.item-index c.loop-item.items.items _ (is_tree_memory refusal) c.item-item.result refusal
    c.loop-item-test.true c.item-item.is c.loop-item.invariant c.in_err-item.ensures)

pub items_of-loop-item-preserved : goal.items_of-loop-item-preserved
items_of-loop-item-preserved t c =
    next_item c.args.borrowed.now c.loop-item.item-index c.loop-item.items.items _ c.item-item.result c.in_ok-item.item c.push.new.self.items
    c.loop-item-test.true c.item-item.is c.in_ok-push.ensures.items c.loop-item.invariant c.in_ok-item.ensures

pub items_of-returns : goal.items_of-returns
items_of-returns t c = items_end c.args.borrowed.now c.loop-item.item-index c.loop-item.items.items _ c.loop-item-test.false c.loop-item.invariant

pub members_of-loop-member-preserved : goal.members_of-loop-member-preserved
members_of-loop-member-preserved t c =
    next_member c.args.borrowed.now c.loop-member.member-index c.loop-member.members.entries _ c.member-item.result c.in_ok-name.name c.in_ok-value.value c.insert.new.self.entries
    c.loop-member-test.true c.member-item.is (search rules) c.in_ok-insert.ensures.entries c.loop-member.invariant c.in_ok-value.ensures

pub tree_of-returns-in_err-members_of-in-Object : goal.tree_of-returns-in_err-members_of-in-Object
tree_of-returns-in_err-members_of-in-Object t c =
    let p = err_from_is_err_and c.from_residual-in_err-members_of-in-Object.result c.from_residual-in_err-members_of-in-Object.ensures.1 in
    let refusal = c.in_err-members_of-in-Object.field-0.0 in
    rw (p.1, p.2, c.in-Object.is)
    (object_refused c.in-Object.members (is_tree_memory refusal) refusal (rw c.deref-in-Object.ensures.value at c.in_err-members_of-in-Object.ensures))

pub tree_of-returns-in_ok-members_of-in-Object : goal.tree_of-returns-in_ok-members_of-in-Object
tree_of-returns-in_ok-members_of-in-Object t c =
    rw c.in-Object.is
    (object_made c.in-Object.members c.in_ok-members_of-in-Object.field-0 (rw c.deref-in-Object.ensures.value at c.in_ok-members_of-in-Object.ensures))
