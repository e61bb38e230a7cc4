use Rattle.std.proofs.Common.{drop, map}
use Rattle.ar_tree.specs.Typed.{typeds}
use Rattle.ar_tree.specs.Views.{typed_view}
use Rattle.ar_compile.specs.Private.Trees.{Agree, items_view}
use Rattle.ar_compile.proofs.limits.+limits.Given as goal

-- those that are left decide
abbrev pub invariant-all_in_limits-loop-item : goal.invariant-all_in_limits-loop-item
invariant-all_in_limits-loop-item l = Agree (items_view l.items) (typeds (map typed_view (drop l.item-index l.items)))
