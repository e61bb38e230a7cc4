-- Refusals of borrowed values.
use Rattle.std.specs.Prelude.{Bool, true, false}
use Rattle.ar_borrowed.specs.declared.trees.TreeError.{TreeError}
use Rattle.ar_borrowed.specs.declared.trees.TreeError.TheVariants.{OutOfMemory}

abbrev pub is_tree_memory : TreeError → Bool
is_tree_memory OutOfMemory = true
is_tree_memory error = false
