use Rattle.ar_explain.proofs.Children.{unneeded_children}
use Rattle.ar_explain.proofs.laws.children_without_an_entry_are_unneeded.Goals as goal

pub returns : goal.returns
returns c = unneeded_children
