use Rattle.std.proofs.Common.{arith}
use Rattle.std.proofs.lemmas.Grind.{common_steps}
use Rattle.ar_value.specs.Names.{Rise}
use Rattle.ar_value.proofs.Orders.{sorted_drop, sorted_take}
use Rattle.ar_value.proofs.names.Names.index_from.Goals as goal

pub search-requires : goal.search-requires
search-requires c =
    let rise : Rise c.as_slice-names.result.now = rw c.as_slice-names.ensures.names c.as_slice-names.ensures.rise in
    sorted_take _ _ _ (sorted_drop _ _ _ rise)

pub returns-then-from-names : goal.returns-then-from-names
returns-then-from-names c = grind (arith, common_steps) steps 2000000

pub returns-in_err-search : goal.returns-in_err-search
returns-in_err-search c = grind (arith, common_steps) steps 2000000

pub returns : goal.returns
returns c = grind (arith, common_steps) steps 2000000
