use Rattle.std.proofs.Common.{rules, ◌∙◌, nat_cmp}
use Rattle.std.specs.Cmp.Lexicographic.{slice_cmp}
use Rattle.std.proofs.lemmas.Fn.{always_returns_same}
use Rattle.ar_value.proofs.Orders.{name_searched}
use Rattle.ar_value.proofs.names.search.Goals as goal

-- the closure compares with the name
pub returns : goal.returns
returns c =
    let found = c.binary_search_by.ensures in
    let by_name = found.position (λ of. slice_cmp nat_cmp of c.args.name.now) (always_returns_same _ _ _ (λ a r f' called. (search rules, search rules))) in
    c.ok.ensures.value ∙ name_searched c.args.names.now c.args.name.now _ c.requires found.bound by_name
