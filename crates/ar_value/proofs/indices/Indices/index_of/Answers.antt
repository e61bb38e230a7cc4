use Rattle.std.proofs.Common.{◌∙◌, ap, nat_cmp}
use Rattle.std.specs.List.Sorted.{IsStrictlySortedBy}
use Rattle.ar_value.specs.Names.{index_of}
use Rattle.ar_value.proofs.Orders.{number_searched}
use Rattle.ar_value.proofs.indices.Indices.index_of.Goals as goal

pub returns : goal.returns
returns c =
    let indices = c.deref.result.now in
    let sorted : IsStrictlySortedBy nat_cmp indices = rw c.deref.ensures.value c.self.invariant in
    c.ok.ensures.value ∙ number_searched indices c.args.index _ sorted c.binary_search.ensures.position ∙ ap (index_of c.args.index) (c.deref.ensures.value ∙ c.self.view_is)
