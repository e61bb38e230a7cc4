use Rattle.std.proofs.Common.{rules, ◌∙◌, sym}
use Rattle.ar_board.proofs.CoreShown.{run_inside}
use Rattle.ar_board.proofs.OrderedMemory.{least_read, none_read, own_inside, some_read}
use Rattle.ar_board.proofs.core_state.CoreState.least_lacking.Goals as goal

pub index-requires : goal.index-requires
index-requires c =
    let inside = own_inside c.self.inside c.args.self.now c.args.run c.self.invariant c.self.view_is c.requires.ordered c.requires.there in
    search (rules, inside)

pub index-requires-2 : goal.index-requires-2
index-requires-2 c =
    let inside = run_inside c.self.inside c.args.self.now c.args.run c.self.invariant c.self.view_is c.requires.there in
    search (rules, inside)

pub returns-in-Some : goal.returns-in-Some
returns-in-Some c =
    sym (some_read c.deref.result.now c.len.result c.in-Some.number.now c.in-Some.ensures.lookup.0 c.in-Some.ensures.lookup.1)
    ∙ least_read c.self.inside c.args.self.now c.args.run c.index-2.result.now c.index.result.now c.deref.result.now c.len.result c.self.invariant c.self.view_is c.requires.ordered c.requires.there c.index-2.ensures c.index.ensures c.deref.ensures.value c.len.ensures

pub returns-in-None : goal.returns-in-None
returns-in-None c =
    sym (none_read c.deref.result.now c.len.result c.in-None.ensures.lookup.0)
    ∙ least_read c.self.inside c.args.self.now c.args.run c.index-2.result.now c.index.result.now c.deref.result.now c.len.result c.self.invariant c.self.view_is c.requires.ordered c.requires.there c.index-2.ensures c.index.ensures c.deref.ensures.value c.len.ensures
