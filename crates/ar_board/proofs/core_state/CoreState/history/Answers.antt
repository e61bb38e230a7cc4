use Rattle.std.proofs.Common.{rules, ◌∙◌, Some, ap, sym}
use Rattle.ar_board.proofs.CoreShown.{run_inside, shows}
use Rattle.ar_board.proofs.core_state.CoreState.history.Goals as goal

pub index-requires : goal.index-requires
index-requires c =
    let inside = run_inside c.self.inside c.args.self.now c.args.run c.self.invariant c.self.view_is c.requires in
    search (rules, inside)

pub returns : goal.returns
returns c =
    let shown = shows c.self.inside c.args.self.now c.args.run c.index.result.now c.self.invariant c.self.view_is c.requires c.index.ensures in
    shown.history ∙ ap Some (sym c.deref.ensures.value)
