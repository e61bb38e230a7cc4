use Rattle.std.proofs.Common.{rules}
use Rattle.ar_board.proofs.CoreShown.{run_inside, shows}
use Rattle.ar_board.proofs.core_state.CoreState.run_state.Goals as goal

pub index-requires : goal.index-requires
index-requires c =
    let inside = run_inside c.self.inside c.args.self.now c.args.run c.self.invariant c.self.view_is c.requires in
    search (rules, inside)

pub returns : goal.returns
returns c = (shows c.self.inside c.args.self.now c.args.run c.index.result.now c.self.invariant c.self.view_is c.requires c.index.ensures).standing
