use Rattle.std.proofs.Common.{rules}
use Rattle.ar_board.specs.Private.Inside.{state_of}
use Rattle.ar_board.proofs.CorePost.{holding}
use Rattle.ar_board.proofs.OrderedMemory.{mark_inside, post_changes}
use Rattle.ar_board.proofs.OrderedSteps.{parked_by_sound}
use Rattle.ar_board.proofs.core_state.CoreState.post_in_order.Goals as goal

pub run_of-run-requires : goal.run_of-run-requires
run_of-run-requires c =
    let holds = holding c.self.inside c.args.self.now c.args.worker c.in-Some.number c.held.result c.self.invariant c.self.view_is c.in-Some.is c.held.ensures in
    holds.is.inside

pub index_mut-requires-2 : goal.index_mut-requires-2
index_mut-requires-2 c =
    let holds = holding c.self.inside c.args.self.now c.args.worker c.in-Some.number c.held.result c.self.invariant c.self.view_is c.in-Some.is c.held.ensures in
    let inside = mark_inside c.self.inside c.in-Some.number c.self.invariant holds.is.inside in
    search (rules, inside)

pub invariant_of-self : goal.invariant_of-self
invariant_of-self c =
    let holds = holding c.self.inside c.args.self.now c.args.worker c.in-Some.number c.held.result c.self.invariant c.self.view_is c.in-Some.is c.held.ensures in
    record {
      bundle = c.self.invariant.bundle;
      findings = c.self.invariant.findings;
      sound = parked_by_sound c.self.inside.bundle.now (state_of c.self.inside) c.args.worker c.in-Some.number holds.full c.self.invariant.sound;
      runs = c.self.invariant.runs;
      queued = c.self.invariant.queued;
      put = c.self.invariant.put;
      room = c.self.invariant.room;
      own = c.self.invariant.own;
      in_order = c.self.invariant.in_order;
    }

pub returns-clause-idle : goal.returns-clause-idle
returns-clause-idle c =
    let holds = holding c.self.inside c.args.self.now c.args.worker c.in-Some.number c.held.result c.self.invariant c.self.view_is c.in-Some.is c.held.ensures in
    (λ idle. absurd cc, λ same. absurd (post_changes c.self.inside c.args.self.now c.settle.new.self c.args.worker c.in-Some.number c.run_of-run.result c.self.view_is holds.full c.settle.ensures same))
