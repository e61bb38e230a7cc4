use Rattle.std.proofs.Common.{rules, arith}
use Rattle.ar_bundle.proofs.Grown.{applied, next_of}
use Rattle.ar_bundle.proofs.runs.Runs.apply.Goals as goal

pub index_mut-requires : goal.index_mut-requires
index_mut-requires c =
    let next = next_of c.args.bundle.now c.args.number c.run_of-run.result c.args.self.now.states.items c.args.self.now.histories.items c.requires.bundle c.requires.grown c.run_of-run.ensures.there in
    search (rules, next)

pub apply-effect-requires-clause-room : goal.apply-effect-requires-clause-room
apply-effect-requires-clause-room c =
    let next = next_of c.args.bundle.now c.args.number c.run_of-run.result c.args.self.now.states.items c.args.self.now.histories.items c.requires.bundle c.requires.grown c.run_of-run.ensures.there in
    let room = next.room c.index_mut.result.now c.index_mut.ensures.value in
    let few = c.requires.bundle.few_events in
    let there = c.requires.there in
    omega arith

pub apply-effect-requires-clause-metric : goal.apply-effect-requires-clause-metric
apply-effect-requires-clause-metric c =
    let next = next_of c.args.bundle.now c.args.number c.run_of-run.result c.args.self.now.states.items c.args.self.now.histories.items c.requires.bundle c.requires.grown c.run_of-run.ensures.there in
    let metrics = next.metrics c.index_mut.result.now c.index_mut.ensures.value in
    rw metrics c.event-event.ensures.metric

pub index_mut-requires-2 : goal.index_mut-requires-2
index_mut-requires-2 c =
    let next = next_of c.args.bundle.now c.args.number c.run_of-run.result c.args.self.now.states.items c.args.self.now.histories.items c.requires.bundle c.requires.grown c.run_of-run.ensures.there in
    search (rules, next)

pub returns : goal.returns
returns c =
    let next = next_of c.args.bundle.now c.args.number c.run_of-run.result c.args.self.now.states.items c.args.self.now.histories.items c.requires.bundle c.requires.grown c.run_of-run.ensures.there in
    let grown = applied c.args.bundle.now c.args.number c.run_of-run.result c.args.self.now.states.items c.args.self.now.histories.items c.index_mut.result.now c.apply-effect.new.self c.index_mut-2.result.now c.push.new.self c.args.finding c.event-event.result c.apply-effect.result
    c.requires.grown next c.run_of-run.ensures.own c.requires.finding c.event-event.ensures.exact c.index_mut.ensures.value c.index_mut-2.ensures.value c.apply-effect.ensures.replays c.apply-effect.ensures.effect in
    search (rules, grown)
