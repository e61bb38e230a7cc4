use Rattle.std.proofs.Common.{rules, ◌≡◌, ◌∙◌, false, ap, refl, set}
use Rattle.ar_board.specs.Core.{Core, core_stepped}
use Rattle.ar_board.specs.Private.Inside.{core_of, state_of}
use Rattle.ar_board.specs.declared.core_steps.CoreStep.TheVariants.{Post}
use Rattle.ar_board.proofs.CorePost.{appends, emptied_with, holding, next_in, posts, room_read, stepped_at_once}
use Rattle.ar_board.proofs.core_state.CoreState.post_at_once.Goals as goal

pub run_of-run-requires : goal.run_of-run-requires
run_of-run-requires c =
    let holds = holding c.self.inside c.args.self.now c.args.worker c.in-Some.number c.held.result c.self.invariant c.self.view_is c.in-Some.is c.held.ensures in
    holds.is.inside

pub index_mut-requires : goal.index_mut-requires
index_mut-requires c =
    let holds = holding c.self.inside c.args.self.now c.args.worker c.in-Some.number c.held.result c.self.invariant c.self.view_is c.in-Some.is c.held.ensures in
    let next = next_in c.self.inside c.run_of-run.result c.in-Some.number c.self.invariant holds.is.nowhere c.run_of-run.ensures.own c.run_of-run.ensures.there in
    let inside = next.inside in
    search (rules, inside)

pub append-requires-clause-inside : goal.append-requires-clause-inside
append-requires-clause-inside c =
    let holds = holding c.self.inside c.args.self.now c.args.worker c.in-Some.number c.held.result c.self.invariant c.self.view_is c.in-Some.is c.held.ensures in
    holds.is.inside

pub append-requires-clause-room : goal.append-requires-clause-room
append-requires-clause-room c =
    let holds = holding c.self.inside c.args.self.now c.args.worker c.in-Some.number c.held.result c.self.invariant c.self.view_is c.in-Some.is c.held.ensures in
    let next = next_in c.self.inside c.run_of-run.result c.in-Some.number c.self.invariant holds.is.nowhere c.run_of-run.ensures.own c.run_of-run.ensures.there in
    room_read c.self.inside.bundle.now c.self.inside.runs.items c.run_of-run.result c.index_mut.result.now next c.index_mut.ensures.value

pub invariant_of-self : goal.invariant_of-self
invariant_of-self c =
    let holds = holding c.self.inside c.args.self.now c.args.worker c.in-Some.number c.held.result c.self.invariant c.self.view_is c.in-Some.is c.held.ensures in
    let next = next_in c.self.inside c.run_of-run.result c.in-Some.number c.self.invariant holds.is.nowhere c.run_of-run.ensures.own c.run_of-run.ensures.there in
    let appended = appends c.self.inside.bundle.now c.self.inside.runs.items c.run_of-run.result c.in-Some.number c.index_mut.result.now c.append.new.run c.self.invariant.runs next c.run_of-run.ensures.own c.index_mut.ensures.value c.append.ensures in
    let made = posts c.self.inside.bundle.now c.self.inside.places (state_of c.self.inside) c.self.inside.runs.items (set c.self.inside.runs.items c.run_of-run.result c.append.new.run) c.args.worker c.in-Some.number c.self.invariant.bundle c.self.invariant.sound refl holds.full appended in
    let off : c.self.inside.ordered ≡ false = ap (λ (core : Core). core.ordered) c.self.view_is ∙ c.requires in
    record {
      bundle = c.self.invariant.bundle;
      findings = c.self.invariant.findings;
      sound = made.sound;
      runs = appended.kept;
      queued = c.self.invariant.queued;
      put = c.self.invariant.put;
      room = c.self.invariant.room;
      own = λ on. absurd cc;
      in_order = λ on. absurd cc;
    }

pub returns-clause-after : goal.returns-clause-after
returns-clause-after c =
    let holds = holding c.self.inside c.args.self.now c.args.worker c.in-Some.number c.held.result c.self.invariant c.self.view_is c.in-Some.is c.held.ensures in
    let next = next_in c.self.inside c.run_of-run.result c.in-Some.number c.self.invariant holds.is.nowhere c.run_of-run.ensures.own c.run_of-run.ensures.there in
    let appended = appends c.self.inside.bundle.now c.self.inside.runs.items c.run_of-run.result c.in-Some.number c.index_mut.result.now c.append.new.run c.self.invariant.runs next c.run_of-run.ensures.own c.index_mut.ensures.value c.append.ensures in
    let made = posts c.self.inside.bundle.now c.self.inside.places (state_of c.self.inside) c.self.inside.runs.items (set c.self.inside.runs.items c.run_of-run.result c.append.new.run) c.args.worker c.in-Some.number c.self.invariant.bundle c.self.invariant.sound refl holds.full appended in
    let off : c.self.inside.ordered ≡ false = ap (λ (core : Core). core.ordered) c.self.view_is ∙ c.requires in
    stepped_at_once (core_of c.self.inside) c.args.worker (emptied_with (state_of c.self.inside) c.args.worker (set c.self.inside.runs.items c.run_of-run.result c.append.new.run)) off made.after
    ∙ ap (λ (core : Core). core_stepped core (Post c.args.worker)) c.self.view_is
