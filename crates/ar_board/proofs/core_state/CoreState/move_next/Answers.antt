use Rattle.std.proofs.Common.{rules, true, false, refl, set}
use Rattle.ar_board.proofs.CorePost.{appends, next_in, room_read}
use Rattle.ar_board.proofs.CoreShown.{run_inside}
use Rattle.ar_board.proofs.OrderedMemory.{free_stays, is_turn, least_in, mark_inside, mark_read, none_moves, parked_nowhere, run_below, turned_in}
use Rattle.ar_board.proofs.core_state.CoreState.move_next.Goals as goal

pub returns-in_default-clause-stays : goal.returns-in_default-clause-stays
returns-in_default-clause-stays c = λ same. (refl, none_moves c.self.inside c.args.self.now c.args.run c.self.invariant c.self.view_is c.requires.ordered c.in_default.ensures)

pub index-requires : goal.index-requires
index-requires c =
    let least = least_in c.self.inside c.args.self.now c.args.run c.in-Some.number c.self.view_is c.in-Some.ensures in
    let inside = mark_inside c.self.inside c.in-Some.number c.self.invariant least.inside in
    search (rules, inside)

pub returns-then-not-index-clause-stays : goal.returns-then-not-index-clause-stays
returns-then-not-index-clause-stays c =
    let least = least_in c.self.inside c.args.self.now c.args.run c.in-Some.number c.self.view_is c.in-Some.ensures in
    let free = mark_read c.self.inside c.in-Some.number c.index.result.now false c.self.invariant least.inside c.index.ensures c.if-not-index.true in
    λ same. (refl, free_stays c.self.inside c.args.self.now c.args.run c.in-Some.number c.self.invariant c.self.view_is c.requires.ordered least free)

pub append-requires-clause-inside : goal.append-requires-clause-inside
append-requires-clause-inside c = (least_in c.self.inside c.args.self.now c.args.run c.in-Some.number c.self.view_is c.in-Some.ensures).inside

pub append-requires-clause-room : goal.append-requires-clause-room
append-requires-clause-room c =
    let least = least_in c.self.inside c.args.self.now c.args.run c.in-Some.number c.self.view_is c.in-Some.ensures in
    let marked = mark_read c.self.inside c.in-Some.number c.index.result.now true c.self.invariant least.inside c.index.ensures c.if-not-index.false in
    let next = next_in c.self.inside c.args.run c.in-Some.number c.self.invariant (parked_nowhere c.self.inside c.in-Some.number c.self.invariant marked) least.own (run_below c.self.inside c.args.self.now c.args.run c.self.view_is c.requires.there) in
    room_read c.self.inside.bundle.now c.self.inside.runs.items c.args.run c.index_mut.result.now next c.index_mut.ensures.value

pub index_mut-requires : goal.index_mut-requires
index_mut-requires c =
    let inside = run_inside c.self.inside c.args.self.now c.args.run c.self.invariant c.self.view_is c.requires.there in
    search (rules, inside)

pub index_mut-requires-2 : goal.index_mut-requires-2
index_mut-requires-2 c =
    let least = least_in c.self.inside c.args.self.now c.args.run c.in-Some.number c.self.view_is c.in-Some.ensures in
    let inside = mark_inside c.self.inside c.in-Some.number c.self.invariant least.inside in
    search (rules, inside)

pub invariant_of-self : goal.invariant_of-self
invariant_of-self c =
    let least = least_in c.self.inside c.args.self.now c.args.run c.in-Some.number c.self.view_is c.in-Some.ensures in
    let marked = mark_read c.self.inside c.in-Some.number c.index.result.now true c.self.invariant least.inside c.index.ensures c.if-not-index.false in
    let next = next_in c.self.inside c.args.run c.in-Some.number c.self.invariant (parked_nowhere c.self.inside c.in-Some.number c.self.invariant marked) least.own (run_below c.self.inside c.args.self.now c.args.run c.self.view_is c.requires.there) in
    let appended = appends c.self.inside.bundle.now c.self.inside.runs.items c.args.run c.in-Some.number c.index_mut.result.now c.append.new.run c.self.invariant.runs next least.own c.index_mut.ensures.value c.append.ensures in
    let turn = turned_in c.self.inside c.args.self.now c.args.run c.in-Some.number (set c.self.inside.runs.items c.args.run c.append.new.run) c.self.invariant c.self.view_is c.requires.ordered c.requires.there least marked appended in
    record {
      bundle = c.self.invariant.bundle;
      findings = c.self.invariant.findings;
      sound = turn.sound;
      runs = appended.kept;
      queued = c.self.invariant.queued;
      put = c.self.invariant.put;
      room = c.self.invariant.room;
      own = c.self.invariant.own;
      in_order = λ on. turn.in_order;
    }

pub returns-clause-moves : goal.returns-clause-moves
returns-clause-moves c =
    let least = least_in c.self.inside c.args.self.now c.args.run c.in-Some.number c.self.view_is c.in-Some.ensures in
    let marked = mark_read c.self.inside c.in-Some.number c.index.result.now true c.self.invariant least.inside c.index.ensures c.if-not-index.false in
    let next = next_in c.self.inside c.args.run c.in-Some.number c.self.invariant (parked_nowhere c.self.inside c.in-Some.number c.self.invariant marked) least.own (run_below c.self.inside c.args.self.now c.args.run c.self.view_is c.requires.there) in
    let appended = appends c.self.inside.bundle.now c.self.inside.runs.items c.args.run c.in-Some.number c.index_mut.result.now c.append.new.run c.self.invariant.runs next least.own c.index_mut.ensures.value c.append.ensures in
    let turn = turned_in c.self.inside c.args.self.now c.args.run c.in-Some.number (set c.self.inside.runs.items c.args.run c.append.new.run) c.self.invariant c.self.view_is c.requires.ordered c.requires.there least marked appended in
    λ same. is_turn c.self.inside c.args.self.now c.args.run c.in-Some.number _ c.self.view_is turn
