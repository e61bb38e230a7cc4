use Rattle.std.proofs.Common.{None, rules, sym, ◌∙◌, arith}
use Rattle.ar_workers.proofs.Judged.{known_inside, known_read}
use Rattle.ar_bundle.proofs.Finishing.{finished_after}
use Rattle.ar_bundle.proofs.Lawful.{all_rise}
use Rattle.ar_workers.proofs.ordered.applied.Goals as goal

pub bounds : goal.bounds
bounds c = known_inside c.args.bundle.now c.loop-number.number c.args.findings.now (c.requires.known c.loop-number.number (let less = c.loop-number-test.true in let count = c.events-events.ensures.count in omega arith))

pub unreachable-requires : goal.unreachable-requires
unreachable-requires c =
    let known = c.requires.known c.loop-number.number (let less = c.loop-number-test.true in let count = c.events-events.ensures.count in omega arith) in
    c.in_default.not-Some known.0 (known_read c.args.bundle.now c.loop-number.number c.args.findings.now None known ∙ known.2)

pub apply-requires-clause-finding : goal.apply-requires-clause-finding
apply-requires-clause-finding c =
    let known = c.requires.known c.loop-number.number (let less = c.loop-number-test.true in let count = c.events-events.ensures.count in omega arith) in
    sym (known_read c.args.bundle.now c.loop-number.number c.args.findings.now None known) ∙ c.in-Some.is

pub returns-clause-finished : goal.returns-clause-finished
returns-clause-finished c =
    let most = c.loop-number.invariant.0 in
    let least = c.loop-number-test.false in
    let count = c.events-events.ensures.count in
    finished_after c.args.bundle.now c.loop-number.number c.loop-number.runs c.finish.result c.events-events.ensures.bundle (omega arith) c.loop-number.invariant.1 c.finish.ensures.histories c.finish.ensures.states

pub returns-clause-in_order : goal.returns-clause-in_order
returns-clause-in_order c = search (rules, all_rise)
