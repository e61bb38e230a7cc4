use Rattle.std.proofs.Common.{arith, ◌≡◌, ◌==◌, ◌+◌, if◌then◌else◌, List, length, get_or, sym, ◌∙◌, ap, subst, rules}
use Rattle.std.proofs.lemmas.Grind.{common_steps}
use Rattle.ar_board.proofs.Opened.{sizes_there, opened_next}
use Rattle.ar_bundle.specs.Sound.{sizes_of}
use Rattle.ar_board.specs.Locks.{lock_of}
use Rattle.ar_board.specs.Private.KeptRuns.{AreOpened, IsOpened}
use Rattle.ar_board.specs.declared.cell.kept_run.KeptRun.{KeptRun}
use Rattle.ar_board.proofs.cell.open_runs.Goals as goal

pub loop-part-preserved : goal.loop-part-preserved
loop-part-preserved c =
    let runs : List KeptRun = c.loop-part.runs.items in
    let sizes : c.in_ok-sizes.sizes.items ≡ sizes_of c.args.bundle.now = search rules in
    let run : c.len.result ≡ length runs = search rules in
    let room : c.room_of-room.result ≡ (if lock_of (length runs) == c.args.lock then get_or c.in_ok-sizes.sizes.items (length runs) 0 else 0) =
    c.room_of-room.ensures ∙ (ap (λ (sizes : List _). if lock_of c.len.result == c.args.lock then get_or sizes c.len.result 0 else 0) c.as_slice.ensures.value
    ∙ ap (λ (run : _). if lock_of run == c.args.lock then get_or c.in_ok-sizes.sizes.items run 0 else 0) run) in
    let opened : IsOpened c.part-item.result.limits c.room_of-room.result c.args.workers c.in_ok-open.field-0 = search rules in
    subst (AreOpened c.args.bundle.now c.args.workers c.args.lock (c.loop-part.part-index + 1)) (sym c.in_ok-push.ensures.items)
    (opened_next c.args.bundle.now c.runs-parts.result.now c.args.workers c.args.lock c.loop-part.part-index c.room_of-room.result c.in_ok-sizes.sizes.items runs c.part-item.result c.in_ok-open.field-0
    (search rules) c.loop-part-test.true c.part-item.is sizes c.loop-part.invariant.as_many room opened c.loop-part.invariant)

pub room_of-room-requires : goal.room_of-room-requires
room_of-room-requires c = search (rules, opened_next, sizes_there)

pub open-requires : goal.open-requires
open-requires c = grind (arith, common_steps)
