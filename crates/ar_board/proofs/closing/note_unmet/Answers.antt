use Rattle.std.proofs.Common.{◌≡◌, ◌<◌, ◌≤◌, ◌*◌, ◌+◌, ℕ, Bool, List, Option, None, Vec, Global, length, take, refl, sym, subst, arith, rules, slice_index_or, Fits, w64}
use Rattle.std.proofs.lemmas.Grind.{common_steps}
use Rattle.ar_bundle.specs.Sound.{IsBundle}
use Rattle.ar_bundle.specs.Bundle.{Bundle}
use Rattle.ar_board.specs.Private.Closing.{AreMarked, AreOwn, IsAt, IsAfter}
use Rattle.ar_board.specs.declared.cell.receipt.Receipt.{Receipt}
use Rattle.ar_board.proofs.Marks.{last_first, last_next, marked_first, marked_met, marked_unmet, number_there, run_there, same_read}
use Rattle.ar_board.proofs.closing.note_unmet.Goals as goal
use Rattle.ar_board.proofs.closing.note_unmet.Goals.{then-not-is_met, else-not-is_met}

abbrev none : Receipt
none = record { run = 0; number = 0; place = 0 }

-- the run of a receipt
run_is : (bundle : Bundle) (own : List Receipt) (at : ℕ) (d : Receipt) → IsBundle bundle → AreOwn bundle own → at < length own → (slice_index_or own at d).run < length bundle.runs
run_is bundle own at d is are inside = run_there bundle own at (slice_index_or own at d) is are inside (same_read own at d (slice_index_or own at d) inside)

few : (bundle : Bundle) (own : List Receipt) (at : ℕ) (d : Receipt) → IsBundle bundle → AreOwn bundle own → at < length own → (slice_index_or own at d).run < 64
few bundle own at d is are inside =
    let there = run_is bundle own at d is are inside in
    let most : length bundle.runs ≤ 64 = is.few_runs in
    omega arith

number_is : (bundle : Bundle) (own : List Receipt) (at : ℕ) (d : Receipt) → AreOwn bundle own → at < length own → (slice_index_or own at d).number < length bundle.entries
number_is bundle own at d are inside = number_there bundle own at (slice_index_or own at d) are inside (same_read own at d (slice_index_or own at d) inside)

small : (run : ℕ) → run < 64 → Fits w64 (run * 16)
small run less = omega arith

pub loop-receipt-init : goal.loop-receipt-init
loop-receipt-init g c = (last_first c.args.own.now _ refl, marked_first c.args.histories.now c.args.own.now c.args.unmet.now.items)

pub bounds-last-receipt : goal.bounds-last-receipt
bounds-last-receipt g c = few g.M.BundleName.bundle c.args.own.now c.loop-receipt.receipt-index _ c.requires.bundle c.requires.own c.loop-receipt-test.true

pub offset_bounds-last-receipt : goal.offset_bounds-last-receipt
offset_bounds-last-receipt g c = small _ (few g.M.BundleName.bundle c.args.own.now c.loop-receipt.receipt-index _ c.requires.bundle c.requires.own c.loop-receipt-test.true)

pub is_met-requires : goal.is_met-requires
is_met-requires g c = record { there = subst (λ (many : ℕ). (slice_index_or c.args.own.now c.loop-receipt.receipt-index none).run < many) (sym c.requires.runs) (run_is g.M.BundleName.bundle c.args.own.now c.loop-receipt.receipt-index _ c.requires.bundle c.requires.own c.loop-receipt-test.true) }

pub index_mut-requires : goal.index_mut-requires
index_mut-requires g c =
    let there : (slice_index_or c.args.own.now c.loop-receipt.receipt-index none).number < length g.M.BundleName.bundle.entries = number_is g.M.BundleName.bundle c.args.own.now c.loop-receipt.receipt-index none c.requires.own c.loop-receipt-test.true in
    let many : length c.loop-receipt.unmet.items ≡ length c.args.unmet.now.items = c.loop-receipt.invariant.1.as_many in
    let all : length c.args.unmet.now.items ≡ length g.M.BundleName.bundle.entries = c.requires.as_many in
    let fits : (slice_index_or c.args.own.now c.loop-receipt.receipt-index none).number < length c.loop-receipt.unmet.items = omega arith in
    search rules

pub offset_bounds-last-receipt-in-loop-receipt : goal.offset_bounds-last-receipt-in-loop-receipt
offset_bounds-last-receipt-in-loop-receipt g c = small _ (few g.M.BundleName.bundle c.args.own.now c.loop-receipt.receipt-index _ c.requires.bundle c.requires.own c.loop-receipt-test.true)

pub bounds-last-receipt-in-loop-receipt : goal.bounds-last-receipt-in-loop-receipt
bounds-last-receipt-in-loop-receipt g c = few g.M.BundleName.bundle c.args.own.now c.loop-receipt.receipt-index _ c.requires.bundle c.requires.own c.loop-receipt-test.true

pub loop-receipt-preserved : goal.loop-receipt-preserved
loop-receipt-preserved g c =
    let receipt : Receipt = slice_index_or c.args.own.now c.loop-receipt.receipt-index none in
    let inside = c.loop-receipt-test.true in
    let read = same_read c.args.own.now c.loop-receipt.receipt-index none receipt inside in
    let below = few g.M.BundleName.bundle c.args.own.now c.loop-receipt.receipt-index none c.requires.bundle c.requires.own inside in
    let many = c.loop-receipt.invariant.0.as_many in
    let run_inside : receipt.run < length c.loop-receipt.last = omega arith in
    let so_far : Option ℕ = slice_index_or c.loop-receipt.last receipt.run None in
    let next = last_next c.args.own.now c.loop-receipt.receipt-index receipt c.loop-receipt.last so_far c.later.result inside read run_inside (same_read c.loop-receipt.last receipt.run None so_far run_inside) c.later.ensures c.loop-receipt.invariant.0 in
    let so_far_read = same_read c.loop-receipt.last receipt.run None so_far run_inside in
    let number_there : receipt.number < length g.M.BundleName.bundle.entries = number_is g.M.BundleName.bundle c.args.own.now c.loop-receipt.receipt-index none c.requires.own inside in
    let as_many : length c.loop-receipt.unmet.items ≡ length c.args.unmet.now.items = c.loop-receipt.invariant.1.as_many in
    let all : length c.args.unmet.now.items ≡ length g.M.BundleName.bundle.entries = c.requires.as_many in
    let marked : AreMarked c.args.histories.now (take c.loop-receipt.receipt-index c.args.own.now) c.args.unmet.now.items c.loop-receipt.unmet.items = c.loop-receipt.invariant.1 in
    elim c.if-not-is_met.branch [
      | then-not-is_met w ↦
          let unmet : IsAt c.args.histories.now receipt × IsAfter so_far receipt.place → ⊥ = λ both. absurd (let no = w.if-not-is_met.ensures.1 both in cc) in (
            next,
            subst (λ (marks : Vec Bool Global). AreMarked c.args.histories.now (take (c.loop-receipt.receipt-index + 1) c.args.own.now) c.args.unmet.now.items marks.items) (sym w.unmet-is)
                (marked_unmet c.args.histories.now c.args.own.now c.loop-receipt.receipt-index receipt c.loop-receipt.last so_far c.args.unmet.now.items c.loop-receipt.unmet.items inside read run_inside so_far_read c.loop-receipt.invariant.0 unmet (omega arith) marked),
          )
      | else-not-is_met w ↦
          let met : IsAt c.args.histories.now receipt × IsAfter so_far receipt.place = w.if-not-is_met.ensures.0 refl in (
            next,
            subst (λ (marks : Vec Bool Global). AreMarked c.args.histories.now (take (c.loop-receipt.receipt-index + 1) c.args.own.now) c.args.unmet.now.items marks.items) (sym w.unmet-is)
                (marked_met c.args.histories.now c.args.own.now c.loop-receipt.receipt-index receipt c.loop-receipt.last so_far c.args.unmet.now.items c.loop-receipt.unmet.items inside read run_inside so_far_read c.loop-receipt.invariant.0 met marked),
          )
    ]

pub returns : goal.returns
returns g c = grind (arith, common_steps)
