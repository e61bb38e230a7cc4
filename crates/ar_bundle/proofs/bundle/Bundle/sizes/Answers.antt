use Rattle.std.proofs.Common.{rules, ◌≡◌, ◌∙◌, ap, subst, sym, arith}
use Rattle.ar_bundle.specs.Sound.{IsBundle}
use Rattle.ar_bundle.proofs.Sizes.{next_size}
use Rattle.ar_bundle.proofs.bundle.Bundle.sizes.Goals as goal

pub index_mut-requires : goal.index_mut-requires
index_mut-requires c =
    let is = subst IsBundle c.self.view_is c.self.invariant in
    let same : c.args.self.now.entries ≡ c.as_slice-entry-items.result.now = ap (λ b. b.entries) (sym c.self.view_is) ∙ sym c.as_slice-entry-items.ensures.value in
    let next = next_size c.args.self.now c.as_slice-entry-items.result.now c.loop-entry.entry-index c.entry-item.result c.loop-entry.sizes.items is same c.loop-entry-test.true c.entry-item.is c.loop-entry.invariant in
    search (rules, next)

pub overflow_add-index_mut : goal.overflow_add-index_mut
overflow_add-index_mut c =
    let is = subst IsBundle c.self.view_is c.self.invariant in
    let same : c.args.self.now.entries ≡ c.as_slice-entry-items.result.now = ap (λ b. b.entries) (sym c.self.view_is) ∙ sym c.as_slice-entry-items.ensures.value in
    let next = next_size c.args.self.now c.as_slice-entry-items.result.now c.loop-entry.entry-index c.entry-item.result c.loop-entry.sizes.items is same c.loop-entry-test.true c.entry-item.is c.loop-entry.invariant in
    let few = next.few c.index_mut.result.now in
    let read = c.index_mut.ensures.value in
    let events = is.few_events in
    omega arith

pub loop-entry-preserved : goal.loop-entry-preserved
loop-entry-preserved c =
    let is = subst IsBundle c.self.view_is c.self.invariant in
    let same : c.args.self.now.entries ≡ c.as_slice-entry-items.result.now = ap (λ b. b.entries) (sym c.self.view_is) ∙ sym c.as_slice-entry-items.ensures.value in
    let next = next_size c.args.self.now c.as_slice-entry-items.result.now c.loop-entry.entry-index c.entry-item.result c.loop-entry.sizes.items is same c.loop-entry-test.true c.entry-item.is c.loop-entry.invariant in
    let more = next.more c.index_mut.result.now in
    search (rules, more)
