use Rattle.std.proofs.Common.{arith, ◌∷◌, [], map, take, ap, sym, ◌∙◌}
use Rattle.std.proofs.lemmas.Grind.{common_steps}
use Rattle.std.proofs.lemmas.List.{map-append}
use Rattle.ar_document.specs.Unmeasured.{is_unmeasured}
use Rattle.ar_document.proofs.Growing.{taken_next}
use Rattle.ar_document.proofs.unmeasured.unmeasured_among.Goals as goal

pub loop-entry-preserved : goal.loop-entry-preserved
loop-entry-preserved c =
    let entries = c.args.entries.now in
    let taken = ap (map is_unmeasured) (taken_next entries c.loop-entry.entry-index c.entry-item.result c.loop-entry-test.true c.entry-item.is) ∙ map-append is_unmeasured (take c.loop-entry.entry-index entries) (c.entry-item.result ∷ []) in
    c.in_ok-try_push.ensures ∙ rw (c.loop-entry.invariant, c.is_unmeasured.ensures) (sym taken)

pub returns : goal.returns
returns c = grind (arith, common_steps)
