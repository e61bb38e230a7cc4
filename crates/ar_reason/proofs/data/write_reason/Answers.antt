use Rattle.std.proofs.Common.{◌≡◌, rules, subst}
use Rattle.std.specs.Prelude.{slice_index_or}
use Rattle.serde_json.specs.View.{view}
use Rattle.ar_facts.proofs.Lines.{found_inside}
use Rattle.ar_reason.proofs.Events.{reason_is}
use Rattle.ar_reason.proofs.data.write_reason.Goals as goal

pub returns : goal.returns
returns c =
    let read = subst (λ entries. c.index-entries-number.result ≡ slice_index_or entries c.args.step.entry.number c.index-entries-number.result) c.entries.ensures c.index-entries-number.is in
    rw (reason_is (view c.args.document.now) c.args.bundle.now c.args.run c.args.step c.index-entries-number.result c.requires.found read, ← c.in_ok-given.ensures) c.write_reason_of.ensures

pub offset_bounds-entries-number : goal.offset_bounds-entries-number
offset_bounds-entries-number c = search (rules, found_inside)

pub bounds-entries-number : goal.bounds-entries-number
bounds-entries-number c = search (rules, found_inside)
