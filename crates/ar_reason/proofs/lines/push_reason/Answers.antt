use Rattle.std.proofs.Common.{rules, ◌≡◌, ◌++◌, ◌∙◌, ap, string_bytes, subst}
use Rattle.std.specs.Prelude.{slice_index_or}
use Rattle.serde_json.specs.View.{view}
use Rattle.ar_facts.proofs.Lines.{found_inside, on_ok}
use Rattle.ar_reason.specs.ReasonText.{given_line, no_condition_line}
use Rattle.ar_reason.proofs.Events.{reason_written}
use Rattle.ar_reason.proofs.lines.push_reason.Goals as goal

pub returns : goal.returns
returns c =
    let read = subst (λ entries. c.index-entries-number.result ≡ slice_index_or entries c.args.step.entry.number c.index-entries-number.result) c.entries.ensures c.index-entries-number.is in
    let given = c.in_ok-push_given.ensures ∙ ap (λ given. string_bytes c.put_event.new.out ++ given_line given) c.in_ok-given.ensures in
    let noted = c.in_ok-push_no_condition.ensures ∙ ap (λ lacks. string_bytes c.push_evaluated.new.out ++ no_condition_line lacks) c.lacks_conditions.ensures in
    on_ok c.push_outcome.result
    (reason_written (view c.args.document.now) c.args.bundle.now c.args.run c.args.step c.index-entries-number.result (string_bytes c.args.out.now) (string_bytes c.put_event.new.out) (string_bytes c.push_given.new.out) (string_bytes c.push_evaluated.new.out) (string_bytes c.push_no_condition.new.out) (string_bytes c.push_outcome.new.out) c.requires.found read c.in_ok-put_event.ensures given c.in_ok-push_evaluated.ensures noted)
    c.push_outcome.ensures

pub offset_bounds-entries-number : goal.offset_bounds-entries-number
offset_bounds-entries-number c = search (rules, found_inside)

pub bounds-entries-number : goal.bounds-entries-number
bounds-entries-number c = search (rules, found_inside)
