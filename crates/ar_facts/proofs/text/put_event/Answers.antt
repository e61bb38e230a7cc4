use Rattle.std.proofs.Common.{rules, ◌≡◌, ◌++◌, codes, decimal, string_bytes, subst, sym}
use Rattle.ar_facts.proofs.Lines.{found_inside, facts_found_are, on_ok, three}
use Rattle.std.specs.Prelude.{slice_index_or}
use Rattle.ar_facts.specs.Names.{effect_text}
use Rattle.ar_facts.specs.Facts.{facts_found}
use Rattle.ar_facts.specs.Report.{finding_text, printed_finding}
use Rattle.ar_facts.proofs.text.put_event.Goals as goal

pub returns : goal.returns
returns c =
    let read = subst (λ entries. c.index-entries-entry.result ≡ slice_index_or entries c.args.entry.number c.index-entries-entry.result) c.entries.ensures c.index-entries-entry.is in
    let text = facts_found_are c.args.bundle.now c.args.entry.number c.index-entries-entry.result c.args.entry.finding c.requires read in
    let found : string_bytes c.put_finding.new.out ≡ string_bytes c.put_event_number.new.out ++ finding_text (printed_finding c.args.naming (facts_found c.args.bundle.now c.args.entry.number)) = search (rules, sym text, c.in_ok-put_finding.ensures, c.metrics.ensures) in
    on_ok c.put_event_effect.result
    (three (string_bytes c.args.out.now) (string_bytes c.put_event_number.new.out) (string_bytes c.put_finding.new.out) (string_bytes c.put_event_effect.new.out)
    (codes "event " ++ (decimal c.args.entry.number ++ codes " ")) (finding_text (printed_finding c.args.naming (facts_found c.args.bundle.now c.args.entry.number))) (codes " " ++ (effect_text c.args.entry.effect ++ codes "\n"))
    c.in_ok-put_event_number.ensures found)
    c.put_event_effect.ensures

pub offset_bounds-entries-entry : goal.offset_bounds-entries-entry
offset_bounds-entries-entry c = search (rules, found_inside)

pub bounds-entries-entry : goal.bounds-entries-entry
bounds-entries-entry c = search (rules, found_inside)
