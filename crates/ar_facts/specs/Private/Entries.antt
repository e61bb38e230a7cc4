-- Entries of one run, with the facts of them.
use Rattle.std.specs.Prelude.{◌≡◌, List, map, Some}
use Rattle.std.specs.List.{AllByRecursion}
use Rattle.ar_bundle.specs.Bundle.{Bundle, finding_at}
use Rattle.ar_bundle.specs.declared.history.Entry.{Entry}
use Rattle.ar_facts.specs.Facts.{EventFacts, event_facts}

abbrev pub AreFound : Bundle → List Entry → Type 0
AreFound bundle entries = AllByRecursion (λ entry. finding_at bundle entry.number ≡ Some entry.finding) entries

abbrev pub facts_of_entries : Bundle → List Entry → List EventFacts
facts_of_entries bundle entries = map (λ (entry : Entry). event_facts bundle entry.number entry.effect) entries
