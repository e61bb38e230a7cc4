use Rattle.std.proofs.Common.{Result, subst}
use Rattle.std.specs.Prelude.{codes}
use Rattle.serde_json.specs.Find.{get}
use Rattle.ar_value.specs.Answer.{Gives}
use Rattle.ar_document.specs.Document.{is_bundle_memory}
use Rattle.ar_document.specs.Entries.{Entry, entry_view}
use Rattle.ar_document.specs.Private.Opened.{opened_view}
use Rattle.ar_document.specs.declared.error.BundleError.{BundleError}
use Rattle.ar_document.proofs.Saying.{entry_same}
use Rattle.ar_document.proofs.entries.entry_of.Goals as goal

pub returns-clause-exact : goal.returns-clause-exact
returns-clause-exact c earlier many made is =
    subst (λ (answer : Result Entry BundleError). Gives is_bundle_memory entry_view c.entry_saying.result answer)
    (entry_same (opened_view c.args.opened.now) c.args.number earlier made _ many (c.stated_by.ensures.says made is))
    (c.entry_saying.ensures.exact (get (codes "value") made) (c.stated_by.ensures.value made is))
