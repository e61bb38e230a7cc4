use Rattle.std.proofs.Common.{◌≡◌, ◌∷◌, ◌∙◌, map, refl, sym, subst}
use Rattle.std.specs.Prelude.{codes}
use Rattle.json.specs.Lex.{tokens}
use Rattle.json.specs.Token.{Token}
use Rattle.serde_json.specs.Data.{Data}
use Rattle.ar_value.specs.Answer.{Gives}
use Rattle.ar_stream.specs.Passing.{BeginsNoObject}
use Rattle.ar_stream.proofs.Whole.{no_member_of, no_object_read}
use Rattle.ar_document.specs.Document.{is_bundle_memory}
use Rattle.ar_document.specs.Entries.{entries_in, entry_view}
use Rattle.ar_document.specs.Private.Opened.{opened_view}
use Rattle.ar_document.proofs.Measuring.{document_read, of_object, of_other}
use Rattle.ar_document.proofs.measurements.read_entries.Goals as goal

pub returns-then-not-enter_object-clause-exact : goal.returns-then-not-enter_object-clause-exact
returns-then-not-enter_object-clause-exact c document is =
    let other : BeginsNoObject (tokens c.args.text.now) = rw c.in_ok-reader.ensures.ok at (c.if-not-enter_object.ensures.other refl).0 in
    of_other c.args.opened.now c.new-then-not-enter_object.result document c.new-then-not-enter_object.ensures.items (no_member_of c.args.text.now document (codes "measurements") other is)

pub returns-in-Ok-clause-exact : goal.returns-in-Ok-clause-exact
returns-in-Ok-clause-exact c document is =
    let first : tokens c.args.text.now ≡ Token.begin_object ∷ c.enter_object.new.reader = sym c.in_ok-reader.ensures.ok ∙ c.if-not-enter_object.ensures.object refl in
    let read = document_read c.args.text.now document c.enter_object.new.reader _ c.in-Ok.entries c.args.opened.now first is c.in-Ok.ensures.read in
    subst (λ (document : Data). Gives is_bundle_memory (λ entries. map entry_view entries.items) c.in-Ok.entries (entries_in (opened_view c.args.opened.now) document)) (sym read.1) (of_object c.args.opened.now read.0 c.in-Ok.entries read.2)

pub returns-in-Err-NotJson-clause-exact : goal.returns-in-Err-NotJson-clause-exact
returns-in-Err-NotJson-clause-exact c document is =
    let first : tokens c.args.text.now ≡ Token.begin_object ∷ c.enter_object.new.reader = sym c.in_ok-reader.ensures.ok ∙ c.if-not-enter_object.ensures.object refl in
    absurd (no_object_read c.args.text.now document c.enter_object.new.reader first (rw c.in-Err-NotJson.field-0-is at c.in-Err-NotJson.ensures.refused) is)

pub returns-in-Ok-clause-fit : goal.returns-in-Ok-clause-fit
returns-in-Ok-clause-fit c =
    let document = c.requires.document in
    let first : tokens c.args.text.now ≡ Token.begin_object ∷ c.enter_object.new.reader = sym c.in_ok-reader.ensures.ok ∙ c.if-not-enter_object.ensures.object refl in
    (document_read c.args.text.now document.0 c.enter_object.new.reader _ c.in-Ok.entries c.args.opened.now first document.1 c.in-Ok.ensures.read).2.fit
