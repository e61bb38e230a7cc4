use Rattle.std.proofs.Common.{◌≡◌, ◌∙◌, ap, false, map, rules, subst, sym}
use Rattle.std.specs.List.{list_any}
use Rattle.serde_json.specs.Data.{null}
use Rattle.serde_json.specs.View.{view}
use Rattle.serde_json.specs.declared.value.Value.{Null, the_lemmas}
use Rattle.ar_document.specs.Unmeasured.{KeepsUnmeasured, is_unmeasured}
use Rattle.ar_document.proofs.Measuring.{if_ok}
use Rattle.ar_document.proofs.Lacking.{keeps_unmeasured, no_document, nothing_kept}
use Rattle.ar_document.proofs.unmeasured.read_unmeasured.Goals as goal

pub returns-then-not-are_unmeasured-clause-kept : goal.returns-then-not-are_unmeasured-clause-kept
returns-then-not-are_unmeasured-clause-kept c document is =
    let none : list_any is_unmeasured c.args.bundle.now.entries ≡ false = ap (list_any is_unmeasured) (sym c.entries-entries.ensures) ∙ sym c.if-not-are_unmeasured.ensures in
    let seen : view Null ≡ null = search (rules, the_lemmas) in
    subst (KeepsUnmeasured c.args.bundle.now document) (sym seen) (nothing_kept c.args.bundle.now document none)

pub returns-clause-kept : goal.returns-clause-kept
returns-clause-kept c =
    if_ok c.picked_of.result
    (λ kept has. keeps_unmeasured c.args.bundle.now c.args.input.now c.in_ok-text.text.now c.deref.result.now (view kept) c.in_ok-text.ensures.text (c.deref.ensures.value ∙ c.in_ok-picks.ensures ∙ ap (map is_unmeasured) c.entries-entries.ensures) c.in_ok-text.ensures.json has)
    c.picked_of.ensures.kept

pub returns-clause-refused : goal.returns-clause-refused
returns-clause-refused c = no_document c.args.input.now c.in_ok-text.text.now c.in_ok-text.ensures.text c.in_ok-text.ensures.json c.picked_of.result c.picked_of.ensures.refused
