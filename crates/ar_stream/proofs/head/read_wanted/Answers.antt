use Rattle.std.proofs.Common.{◌≡◌, None, sym, ap, ◌∙◌, rules}
use Rattle.serde_json.specs.Data.{null}
use Rattle.serde_json.specs.Find.{get}
use Rattle.serde_json.specs.View.{view}
use Rattle.serde_json.specs.declared.value.Value.{Null, the_lemmas}
use Rattle.ar_stream.specs.Private.Keeping.{kept_at}
use Rattle.ar_stream.proofs.Kept.{nothing_kept}
use Rattle.ar_stream.proofs.Whole.{no_member_of}
use Rattle.ar_stream.proofs.head.read_wanted.Goals as goal

pub returns-clause-kept : goal.returns-clause-kept
returns-clause-kept c =
    let good = c.in_ok-check_text.ensures.good in
    let none : c.in_ok-kept.field-0 ≡ None = search rules in
    let seen : view Null ≡ null = search (rules, the_lemmas) in
    record {
      document = good.0;
      is_read = good.1;
      keeps = λ name. ap (get name) seen
          ∙ sym (ap (kept_at c.args.wanted.now name) (no_member_of c.args.text.now good.0 name (c.in_ok-kept.ensures.other none) good.1) ∙ nothing_kept c.args.wanted.now name);
    }
