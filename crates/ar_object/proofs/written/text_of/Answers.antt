use Rattle.std.proofs.Common.{◌∙◌, ◌++◌, sym, ap, subst}
use Rattle.std.specs.Str.{IsUtf8}
use Rattle.json.specs.Print.{print}
use Rattle.ar_object.proofs.written.text_of.Goals as goal

pub unwrap-requires : goal.unwrap-requires
unwrap-requires c =
    let whole = c.into_inner.ensures.items ∙ ap (λ before. before ++ print c.args.writer.tokens) c.requires in
    c.from_utf8.ensures.succeeds (subst IsUtf8 (sym whole) c.into_inner.ensures.utf8)
