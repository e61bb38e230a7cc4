use Rattle.std.proofs.lemmas.Str.Pattern.{ends_text}
use Rattle.ar_condition_words.proofs.hints.comes_after.Goals as goal

pub returns : goal.returns
returns c = ends_text c.ends_with.result c.args.sign.now c.args.before.now c.ends_with.ensures.cases
