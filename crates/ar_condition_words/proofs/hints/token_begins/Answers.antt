use Rattle.std.proofs.lemmas.Str.Pattern.{starts_text}
use Rattle.ar_condition_words.proofs.hints.token_begins.Goals as goal

pub returns : goal.returns
returns c = starts_text c.starts_with.result c.args.sign.now c.args.token.now c.starts_with.ensures.cases
