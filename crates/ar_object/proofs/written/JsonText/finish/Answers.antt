use Rattle.std.proofs.Common.{◌≡◌}
use Rattle.std.proofs.lemmas.Result.{IfOk-at_ok}
use Rattle.json.specs.Written.{Written}
use Rattle.ar_object.proofs.Texts.{line_is}
use Rattle.ar_object.proofs.written.JsonText.finish.Goals as goal
use Rattle.ar_object.specs.Written.{value_tokens}

pub returns : goal.returns
returns c = λ value has flat.
    let are = IfOk-at_ok (λ (written : Written). written.tokens ≡ value_tokens value) c.in_ok-written.was has.tokens_are in
    line_is value _ _ _ are has.reads_back flat c.text_of-text.ensures.reads_back c.text_of-text.ensures.text c.in_ok-push_str.ensures.bytes
