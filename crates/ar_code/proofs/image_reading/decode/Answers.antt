use Rattle.std.proofs.Common.{◌≡◌, Result, Ok, Err, ap, subst, ◌∙◌}
use Rattle.std.specs.Prelude.{IfOk, List, ℕ}
use Rattle.ar_value.specs.Answer.{Gives}
use Rattle.ar_op.specs.Code.{Code}
use Rattle.ar_code.specs.Decoding.{decoded, is_memory}
use Rattle.ar_code.specs.Image.{image}
use Rattle.ar_code.specs.declared.error.ImageError.{ImageError}
use Rattle.ar_code.proofs.Again.{image_again}
use Rattle.ar_code.proofs.Readings.{is_image}
use Rattle.ar_code.proofs.image_reading.decode.Goals as goal

accepted : (bytes : List ℕ) (result : Result Code ImageError) → Gives is_memory (λ code. code) result (decoded bytes) → IfOk result (λ code. bytes ≡ image code)
accepted bytes (Ok code) exact = is_image bytes code exact
accepted bytes (Err error) exact = tt

pub returns-clause-image : goal.returns-clause-image
returns-clause-image c = accepted c.args.bytes.now c.whole_code.result c.whole_code.ensures

pub returns-clause-only : goal.returns-clause-only
returns-clause-only c = λ code writable is.
    subst (λ (answer : Result Code ImageError). Gives is_memory (λ read. read) c.whole_code.result answer) (ap decoded is ∙ image_again code writable) c.whole_code.ensures
