use Rattle.std.proofs.Common.{arith, refl}
use Rattle.ar_json.specs.declared.document.JsonError.TheVariants.{TooLarge, Utf8OrJson}
use Rattle.ar_document.proofs.Inputs.{no_text, of_text, refused, too_large}
use Rattle.ar_document.proofs.bundle.text_of.Goals as goal

pub returns-then-input-gt-MOST_BYTES-clause-refused : goal.returns-then-input-gt-MOST_BYTES-clause-refused
returns-then-input-gt-MOST_BYTES-clause-refused c = refused c.args.input.now TooLarge (too_large c.args.input.now (omega arith))

pub returns-in-Ok-clause-json : goal.returns-in-Ok-clause-json
returns-in-Ok-clause-json c = of_text c.args.input.now (omega arith) c.in-Ok.ensures.1

pub returns-in-Err-clause-refused : goal.returns-in-Err-clause-refused
returns-in-Err-clause-refused c = refused c.args.input.now Utf8OrJson (no_text c.args.input.now (omega arith) c.in-Err.ensures)

pub returns-then-input-gt-MOST_BYTES-clause-none : goal.returns-then-input-gt-MOST_BYTES-clause-none
returns-then-input-gt-MOST_BYTES-clause-none c = record { cause = TooLarge; is_none = too_large c.args.input.now (omega arith); named = refl }

pub returns-in-Err-clause-none : goal.returns-in-Err-clause-none
returns-in-Err-clause-none c = record { cause = Utf8OrJson; is_none = no_text c.args.input.now (omega arith) c.in-Err.ensures; named = refl }
