-- What a value that is no member's is refused for.
use Rattle.std.proofs.Common.{◌≡◌, true, Result}
use Rattle.ar_value.specs.Answer.{Gives}
use Rattle.ar_value.specs.Shape.{Shape}
use Rattle.ar_value.specs.Shape as shapes
use Rattle.ar_value.specs.Value.{Value}
use Rattle.ar_value.specs.View.{value_view}
use Rattle.ar_value.specs.declared.value.Value.{Value as ValueCode}
use Rattle.ar_value.proofs.Answers.{gives_more}
use Rattle.ar_json.specs.Reading.{is_reading_memory, is_memory_under}
use Rattle.ar_json.specs.declared.value_reading.ShapeFault.{ShapeFault}

-- what may be out of memory under some shape is out of memory
under_is_memory : (shape : Shape) (fault : ShapeFault) → is_memory_under shape fault ≡ true → is_reading_memory fault ≡ true
under_is_memory shapes.bool fault h = absurd (cc)
under_is_memory shapes.whole fault h = absurd (cc)
under_is_memory shapes.decimal fault h = absurd (cc)
under_is_memory shapes.text fault h = h
under_is_memory (shapes.list item max) fault h = h
under_is_memory (shapes.object of) fault h = h
under_is_memory (shapes.optional shape) fault h = under_is_memory shape fault h

pub gives_any : (shape : Shape) (r : Result ValueCode ShapeFault) (answer : Result Value ShapeFault) → Gives (is_memory_under shape) value_view r answer → Gives is_reading_memory value_view r answer
gives_any shape r answer h = gives_more (is_memory_under shape) is_reading_memory value_view r answer (under_is_memory shape) h
