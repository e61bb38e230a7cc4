-- What came of parts in memory.
use Rattle.std.specs.Prelude.{◌≡◌, string_bytes, IfOk, Option, None, option_map, Result, Ok, Err}
use Rattle.ar_value.specs.Operators.{Failure, Meaning}
use Rattle.ar_value.specs.Terms.{Text}
use Rattle.ar_value.specs.Value.{Value}
use Rattle.ar_operand.specs.Failures.{failure_of}
use Rattle.ar_operand.specs.Operand.{operand_view}
use Rattle.ar_apart.specs.Apart.{Apart}
use Rattle.ar_apart.specs.Views.{texts_apart}
use Rattle.ar_explain.specs.declared.applied.Found.{Found as FoundCode}
use Rattle.ar_explain.specs.declared.failed.Failed.{Failed as FailedCode}

-- on which operands a failure arises
abbrev pub on_of : FailedCode → Option Text
on_of failed = option_map string_bytes failed.on

-- What a helper gave, seen by a view, is what is meant, and so is why it gave nothing, on these operands.
abbrev pub MeetsOn : {X Y : Type 0} → (X → Y) → Result X FailedCode → Result Y Failure → Option Text → Type 0
MeetsOn view (Ok x) meaning on = meaning ≡ Ok (view x)
MeetsOn view (Err failed) meaning on = (meaning ≡ Err (failure_of failed.failure)) × (on_of failed ≡ on)

-- ---- parts

abbrev pub found_view : FoundCode → Value
found_view found = operand_view found.operand

-- The same of what came of a part, and where its operands are texts that are shown alike, they are apart so.
abbrev pub ComesTo : Result FoundCode FailedCode → Meaning → Option Text → Option Apart → Type 0
ComesTo met meaning on apart = MeetsOn found_view met meaning on × IfOk met (λ found. texts_apart found.texts ≡ apart)

-- what was met, as a meaning, a text and how operands are apart
abbrev pub came : {X Y : Type 0} → (X → Y) → Result X FailedCode → Result Y Failure
came view (Ok x) = Ok (view x)
came view (Err failed) = Err (failure_of failed.failure)

abbrev pub came_on : {X : Type 0} → Result X FailedCode → Option Text
came_on (Ok x) = None
came_on (Err failed) = on_of failed

abbrev pub came_apart : Result FoundCode FailedCode → Option Apart
came_apart (Ok found) = texts_apart found.texts
came_apart (Err failed) = None
