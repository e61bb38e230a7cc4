-- Values of numbers' texts.
use Rattle.std.proofs.Common.{◌≡◌, Bool, false, Option, Some, None, option_and_then, option_map, Result, Ok, Err, refl, subst}
use Rattle.std.specs.Prelude.{ℤ}
use Rattle.serde_json.specs.Data.{Data, Num, number}
use Rattle.serde_json.specs.Find.{as_integer}
use Rattle.ar_value.specs.Answer.{Gives}
use Rattle.ar_value.specs.Shape.{Shape, decimal, whole}
use Rattle.ar_value.specs.Value.{Value}
use Rattle.ar_value.specs.View.{value_view}
use Rattle.ar_value.specs.declared.value.Value.{Value as ValueCode}
use Rattle.ar_json.specs.Reading.{read, read_whole, whole_as_millionths}
use Rattle.ar_json.specs.declared.value_reading.ShapeFault.{ShapeFault}
use Rattle.ar_json.specs.declared.value_reading.ShapeFault.TheVariants.{FloatNumber}
use Rattle.ar_measured.specs.Private.Measuring.{IsMeasured}

-- No number takes memory.
abbrev takes_none : ShapeFault → Bool
takes_none fault = false

-- what is read of a number's integer, of which a float has none, is what is read of the number
by_integer : (reads : Option ℤ → Result Value ShapeFault) (shape : Shape) → ((n : Num) → read shape (number n) ≡ reads (as_integer n)) → reads None ≡ Err FloatNumber
    → (o : Option Num) (r : Result ValueCode ShapeFault) → Gives takes_none value_view r (reads (option_and_then as_integer o))
    → IsMeasured takes_none value_view r (option_map (λ (d : Data). read shape d) (option_map number o))
by_integer reads shape same float (Some n) (Ok x) gives = by_some (same n) gives
  where
    by_some : read shape (number n) ≡ reads (as_integer n) → reads (as_integer n) ≡ Ok (value_view x) → ◌≡◌ {A = Option (Result Value ShapeFault)} (Some (read shape (number n))) (Some (Ok (value_view x)))
    by_some is read_is = rw (is, read_is) refl
by_integer reads shape same float (Some n) (Err e) gives = rw (same n) gives
by_integer reads shape same float None (Ok x) gives = absurd (cc)
by_integer reads shape same float None (Err e) gives = tt

pub whole_read : (o : Option Num) (integer : Option ℤ) (r : Result ValueCode ShapeFault) → integer ≡ option_and_then as_integer o → Gives takes_none value_view r (read_whole integer)
    → IsMeasured takes_none value_view r (option_map (λ (d : Data). read whole d) (option_map number o))
whole_read o integer r is gives =
    by_integer read_whole whole (λ n. refl) refl o r (subst (λ (found : Option ℤ). Gives takes_none value_view r (read_whole found)) is gives)

pub decimal_read : (o : Option Num) (integer : Option ℤ) (r : Result ValueCode ShapeFault) → integer ≡ option_and_then as_integer o → Gives takes_none value_view r (whole_as_millionths integer)
    → IsMeasured takes_none value_view r (option_map (λ (d : Data). read decimal d) (option_map number o))
decimal_read o integer r is gives =
    by_integer whole_as_millionths decimal (λ n. refl) refl o r (subst (λ (found : Option ℤ). Gives takes_none value_view r (whole_as_millionths found)) is gives)
