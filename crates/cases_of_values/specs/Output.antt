-- What is written of an answer, piece by piece, while memory lasts.
use Rattle.std.specs.Global.{Global}
use Rattle.std.specs.Prelude.{◌≡◌, ℕ, Bool, false, true, List, ◌++◌, String, string_bytes, Result, Ok, Err, ⊤}
use Rattle.cases_of_values.specs.declared.fault.CaseFault.{CaseFault}
use Rattle.cases_of_values.specs.declared.fault.CaseFault.TheVariants.{OutOfMemory}
use Rattle.cases_of_values.specs.declared.output.Output.{Output}

-- all pieces are there, and they make the text
abbrev pub Holds : Output → (text : List ℕ) → Type 0
Holds output text = (output.is_whole ≡ true) × (string_bytes output.text ≡ text)

-- where all pieces are there afterwards, they were before, and one more comes after them
abbrev pub Writes : (earlier later : Output) → (text : List ℕ) → Type 0
Writes earlier later text = later.is_whole ≡ true
    → (earlier.is_whole ≡ true) × (string_bytes later.text ≡ string_bytes earlier.text ++ text)

-- the same, with some text
abbrev pub Extends : (earlier later : Output) → Type 0
Extends earlier later = later.is_whole ≡ true
    → (earlier.is_whole ≡ true) × ((text : List ℕ) × (string_bytes later.text ≡ string_bytes earlier.text ++ text))

-- a piece is missing
abbrev pub IsLost : Output → Type 0
IsLost output = output.is_whole ≡ false

-- what is given of a text of which all pieces are there, or not: out of memory takes precedence over what is refused
abbrev pub given_if_whole : {A : Type 0} → (is_whole : Bool) → (text : A) → (written : Result ⊤ CaseFault)
    → Result A CaseFault
given_if_whole false text written = Err OutOfMemory
given_if_whole true text (Ok written) = Ok text
given_if_whole true text (Err fault) = Err fault

-- what is given of it in the end
abbrev pub given_of : (output : Output) → (written : Result ⊤ CaseFault) → Result (String Global) CaseFault
given_of output written = given_if_whole output.is_whole output.text written
