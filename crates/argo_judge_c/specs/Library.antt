-- What a call of the library returns, and what it leaves in the caller's buffer.
use Rattle.std.specs.Prelude.{◌≡◌, ◌≢◌, ◌⊎◌, ℕ, ◌-◌, nat_eq, nat_lt, if◌then◌else◌, ◌++◌, codes, decimal, Option, Some, None, Ok}
use Rattle.ar_value.specs.Terms.{Bytes, Text}
use Rattle.ar_command_line.specs.declared.command_line.Command.{Command}
use Rattle.ar_command_line.specs.declared.command_line.Command.TheVariants.{Eval, Check, List, Plain, Explain}
use Rattle.ar_command_line.specs.declared.command_line.Format.{Format}
use Rattle.ar_command_line.specs.declared.command_line.Format.TheVariants as formats
use Rattle.ar_command_line.specs.declared.selection.Selection.TheVariants.{All}
use Rattle.ar_command.specs.Serving.{RefusesInput, Says, status_of}
use Rattle.ar_command.specs.declared.serving.Closing.{Closing}
use Rattle.ar_command.specs.declared.serving.Refusal.{Refusal}
use Rattle.ar_diagnostic.specs.Diagnostic.{expecting}
use Rattle.ar_diagnostic.specs.declared.diagnostic.Diagnostic.{Diagnostic}
use Rattle.ar_diagnostic.specs.declared.place.Place.TheVariants.{CommandNumber}
use Rattle.ar_refusal.specs.Refused.{IsRefusalText, IsWrittenAs}
use Rattle.argo_judge_c.specs.Buffers.{IsLeft, IsPut}

-- ---- commands

-- from here on numbers are those of commands whose answer is JSON
abbrev pub json : ℕ
json = 16

-- a list of code has no JSON
abbrev pub code_list_in : Format → Option Command
code_list_in formats.Text = Some List
code_list_in formats.Json = None

abbrev pub command_in : (number : ℕ) → Format → Option Command
command_in number format =
    if nat_eq number 0 then Some (Eval format)
    else if nat_eq number 1 then Some (Check format)
    else if nat_eq number 2 then code_list_in format
    else if nat_eq number 3 then Some (Plain format)
    else if nat_eq number 4 then Some (Explain All format)
    else None

-- the command of a number, if it has one
abbrev pub command_of : (number : ℕ) → Option Command
command_of number =
    if nat_lt number json then command_in number formats.Text else command_in (number - json) formats.Json

abbrev pub format_of_number : (number : ℕ) → Format
format_of_number number = if nat_lt number json then formats.Text else formats.Json

-- a number that no command has
abbrev pub unknown_diagnostic : (number : ℕ) → Diagnostic
unknown_diagnostic number =
    record (expecting CommandNumber (codes "Unknown") (codes "0 to 4, or 16, 17, 19 or 20 for JSON")) {
      found = Some (decimal number ++ codes " is no command");
    }

-- ---- answers

-- what the command says of an input, and the program's exit status
pub record IsSaid (command : Command) (input : Bytes) (text : Text) (status : ℕ) : Type 0 where
  pub closing : Closing
  pub says : Says command input text closing
  pub closes : status ≡ status_of (Ok closing)

-- the first fault of an input, as the program reports it
pub record IsRefusedInput (command : Command) (input : Bytes) (text : Text) (status : ℕ) : Type 0 where
  pub refusal : Refusal
  pub refuses : RefusesInput command input refusal
  pub reports : IsRefusalText command input refusal text
  pub closes : status ≡ 2

-- what a command says of an input, or why it is refused
abbrev pub IsSaidOrRefused : Command → (input : Bytes) (text : Text) (status : ℕ) → Type 0
IsSaidOrRefused command input text status = IsSaid command input text status ⊎ IsRefusedInput command input text status

-- the text of a number's command for an input, and its status
abbrev pub IsAnswer : (number : ℕ) → Option Command → (input : Bytes) (text : Text) (status : ℕ) → Type 0
IsAnswer number None input text status =
    IsWrittenAs (format_of_number number) (unknown_diagnostic number) text × (status ≡ 2)
IsAnswer number (Some command) input text status = IsSaidOrRefused command input text status

-- ---- a call

-- memory ran out, and nothing was put into the buffer
pub record IsOutOfMemory (before after : Bytes) (written : ℕ) : Type 0 where
  pub left : after ≡ before
  pub none : written ≡ 0

-- the answer is in the buffer
pub record IsAnswered (number : ℕ) (input before after : Bytes) (written status : ℕ) : Type 0 where
  pub text : Text
  pub answer : IsAnswer number (command_of number) input text status
  pub put : IsPut text before after written

-- the buffer is too small for the answer
pub record IsTooSmall (number : ℕ) (input before after : Bytes) (written : ℕ) : Type 0 where
  pub text : Text
  pub status : ℕ
  pub answer : IsAnswer number (command_of number) input text status
  pub left : IsLeft text before after written

-- a command was carried out on an input, with a buffer for the answer; memory may be refused to any call
pub record HasRun (number : ℕ) (input before after : Bytes) (written status : ℕ) : Type 0 where
  pub memory : status ≡ 3 → IsOutOfMemory before after written
  pub small : status ≡ 4 → IsTooSmall number input before after written
  pub answered : status ≢ 3 → status ≢ 4 → IsAnswered number input before after written status
