-- Devices: a reader or a writer, and whether it failed.
use Rattle.std.specs.Prelude.{◌≡◌, ℕ, Bool, List, Option, None, Some, Result, Ok, Err, is_some}
use Rattle.std.specs.declared.io.Error.{Error}
use Rattle.ar_command_line.specs.Retrying.{ResultsIn, Retries}
use Rattle.ar_command_line.specs.declared.device.Device.{Device}
use Rattle.ar_command_line.specs.declared.stream.DeviceFault.{DeviceFault}

-- the reader or the writer
abbrev pub inner_of : {T : Type 0} → Device T → T
inner_of device = device.inner

-- the first fault that it met
abbrev pub fault_of : {T : Type 0} → Device T → Option Error
fault_of device = device.fault

-- it met a fault
abbrev pub has_failed : {T : Type 0} → Device T → Bool
has_failed device = is_some device.fault

-- a fault is kept where there is none yet
abbrev pub or_first : Option Error → Error → Option Error
or_first None fault = Some fault
or_first (Some first) fault = Some first

-- the first fault, after one more result
abbrev pub first_fault : {A : Type 0} → Option Error → Result A Error → Option Error
first_fault first (Ok value) = first
first_fault first (Err fault) = or_first first fault

-- a result, with the mere fact of a fault instead of its words
abbrev pub answer_of : {A : Type 0} → Result A Error → Result A DeviceFault
answer_of (Ok value) = Ok value
answer_of (Err fault) = Err (record {})

-- a device returned an outcome, and kept its fault where it is the first
pub record Returns {T A : Type 0} (before after : Device T) (outcome : Result A Error)
    (result : Result A DeviceFault) : Type 0 where
  pub returned : result ≡ answer_of outcome
  pub kept : fault_of after ≡ first_fault (fault_of before) outcome

-- a call of a device returned what its reader or writer answered, which was asked again where a signal interrupted it
pub record HandsOn {T A : Type 0} (answers : T → Option (List (Result A Error))) (before after : Device T)
    (result : Result A DeviceFault) : Type 0 where
  pub answer : Result A Error
  pub retried : Retries (answers (inner_of before)) (answers (inner_of after)) answer
  pub returns : Returns before after answer result

-- the same of a write
pub record HandsOnWrite {T : Type 0} (answers : T → Option (List (Result ℕ Error))) (bytes : List ℕ)
    (before after : Device T) (result : Result ℕ DeviceFault) : Type 0 where
  pub answer : Result ℕ Error
  pub retried : Retries (answers (inner_of before)) (answers (inner_of after)) answer
  pub outcome : Result ℕ Error
  pub results : ResultsIn bytes answer outcome
  pub returns : Returns before after outcome result
