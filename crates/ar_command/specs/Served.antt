-- What carrying out a command on a reader and a writer returns.
use Rattle.std.specs.Prelude.{◌≡◌, ◌≢◌, ◌⊎◌, ℕ, Bool, true, List, Option, Result, Err, IfOk, IfErr, IfSome}
use Rattle.std.specs.Io.KnownBytes.{Appends}
use Rattle.ar_value.specs.Terms.{Bytes, Text}
use Rattle.ar_command_line.specs.History.{GrowsAtMost}
use Rattle.ar_command_line.specs.Input.{ReadsUpToLimit, most_reads}
use Rattle.ar_command_line.specs.Output.{AppendsAll, Call}
use Rattle.ar_command_line.specs.declared.command_line.Command.{Command}
use Rattle.ar_workers.specs.declared.error.WorkError.{WorkError}
use Rattle.ar_command.specs.Warned.{Warns, WarnsOnce}
use Rattle.ar_command.specs.Serving.{IsCarriedOut, IsCut, RefusesTaken, RefusesInput, Says, WritesFront}
use Rattle.ar_command.specs.declared.serving.Closing.{Closing}
use Rattle.ar_command.specs.declared.serving.Kept.{Kept}
use Rattle.ar_command.specs.declared.serving.Refusal.{Refusal}
use Rattle.ar_command.specs.declared.serving.ServeError.{ServeError}
use Rattle.ar_command.specs.declared.serving.ServeError.TheVariants.{OutOfMemory, Read, Refused, Work, Write}

-- A command was served, from one reader to one writer. Of the reader it is asked which bytes were taken, which are
-- still to come if they are known, how many reads were made, and whether one failed; of the writer which bytes were
-- written, which calls it answered, and whether one failed.
pub record Served {R W : Type 0} (command : Command) (taken remaining : R → Option (List ℕ)) (reads : R → Option ℕ)
    (read_failed : R → Bool) (reader later_reader : R)
    (contents : W → Option (List ℕ)) (calls : W → Option (List Call)) (write_failed : W → Bool)
    (writer later_writer : W) (result : Result Closing ServeError) : Type 0 where
  -- what is written, and then flushed, is what the command says of the bytes that were taken, and the closing is the
  -- one that belongs to it
  pub written : IfOk result
      (IsCarriedOut command (taken reader) (taken later_reader) contents calls writer later_writer)
  -- the same of all bytes of a reader whose bytes are known
  pub written_of_known : IfOk result
      (λ closing. IfSome (remaining reader)
      (λ input. (text : Text) × Says command input text closing
      × AppendsAll contents calls writer later_writer text))
  -- a refusal is the first fault of the bytes that were taken,
  pub refused : (refusal : Refusal) → result ≡ Err (Refused refusal)
      → RefusesTaken command (taken reader) (taken later_reader) refusal
  -- and of all bytes where they are known
  pub refused_of_known : (refusal : Refusal) → result ≡ Err (Refused refusal)
      → IfSome (remaining reader) (λ input. RefusesInput command input refusal)
  -- the reader is read at most this often
  pub counts : GrowsAtMost (reads reader) (reads later_reader) most_reads
  -- `Read` is returned exactly where a read failed
  pub read : result ≡ Err Read → read_failed later_reader ≡ true
  pub read_reported : read_failed later_reader ≡ true → result ≡ Err Read
  -- and `Write` exactly where a write or the flush failed
  pub write : result ≡ Err Write → write_failed later_writer ≡ true
  pub write_reported : write_failed later_writer ≡ true → result ≡ Err Write
  -- what a failed write leaves written is a front of what the command says of the bytes that were taken, and where the
  -- flush failed all of it,
  pub cut : result ≡ Err Write → IsCut command (taken reader) (taken later_reader) contents calls writer later_writer
  -- and of all bytes where they are known
  pub cut_of_known : result ≡ Err Write
      → IfSome (remaining reader) (WritesFront command contents calls writer later_writer)
  -- of all errors, only `Write` leaves anything written
  pub silent : IfErr result (λ error. error ≢ Write → later_writer ≡ writer)

-- A command was carried out on an input that was read before, and its answer written to one writer.
pub record ServedInput {W : Type 0} (command : Command) (input : Bytes)
    (contents : W → Option (List ℕ)) (calls : W → Option (List Call)) (write_failed : W → Bool)
    (writer later_writer : W) (result : Result Closing ServeError) : Type 0 where
  -- what is written, and then flushed, is what the command says of the input, and the closing is the one that belongs
  -- to it
  pub written : IfOk result (λ closing. (text : Text) × Says command input text closing
      × AppendsAll contents calls writer later_writer text)
  -- a refusal is the first fault of the input
  pub refused : (refusal : Refusal) → result ≡ Err (Refused refusal) → RefusesInput command input refusal
  -- nothing is read
  pub no_read : result ≢ Err Read
  -- `Write` is returned exactly where a write or the flush failed
  pub write : result ≡ Err Write → write_failed later_writer ≡ true
  pub write_reported : write_failed later_writer ≡ true → result ≡ Err Write
  -- what a failed write leaves written is a front of what the command says, and where the flush failed all of it
  pub cut : result ≡ Err Write → WritesFront command contents calls writer later_writer input
  -- of all errors, only `Write` leaves anything written
  pub silent : IfErr result (λ error. error ≢ Write → later_writer ≡ writer)

-- The input was read and is kept: it is what was taken of the reader, up to a limit all of it, and the command was
-- carried out on it.
pub record KeepsRead {R W : Type 0} (command : Command) (taken remaining : R → Option (List ℕ))
    (reader later_reader : R)
    (contents : W → Option (List ℕ)) (calls : W → Option (List Call)) (write_failed : W → Bool)
    (writer later_writer : W) (input : Bytes) (result : Result Closing ServeError) : Type 0 where
  pub took : Appends (taken reader) (taken later_reader) input
  pub whole : ReadsUpToLimit (remaining reader) (remaining later_reader) input
  pub served : ServedInput command input contents calls write_failed writer later_writer result

-- The input could not be read: what was kept before stays.
pub record KeepsEarlier (input later_input : Bytes) (result : Result Closing ServeError) : Type 0 where
  pub cause : (result ≡ Err Read) ⊎ (result ≡ Err OutOfMemory)
  pub stays : later_input ≡ input

-- A command was served, and what is kept of it are its input and its warnings.
pub record ServedKeeping {R W : Type 0} (command : Command) (taken remaining : R → Option (List ℕ))
    (reads : R → Option ℕ) (read_failed : R → Bool) (reader later_reader : R)
    (contents : W → Option (List ℕ)) (calls : W → Option (List Call)) (write_failed : W → Bool)
    (writer later_writer : W) (kept later_kept : Kept) (result : Result Closing ServeError) : Type 0 where
  pub served : Served command taken remaining reads read_failed reader later_reader contents calls write_failed writer
      later_writer result
  pub keeps : KeepsRead command taken remaining reader later_reader contents calls write_failed writer later_writer
      later_kept.input.items result ⊎ KeepsEarlier kept.input.items later_kept.input.items result
  pub warns : WarnsOnce result kept.warnings.items later_kept.warnings.items (Warns command later_kept.input.items)

-- this holds of each error of workers that is returned
abbrev pub IfBroken : Result Closing ServeError → (WorkError → Type 0) → Type 0
IfBroken result P = (error : WorkError) → result ≡ Err (Work error) → P error
