-- Writing a whole output, and what a sink that failed has taken of it.
use Rattle.std.specs.Prelude.{◌≡◌, ◌<◌, ◌&&◌, ℕ, Bool, List, [], ◌∷◌, ◌++◌, length, map, nat_eq, nat_lt, Option, Result, Ok, Err}
use Rattle.std.specs.List.{sum}
use Rattle.std.specs.Io.KnownBytes.{Appends}
use Rattle.ar_command_line.specs.History.{Extends}
use Rattle.ar_command_line.specs.declared.stream.DeviceFault.{DeviceFault}

-- a call of a sink, with its answer
pub data Call : Type 0 where
  write : (answer : Result ℕ DeviceFault) → Call
  flush : (answer : Result (Unit {0}) DeviceFault) → Call

-- writes that took this many bytes each
abbrev pub writes : (counts : List ℕ) → List Call
writes counts = map (λ count. write (Ok count)) counts

-- The bytes were appended to those known, and the last call flushed them.
pub record AppendsAll {W : Type 0} (contents : W → Option (List ℕ)) (calls : W → Option (List Call)) (before after : W)
    (bytes : List ℕ) : Type 0 where
  pub wrote : Appends (contents before) (contents after) bytes
  -- how many bytes each write took: all of them together
  pub counts : List ℕ
  pub all : sum counts ≡ length bytes
  -- after the last of them there came one flush, which worked
  pub called : Extends (calls before) (calls after) (writes counts ++ flush (Ok tt) ∷ [])

-- the call after which an output was given up: a write failed or took nothing of the rest, or all bytes had been taken
-- and the flush failed
abbrev pub GivesUp : (last : Call) → (rest : List ℕ) → Type 0
GivesUp (write (Ok count)) rest = (count ≡ 0) × (0 < length rest)
GivesUp (write (Err fault)) rest = 0 < length rest
GivesUp (flush (Ok done)) rest = ⊥
GivesUp (flush (Err fault)) rest = rest ≡ []

-- A front of the bytes was appended to those known, and then a call failed.
pub record AppendsFront {W : Type 0} (contents : W → Option (List ℕ)) (calls : W → Option (List Call))
    (before after : W) (bytes : List ℕ) : Type 0 where
  pub front : List ℕ
  pub rest : List ℕ
  pub whole : bytes ≡ front ++ rest
  pub wrote : Appends (contents before) (contents after) front
  -- how many bytes each write took: the front together
  pub counts : List ℕ
  pub taken : sum counts ≡ length front
  -- the last call is the one that failed
  pub last : Call
  pub called : Extends (calls before) (calls after) (writes counts ++ last ∷ [])
  pub fails : GivesUp last rest

-- a write took none of the bytes that it was handed, though there were some
abbrev pub takes_nothing : (count : ℕ) (bytes : List ℕ) → Bool
takes_nothing count bytes = nat_eq count 0 && nat_lt 0 (length bytes)
