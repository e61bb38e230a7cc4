-- Calls that are interrupted one after another.
use Rattle.std.proofs.Common.{◌≡◌, ◌<◌, ℕ, ◌+◌, List, [], ◌∷◌, ◌++◌, length, length-append, Option, Result, Err, refl, sym, ◌∙◌, inl, inr, IfErr}
use Rattle.std.proofs.lemmas.List.Elements.{All-nil, All-push}
use Rattle.std.specs.List.{All}
use Rattle.std.specs.declared.io.Error.{Error}
use Rattle.std.specs.declared.io.ErrorKind.TheVariants.{TimedOut}
use Rattle.ar_command_line.specs.History.{Extends}
use Rattle.ar_command_line.specs.Retrying.{FailsAs, IsInterrupted, IsLasting, Retries, most_tries}
use Rattle.ar_command_line.proofs.Histories.{continues, nothing_yet}

-- a call was interrupted `count` times so far
pub record Interrupts {A : Type 0} (before now : Option (List (Result A Error))) (count : ℕ) : Type 0 where
  pub interruptions : List (Result A Error)
  pub are : All IsInterrupted interruptions
  pub many : length interruptions ≡ count
  pub answers : Extends before now interruptions

pub not_yet : {A : Type 0} (history : Option (List (Result A Error))) → Interrupts history history 0
not_yet history = record { interruptions = []; are = All-nil IsInterrupted; many = refl; answers = nothing_yet history }

pub once_more : {A : Type 0} (before between after : Option (List (Result A Error))) (count : ℕ) (answer : Result A Error) → Interrupts before between count → IsInterrupted answer
    → Extends between after (answer ∷ []) → Interrupts before after (count + 1)
once_more before between after count answer so_far interrupted more = record {
  interruptions = so_far.interruptions ++ answer ∷ [];
  are = All-push IsInterrupted so_far.interruptions answer so_far.are interrupted;
  many = rw (sym so_far.many) (length-append so_far.interruptions (answer ∷ []));
  answers = continues before between after so_far.interruptions (answer ∷ []) so_far.answers more;
}

pub answered : {A : Type 0} (before between after : Option (List (Result A Error))) (count : ℕ) (answer : Result A Error) → Interrupts before between count → count < most_tries → IfErr answer IsLasting
    → Extends between after (answer ∷ []) → Retries before after answer
answered before between after count answer so_far few lasting more = record {
  interruptions = so_far.interruptions;
  are = so_far.are;
  ends = inl (record {
    answers = continues before between after so_far.interruptions (answer ∷ []) so_far.answers more;
    lasting = lasting;
    few = rw so_far.many few;
  });
}

pub given_up : {A : Type 0} (before after : Option (List (Result A Error))) (count : ℕ) (fault : Error) → Interrupts before after count → most_tries ≡ count → FailsAs {A = A} TimedOut (Err fault)
    → Retries before after (Err fault)
given_up before after count fault so_far many times_out = record {
  interruptions = so_far.interruptions;
  are = so_far.are;
  ends = inr (record {
    answers = so_far.answers;
    many = so_far.many ∙ sym many;
    times_out = times_out;
  });
}
