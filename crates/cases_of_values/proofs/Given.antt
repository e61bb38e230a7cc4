-- The answer of a call, given as a text of its own.
use Rattle.std.proofs.Common.{◌≡◌, List, [], ◌++◌, ℕ, Bool, true, false, Option, Some, None, Result, Ok, Err, refl, subst, string_bytes}
use Rattle.std.specs.Prelude.{IfSome, IsSomeAnd, ⊤}
use Rattle.ar_value.specs.Answer.{◌>>=◌, Gives}
use Rattle.cases_of_values.specs.declared.fault.CaseFault.{CaseFault}
use Rattle.cases_of_values.specs.declared.output.Output.{Output}
use Rattle.cases_of_values.specs.Members.{is_case_memory}
use Rattle.cases_of_values.specs.Numbers.{Answers}
use Rattle.cases_of_values.specs.Output.{Holds, given_if_whole}

abbrev Answer : Type 0
Answer = Result (List ℕ) CaseFault

-- what isn't a call on numbers has no answer that is defined
pub no_number : {A : Type 0} (defined : Option Answer) (P : Answer → A → Type 0) (Q : Answer → Type 0) → IfSome defined (λ answer. IsSomeAnd None (P answer)) → IfSome defined Q
no_number None P Q none = tt
no_number (Some answer) P Q none = absurd none

alone : (answer : Answer) (later : List ℕ) → (answer >>= λ text. Ok ([] ++ text)) ≡ Ok later → answer ≡ Ok later
alone (Ok text) later is = is
alone (Err fault) later is = absurd (cc)

given : (answer : Answer) (written : Result ⊤ CaseFault) (earlier later : Output) → Holds earlier [] → Answers written earlier later answer → Gives is_case_memory string_bytes (given_if_whole later.is_whole later.text written) answer
given answer written earlier later holds said = by later.is_whole refl written said where
  by : (whole : Bool) → later.is_whole ≡ whole → (written : Result ⊤ CaseFault) → Answers written earlier later answer → Gives is_case_memory string_bytes (given_if_whole whole later.text written) answer
  by false is written said = tt
  by true is (Ok written) said = alone answer (string_bytes later.text) (subst (λ bytes. (answer >>= λ text. Ok (bytes ++ text)) ≡ Ok (string_bytes later.text)) holds.1 (said is).1)
  by true is (Err fault) said = said

-- what is written after nothing is the answer, and what is refused there is refused
pub gives : (defined : Option Answer) (written : Result ⊤ CaseFault) (earlier later : Output) → Holds earlier [] → IfSome defined (λ answer. Answers written earlier later answer) → IfSome defined (λ answer. Gives is_case_memory string_bytes (given_if_whole later.is_whole later.text written) answer)
gives None written earlier later holds said = tt
gives (Some answer) written earlier later holds said = given answer written earlier later holds said
