-- What is made of a document, part by part.
use Rattle.std.specs.Prelude.{Result, Ok}
use Rattle.ar_value.specs.Answer.{◌>>=◌}

-- both of two answers, or the refusal of the first, or that of the second
abbrev pub both_of : {A B E : Type 0} → Result A E → Result B E → Result (A × B) E
both_of first second = first >>= λ one. second >>= λ other. Ok (one, other)
