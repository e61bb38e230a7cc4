-- The line of a JSON value.
use Rattle.std.proofs.Common.{◌≡◌, ℕ, List, ◌++◌, codes, Some, ◌∙◌, ap, subst}
use Rattle.serde_json.specs.Data.{Data}
use Rattle.serde_json.specs.Read.{read}
use Rattle.serde_json.specs.Written.{compact_text}
use Rattle.ar_object.specs.Line.{IsJsonLine}

pub line_read : (object : Data) (text line : List ℕ) → text ≡ compact_text object → read text ≡ Some object → line ≡ text ++ codes "\n" → IsJsonLine object line
line_read object text line is reads ends = record { is = ends ∙ ap (λ text. text ++ codes "\n") is; reads_back = subst (λ text. read text ≡ Some object) is reads }
