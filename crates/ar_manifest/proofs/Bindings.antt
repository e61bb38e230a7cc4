-- What holds of cutting and binding any text.
use Rattle.std.proofs.Common.{◌≡◌, ◌≢◌, ◌<◌, ℕ, zero, suc, List, ◌++◌, length, refl, sym, ◌∙◌, ap, arith, Option, Some, None, Ok}
use Rattle.std.specs.Prelude.{codes}
use Rattle.ar_manifest.specs.Arguments.{value_of}
use Rattle.ar_manifest.specs.Binding.{RunArguments, argument_name, bound_text, filled, referred_value, trimmed}
use Rattle.ar_manifest.specs.Cut.{AreParts, CutsAtFirst, Lacks, Parts, whole, unclosed, reference, cut_at, parts_of}
use Rattle.ar_manifest.specs.Template.{TemplateArguments}
use Rattle.ar_manifest.proofs.Cuts.{CutsAtFirst-cut_at, Lacks-cut_at, cut_at-CutsAtFirst, cut_at-Lacks}
use Rattle.ar_manifest.proofs.TextParts.{parts_of-reference, parts_of-unclosed, parts_of-whole, shorter}

-- `{{` has a byte
opens : 0 < length (codes "{{")
opens = omega arith

closes : 0 < length (codes "}}")
closes = omega arith

-- the parts of a text are those that are computed
pub parts_of-AreParts : (text : List ℕ) (parts : Parts) → AreParts text parts → parts_of text ≡ parts
parts_of-AreParts text (whole all) are = parts_of-whole text (cut_at-Lacks (codes "{{") opens text are.1) ∙ ap whole (sym are.0)
parts_of-AreParts text (unclosed before) are =
    parts_of-unclosed text (before, are.0) (cut_at-CutsAtFirst (codes "{{") opens text before are.0 are.1) (cut_at-Lacks (codes "}}") closes are.0 are.2)
parts_of-AreParts text (reference before between parts) are =
    parts_of-reference text (before, are.0) (cut_at-CutsAtFirst (codes "{{") opens text before are.0 are.2) (between, are.1) (cut_at-CutsAtFirst (codes "}}") closes are.0 between are.1 are.3)
    ∙ ap (reference before between) (parts_of-AreParts are.1 parts are.4)

module _ (text : List ℕ) (size : ℕ) (small : length text < suc size) (smaller : (rest : List ℕ) → length rest < size → AreParts rest (parts_of rest)) where
  closed_parts_are : (opened : List ℕ × List ℕ) → cut_at (codes "{{") text ≡ Some opened → (found : Option (List ℕ × List ℕ)) → cut_at (codes "}}") opened.1 ≡ found → AreParts text (parts_of text)
  closed_parts_are opened at None none =
      rw (parts_of-unclosed text opened at none) (opened.1, CutsAtFirst-cut_at (codes "{{") text opened at, Lacks-cut_at (codes "}}") closes opened.1 none)
  closed_parts_are opened at (Some closed) found =
      let less = shorter text opened closed at found in
      rw (parts_of-reference text opened at closed found)
      (opened.1, closed.1, CutsAtFirst-cut_at (codes "{{") text opened at, CutsAtFirst-cut_at (codes "}}") opened.1 closed found, smaller closed.1 (omega (arith, less)))

  opened_parts_are : (found : Option (List ℕ × List ℕ)) → cut_at (codes "{{") text ≡ found → AreParts text (parts_of text)
  opened_parts_are None none = rw (parts_of-whole text none) (refl, Lacks-cut_at (codes "{{") opens text none)
  opened_parts_are (Some opened) at = closed_parts_are opened at (cut_at (codes "}}") opened.1) refl

parts_are : (size : ℕ) (text : List ℕ) → length text < size → AreParts text (parts_of text)
parts_are zero text small = absurd (omega arith)
parts_are (suc size) text small = opened_parts_are text size small (parts_are size) (cut_at (codes "{{") text) refl

pub AreParts-parts_of : (text : List ℕ) (parts : Parts) → parts_of text ≡ parts → AreParts text parts
AreParts-parts_of text parts is = rw (← is) (parts_are (suc (length text)) text (omega arith))

-- a text without `{{`
pub bound_text-plain : (arguments : TemplateArguments) (own : RunArguments) (i : ℕ) (text : List ℕ) → Lacks (codes "{{") text → bound_text arguments own i text ≡ Ok text
unfolding bound_text filled
bound_text-plain arguments own i text lacks = ap (filled arguments own i) (parts_of-whole text (cut_at-Lacks (codes "{{") opens text lacks))

-- a text with one reference
pub bound_text-reference : (arguments : TemplateArguments) (own : RunArguments) (i : ℕ) (text before opened between after value : List ℕ)
    → CutsAtFirst (codes "{{") text before opened → CutsAtFirst (codes "}}") opened between after → Lacks (codes "{{") after
    → referred_value arguments own i between ≡ Ok value → bound_text arguments own i text ≡ Ok (before ++ (value ++ after))
unfolding bound_text filled
bound_text-reference arguments own i text before opened between after value first next lacks given =
    let parts : parts_of text ≡ reference before between (whole after) = parts_of-AreParts text (reference before between (whole after)) (opened, after, first, next, (refl, lacks)) in
    ap (filled arguments own i) parts ∙ rw given refl

own_first : (arguments : TemplateArguments) (own : RunArguments) (i : ℕ) (between name value : List ℕ) (found : Option (Option (List ℕ)))
    → argument_name (trimmed between) ≡ Some name → value_of name arguments ≡ found → found ≢ None → value_of name own ≡ Some value → referred_value arguments own i between ≡ Ok value
unfolding referred_value
own_first arguments own i between name value None named is there given = absurd (there refl)
own_first arguments own i between name value (Some template) named is there given = rw (named, is, given) refl

pub referred_value-own : (arguments : TemplateArguments) (own : RunArguments) (i : ℕ) (between name value : List ℕ)
    → argument_name (trimmed between) ≡ Some name → value_of name arguments ≢ None → value_of name own ≡ Some value → referred_value arguments own i between ≡ Ok value
referred_value-own arguments own i between name value named there given = own_first arguments own i between name value (value_of name arguments) named refl there given
