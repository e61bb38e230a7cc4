-- What is said of something that is refused, or probably not meant, and how a line says it.
use Rattle.std.specs.Prelude.{List, [], ◌∷◌, ◌++◌, codes, decimal, Option, Some, None, option_map, option_and_then}
use Rattle.std.specs.List.{filter_map, join_by}
use Rattle.ar_value.specs.Terms.{Text}
use Rattle.ar_diagnostic.specs.Place.{place_text}
use Rattle.ar_diagnostic.specs.declared.diagnostic.Diagnostic.{Diagnostic}
use Rattle.ar_diagnostic.specs.declared.diagnostic.Expected.{Expected}
use Rattle.ar_diagnostic.specs.declared.diagnostic.Expected.TheVariants.{Thing, Rule}
use Rattle.ar_diagnostic.specs.declared.diagnostic.Position.{Position}
use Rattle.ar_diagnostic.specs.declared.diagnostic.Position.TheVariants.{End, At}
use Rattle.ar_diagnostic.specs.declared.diagnostic.Spot.{Spot}
use Rattle.ar_diagnostic.specs.declared.place.Place.{Place}

-- ---- parts

-- what has a place and a name, and no more
abbrev pub plain_diagnostic : Place → (name : Text) → Diagnostic
plain_diagnostic place name =
    record {
      place = place;
      spot = None;
      name = name;
      found = None;
      expected = None;
      position = None;
      hint = None;
    }

-- something else is expected
abbrev pub expecting : Place → (name expected : Text) → Diagnostic
expecting place name expected = record (plain_diagnostic place name) { expected = Some (Thing expected) }

-- ---- a line

-- after a place
abbrev pub spot_text : Option Spot → Text
spot_text None = []
spot_text (Some spot) = codes ", byte " ++ decimal spot.offset

-- a rule is said before what was found
abbrev pub rule_part : Option Expected → Option Text
rule_part (Some (Rule rule)) = Some rule
rule_part expected = None

-- what was found, against a rule or in place of a thing
abbrev pub found_part : Option Expected → (found : Option Text) → Option Text
found_part (Some (Rule rule)) found = option_map (λ found. codes "found " ++ found) found
found_part expected found = found

-- a thing that is expected is said after what was found in its place
abbrev pub thing_part : Option Expected → Option Text
thing_part (Some (Thing thing)) = Some (codes "expected " ++ thing)
thing_part expected = None

abbrev pub position_text : Position → Text
position_text End = codes "the text ends too early"
position_text (At line column) =
    codes "the fault is at line " ++ (decimal line ++ (codes ", column " ++ decimal column))

abbrev pub excerpt_part : Option Spot → Option Text
excerpt_part spot =
    option_map (λ excerpt. codes "in " ++ excerpt) (option_and_then (λ (spot : Spot). spot.excerpt) spot)

-- what is said after the name, in this order
abbrev pub parts : Diagnostic → List (Option Text)
parts it =
    rule_part it.expected ∷ found_part it.expected it.found ∷ thing_part it.expected
    ∷ option_map position_text it.position ∷ excerpt_part it.spot ∷ it.hint ∷ []

-- the parts that there are, each but the first after a semicolon
unfoldable pub words_of : Diagnostic → Text
words_of it = join_by (λ part. part) (codes "; ") (filter_map (λ part. part) (parts it))

-- after a colon, unless there are none
abbrev pub after_colon : (words : Text) → Text
after_colon [] = []
after_colon (byte ∷ words) = codes ": " ++ (byte ∷ words)

-- as `runs: Runs: expected a list`
unfoldable pub refusal_text_of : Diagnostic → Text
refusal_text_of it =
    place_text it.place ++ (spot_text it.spot ++ (codes ": " ++ (it.name ++ after_colon (words_of it))))

-- as `metric 0 "rate": no condition`, without the name
unfoldable pub warning_text_of : Diagnostic → Text
warning_text_of it = place_text it.place ++ (spot_text it.spot ++ after_colon (words_of it))
