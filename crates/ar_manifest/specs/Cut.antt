-- Cutting a text at its braces: at the first `{{` and the next `}}` after it, and so on with the rest.
use Rattle.std.specs.Prelude.{◌≡◌, ◌≢◌, ◌≤◌, ℕ, zero, suc, nat_eq, if◌then◌else◌, [], ◌∷◌, ◌++◌, length, drop, codes, Option, Some, None, option_map}
use Rattle.std.specs.List.{starts_with}
use Rattle.ar_value.specs.Terms.{Text}

-- the parts of a text
pub data Parts : Type 0 where
  -- a text without `{{`
  whole : Text → Parts
  -- what comes before a `{{` that no `}}` follows
  unclosed : Text → Parts
  -- what comes before `{{`, what between it and `}}`, and the parts of the rest
  reference : Text → Text → Parts → Parts

-- ---- as a relation

-- a sign is nowhere in a text
abbrev pub Lacks : Text → Text → Type 0
Lacks sign text = (before after : Text) → text ≢ before ++ (sign ++ after)

-- what comes before the first occurrence of a sign in a text, and what after it
pub record CutsAtFirst (sign text before after : Text) : Type 0 where
  pub parts : text ≡ before ++ (sign ++ after)
  pub first : (earlier later : Text) → text ≡ earlier ++ (sign ++ later) → length before ≤ length earlier

-- the parts are those of the text
abbrev pub AreParts : Text → Parts → Type 0
AreParts text (whole all) = (all ≡ text) × Lacks (codes "{{") text
AreParts text (unclosed before) =
    (opened : Text) × CutsAtFirst (codes "{{") text before opened × Lacks (codes "}}") opened
AreParts text (reference before between parts) =
    (opened : Text) × (after : Text) × CutsAtFirst (codes "{{") text before opened
    × CutsAtFirst (codes "}}") opened between after × AreParts after parts

-- ---- computed

-- what comes before the first occurrence of a sign, and what after it, if there is one
unfoldable pub cut_at : Text → Text → Option (Text × Text)
cut_at sign [] = None
cut_at sign (byte ∷ text) =
    if starts_with nat_eq (byte ∷ text) sign then Some ([], drop (length sign) (byte ∷ text))
    else option_map (λ cut. (byte ∷ cut.0, cut.1)) (cut_at sign text)

abbrev pub closed_parts : (Text → Parts) → Text → Option (Text × Text) → Parts
closed_parts parts before None = unclosed before
closed_parts parts before (Some cut) = reference before cut.0 (parts cut.1)

abbrev pub opened_parts : (Text → Parts) → Text → Option (Text × Text) → Parts
opened_parts parts text None = whole text
opened_parts parts text (Some cut) = closed_parts parts cut.0 (cut_at (codes "}}") cut.1)

-- the parts of a text that is cut at most n times
unfoldable pub parts_within : ℕ → Text → Parts
parts_within zero text = whole text
parts_within (suc cuts) text = opened_parts (parts_within cuts) text (cut_at (codes "{{") text)

-- the parts of a text, which can't be cut more often than it has bytes
unfoldable pub parts_of : Text → Parts
parts_of text = parts_within (length text) text
