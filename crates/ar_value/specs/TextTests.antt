-- Tests of two texts, byte by byte: whether a part is in a whole, as a substring, a prefix or a suffix.
use Rattle.std.specs.Prelude.{◌≡◌, ◌-◌, Bool, ◌||◌, [], ◌∷◌, ◌++◌, length, take, drop, true, false, codes, refl}
use Rattle.std.specs.Str.{bytes_eq}
use Rattle.ar_value.specs.Terms.{Text}
use Rattle.ar_value.specs.declared.operator.TextTest.{TextTest}
use Rattle.ar_value.specs.declared.operator.TextTest.TheVariants.{Contains, StartsWith, EndsWith}

-- with what is before the part, and what is after it, the part makes the whole
abbrev pub Passes : TextTest → (whole part : Text) → Type 0
Passes Contains whole part = (front : Text) × (back : Text) × (whole ≡ front ++ (part ++ back))
Passes StartsWith whole part = (back : Text) × (whole ≡ part ++ back)
Passes EndsWith whole part = (front : Text) × (whole ≡ front ++ part)

-- ---- the same as a test

abbrev pub starts : (whole part : Text) → Bool
starts whole part = bytes_eq part (take (length part) whole)

abbrev pub contains : (whole part : Text) → Bool
contains [] part = starts [] part
contains (byte ∷ rest) part = starts (byte ∷ rest) part || contains rest part

abbrev pub ends : (whole part : Text) → Bool
ends whole part = bytes_eq part (drop (length whole - length part) whole)

abbrev pub passes : TextTest → (whole part : Text) → Bool
passes Contains whole part = contains whole part
passes StartsWith whole part = starts whole part
passes EndsWith whole part = ends whole part

-- ---- worked rows

inside_a_text : passes Contains (codes "canary") (codes "nar") ≡ true
inside_a_text = refl

not_at_its_begin : passes StartsWith (codes "canary") (codes "nar") ≡ false
not_at_its_begin = refl

at_its_end : passes EndsWith (codes "canary") (codes "ary") ≡ true
at_its_end = refl

nothing_is_in_all : passes Contains [] [] ≡ true
nothing_is_in_all = refl
