-- The tests of two texts say where the one is in the other, and what std says of its searches is what they say.
use Rattle.std.proofs.Common.{◌≡◌, ◌-◌, ℕ, Bool, true, false, List, [], ◌∷◌, ◌++◌, length, take, drop, refl, sym, ap, subst}
use Rattle.std.specs.Prelude.{◌||◌}
use Rattle.std.specs.Bool.{Decides, MatchBool, one_answer}
use Rattle.std.specs.Str.Pattern.{FindsText, FindsTextPrefix, FindsTextSuffix, HasMatch, HasPrefixMatch, HasSuffixMatch}
use Rattle.std.specs.declared.option.Option.TheVariants.{None}
use Rattle.std.proofs.lemmas.Bool.Decides.{Decides-eqb}
use Rattle.std.proofs.lemmas.Slice.Eq.{starts_is, ends_is}
use Rattle.std.proofs.lemmas.Str.Pattern.{contains_text, starts_text, ends_text}
use Rattle.ar_value.specs.TextTests.{Passes, contains, ends, passes, starts}
use Rattle.ar_value.specs.declared.operator.TextTest.{TextTest}
use Rattle.ar_value.specs.declared.operator.TextTest.TheVariants.{Contains, StartsWith, EndsWith}

starts_decides : (whole part : List ℕ) → Decides (starts whole part) (Passes StartsWith whole part)
starts_decides whole part =
    let is = starts_is Decides-eqb whole part (starts whole part) refl in
    (λ e. (drop (length part) whole, is.0 e), λ h. is.1 h.0 h.1)

ends_decides : (whole part : List ℕ) → Decides (ends whole part) (Passes EndsWith whole part)
ends_decides whole part =
    let is = ends_is Decides-eqb whole part (ends whole part) refl in
    (λ e. (take (length whole - length part) whole, is.0 e), λ h. is.1 h.0 h.1)

either : (a b : Bool) → b ≡ true → (a || b) ≡ true
either true b e = refl
either false b e = e

the_first : (a b : Bool) → a ≡ true → (a || b) ≡ true
the_first true b e = refl
the_first false b e = absurd cc

-- a part of the rest, or one that starts the whole
of_either : (byte : ℕ) (rest part : List ℕ) (at_start in_rest : Bool) → (at_start ≡ true → Passes StartsWith (byte ∷ rest) part) → (in_rest ≡ true → Passes Contains rest part)
    → (at_start || in_rest) ≡ true → Passes Contains (byte ∷ rest) part
of_either byte rest part true in_rest starts later e = ([], (starts refl).0, (starts refl).1)
of_either byte rest part false in_rest starts later e = let found = later e in (byte ∷ found.0, found.1, ap (λ bytes. byte ∷ bytes) found.2)

same_rest : (byte first : ℕ) (rest others : List ℕ) → (byte ∷ rest) ≡ (first ∷ others) → rest ≡ others
same_rest byte first rest others e = cc

-- with one byte more in front
one_more : (byte : ℕ) (rest part : List ℕ) → Decides (contains rest part) (Passes Contains rest part) → Decides (contains (byte ∷ rest) part) (Passes Contains (byte ∷ rest) part)
one_more byte rest part later = (to, from)
  where
    to : contains (byte ∷ rest) part ≡ true → Passes Contains (byte ∷ rest) part
    to e = of_either byte rest part (starts (byte ∷ rest) part) (contains rest part) (starts_decides (byte ∷ rest) part).0 later.0 e

    from : Passes Contains (byte ∷ rest) part → contains (byte ∷ rest) part ≡ true
    from ([], back, e) = the_first (starts (byte ∷ rest) part) (contains rest part) ((starts_decides (byte ∷ rest) part).1 (back, e))
    from (first ∷ front, back, e) =
        either (starts (byte ∷ rest) part) (contains rest part) (later.1 (front, back, same_rest byte first rest (front ++ (part ++ back)) e))

of_nothing : (part : List ℕ) → Decides (contains [] part) (Passes Contains [] part)
of_nothing part = (to, from)
  where
    to : contains [] part ≡ true → Passes Contains [] part
    to e = let found = (starts_decides [] part).0 e in ([], found.0, found.1)

    from : Passes Contains [] part → contains [] part ≡ true
    from ([], back, e) = (starts_decides [] part).1 (back, e)
    from (byte ∷ front, back, e) = absurd cc

contains_decides : (whole part : List ℕ) → Decides (contains whole part) (Passes Contains whole part)
contains_decides [] part = of_nothing part
contains_decides (byte ∷ rest) part = one_more byte rest part (contains_decides rest part)

pub is_there : (test : TextTest) (whole part : List ℕ) (r : Bool) → r ≡ passes test whole part → Decides r (Passes test whole part)
is_there Contains whole part r e = subst (λ b. Decides b (Passes Contains whole part)) (sym e) (contains_decides whole part)
is_there StartsWith whole part r e = subst (λ b. Decides b (Passes StartsWith whole part)) (sym e) (starts_decides whole part)
is_there EndsWith whole part r e = subst (λ b. Decides b (Passes EndsWith whole part)) (sym e) (ends_decides whole part)

-- ---- what std says

pub contained : (r : Bool) (part whole : List ℕ) → MatchBool r (HasMatch (FindsText part) whole) (FindsText part whole None) → r ≡ passes Contains whole part
contained r part whole h = one_answer r (contains whole part) (contains_text r part whole h) (contains_decides whole part)

pub started : (r : Bool) (part whole : List ℕ) → MatchBool r (HasPrefixMatch (FindsTextPrefix part) whole) (FindsTextPrefix part whole None) → r ≡ passes StartsWith whole part
started r part whole h = starts_text r part whole h

pub ended : (r : Bool) (part whole : List ℕ) → MatchBool r (HasSuffixMatch (FindsTextSuffix part) whole) (FindsTextSuffix part whole None) → r ≡ passes EndsWith whole part
ended r part whole h = ends_text r part whole h
