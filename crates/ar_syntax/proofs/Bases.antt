-- What digits of a base spell.
use Rattle.std.proofs.Common.{◌≡◌, ℕ, ◌+◌, ◌*◌, ◌<◌, ◌≤◌, List, [], ◌∷◌, length, drop, get_or, refl, arith, add-one, drop-cons}
use Rattle.std.proofs.Math.Nat.{le-mul_of_pos_right}
use Rattle.std.specs.Char.{digit_value}
use Rattle.std.specs.Str.Parse.{digits_value_after}
use Rattle.ar_syntax.specs.Token.{radix}
use Rattle.ar_syntax.specs.declared.token.Base.{Base}
use Rattle.ar_syntax.specs.declared.token.Base.TheVariants.{Binary, Octal, Hexadecimal}

-- further digits don't make the number smaller
pub before-le-digits_value_after : (base n : ℕ) (ds : List ℕ) → 0 < base → n ≤ digits_value_after base n ds
before-le-digits_value_after base n [] some = omega arith
before-le-digits_value_after base n (c ∷ cs) some = omega (arith, before-le-digits_value_after base (n * base + digit_value c) cs some, le-mul_of_pos_right n some)

-- what a number and the digits left spell bounds the number with the next digit
pub next-le-total : (base n total : ℕ) (ds : List ℕ) (i : ℕ) → 0 < base → digits_value_after base n (drop i ds) ≡ total → i < length ds → n * base + digit_value (get_or ds i 0) ≤ total
next-le-total base n total ds i some spelled below =
    let front : drop i ds ≡ get_or ds i 0 ∷ drop (i + 1) ds = rw (add-one, drop-cons ds i 0) refl in
    omega (arith, rw front at spelled, before-le-digits_value_after base (n * base + digit_value (get_or ds i 0)) (drop (i + 1) ds) some)

-- a number with the next digit spells with the digits after it what it spelled with all that were left
pub next-spelled : (base n next total : ℕ) (ds : List ℕ) (i : ℕ) → next ≡ n * base + digit_value (get_or ds i 0) → i < length ds → digits_value_after base n (drop i ds) ≡ total → digits_value_after base next (drop (i + 1) ds) ≡ total
next-spelled base n next total ds i is below spelled =
    let front : drop i ds ≡ get_or ds i 0 ∷ drop (i + 1) ds = rw (add-one, drop-cons ds i 0) refl in
    rw is (rw front at spelled)

pub radix-pos : (base : Base) → 0 < radix base
radix-pos Binary = omega arith
radix-pos Octal = omega arith
radix-pos Hexadecimal = omega arith
