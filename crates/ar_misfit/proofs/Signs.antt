-- What is no number has no sign.
use Rattle.std.proofs.Common.{◌≡◌, Float, true, false, refl}
use Rattle.std.specs.Float.{is_sign_negative}
use Rattle.std.specs.Float.Ieee.{fin, inf, is_nan, nan}

pub without_sign : (x : Float) → is_nan x ≡ true → is_sign_negative x ≡ false
unfolding is_sign_negative is_nan
without_sign nan is = refl
without_sign (inf s) is = absurd (cc)
without_sign (fin s m e) is = absurd (cc)
