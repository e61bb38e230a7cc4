-- Whether a sign is in a text.
use Rattle.std.proofs.Common.{◌≡◌, ◌<◌, ℕ, None, Bool, true, false, List, length, sym, ap}
use Rattle.std.specs.Prelude.{MatchBool, is_some}
use Rattle.std.specs.Str.Pattern.{FindsText, HasMatch}
use Rattle.ar_manifest.specs.Cut.{cut_at}
use Rattle.ar_manifest.proofs.Cuts.{cut_at_first, cut_at_none}

-- what `contains` returns
pub contains_cuts : (sign text : List ℕ) (result : Bool) → 0 < length sign → MatchBool result (HasMatch (FindsText sign) text) (FindsText sign text None) → result ≡ is_some (cut_at sign text)
contains_cuts sign text true some found = sym (ap is_some (cut_at_first sign some text found.0 _ found.2.0 found.2.1.split))
contains_cuts sign text false some none = sym (ap is_some (cut_at_none sign some text none))
