-- Texts in buffers of a caller's.
use Rattle.std.specs.Prelude.{◌≡◌, ◌<◌, ◌≤◌, ℕ, Bool, true, false, List, ◌++◌, drop, length}
use Rattle.ar_value.specs.Terms.{Bytes, Text}

-- a text was put at the front of a buffer that holds it, and its length said
pub record IsPut (text : Text) (before after : Bytes) (said : ℕ) : Type 0 where
  pub fits : length text ≤ length before
  pub says : said ≡ length text
  pub put : after ≡ text ++ drop (length text) before

-- a buffer was too small for a text, and is as it was; the text's length was said
pub record IsLeft (text : Text) (before after : Bytes) (said : ℕ) : Type 0 where
  pub small : length before < length text
  pub says : said ≡ length text
  pub left : after ≡ before

-- the text was put into the buffer, or the buffer was too small for it
abbrev pub IsPutOrLeft : Bool → (text : Text) (before after : Bytes) (said : ℕ) → Type 0
IsPutOrLeft true text before after said = IsPut text before after said
IsPutOrLeft false text before after said = IsLeft text before after said
