-- Where texts in memory differ.
use Rattle.std.specs.Prelude.{string_bytes, Option, option_and_then}
use Rattle.ar_value.specs.Terms.{Text}
use Rattle.ar_apart.specs.Apart.{Apart, apart_if_alike}
use Rattle.ar_apart.specs.declared.apart.Apart.{Apart as ApartCode}
use Rattle.ar_apart.specs.declared.apart.Texts.{Texts as TextsCode}

abbrev pub apart_view : ApartCode → Apart
apart_view apart =
    record { byte = apart.byte; left = string_bytes apart.left; right = string_bytes apart.right }

abbrev pub texts_view : TextsCode → Text × Text
texts_view texts = (texts.left.now, texts.right.now)

-- of two texts, if there are two
abbrev pub texts_apart : Option TextsCode → Option Apart
texts_apart texts = option_and_then (λ (texts : TextsCode). apart_if_alike texts.left.now texts.right.now) texts
