-- What advice in memory says.
use Rattle.std.specs.Prelude.{◌++◌, codes}
use Rattle.ar_value.specs.Terms.{Text}
use Rattle.ar_misfit.specs.FloatText.{digits_text}
use Rattle.ar_misfit.specs.declared.advice.Advice.{Advice}
use Rattle.ar_misfit.specs.declared.advice.Advice.TheVariants as advices

abbrev pub advice_words : Advice → Text
advice_words advices.Integer = codes "an integer has no point and no exponent, and 64 bits"
advice_words advices.Quotes = codes "write the number in quotes, as a text"
advice_words (advices.Write x) = codes "write \"" ++ (digits_text x ++ codes "\"")
advice_words advices.NotFinite = codes "it is no value, and counts towards consecutiveErrorLimit"
