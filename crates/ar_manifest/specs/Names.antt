-- The state that names are hashed from: that of a hasher which was fed all names that are to be read.
use Rattle.std.specs.Prelude.{fold}
use Rattle.std.specs.Hash.{str}
use Rattle.std.specs.Hash.DefaultHasher.{write}
use Rattle.std.specs.declared.hash.DefaultHasher.{DefaultHasher}
use Rattle.ar_value.specs.Terms.{Text}

-- the state after one more name: after its bytes comes 255, which no text in UTF-8 has
abbrev pub fed : DefaultHasher → Text → DefaultHasher
fed state name = fold write state (str name)
