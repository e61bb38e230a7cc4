-- Words that the language names.
use Rattle.std.proofs.Common.{◌≡◌, Some, refl}
use Rattle.ar_value.specs.declared.operator.Predicate.TheVariants as predicates
use Rattle.ar_value.specs.declared.operator.TextTest.TheVariants as tests
use Rattle.ar_syntax.specs.Token.{letters, word_of}
use Rattle.ar_syntax.specs.declared.token.Word.{Word}
use Rattle.ar_syntax.specs.declared.token.Word.TheVariants as words

pub each_is_named : (word : Word) → word_of (letters word) ≡ Some word
unfolding word_of
each_is_named words.Result = refl
each_is_named words.True = refl
each_is_named words.False = refl
each_is_named words.Nil = refl
each_is_named words.And = refl
each_is_named words.Or = refl
each_is_named words.Not = refl
each_is_named words.In = refl
each_is_named words.Len = refl
each_is_named words.IsNil = refl
each_is_named words.Default = refl
each_is_named (words.Test tests.Contains) = refl
each_is_named (words.Test tests.StartsWith) = refl
each_is_named (words.Test tests.EndsWith) = refl
each_is_named (words.Over predicates.All) = refl
each_is_named (words.Over predicates.Any) = refl
each_is_named (words.Over predicates.None) = refl
each_is_named (words.Over predicates.One) = refl
each_is_named (words.Over predicates.Count) = refl
each_is_named (words.Over predicates.Filter) = refl
