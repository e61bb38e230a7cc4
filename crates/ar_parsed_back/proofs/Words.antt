-- Words are cut as themselves, where no letter, digit or `_` comes after them.
use Rattle.std.proofs.Common.{◌≡◌, ℕ, suc, Bool, true, false, [], ◌∷◌, ◌++◌, length, refl, ◌∙◌, subst, ◌==◌}
use Rattle.std.specs.Prelude.{slice_index, codes, not, ◌&&◌, ◌||◌}
use Rattle.std.specs.Char.{is_ascii_digit}
use Rattle.std.specs.Int.{is_in_range}
use Rattle.std.specs.List.{list_all, take_while}
use Rattle.std.proofs.lemmas.Bool.{and_from, ne_eqb}
use Rattle.std.proofs.lemmas.List.Sums.{take_while-cons}
use Rattle.ar_value.specs.Terms.{Text}
use Rattle.ar_value.specs.declared.operator.Predicate.{Predicate}
use Rattle.ar_value.specs.declared.operator.Predicate.TheVariants as predicates
use Rattle.ar_value.specs.declared.operator.TextTest.{TextTest}
use Rattle.ar_value.specs.declared.operator.TextTest.TheVariants as tests
use Rattle.ar_syntax.specs.Token.{begins_word, continues_word, word_of, word_or_name}
use Rattle.ar_syntax.specs.Tokens.{front_of, piece_found, token, token_of, word_at}
use Rattle.ar_syntax.specs.declared.token.Word.TheVariants as words
use Rattle.ar_syntax.proofs.Fronts.{both_pass}
use Rattle.ar_quote.specs.Tokens.{is_of_word}
use Rattle.ar_show.specs.PartText.{is_word, predicate_word, test_word}
use Rattle.ar_parsed_back.specs.Kinds.{word}
use Rattle.ar_parsed_back.proofs.Cutting.{IsEnd, Lexes, one_token}

-- as many as pass, up to the first that doesn't
pub taken : (p : ℕ → Bool) (xs rest : Text) → list_all p xs ≡ true → p (slice_index rest 0) ≡ false → take_while p (xs ++ rest) ≡ xs
taken p [] [] all stop = refl
taken p [] (byte ∷ rest) all stop = rw (take_while-cons p byte rest, stop) refl
taken p (x ∷ xs) rest all stop =
    let parts = both_pass (p x) (list_all p xs) all in
    take_while-cons p x (xs ++ rest) ∙ rw (parts.0, taken p xs rest parts.1 stop) refl

-- a letter or `_`
letter : (digit large small line : Bool) → (((digit || large) || small) || line) ≡ true → not digit ≡ true → ((large || small) || line) ≡ true
letter true large small line all no_digit = absurd cc
letter false large small line all no_digit = all

begins_letter : (byte : ℕ) → (is_of_word byte && not (is_ascii_digit byte)) ≡ true → begins_word byte ≡ true
begins_letter byte is =
    let parts = both_pass (is_of_word byte) (not (is_ascii_digit byte)) is in
    letter (is_in_range 48 57 byte) (is_in_range 65 90 byte) (is_in_range 97 122 byte) (byte == 95) parts.0 parts.1

-- another byte than one that doesn't pass
pub differs : (P : ℕ → Bool) (byte sign : ℕ) → P byte ≡ true → P sign ≡ false → (byte == sign) ≡ false
differs P byte sign is fails = ne_eqb byte sign other
  where
    other : byte ≡ sign → ⊥
    other same = let passes : P sign ≡ true = subst (λ (b : ℕ). P b ≡ true) same is in cc

module _ (at : ℕ) (field : Bool) (byte : ℕ) (spelled rest : Text) where
  word_found : is_word (byte ∷ spelled) ≡ true → continues_word (slice_index rest 0) ≡ false
      → front_of at field (byte ∷ spelled ++ rest) ≡ piece_found (token (word_or_name (byte ∷ spelled) (word_of (byte ∷ spelled))) at (suc (length spelled)))
  unfolding front_of token_of
  word_found is stop =
      let parts = both_pass (is_of_word byte && not (is_ascii_digit byte)) (list_all is_of_word spelled) is in
      let begins : begins_word byte ≡ true = begins_letter byte parts.0 in
      let continues_here : continues_word byte ≡ true = (both_pass (is_of_word byte) (not (is_ascii_digit byte)) parts.0).0 in
      let front : word_at (byte ∷ spelled ++ rest) ≡ byte ∷ spelled = taken continues_word (byte ∷ spelled) rest (and_from (continues_word byte) (list_all continues_word spelled) continues_here parts.1) stop in
      rw (differs begins_word byte 32 begins refl, differs begins_word byte 9 begins refl, differs begins_word byte 13 begins refl, differs begins_word byte 10 begins refl, differs begins_word byte 47 begins refl, begins, front) refl

pub name_cut : (name : Text) → is_word name ≡ true → Lexes IsEnd name (word_or_name name (word_of name) ∷ [])
name_cut [] is = absurd cc
name_cut (byte ∷ spelled) is = one_token IsEnd byte spelled (word_or_name (byte ∷ spelled) (word_of (byte ∷ spelled))) (λ at field rest ends. word_found at field byte spelled rest is ends.no_word)

-- ---- words that the language names

pub result_cut : Lexes IsEnd (codes "result") (word words.Result ∷ [])
unfolding word_of
result_cut = name_cut (codes "result") refl

pub nil_cut : Lexes IsEnd (codes "nil") (word words.Nil ∷ [])
unfolding word_of
nil_cut = name_cut (codes "nil") refl

pub true_cut : Lexes IsEnd (codes "true") (word words.True ∷ [])
unfolding word_of
true_cut = name_cut (codes "true") refl

pub false_cut : Lexes IsEnd (codes "false") (word words.False ∷ [])
unfolding word_of
false_cut = name_cut (codes "false") refl

pub len_cut : Lexes IsEnd (codes "len") (word words.Len ∷ [])
unfolding word_of
len_cut = name_cut (codes "len") refl

pub is_nil_cut : Lexes IsEnd (codes "isNil") (word words.IsNil ∷ [])
unfolding word_of
is_nil_cut = name_cut (codes "isNil") refl

pub default_cut : Lexes IsEnd (codes "default") (word words.Default ∷ [])
unfolding word_of
default_cut = name_cut (codes "default") refl

pub in_cut : Lexes IsEnd (codes "in") (word words.In ∷ [])
unfolding word_of
in_cut = name_cut (codes "in") refl

pub and_cut : Lexes IsEnd (codes "and") (word words.And ∷ [])
unfolding word_of
and_cut = name_cut (codes "and") refl

pub or_cut : Lexes IsEnd (codes "or") (word words.Or ∷ [])
unfolding word_of
or_cut = name_cut (codes "or") refl

pub test_cut : (test : TextTest) → Lexes IsEnd (test_word test) (word (words.Test test) ∷ [])
unfolding word_of
test_cut tests.Contains = name_cut (codes "contains") refl
test_cut tests.StartsWith = name_cut (codes "startsWith") refl
test_cut tests.EndsWith = name_cut (codes "endsWith") refl

pub predicate_cut : (predicate : Predicate) → Lexes IsEnd (predicate_word predicate) (word (words.Over predicate) ∷ [])
unfolding word_of
predicate_cut predicates.All = name_cut (codes "all") refl
predicate_cut predicates.Any = name_cut (codes "any") refl
predicate_cut predicates.None = name_cut (codes "none") refl
predicate_cut predicates.One = name_cut (codes "one") refl
predicate_cut predicates.Count = name_cut (codes "count") refl
predicate_cut predicates.Filter = name_cut (codes "filter") refl
