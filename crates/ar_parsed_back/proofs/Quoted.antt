-- Quoted texts are cut as the texts that were quoted, where these have no character that is shown by its code.
use Rattle.std.proofs.Common.{◌≡◌, ℕ, zero, suc, ◌+◌, ◌<◌, ◌≤◌, Bool, true, false, List, [], ◌∷◌, ◌++◌, length, get_or, take, refl, sym, ◌∙◌, ap, subst, arith, append_assoc, append-nil, length-append, add-zero, ◌==◌, Some, Ok}
use Rattle.std.specs.Prelude.{codes, flat_map, not, ◌&&◌, ◌||◌, if◌then◌else◌}
use Rattle.std.specs.Char.{encode_utf8}
use Rattle.std.specs.List.{list_all}
use Rattle.std.specs.Str.{chars}
use lib.Utf8.{encode, encodes}
use Rattle.std.proofs.lemmas.Bool.{eqb-false, eqb-true, not-true, le-ltb, leb-true, ne_eqb}
use Rattle.std.proofs.lemmas.List.{take_at}
use Rattle.std.proofs.lemmas.Str.{encode_ascii, encodes-chars, inside_one}
use Rattle.ar_value.specs.Terms.{Text}
use Rattle.ar_syntax.specs.Token.{text_end, unescaped, with_byte}
use Rattle.ar_syntax.specs.Tokens.{front_of, piece_found, text_at_front, token, token_of}
use Rattle.ar_syntax.specs.declared.token.TokenKind.TheVariants as kinds
use Rattle.ar_syntax.proofs.Fronts.{both_pass}
use Rattle.ar_quote.specs.Shown.{code_escape, escaped, most_characters, moves, quoted}
use Rattle.ar_parsed_back.specs.Readable.{CanBeQuoted, has_escape}
use Rattle.ar_parsed_back.proofs.Cutting.{Any, Lexes, one_token}

-- bytes inside quotes represent a value: they end no text, and the value is read from them, whatever comes after
record Represent (bytes value : Text) : Type 0 where
  passed : (at : ℕ) (later : Text) → text_end 34 at false (bytes ++ later) ≡ text_end 34 (at + length bytes) false later
  means : (before : ℕ) (later rest : Text) → ((after : ℕ) → unescaped after false later ≡ Ok rest) → unescaped before false (bytes ++ later) ≡ Ok (value ++ rest)

nothing : Represent [] []
nothing = record {
  passed = λ at later. ap (λ (n : ℕ). text_end 34 n false later) (sym (add-zero at));
  means = λ before later rest read. read before;
}

-- ---- bytes that represent themselves

abbrev is_plain : ℕ → Bool
is_plain byte = not (byte == 34) && not (byte == 92)

plain_byte : (byte : ℕ) (bytes value : Text) → (byte == 34) ≡ false → (byte == 92) ≡ false → Represent bytes value → Represent (byte ∷ bytes) (byte ∷ value)
plain_byte byte bytes value no_quote no_slash inner = record {
  passed = λ at later. rw (no_quote, no_slash) (inner.passed (at + 1) later ∙ ap (λ (n : ℕ). text_end 34 n false later) (omega arith));
  means = λ before later rest read. rw (no_slash, inner.means (before + 1) later rest read) refl;
}

-- ---- a backslash and a byte

escape_pair : (byte is_there : ℕ) (bytes value : Text)
    → ((at : ℕ) (later : Text) → text_end 34 at false (92 ∷ byte ∷ later) ≡ text_end 34 (at + 1 + 1) false later)
    → ((before : ℕ) (later : Text) → unescaped before false (92 ∷ byte ∷ later) ≡ with_byte is_there (unescaped (before + 1 + 1) false later))
    → Represent bytes value → Represent (92 ∷ byte ∷ bytes) (is_there ∷ value)
escape_pair byte is_there bytes value ends reads inner = record {
  passed = λ at later. ends at (bytes ++ later) ∙ (inner.passed (at + 1 + 1) later ∙ ap (λ (n : ℕ). text_end 34 n false later) (omega arith));
  means = λ before later rest read. reads before (bytes ++ later) ∙ rw (inner.means (before + 1 + 1) later rest read) refl;
}

-- ---- characters

-- bytes of a character that isn't a quote or a backslash
each_plain : (bytes : Text) → ((i : ℕ) → i < length bytes → (get_or bytes i 0 ≡ 34 → ⊥) × (get_or bytes i 0 ≡ 92 → ⊥)) → (later value : Text) → Represent later value → Represent (bytes ++ later) (bytes ++ value)
each_plain [] plain later value inner = inner
each_plain (byte ∷ bytes) plain later value inner =
    let here = plain 0 (omega arith) in
    plain_byte byte (bytes ++ later) (bytes ++ value) (ne_eqb byte 34 here.0) (ne_eqb byte 92 here.1) (each_plain bytes (λ i below. plain (suc i) (omega arith)) later value inner)

not_inside : (character sign : ℕ) → sign < 128 → (character ≡ sign → ⊥) → (i : ℕ) → i < length (encode character) → get_or (encode character) i 0 ≡ sign → ⊥
not_inside character sign small other i below is =
    let same = inside_one character [] (encode character) i (sym (append-nil (encode character))) below (omega arith) in
    other (same ∙ is)

itself : (character : ℕ) (later value : Text) → (character ≡ 34 → ⊥) → (character ≡ 92 → ⊥) → Represent later value → Represent (encode character ++ later) (encode character ++ value)
itself character later value no_quote no_slash inner =
    each_plain (encode character) (λ i below. (not_inside character 34 (omega arith) no_quote i below, not_inside character 92 (omega arith) no_slash i below)) later value inner

-- ---- what is shown of a character that isn't those before

abbrev code_or : ℕ → List ℕ
code_or character = if moves character then code_escape character else encode_utf8 character

abbrev tab_or : ℕ → List ℕ
tab_or character = if character == 9 then codes "\\t" else code_or character

abbrev return_or : ℕ → List ℕ
return_or character = if character == 13 then codes "\\r" else tab_or character

abbrev line_or : ℕ → List ℕ
line_or character = if character == 10 then codes "\\n" else return_or character

abbrev slash_or : ℕ → List ℕ
slash_or character = if character == 92 then codes "\\\\" else line_or character

module _ (character : ℕ) (later value : Text) (inner : Represent later value) where
  -- it is this ASCII character, by a pair
  as_pair : (byte is_there : ℕ) → is_there < 128 → character ≡ is_there → Represent (92 ∷ byte ∷ later) (is_there ∷ value) → Represent (92 ∷ byte ∷ later) (encode character ++ value)
  as_pair byte is_there small is pair =
      let one : encode character ≡ is_there ∷ [] = ap encode is ∙ encode_ascii is_there small in
      subst (Represent (92 ∷ byte ∷ later)) (sym (ap (λ (front : Text). front ++ value) one)) pair

  by_code : (moved : Bool) → (character ≡ 34 → ⊥) → (character ≡ 92 → ⊥) → moved ≡ false → Represent ((if moved then code_escape character else encode_utf8 character) ++ later) (encode character ++ value)
  by_code true no_quote no_slash is = absurd cc
  by_code false no_quote no_slash is = itself character later value no_quote no_slash inner

  by_tab : (test : Bool) → (character == 9) ≡ test → (character ≡ 34 → ⊥) → (character ≡ 92 → ⊥) → (test || not (moves character)) ≡ true → Represent ((if test then codes "\\t" else code_or character) ++ later) (encode character ++ value)
  by_tab true is no_quote no_slash has = as_pair 116 9 (omega arith) (eqb-true character 9 is) (escape_pair 116 9 later value (λ at more. refl) (λ before more. refl) inner)
  by_tab false is no_quote no_slash has = by_code (moves character) no_quote no_slash (not-true (moves character) has)

  by_return : (test : Bool) → (character == 13) ≡ test → (character ≡ 34 → ⊥) → (character ≡ 92 → ⊥) → (test || (character == 9 || not (moves character))) ≡ true → Represent ((if test then codes "\\r" else tab_or character) ++ later) (encode character ++ value)
  by_return true is no_quote no_slash has = as_pair 114 13 (omega arith) (eqb-true character 13 is) (escape_pair 114 13 later value (λ at more. refl) (λ before more. refl) inner)
  by_return false is no_quote no_slash has = by_tab (character == 9) refl no_quote no_slash has

  by_line : (test : Bool) → (character == 10) ≡ test → (character ≡ 34 → ⊥) → (character ≡ 92 → ⊥) → (test || (character == 13 || (character == 9 || not (moves character)))) ≡ true → Represent ((if test then codes "\\n" else return_or character) ++ later) (encode character ++ value)
  by_line true is no_quote no_slash has = as_pair 110 10 (omega arith) (eqb-true character 10 is) (escape_pair 110 10 later value (λ at more. refl) (λ before more. refl) inner)
  by_line false is no_quote no_slash has = by_return (character == 13) refl no_quote no_slash has

  by_slash : (test : Bool) → (character == 92) ≡ test → (character ≡ 34 → ⊥) → has_escape character ≡ true → Represent ((if test then codes "\\\\" else line_or character) ++ later) (encode character ++ value)
  by_slash true is no_quote has = as_pair 92 92 (omega arith) (eqb-true character 92 is) (escape_pair 92 92 later value (λ at more. refl) (λ before more. refl) inner)
  by_slash false is no_quote has = by_line (character == 10) refl no_quote (eqb-false character 92 is) has

  by_quote : (test : Bool) → (character == 34) ≡ test → has_escape character ≡ true → Represent ((if test then codes "\\\"" else slash_or character) ++ later) (encode character ++ value)
  by_quote true is has = as_pair 34 34 (omega arith) (eqb-true character 34 is) (escape_pair 34 34 later value (λ at more. refl) (λ before more. refl) inner)
  by_quote false is has = by_slash (character == 92) refl (eqb-false character 34 is) has

  -- each character represents for itself as it is escaped
  character_represents : has_escape character ≡ true → Represent (escaped character ++ later) (encode character ++ value)
  character_represents has = by_quote (character == 34) refl has

-- so do all characters of a text
characters_represent : (characters : List ℕ) → list_all has_escape characters ≡ true → Represent (flat_map escaped characters) (encodes characters)
characters_represent [] all = nothing
characters_represent (character ∷ characters) all =
    let parts = both_pass (has_escape character) (list_all has_escape characters) all in
    character_represents character (flat_map escaped characters) (encodes characters) (characters_represent characters parts.1) parts.0

-- ---- quoted texts

module _ (at : ℕ) (field : Bool) (inside value rest : Text) (inner : Represent inside value) where
  ends_there : text_end 34 0 false (inside ++ 34 ∷ rest) ≡ Some (length inside)
  ends_there = inner.passed 0 (34 ∷ rest) ∙ ap (λ (n : ℕ). Some n) (omega arith)

  reads_there : unescaped at false inside ≡ Ok value
  reads_there = ap (unescaped at false) (sym (append-nil inside)) ∙ (inner.means at [] [] (λ after. refl) ∙ ap (λ (all : Text). Ok all) (append-nil value))

  text_found : front_of at field (34 ∷ (inside ++ 34 ∷ []) ++ rest) ≡ piece_found (token (kinds.Text value) at (suc (length (inside ++ 34 ∷ []))))
  unfolding front_of token_of text_at_front
  text_found =
      let len : length inside + 2 ≡ suc (length (inside ++ 34 ∷ [])) = omega (arith, length-append inside (34 ∷ [])) in
      let taken : take (length inside) (inside ++ 34 ∷ rest) ≡ inside = take_at inside (34 ∷ rest) (length inside) refl in
      rw (append_assoc inside (34 ∷ []) rest, ends_there, taken, reads_there, len) refl

quote_cut : (inside value : Text) → Represent inside value → Lexes Any (34 ∷ inside ++ 34 ∷ []) (kinds.Text value ∷ [])
quote_cut inside value inner = one_token Any 34 (inside ++ 34 ∷ []) (kinds.Text value) (λ at field rest ends. text_found at field inside value rest inner)

take_all : (most : ℕ) (characters : List ℕ) → length characters ≤ most → take most characters ≡ characters
take_all zero [] short = refl
take_all (suc most) [] short = refl
take_all zero (character ∷ characters) short = absurd (omega arith)
take_all (suc most) (character ∷ characters) short = ap (λ (others : List ℕ). character ∷ others) (take_all most characters (omega arith))

quoted_is : (text : Text) → length (chars text) ≤ most_characters → 34 ∷ (flat_map escaped (chars text) ++ 34 ∷ []) ≡ quoted text
unfolding quoted
quoted_is text short = rw (take_all most_characters (chars text) short, le-ltb most_characters (length (chars text)) short) refl

pub quoted_cut : (text : Text) → CanBeQuoted text → Lexes Any (quoted text) (kinds.Text text ∷ [])
quoted_cut text can =
    let cut = quote_cut (flat_map escaped (chars text)) (encodes (chars text)) (characters_represent (chars text) can.plain) in
    let same : encodes (chars text) ≡ text = encodes-chars text can.utf8 in
    let shown = quoted_is text (leb-true _ _ can.short) in
    subst (λ (bytes : Text). Lexes Any bytes (kinds.Text text ∷ [])) shown
    (subst (λ (value : Text). Lexes Any (34 ∷ (flat_map escaped (chars text) ++ 34 ∷ [])) (kinds.Text value ∷ [])) same cut)
