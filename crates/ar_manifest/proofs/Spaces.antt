-- Spaces at the ends of a text.
use Rattle.std.proofs.Common.{◌≡◌, ◌≢◌, ◌-◌, ℕ, Bool, true, false, List, [], ◌∷◌, ◌++◌, length, take, drop, reverse, refl, sym, ◌∙◌, ap, arith, Option, Some, None}
use Rattle.std.specs.Prelude.{◌==◌, IfSome}
use Rattle.std.specs.Char.{encode_utf8}
use Rattle.std.specs.Str.Pattern.{CutsPrefixes, CutsSuffixes, FindsCharPrefix, FindsCharSuffix, IsTrimEndMatches, IsTrimStartMatches}
use Rattle.std.proofs.lemmas.List.{drop_all, reverse-append, reverse-reverse, take-append-drop}
use Rattle.std.proofs.lemmas.Bool.Decides.{Decides-eqb}
use Rattle.std.proofs.lemmas.Str.{encode_ascii}
use Rattle.std.proofs.lemmas.Str.Pattern.{drop_at_char}
use Rattle.ar_manifest.specs.Binding.{without_leading_spaces, without_trailing_spaces}

-- a space is one byte
space_byte : encode_utf8 32 ≡ 32 ∷ []
space_byte = encode_ascii 32 (omega arith)

-- a space at the front is cut
leading_space : (text : List ℕ) (n : ℕ) → FindsCharPrefix 32 text (Some n) → text ≡ 32 ∷ drop n text
leading_space text n at = drop_at_char 32 text 0 n at (omega arith)

-- cutting spaces off the front changes nothing
cut_leading : (text : List ℕ) (lengths : List ℕ) (left : List ℕ) → CutsPrefixes (FindsCharPrefix 32) text lengths left → without_leading_spaces text ≡ without_leading_spaces left
cut_leading text [] left e = ap without_leading_spaces (sym e)
cut_leading text (n ∷ lengths) left cuts =
    let before = cut_leading text lengths cuts.0 cuts.1 in
    let space = leading_space cuts.0 n cuts.2 in
    before ∙ ap without_leading_spaces space ∙ ap without_leading_spaces (sym cuts.3)

-- a text with no space at its front stays
no_leading : (text : List ℕ) → ((rest : List ℕ) → text ≢ 32 ∷ rest) → without_leading_spaces text ≡ text
no_leading [] none = refl
no_leading (byte ∷ text) none = by (byte == 32) refl
  where
    by : (test : Bool) → (byte == 32) ≡ test → without_leading_spaces (byte ∷ text) ≡ byte ∷ text
    by true is = absurd (none text (ap (λ first. first ∷ text) ((Decides-eqb byte 32).0 is)))
    by false is = rw is refl

no_space_before : (text : List ℕ) (length : Option ℕ) → FindsCharPrefix 32 text length → IfSome length (λ n. n ≡ 0) → (rest : List ℕ) → text ≢ 32 ∷ rest
no_space_before text None lacks none rest e = lacks rest (e ∙ ap (λ space. space ++ rest) (sym space_byte))
no_space_before text (Some n) at none rest e = absurd (omega (arith, at.ends, none))

pub trim_start_cuts : (text left : List ℕ) → IsTrimStartMatches (FindsCharPrefix 32) text left → left ≡ without_leading_spaces text
trim_start_cuts text left trims =
    sym (cut_leading text trims.0.0 left trims.0.1 ∙ no_leading left (no_space_before left trims.1.0 trims.1.1 trims.1.2))

-- a space at the end is cut
trailing_space : (text : List ℕ) (n : ℕ) → FindsCharSuffix 32 text (Some n) → reverse text ≡ 32 ∷ reverse (take (length text - n) text)
trailing_space text n at =
    let last : drop (length text - n) text ≡ 32 ∷ [] = drop_at_char 32 text (length text - n) (length text) at.1 (omega arith) ∙ ap (λ rest. 32 ∷ rest) (drop_all (length text) text (omega arith)) in
    ap reverse (sym (take-append-drop (length text - n) text) ∙ ap (λ rest. take (length text - n) text ++ rest) last)
    ∙ reverse-append (take (length text - n) text) (32 ∷ [])

-- cutting spaces off the end changes nothing
cut_trailing : (text : List ℕ) (lengths : List ℕ) (left : List ℕ) → CutsSuffixes (FindsCharSuffix 32) text lengths left → without_leading_spaces (reverse text) ≡ without_leading_spaces (reverse left)
cut_trailing text [] left e = ap (λ rest. without_leading_spaces (reverse rest)) (sym e)
cut_trailing text (n ∷ lengths) left cuts =
    cut_trailing text lengths cuts.0 cuts.1
    ∙ ap without_leading_spaces (trailing_space cuts.0 n cuts.2)
    ∙ ap (λ rest. without_leading_spaces (reverse rest)) (sym cuts.3)

no_space_after : (text : List ℕ) (length : Option ℕ) → FindsCharSuffix 32 text length → IfSome length (λ n. n ≡ 0) → (rest : List ℕ) → reverse text ≢ 32 ∷ rest
no_space_after text None lacks none rest e = lacks (reverse rest) (sym (reverse-reverse text) ∙ ap reverse e ∙ reverse-append (32 ∷ []) rest ∙ ap (λ space. reverse rest ++ space) (sym space_byte))
no_space_after text (Some n) at none rest e = absurd (omega (arith, at.0, none))

pub trim_end_cuts : (text left : List ℕ) → IsTrimEndMatches (FindsCharSuffix 32) text left → left ≡ without_trailing_spaces text
trim_end_cuts text left trims =
    sym (ap reverse (cut_trailing text trims.0.0 left trims.0.1 ∙ no_leading (reverse left) (no_space_after left trims.1.0 trims.1.1 trims.1.2)) ∙ reverse-reverse left)
