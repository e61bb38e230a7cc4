-- The parts of a text.
use Rattle.std.proofs.Common.{◌≡◌, ◌≤◌, ◌+◌, ℕ, zero, suc, List, [], ◌∷◌, length, refl, ◌∙◌, ap, arith, Option, Some, None}
use Rattle.std.specs.Prelude.{codes}
use Rattle.ar_manifest.specs.Cut.{whole, unclosed, reference, closed_parts, cut_at, opened_parts, parts_of, parts_within}
use Rattle.ar_manifest.proofs.Cuts.{cut_at-shorter}

-- what comes after both braces is shorter than the text
pub shorter : (text : List ℕ) (opened closed : List ℕ × List ℕ) → cut_at (codes "{{") text ≡ Some opened → cut_at (codes "}}") opened.1 ≡ Some closed → length closed.1 + 4 ≤ length text
shorter text opened closed opens closes =
    omega (arith, cut_at-shorter (codes "{{") text opened opens, cut_at-shorter (codes "}}") opened.1 closed closes)

module _ (text : List ℕ) (n m : ℕ) where
  closed_enough : (opened : List ℕ × List ℕ) (found : Option (List ℕ × List ℕ)) → cut_at (codes "}}") opened.1 ≡ found
      → ((closed : List ℕ × List ℕ) → found ≡ Some closed → parts_within n closed.1 ≡ parts_within m closed.1)
      → closed_parts (parts_within n) opened.0 found ≡ closed_parts (parts_within m) opened.0 found
  closed_enough opened None is same = refl
  closed_enough opened (Some closed) is same = ap (reference opened.0 closed.0) (same closed refl)

  opened_enough : (found : Option (List ℕ × List ℕ)) → cut_at (codes "{{") text ≡ found
      → ((opened closed : List ℕ × List ℕ) → found ≡ Some opened → cut_at (codes "}}") opened.1 ≡ Some closed → parts_within n closed.1 ≡ parts_within m closed.1)
      → opened_parts (parts_within n) text found ≡ opened_parts (parts_within m) text found
  opened_enough None is same = refl
  opened_enough (Some opened) is same = closed_enough opened (cut_at (codes "}}") opened.1) refl (λ closed. same opened closed refl)

-- more cuts than bytes change nothing
parts_within-enough : (n m : ℕ) (text : List ℕ) → length text ≤ n → length text ≤ m → parts_within n text ≡ parts_within m text
unfolding parts_within cut_at
parts_within-enough zero zero text few few' = refl
parts_within-enough zero (suc m) [] few few' = refl
parts_within-enough zero (suc m) (byte ∷ text) few few' = absurd (omega arith)
parts_within-enough (suc n) zero [] few few' = refl
parts_within-enough (suc n) zero (byte ∷ text) few few' = absurd (omega arith)
parts_within-enough (suc n) (suc m) text few few' =
    opened_enough text n m (cut_at (codes "{{") text) refl
    (λ opened closed opens closes. let less = shorter text opened closed opens closes in parts_within-enough n m closed.1 (omega (arith, less)) (omega (arith, less)))

-- a text that isn't empty is cut
parts_of-some : (text : List ℕ) (n : ℕ) → length text ≡ suc n → parts_of text ≡ opened_parts (parts_within n) text (cut_at (codes "{{") text)
unfolding parts_of parts_within
parts_of-some text n some = ap (λ cuts. parts_within cuts text) some

module _ (text : List ℕ) where
  by_length : (n : ℕ) → length text ≡ n → cut_at (codes "{{") text ≡ None → parts_of text ≡ whole text
  unfolding parts_of parts_within
  by_length zero is none = ap (λ cuts. parts_within cuts text) is
  by_length (suc n) is none = parts_of-some text n is ∙ ap (opened_parts (parts_within n) text) none

  -- a text without `{{`
  pub parts_of-whole : cut_at (codes "{{") text ≡ None → parts_of text ≡ whole text
  parts_of-whole = by_length (length text) refl

  module _ (opened : List ℕ × List ℕ) (opens : cut_at (codes "{{") text ≡ Some opened) where
    opened_by_length : (n : ℕ) → length text ≡ n → parts_of text ≡ closed_parts (parts_within (length text)) opened.0 (cut_at (codes "}}") opened.1)
    opened_by_length zero is = absurd (omega (arith, cut_at-shorter (codes "{{") text opened opens))
    opened_by_length (suc n) is =
        parts_of-some text n is ∙ ap (opened_parts (parts_within n) text) opens
        ∙ closed_enough text n (length text) opened (cut_at (codes "}}") opened.1) refl
        (λ closed closes. let less = shorter text opened closed opens closes in parts_within-enough n (length text) closed.1 (omega (arith, less)) (omega (arith, less)))

    -- a text with `{{`, and no `}}` after
    pub parts_of-unclosed : cut_at (codes "}}") opened.1 ≡ None → parts_of text ≡ unclosed opened.0
    parts_of-unclosed none = opened_by_length (length text) refl ∙ ap (closed_parts (parts_within (length text)) opened.0) none

    -- a text with both
    pub parts_of-reference : (closed : List ℕ × List ℕ) → cut_at (codes "}}") opened.1 ≡ Some closed → parts_of text ≡ reference opened.0 closed.0 (parts_of closed.1)
    unfolding parts_of
    parts_of-reference closed closes =
        let less = shorter text opened closed opens closes in
        opened_by_length (length text) refl ∙ ap (closed_parts (parts_within (length text)) opened.0) closes
        ∙ ap (reference opened.0 closed.0) (parts_within-enough (length text) (length closed.1) closed.1 (omega (arith, less)) (omega arith))
