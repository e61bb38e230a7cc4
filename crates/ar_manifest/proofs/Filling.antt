-- One reference of a text after another.
use Rattle.std.proofs.Common.{◌≡◌, ◌<◌, ℕ, Bool, true, false, List, [], ◌++◌, length, refl, sym, ◌∙◌, ap, append_assoc, arith, Option, Some, None, Result, Ok, Err}
use Rattle.std.specs.Prelude.{codes}
use Rattle.std.proofs.lemmas.Bool.Decides.{nat_tests}
use Rattle.std.proofs.lemmas.List.{length-append}
use Rattle.ar_value.specs.Answer.{◌>>=◌}
use Rattle.ar_manifest.specs.Binding.{RunArguments, bound_text, filled, referred_value}
use Rattle.ar_manifest.specs.Cut.{reference, cut_at, parts_of}
use Rattle.ar_manifest.specs.Private.Within.{is_within, joined, text_within, within}
use Rattle.ar_manifest.specs.Template.{TemplateArguments}
use Rattle.ar_manifest.specs.declared.error.ManifestError.{ManifestError}
use Rattle.ar_manifest.specs.declared.error.ManifestError.TheVariants.{OpenBraces}
use Rattle.ar_manifest.proofs.TextParts.{parts_of-reference, parts_of-unclosed, parts_of-whole}

-- ---- pieces

-- a text that has too many bytes has them with more at its end, too
longer : (most : Option ℕ) (text more : List ℕ) → is_within most text ≡ false → is_within most (text ++ more) ≡ false
longer None text more long = absurd cc
longer (Some most) text more long =
    let above : most < length text = grind (arith, nat_tests, long) in
    rw (length-append text more) (grind (arith, nat_tests, above))

kept_within : (most : Option ℕ) (text : List ℕ) → is_within most text ≡ true → within most text ≡ Some text
unfolding within
kept_within most text short = rw short refl

not_within : (most : Option ℕ) (text : List ℕ) → is_within most text ≡ false → within most text ≡ None
unfolding within
not_within most text long = rw long refl

-- two pieces are one
joined-twice : (most : Option ℕ) (kept : Option (List ℕ)) (first second : List ℕ) → joined most (joined most kept first) second ≡ joined most kept (first ++ second)
unfolding joined
joined-twice most None first second = refl
joined-twice most (Some front) first second = by_test (is_within most (front ++ first)) refl
  where
    by_test : (short : Bool) → is_within most (front ++ first) ≡ short → joined most (within most (front ++ first)) second ≡ within most (front ++ (first ++ second))
    by_test true short = ap (λ kept. joined most kept second) (kept_within most (front ++ first) short) ∙ ap (within most) (append_assoc front first second)
    by_test false long =
        ap (λ kept. joined most kept second) (not_within most (front ++ first) long)
        ∙ sym (ap (within most) (sym (append_assoc front first second)) ∙ not_within most (front ++ first ++ second) (longer most (front ++ first) second long))

-- nothing is kept yet
joined-empty : (most : Option ℕ) (text : List ℕ) → joined most (Some []) text ≡ within most text
unfolding joined
joined-empty most text = refl

-- ---- references

-- what is kept of what is bound already, with an answer at its end
abbrev pub with_kept : Option ℕ → Option (List ℕ) → Result (List ℕ) ManifestError → Result (Option (List ℕ)) ManifestError
with_kept most kept answer = answer >>= λ opened. Ok (joined most kept opened)

-- two pieces at once
with_kept-twice : (most : Option ℕ) (kept : Option (List ℕ)) (before value : List ℕ) (answer : Result (List ℕ) ManifestError)
    → with_kept most kept (answer >>= λ opened. Ok (before ++ (value ++ opened))) ≡ with_kept most (joined most (joined most kept before) value) answer
with_kept-twice most kept before value (Ok opened) =
    ap (λ (text : Option (List ℕ)). Ok text) (sym (joined-twice most (joined most kept before) value opened ∙ joined-twice most kept before (value ++ opened)))
with_kept-twice most kept before value (Err refusal) = refl

-- nothing is bound
pub bind_begin : (arguments : TemplateArguments) (own : RunArguments) (i : ℕ) (most : Option ℕ) (front text : List ℕ) → front ≡ []
    → with_kept most (Some front) (filled arguments own i (parts_of text)) ≡ text_within arguments own i most text
unfolding bound_text text_within
bind_begin arguments own i most front text is = ap (λ empty. with_kept most (Some empty) (filled arguments own i (parts_of text))) is ∙ no_front (filled arguments own i (parts_of text))
  where
    no_front : (answer : Result (List ℕ) ManifestError) → with_kept most (Some []) answer ≡ (answer >>= λ bound. Ok (within most bound))
    no_front (Ok opened) = ap (λ (text : Option (List ℕ)). Ok text) (joined-empty most opened)
    no_front (Err refusal) = refl

module _ (arguments : TemplateArguments) (own : RunArguments) (i : ℕ) (most : Option ℕ) (kept : Option (List ℕ)) (text : List ℕ) (all : Result (Option (List ℕ)) ManifestError)
    (so_far : with_kept most kept (filled arguments own i (parts_of text)) ≡ all) where
  -- no reference is left
  pub bind_end : (bound : Option (List ℕ)) → cut_at (codes "{{") text ≡ None → bound ≡ joined most kept text → all ≡ Ok bound
  unfolding filled
  bind_end bound none is = sym so_far ∙ ap (λ parts. with_kept most kept (filled arguments own i parts)) (parts_of-whole text none) ∙ ap (λ (done : Option (List ℕ)). Ok done) (sym is)

  module _ (before opened : List ℕ) (opens : cut_at (codes "{{") text ≡ Some (before, opened)) where
    -- a reference without end
    pub bind_open : cut_at (codes "}}") opened ≡ None → all ≡ Err (OpenBraces i)
    unfolding filled
    bind_open none = sym so_far ∙ ap (λ parts. with_kept most kept (filled arguments own i parts)) (parts_of-unclosed text (before, opened) opens none)

    module _ (between after : List ℕ) (closes : cut_at (codes "}}") opened ≡ Some (between, after)) where
      cut_reference : all ≡ with_kept most kept (filled arguments own i (reference before between (parts_of after)))
      cut_reference = sym so_far ∙ ap (λ parts. with_kept most kept (filled arguments own i parts)) (parts_of-reference text (before, opened) opens (between, after) closes)

      -- a reference without a value
      pub bind_fault : (refusal : ManifestError) → referred_value arguments own i between ≡ Err refusal → all ≡ Err refusal
      unfolding filled
      bind_fault refusal refused = cut_reference ∙ rw refused refl

      -- a reference with its value
      pub bind_more : (value : List ℕ) (some more : Option (List ℕ)) → referred_value arguments own i between ≡ Ok value → some ≡ joined most kept before → more ≡ joined most some value
          → with_kept most more (filled arguments own i (parts_of after)) ≡ all
      unfolding filled
      bind_more value some more given is_some is_more =
          ap (λ kept. with_kept most kept (filled arguments own i (parts_of after))) (is_more ∙ ap (λ first. joined most first value) is_some)
          ∙ sym (with_kept-twice most kept before value (filled arguments own i (parts_of after)))
          ∙ sym (cut_reference ∙ rw given refl)
