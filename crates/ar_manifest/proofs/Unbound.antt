-- References without a value.
use Rattle.std.proofs.Common.{◌≡◌, ℕ, true, false, List, refl, sym, ◌∙◌, ap, Option, Some, None}
use Rattle.std.specs.Prelude.{codes, is_ok}
use Rattle.ar_manifest.specs.Binding.{RunArguments, referred_value, trimmed}
use Rattle.ar_manifest.specs.Cut.{reference, cut_at, parts_of}
use Rattle.ar_manifest.specs.Found.{unbound_in}
use Rattle.ar_manifest.specs.Template.{TemplateArguments}
use Rattle.ar_manifest.proofs.TextParts.{parts_of-reference, parts_of-unclosed, parts_of-whole}

module _ (arguments : TemplateArguments) (own : RunArguments) (i : ℕ) (text : List ℕ) (all : Option (List ℕ)) (so_far : unbound_in arguments own i (parts_of text) ≡ all) where
  -- no reference is left
  pub no_reference : cut_at (codes "{{") text ≡ None → all ≡ None
  unfolding unbound_in
  no_reference none = sym so_far ∙ ap (unbound_in arguments own i) (parts_of-whole text none)

  module _ (before opened : List ℕ) (opens : cut_at (codes "{{") text ≡ Some (before, opened)) where
    -- a reference without end
    pub no_end : cut_at (codes "}}") opened ≡ None → all ≡ None
    unfolding unbound_in
    no_end none = sym so_far ∙ ap (unbound_in arguments own i) (parts_of-unclosed text (before, opened) opens none)

    module _ (between after : List ℕ) (closes : cut_at (codes "}}") opened ≡ Some (between, after)) where
      cut_reference : all ≡ unbound_in arguments own i (reference before between (parts_of after))
      cut_reference = sym so_far ∙ ap (unbound_in arguments own i) (parts_of-reference text (before, opened) opens (between, after) closes)

      -- a reference without a value
      pub without_value : is_ok (referred_value arguments own i between) ≡ false → all ≡ Some (trimmed between)
      unfolding unbound_in
      without_value none = cut_reference ∙ rw none refl

      -- a reference with a value
      pub after_value : is_ok (referred_value arguments own i between) ≡ true → unbound_in arguments own i (parts_of after) ≡ all
      unfolding unbound_in
      after_value some = sym (cut_reference ∙ rw some refl)
