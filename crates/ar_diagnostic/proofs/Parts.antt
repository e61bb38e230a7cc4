-- Parts that may be there, one after another.
use Rattle.std.proofs.Common.{◌≡◌, List, [], ◌∷◌, ◌++◌, Option, Some, None, Result, Ok, Err, refl, ◌∙◌, ap}
use Rattle.std.specs.Prelude.{ℕ, IfOk, flat_map, map}
use Rattle.std.specs.List.{cons_option, filter_map, join_by}
use Rattle.std.proofs.lemmas.List.{append-nil, append_assoc}
use Rattle.ar_value.specs.Terms.{Text}

-- a part after others comes before the rest
before_rest : (found : List Text) (next : List Text) (part : Option Text) (rest : List Text) → next ≡ found ++ cons_option part [] → next ++ rest ≡ found ++ cons_option part rest
before_rest found next None rest is = ap (λ next. next ++ rest) (is ∙ append-nil found)
before_rest found next (Some part) rest is = ap (λ next. next ++ rest) is ∙ append_assoc found (part ∷ []) rest

-- one more part comes after those before it
pub six_parts : (rule found thing position excerpt hint : Option Text) (one two three four five six : List Text)
    → one ≡ cons_option rule [] → two ≡ one ++ cons_option found [] → three ≡ two ++ cons_option thing []
    → four ≡ three ++ cons_option position [] → five ≡ four ++ cons_option excerpt [] → six ≡ five ++ cons_option hint []
    → six ≡ filter_map (λ part. part) (rule ∷ found ∷ thing ∷ position ∷ excerpt ∷ hint ∷ [])
six_parts rule found thing position excerpt hint one two three four five six first second third fourth fifth sixth =
    let last = cons_option hint [] in
    let from_fifth = cons_option excerpt last in
    let from_fourth = cons_option position from_fifth in
    let from_third = cons_option thing from_fourth in
    sixth
    ∙ (before_rest four five excerpt last fifth
    ∙ (before_rest three four position from_fifth fourth
    ∙ (before_rest two three thing from_fourth third
    ∙ (before_rest one two found from_third second
    ∙ before_rest [] one rule (cons_option found from_third) first))))

module _ {X : Type 0} (text : X → List ℕ) (separator : List ℕ) where
  others : (parts : List X) → flat_map (λ part. separator ++ text part) parts ≡ flat_map (λ part. separator ++ part) (map text parts)
  others [] = refl
  others (part ∷ parts) = ap (λ rest. (separator ++ text part) ++ rest) (others parts)

  by_text : (parts : List X) → join_by text separator parts ≡ join_by (λ part. part) separator (map text parts)
  by_text [] = refl
  by_text (part ∷ parts) = ap (λ rest. text part ++ rest) (others parts)

  -- parts are joined by their texts
  pub joined : {W E : Type 0} (bytes : W → List ℕ) (parts : List X) (found : List Text) (result : Result W E) → map text parts ≡ found
      → IfOk result (λ words. bytes words ≡ join_by text separator parts) → IfOk result (λ words. bytes words ≡ join_by (λ part. part) separator found)
  joined bytes parts found (Ok words) are is = is ∙ (by_text parts ∙ ap (join_by (λ part. part) separator) are)
  joined bytes parts found (Err error) are is = is
