-- Words of a command line, one after another.
use Rattle.std.proofs.Common.{codes, cond, false, nat_eq, subst, ◌≡◌, ◌<◌, ◌≤◌, ℕ, suc, ◌+◌, arith, List, [], ◌∷◌, length, map, drop, Option, Some, None, refl, sym, ◌∙◌, ap, add-one, drop-cons}
use Rattle.std.specs.Prelude.{slice_index_or}
use Rattle.std.proofs.Math.ListN.{drop_of_length-le}
use Rattle.std.proofs.lemmas.Str.Pattern.{starts_text}
use Rattle.std.specs.List.{starts_with}
use Rattle.std.specs.Option.{option_and_then}
use Rattle.std.specs.Str.Pattern.{LacksTextAt}
use Rattle.ar_usage.specs.Words.{next_after, after_prefix, at_end, first_refused, name_of, value_given, value_in, option_value}
use Rattle.ar_usage.specs.declared.words.Next.{Next}
use Rattle.ar_usage.specs.declared.words.Valued.{Valued}

module _ {B : Type 0} (text : B → List ℕ) (words : List B) (index : ℕ) (word : B) (within : index < length words) (is : word ≡ slice_index_or words index word) where
  left : drop index words ≡ word ∷ drop (suc index) words
  left = drop-cons words index word within ∙ ap (λ first. first ∷ drop (suc index) words) (sym is)

  pub taken : (next following : Next) (total : Option (Next × List ℕ)) → next_after next (text word) ≡ Some following
      → first_refused next (map text (drop index words)) ≡ total → first_refused following (map text (drop (index + 1) words)) ≡ total
  unfolding first_refused
  taken next following total proceeds so_far =
      let first : first_refused next (text word ∷ map text (drop (suc index) words)) ≡ first_refused following (map text (drop (suc index) words)) = rw proceeds refl in
      rw (add-one index) (sym first ∙ ap (λ rest. first_refused next (map text rest)) (sym left) ∙ so_far)

  pub refused : (next : Next) (total : Option (Next × List ℕ)) → next_after next (text word) ≡ None
      → first_refused next (map text (drop index words)) ≡ total → Some (next, text word) ≡ total
  unfolding first_refused
  refused next total stops so_far =
      let first : first_refused next (text word ∷ map text (drop (suc index) words)) ≡ Some (next, text word) = rw stops refl in
      sym first ∙ ap (λ rest. first_refused next (map text rest)) (sym left) ∙ so_far

pub none_left : {B : Type 0} (text : B → List ℕ) (words : List B) (index : ℕ) (next : Next) (total : Option (Next × List ℕ)) → length words ≤ index
    → first_refused next (map text (drop index words)) ≡ total → at_end next ≡ total
unfolding first_refused
none_left text words index next total past so_far = ap (λ rest. first_refused next (map text rest)) (sym (drop_of_length-le words past)) ∙ so_far

-- ---- the value of an option

pub no_name : (option : Valued) (name word : List ℕ) → name ≡ name_of option → LacksTextAt name word 0 → None ≡ value_in option word
no_name option name word is lacks =
    let differs : false ≡ starts_with nat_eq word (name_of option) = starts_text false (name_of option) word (subst (λ (n : List ℕ). LacksTextAt n word 0) is lacks) in
    ap (λ b. option_and_then (after_prefix (codes "=")) (cond b (Some (drop (length (name_of option)) word)) None)) differs

module _ {B : Type 0} (text : B → List ℕ) (option : Valued) where
  module _ (words following : List B) (word : B) (first : words ≡ word ∷ following) (name : List ℕ) (is : name ≡ text word) (total : Option (List ℕ)) (so_far : value_given option (map text words) ≡ total) where
    pub value_found : (value : List ℕ) → Some value ≡ option_value option name (map text following) → Some value ≡ total
    unfolding value_given
    value_found value found =
        let now : value_given option (text word ∷ map text following) ≡ Some value = rw (sym (found ∙ ap (λ name. option_value option name (map text following)) is)) refl in
        sym now ∙ ap (λ words. value_given option (map text words)) (sym first) ∙ so_far

    pub no_value_yet : None ≡ option_value option name (map text following) → value_given option (map text following) ≡ total
    unfolding value_given
    no_value_yet missing =
        let now : value_given option (text word ∷ map text following) ≡ value_given option (map text following) = rw (sym (missing ∙ ap (λ name. option_value option name (map text following)) is)) refl in
        sym now ∙ ap (λ words. value_given option (map text words)) (sym first) ∙ so_far

  pub no_value : (words : List B) (total : Option (List ℕ)) → length words ≡ 0 → value_given option (map text words) ≡ total → None ≡ total
  unfolding value_given
  no_value [] total past so_far = so_far
  no_value (word ∷ words) total past so_far = absurd (omega arith)
