-- Lines, printed one after another, character by character.
use Rattle.std.proofs.Common.{◌≡◌, ℕ, suc, ◌+◌, ◌<◌, ◌≤◌, Bool, true, false, not, List, [], ◌∷◌, ◌++◌, length, get_or, drop, refl, ◌∙◌, ap, sym, append_assoc, add-one, drop-cons}
use Rattle.std.specs.Prelude.{codes, if◌then◌else◌, ◌==◌}
use Rattle.std.specs.Char.{encode_utf8}
use Rattle.std.proofs.Math.ListN.{drop_of_length-le}
use Rattle.std.proofs.lemmas.List.{append-nil}
use Rattle.cases_of_values.specs.Printing.{between, in_one_line, line_end}

-- what is left to write after some characters, of which the last one is a line's end or not
abbrev pub left : (ended : Bool) → (later : List ℕ) → List ℕ
left ended later = (if ended then line_end later else []) ++ in_one_line later

abbrev pub written_of : (ended : Bool) → (character : ℕ) → List ℕ
written_of ended character = between (not ended) (codes " / ") ++ (if character == 10 then [] else encode_utf8 character)

splits : (ended is_end : Bool) (text later : List ℕ) (rest : List ℕ)
    → (between (not ended) (codes " / ") ++ (if is_end then [] else text)) ++ ((if is_end then later else []) ++ rest) ≡ (if ended then codes " / " else []) ++ ((if is_end then later else text) ++ rest)
splits true true text later rest = refl
splits true false text later rest = refl
splits false true text later rest = refl
splits false false text later rest = refl

pub next_character : (cs : List ℕ) (n c : ℕ) (ended : Bool) (written total : List ℕ) → (n < length cs) × (c ≡ get_or cs n c) → written ++ left ended (drop n cs) ≡ total
    → (written ++ written_of ended c) ++ left (c == 10) (drop (n + 1) cs) ≡ total
next_character cs n c ended written total turn so_far =
    let here : drop n cs ≡ c ∷ drop (suc n) cs = drop-cons cs n c turn.0 ∙ ap (λ x. x ∷ drop (suc n) cs) (sym turn.1) in
    rw (add-one n) (append_assoc written (written_of ended c) (left (c == 10) (drop (suc n) cs)) ∙ ap (λ t. written ++ t) (splits ended (c == 10) (encode_utf8 c) (line_end (drop (suc n) cs)) (in_one_line (drop (suc n) cs))) ∙ ap (λ cs. written ++ left ended cs) (sym here) ∙ so_far)

none_left : (ended : Bool) → left ended [] ≡ []
none_left true = refl
none_left false = refl

pub no_character : (cs : List ℕ) (n : ℕ) (ended : Bool) (written total : List ℕ) → length cs ≤ n → written ++ left ended (drop n cs) ≡ total → written ≡ total
no_character cs n ended written total past so_far =
    sym (append-nil written) ∙ ap (λ t. written ++ t) (sym (none_left ended)) ∙ ap (λ cs. written ++ left ended cs) (sym (drop_of_length-le cs past)) ∙ so_far
