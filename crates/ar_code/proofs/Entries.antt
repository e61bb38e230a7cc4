-- Entries of a table by their numbers, and lines of a listing one after the other.
use Rattle.std.proofs.Common.{◌≡◌, ℕ, suc, ◌+◌, ◌<◌, ◌≤◌, List, [], ◌∷◌, ◌++◌, length, map, drop, get_or, ◌∙◌, ap, sym, append_assoc, add-one, drop-cons}
use Rattle.std.specs.Prelude.{slice_index_or}
use Rattle.std.proofs.Math.ListN.{drop_of_length-le}
use Rattle.std.proofs.lemmas.List.{append-nil, get_or-map, get_or_past, length-map}
use Rattle.ar_op.specs.Code.{Code}
use Rattle.ar_op.specs.declared.op.Op.{Op}
use Rattle.ar_code.specs.Listing.{line, lines}

pub entry_there : {A : Type 0} (f : A → List ℕ) (xs : List A) (n : ℕ) (x : A) → n < length xs → x ≡ slice_index_or xs n x → f x ≡ get_or (map f xs) n []
entry_there f xs n x within is = ap f is ∙ sym (get_or-map f xs n x [] within)

pub no_entry : {A : Type 0} (f : A → List ℕ) (xs : List A) (n : ℕ) → length xs ≤ n → [] ≡ get_or (map f xs) n []
no_entry f xs n past = sym (get_or_past (map f xs) n [] (rw (length-map xs f) past))

-- one more line comes after those that were written
pub next_line : (code : Code) (ops : List Op) (index : ℕ) (op : Op) (written total : List ℕ) → index < length ops → op ≡ slice_index_or ops index op → written ++ lines code index (drop index ops) ≡ total
    → (written ++ line code index op) ++ lines code (index + 1) (drop (index + 1) ops) ≡ total
next_line code ops index op written total within is so_far =
    let rest : drop index ops ≡ op ∷ drop (suc index) ops = drop-cons ops index op within ∙ ap (λ x. x ∷ drop (suc index) ops) (sym is) in
    rw (add-one index) (append_assoc written (line code index op) (lines code (suc index) (drop (suc index) ops)) ∙ ap (λ ls. written ++ lines code index ls) (sym rest) ∙ so_far)

-- no line is left
pub no_line : (code : Code) (ops : List Op) (index : ℕ) (written total : List ℕ) → length ops ≤ index → written ++ lines code index (drop index ops) ≡ total → written ≡ total
no_line code ops index written total past so_far =
    sym (append-nil written) ∙ ap (λ (ls : List Op). written ++ lines code index ls) (sym (drop_of_length-le ops past)) ∙ so_far
