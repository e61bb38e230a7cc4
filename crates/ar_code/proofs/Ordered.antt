-- The operations are in the order of their codes.
use Rattle.std.proofs.Common.{◌≡◌, ℕ, zero, suc, ◌+◌, ◌-◌, ◌<◌, Bool, true, false, ◌&&◌, eqb, List, [], ◌∷◌, None, refl, ap, ◌∙◌, arith}
use Rattle.std.specs.List.{slice_get}
use Rattle.std.proofs.lemmas.Bool.{eqb-true, eq-eqb, ne_eqb}
use Rattle.ar_op.specs.declared.op.Op.{Op}
use Rattle.ar_code.specs.Decoding.{all_ops, among}
use Rattle.ar_code.specs.Forms.{code_of}

and_left : (a b : Bool) → (a && b) ≡ true → a ≡ true
and_left true b e = refl
and_left false b e = absurd cc

and_right : (a b : Bool) → (a && b) ≡ true → b ≡ true
and_right true b e = e
and_right false b e = absurd cc

abbrev in_order : ℕ → List Op → Bool
in_order code [] = true
in_order code (op ∷ ops) = eqb (code_of op) code && in_order (suc code) ops

by_index : (ops : List Op) (first index : ℕ) → in_order first ops ≡ true → slice_get ops index ≡ among ops (first + index)
by_index [] first index ordered = refl
by_index (op ∷ ops) first zero ordered =
    let here : code_of op ≡ first = eqb-true (code_of op) first (and_left (eqb (code_of op) first) (in_order (suc first) ops) ordered) in
    let is : eqb (code_of op) (first + 0) ≡ true = eq-eqb (code_of op) (first + 0) (omega (arith, here)) in
    rw is refl
by_index (op ∷ ops) first (suc index) ordered =
    let here : code_of op ≡ first = eqb-true (code_of op) first (and_left (eqb (code_of op) first) (in_order (suc first) ops) ordered) in
    let other : eqb (code_of op) (first + suc index) ≡ false = ne_eqb (code_of op) (first + suc index) (λ same. omega (arith, here, same)) in
    let on : suc first + index ≡ first + suc index = omega arith in
    rw other (by_index ops (suc first) index (and_right (eqb (code_of op) first) (in_order (suc first) ops) ordered) ∙ ap (among ops) on)

pub op_by_index : (code : ℕ) → 0 < code → slice_get all_ops (code - 1) ≡ among all_ops code
op_by_index code positive =
    let whole : 1 + (code - 1) ≡ code = omega arith in
    by_index all_ops 1 (code - 1) refl ∙ ap (among all_ops) whole

pub no_op : (code : ℕ) → code < 1 → among all_ops code ≡ None
no_op zero below = refl
no_op (suc code) below = absurd (omega (arith, below))
