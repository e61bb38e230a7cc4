-- The code of a tree is where it was put.
use Rattle.std.specs.Prelude.{slice_get}
use Rattle.std.proofs.Common.{◌≡◌, ℕ, zero, suc, ◌+◌, Bool, true, false, cond, List, [], ◌∷◌, ◌++◌, length, Some, refl, sym, ap, subst, ◌∙◌, append_assoc, arith}
use Rattle.std.specs.Str.{bytes_eq}
use Rattle.std.proofs.lemmas.List.{length-append}
use Rattle.std.proofs.lemmas.Slice.Eq.{bytes_eq-Decides}
use Rattle.ar_tree.specs.Typed.{Typed, Typeds, how_many}
use Rattle.ar_tree.specs.Typed as typed
use Rattle.ar_tree.specs.declared.tree.Literal.{Literal}
use Rattle.ar_tree.specs.declared.tree.Literal.TheVariants as literals
use Rattle.ar_op.specs.Code.{Code, code_of_parts}
use Rattle.ar_op.specs.declared.op.Op.{Op}
use Rattle.ar_op.specs.declared.op.Jump.TheVariants as jumps
use Rattle.ar_op.specs.declared.op.Op.TheVariants.{MakeList, Field, Jump, Enter, Step, Return, Unary, Binary}
use Rattle.ar_compile.specs.Compiled.{Tables, code_at, compiled, items_at, literal_op, literal_tables, no_tables, index_among, tables_with, tables_with_items, with_text}
use Rattle.ar_compile.specs.Length.{operations, operations_of_items}
use Rattle.ar_compile.specs.Private.Standing.{At, AreItemsAt, IsAt, IsLiteralAt}

-- ---- lengths

pub one_length : (xs : List Op) (op : Op) (m : ℕ) → length xs ≡ m → length (xs ++ op ∷ []) ≡ m + 1
one_length xs op m h = length-append xs (op ∷ []) ∙ ap (λ n. n + 1) h

two_sum : (m n : ℕ) → m + (n + 1) ≡ m + n + 1
two_sum m n = omega arith

two_lengths : (xs ys : List Op) (op : Op) (m n : ℕ) → length xs ≡ m → length ys ≡ n → length (xs ++ (ys ++ op ∷ [])) ≡ m + n + 1
two_lengths xs ys op m n h k = length-append xs (ys ++ op ∷ []) ∙ rw (h, one_length ys op n k) (two_sum m n)

around_sum : (m n : ℕ) → m + suc n ≡ m + 1 + n
around_sum m n = omega arith

pub around_length : (xs ys : List Op) (op : Op) (m n : ℕ) → length xs ≡ m → length ys ≡ n → length (xs ++ (op ∷ ys)) ≡ m + 1 + n
around_length xs ys op m n h k = length-append xs (op ∷ ys) ∙ rw (h, k) (around_sum m n)

three_sum : (l m n : ℕ) → l + 1 + (m + 1 + n) ≡ l + 1 + m + 1 + n
three_sum l m n = omega arith

loop_sum : (m n : ℕ) → m + 1 + (n + 1) ≡ m + 1 + n + 1
loop_sum m n = omega arith

mutual
  pub length_is : (index : ℕ) (tables : Tables) (tree : Typed) → length (code_at index tables tree) ≡ operations tree
  length_is index tables typed.result = refl
  length_is index tables typed.item = refl
  length_is index tables (typed.literal literal) = refl
  length_is index tables (typed.field owner name) = one_length (code_at index tables owner) (Field (index_among name (tables_with owner tables).names)) (operations owner) (length_is index tables owner)
  length_is index tables (typed.unary operator operand) = one_length (code_at index tables operand) (Unary operator) (operations operand) (length_is index tables operand)
  length_is index tables (typed.binary operator left right) =
      two_lengths (code_at index tables left) (code_at (index + operations left) (tables_with left tables) right) (Binary operator) (operations left) (operations right)
      (length_is index tables left) (length_is (index + operations left) (tables_with left tables) right)
  length_is index tables (typed.both left right) =
      around_length (code_at index tables left) (code_at (index + operations left + 1) (tables_with left tables) right) (Jump jumps.And (index + operations left + 1 + operations right)) (operations left) (operations right)
      (length_is index tables left) (length_is (index + operations left + 1) (tables_with left tables) right)
  length_is index tables (typed.either left right) =
      around_length (code_at index tables left) (code_at (index + operations left + 1) (tables_with left tables) right) (Jump jumps.Or (index + operations left + 1 + operations right)) (operations left) (operations right)
      (length_is index tables left) (length_is (index + operations left + 1) (tables_with left tables) right)
  length_is index tables (typed.choice condition then_branch else_branch) =
      let p = index + operations condition + 1 in
      let q = p + operations then_branch + 1 in
      let then_code = code_at p (tables_with condition tables) then_branch in
      let else_code = code_at q (tables_with then_branch (tables_with condition tables)) else_branch in
      let later = around_length then_code else_code (Jump jumps.Always (q + operations else_branch)) (operations then_branch) (operations else_branch) (length_is p (tables_with condition tables) then_branch) (length_is q (tables_with then_branch (tables_with condition tables)) else_branch) in
      around_length (code_at index tables condition) (then_code ++ (Jump jumps.Always (q + operations else_branch) ∷ else_code)) (Jump jumps.Branch q) (operations condition) (operations then_branch + 1 + operations else_branch) (length_is index tables condition) later
      ∙ three_sum (operations condition) (operations then_branch) (operations else_branch)
  length_is index tables (typed.listed scalar items) = one_length (items_at index tables items) (MakeList scalar (how_many items)) (operations_of_items items) (items_length index tables items)
  length_is index tables (typed.predicate predicate list body) =
      let p = index + operations list + 1 in
      let body_code = code_at p (tables_with list tables) body in
      let later = one_length body_code (Step predicate (index + operations list)) (operations body) (length_is p (tables_with list tables) body) in
      around_length (code_at index tables list) (body_code ++ Step predicate (index + operations list) ∷ []) (Enter predicate (p + operations body)) (operations list) (operations body + 1) (length_is index tables list) later
      ∙ loop_sum (operations list) (operations body)

  pub items_length : (index : ℕ) (tables : Tables) (items : Typeds) → length (items_at index tables items) ≡ operations_of_items items
  items_length index tables typed.none = refl
  items_length index tables (typed.more first others) =
      length-append (code_at index tables first) (items_at (index + operations first) (tables_with first tables) others)
      ∙ rw (length_is index tables first, items_length (index + operations first) (tables_with first tables) others) refl

-- ---- tables

-- what is in a table is there in one that has grown
abbrev pub Grows : List (List ℕ) → List (List ℕ) → Type 0
Grows texts grown = (n : ℕ) (text : List ℕ) → slice_get texts n ≡ Some text → slice_get grown n ≡ Some text

abbrev pub GrowTables : Tables → Tables → Type 0
GrowTables tables grown = Grows tables.texts grown.texts × Grows tables.names grown.names

stay : (tables : Tables) → GrowTables tables tables
stay tables = (λ n text h. h, λ n text h. h)

pub then_grow : (first second third : Tables) → GrowTables first second → GrowTables second third → GrowTables first third
then_grow first second third h k = (λ n text is. k.0 n text (h.0 n text is), λ n name is. k.1 n name (h.1 n name is))

grown_by : (b : Bool) (text : List ℕ) (others : List (List ℕ)) → Grows others (with_text text others) → Grows others (cond b others (with_text text others))
grown_by true text others h = λ n found is. is
grown_by false text others h = h

pub one_text_grows : (text : List ℕ) (texts : List (List ℕ)) → Grows texts (with_text text texts)
one_text_grows text [] n found is = absurd cc
one_text_grows text (first ∷ others) zero found is = is
one_text_grows text (first ∷ others) (suc n) found is = grown_by (bytes_eq first text) text others (one_text_grows text others) n found is

same_text : (first text : List ℕ) → bytes_eq first text ≡ true → first ≡ text
same_text first text h = (bytes_eq-Decides first text).0 h

-- a text is at its number, once it is among the others
there_by : (b : Bool) (first text : List ℕ) (others : List (List ℕ)) → bytes_eq first text ≡ b → slice_get (with_text text others) (index_among text others) ≡ Some text
    → slice_get (first ∷ cond b others (with_text text others)) (cond b 0 (suc (index_among text others))) ≡ Some text
there_by true first text others is h = ap (λ t. Some t) (same_text first text is)
there_by false first text others is h = h

pub is_there : (text : List ℕ) (texts : List (List ℕ)) → slice_get (with_text text texts) (index_among text texts) ≡ Some text
is_there text [] = refl
is_there text (first ∷ others) = there_by (bytes_eq first text) first text others refl (is_there text others)

pub literal_grows : (literal : Literal) (tables : Tables) → GrowTables tables (literal_tables literal tables)
literal_grows literals.Nil tables = stay tables
literal_grows (literals.Bool boolean) tables = stay tables
literal_grows (literals.Whole value) tables = stay tables
literal_grows (literals.Decimal millionths) tables = stay tables
literal_grows (literals.Text letters) tables = (one_text_grows letters tables.texts, λ n name is. is)

mutual
  pub tables_grow : (tree : Typed) (tables : Tables) → GrowTables tables (tables_with tree tables)
  tables_grow typed.result tables = stay tables
  tables_grow typed.item tables = stay tables
  tables_grow (typed.literal literal) tables = literal_grows literal tables
  tables_grow (typed.field owner name) tables =
      let before = tables_grow owner tables in
      (before.0, λ n found is. one_text_grows name (tables_with owner tables).names n found (before.1 n found is))
  tables_grow (typed.unary operator operand) tables = tables_grow operand tables
  tables_grow (typed.binary operator left right) tables =
      then_grow tables (tables_with left tables) (tables_with right (tables_with left tables)) (tables_grow left tables) (tables_grow right (tables_with left tables))
  tables_grow (typed.both left right) tables =
      then_grow tables (tables_with left tables) (tables_with right (tables_with left tables)) (tables_grow left tables) (tables_grow right (tables_with left tables))
  tables_grow (typed.either left right) tables =
      then_grow tables (tables_with left tables) (tables_with right (tables_with left tables)) (tables_grow left tables) (tables_grow right (tables_with left tables))
  tables_grow (typed.choice condition then_branch else_branch) tables =
      let c = tables_with condition tables in
      let m = tables_with then_branch c in
      then_grow tables c (tables_with else_branch m) (tables_grow condition tables) (then_grow c m (tables_with else_branch m) (tables_grow then_branch c) (tables_grow else_branch m))
  tables_grow (typed.listed scalar items) tables = items_grow items tables
  tables_grow (typed.predicate predicate list body) tables =
      then_grow tables (tables_with list tables) (tables_with body (tables_with list tables)) (tables_grow list tables) (tables_grow body (tables_with list tables))

  pub items_grow : (items : Typeds) (tables : Tables) → GrowTables tables (tables_with_items items tables)
  items_grow typed.none tables = stay tables
  items_grow (typed.more first others) tables =
      then_grow tables (tables_with first tables) (tables_with_items others (tables_with first tables)) (tables_grow first tables) (items_grow others (tables_with first tables))

-- ---- operations

-- operations are one after the other from an index
abbrev pub Hold : List Op → (index : ℕ) → List Op → Type 0
Hold ops index [] = Unit {0}
Hold ops index (op ∷ others) = (slice_get ops index ≡ Some op) × Hold ops (index + 1) others

next_index : (index n : ℕ) → index + 1 + n ≡ index + suc n
next_index index n = omega arith

no_more : (index : ℕ) → index + 0 ≡ index
no_more index = omega arith

hold_split : (ops : List Op) (index : ℕ) (xs ys : List Op) → Hold ops index (xs ++ ys) → Hold ops index xs × Hold ops (index + length xs) ys
hold_split ops index [] ys h = (tt, subst (λ (p : ℕ). Hold ops p ys) (sym (no_more index)) h)
hold_split ops index (x ∷ xs) ys h =
    let others = hold_split ops (index + 1) xs ys h.1 in
    ((h.0, others.0), subst (λ (p : ℕ). Hold ops p ys) (next_index index (length xs)) others.1)

-- parts of which the first has `n` operations
hold_parts : (ops : List Op) (index n : ℕ) (xs ys : List Op) → length xs ≡ n → Hold ops index (xs ++ ys) → Hold ops index xs × Hold ops (index + n) ys
hold_parts ops index n xs ys is h =
    let parts = hold_split ops index xs ys h in (parts.0, subst (λ (m : ℕ). Hold ops (index + m) ys) is parts.1)

later : (before : List Op) (op : Op) (others : List Op) → slice_get (before ++ (op ∷ others)) (length before) ≡ Some op
later [] op others = refl
later (first ∷ before) op others = later before op others

hold_after : (before ops : List Op) → Hold (before ++ ops) (length before) ops
hold_after before [] = tt
hold_after before (op ∷ others) =
    let rest : Hold ((before ++ op ∷ []) ++ others) (length (before ++ op ∷ [])) others = hold_after (before ++ op ∷ []) others in
    let here : Hold (before ++ (op ∷ others)) (length (before ++ op ∷ [])) others = subst (λ (ops : List Op). Hold ops (length (before ++ op ∷ [])) others) (append_assoc before (op ∷ []) others) rest in
    (later before op others, subst (λ (p : ℕ). Hold (before ++ (op ∷ others)) p others) (one_length before op (length before) refl) here)

-- all operations are there from the first index
pub hold_all : (ops : List Op) → Hold ops 0 ops
hold_all ops = hold_after [] ops

-- ---- trees

module _ (code : Code) where
  -- the tables of code have what tables have
  abbrev Have : Tables → Type 0
  Have tables = Grows tables.texts code.texts × Grows tables.names code.names

  have_before : (tables grown : Tables) → GrowTables tables grown → Have grown → Have tables
  have_before tables grown h k = (λ n text is. k.0 n text (h.0 n text is), λ n name is. k.1 n name (h.1 n name is))

  -- an operation after n others
  at_end : (index m n : ℕ) (op : Op) → m ≡ n → Hold code.ops (index + m) (op ∷ []) → At code (index + n) op
  at_end index m n op is h = subst (λ (k : ℕ). At code (index + k) op) is h.0

  literal_is_at : (index : ℕ) (tables : Tables) (literal : Literal) → Hold code.ops index (literal_op literal tables ∷ []) → Have (literal_tables literal tables) → IsLiteralAt code index literal
  literal_is_at index tables literals.Nil h have = h.0
  literal_is_at index tables (literals.Bool boolean) h have = h.0
  literal_is_at index tables (literals.Whole value) h have = h.0
  literal_is_at index tables (literals.Decimal millionths) h have = h.0
  literal_is_at index tables (literals.Text letters) h have = (index_among letters tables.texts, h.0, have.0 (index_among letters tables.texts) letters (is_there letters tables.texts))

  abbrev After : Tables → (index : ℕ) → Typed → Type 0
  After tables index tree = Hold code.ops index (code_at index tables tree)

  -- of two parts and an operation after them
  record TwoHold (index : ℕ) (tables : Tables) (left right : Typed) (op : Op) : Type 0 where
    first : After tables index left
    second : After (tables_with left tables) (index + operations left) right
    last : At code (index + operations left + operations right) op

  two_hold : (index : ℕ) (tables : Tables) (left right : Typed) (op : Op)
      → Hold code.ops index (code_at index tables left ++ (code_at (index + operations left) (tables_with left tables) right ++ op ∷ [])) → TwoHold index tables left right op
  two_hold index tables left right op h =
      let r = code_at (index + operations left) (tables_with left tables) right in
      let parts = hold_parts code.ops index (operations left) (code_at index tables left) (r ++ op ∷ []) (length_is index tables left) h in
      let others = hold_parts code.ops (index + operations left) (operations right) r (op ∷ []) (length_is (index + operations left) (tables_with left tables) right) parts.1 in
      record { first = parts.0; second = others.0; last = others.1.0 }

  -- of two parts and a jump between them
  record JumpHolds (index : ℕ) (tables : Tables) (left right : Typed) (op : Op) : Type 0 where
    first : After tables index left
    jump : At code (index + operations left) op
    second : After (tables_with left tables) (index + operations left + 1) right

  jump_holds : (index : ℕ) (tables : Tables) (left right : Typed) (op : Op)
      → Hold code.ops index (code_at index tables left ++ (op ∷ code_at (index + operations left + 1) (tables_with left tables) right)) → JumpHolds index tables left right op
  jump_holds index tables left right op h =
      let r = code_at (index + operations left + 1) (tables_with left tables) right in
      let parts = hold_parts code.ops index (operations left) (code_at index tables left) (op ∷ r) (length_is index tables left) h in
      record { first = parts.0; jump = parts.1.0; second = parts.1.1 }

  one_holds : (index : ℕ) (tables : Tables) (operand : Typed) (op : Op) → Hold code.ops index (code_at index tables operand ++ op ∷ []) → After tables index operand × At code (index + operations operand) op
  one_holds index tables operand op h =
      let parts = hold_parts code.ops index (operations operand) (code_at index tables operand) (op ∷ []) (length_is index tables operand) h in (parts.0, parts.1.0)

  have_left : (left right : Typed) (tables : Tables) → Have (tables_with right (tables_with left tables)) → Have (tables_with left tables)
  have_left left right tables have = have_before (tables_with left tables) (tables_with right (tables_with left tables)) (tables_grow right (tables_with left tables)) have

  mutual
    pub standing : (tree : Typed) (index : ℕ) (tables : Tables) → After tables index tree → Have (tables_with tree tables) → IsAt code index tree
    standing typed.result index tables h have = h.0
    standing typed.item index tables h have = h.0
    standing (typed.literal literal) index tables h have = literal_is_at index tables literal h have
    standing (typed.field owner name) index tables h have =
        let before = tables_with owner tables in
        let n = index_among name before.names in
        let parts = one_holds index tables owner (Field n) h in
        (standing owner index tables parts.0 (have.0, λ k found is. have.1 k found (one_text_grows name before.names k found is)), (n, parts.1, have.1 n name (is_there name before.names)))
    standing (typed.unary operator operand) index tables h have = let parts = one_holds index tables operand (Unary operator) h in (standing operand index tables parts.0 have, parts.1)
    standing (typed.binary operator left right) index tables h have =
        let parts = two_hold index tables left right (Binary operator) h in
        (standing left index tables parts.first (have_left left right tables have), standing right (index + operations left) (tables_with left tables) parts.second have, parts.last)
    standing (typed.both left right) index tables h have =
        let parts = jump_holds index tables left right (Jump jumps.And (index + operations left + 1 + operations right)) h in
        (standing left index tables parts.first (have_left left right tables have), parts.jump, standing right (index + operations left + 1) (tables_with left tables) parts.second have)
    standing (typed.either left right) index tables h have =
        let parts = jump_holds index tables left right (Jump jumps.Or (index + operations left + 1 + operations right)) h in
        (standing left index tables parts.first (have_left left right tables have), parts.jump, standing right (index + operations left + 1) (tables_with left tables) parts.second have)
    standing (typed.choice condition then_branch else_branch) index tables h have =
        let p = index + operations condition + 1 in
        let q = p + operations then_branch + 1 in
        let c = tables_with condition tables in
        let m = tables_with then_branch c in
        let then_code = code_at p c then_branch in
        let else_code = code_at q m else_branch in
        let parts = hold_parts code.ops index (operations condition) (code_at index tables condition) (Jump jumps.Branch q ∷ (then_code ++ (Jump jumps.Always (q + operations else_branch) ∷ else_code))) (length_is index tables condition) h in
        let others = hold_parts code.ops p (operations then_branch) then_code (Jump jumps.Always (q + operations else_branch) ∷ else_code) (length_is p c then_branch) parts.1.1 in
        let have_m = have_before m (tables_with else_branch m) (tables_grow else_branch m) have in
        let have_c = have_before c m (tables_grow then_branch c) have_m in
        (standing condition index tables parts.0 have_c, parts.1.0, standing then_branch p c others.0 have_m, others.1.0, standing else_branch q m others.1.1 have)
    standing (typed.listed scalar items) index tables h have =
        let parts = hold_parts code.ops index (operations_of_items items) (items_at index tables items) (MakeList scalar (how_many items) ∷ []) (items_length index tables items) h in
        (items_standing items index tables parts.0 have, parts.1.0)
    standing (typed.predicate predicate list body) index tables h have =
        let p = index + operations list + 1 in
        let l = tables_with list tables in
        let body_code = code_at p l body in
        let parts = hold_parts code.ops index (operations list) (code_at index tables list) (Enter predicate (p + operations body) ∷ (body_code ++ Step predicate (index + operations list) ∷ [])) (length_is index tables list) h in
        let others = hold_parts code.ops p (operations body) body_code (Step predicate (index + operations list) ∷ []) (length_is p l body) parts.1.1 in
        (standing list index tables parts.0 (have_left list body tables have), parts.1.0, standing body p l others.0 have, others.1.0)

    items_standing : (items : Typeds) (index : ℕ) (tables : Tables) → Hold code.ops index (items_at index tables items) → Have (tables_with_items items tables) → AreItemsAt code index items
    items_standing typed.none index tables h have = tt
    items_standing (typed.more first others) index tables h have =
        let t = tables_with first tables in
        let parts = hold_parts code.ops index (operations first) (code_at index tables first) (items_at (index + operations first) t others) (length_is index tables first) h in
        (standing first index tables parts.0 (have_before t (tables_with_items others t) (items_grow others t) have), items_standing others (index + operations first) t parts.1 have)

-- ---- conditions

-- compiled code has the condition's code, and after it Return
pub record CompiledIsAt (code : Code) (condition : Typed) : Type 0 where
  pub tree : IsAt code 0 condition
  pub end : At code (operations condition) Return

from_zero : (n : ℕ) → 0 + n ≡ n
from_zero n = omega arith

pub compiled_is_at : (condition : Typed) → CompiledIsAt (compiled condition) condition
unfolding compiled
compiled_is_at condition =
    let ops = code_at 0 no_tables condition in
    let code = code_of_parts (ops ++ Return ∷ []) (tables_with condition no_tables).texts (tables_with condition no_tables).names in
    let parts = hold_parts code.ops 0 (operations condition) ops (Return ∷ []) (length_is 0 no_tables condition) (hold_all code.ops) in
    record { tree = standing code condition 0 no_tables parts.0 (λ n text is. is, λ n name is. is); end = subst (λ (p : ℕ). At code p Return) (from_zero (operations condition)) parts.1.0 }
