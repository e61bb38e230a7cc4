-- The code of a tree within limits is code.
use Rattle.std.specs.Prelude.{slice_get}
use Rattle.std.proofs.Common.{◌≡◌, ℕ, zero, suc, ◌+◌, ◌<◌, ◌≤◌, Bool, true, false, cond, List, [], ◌∷◌, ◌++◌, length, Some, ap, ◌∙◌, arith}
use Rattle.std.specs.List.{AllByRecursion}
use Rattle.std.specs.Str.{bytes_eq}
use Rattle.std.proofs.lemmas.List.{length-append}
use Rattle.std.proofs.lemmas.List.Elements.{All-from_recursion}
use Rattle.ar_value.specs.Limits.{most_code_entries}
use Rattle.ar_tree.specs.Typed.{Typed, Typeds, how_many}
use Rattle.ar_tree.specs.Typed as typed
use Rattle.ar_tree.specs.declared.tree.Literal.{Literal}
use Rattle.ar_tree.specs.declared.tree.Literal.TheVariants as literals
use Rattle.ar_op.specs.Code.{Inside, IsCode, IsEntry}
use Rattle.ar_op.specs.declared.op.Op.{Op}
use Rattle.ar_op.specs.declared.op.Jump.TheVariants as jumps
use Rattle.ar_op.specs.declared.op.Op.TheVariants.{MakeList, Field, Jump, Enter, Step, Return, Unary, Binary}
use Rattle.ar_compile.specs.Compiled.{Tables, code_at, compiled, items_at, literal_op, literal_tables, no_tables, index_among, tables_with, tables_with_items, with_text}
use Rattle.ar_compile.specs.Length.{length_of, operations, operations_of_items}
use Rattle.ar_tree.specs.Limits.{AllInLimits, InLimits, IsShortLiteral}
use Rattle.ar_compile.proofs.Standing.{GrowTables, is_there, items_grow, length_is, one_text_grows, tables_grow, then_grow}

all_after : {A : Type 0} (P : A → Type 0) (xs ys : List A) → AllByRecursion P xs → AllByRecursion P ys → AllByRecursion P (xs ++ ys)
all_after P [] ys h k = k
all_after P (x ∷ xs) ys h k = (h.0, all_after P xs ys h.1 k)

below : (texts : List (List ℕ)) (n : ℕ) (text : List ℕ) → slice_get texts n ≡ Some text → n < length texts
below [] n text is = absurd cc
below (first ∷ texts) zero text is = omega arith
below (first ∷ texts) (suc n) text is = let others = below texts n text is in omega (arith, others)

-- ---- tables

-- tables grow by at most `n`, and by short texts alone
record Little (tables grown : Tables) (n : ℕ) : Type 0 where
  texts : length grown.texts ≤ length tables.texts + n
  names : length grown.names ≤ length tables.names + n
  short_texts : AllByRecursion IsEntry tables.texts → AllByRecursion IsEntry grown.texts
  short_names : AllByRecursion IsEntry tables.names → AllByRecursion IsEntry grown.names

no_growth : (tables : Tables) (n : ℕ) → Little tables tables n
no_growth tables n = record { texts = omega arith; names = omega arith; short_texts = λ h. h; short_names = λ h. h }

then_little : (first second third : Tables) (m n k : ℕ) → m + n ≤ k → Little first second m → Little second third n → Little first third k
then_little first second third m n k room h l = record {
  texts = omega (arith, room, h.texts, l.texts);
  names = omega (arith, room, h.names, l.names);
  short_texts = λ s. l.short_texts (h.short_texts s);
  short_names = λ s. l.short_names (h.short_names s);
}

more_room : (first second : Tables) (m k : ℕ) → m ≤ k → Little first second m → Little first second k
more_room first second m k room h = record { texts = omega (arith, room, h.texts); names = omega (arith, room, h.names); short_texts = h.short_texts; short_names = h.short_names }

longer_by : (b : Bool) (text : List ℕ) (others : List (List ℕ)) → length (with_text text others) ≤ length others + 1 → length (cond b others (with_text text others)) ≤ length others + 1
longer_by true text others h = omega arith
longer_by false text others h = h

one_longer : (text : List ℕ) (texts : List (List ℕ)) → length (with_text text texts) ≤ length texts + 1
one_longer text [] = omega arith
one_longer text (first ∷ others) = let rest = longer_by (bytes_eq first text) text others (one_longer text others) in omega (arith, rest)

short_by : (b : Bool) (text : List ℕ) (others : List (List ℕ)) → AllByRecursion IsEntry others → AllByRecursion IsEntry (with_text text others) → AllByRecursion IsEntry (cond b others (with_text text others))
short_by true text others h k = h
short_by false text others h k = k

all_short : (text : List ℕ) (texts : List (List ℕ)) → IsEntry text → AllByRecursion IsEntry texts → AllByRecursion IsEntry (with_text text texts)
all_short text [] short h = (short, tt)
all_short text (first ∷ others) short h = (h.0, short_by (bytes_eq first text) text others h.1 (all_short text others short h.1))

literal_little : (literal : Literal) (tables : Tables) → IsShortLiteral literal → Little tables (literal_tables literal tables) 1
literal_little literals.Nil tables short = no_growth tables 1
literal_little (literals.Bool boolean) tables short = no_growth tables 1
literal_little (literals.Whole value) tables short = no_growth tables 1
literal_little (literals.Decimal millionths) tables short = no_growth tables 1
literal_little (literals.Text letters) tables short = record { texts = one_longer letters tables.texts; names = omega arith; short_texts = λ h. all_short letters tables.texts short h; short_names = λ h. h }

field_little : (name : List ℕ) (tables grown : Tables) (n : ℕ) → IsEntry name → Little tables grown n → Little tables (record { texts = grown.texts; names = with_text name grown.names }) (n + 1)
field_little name tables grown n short h = record {
  texts = omega (arith, h.texts);
  names = omega (arith, h.names, one_longer name grown.names);
  short_texts = h.short_texts;
  short_names = λ s. all_short name grown.names short (h.short_names s);
}

one_room : (m : ℕ) → m ≤ m + 1
one_room m = omega arith

two_room : (m n : ℕ) → m + n ≤ m + n + 1
two_room m n = omega arith

jump_room : (m n : ℕ) → m + n ≤ m + 1 + n
jump_room m n = omega arith

choice_room : (l m n : ℕ) → l + (m + n) ≤ l + 1 + m + 1 + n
choice_room l m n = omega arith

loop_room : (m n : ℕ) → m + n ≤ m + 1 + n + 1
loop_room m n = omega arith

exact_room : (m n : ℕ) → m + n ≤ m + n
exact_room m n = omega arith

mutual
  tables_little : (tree : Typed) (tables : Tables) → InLimits tree → Little tables (tables_with tree tables) (operations tree)
  tables_little typed.result tables h = no_growth tables 1
  tables_little typed.item tables h = no_growth tables 1
  tables_little (typed.literal literal) tables h = literal_little literal tables h
  tables_little (typed.field owner name) tables h = field_little name tables (tables_with owner tables) (operations owner) h.1 (tables_little owner tables h.0)
  tables_little (typed.unary operator operand) tables h = more_room tables (tables_with operand tables) (operations operand) (operations operand + 1) (one_room (operations operand)) (tables_little operand tables h)
  tables_little (typed.binary operator left right) tables h =
      then_little tables (tables_with left tables) (tables_with right (tables_with left tables)) (operations left) (operations right) (operations left + operations right + 1) (two_room (operations left) (operations right))
      (tables_little left tables h.0) (tables_little right (tables_with left tables) h.1)
  tables_little (typed.both left right) tables h =
      then_little tables (tables_with left tables) (tables_with right (tables_with left tables)) (operations left) (operations right) (operations left + 1 + operations right) (jump_room (operations left) (operations right))
      (tables_little left tables h.0) (tables_little right (tables_with left tables) h.1)
  tables_little (typed.either left right) tables h =
      then_little tables (tables_with left tables) (tables_with right (tables_with left tables)) (operations left) (operations right) (operations left + 1 + operations right) (jump_room (operations left) (operations right))
      (tables_little left tables h.0) (tables_little right (tables_with left tables) h.1)
  tables_little (typed.choice condition then_branch else_branch) tables h =
      let c = tables_with condition tables in
      let m = tables_with then_branch c in
      let u = tables_with else_branch m in
      then_little tables c u (operations condition) (operations then_branch + operations else_branch) (operations condition + 1 + operations then_branch + 1 + operations else_branch) (choice_room (operations condition) (operations then_branch) (operations else_branch))
      (tables_little condition tables h.0) (then_little c m u (operations then_branch) (operations else_branch) (operations then_branch + operations else_branch) (exact_room (operations then_branch) (operations else_branch)) (tables_little then_branch c h.1) (tables_little else_branch m h.2))
  tables_little (typed.listed scalar items) tables h = more_room tables (tables_with_items items tables) (operations_of_items items) (operations_of_items items + 1) (one_room (operations_of_items items)) (items_little items tables h.0)
  tables_little (typed.predicate predicate list body) tables h =
      then_little tables (tables_with list tables) (tables_with body (tables_with list tables)) (operations list) (operations body) (operations list + 1 + operations body + 1) (loop_room (operations list) (operations body))
      (tables_little list tables h.0) (tables_little body (tables_with list tables) h.1)

  items_little : (items : Typeds) (tables : Tables) → AllInLimits items → Little tables (tables_with_items items tables) (operations_of_items items)
  items_little typed.none tables h = no_growth tables 0
  items_little (typed.more first others) tables h =
      then_little tables (tables_with first tables) (tables_with_items others (tables_with first tables)) (operations first) (operations_of_items others) (operations first + operations_of_items others)
      (exact_room (operations first) (operations_of_items others)) (tables_little first tables h.0) (items_little others (tables_with first tables) h.1)

-- ---- operations

module _ (final : Tables) where
  abbrev Fits : Op → Type 0
  Fits op = Inside (length final.texts) (length final.names) op

  abbrev AllFit : List Op → Type 0
  AllFit ops = AllByRecursion Fits ops

  one_fits : (ops : List Op) (op : Op) → AllFit ops → Fits op → AllFit (ops ++ op ∷ [])
  one_fits ops op h k = all_after Fits ops (op ∷ []) h (k, tt)

  two_fit : (xs ys : List Op) (op : Op) → AllFit xs → AllFit ys → Fits op → AllFit (xs ++ (ys ++ op ∷ []))
  two_fit xs ys op h k l = all_after Fits xs (ys ++ op ∷ []) h (one_fits ys op k l)

  jump_fits : (xs ys : List Op) (op : Op) → AllFit xs → AllFit ys → Fits op → AllFit (xs ++ (op ∷ ys))
  jump_fits xs ys op h k l = all_after Fits xs (op ∷ ys) h (l, k)

  literal_fits : (literal : Literal) (tables : Tables) → GrowTables (literal_tables literal tables) final → Fits (literal_op literal tables)
  literal_fits literals.Nil tables grow = tt
  literal_fits (literals.Bool boolean) tables grow = tt
  literal_fits (literals.Whole value) tables grow = tt
  literal_fits (literals.Decimal millionths) tables grow = tt
  literal_fits (literals.Text letters) tables grow = below final.texts (index_among letters tables.texts) letters (grow.0 (index_among letters tables.texts) letters (is_there letters tables.texts))

  mutual
    code_fits : (tree : Typed) (index : ℕ) (tables : Tables) → InLimits tree → GrowTables (tables_with tree tables) final → AllFit (code_at index tables tree)
    code_fits typed.result index tables h grow = (tt, tt)
    code_fits typed.item index tables h grow = (tt, tt)
    code_fits (typed.literal literal) index tables h grow = (literal_fits literal tables grow, tt)
    code_fits (typed.field owner name) index tables h grow =
        let to = tables_with owner tables in
        let n = index_among name to.names in
        one_fits (code_at index tables owner) (Field n) (code_fits owner index tables h.0 (grow.0, λ k found is. grow.1 k found (one_text_grows name to.names k found is)))
        (below final.names n name (grow.1 n name (is_there name to.names)))
    code_fits (typed.unary operator operand) index tables h grow = one_fits (code_at index tables operand) (Unary operator) (code_fits operand index tables h grow) tt
    code_fits (typed.binary operator left right) index tables h grow =
        let tl = tables_with left tables in
        two_fit (code_at index tables left) (code_at (index + operations left) tl right) (Binary operator) (code_fits left index tables h.0 (then_grow tl (tables_with right tl) final (tables_grow right tl) grow))
        (code_fits right (index + operations left) tl h.1 grow) tt
    code_fits (typed.both left right) index tables h grow =
        let tl = tables_with left tables in
        jump_fits (code_at index tables left) (code_at (index + operations left + 1) tl right) (Jump jumps.And (index + operations left + 1 + operations right))
        (code_fits left index tables h.0 (then_grow tl (tables_with right tl) final (tables_grow right tl) grow)) (code_fits right (index + operations left + 1) tl h.1 grow) tt
    code_fits (typed.either left right) index tables h grow =
        let tl = tables_with left tables in
        jump_fits (code_at index tables left) (code_at (index + operations left + 1) tl right) (Jump jumps.Or (index + operations left + 1 + operations right))
        (code_fits left index tables h.0 (then_grow tl (tables_with right tl) final (tables_grow right tl) grow)) (code_fits right (index + operations left + 1) tl h.1 grow) tt
    code_fits (typed.choice condition then_branch else_branch) index tables h grow =
        let c = tables_with condition tables in
        let m = tables_with then_branch c in
        let u = tables_with else_branch m in
        let p = index + operations condition + 1 in
        let q = p + operations then_branch + 1 in
        let then_grows = then_grow m u final (tables_grow else_branch m) grow in
        let then_code = code_at p c then_branch in
        let else_code = code_at q m else_branch in
        let later = jump_fits then_code else_code (Jump jumps.Always (q + operations else_branch)) (code_fits then_branch p c h.1 then_grows) (code_fits else_branch q m h.2 grow) tt in
        jump_fits (code_at index tables condition) (then_code ++ (Jump jumps.Always (q + operations else_branch) ∷ else_code)) (Jump jumps.Branch q)
        (code_fits condition index tables h.0 (then_grow c m final (tables_grow then_branch c) then_grows)) later tt
    code_fits (typed.listed scalar items) index tables h grow = one_fits (items_at index tables items) (MakeList scalar (how_many items)) (items_fit items index tables h.0 grow) h.1
    code_fits (typed.predicate predicate list body) index tables h grow =
        let l = tables_with list tables in
        let p = index + operations list + 1 in
        let body_code = code_at p l body in
        jump_fits (code_at index tables list) (body_code ++ Step predicate (index + operations list) ∷ []) (Enter predicate (p + operations body))
        (code_fits list index tables h.0 (then_grow l (tables_with body l) final (tables_grow body l) grow)) (one_fits body_code (Step predicate (index + operations list)) (code_fits body p l h.1 grow) tt) tt

    items_fit : (items : Typeds) (index : ℕ) (tables : Tables) → AllInLimits items → GrowTables (tables_with_items items tables) final → AllFit (items_at index tables items)
    items_fit typed.none index tables h grow = tt
    items_fit (typed.more first others) index tables h grow =
        let t = tables_with first tables in
        all_after Fits (code_at index tables first) (items_at (index + operations first) t others) (code_fits first index tables h.0 (then_grow t (tables_with_items others t) final (items_grow others t) grow))
        (items_fit others (index + operations first) t h.1 grow)

-- ---- conditions

pub compiled_is_code : (condition : Typed) → InLimits condition → length_of condition ≤ most_code_entries → IsCode (compiled condition)
unfolding compiled
compiled_is_code condition h few =
    let tables = tables_with condition no_tables in
    let ops = code_at 0 no_tables condition in
    let little = tables_little condition no_tables h in
    let many : length (ops ++ Return ∷ []) ≡ length_of condition = length-append ops (Return ∷ []) ∙ ap (λ n. n + 1) (length_is 0 no_tables condition) in
    record {
      few_ops = omega (arith, many, few);
      few_texts = omega (arith, little.texts, few);
      few_names = omega (arith, little.names, few);
      short_texts = All-from_recursion IsEntry tables.texts (little.short_texts tt);
      short_names = All-from_recursion IsEntry tables.names (little.short_names tt);
      inside = All-from_recursion (Inside (length tables.texts) (length tables.names)) (ops ++ Return ∷ []) (one_fits tables ops Return (code_fits tables condition 0 no_tables h (λ n text is. is, λ n name is. is)) tt);
    }

-- as many operations as the length says
pub compiled_length : (condition : Typed) → length (compiled condition).ops ≡ length_of condition
unfolding compiled
compiled_length condition = length-append (code_at 0 no_tables condition) (Return ∷ []) ∙ ap (λ n. n + 1) (length_is 0 no_tables condition)
