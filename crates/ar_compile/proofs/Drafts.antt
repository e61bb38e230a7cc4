-- What was drafted is the code of the tree, after what was there.
use Rattle.std.proofs.Common.{◌≡◌, ℕ, ◌+◌, List, [], ◌∷◌, ◌++◌, length, set, refl, sym, ap, ◌∙◌, append_assoc, arith}
use Rattle.std.proofs.lemmas.List.{append-nil, length-append, length-set}
use Rattle.ar_tree.specs.Typed.{Typed, Typeds, how_many}
use Rattle.ar_tree.specs.Typed as typed
use Rattle.ar_tree.specs.declared.tree.Literal.{Literal}
use Rattle.ar_tree.specs.declared.tree.Literal.TheVariants as literals
use Rattle.ar_value.specs.declared.operator.Predicate.{Predicate}
use Rattle.ar_op.specs.Code.{Code, code_of_parts}
use Rattle.ar_op.specs.declared.op.Op.{Op}
use Rattle.ar_op.specs.declared.op.Jump.TheVariants as jumps
use Rattle.ar_op.specs.declared.op.Op.TheVariants.{MakeList, Field, Jump, Enter, Step, Return, Unary, Binary}
use Rattle.ar_compile.specs.Compiled.{Tables, code_at, compiled, items_at, literal_op, literal_tables, index_among, tables_with, tables_with_items, with_text}
use Rattle.ar_compile.specs.Length.{operations}
use Rattle.ar_compile.specs.Private.Drafts.{drafted, drafted_items, enters, no_code, draft_index, with_field, with_literal, with_loop, with_op, with_set, jumps_on}
use Rattle.ar_compile.proofs.Standing.{around_length, length_is, one_length}

abbrev tables_of : Code → Tables
tables_of draft = record { texts = draft.texts; names = draft.names }

-- operations after those of a draft, and tables instead of its own
abbrev extended : Code → List Op → Tables → Code
extended draft ops tables = code_of_parts (draft.ops ++ ops) tables.texts tables.names

abbrev Drafted : Typed → Code → Type 0
Drafted tree draft = drafted tree draft ≡ extended draft (code_at (draft_index draft) (tables_of draft) tree) (tables_with tree (tables_of draft))

-- other operations, with the tables of a draft
abbrev other_ops : List Op → Code → Code
other_ops ops draft = code_of_parts ops draft.texts draft.names

-- one operation after extended code
after_one : (draft : Code) (ops : List Op) (tables : Tables) (op : Op) → with_op op (extended draft ops tables) ≡ extended draft (ops ++ op ∷ []) tables
after_one draft ops tables op = ap (λ o. code_of_parts o tables.texts tables.names) (append_assoc draft.ops ops (op ∷ []))

set_after : (xs : List Op) (x y : Op) (ys : List Op) → set (xs ++ (x ∷ ys)) (length xs) y ≡ xs ++ (y ∷ ys)
set_after [] x y ys = refl
set_after (z ∷ xs) x y ys = ap (λ l. z ∷ l) (set_after xs x y ys)

index_after : (draft : Code) (ops : List Op) (n : ℕ) → length ops ≡ n → length (draft.ops ++ ops) ≡ draft_index draft + n
index_after draft ops n is = length-append draft.ops ops ∙ ap (λ k. draft_index draft + k) is

-- an operation after extended code
then_op : (draft found : Code) (ops : List Op) (tables : Tables) (op : Op) → found ≡ extended draft ops tables → with_op op found ≡ extended draft (ops ++ op ∷ []) tables
then_op draft found ops tables op is = ap (with_op op) is ∙ after_one draft ops tables op

-- a tree after extended code
then_tree : (draft found : Code) (ops : List Op) (tables : Tables) (n : ℕ) (tree : Typed) → found ≡ extended draft ops tables → length ops ≡ n → ((d : Code) → Drafted tree d)
    → drafted tree found ≡ extended draft (ops ++ code_at (draft_index draft + n) tables tree) (tables_with tree tables)
then_tree draft found ops tables n tree is many drafts =
    let there = extended draft ops tables in
    let t = tables_with tree tables in
    ap (drafted tree) is ∙ drafts there
    ∙ ap (λ index. extended there (code_at index tables tree) t) (index_after draft ops n many)
    ∙ ap (λ o. code_of_parts o t.texts t.names) (append_assoc draft.ops ops (code_at (draft_index draft + n) tables tree))

-- an operation in extended code is set
then_set : (draft found : Code) (xs ys : List Op) (x y : Op) (tables : Tables) (index : ℕ) → found ≡ extended draft (xs ++ (x ∷ ys)) tables → index ≡ length (draft.ops ++ xs)
    → with_set index y found ≡ extended draft (xs ++ (y ∷ ys)) tables
then_set draft found xs ys x y tables index is at =
    ap (with_set index y) is
    ∙ ap (λ p. with_set p y (extended draft (xs ++ (x ∷ ys)) tables)) at
    ∙ ap (λ o. code_of_parts (set o (length (draft.ops ++ xs)) y) tables.texts tables.names) (sym (append_assoc draft.ops xs (x ∷ ys)))
    ∙ ap (λ o. code_of_parts o tables.texts tables.names) (set_after (draft.ops ++ xs) x y ys ∙ append_assoc draft.ops xs (y ∷ ys))

-- the index after extended code
index_found : (draft found : Code) (ops : List Op) (tables : Tables) (n : ℕ) → found ≡ extended draft ops tables → length ops ≡ n → draft_index found ≡ draft_index draft + n
index_found draft found ops tables n is many = ap draft_index is ∙ index_after draft ops n many

-- operations written in another way
same_ops : (draft : Code) (xs ys : List Op) (tables : Tables) → xs ≡ ys → extended draft xs tables ≡ extended draft ys tables
same_ops draft xs ys tables is = ap (λ ops. extended draft ops tables) is

between : (xs ys : List Op) (x : Op) → (xs ++ x ∷ []) ++ ys ≡ xs ++ (x ∷ ys)
between xs ys x = append_assoc xs (x ∷ []) ys

one_further : (p m : ℕ) → p + (m + 1) ≡ p + m + 1
one_further p m = omega arith

further : (p m n : ℕ) → p + (m + 1 + n) ≡ p + m + 1 + n
further p m n = omega arith

further_on : (p m n : ℕ) → p + (m + 1 + n + 1) ≡ p + m + 1 + n + 1
further_on p m n = omega arith

-- a tree, an operation and another tree
jump_between : (draft : Code) (left right : Typed) (op : Op) → ((d : Code) → Drafted left d) → ((d : Code) → Drafted right d)
    → drafted right (with_op op (drafted left draft))
    ≡ extended draft (code_at (draft_index draft) (tables_of draft) left ++ (op ∷ code_at (draft_index draft + operations left + 1) (tables_with left (tables_of draft)) right)) (tables_with right (tables_with left (tables_of draft)))
jump_between draft left right op drafts_left drafts_right =
    let p = draft_index draft in
    let t = tables_of draft in
    let l = code_at p t left in
    let tl = tables_with left t in
    let tr = tables_with right tl in
    then_tree draft (with_op op (drafted left draft)) (l ++ op ∷ []) tl (operations left + 1) right (then_op draft (drafted left draft) l tl op (drafts_left draft)) (one_length l op (operations left) (length_is p t left)) drafts_right
    ∙ ap (λ q. extended draft ((l ++ op ∷ []) ++ code_at q tl right) tr) (one_further p (operations left))
    ∙ same_ops draft ((l ++ op ∷ []) ++ code_at (p + operations left + 1) tl right) (l ++ (op ∷ code_at (p + operations left + 1) tl right)) tr (between l (code_at (p + operations left + 1) tl right) op)

-- two trees and an operation
two_drafted : (draft : Code) (left right : Typed) (op : Op) → ((d : Code) → Drafted left d) → ((d : Code) → Drafted right d)
    → with_op op (drafted right (drafted left draft))
    ≡ extended draft (code_at (draft_index draft) (tables_of draft) left ++ (code_at (draft_index draft + operations left) (tables_with left (tables_of draft)) right ++ op ∷ [])) (tables_with right (tables_with left (tables_of draft)))
two_drafted draft left right op drafts_left drafts_right =
    let p = draft_index draft in
    let t = tables_of draft in
    let l = code_at p t left in
    let tl = tables_with left t in
    let r = code_at (p + operations left) tl right in
    let tr = tables_with right tl in
    then_op draft (drafted right (drafted left draft)) (l ++ r) tr op (then_tree draft (drafted left draft) l tl (operations left) right (drafts_left draft) (length_is p t left) drafts_right)
    ∙ same_ops draft ((l ++ r) ++ op ∷ []) (l ++ (r ++ op ∷ [])) tr (append_assoc l r (op ∷ []))

one_drafted : (draft : Code) (operand : Typed) (op : Op) → ((d : Code) → Drafted operand d)
    → with_op op (drafted operand draft) ≡ extended draft (code_at (draft_index draft) (tables_of draft) operand ++ op ∷ []) (tables_with operand (tables_of draft))
one_drafted draft operand op drafts = then_op draft (drafted operand draft) (code_at (draft_index draft) (tables_of draft) operand) (tables_with operand (tables_of draft)) op (drafts draft)

literal_drafted : (literal : Literal) (draft : Code) → with_literal literal draft ≡ extended draft (literal_op literal (tables_of draft) ∷ []) (literal_tables literal (tables_of draft))
literal_drafted literals.Nil draft = refl
literal_drafted (literals.Bool boolean) draft = refl
literal_drafted (literals.Whole value) draft = refl
literal_drafted (literals.Decimal millionths) draft = refl
literal_drafted (literals.Text letters) draft = refl

-- a jump over the right side
jump_drafted : (draft : Code) (left right : Typed) (op : Op) (jump : ℕ → Op) → ((d : Code) → Drafted left d) → ((d : Code) → Drafted right d)
    → with_set (draft_index (drafted left draft)) (jump (draft_index (drafted right (with_op op (drafted left draft))))) (drafted right (with_op op (drafted left draft)))
    ≡ extended draft (code_at (draft_index draft) (tables_of draft) left ++ (jump (draft_index draft + operations left + 1 + operations right) ∷ code_at (draft_index draft + operations left + 1) (tables_with left (tables_of draft)) right))
    (tables_with right (tables_with left (tables_of draft)))
jump_drafted draft left right op jump drafts_left drafts_right =
    let p = draft_index draft in
    let t = tables_of draft in
    let l = code_at p t left in
    let tl = tables_with left t in
    let r = code_at (p + operations left + 1) tl right in
    let tr = tables_with right tl in
    let whole = drafted right (with_op op (drafted left draft)) in
    let is = jump_between draft left right op drafts_left drafts_right in
    let end = index_found draft whole (l ++ (op ∷ r)) tr (operations left + 1 + operations right) is (around_length l r op (operations left) (operations right) (length_is p t left) (length_is (p + operations left + 1) tl right)) in
    let at = ap draft_index (drafts_left draft) in
    ap (λ e. with_set (draft_index (drafted left draft)) (jump e) whole) (end ∙ further p (operations left) (operations right))
    ∙ then_set draft whole l r op (jump (p + operations left + 1 + operations right)) tr (draft_index (drafted left draft)) is at

-- a loop over a body
loop_drafted : (draft : Code) (list body : Typed) (predicate : Predicate) → ((d : Code) → Drafted list d) → ((d : Code) → Drafted body d)
    → with_loop predicate (draft_index (drafted list draft)) (drafted body (with_op (Enter predicate 0) (drafted list draft)))
    ≡ extended draft (code_at (draft_index draft) (tables_of draft) (typed.predicate predicate list body)) (tables_with body (tables_with list (tables_of draft)))
loop_drafted draft list body predicate drafts_list drafts_body =
    let p = draft_index draft in
    let t = tables_of draft in
    let l = code_at p t list in
    let tl = tables_with list t in
    let b = code_at (p + operations list + 1) tl body in
    let tb = tables_with body tl in
    let enter = draft_index (drafted list draft) in
    let step = p + operations list + 1 + operations body in
    let over = l ++ (Enter predicate step ∷ b) in
    let at = index_found draft (drafted list draft) l tl (operations list) (drafts_list draft) (length_is p t list) in
    then_op draft (enters predicate enter (drafted body (with_op (Enter predicate 0) (drafted list draft)))) over tb (Step predicate enter)
    (jump_drafted draft list body (Enter predicate 0) (Enter predicate) drafts_list drafts_body)
    ∙ same_ops draft (over ++ Step predicate enter ∷ []) (l ++ (Enter predicate step ∷ (b ++ Step predicate enter ∷ []))) tb (append_assoc l (Enter predicate step ∷ b) (Step predicate enter ∷ []))
    ∙ ap (λ e. extended draft (l ++ (Enter predicate step ∷ (b ++ Step predicate e ∷ []))) tb) at

indices : (p l m : ℕ) → p + (l + 1 + (m + 1)) ≡ p + l + 1 + m + 1
indices p l m = omega arith

to_the_end : (p l m n : ℕ) → p + (l + 1 + m + 1 + n) ≡ p + l + 1 + m + 1 + n
to_the_end p l m n = omega arith

regroup : (c m u : List Op) (x y : Op) → (c ++ (x ∷ (m ++ y ∷ []))) ++ u ≡ (c ++ (x ∷ m)) ++ (y ∷ u)
regroup c m u x y =
    append_assoc c (x ∷ (m ++ y ∷ [])) u ∙ ap (λ ops. c ++ (x ∷ ops)) (append_assoc m (y ∷ []) u) ∙ sym (append_assoc c (x ∷ m) (y ∷ u))

-- one of two branches
choice_drafted : (draft : Code) (condition then_branch else_branch : Typed) → ((d : Code) → Drafted condition d) → ((d : Code) → Drafted then_branch d) → ((d : Code) → Drafted else_branch d) → Drafted (typed.choice condition then_branch else_branch) draft
choice_drafted draft condition then_branch else_branch drafts_condition drafts_then drafts_else =
    let p = draft_index draft in
    let t = tables_of draft in
    let c = code_at p t condition in
    let tc = tables_with condition t in
    let q = p + operations condition + 1 in
    let m = code_at q tc then_branch in
    let tm = tables_with then_branch tc in
    let r = q + operations then_branch + 1 in
    let u = code_at r tm else_branch in
    let tu = tables_with else_branch tm in
    let end = r + operations else_branch in
    let a = drafted condition draft in
    let b = drafted then_branch (with_op (Jump jumps.Branch 0) a) in
    let b_is = jump_between draft condition then_branch (Jump jumps.Branch 0) drafts_condition drafts_then in
    let many = around_length c m (Jump jumps.Branch 0) (operations condition) (operations then_branch) (length_is p t condition) (length_is q tc then_branch) in
    let jumped = then_op draft b (c ++ (Jump jumps.Branch 0 ∷ m)) tm (Jump jumps.Always 0) b_is ∙ same_ops draft ((c ++ (Jump jumps.Branch 0 ∷ m)) ++ Jump jumps.Always 0 ∷ []) (c ++ (Jump jumps.Branch 0 ∷ (m ++ Jump jumps.Always 0 ∷ []))) tm (append_assoc c (Jump jumps.Branch 0 ∷ m) (Jump jumps.Always 0 ∷ [])) in
    let b_index = index_found draft b (c ++ (Jump jumps.Branch 0 ∷ m)) tm (operations condition + 1 + operations then_branch) b_is many ∙ further p (operations condition) (operations then_branch) in
    let jumped_index = index_found draft (with_op (Jump jumps.Always 0) b) ((c ++ (Jump jumps.Branch 0 ∷ m)) ++ Jump jumps.Always 0 ∷ []) tm (operations condition + 1 + operations then_branch + 1) (then_op draft b (c ++ (Jump jumps.Branch 0 ∷ m)) tm (Jump jumps.Always 0) b_is)
    (one_length (c ++ (Jump jumps.Branch 0 ∷ m)) (Jump jumps.Always 0) (operations condition + 1 + operations then_branch) many) ∙ further_on p (operations condition) (operations then_branch) in
    let d = jumps_on jumps.Branch (draft_index a) (with_op (Jump jumps.Always 0) b) in
    let d_is = ap (λ e. with_set (draft_index a) (Jump jumps.Branch e) (with_op (Jump jumps.Always 0) b)) jumped_index
    ∙ then_set draft (with_op (Jump jumps.Always 0) b) c (m ++ Jump jumps.Always 0 ∷ []) (Jump jumps.Branch 0) (Jump jumps.Branch r) tm (draft_index a) jumped (ap draft_index (drafts_condition draft)) in
    let e = drafted else_branch d in
    let front = c ++ (Jump jumps.Branch r ∷ (m ++ Jump jumps.Always 0 ∷ [])) in
    let front_many = around_length c (m ++ Jump jumps.Always 0 ∷ []) (Jump jumps.Branch r) (operations condition) (operations then_branch + 1) (length_is p t condition) (one_length m (Jump jumps.Always 0) (operations then_branch) (length_is q tc then_branch)) in
    let to_then = c ++ (Jump jumps.Branch r ∷ m) in
    let e_is = then_tree draft d front tm (operations condition + 1 + (operations then_branch + 1)) else_branch d_is front_many drafts_else
    ∙ ap (λ s. extended draft (front ++ code_at s tm else_branch) tu) (indices p (operations condition) (operations then_branch))
    ∙ same_ops draft (front ++ u) (to_then ++ (Jump jumps.Always 0 ∷ u)) tu (regroup c m u (Jump jumps.Branch r) (Jump jumps.Always 0)) in
    let to_then_many = around_length c m (Jump jumps.Branch r) (operations condition) (operations then_branch) (length_is p t condition) (length_is q tc then_branch) in
    let e_index = index_found draft e (to_then ++ (Jump jumps.Always 0 ∷ u)) tu (operations condition + 1 + operations then_branch + 1 + operations else_branch) e_is (around_length to_then u (Jump jumps.Always 0) (operations condition + 1 + operations then_branch) (operations else_branch) to_then_many (length_is r tm else_branch))
    ∙ to_the_end p (operations condition) (operations then_branch) (operations else_branch) in
    ap (λ n. with_set (draft_index b) (Jump jumps.Always n) e) e_index
    ∙ then_set draft e to_then u (Jump jumps.Always 0) (Jump jumps.Always end) tu (draft_index b) e_is (b_index ∙ sym (index_after draft to_then (operations condition + 1 + operations then_branch) to_then_many ∙ further p (operations condition) (operations then_branch)))
    ∙ same_ops draft (to_then ++ (Jump jumps.Always end ∷ u)) (c ++ (Jump jumps.Branch r ∷ (m ++ (Jump jumps.Always end ∷ u)))) tu (append_assoc c (Jump jumps.Branch r ∷ m) (Jump jumps.Always end ∷ u))

mutual
  drafted_is : (tree : Typed) (draft : Code) → Drafted tree draft
  drafted_is typed.result draft = refl
  drafted_is typed.item draft = refl
  drafted_is (typed.literal literal) draft = literal_drafted literal draft
  drafted_is (typed.field owner name) draft =
      let p = draft_index draft in
      let t = tables_of draft in
      let to = tables_with owner t in
      ap (with_field name) (drafted_is owner draft)
      ∙ ap (λ ops. code_of_parts ops to.texts (with_text name to.names)) (append_assoc draft.ops (code_at p t owner) (Field (index_among name to.names) ∷ []))
  drafted_is (typed.unary operator operand) draft = one_drafted draft operand (Unary operator) (λ d. drafted_is operand d)
  drafted_is (typed.binary operator left right) draft = two_drafted draft left right (Binary operator) (λ d. drafted_is left d) (λ d. drafted_is right d)
  drafted_is (typed.both left right) draft = jump_drafted draft left right (Jump jumps.And 0) (Jump jumps.And) (λ d. drafted_is left d) (λ d. drafted_is right d)
  drafted_is (typed.either left right) draft = jump_drafted draft left right (Jump jumps.Or 0) (Jump jumps.Or) (λ d. drafted_is left d) (λ d. drafted_is right d)
  drafted_is (typed.choice condition then_branch else_branch) draft = choice_drafted draft condition then_branch else_branch (λ d. drafted_is condition d) (λ d. drafted_is then_branch d) (λ d. drafted_is else_branch d)
  drafted_is (typed.listed scalar items) draft =
      then_op draft (drafted_items items draft) (items_at (draft_index draft) (tables_of draft) items) (tables_with_items items (tables_of draft)) (MakeList scalar (how_many items)) (items_are items draft)
  drafted_is (typed.predicate predicate list body) draft = loop_drafted draft list body predicate (λ d. drafted_is list d) (λ d. drafted_is body d)

  items_are : (items : Typeds) (draft : Code) → drafted_items items draft ≡ extended draft (items_at (draft_index draft) (tables_of draft) items) (tables_with_items items (tables_of draft))
  items_are typed.none draft = ap (λ ops. code_of_parts ops draft.texts draft.names) (sym (append-nil draft.ops))
  items_are (typed.more first others) draft =
      let p = draft_index draft in
      let t = tables_of draft in
      let f = code_at p t first in
      let tf = tables_with first t in
      let to = tables_with_items others tf in
      let found = extended draft f tf in
      ap (drafted_items others) (drafted_is first draft) ∙ items_are others found
      ∙ ap (λ q. extended found (items_at q tf others) to) (index_after draft f (operations first) (length_is p t first))
      ∙ ap (λ ops. code_of_parts ops to.texts to.names) (append_assoc draft.ops f (items_at (p + operations first) tf others))

-- a whole condition
pub whole_is : (condition : Typed) → with_op Return (drafted condition no_code) ≡ compiled condition
unfolding compiled
whole_is condition = ap (with_op Return) (drafted_is condition no_code)

-- how many operations there are once a tree was drafted
pub drafted_length : (tree : Typed) (draft : Code) → draft_index (drafted tree draft) ≡ draft_index draft + operations tree
drafted_length tree draft = index_found draft (drafted tree draft) (code_at (draft_index draft) (tables_of draft) tree) (tables_with tree (tables_of draft)) (operations tree) (drafted_is tree draft) (length_is (draft_index draft) (tables_of draft) tree)

-- one operation more
pub one_index_more : (draft : Code) (op : Op) → draft_index (with_op op draft) ≡ draft_index draft + 1
one_index_more draft op = length-append draft.ops (op ∷ [])

-- as many operations once one is another
pub same_place : (draft : Code) (index : ℕ) (op : Op) → draft_index (with_set index op draft) ≡ draft_index draft
same_place draft index op = length-set draft.ops index op
