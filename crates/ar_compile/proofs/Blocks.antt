-- Blocks of code: the operations between two indexes, which a run enters at the first one and leaves at the last. The
-- code of a tree is one, and the verifier's passes 1 to 4 find nothing in it.
use Rattle.std.proofs.Common.{◌≡◌, ◌<◌, ◌≤◌, ℕ, suc, ◌-◌, true, nat_le, List, [], ◌∷◌, length, Some, None, Ok, refl, sym, ap, subst, inl, inr, ◌∙◌, arith}
use Rattle.std.specs.Prelude.{◌==◌, nat_lt, slice_get}
use Rattle.std.proofs.lemmas.Bool.{le-leb}
use Rattle.std.proofs.lemmas.Bool.Decides.{leb_tells, nat_tests}
use Rattle.ar_value.specs.declared.operator.Predicate.{Predicate}
use Rattle.ar_value.proofs.Predicates.{itself as same_predicate}
use Rattle.ar_value.specs.Limits.{most_loops}
use Rattle.ar_op.specs.declared.op.Op.{Op}
use Rattle.ar_op.specs.declared.op.Jump.TheVariants as jumps
use Rattle.ar_op.specs.declared.op.Op.TheVariants.{Jump, Enter, Step, Return}
use Rattle.ar_safety.specs.Indices.{forward, has_ops, loops_around, in_innermost, names_well, nests_well, indices_pass, same_loops, stays}
use Rattle.ar_safety.proofs.Nesting.{IsNoLoop, all_pass_each, begins, after_step, reaches_less, is_below, stays_around}

-- an operation that continues at the next index alone
abbrev pub IsPlain : Op → Type 0
IsPlain (Jump jump target) = ⊥
IsPlain (Enter predicate step) = ⊥
IsPlain (Step predicate enter) = ⊥
IsPlain Return = ⊥
IsPlain op = Unit {0}

-- a jump where a boolean decides, or the next index
abbrev pub SkipsTo : ℕ → Op → Type 0
SkipsTo target (Jump jumps.And index) = index ≡ target
SkipsTo target (Jump jumps.Or index) = index ≡ target
SkipsTo target op = ⊥

there_are : (ops : List Op) {end : ℕ} → length ops ≡ suc end → has_ops ops ≡ Ok tt
there_are [] long = absurd (omega (arith, long))
there_are (op ∷ ops) long = refl

module _ (ops : List Op) where
  abbrev pub At : (index : ℕ) → Op → Type 0
  At index op = slice_get ops index ≡ Some op

  -- inside n loops, from an index up to another one
  pub data Block : ℕ → (begin end : ℕ) → Type 0 where
    one : {around begin : ℕ} {op : Op} → At begin op → IsPlain op → Block around begin (suc begin)
    both : {around begin middle end : ℕ} → Block around begin middle → Block around middle end → Block around begin end
    -- a jump over the rest of the block
    skips : {around begin end : ℕ} {op : Op} → At begin op → SkipsTo end op → Block around (suc begin) end → Block around begin end
    -- one of two blocks
    branches : {around begin middle end : ℕ} → At begin (Jump jumps.Branch (suc middle)) → Block around (suc begin) middle → At middle (Jump jumps.Always end) → Block around (suc middle) end → Block around begin end
    loops : {around begin step : ℕ} {predicate : Predicate} → around < most_loops → At begin (Enter predicate step) → Block (suc around) (suc begin) step → At step (Step predicate begin) → Block around begin (suc step)

  pub forth : {around begin end : ℕ} → Block around begin end → begin ≤ end
  forth (one there plain) = omega arith
  forth (both first second) = let h = forth first in let k = forth second in omega arith
  forth (skips there to rest) = let h = forth rest in omega arith
  forth (branches there then_branch jump else_branch) = let h = forth then_branch in let k = forth else_branch in omega arith
  forth (loops few there body step) = let h = forth body in omega arith

  one_op : (index : ℕ) (op other : Op) → At index op → At index other → op ≡ other
  one_op index op other h k = cc

  -- ---- indexes of operations

  abbrev NamesWell : (index : ℕ) → Type 0
  NamesWell index = (op : Op) → At index op → names_well ops index op ≡ None

  is_named : (index : ℕ) (op : Op) → At index op → names_well ops index op ≡ None → NamesWell index
  is_named index op there well other also = subst (λ op. names_well ops index op ≡ None) (one_op index op other there also) well

  moves_forward : (index target : ℕ) → index < target → target < length ops → forward ops index target ≡ None
  moves_forward index target ahead within = let first : nat_lt target (length ops) ≡ true = grind (arith, nat_tests) in let second : nat_lt index target ≡ true = grind (arith, nat_tests) in rw (first, second) refl

  plain_named : (index : ℕ) (op : Op) → IsPlain op → names_well ops index op ≡ None
  plain_named index (Jump jump target) plain = absurd plain
  plain_named index (Enter predicate step) plain = absurd plain
  plain_named index (Step predicate enter) plain = absurd plain
  plain_named index op plain = refl

  skip_named : (index target : ℕ) (op : Op) → SkipsTo target op → index < target → target < length ops → names_well ops index op ≡ None
  skip_named index target (Jump jumps.And named) to ahead within = rw to (moves_forward index target ahead within)
  skip_named index target (Jump jumps.Or named) to ahead within = rw to (moves_forward index target ahead within)
  skip_named index target op to ahead within = absurd to

  itself : (n : ℕ) → (n == n) ≡ true
  itself n = grind (arith, nat_tests)

  enter_named : (index step : ℕ) (predicate : Predicate) → index < step → step < length ops → At step (Step predicate index) → names_well ops index (Enter predicate step) ≡ None
  enter_named index step predicate ahead within there = rw (moves_forward index step ahead within, there, same_predicate predicate, itself index) refl

  step_named : (index enter : ℕ) (predicate : Predicate) → enter < index → index < length ops → At enter (Enter predicate index) → names_well ops index (Step predicate enter) ≡ None
  step_named index enter predicate ahead within there =
      let first : nat_lt enter (length ops) ≡ true = grind (arith, nat_tests) in
      let second : nat_lt enter index ≡ true = grind (arith, nat_tests) in
      rw (first, second, there, same_predicate predicate, itself index) refl

  at_begin : (begin index : ℕ) → begin ≤ index → index < suc begin → NamesWell begin → NamesWell index
  at_begin begin index from below well = let same : begin ≡ index = omega arith in subst NamesWell same well

  -- the operations of a block name indexes as they should
  pub names : {around begin end : ℕ} → Block around begin end → end < length ops → (index : ℕ) → begin ≤ index → index < end → NamesWell index
  names (one {begin = begin} {op = op} there plain) within index from below = at_begin begin index from below (is_named begin op there (plain_named begin op plain))
  names (both {middle = middle} first second) within index from below =
      let k = forth second in
      elim (leb_tells middle index) [
        | inl w ↦ names second within index w.1 below
        | inr w ↦ names first (omega arith) index from w.1
      ]
  names (skips {begin = begin} {end = end} {op = op} there to rest) within index from below =
      let ahead = forth rest in
      elim (leb_tells (suc begin) index) [
        | inl w ↦ names rest within index w.1 below
        | inr w ↦ at_begin begin index from w.1 (is_named begin op there (skip_named begin end op to (omega arith) within))
      ]
  names (branches {begin = begin} {middle = middle} {end = end} branch then_branch jump else_branch) within index from below =
      let ahead = forth then_branch in
      let further = forth else_branch in
      elim (leb_tells (suc middle) index) [
        | inl w ↦ names else_branch within index w.1 below
        | inr w ↦ elim (leb_tells middle index) [
          | inl v ↦ at_begin middle index v.1 w.1 (is_named middle (Jump jumps.Always end) jump (moves_forward middle end (omega arith) within))
          | inr v ↦ elim (leb_tells (suc begin) index) [
            | inl u ↦ names then_branch (omega arith) index u.1 v.1
            | inr u ↦ at_begin begin index from u.1 (is_named begin (Jump jumps.Branch (suc middle)) branch (moves_forward begin (suc middle) (omega arith) (omega arith)))
          ]
        ]
      ]
  names (loops {begin = begin} {step = step} {predicate = predicate} few enter body step_there) within index from below =
      let ahead = forth body in
      elim (leb_tells step index) [
        | inl w ↦ at_begin step index w.1 below (is_named step (Step predicate begin) step_there (step_named step begin predicate (omega arith) (omega arith) enter))
        | inr w ↦ elim (leb_tells (suc begin) index) [
          | inl v ↦ names body (omega arith) index v.1 w.1
          | inr v ↦ at_begin begin index from v.1 (is_named begin (Enter predicate step) enter (enter_named begin step predicate (omega arith) (omega arith) step_there))
        ]
      ]

  -- ---- loops

  -- where the names of all indexes are as they should be
  module _ (paired : (index : ℕ) (op : Op) → At index op → names_well ops index op ≡ None) where
    abbrev NestsWell : (index : ℕ) → Type 0
    NestsWell index = (op : Op) → At index op → nests_well ops index op ≡ None

    abbrev EntersBelow : ℕ → Type 0
    EntersBelow n = (enter step : ℕ) (predicate : Predicate) → enter < n → At enter (Enter predicate step) → nests_well ops enter (Enter predicate step) ≡ None

    is_nested : (index : ℕ) (op : Op) → At index op → nests_well ops index op ≡ None → NestsWell index
    is_nested index op there well other also = subst (λ op. nests_well ops index op ≡ None) (one_op index op other there also) well

    plain_nested : (index : ℕ) (op : Op) → IsPlain op → nests_well ops index op ≡ None
    plain_nested index (Jump jump target) plain = absurd plain
    plain_nested index (Enter predicate step) plain = absurd plain
    plain_nested index Return plain = absurd plain
    plain_nested index op plain = refl

    no_loop : (op : Op) → IsPlain op → IsNoLoop op
    no_loop (Jump jump target) plain = tt
    no_loop (Enter predicate step) plain = plain
    no_loop (Step predicate enter) plain = plain
    no_loop Return plain = tt
    no_loop op plain = tt

    alike_loops : (enters : List ℕ) → same_loops enters enters ≡ true
    alike_loops [] = refl
    alike_loops (enter ∷ enters) = rw (itself enter, alike_loops enters) refl

    stays_there : (index target : ℕ) → loops_around ops index ≡ loops_around ops target → stays ops index target ≡ None
    stays_there index target same = rw (same, alike_loops (loops_around ops target)) refl

    skip_nested : (index target : ℕ) (op : Op) → SkipsTo target op → loops_around ops index ≡ loops_around ops target → nests_well ops index op ≡ None
    skip_nested index target (Jump jumps.And named) to same = rw to (stays_there index target same)
    skip_nested index target (Jump jumps.Or named) to same = rw to (stays_there index target same)
    skip_nested index target op to same = absurd to

    skip_no_loop : (target : ℕ) (op : Op) → SkipsTo target op → IsNoLoop op
    skip_no_loop target (Jump jumps.And named) to = tt
    skip_no_loop target (Jump jumps.Or named) to = tt
    skip_no_loop target op to = absurd to

    -- the operations of a block are nested as they should be, and after it the same loops are around as before it
    record Nested (around begin end : ℕ) : Type 0 where
      each : (index : ℕ) → begin ≤ index → index < end → NestsWell index
      later : loops_around ops end ≡ loops_around ops begin

    below_or_in : (begin end : ℕ) → EntersBelow begin → ((index : ℕ) → begin ≤ index → index < end → NestsWell index) → EntersBelow end
    below_or_in begin end before each enter step predicate below there = elim (leb_tells begin enter) [
      | inl w ↦ each enter w.1 below (Enter predicate step) there
      | inr w ↦ before enter step predicate w.1 there
    ]

    reach_less : (enters : List ℕ) (before index : ℕ) → before ≤ index → in_innermost ops enters index ≡ true → in_innermost ops enters before ≡ true
    reach_less [] before index less h = refl
    reach_less (enter ∷ outer) before index less h = reaches_less (slice_get ops enter) index before less h

    at_first : (begin index : ℕ) → begin ≤ index → index < suc begin → NestsWell begin → NestsWell index
    at_first begin index from below well = let same : begin ≡ index = omega arith in subst NestsWell same well

    -- after an operation that begins no loop
    no_enter : (index : ℕ) (op : Op) → At index op → IsNoLoop op → EntersBelow index → EntersBelow (suc index)
    no_enter index op there plain before enter step predicate below enter_there = elim (leb_tells index enter) [
      | inl w ↦ let same : index ≡ enter = omega (arith, w.1) in absurd (subst IsNoLoop (one_op index op (Enter predicate step) there (subst (λ at. At at (Enter predicate step)) (sym same) enter_there)) plain)
      | inr w ↦ before enter step predicate w.1 enter_there
    ]

    nest : {around begin end : ℕ} → Block around begin end → in_innermost ops (loops_around ops begin) end ≡ true → length (loops_around ops begin) ≡ around → EntersBelow begin → Nested around begin end
    nest (one {begin = begin} {op = op} there plain) inner deep before =
        record { each = λ index from below. at_first begin index from below (is_nested begin op there (plain_nested begin op plain)); later = stays_around ops paired begin op there (no_loop op plain) }
    nest (both {begin = begin} {middle = middle} {end = end} first second) inner deep before =
        let k = forth second in
        let one_nest = nest first (reach_less (loops_around ops begin) middle end k inner) deep before in
        let other = nest second (rw one_nest.later inner) (rw one_nest.later deep) (below_or_in begin middle before one_nest.each) in
        record {
          each = λ index from below. elim (leb_tells middle index) [
            | inl w ↦ other.each index w.1 below
            | inr w ↦ one_nest.each index from w.1
          ];
          later = other.later ∙ one_nest.later;
        }
    nest (skips {begin = begin} {end = end} {op = op} there to rest) inner deep before =
        let next : loops_around ops (suc begin) ≡ loops_around ops begin = stays_around ops paired begin op there (skip_no_loop end op to) in
        let rest_nest = nest rest (rw next inner) (rw next deep) (no_enter begin op there (skip_no_loop end op to) before) in
        let later : loops_around ops end ≡ loops_around ops begin = rest_nest.later ∙ next in
        record {
          each = λ index from below. elim (leb_tells (suc begin) index) [
            | inl w ↦ rest_nest.each index w.1 below
            | inr w ↦ at_first begin index from w.1 (is_nested begin op there (skip_nested begin end op to (sym later)))
          ];
          later = later;
        }
    nest (branches {begin = begin} {middle = middle} {end = end} branch then_branch jump else_branch) inner deep before =
        let ahead = forth then_branch in
        let further = forth else_branch in
        let next : loops_around ops (suc begin) ≡ loops_around ops begin = stays_around ops paired begin (Jump jumps.Branch (suc middle)) branch tt in
        let then_nest = nest then_branch (rw next (reach_less (loops_around ops begin) middle end (omega arith) inner)) (rw next deep) (no_enter begin (Jump jumps.Branch (suc middle)) branch tt before) in
        let at_jump : loops_around ops middle ≡ loops_around ops begin = then_nest.later ∙ next in
        let after_jump : loops_around ops (suc middle) ≡ loops_around ops begin = stays_around ops paired middle (Jump jumps.Always end) jump tt ∙ at_jump in
        let else_nest = nest else_branch (rw after_jump inner) (rw after_jump deep) (no_enter middle (Jump jumps.Always end) jump tt (below_or_in (suc begin) middle (no_enter begin (Jump jumps.Branch (suc middle)) branch tt before) then_nest.each)) in
        let later : loops_around ops end ≡ loops_around ops begin = else_nest.later ∙ after_jump in
        record {
          each = λ index from below. elim (leb_tells (suc middle) index) [
            | inl w ↦ else_nest.each index w.1 below
            | inr w ↦ elim (leb_tells middle index) [
              | inl v ↦ at_first middle index v.1 w.1 (is_nested middle (Jump jumps.Always end) jump (stays_there middle end (at_jump ∙ sym later)))
              | inr v ↦ elim (leb_tells (suc begin) index) [
                | inl u ↦ then_nest.each index u.1 v.1
                | inr u ↦ at_first begin index from u.1 (is_nested begin (Jump jumps.Branch (suc middle)) branch (stays_there begin (suc middle) (sym after_jump)))
              ]
            ]
          ];
          later = later;
        }
    nest (loops {around = around} {begin = begin} {step = step} {predicate = predicate} few enter body step_there) inner deep before =
        let ahead = forth body in
        let next : loops_around ops (suc begin) ≡ begin ∷ loops_around ops begin = begins ops paired predicate begin step enter in
        let shallow : nat_le (length (loops_around ops (suc begin))) most_loops ≡ true = rw (next, deep) (le-leb (suc around) most_loops few) in
        let inside_it : in_innermost ops (loops_around ops begin) step ≡ true = reach_less (loops_around ops begin) step (suc step) (omega arith) inner in
        let enter_nested : nests_well ops begin (Enter predicate step) ≡ None = rw (shallow, inside_it) refl in
        let entered = below_or_in begin (suc begin) before (λ index from below. at_first begin index from below (is_nested begin (Enter predicate step) enter enter_nested)) in
        let own : in_innermost ops (loops_around ops (suc begin)) step ≡ true = rw (next, enter) (le-leb step step (omega arith)) in
        let body_nest = nest body own (rw next (ap suc deep)) entered in
        record {
          each = λ index from below. elim (leb_tells step index) [
            | inl w ↦ at_first step index w.1 below (is_nested step (Step predicate begin) step_there refl)
            | inr w ↦ elim (leb_tells (suc begin) index) [
              | inl v ↦ body_nest.each index v.1 w.1
              | inr v ↦ at_first begin index from v.1 (is_nested begin (Enter predicate step) enter enter_nested)
            ]
          ];
          later = after_step ops paired step (below_or_in (suc begin) step entered body_nest.each) predicate step begin step_there (omega arith);
        }

  -- ---- code that is a block and then Return

  module _ (end : ℕ) (block : Block 0 0 end) (last : At end Return) (long : length ops ≡ suc end) where
    names_each : (index : ℕ) (op : Op) → At index op → names_well ops index op ≡ None
    names_each index op there =
        let below = is_below ops index op there in
        elim (leb_tells end index) [
          | inl w ↦ at_begin end index w.1 (omega (arith, below, long)) (is_named end Return last refl) op there
          | inr w ↦ names block (omega arith) index (omega arith) w.1 op there
        ]

    nests_each : (index : ℕ) (op : Op) → At index op → nests_well ops index op ≡ None
    nests_each index op there =
        let below = is_below ops index op there in
        let nested = nest names_each block refl refl (λ enter step predicate less there. absurd (omega arith)) in
        elim (leb_tells end index) [
          | inl w ↦ at_first names_each end index w.1 (omega (arith, below, long)) (is_nested names_each end Return last (rw nested.later refl)) op there
          | inr w ↦ nested.each index (omega arith) w.1 op there
        ]

    some_ops : has_ops ops ≡ Ok tt
    some_ops = there_are ops long

    -- the passes 1 to 4 find nothing
    pub indices_are_well : indices_pass ops ≡ Ok tt
    indices_are_well =
        let minus : length ops - 1 ≡ end = omega (arith, long) in
        rw (some_ops, all_pass_each (names_well ops) ops names_each, all_pass_each (nests_well ops) ops nests_each, minus, last) refl
