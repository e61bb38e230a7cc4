-- How many loops are around each operation, and that pass 3 needs no more than that and the Steps of open loops.
use Rattle.std.proofs.Common.{◌≡◌, ℕ, zero, suc, ◌+◌, ◌-◌, ◌<◌, ◌≤◌, Bool, true, false, ◌&&◌, List, [], ◌∷◌, ◌++◌, length, drop, take, Option, Some, None, Ok, Err, refl, sym, ap, subst, ◌∙◌, inl, inr, arith, add-one, drop-cons, append_assoc}
use Rattle.std.specs.Prelude.{◌==◌, if◌then◌else◌, slice_index_or, ◌⊎◌, slice_get}
use Rattle.std.proofs.Math.ListN.{drop_of_length-le}
use Rattle.std.proofs.Math.Seq.{get_or-append_seam, take-append_seam}
use Rattle.std.proofs.lemmas.Bool.{eqb-true, le-leb, lt-leb}
use Rattle.std.proofs.lemmas.Bool.Decides.{leb_tells, nat_tests}
use Rattle.std.proofs.lemmas.List.{append-nil, get_or_default, length-append}
use Rattle.std.proofs.lemmas.Option.{slice_get-get_or}
use Rattle.ar_value.specs.declared.operator.Predicate.{Predicate}
use Rattle.ar_op.specs.declared.op.Op.{Op}
use Rattle.ar_op.specs.declared.op.Op.TheVariants.{Jump, Enter, Step, Return}
use Rattle.ar_verify.specs.Private.Depths.{depth_at, depth_after, depths, is_inside, last_of, nests_by, open_after, stays_by, step_of, open_steps, IsNested, JumpsInside}
use Rattle.ar_safety.specs.declared.error.Cause.TheVariants.{Fault}
use Rattle.ar_safety.specs.Indices.{all_pass, loops_around, loops_among, in_innermost, names_well, nests_well, loop_reaches, same_loops, stays, unless}
use Rattle.ar_safety.specs.declared.error.Reason.{Reason}
use Rattle.ar_safety.specs.declared.error.Reason.TheVariants.{CrossesLoop}
use Rattle.ar_safety.proofs.Entries.{nth_at}
use Rattle.ar_verify.proofs.Passes.{finds, continues}
use Rattle.ar_safety.proofs.Nesting.{passes_each, alike, begins, after_step, both, held_further, holding_alike, inner_first, innermost_at_step, is_ahead, lies_within, reaches_less, reaching, stays_around, step_pairs, the_same_loops}

-- ---- the numbers of loops, one after the other

one_deeper : (op : Op) (depth : ℕ) → depth_after op depth ≤ depth + 1
one_deeper (Enter predicate step) depth = omega arith
one_deeper (Step predicate enter) depth = omega arith
one_deeper op depth = omega arith

module _ (ops : List Op) (before whole : List ℕ) where
  pub counts_further : (i : ℕ) (op : Op) (depth deeper : ℕ) (after : List ℕ) → i < length ops → deeper ≡ depth_after (slice_index_or ops i op) depth → after ≡ before ++ depth ∷ []
      → (depth ≤ i) × (before ++ depths depth (drop i ops) ≡ whole) → (deeper ≤ i + 1) × (after ++ depths deeper (drop (i + 1) ops) ≡ whole)
  counts_further i op depth deeper after within is longer h =
      let first : drop i ops ≡ slice_index_or ops i op ∷ drop (suc i) ops = drop-cons ops i op within in
      let one_more = one_deeper (slice_index_or ops i op) depth in
      let low = h.0 in
      (omega (arith, is, one_more, low), rw (is, longer, add-one i, append_assoc) (sym (ap (λ others. before ++ depths depth others) first) ∙ h.1))

  pub counted_all : (i depth : ℕ) → length ops ≤ i → before ++ depths depth (drop i ops) ≡ whole → before ≡ whole
  counted_all i depth past left = sym (append-nil before) ∙ ap (λ others. before ++ depths depth others) (sym (drop_of_length-le ops past)) ∙ left

-- ---- the Steps of open loops

one_fewer : (steps : List ℕ) (step : ℕ) → length (steps ++ step ∷ []) - 1 ≡ length steps
one_fewer steps step = let longer = length-append steps (step ∷ []) in omega (arith, longer)

last_is : (steps : List ℕ) (step : ℕ) → last_of (steps ++ step ∷ []) ≡ Some step
last_is steps step =
    let longer = length-append steps (step ∷ []) in
    rw (one_fewer steps step) (slice_get-get_or (steps ++ step ∷ []) (length steps) step (omega (arith, longer)) ∙ ap Some (get_or-append_seam steps step [] step))

without_last : (steps : List ℕ) (step : ℕ) → take (length (steps ++ step ∷ []) - 1) (steps ++ step ∷ []) ≡ steps
without_last steps step = rw (one_fewer steps step) (take-append_seam steps (step ∷ []))

one_more : (b : Bool) (enter : ℕ) (xs ys : List ℕ) → (xs ≡ ys) ⊎ (length ys < length xs) → ((if b then enter ∷ xs else xs) ≡ ys) ⊎ (length ys < length (if b then enter ∷ xs else xs))
one_more true enter xs ys (inl same) = let as_long = ap length same in inr (omega (arith, as_long))
one_more true enter xs ys (inr more) = inr (omega arith)
one_more false enter xs ys h = h

both_with : (b : Bool) (enter : ℕ) (xs ys : List ℕ) → length xs ≡ suc (length ys) → length (if b then enter ∷ xs else xs) ≡ suc (length (if b then enter ∷ ys else ys))
both_with true enter xs ys h = ap suc h
both_with false enter xs ys h = h

same_as_itself : (enters : List ℕ) → same_loops enters enters ≡ true
same_as_itself [] = refl
same_as_itself (enter ∷ enters) = let here : (enter == enter) ≡ true = grind (arith, nat_tests) in rw here (same_as_itself enters)

none_by_number : (enters : List ℕ) → (length enters == 0) ≡ same_loops enters []
none_by_number [] = refl
none_by_number (enter ∷ enters) = grind (arith, nat_tests)

module _ (ops : List Op) where
  first_reaches : (index k enter : ℕ) (outer : List ℕ) → loops_among ops index k ≡ enter ∷ outer → loop_reaches (slice_get ops enter) index ≡ true
  first_reaches index zero enter outer is = absurd cc
  first_reaches index (suc k) enter outer is = by_test (loop_reaches (slice_get ops k) index) refl (λ same. first_reaches index k enter outer same)
    where
      by_test : (test : Bool) → loop_reaches (slice_get ops k) index ≡ test → (loops_among ops index k ≡ enter ∷ outer → loop_reaches (slice_get ops enter) index ≡ true) → loop_reaches (slice_get ops enter) index ≡ true
      by_test true holds others =
          let here : k ∷ loops_among ops index k ≡ enter ∷ outer = rw holds at is in let same : k ≡ enter = cc in subst (λ e. loop_reaches (slice_get ops e) index ≡ true) same holds
      by_test false holds others = others (rw holds at is)

  -- whether the innermost loop reaches an index is known from its Step
  innermost_reaches : (index target : ℕ) (enters : List ℕ) → loops_around ops index ≡ enters → in_innermost ops enters target ≡ is_inside (last_of (open_steps ops enters)) target
  innermost_reaches index target [] is = refl
  innermost_reaches index target (enter ∷ outer) is =
      let r = reaching (slice_get ops enter) index (first_reaches index index enter outer is) in
      let there = r.2 in
      rw (last_is (open_steps ops outer) (step_of (slice_get ops enter)), there) refl

  -- ---- the same loops, by their number

  own_reaches : (index k : ℕ) → in_innermost ops (loops_among ops index k) index ≡ true
  own_reaches index zero = refl
  own_reaches index (suc k) = by_test (loop_reaches (slice_get ops k) index) refl (own_reaches index k)
    where
      by_test : (test : Bool) → loop_reaches (slice_get ops k) index ≡ test → in_innermost ops (loops_among ops index k) index ≡ true → in_innermost ops (loops_among ops index (suc k)) index ≡ true
      by_test true holds others = rw holds holds
      by_test false holds others = rw holds others

  as_many_or_more : (index from k : ℕ) → from ≤ k → (loops_among ops index k ≡ loops_among ops index from) ⊎ (length (loops_among ops index from) < length (loops_among ops index k))
  as_many_or_more index from zero le = let same : from ≡ 0 = omega arith in rw same (inl refl)
  as_many_or_more index from (suc k) le =
      elim (leb_tells from k) [
        | inl w ↦ one_more (loop_reaches (slice_get ops k) index) k (loops_among ops index k) (loops_among ops index from) (as_many_or_more index from k w.1)
        | inr w ↦ let same : from ≡ suc k = omega (arith, w.1) in rw same (inl refl)
      ]

-- ---- where pass 2 found nothing

module _ (ops : List Op) (paired : (index : ℕ) (op : Op) → slice_get ops index ≡ Some op → names_well ops index op ≡ None) where
  -- one loop fewer is around the index after a Step, whichever loops cross each other
  fewer_by_one : (predicate : Predicate) (step enter k : ℕ) → slice_get ops step ≡ Some (Step predicate enter) → suc enter ≤ k → k ≤ step
      → length (loops_among ops step k) ≡ suc (length (loops_among ops (suc step) k))
  fewer_by_one predicate step enter zero there later le = absurd (omega arith)
  fewer_by_one predicate step enter (suc k) there later le =
      let itself = step_pairs ops paired predicate step enter there in
      let ahead = itself.0 in
      let other : (outer : ℕ) → (outer ≡ enter → ⊥) → loop_reaches (slice_get ops outer) (suc step) ≡ loop_reaches (slice_get ops outer) step = λ outer differs. held_further ops paired step outer (λ family is. differs (let same : outer ≡ enter = cc in same)) in
      elim (leb_tells (suc enter) k) [
        | inl w ↦
            let more = w.1 in
            let same : loop_reaches (slice_get ops k) (suc step) ≡ loop_reaches (slice_get ops k) step = other k (λ is. omega arith) in
            rw same (both_with (loop_reaches (slice_get ops k) step) k (loops_among ops step k) (loops_among ops (suc step) k) (fewer_by_one predicate step enter k there w.1 (omega arith)))
        | inr w ↦
            let same : k ≡ enter = omega (arith, w.1) in
            let own : loop_reaches (slice_get ops enter) step ≡ true = rw itself.1 (le-leb step step (omega arith)) in
            let ended : loop_reaches (slice_get ops enter) (suc step) ≡ false = rw itself.1 (lt-leb (suc step) step (omega arith)) in
            let around : loops_among ops (suc step) enter ≡ loops_among ops step enter = holding_alike ops (suc step) step enter (λ outer below. other outer (λ is. omega arith)) in
            rw (same, own, ended, around) refl
      ]

  moves : (index : ℕ) (op : Op) → slice_get ops index ≡ Some op → depth_after op (length (loops_around ops index)) ≡ length (loops_around ops (suc index))
  moves index (Enter predicate step) there = let begun = begins ops paired predicate index step there in rw begun (add-one (length (loops_around ops index)))
  moves index (Step predicate enter) there =
      let itself = step_pairs ops paired predicate index enter there in
      let ahead = itself.0 in
      let fewer = fewer_by_one predicate index enter index there (omega arith) (omega arith) in
      let not_begun : loop_reaches (slice_get ops index) (suc index) ≡ false = rw there refl in
      rw not_begun (omega (arith, fewer))
  moves index op there = ap length (sym (stays_around ops paired index op there tt))

  -- as many loops hold an operation as are counted there
  held_from : (from : ℕ) (rest : List Op) → ((n : ℕ) (op : Op) → slice_get rest n ≡ Some op → slice_get ops (from + n) ≡ Some op) → (n : ℕ) → n < length rest → depth_at (depths (length (loops_around ops from)) rest) n ≡ length (loops_around ops (from + n))
  held_from from [] part n within = absurd (omega arith)
  held_from from (op ∷ rest) part zero within = let start : from + 0 ≡ from = omega arith in rw start refl
  held_from from (op ∷ rest) part (suc n) within =
      let start : from + 0 ≡ from = omega arith in
      let there : slice_get ops from ≡ Some op = rw start at (part 0 op refl) in
      let further : from + suc n ≡ suc from + n = omega arith in
      rw (moves from op there, further) (held_from (suc from) rest (λ m other is. let next : suc from + m ≡ from + suc m = omega arith in rw next (part (suc m) other is)) n (omega arith))

  pub depth_is : (index : ℕ) → index < length ops → depth_at (depths 0 ops) index ≡ length (loops_around ops index)
  depth_is index within = held_from 0 ops (λ n op is. let start : 0 + n ≡ n = omega arith in rw start is) index within ∙ ap (λ p. length (loops_around ops p)) (let start : 0 + index ≡ index = omega arith in start)

  -- ---- where pass 3 found nothing at the first indexes

  module _ (n : ℕ) (nested : (index : ℕ) (op : Op) → index < n → slice_get ops index ≡ Some op → nests_well ops index op ≡ None) where
    enters : (enter step : ℕ) (predicate : Predicate) → enter < n → slice_get ops enter ≡ Some (Enter predicate step) → nests_well ops enter (Enter predicate step) ≡ None
    enters enter step predicate below there = nested enter (Enter predicate step) below there

    same_by_number : (index target : ℕ) → index ≤ n → index ≤ target → same_loops (loops_around ops index) (loops_around ops target) ≡ (in_innermost ops (loops_around ops index) target && length (loops_around ops index) == length (loops_around ops target))
    same_by_number index target le ahead =
        alike (same_loops (loops_around ops index) (loops_around ops target)) (in_innermost ops (loops_around ops index) target && length (loops_around ops index) == length (loops_around ops target))
        (λ h. let same = the_same_loops (loops_around ops index) (loops_around ops target) h in rw (same, own_reaches ops target target) (grind (arith, nat_tests)))
        (λ h.
        let tests = both (in_innermost ops (loops_around ops index) target) (length (loops_around ops index) == length (loops_around ops target)) h in
        let as_many : length (loops_around ops index) ≡ length (loops_around ops target) = eqb-true (length (loops_around ops index)) (length (loops_around ops target)) tests.1 in
        let reach : (outer : ℕ) → outer < index → loop_reaches (slice_get ops outer) target ≡ loop_reaches (slice_get ops outer) index = λ outer below.
        alike (loop_reaches (slice_get ops outer) target) (loop_reaches (slice_get ops outer) index)
        (λ holds. reaches_less (slice_get ops outer) target index ahead holds)
        (λ holds. inner_first ops paired index target (λ inner less predicate end is. lies_within ops paired n enters predicate inner end (omega arith) is) index (omega arith) tests.0 outer below holds) in
        let around : loops_among ops target index ≡ loops_among ops index index = holding_alike ops target index index reach in
        let fewer = ap length around in
        elim (as_many_or_more ops target index target ahead) [
          | inl same ↦ let all : loops_around ops target ≡ loops_around ops index = same ∙ around in rw all (same_as_itself (loops_around ops index))
          | inr more ↦ absurd (omega arith)
        ])

    stays_is : (index target : ℕ) → index < length ops → index ≤ n → (index < target) × (target < length ops) → stays_by (depths 0 ops) (last_of (open_steps ops (loops_around ops index))) index target ≡ stays ops index target
    stays_is index target within le ahead =
        let further : index ≤ target = omega (arith, ahead.0) in
        let here = depth_is index within in
        let there = depth_is target ahead.1 in
        let inside = innermost_reaches ops index target (loops_around ops index) refl in
        let same = same_by_number index target le further in
        rw (here, there, ← inside, ← same) refl

    -- what the code tests is pass 3
    pub nests_is : (index : ℕ) (op : Op) → index < length ops → index ≤ n → slice_get ops index ≡ Some op → nests_by (depths 0 ops) (last_of (open_steps ops (loops_around ops index))) index op ≡ nests_well ops index op
    nests_is index (Jump jump target) within le there = stays_is index target within le (is_ahead ops index target (paired index (Jump jump target) there))
    nests_is index (Enter predicate step) within le there =
        let here = depth_is index within in
        let begun = begins ops paired predicate index step there in
        let inside = innermost_reaches ops index step (loops_around ops index) refl in
        rw (here, begun, ← inside) refl
    nests_is index Return within le there =
        let here = depth_is index within in
        rw here (ap (λ holds. unless holds CrossesLoop) (none_by_number (loops_around ops index)))
    nests_is index op within le there = refl

    pub opened_is : (index : ℕ) (op : Op) → index ≤ n → slice_get ops index ≡ Some op → open_after op (open_steps ops (loops_around ops index)) ≡ open_steps ops (loops_around ops (suc index))
    opened_is index (Enter predicate step) le there =
        let begun = begins ops paired predicate index step there in
        rw (begun, there) refl
    opened_is index (Step predicate enter) le there =
        let inner = innermost_at_step ops paired n enters predicate index enter there le in
        let outer = after_step ops paired n enters predicate index enter there le in
        rw (inner, outer) (without_last (open_steps ops (loops_around ops enter)) (step_of (slice_get ops enter)))
    opened_is index op le there = ap (open_steps ops) (sym (stays_around ops paired index op there tt))

-- ---- the loop over the operations

as_many_as_operations : (depth : ℕ) (ops : List Op) → length (depths depth ops) ≡ length ops
as_many_as_operations depth [] = refl
as_many_as_operations depth (op ∷ ops) = ap suc (as_many_as_operations (depth_after op depth) ops)

module _ (ops : List Op) (passed : all_pass (names_well ops) 0 ops ≡ Ok tt) (around : List ℕ) (counted : around ≡ depths 0 ops) where
  pub is_counted : (index : ℕ) → index < length ops → index < length around
  is_counted index within = let as_many = ap length counted ∙ as_many_as_operations 0 ops in omega (arith, as_many)

  pub jumps_inside : (index : ℕ) (op : Op) → slice_get ops index ≡ Some op → JumpsInside (length around) op
  jumps_inside index (Jump jump target) there = is_counted target (is_ahead ops index target (passes_each (names_well ops) ops passed index (Jump jump target) there)).1
  jumps_inside index op there = tt

  module _ (index : ℕ) (steps : List ℕ) (within : index < length ops) (so_far : IsNested ops index steps) (innermost : Option ℕ) (last : innermost ≡ last_of steps) (d : Op) where
    pub tests_the_pass : nests_by around innermost index (slice_index_or ops index d) ≡ nests_well ops index (slice_index_or ops index d)
    tests_the_pass =
        let by_steps : innermost ≡ last_of (open_steps ops (loops_around ops index)) = last ∙ ap last_of so_far.0 in
        rw (counted, by_steps) (nests_is ops (passes_each (names_well ops) ops passed) index so_far.1 index (slice_index_or ops index d) within (omega arith) (nth_at ops index d within))

    itself : slice_index_or ops index d ≡ slice_index_or ops index (slice_index_or ops index d)
    itself = get_or_default ops index d (slice_index_or ops index d) within

    pub finds_here : (reason : Reason) → nests_by around innermost index (slice_index_or ops index d) ≡ Some reason → all_pass (nests_well ops) 0 ops ≡ Err (Fault index reason)
    finds_here reason is = sym (finds (nests_well ops) ops (all_pass (nests_well ops) 0 ops) index (slice_index_or ops index d) reason within itself (sym is ∙ tests_the_pass) so_far.2)

    pub nested_further : (more : List ℕ) → nests_by around innermost index (slice_index_or ops index d) ≡ None → more ≡ open_after (slice_index_or ops index d) steps → IsNested ops (index + 1) more
    nested_further more is opened =
        let there : slice_get ops index ≡ Some (slice_index_or ops index d) = nth_at ops index d within in
        let none : nests_well ops index (slice_index_or ops index d) ≡ None = sym tests_the_pass ∙ is in
        let open_now : open_after (slice_index_or ops index d) (open_steps ops (loops_around ops index)) ≡ open_steps ops (loops_around ops (suc index)) =
        opened_is ops (passes_each (names_well ops) ops passed) index so_far.1 index (slice_index_or ops index d) (omega arith) there in (
          rw (add-one index) (opened ∙ ap (open_after (slice_index_or ops index d)) so_far.0 ∙ open_now),
          λ before op below at. elim (leb_tells index before) [
            | inl w ↦ let same : before ≡ index = omega (arith, w.1) in let here : slice_index_or ops index d ≡ op = (let both_at : slice_get ops before ≡ Some (slice_index_or ops index d) = ap (slice_get ops) same ∙ there in cc) in rw (same, ← here) none
            | inr w ↦ so_far.1 before op w.1 at
          ],
          continues (nests_well ops) ops (all_pass (nests_well ops) 0 ops) index (slice_index_or ops index d) within itself (sym none) so_far.2,
        )
