-- Explanations with lines more.
use Rattle.std.proofs.Common.{◌≡◌, ℕ, ◌+◌, ◌-◌, ◌^◌, ◌<◌, ◌≤◌, Bool, true, false, List, [], ◌∷◌, ◌++◌, drop, length, map, take, refl, ap, sym, ◌∙◌, arith, append_assoc, length-append, true≢false}
use Rattle.std.specs.Prelude.{if◌then◌else◌, min, nat_lt}
use Rattle.std.proofs.lemmas.List.{append-nil, drop-append-le, drop-drop, drop-map, length-drop, length-map, length-take, map-append, take-append-drop, take-append-le}
use Rattle.std.proofs.lemmas.Bool.Decides.{nat_tests}
use Rattle.std.proofs.Math.ListN.{drop_of_length-le}
use Rattle.ar_tree.specs.Typed.{Typed}
use Rattle.ar_explain.specs.Lines.{Explanation, Line, Outcome, explained, kept_of, lines_on_item, most_at_each_end, most_left_out}
use Rattle.ar_explain.specs.Private.Keeping.{on_items, with_last, with_line, with_lines}
use Rattle.ar_explain.specs.Views.{line_view}
use Rattle.ar_explain.specs.declared.explanation.Line.{Line as LineCode}

-- lines after others
pub with_more : (silent : Bool) (items : List ℕ) (e : Explanation) (xs ys : List Line)
    → with_lines silent items (with_lines silent items e xs) ys ≡ with_lines silent items e (xs ++ ys)
with_more silent items e [] ys = refl
with_more silent items e (x ∷ xs) ys = with_more silent items (if silent then e else with_line e (on_items items x)) xs ys

-- nothing is said where it is silent
pub with_silence : (items : List ℕ) (e : Explanation) (xs : List Line) → with_lines true items e xs ≡ e
with_silence items e [] = refl
with_silence items e (x ∷ xs) = with_silence items e xs

within_item : (items : List ℕ) (number : ℕ) (line : Line) → on_items (items ++ number ∷ []) line ≡ on_items items (record line { items = number ∷ line.items })
within_item items number line = ap (λ numbers. record { items = numbers; part = line.part; said = line.said }) (append_assoc items (number ∷ []) line.items)

one_on_item : (silent : Bool) (items : List ℕ) (number : ℕ) (e : Explanation) (line : Line)
    → (if silent then e else with_line e (on_items (items ++ number ∷ []) line)) ≡ (if silent then e else with_line e (on_items items (record line { items = number ∷ line.items })))
one_on_item true items number e line = refl
one_on_item false items number e line = ap (with_line e) (within_item items number line)

-- the lines on an item are those of the body with the item's number
pub with_item : (silent : Bool) (items : List ℕ) (number : ℕ) (e : Explanation) (xs : List Line)
    → with_lines silent (items ++ number ∷ []) e xs ≡ with_lines silent items e (lines_on_item number xs)
with_item silent items number e [] = refl
with_item silent items number e (x ∷ xs) =
    ap (λ e. with_lines silent (items ++ number ∷ []) e xs) (one_on_item silent items number e x)
    ∙ with_item silent items number (if silent then e else with_line e (on_items items (record x { items = number ∷ x.items }))) xs

-- ---- what is kept

abbrev pub explanation : List Line → ℕ → List Line → Explanation
explanation lines left_out last = record { lines = lines; left_out = left_out; last = last }

same_explanation : (a b : Explanation) → a.lines ≡ b.lines → a.left_out ≡ b.left_out → a.last ≡ b.last → a ≡ b
same_explanation a b same many ends =
    ap (λ lines. explanation lines a.left_out a.last) same ∙ ap (λ n. explanation b.lines n a.last) many
    ∙ ap (λ last. explanation b.lines b.left_out last) ends

take-all : (xs : List Line) (n : ℕ) → length xs ≤ n → take n xs ≡ xs
take-all xs n within =
    sym (append-nil (take n xs)) ∙ ap (λ ys. take n xs ++ ys) (sym (drop_of_length-le xs within)) ∙ take-append-drop n xs

pub lt_of : (m n : ℕ) → nat_lt n m ≡ true → n < m
lt_of m n e = grind (arith, nat_tests)

pub le_of : (m n : ℕ) → nat_lt n m ≡ false → m ≤ n
le_of m n e = grind (arith, nat_tests)

true_of : (n m : ℕ) → n < m → nat_lt n m ≡ true
true_of n m less = grind (arith, nat_tests)

false_of : (n m : ℕ) → m ≤ n → nat_lt n m ≡ false
false_of n m less = grind (arith, nat_tests)

-- what is kept of no lines
pub none_explained : explanation [] 0 [] ≡ explained []
none_explained = of_none most_at_each_end most_left_out where
  of_none : (most counted : ℕ) → explanation [] 0 [] ≡ explanation (take most []) (min counted (length {A = Line} (drop most []) - most)) (drop (length {A = Line} (drop most []) - most) (drop most []))
  of_none most counted =
      let none : ◌≡◌ {A = List Line} (drop most []) [] = drop_of_length-le [] (omega arith) in
      same_explanation (explanation [] 0 []) (explanation (take most []) (min counted (length {A = Line} (drop most []) - most)) (drop (length {A = Line} (drop most []) - most) (drop most [])))
      (sym (take-all [] most (omega arith))) (rw none (omega arith)) (rw none (sym (drop_of_length-le {A = Line} [] (omega arith))))

-- there is room among the first
room : (most : ℕ) (xs : List Line) (x : Line) → length (take most xs) < most
    → (take most xs ++ x ∷ [] ≡ take most (xs ++ x ∷ [])) × (drop most xs ≡ drop most (xs ++ x ∷ []))
room most xs x fits =
    let few : length xs < most = omega (arith, length-take most xs) in
    let all : take most xs ≡ xs = take-all xs most (omega arith) in
    let one : length (xs ++ x ∷ []) ≤ most = omega (arith, length-append xs (x ∷ [])) in
    let past : length xs ≤ most = omega arith in
    (ap (λ ys. ys ++ x ∷ []) all ∙ sym (take-all (xs ++ x ∷ []) most one), drop_of_length-le xs past ∙ sym (drop_of_length-le (xs ++ x ∷ []) one))

-- there is none
no_room : (most : ℕ) (xs : List Line) (x : Line) → most ≤ length (take most xs)
    → (take most xs ≡ take most (xs ++ x ∷ [])) × (drop most xs ++ x ∷ [] ≡ drop most (xs ++ x ∷ []))
no_room most xs x full =
    let many : most ≤ length xs = omega (arith, length-take most xs) in
    (sym (take-append-le most xs (x ∷ []) many), sym (drop-append-le most xs (x ∷ []) many))

-- there is room among the last
last_room : (most counted : ℕ) (rest : List Line) (x : Line) → length (drop (length rest - most) rest) < most
    → (min counted (length rest - most) ≡ min counted (length (rest ++ x ∷ []) - most))
    × (drop (length rest - most) rest ++ x ∷ [] ≡ drop (length (rest ++ x ∷ []) - most) (rest ++ x ∷ []))
last_room most counted rest x fits =
    let few : length rest < most = omega (arith, length-drop (length rest - most) rest) in
    let longer : length (rest ++ x ∷ []) ≡ length rest + 1 = length-append rest (x ∷ []) in
    let same : length (rest ++ x ∷ []) - most ≡ length rest - most = omega (arith, few, longer) in
    (ap (λ n. min counted n) (sym same), sym (drop-append-le (length rest - most) rest (x ∷ []) (omega arith)) ∙ ap (λ n. drop n (rest ++ x ∷ [])) (sym same))

-- the first of the last makes room
last_full : (most counted : ℕ) (rest : List Line) (x : Line) → 0 < most → most ≤ length (drop (length rest - most) rest)
    → (min (min counted (length rest - most) + 1) counted ≡ min counted (length (rest ++ x ∷ []) - most))
    × (drop 1 (drop (length rest - most) rest) ++ x ∷ [] ≡ drop (length (rest ++ x ∷ []) - most) (rest ++ x ∷ []))
last_full most counted rest x some full =
    let many : most ≤ length rest = omega (arith, length-drop (length rest - most) rest) in
    let longer : length (rest ++ x ∷ []) ≡ length rest + 1 = length-append rest (x ∷ []) in
    let one : length (rest ++ x ∷ []) - most ≡ (length rest - most) + 1 = omega (arith, many, longer) in (
      omega (arith, one),
      ap (λ ys. ys ++ x ∷ []) (drop-drop 1 (length rest - most) rest) ∙ sym (drop-append-le ((length rest - most) + 1) rest (x ∷ []) (omega (arith, many, some)))
          ∙ ap (λ n. drop n (rest ++ x ∷ [])) (sym one),
    )

one_last : (most counted : ℕ) (first rest : List Line) (x : Line) (fits : Bool) → 0 < most → nat_lt (length (drop (length rest - most) rest)) most ≡ fits
    → (if fits then explanation first (min counted (length rest - most)) (drop (length rest - most) rest ++ x ∷ [])
    else explanation first (min (min counted (length rest - most) + 1) counted) (drop 1 (drop (length rest - most) rest) ++ x ∷ []))
    ≡ explanation first (min counted (length (rest ++ x ∷ []) - most)) (drop (length (rest ++ x ∷ []) - most) (rest ++ x ∷ []))
one_last most counted first rest x true some e =
    let is = last_room most counted rest x (lt_of most (length (drop (length rest - most) rest)) e) in
    same_explanation (explanation first (min counted (length rest - most)) (drop (length rest - most) rest ++ x ∷ []))
    (explanation first (min counted (length (rest ++ x ∷ []) - most)) (drop (length (rest ++ x ∷ []) - most) (rest ++ x ∷ []))) refl is.0 is.1
one_last most counted first rest x false some e =
    let is = last_full most counted rest x some (le_of most (length (drop (length rest - most) rest)) e) in
    same_explanation (explanation first (min (min counted (length rest - most) + 1) counted) (drop 1 (drop (length rest - most) rest) ++ x ∷ []))
    (explanation first (min counted (length (rest ++ x ∷ []) - most)) (drop (length (rest ++ x ∷ []) - most) (rest ++ x ∷ []))) refl is.0 is.1

some_at_each_end : 0 < most_at_each_end
unfolding most_at_each_end
some_at_each_end = omega arith

last_explained : (first rest : List Line) (x : Line) → with_last (kept_of most_at_each_end first rest) x ≡ kept_of most_at_each_end first (rest ++ x ∷ [])
unfolding with_last
last_explained first rest x =
    one_last most_at_each_end most_left_out first rest x (nat_lt (length (drop (length rest - most_at_each_end) rest)) most_at_each_end) some_at_each_end refl

one_line : (xs : List Line) (x : Line) (fits : Bool) → nat_lt (length (take most_at_each_end xs)) most_at_each_end ≡ fits
    → (if fits then kept_of most_at_each_end (take most_at_each_end xs ++ x ∷ []) (drop most_at_each_end xs) else with_last (explained xs) x)
    ≡ explained (xs ++ x ∷ [])
one_line xs x true e =
    let is = room most_at_each_end xs x (lt_of most_at_each_end (length (take most_at_each_end xs)) e) in
    ap (λ first. kept_of most_at_each_end first (drop most_at_each_end xs)) is.0 ∙ ap (λ rest. kept_of most_at_each_end (take most_at_each_end (xs ++ x ∷ [])) rest) is.1
one_line xs x false e =
    let is = no_room most_at_each_end xs x (le_of most_at_each_end (length (take most_at_each_end xs)) e) in
    last_explained (take most_at_each_end xs) (drop most_at_each_end xs) x
    ∙ ap (λ first. kept_of most_at_each_end first (drop most_at_each_end xs ++ x ∷ [])) is.0
    ∙ ap (λ rest. kept_of most_at_each_end (take most_at_each_end (xs ++ x ∷ [])) rest) is.1

line_explained : (xs : List Line) (x : Line) → with_line (explained xs) x ≡ explained (xs ++ x ∷ [])
unfolding with_line
line_explained xs x = one_line xs x (nat_lt (length (take most_at_each_end xs)) most_at_each_end) refl

-- lines more than those that are explained
more_explained : (xs ys : List Line) → with_lines false [] (explained xs) ys ≡ explained (xs ++ ys)
more_explained xs [] = ap explained (sym (append-nil xs))
more_explained xs (y ∷ ys) =
    ap (λ e. with_lines false [] e ys) (line_explained xs y) ∙ more_explained (xs ++ y ∷ []) ys ∙ ap explained (append_assoc xs (y ∷ []) ys)

-- all lines, from none
pub all_explained : (xs : List Line) → with_lines false [] (explanation [] 0 []) xs ≡ explained xs
all_explained xs = ap (λ e. with_lines false [] e xs) none_explained ∙ more_explained [] xs

-- ---- lines in memory

view_of : (xs new : List LineCode) (x : LineCode) → new ≡ xs ++ x ∷ [] → map line_view new ≡ map line_view xs ++ line_view x ∷ []
view_of xs new x is = ap (map line_view) is ∙ map-append line_view xs (x ∷ [])

first_where : (e : Explanation) (line : Line) (new : Explanation) (fits : Bool) → fits ≡ true → new ≡ explanation (e.lines ++ line ∷ []) e.left_out e.last
    → new ≡ (if fits then explanation (e.lines ++ line ∷ []) e.left_out e.last else with_last e line)
first_where e line new true is one_more = one_more
first_where e line new false is one_more = absurd (true≢false (sym is))

-- a line that is one of the first
pub line_first : (lines more last : List LineCode) (n : ℕ) (x : LineCode) → length lines < 500 → more ≡ lines ++ x ∷ []
    → explanation (map line_view more) n (map line_view last) ≡ with_line (explanation (map line_view lines) n (map line_view last)) (line_view x)
unfolding with_line most_at_each_end
line_first lines more last n x fits one_more =
    let e : Explanation = explanation (map line_view lines) n (map line_view last) in
    first_where e (line_view x) (explanation (map line_view more) n (map line_view last)) (nat_lt (length (map line_view lines)) 500)
    (rw (length-map lines line_view) (true_of (length lines) 500 fits)) (ap (λ lines. explanation lines n (map line_view last)) (view_of lines more x one_more))

other_where : (e : Explanation) (line : Line) (fits : Bool) → fits ≡ false → with_last e line ≡ (if fits then explanation (e.lines ++ line ∷ []) e.left_out e.last else with_last e line)
other_where e line true is = absurd (true≢false is)
other_where e line false is = refl

-- any other
pub line_other : (lines last : List LineCode) (n : ℕ) (line : Line) (new : Explanation) → 500 ≤ length lines → new ≡ with_last (explanation (map line_view lines) n (map line_view last)) line
    → new ≡ with_line (explanation (map line_view lines) n (map line_view last)) line
unfolding with_line most_at_each_end
line_other lines last n line new full is =
    is ∙ other_where (explanation (map line_view lines) n (map line_view last)) line (nat_lt (length (map line_view lines)) 500)
    (rw (length-map lines line_view) (false_of (length lines) 500 full))

last_where : (e : Explanation) (line : Line) (new : Explanation) (fits : Bool) → fits ≡ true → new ≡ explanation e.lines e.left_out (e.last ++ line ∷ [])
    → new ≡ (if fits then explanation e.lines e.left_out (e.last ++ line ∷ []) else explanation e.lines (min (e.left_out + 1) most_left_out) (drop 1 e.last ++ line ∷ []))
last_where e line new true is one_more = one_more
last_where e line new false is one_more = absurd (true≢false (sym is))

-- a line that is one of the last, where there is room
pub line_last : (lines : List Line) (n : ℕ) (last : List LineCode) (line : Line) (new : Explanation) → length last < 500
    → new ≡ explanation lines n (map line_view last ++ line ∷ []) → new ≡ with_last (explanation lines n (map line_view last)) line
unfolding with_last most_at_each_end
line_last lines n last line new fits one_more =
    last_where (explanation lines n (map line_view last)) line new (nat_lt (length (map line_view last)) 500) (rw (length-map last line_view) (true_of (length last) 500 fits)) one_more

counted_where : (e : Explanation) (line : Line) (new : Explanation) (fits : Bool) → fits ≡ false
    → new ≡ explanation e.lines (min (e.left_out + 1) most_left_out) (drop 1 e.last ++ line ∷ [])
    → new ≡ (if fits then explanation e.lines e.left_out (e.last ++ line ∷ []) else explanation e.lines (min (e.left_out + 1) most_left_out) (drop 1 e.last ++ line ∷ []))
counted_where e line new true is one_more = absurd (true≢false is)
counted_where e line new false is one_more = one_more

-- the same in place of the first of those
pub line_counted : (lines : List LineCode) (n m : ℕ) (same last shorter : List LineCode) (line : Line) (new : Explanation) → 500 ≤ length last → same ≡ lines → m ≡ min (n + 1) (2 ^ 64 - 1)
    → shorter ≡ drop 1 last → new ≡ explanation (map line_view same) m (map line_view shorter ++ line ∷ []) → new ≡ with_last (explanation (map line_view lines) n (map line_view last)) line
unfolding with_last most_at_each_end most_left_out
line_counted lines n m same last shorter line new full are many cut one_more =
    counted_where (explanation (map line_view lines) n (map line_view last)) line new (nat_lt (length (map line_view last)) 500) (rw (length-map last line_view) (false_of (length last) 500 full))
    (one_more ∙ ap (λ lines. explanation (map line_view lines) m (map line_view shorter ++ line ∷ [])) are
    ∙ ap (λ m. explanation (map line_view lines) m (map line_view shorter ++ line ∷ [])) many
    ∙ ap (λ last. explanation (map line_view lines) (min (n + 1) (2 ^ 64 - 1)) (last ++ line ∷ [])) (ap (map line_view) cut ∙ sym (drop-map line_view 1 last)))

-- a line in a place
pub line_within : (e : Explanation) (items : List ℕ) (part : Typed) (said : Outcome) (new : Explanation)
    → new ≡ with_line e (record { items = items; part = part; said = said }) → new ≡ with_line e (on_items items (record { items = []; part = part; said = said }))
line_within e items part said new is = is ∙ ap (λ numbers. with_line e (record { items = numbers; part = part; said = said })) (sym (append-nil items))
