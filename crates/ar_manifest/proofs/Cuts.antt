-- Where a sign is in a text.
use Rattle.std.proofs.Common.{◌≡◌, ◌≢◌, ◌<◌, ◌≤◌, ◌+◌, ℕ, zero, suc, Bool, true, false, true≢false, List, [], ◌∷◌, ◌++◌, length, take, drop, refl, sym, ◌∙◌, ap, arith, Option, Some, None, Bor}
use Rattle.std.specs.Prelude.{nat_eq, if◌then◌else◌, MatchOption, option_map, codes}
use Rattle.std.specs.List.{starts_with}
use Rattle.std.specs.Str.Pattern.{FindsText, FindsTextPrefix, LacksTextAt, SplitsAroundMatch, StripsPrefix}
use Rattle.std.proofs.lemmas.Bool.Decides.{Decides-eqb}
use Rattle.std.proofs.lemmas.List.{drop_at, length-append, length-take, take-append-drop, take_at}
use Rattle.std.proofs.lemmas.Slice.Eq.{starts_is}
use Rattle.ar_manifest.specs.Binding.{argument_name}
use Rattle.ar_manifest.specs.Cut.{CutsAtFirst, Lacks, cut_at}

-- a sign is at the front of a text
front_is : (sign text after : List ℕ) → text ≡ sign ++ after → starts_with nat_eq text sign ≡ true
front_is sign text after = (starts_is Decides-eqb text sign _ refl).1 after

-- it doesn't
front_lacks : (sign text : List ℕ) → LacksTextAt sign text 0 → starts_with nat_eq text sign ≡ false
front_lacks sign text lacks = by (starts_with nat_eq text sign) refl
  where
    by : (test : Bool) → starts_with nat_eq text sign ≡ test → starts_with nat_eq text sign ≡ false
    by true is = absurd (lacks _ ((starts_is Decides-eqb text sign _ refl).0 is))
    by false is = is

module _ (sign : List ℕ) (some : 0 < length sign) where
  -- no empty text begins with a sign
  not_empty : (after : List ℕ) → [] ≢ sign ++ after
  not_empty after e = let longer = ap length e in absurd (omega (arith, longer, length-append sign after))

  -- the text is cut at the first occurrence of the sign
  pub cut_at_first : (text : List ℕ) (i : ℕ) (after : List ℕ) → ((k : ℕ) → k < i → LacksTextAt sign text k) → drop i text ≡ sign ++ after → cut_at sign text ≡ Some (take i text, after)
  unfolding cut_at
  cut_at_first [] zero after lacks at = absurd (not_empty after at)
  cut_at_first [] (suc i) after lacks at = absurd (not_empty after at)
  cut_at_first (byte ∷ text) zero after lacks at =
      let rest : drop (length sign) (byte ∷ text) ≡ after = rw at (drop_at sign after (length sign) refl) in
      rw (front_is sign (byte ∷ text) after at, rest) refl
  cut_at_first (byte ∷ text) (suc i) after lacks at =
      let none = front_lacks sign (byte ∷ text) (lacks zero (omega arith)) in
      let later = cut_at_first text i after (λ k below. lacks (suc k) (omega arith)) at in
      rw (none, later) refl

  -- or it isn't cut
  pub cut_at_none : (text : List ℕ) → ((k : ℕ) → k ≤ length text → LacksTextAt sign text k) → cut_at sign text ≡ None
  unfolding cut_at
  cut_at_none [] lacks = refl
  cut_at_none (byte ∷ text) lacks =
      let none = front_lacks sign (byte ∷ text) (lacks zero (omega arith)) in
      let later = cut_at_none text (λ k below. lacks (suc k) (omega arith)) in
      rw (none, later) refl

module _ (sign : List ℕ) where
  -- a cut text is its parts round the sign, and no earlier offset has the sign
  cut_at_by_front : (byte : ℕ) (text : List ℕ) (test : Bool) (rest : Option (List ℕ × List ℕ)) (cut : List ℕ × List ℕ)
      → starts_with nat_eq (byte ∷ text) sign ≡ test
      → (if test then Some ([], drop (length sign) (byte ∷ text)) else option_map (λ later. (byte ∷ later.0, later.1)) rest) ≡ Some cut
      → ((later : List ℕ × List ℕ) → rest ≡ Some later → CutsAtFirst sign text later.0 later.1)
      → CutsAtFirst sign (byte ∷ text) cut.0 cut.1
  cut_at_by_front byte text true rest cut is made later =
      let none : [] ≡ cut.0 = cc in
      let after : drop (length sign) (byte ∷ text) ≡ cut.1 = cc in
      record {
        parts = rw (← none, ← after) ((starts_is Decides-eqb (byte ∷ text) sign _ refl).0 is);
        first = λ earlier after e. rw (← none) (omega arith);
      }
  cut_at_by_front byte text false None cut is made later = absurd (cc)
  cut_at_by_front byte text false (Some found) cut is made later =
      let first = later found refl in
      let before : byte ∷ found.0 ≡ cut.0 = cc in
      let after : found.1 ≡ cut.1 = cc in
      record {
        parts = rw (← before, ← after) (ap (λ rest. byte ∷ rest) first.parts);
        first = λ earlier after e. rw (← before) (no_earlier found first earlier after e);
      }
    where
      no_earlier : (found : List ℕ × List ℕ) → CutsAtFirst sign text found.0 found.1 → (earlier after : List ℕ) → byte ∷ text ≡ earlier ++ (sign ++ after) → length (byte ∷ found.0) ≤ length earlier
      no_earlier found first [] after e = absurd (true≢false (sym (front_is sign (byte ∷ text) after e) ∙ is))
      no_earlier found first (_ ∷ earlier) after e = let below = first.first earlier after (ap (drop 1) e) in omega (arith, below)

  pub CutsAtFirst-cut_at : (text : List ℕ) (cut : List ℕ × List ℕ) → cut_at sign text ≡ Some cut → CutsAtFirst sign text cut.0 cut.1
  unfolding cut_at
  CutsAtFirst-cut_at [] cut made = absurd (cc)
  CutsAtFirst-cut_at (byte ∷ text) cut made = cut_at_by_front byte text (starts_with nat_eq (byte ∷ text) sign) (cut_at sign text) cut refl made (CutsAtFirst-cut_at text)

  -- what comes after the sign is shorter than the text
  pub cut_at-shorter : (text : List ℕ) (cut : List ℕ × List ℕ) → cut_at sign text ≡ Some cut → length cut.0 + length sign + length cut.1 ≡ length text
  cut_at-shorter text cut made =
      let whole = ap length (CutsAtFirst-cut_at text cut made).parts in
      omega (arith, whole, length-append cut.0 (sign ++ cut.1), length-append sign cut.1)

  -- a text that isn't cut lacks the sign
  lacks_by_front : (byte : ℕ) (text : List ℕ) (test : Bool) (rest : Option (List ℕ × List ℕ))
      → starts_with nat_eq (byte ∷ text) sign ≡ test
      → if◌then◌else◌ {A = Option (List ℕ × List ℕ)} test (Some ([], drop (length sign) (byte ∷ text))) (option_map (λ later. (byte ∷ later.0, later.1)) rest) ≡ None
      → (rest ≡ None → Lacks sign text) → Lacks sign (byte ∷ text)
  lacks_by_front byte text true rest is none later before after e = cc
  lacks_by_front byte text false (Some found) is none later before after e = cc
  lacks_by_front byte text false None is none later [] after e = true≢false (sym (front_is sign (byte ∷ text) after e) ∙ is)
  lacks_by_front byte text false None is none later (_ ∷ before) after e = later refl before after (ap (drop 1) e)

module _ (sign : List ℕ) (some : 0 < length sign) where
  empty_lacks : Lacks sign []
  empty_lacks [] after e = not_empty sign some after e
  empty_lacks (_ ∷ before) after e = cc

  pub Lacks-cut_at : (text : List ℕ) → cut_at sign text ≡ None → Lacks sign text
  unfolding cut_at
  Lacks-cut_at [] none = empty_lacks
  Lacks-cut_at (byte ∷ text) none = lacks_by_front sign byte text (starts_with nat_eq (byte ∷ text) sign) (cut_at sign text) refl none (Lacks-cut_at text)

  -- a text that has the sign at an offset is its parts round it
  split_at : (text : List ℕ) (k : ℕ) (after : List ℕ) → drop k text ≡ sign ++ after → text ≡ take k text ++ (sign ++ after)
  split_at text k after at = sym (take-append-drop k text) ∙ ap (λ rest. take k text ++ rest) at

  pub cut_at-Lacks : (text : List ℕ) → Lacks sign text → cut_at sign text ≡ None
  cut_at-Lacks text lacks = cut_at_none sign some text (λ k below after at. lacks (take k text) after (split_at text k after at))

  pub cut_at-CutsAtFirst : (text before after : List ℕ) → CutsAtFirst sign text before after → cut_at sign text ≡ Some (before, after)
  cut_at-CutsAtFirst text before after cuts =
      let at : drop (length before) text ≡ sign ++ after = rw cuts.parts (drop_at before (sign ++ after) (length before) refl) in
      let front : take (length before) text ≡ before = rw cuts.parts (take_at before (sign ++ after) (length before) refl) in
      cut_at_first sign some text (length before) after
      (λ k below later at. let earlier = cuts.first (take k text) later (split_at text k later at) in omega (arith, earlier, length-take k text)) at
      ∙ ap (λ (found : List ℕ). Some (found, after)) front

-- what `split_once` returns
pub split_once_cuts : (sign text : List ℕ) (result : Option (Bor (List ℕ) × Bor (List ℕ))) → 0 < length sign
    → MatchOption result (FindsText sign text None) (λ cut. SplitsAroundMatch (FindsText sign) text cut.0.now cut.1.now)
    → option_map (λ (cut : Bor (List ℕ) × Bor (List ℕ)). (cut.0.now, cut.1.now)) result ≡ cut_at sign text
split_once_cuts sign text None some none = sym (cut_at_none sign some text none)
split_once_cuts sign text (Some cut) some found =
    let at = cut_at_first sign some text found.0 (drop found.1 text) found.2.0 found.2.1.split in
    rw (found.3, found.4) (sym at)

-- what `strip_prefix` returns
pub strip_prefix_names : (text : List ℕ) (result : Option (Bor (List ℕ)))
    → MatchOption result (FindsTextPrefix (codes "args.") text None) (λ name. StripsPrefix (FindsTextPrefix (codes "args.")) text name.now)
    → option_map (λ (name : Bor (List ℕ)). name.now) result ≡ argument_name text
strip_prefix_names text None lacks = rw (front_lacks (codes "args.") text lacks) refl
strip_prefix_names text (Some name) strips = rw (front_is (codes "args.") text _ strips.1.1, strips.2, strips.1.0) refl
