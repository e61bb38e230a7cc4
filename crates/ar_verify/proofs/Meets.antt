-- How joined shapes are stored in memory, and the merges that are kept by them.
use Rattle.std.proofs.Common.{◌≡◌, ℕ, zero, suc, ◌+◌, ◌<◌, ◌≤◌, Bool, true, false, List, [], ◌∷◌, ◌++◌, map, length, drop, Option, Some, None, option_map, refl, sym, ap, ◌∙◌, add-one, arith, drop-cons}
use Rattle.std.specs.Bool.{Decides}
use Rattle.std.specs.Prelude.{◌||◌, slice_index_or}
use Rattle.std.proofs.Math.ListN.{drop_of_length-le}
use Rattle.std.proofs.lemmas.List.{map-append}
use Rattle.ar_value.specs.Kind.{Kind, nil, is_optional, merge, or_nil, plain, shaped, widest}
use Rattle.ar_value.specs.Shape.{Shape, optional}
use Rattle.ar_value.proofs.Merges.{merge_either_way}
use Rattle.ar_safety.specs.Effects.{default_kind, needed_kind}
use Rattle.ar_verify.specs.Private.Forms.{all_alike, form, longest_of, wider, widest_of}
use Rattle.ar_verify.specs.Private.Lists.{longest}
use Rattle.ar_verify.specs.Private.Roots.{child}
use Rattle.ar_verify.proofs.Forms.{merged_is, merges}
use Rattle.ar_verify.proofs.Widest.{alike_by_form, alike_with, child_widest, children_alike, first_again, form_widest, longest_widest, of_one_form, one_again, one_alike, rest_alike, wider_of_widest, widest_with}

-- the first has the form of all
pub of_its_form : (first : Shape) (others : List Shape) (shape : Shape) → shape ≡ first → form shape ≡ form (widest_of first others)
of_its_form first others shape is = ap form is ∙ sym (form_widest first others)

-- ---- optional shapes

pub plain_already : (shape : Shape) → is_optional shape ≡ false → plain shape ≡ shape
plain_already (optional shape) h = absurd cc
plain_already shape h = refl

pub plain_inside : (shape : Shape) → is_optional shape ≡ true → plain shape ≡ child 0 shape
plain_inside (optional shape) h = refl
plain_inside shape h = absurd cc

pub nil_already : (shape : Shape) → is_optional shape ≡ true → shaped shape ≡ shaped (or_nil shape)
nil_already (optional shape) h = refl
nil_already shape h = absurd cc

pub nil_added : (shape : Shape) → is_optional shape ≡ false → shaped (optional shape) ≡ shaped (or_nil shape)
nil_added shape h = ap (λ shape. shaped (optional shape)) (sym (plain_already shape h))

-- ---- parts among others

-- one that is there adds nothing
pub found_there : {A : Type 0} (view : A → Shape) (parts : List A) (i : ℕ) (part : A) (other : Shape) → i < length parts → part ≡ slice_index_or parts i part → view part ≡ other
    → (shape : Shape) → wider (widest_of shape (map view parts)) other ≡ widest_of shape (map view parts)
found_there view [] i part other within is same shape = absurd (omega arith)
found_there view (first ∷ parts) zero part other within is same shape =
    ap (wider (widest_of shape (map view (first ∷ parts)))) (sym same ∙ ap view is) ∙ one_again shape (view first) [] (map view parts)
found_there view (first ∷ parts) (suc i) part other within is same shape = found_there view parts i part other (omega arith) is same (wider shape (view first))

-- whether it is the first, or among the others
pub met_already : (first part : Shape) (others : List Shape) → first ≡ part → wider (widest_of first others) part ≡ widest_of first others
met_already first part others same = ap (wider (widest_of first others)) (sym same) ∙ first_again first others

pub one_added : {A : Type 0} (view : A → Shape) (first : Shape) (others more : List A) (part : A) → more ≡ others ++ part ∷ [] → widest_of first (map view more) ≡ wider (widest_of first (map view others)) (view part)
one_added view first others more part is = ap (λ more. widest_of first (map view more)) is ∙ ap (widest_of first) (map-append view others (part ∷ [])) ∙ widest_with first (map view others) (view part ∷ [])

pub alike_added : {A : Type 0} (view : A → Shape) (first : Shape) (others more : List A) (part : A) → more ≡ others ++ part ∷ [] → all_alike first (map view others) ≡ true → form first ≡ form (view part)
    → all_alike first (map view more) ≡ true
alike_added view first others more part is alike same =
    ap (λ more. all_alike first (map view more)) is ∙ ap (all_alike first) (map-append view others (part ∷ []))
    ∙ alike_with first (map view others) (view part ∷ []) alike (one_alike first (view part) [] same refl)

-- parts that are added one by one
module _ {A : Type 0} (view : A → Shape) (first start : Shape) (parts others more : List A) (i : ℕ) (part : A) (within : i < length parts) (is : part ≡ slice_index_or parts i part) where
  next_left : map view (drop i parts) ≡ view part ∷ map view (drop (i + 1) parts)
  next_left = rw add-one (ap (map view) (drop-cons parts i part within ∙ ap (λ next. next ∷ drop (suc i) parts) (sym is)))

  pub next_alike : all_alike first (map view (drop i parts)) ≡ true → form first ≡ form (view part)
  next_alike alike = of_one_form first (view part) (map view (drop (i + 1) parts)) (ap (all_alike first) (sym next_left) ∙ alike)

  pub others_alike : all_alike first (map view (drop i parts)) ≡ true → all_alike first (map view (drop (i + 1) parts)) ≡ true
  others_alike alike = rest_alike first (view part) (map view (drop (i + 1) parts)) (ap (all_alike first) (sym next_left) ∙ alike)

  pub next_added : widest_of start (map view parts) ≡ widest_of (widest_of first (map view others)) (map view (drop i parts))
      → widest_of first (map view more) ≡ wider (widest_of first (map view others)) (view part)
      → widest_of start (map view parts) ≡ widest_of (widest_of first (map view more)) (map view (drop (i + 1) parts))
  next_added so_far added = so_far ∙ ap (widest_of (widest_of first (map view others))) next_left ∙ ap (λ shape. widest_of shape (map view (drop (i + 1) parts))) (sym added)

-- ---- parts of parts

pub children_of : (n : ℕ) (first one : Shape) (others all : List Shape) → one ≡ child n first → all ≡ map (child n) others → all_alike first others ≡ true → all_alike one all ≡ true
children_of n first one others all is_one is_all alike = rw (is_one, is_all) (children_alike n first others alike)

pub child_of : (n : ℕ) (first one : Shape) (others all : List Shape) → one ≡ child n first → all ≡ map (child n) others → all_alike first others ≡ true → widest_of one all ≡ child n (widest_of first others)
child_of n first one others all is_one is_all alike = rw (is_one, is_all) (sym (child_widest n first others alike))

-- ---- lengths

pub longest_counted : {A : Type 0} (view : A → Shape) (first : Shape) (others items : List A) (i most : ℕ) → all_alike first (map view others) ≡ true → items ≡ others → length items ≤ i
    → longest_of (longest first) (map view others) ≡ longest_of most (map view (drop i others)) → most ≡ longest (widest_of first (map view others))
longest_counted view first others items i most alike same past counted =
    sym (longest_widest first (map view others) alike ∙ counted ∙ ap (λ rest. longest_of most (map view rest)) (drop_of_length-le others (rw same at past)))

---- shapes that are joined

-- of which the first are one
pub one_first : (first other : Shape) (lefts rights : List Shape) (is : Bool) → is ≡ true → first ≡ other → Decides is (form (widest_of first lefts) ≡ form (widest_of other rights))
one_first first other lefts rights is h same = (λ _. form_widest first lefts ∙ ap form same ∙ sym (form_widest other rights), λ _. h)

-- by a shape of the form of each
pub alike : (left right one other : Shape) (is : Bool) → form one ≡ form left → form other ≡ form right → Decides is (form one ≡ form other) → Decides is (form left ≡ form right)
alike left right one other is of_left of_right decides = (λ h. sym of_left ∙ decides.0 h ∙ of_right, λ same. decides.1 (of_left ∙ same ∙ sym of_right))

pub met : (left right : Shape) → form left ≡ form right → Some (wider left right) ≡ widest left right
met left right same = sym (merges left right same)

clash : (left right : Shape) (found : Option Shape) → widest left right ≡ found → (form left ≡ form right → ⊥) → None ≡ found
clash left right (Some merged) is differ = absurd (differ (merged_is left right merged is).1)
clash left right None is differ = refl

pub clashed : (left right : Shape) → (form left ≡ form right → ⊥) → None ≡ widest left right
clashed left right = clash left right (widest left right) refl

-- ---- merges

pub plain_merge : (left right : Shape) → (is_optional left || is_optional right) ≡ false → option_map shaped (widest left right) ≡ merge (shaped left) (shaped right)
plain_merge left right h = rw h refl

pub optional_merge : (left right : Shape) → (is_optional left || is_optional right) ≡ true → option_map shaped (option_map optional (widest (plain left) (plain right))) ≡ merge (shaped left) (shaped right)
optional_merge left right h = rw h refl

pub nil_next_to : (of shape : Shape) → option_map shaped (option_map optional (widest of (plain shape))) ≡ merge (shaped shape) (shaped (optional of))
nil_next_to of shape = merge_either_way (shaped (optional of)) (shaped shape)

-- ---- the parts of two shapes together

pub firsts_alike : (first other : Shape) (lefts rights : List Shape) → form (widest_of first lefts) ≡ form (widest_of other rights) → form first ≡ form other
firsts_alike first other lefts rights same = sym (form_widest first lefts) ∙ same ∙ form_widest other rights

pub rights_alike : (first other : Shape) (lefts rights : List Shape) → form (widest_of first lefts) ≡ form (widest_of other rights) → all_alike other rights ≡ true → all_alike first rights ≡ true
rights_alike first other lefts rights same alike = alike_by_form other first rights (sym (firsts_alike first other lefts rights same)) alike

pub all_together : (first other : Shape) (lefts rights all one more : List Shape) → form (widest_of first lefts) ≡ form (widest_of other rights) → all_alike other rights ≡ true
    → widest_of first one ≡ widest_of first lefts → widest_of first more ≡ wider (widest_of first one) other → widest_of first all ≡ widest_of (widest_of first more) rights
    → widest_of first all ≡ wider (widest_of first lefts) (widest_of other rights)
all_together first other lefts rights all one more same alike left next right =
    right ∙ ap (λ shape. widest_of shape rights) (next ∙ ap (λ shape. wider shape other) left)
    ∙ sym (wider_of_widest (widest_of first lefts) other rights (same ∙ form_widest other rights) alike)

-- ---- what replaces nil

-- what is needed of an operand is merged with its replacement
pub needed_merge : (operand other needed : Kind) → Some needed ≡ needed_kind operand → merge needed other ≡ default_kind operand other
needed_merge nil other needed is = absurd cc
needed_merge (shaped shape) other needed is = cc

-- nil is replaced
pub nil_replaced : (operand other : Kind) → None ≡ needed_kind operand → Some other ≡ default_kind operand other
nil_replaced nil other is = refl
nil_replaced (shaped shape) other is = absurd cc
