-- What is known of the widest of shapes of one form, by the first of them.
use Rattle.std.proofs.Common.{◌≡◌, ℕ, zero, suc, max, Bool, true, false, List, [], ◌∷◌, ◌++◌, map, Some, option_map, refl, sym, ap, ◌∙◌}
use Rattle.std.specs.Prelude.{◌&&◌, if◌then◌else◌}
use Rattle.std.specs.Str.{bytes_eq}
use Rattle.ar_value.specs.Kind.{is_optional, plain, shaped}
use Rattle.ar_value.specs.Shape.{Shape, FieldShapes, bool, whole, decimal, text, list, object, optional, no_fields, field}
use Rattle.ar_value.specs.declared.operator.Scalar.{Scalar}
use Rattle.ar_value.specs.declared.operator.Scalar.TheVariants as scalars
use Rattle.ar_value.specs.Private.Same.{same_shape}
use Rattle.ar_value.proofs.Same.{same_is}
use Rattle.ar_safety.specs.Effects.{decimal_shape, family_of, is_scalar_kind}
use Rattle.ar_verify.specs.Private.Forms.{all_alike, field_forms, form, longest_of, wider, wider_fields, widest_of}
use Rattle.ar_verify.specs.Private.Roots.{child, field_or, number_named, root_field}
use Rattle.ar_verify.specs.Private.Lists.{is_list, longest}
use Rattle.ar_verify.proofs.Forms.{absorbed, form_wider, wider_either_way, wider_itself, wider_of_wider}

-- ---- alike

front_holds : (a b : Bool) → (a && b) ≡ true → a ≡ true
front_holds true b h = refl
front_holds false b h = absurd cc

rest_holds : (a b : Bool) → (a && b) ≡ true → b ≡ true
rest_holds true b h = h
rest_holds false b h = absurd cc

both : (a b : Bool) → a ≡ true → b ≡ true → (a && b) ≡ true
both true b p q = q
both false b p q = p

-- a shape, and others of its form
module _ (shape other : Shape) (others : List Shape) (alike : all_alike shape (other ∷ others) ≡ true) where
  pub of_one_form : form shape ≡ form other
  of_one_form = (same_is (form shape) (form other) (same_shape (form shape) (form other)) refl).0 (front_holds (same_shape (form shape) (form other)) (all_alike shape others) alike)

  pub rest_alike : all_alike shape others ≡ true
  rest_alike = rest_holds (same_shape (form shape) (form other)) (all_alike shape others) alike

pub one_alike : (shape other : Shape) (others : List Shape) → form shape ≡ form other → all_alike shape others ≡ true → all_alike shape (other ∷ others) ≡ true
one_alike shape other others same alike =
    both (same_shape (form shape) (form other)) (all_alike shape others) ((same_is (form shape) (form other) (same_shape (form shape) (form other)) refl).1 same) alike

pub alike_by_form : (shape other : Shape) (others : List Shape) → form shape ≡ form other → all_alike shape others ≡ true → all_alike other others ≡ true
alike_by_form shape other [] same alike = refl
alike_by_form shape other (next ∷ others) same alike =
    one_alike other next others (sym same ∙ of_one_form shape next others alike) (alike_by_form shape other others same (rest_alike shape next others alike))

wider_alike : (shape other : Shape) (others : List Shape) → all_alike shape (other ∷ others) ≡ true → all_alike (wider shape other) others ≡ true
wider_alike shape other others alike = alike_by_form shape (wider shape other) others (sym (form_wider shape other)) (rest_alike shape other others alike)

pub alike_with : (shape : Shape) (others more : List Shape) → all_alike shape others ≡ true → all_alike shape more ≡ true → all_alike shape (others ++ more) ≡ true
alike_with shape [] more alike more_alike = more_alike
alike_with shape (other ∷ others) more alike more_alike =
    one_alike shape other (others ++ more) (of_one_form shape other others alike) (alike_with shape others more (rest_alike shape other others alike) more_alike)

pub form_widest : (shape : Shape) (others : List Shape) → form (widest_of shape others) ≡ form shape
form_widest shape [] = refl
form_widest shape (other ∷ others) = form_widest (wider shape other) others ∙ form_wider shape other

-- ---- one more

pub widest_with : (shape : Shape) (others more : List Shape) → widest_of shape (others ++ more) ≡ widest_of (widest_of shape others) more
widest_with shape [] more = refl
widest_with shape (other ∷ others) more = widest_with (wider shape other) others more

-- the one that is added last may come first
added_first : (shape other : Shape) (others : List Shape) → wider (widest_of shape others) other ≡ widest_of (wider shape other) others
added_first shape other [] = refl
added_first shape other (next ∷ others) = added_first (wider shape next) other others ∙ ap (λ shape. widest_of shape others) (wider_either_way shape next other)

pub first_again : (shape : Shape) (others : List Shape) → wider (widest_of shape others) shape ≡ widest_of shape others
first_again shape others = added_first shape shape others ∙ ap (λ shape. widest_of shape others) (wider_itself shape)

pub one_again : (shape other : Shape) (before others : List Shape) → wider (widest_of shape (before ++ other ∷ others)) other ≡ widest_of shape (before ++ other ∷ others)
one_again shape other [] others = added_first (wider shape other) other others ∙ ap (λ shape. widest_of shape others) (absorbed shape other)
one_again shape other (next ∷ before) others = one_again (wider shape next) other before others

-- the wider of two, each the widest of some
pub wider_of_widest : (shape other : Shape) (others : List Shape) → form shape ≡ form other → all_alike other others ≡ true → wider shape (widest_of other others) ≡ widest_of (wider shape other) others
wider_of_widest shape other [] same alike = refl
wider_of_widest shape other (next ∷ others) same alike =
    wider_of_widest shape (wider other next) others (same ∙ sym (form_wider other next)) (wider_alike other next others alike)
    ∙ ap (λ shape. widest_of shape others) (wider_of_wider shape other next same)

-- ---- parts

pub form_child : (n : ℕ) (shape : Shape) → form (child n shape) ≡ child n (form shape)
form_child n (list item most) = refl
form_child n (object fields) = inside n fields (object fields)
  where
    inside : (n : ℕ) (fields : FieldShapes) (other : Shape) → form (field_or n fields other) ≡ field_or n (field_forms fields) (form other)
    inside n no_fields other = refl
    inside zero (field name shape others) other = refl
    inside (suc n) (field name shape others) other = inside n others other
form_child n (optional shape) = refl
form_child n shape = refl

field_wider : (n : ℕ) (left right : FieldShapes) (one other : Shape) → field_forms left ≡ field_forms right
    → field_or n (wider_fields left right) (wider one other) ≡ wider (field_or n left one) (field_or n right other)
field_wider n no_fields no_fields one other same = refl
field_wider zero (field name left lefts) (field of right rights) one other same = refl
field_wider (suc n) (field name left lefts) (field of right rights) one other same = field_wider n lefts rights one other cc
field_wider n left right one other same = absurd cc

pub child_wider : (n : ℕ) (left right : Shape) → form left ≡ form right → child n (wider left right) ≡ wider (child n left) (child n right)
child_wider n (list left k) (list right m) same = refl
child_wider n (object left) (object right) same = field_wider n left right (object left) (object right) cc
child_wider n (optional left) (optional right) same = refl
child_wider n bool bool same = refl
child_wider n whole whole same = refl
child_wider n decimal decimal same = refl
child_wider n text text same = refl
child_wider n left right same = absurd cc

same_children : (n : ℕ) (left right : Shape) → form left ≡ form right → form (child n left) ≡ form (child n right)
same_children n left right same = form_child n left ∙ ap (child n) same ∙ sym (form_child n right)

pub child_widest : (n : ℕ) (shape : Shape) (others : List Shape) → all_alike shape others ≡ true → child n (widest_of shape others) ≡ widest_of (child n shape) (map (child n) others)
child_widest n shape [] alike = refl
child_widest n shape (other ∷ others) alike =
    child_widest n (wider shape other) others (wider_alike shape other others alike)
    ∙ ap (λ shape. widest_of shape (map (child n) others)) (child_wider n shape other (of_one_form shape other others alike))

pub children_alike : (n : ℕ) (shape : Shape) (others : List Shape) → all_alike shape others ≡ true → all_alike (child n shape) (map (child n) others) ≡ true
children_alike n shape [] alike = refl
children_alike n shape (other ∷ others) alike =
    one_alike (child n shape) (child n other) (map (child n) others) (same_children n shape other (of_one_form shape other others alike)) (children_alike n shape others (rest_alike shape other others alike))

-- ---- lengths

longest_wider : (left right : Shape) → form left ≡ form right → longest (wider left right) ≡ max (longest left) (longest right)
longest_wider (list left m) (list right n) same = refl
longest_wider (object left) (object right) same = refl
longest_wider (optional left) (optional right) same = refl
longest_wider bool bool same = refl
longest_wider whole whole same = refl
longest_wider decimal decimal same = refl
longest_wider text text same = refl
longest_wider left right same = absurd cc

pub longest_widest : (shape : Shape) (others : List Shape) → all_alike shape others ≡ true → longest (widest_of shape others) ≡ longest_of (longest shape) others
longest_widest shape [] alike = refl
longest_widest shape (other ∷ others) alike =
    longest_widest (wider shape other) others (wider_alike shape other others alike)
    ∙ ap (λ most. longest_of most others) (longest_wider shape other (of_one_form shape other others alike))

-- ---- what shapes of one form have in common

-- what lengths don't decide
module _ {A : Type 0} (f : Shape → A) (by_form : (shape : Shape) → f (form shape) ≡ f shape) where
  one_for_both : (left right : Shape) → form left ≡ form right → f left ≡ f right
  one_for_both left right same = sym (by_form left) ∙ ap f same ∙ by_form right

optional_form : (shape : Shape) → is_optional (form shape) ≡ is_optional shape
optional_form (optional shape) = refl
optional_form shape = refl

list_form : (shape : Shape) → is_list (form shape) ≡ is_list shape
list_form (list item most) = refl
list_form shape = refl

scalar_form : (scalar : Scalar) (shape : Shape) → is_scalar_kind scalar (shaped (form shape)) ≡ is_scalar_kind scalar (shaped shape)
scalar_form scalars.Bool (list item most) = refl
scalar_form scalars.Bool shape = refl
scalar_form scalars.Whole (list item most) = refl
scalar_form scalars.Whole shape = refl
scalar_form scalars.Decimal (list item most) = refl
scalar_form scalars.Decimal shape = refl
scalar_form scalars.Text (list item most) = refl
scalar_form scalars.Text shape = refl

family_form : (shape : Shape) → family_of (form shape) ≡ family_of shape
family_form (list item most) = refl
family_form shape = refl

decimal_form : (shape : Shape) → decimal_shape (form shape) ≡ decimal_shape shape
decimal_form (optional shape) = ap (option_map optional) (decimal_form shape)
decimal_form shape = refl

pub both_optional : (left right : Shape) → form left ≡ form right → is_optional left ≡ is_optional right
both_optional = one_for_both is_optional optional_form

pub both_lists : (left right : Shape) → form left ≡ form right → is_list left ≡ is_list right
both_lists = one_for_both is_list list_form

pub both_scalars : (scalar : Scalar) (left right : Shape) → form left ≡ form right → is_scalar_kind scalar (shaped left) ≡ is_scalar_kind scalar (shaped right)
both_scalars scalar = one_for_both (λ shape. is_scalar_kind scalar (shaped shape)) (scalar_form scalar)

pub both_of_family : (left right : Shape) → form left ≡ form right → family_of left ≡ family_of right
both_of_family = one_for_both family_of family_form

pub both_decimal : (left right : Shape) → form left ≡ form right → decimal_shape left ≡ decimal_shape right
both_decimal = one_for_both decimal_shape decimal_form

number_form : (name : List ℕ) (shape : Shape) → root_field name (form shape) ≡ root_field name shape
number_form name (object fields) = inside fields
  where
    inside : (fields : FieldShapes) → number_named name (field_forms fields) ≡ number_named name fields
    inside no_fields = refl
    inside (field of shape others) = ap (λ number. if bytes_eq of name then Some 0 else option_map suc number) (inside others)
number_form name shape = refl

pub both_numbered : (name : List ℕ) (left right : Shape) → form left ≡ form right → root_field name left ≡ root_field name right
both_numbered name = one_for_both (root_field name) (number_form name)

plain_form : (shape : Shape) → form (plain shape) ≡ plain (form shape)
plain_form (optional shape) = refl
plain_form shape = refl

both_plain : (left right : Shape) → form left ≡ form right → form (plain left) ≡ form (plain right)
both_plain left right same = plain_form left ∙ ap plain same ∙ sym (plain_form right)

pub both_plain_of_family : (left right : Shape) → form left ≡ form right → family_of (plain left) ≡ family_of (plain right)
both_plain_of_family left right same = both_of_family (plain left) (plain right) (both_plain left right same)

pub both_items_of_family : (left right : Shape) → form left ≡ form right → family_of (plain (child 0 left)) ≡ family_of (plain (child 0 right))
both_items_of_family left right same = both_plain_of_family (child 0 left) (child 0 right) (same_children 0 left right same)
