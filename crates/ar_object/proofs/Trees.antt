-- A JSON value in memory that is written into a text: lists item by item, objects member by member.
use Rattle.std.proofs.Common.{◌≡◌, false, true, Bool, List, [], ◌∷◌, ◌++◌, refl, sym, ap, ◌∙◌, append-nil, subst, string_cmp}
use Rattle.std.specs.Prelude.{◌||◌}
use Rattle.std.specs.List.Sorted.{IsStrictlySortedBy}
use Rattle.std.specs.Map.{keys_of}
use Rattle.std.proofs.lemmas.List.{append_assoc}
use Rattle.serde_json.specs.View.{members_view}
use Rattle.serde_json.proofs.Views.{Entry, put_last}
use Rattle.ar_object.proofs.Texts.{IsOrdered, put_all}

-- neither of two holds
pub neither : (one other : Bool) → (one || other) ≡ false → (one ≡ false) × (other ≡ false)
neither true other is = absurd (cc)
neither false other is = (refl, is)

-- the members that are left come after those that are put
ordered_after : (done left : List Entry) → IsStrictlySortedBy string_cmp (keys_of (done ++ left)) → put_all (members_view left) (members_view done) ≡ members_view (done ++ left)
ordered_after done [] sorted = ap members_view (sym (append-nil done))
ordered_after done (e ∷ left) sorted =
    let same = append_assoc done (e ∷ []) left in
    ap (put_all (members_view left)) (put_last done e left sorted)
    ∙ ordered_after (done ++ e ∷ []) left (subst (λ entries. IsStrictlySortedBy string_cmp (keys_of entries)) (sym same) sorted)
    ∙ ap members_view same

-- a map has its members in order
pub map_ordered : (entries : List Entry) → IsStrictlySortedBy string_cmp (keys_of entries) → IsOrdered (members_view entries)
map_ordered entries sorted = ordered_after [] entries sorted
