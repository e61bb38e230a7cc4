use Rattle.std.proofs.Common.{arith, ◌≡◌, ◌++◌, List, [], ◌∷◌, map, append_assoc}
use Rattle.std.proofs.lemmas.Grind.{common_steps}
use Rattle.std.proofs.lemmas.List.{map-append}
use Rattle.ar_check.specs.Check.{Item, converted_item}
use Rattle.ar_check.specs.Private.Inside.{item_view}
use Rattle.ar_check.specs.declared.list.Item.{Item as ItemCode}
use Rattle.ar_tree.specs.Typed.{Typed}
use Rattle.ar_tree.specs.Views.{typed_view}
use Rattle.ar_tree.specs.declared.typed.Typed.{Typed as TypedCode}
use Rattle.ar_check.proofs.Items.{len_next}
use Rattle.ar_check.proofs.list.converted.Goals as goal

-- the tree of an item comes after those before it
converted_next : (step : Item → Typed) (all : List Typed) (made : List TypedCode) (left others : List ItemCode) (first : ItemCode) (tree : TypedCode)
    → all ≡ map typed_view made ++ map step (map item_view left) → left ≡ first ∷ others → typed_view tree ≡ step (item_view first)
    → all ≡ map typed_view (made ++ tree ∷ []) ++ map step (map item_view others)
converted_next step all made left others first tree h e same =
    rw (map-append typed_view made (tree ∷ []), append_assoc (map typed_view made) (typed_view tree ∷ []) (map step (map item_view others)), same) (rw e at h)

pub loop-item-preserved : goal.loop-item-preserved
loop-item-preserved c =
    let inv = c.loop-item.invariant in
    let steps = c.in-Some.ensures.steps in (
      tt,
      tt,
      len_next _ _ _ _ _ inv.2 steps.0 steps.1,
      rw c.in_ok-push.ensures.items
          (converted_next (λ item. converted_item c.args.scalar item.scalar item.tree) _ _ _ _ _ _ inv.3 steps.0 c.in_ok-converted_item.ensures),
    )

pub returns : goal.returns
returns c = grind (arith, common_steps)
