-- What is printed of a bundle's conditions before any run: the size of each one's code, and what a run may cost and
-- hold at most; and the listing of their code.
use Rattle.std.specs.Prelude.{List, ◌++◌, codes, flat_map, length}
use Rattle.ar_value.specs.Terms.{Text}
use Rattle.ar_code.specs.Listing.{listing}
use Rattle.ar_facts.specs.Facts.{ConditionFacts}
use Rattle.ar_facts.specs.Report.{figure_text}

-- what comes before the text of each condition: its run, its metric, and which of the two it is
unfoldable pub condition_name : (run metric which : Text) → Text
condition_name run metric which = codes "run " ++ (run ++ (codes " metric " ++ (metric ++ (codes " " ++ which))))

-- ---- bounds

unfoldable pub bounds_line : ConditionFacts → Text
bounds_line condition =
    condition_name condition.run condition.metric condition.which
    ++ (figure_text (codes "operations") (length condition.code.ops)
    ++ (figure_text (codes "depth") condition.depth
    ++ (figure_text (codes "budget") condition.budget ++ codes "\n")))

abbrev pub check_text : List ConditionFacts → Text
check_text conditions = flat_map bounds_line conditions

-- ---- listings

unfoldable pub listed_text : ConditionFacts → Text
listed_text condition =
    condition_name condition.run condition.metric condition.which ++ (codes "\n" ++ listing condition.code)

abbrev pub list_text : List ConditionFacts → Text
list_text conditions = flat_map listed_text conditions
