-- The trees of judges, one after another.
use Rattle.std.proofs.Common.{◌≡◌, ◌<◌, ◌≤◌, ℕ, ◌+◌, List, [], ◌∷◌, ◌++◌, drop, length, map, sym, ◌∙◌, ap, append_assoc}
use Rattle.std.specs.Prelude.{slice_index_or}
use Rattle.std.proofs.lemmas.List.{map_push}
use Rattle.ar_facts.proofs.Lines.{no_item, none_left, read_at}
use Rattle.ar_judge.specs.Verdict.{Judge}
use Rattle.ar_evaluation.specs.Private.Trees.{JudgeTrees, trees_of, judge_trees_view}
use Rattle.ar_evaluation.specs.declared.trees.JudgeTrees.{JudgeTrees as TreesCode}

pub next_judge : (judges : List Judge) (index : ℕ) (judge : Judge) (trees : List TreesCode) (new : TreesCode) (total : List JudgeTrees) → index < length judges → judge ≡ slice_index_or judges index judge → judge_trees_view new ≡ trees_of judge
    → map judge_trees_view trees ++ map trees_of (drop index judges) ≡ total → map judge_trees_view (trees ++ new ∷ []) ++ map trees_of (drop (index + 1) judges) ≡ total
next_judge judges index judge trees new total inside read is so_far =
    ap (λ (seen : List JudgeTrees). seen ++ map trees_of (drop (index + 1) judges)) (map_push judge_trees_view trees new)
    ∙ (append_assoc (map judge_trees_view trees) (judge_trees_view new ∷ []) (map trees_of (drop (index + 1) judges))
    ∙ (ap (λ (first : JudgeTrees). map judge_trees_view trees ++ first ∷ map trees_of (drop (index + 1) judges)) is
    ∙ (ap (λ (left : List Judge). map judge_trees_view trees ++ map trees_of left) (sym (read_at judges index judge inside read)) ∙ so_far)))

pub no_judge_left : (judges : List Judge) (index : ℕ) (trees : List TreesCode) (total : List JudgeTrees) → length judges ≤ index → map judge_trees_view trees ++ map trees_of (drop index judges) ≡ total → map judge_trees_view trees ≡ total
no_judge_left judges index trees total past so_far = no_item trees_of (drop index judges) (map judge_trees_view trees) total (none_left judges index past) so_far
