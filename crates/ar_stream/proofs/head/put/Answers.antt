use Rattle.std.proofs.Common.{◌≡◌, string_bytes, ap, ◌∙◌, rules}
use Rattle.serde_json.specs.Data.{put}
use Rattle.serde_json.specs.View.{members_view, view}
use Rattle.serde_json.proofs.Views.{members_view-insert_entry}
use Rattle.ar_stream.proofs.head.put.Goals as goal

pub returns : goal.returns
returns c =
    let copied : string_bytes c.in_ok-from_str.field-0 ≡ c.args.name.now = search rules in
    ap members_view c.in_ok-insert.ensures.entries ∙ members_view-insert_entry c.args.kept.now.entries c.in_ok-from_str.field-0 c.args.tree
    ∙ ap (λ name. put name (view c.args.tree) (members_view c.args.kept.now.entries)) copied
