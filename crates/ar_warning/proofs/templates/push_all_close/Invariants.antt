use Rattle.std.proofs.Common.{◌≡◌, ◌++◌, drop, map}
use Rattle.serde_json.specs.View.{view}
use Rattle.ar_warning.specs.Private.Sites.{place_at}
use Rattle.ar_warning.specs.Templates.{close, close_warnings}
use Rattle.ar_warning.proofs.templates.push_all_close.Given as goal

-- the warnings so far, with those of the names that are left after them, are all warnings
abbrev pub invariant-loop-name : goal.invariant-loop-name
invariant-loop-name l = l.out.items ++ close_warnings (place_at l.site) (map (λ name. close name.0.now name.1.now) (drop l.name-index l.names)) (view l.object)
    ≡ l.initial.out.items ++ close_warnings (place_at l.site) (map (λ name. close name.0.now name.1.now) l.names) (view l.object)
