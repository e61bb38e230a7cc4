use Rattle.ar_manifest.proofs.Spaces.{trim_end_cuts}
use Rattle.ar_manifest.proofs.binding.without_trailing_spaces.Goals as goal

pub returns : goal.returns
returns c = trim_end_cuts c.args.text.now c.trim_end_matches.result.now c.trim_end_matches.ensures.matches
