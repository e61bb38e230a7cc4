use Rattle.std.proofs.Common.{refl}
use Rattle.ar_manifest.specs.declared.error.ManifestError.TheVariants.{NameMissing, NoMetrics, TooManyMetrics, WrongKind, WrongVersion}
use Rattle.ar_manifest.proofs.Memory.{exactly, kind_early, many_early, name_early, none_early, version_early}
use Rattle.ar_manifest.proofs.template.Template.read.Goals as goal

pub returns : goal.returns
returns c = record {
  exact = c.template.ensures.exact;
  version = exactly WrongVersion c.template.result _ refl c.template.ensures.exact (λ is. c.template.ensures.head WrongVersion (version_early _ is));
  kind = exactly WrongKind c.template.result _ refl c.template.ensures.exact (λ is. c.template.ensures.head WrongKind (kind_early _ is));
  name = exactly NameMissing c.template.result _ refl c.template.ensures.exact (λ is. c.template.ensures.head NameMissing (name_early _ is));
  no_metrics = λ none. exactly NoMetrics c.template.result _ refl c.template.ensures.exact (λ is. c.template.ensures.counted none NoMetrics (none_early _ is));
  too_many_metrics = λ none. exactly TooManyMetrics c.template.result _ refl c.template.ensures.exact (λ is. c.template.ensures.counted none TooManyMetrics (many_early _ is));
}
