-- What reading a template returns.
use Rattle.std.specs.Prelude.{◌≡◌, ◌↔◌, Result, Err}
use Rattle.serde_json.specs.Data.{Data}
use Rattle.ar_value.specs.Answer.{Gives}
use Rattle.ar_manifest.specs.Refusals.{is_memory}
use Rattle.ar_manifest.specs.Template.{HasNoArguments, template_of}
use Rattle.ar_manifest.specs.declared.error.ManifestError.{ManifestError}
use Rattle.ar_manifest.specs.declared.error.ManifestError.TheVariants.{NameMissing, NoMetrics, TooManyMetrics, WrongKind, WrongVersion}
use Rattle.ar_manifest.specs.declared.template.Template.{Template}

-- what reading a JSON document as a template returns
pub record ReadsTo (document : Data) (result : Result Template ManifestError) : Type 0 where
  -- this template, or this refusal
  pub exact : Gives is_memory (λ template. template) result (template_of document)
  -- out of memory is never returned instead of these
  pub version : (result ≡ Err WrongVersion) ↔ (template_of document ≡ Err WrongVersion)
  pub kind : (result ≡ Err WrongKind) ↔ (template_of document ≡ Err WrongKind)
  pub name : (result ≡ Err NameMissing) ↔ (template_of document ≡ Err NameMissing)
  -- nor, where there are no arguments, of these
  pub no_metrics : HasNoArguments document → (result ≡ Err NoMetrics) ↔ (template_of document ≡ Err NoMetrics)
  pub too_many_metrics : HasNoArguments document
      → (result ≡ Err TooManyMetrics) ↔ (template_of document ≡ Err TooManyMetrics)
