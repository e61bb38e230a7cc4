-- Where warnings are.
use Rattle.serde_json.specs.View.{view}
use Rattle.ar_diagnostic.specs.declared.place.Place.{Place}
use Rattle.ar_diagnostic.specs.declared.place.Place.TheVariants as places
use Rattle.ar_diagnostic.specs.declared.place.SpecPart.TheVariants as spec_part
use Rattle.ar_warning.specs.Templates.{metric_place}
use Rattle.ar_warning.specs.declared.templates.Site.{Site}
use Rattle.ar_warning.specs.declared.templates.Site.TheVariants as sites

abbrev pub place_at : Site → Place
place_at sites.Spec = places.Spec spec_part.Spec
place_at (sites.Metric number metric) = metric_place number (view metric.now)
