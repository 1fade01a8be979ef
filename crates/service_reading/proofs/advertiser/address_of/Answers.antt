-- `service_reading::advertiser::address_of` takes the lowest 48 bits of the identifier. Assumes nothing.
use Rattle.rule.specs.Records.{address}
use mathlib.Core.Path.{ap}
use Rattle.service_reading.proofs.advertiser.address_of.Goals as goal

pub bridge-requires : goal.bridge-requires
bridge-requires c =
    let (checked, d-bound) = c.requires in
    (checked.whole, d-bound)

pub returns : goal.returns
returns c = ap address c.bridge.ensures
