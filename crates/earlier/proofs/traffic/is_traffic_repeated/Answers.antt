-- `earlier::traffic::is_traffic_repeated` asks the index, and compares all records where one has the key. Assumes nothing.
use Prim.Native.Nat.{ℕ}
use mathlib.Core.Path.{ap, ◌∙◌}
use Rattle.key_index.specs.Index.{holds}
use Rattle.key_index.specs.Places.{last_place}
use Rattle.readers.specs.Readers.{traffic_values}
use Rattle.earlier.proofs.laws.KeyLaws.{no_traffic-repeated}
use Rattle.earlier.proofs.traffic.is_traffic_repeated.Goals as goal

pub last_place-requires : goal.last_place-requires
last_place-requires c =
    let (_, _, _, _, traffic-index) = c.requires in
    traffic-index.indexed

pub returns-then-last_place-eq0 : goal.returns-then-last_place-eq0
returns-then-last_place-eq0 c =
    let (_, _, _, _, traffic-index) = c.requires in
    no_traffic-repeated traffic-index (traffic_values c.args.t) c.last_place.result
    (c.last_place.ensures
    ∙ ap (λ (k : ℕ). last_place (holds c.args.traffic_index.now k) c.args.count)
    c.traffic_key.ensures)
    c.if-last_place-eq0.true
