-- `earlier::repeats::is_bridge_repeated` asks the index of SPsourceIDs, then that of addresses, and compares all bridges where one has
-- the key of the address. Assumes nothing.
use Prim.Native.Nat.{ℕ}
use mathlib.Core.Path.{ap, ◌∙◌}
use Rattle.key_index.specs.Index.{holds}
use Rattle.key_index.specs.Places.{last_place}
use Rattle.readers.specs.Readers.{bridge_values}
use Rattle.earlier.proofs.laws.KeyLaws.{source-repeated, nothing-repeated}
use Rattle.earlier.proofs.repeats.is_bridge_repeated.Goals as goal

pub last_place-requires : goal.last_place-requires
last_place-requires c =
    let (_, bridge-indexes) = c.requires in
    bridge-indexes.by_source.indexed

pub returns-then-last_place-ne0 : goal.returns-then-last_place-ne0
returns-then-last_place-ne0 c =
    let (_, bridge-indexes) = c.requires in
    source-repeated bridge-indexes (bridge_values c.args.b) c.last_place.result c.last_place.ensures
    c.if-last_place-ne0.true

pub last_place-requires-2 : goal.last_place-requires-2
last_place-requires-2 c =
    let (_, bridge-indexes) = c.requires in
    bridge-indexes.by_address.indexed

pub returns-then-last_place-eq0 : goal.returns-then-last_place-eq0
returns-then-last_place-eq0 c =
    let (_, bridge-indexes) = c.requires in
    nothing-repeated bridge-indexes (bridge_values c.args.b) c.last_place.result c.last_place-2.result
    c.last_place.ensures c.if-last_place-ne0.false
    (c.last_place-2.ensures
    ∙ ap (λ (k : ℕ). last_place (holds c.args.address_index.now k) c.args.bridges)
    c.address_key.ensures)
    c.if-last_place-eq0.true
