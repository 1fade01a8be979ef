-- `runs::kinds::read_kind` reads the records of the kind. Assumes nothing.
use native.Mathlib.Omega.{arith}
use Rattle.runs.proofs.laws.BeforeLaws.{kind_read, half_links_read, no_key_yet}
use Rattle.runs.proofs.kinds.read_kind.Goals as goal

pub read_bridges-requires : goal.read_bridges-requires
read_bridges-requires c =
    let (whole, _, _, before) = c.requires in
    (whole, before.reached, before.no_bridges (omega arith))

pub returns-then-kind-eq-BRIDGE : goal.returns-then-kind-eq-BRIDGE
returns-then-kind-eq-BRIDGE c =
    let (_, kind-least, _, before) = c.requires in
    kind_read before kind-least (omega arith) 1 c.if-kind-eq-BRIDGE.true c.read_bridges.ensures (λ z. absurd (omega arith))

pub read_half_links-requires : goal.read_half_links-requires
read_half_links-requires c =
    let (whole, _, _, before) = c.requires in
    (whole, before.reached, before.no_half_links (omega arith), no_key_yet before (omega arith))

pub returns-then-kind-eq-HALF_LINK : goal.returns-then-kind-eq-HALF_LINK
returns-then-kind-eq-HALF_LINK c =
    let (_, kind-least, _, before) = c.requires in
    let run = c.read_half_links.ensures.run in
    let numbers-kept = c.read_half_links.ensures.numbers_kept in
    half_links_read before kind-least (omega arith) 2 c.if-kind-eq-HALF_LINK.true run numbers-kept

pub returns-then-kind-eq-VID : goal.returns-then-kind-eq-VID
returns-then-kind-eq-VID c =
    let (_, kind-least, _, before) = c.requires in
    kind_read before kind-least (omega arith) 3 c.if-kind-eq-VID.true c.read_vids.ensures (λ z. absurd (omega arith))

pub read_members-requires : goal.read_members-requires
read_members-requires c =
    let (whole, _, _, before) = c.requires in
    (whole, before.reached, before.no_members (omega arith))

pub returns : goal.returns
returns c =
    let (_, kind-least, _, before) = c.requires in
    kind_read before kind-least (omega arith) 4 (omega arith) c.read_members.ensures (λ z. absurd (omega arith))
